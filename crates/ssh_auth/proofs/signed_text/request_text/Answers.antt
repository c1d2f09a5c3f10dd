use Rattle.std.proofs.Common.{List, ℕ, ◌++◌, ap, ◌∙◌}
use Rattle.ssh_auth.specs.Texts.{text_of}
use Rattle.ssh_auth.proofs.signed_text.request_text.Goals as goal

pub returns : goal.returns
returns c =
    c.in_ok-put_signed_text.ensures.written
    ∙ ap (λ (l : List ℕ). l ++ text_of c.args.text.now) c.new-bytes.ensures.items
