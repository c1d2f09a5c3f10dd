use Rattle.std.proofs.Common.{List, Option, Some, ap, sym, ℕ, ◌∙◌}
use Rattle.ssh_held.specs.Signing.{text_in}
use Rattle.ssh_held.proofs.login_text.write_text_to_sign.Goals as goal

pub returns-clause-text : goal.returns-clause-text
returns-clause-text g c =
    ap (λ (id : Option (List ℕ)). text_in id c.args.user.now c.args.algorithm.now c.args.key.now) (sym c.in-Some.ensures)
    ∙ ap (λ (t : List ℕ). Some t) (sym c.put_text.ensures.text)
