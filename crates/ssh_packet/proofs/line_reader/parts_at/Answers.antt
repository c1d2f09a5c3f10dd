use Rattle.std.proofs.Common.{ℕ, ◌≡◌, ◌+◌, ◌-◌, take, drop, ap, sym, ◌∙◌, arith}
use Rattle.std.proofs.lemmas.List.{drop-take, take_rest}
use Rattle.ssh_packet.proofs.line_reader.parts_at.Goals as goal

pub returns : goal.returns
returns c =
    let sum : 4 + (c.args.minus - 4) ≡ c.args.minus = omega arith in
    (sym (drop-take 4 (c.args.minus - 4) c.args.text.now) ∙ ap (λ (k : ℕ). drop 4 (take k c.args.text.now)) sum, take_rest c.args.text.now (c.args.minus + 1))
