use Rattle.std.proofs.Common.{ℕ, ◌+◌, ◌*◌, ap, ◌∙◌}
use Rattle.ciphers.specs.Ed25519.Scalar.{number, order}
use Rattle.ciphers.proofs.Ed25519Lemmas.Sums.{folded_sum}
use Rattle.ciphers.proofs.ed25519.scalar.with_byte.Goals as goal

pub returns-clause-value : goal.returns-clause-value
returns-clause-value c =
    c.reduced_once.ensures.value
    ∙ folded_sum (number c.folded.result) c.parts_of.result.high (256 * number c.args.x + c.args.byte * number c.args.s)
    (c.folded.ensures.value ∙ ap (λ (n : ℕ). n + order) c.parts_of.ensures.value)
