use Rattle.std.proofs.Common.{ap, ◌∙◌, arith}
use Rattle.ciphers.specs.declared.ed25519.scalar.Scalar.{Scalar}
use Rattle.ciphers.specs.Ed25519.Encoding.{encoded}
use Rattle.ciphers.specs.Ed25519.Point.{Extended, numbers}
use Rattle.ciphers.specs.Ed25519.Windows.{joint_multiple}
use Rattle.ciphers.proofs.Ed25519Lemmas.Group.Points.{IsCurve}
use Rattle.ciphers.proofs.Ed25519Lemmas.Ladder.Bits.{AreWords}
use Rattle.ciphers.proofs.Ed25519Lemmas.Ladder.Joint.{joint_bytes, numbers_curve}
use Rattle.ciphers.proofs.Ed25519Lemmas.Ladder.Multiplied.{AreBytes}
use Rattle.ciphers.proofs.ed25519.verification.commitment.Goals as goal

pub returns : goal.returns
returns c =
    let s : Scalar = c.scalar_of.result in
    let words : AreWords s = record { a = omega arith; b = omega arith; c = omega arith; d = omega arith } in
    let response : AreBytes c.args.response.now = record { size = c.told-response; fits = c.fits-response } in
    let challenge : AreBytes c.args.challenge.now = record { size = c.told-challenge; fits = c.fits-challenge } in
    let key : IsCurve (numbers c.args.key) = numbers_curve c.args.key c.requires.curve in
    c.encoded.ensures
    ∙ ap encoded
    (c.joint_multiple.ensures.value ∙ ap (λ (p : Extended). joint_multiple s p c.args.challenge.now 16) c.negated.ensures.value)
    ∙ joint_bytes s c.args.response.now c.args.challenge.now (numbers c.args.key) words response challenge c.scalar_of.ensures key
    c.requires.curve.z
