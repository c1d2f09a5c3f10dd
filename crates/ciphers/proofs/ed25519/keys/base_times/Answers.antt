use Rattle.std.proofs.Common.{ap, ◌∙◌, arith}
use Rattle.ciphers.specs.declared.ed25519.scalar.Scalar.{Scalar}
use Rattle.ciphers.specs.Ed25519.Encoding.{encoded}
use Rattle.ciphers.proofs.Ed25519Lemmas.Ladder.Bits.{AreWords}
use Rattle.ciphers.proofs.Ed25519Lemmas.Ladder.Comb.{comb_bytes}
use Rattle.ciphers.proofs.Ed25519Lemmas.Ladder.Multiplied.{AreBytes}
use Rattle.ciphers.proofs.ed25519.keys.base_times.Goals as goal

pub returns : goal.returns
returns c =
    let s : Scalar = c.scalar_of.result in
    let words : AreWords s = record { a = omega arith; b = omega arith; c = omega arith; d = omega arith } in
    let bytes : AreBytes c.args.number.now = record { size = c.told-number; fits = c.fits-number } in
    c.encoded.ensures ∙ ap encoded c.base_multiple.ensures.value ∙ comb_bytes s c.args.number.now words bytes c.scalar_of.ensures
