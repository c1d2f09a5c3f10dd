use Rattle.std.proofs.Common.{◌≡◌, ℕ, ◌<◌, bit_and, bit_xor, refl, ap₂, ◌∙◌, arith}
use Rattle.std.proofs.lemmas.Grind.{and_numeral}
use Rattle.std.specs.Int.Bits.{and_zero_r}
use Rattle.ciphers.proofs.AesGcmLemmas.StreamLanes.{below_16}
use Rattle.ciphers.proofs.aes_gcm.table.sums.Goals as goal

-- a byte whole, and none of it
whole : (n : ℕ) → n < 256 → bit_and n 255 ≡ n
whole n h = and_numeral n 254 refl ∙ omega (arith, h)

four : (a b c d x y z w : ℕ) → a ≡ x → b ≡ y → c ≡ z → d ≡ w → bit_xor (bit_xor a b) (bit_xor c d) ≡ bit_xor (bit_xor x y) (bit_xor z w)
four a b c d x y z w p q r s = ap₂ bit_xor (ap₂ bit_xor p q) (ap₂ bit_xor r s)

pub returns-clause-lanes : goal.returns-clause-lanes
returns-clause-lanes c =
    let a0 = and_zero_r c.args.a in
    let b0 = and_zero_r c.args.b in
    let c0 = and_zero_r c.args.c in
    let d0 = and_zero_r c.args.d in
    let a1 = whole c.args.a (omega arith) in
    let b1 = whole c.args.b (omega arith) in
    let c1 = whole c.args.c (omega arith) in
    let d1 = whole c.args.d (omega arith) in
    below_16 _
    (four _ _ _ _ _ _ _ _ a0 b0 c0 d0)
    (four _ _ _ _ _ _ _ _ a1 b0 c0 d0)
    (four _ _ _ _ _ _ _ _ a0 b1 c0 d0)
    (four _ _ _ _ _ _ _ _ a1 b1 c0 d0)
    (four _ _ _ _ _ _ _ _ a0 b0 c1 d0)
    (four _ _ _ _ _ _ _ _ a1 b0 c1 d0)
    (four _ _ _ _ _ _ _ _ a0 b1 c1 d0)
    (four _ _ _ _ _ _ _ _ a1 b1 c1 d0)
    (four _ _ _ _ _ _ _ _ a0 b0 c0 d1)
    (four _ _ _ _ _ _ _ _ a1 b0 c0 d1)
    (four _ _ _ _ _ _ _ _ a0 b1 c0 d1)
    (four _ _ _ _ _ _ _ _ a1 b1 c0 d1)
    (four _ _ _ _ _ _ _ _ a0 b0 c1 d1)
    (four _ _ _ _ _ _ _ _ a1 b0 c1 d1)
    (four _ _ _ _ _ _ _ _ a0 b1 c1 d1)
    (four _ _ _ _ _ _ _ _ a1 b1 c1 d1)
