-- A product is additive in its first factor.
use Rattle.std.proofs.Common.{◌≡◌, ℕ, zero, suc, ◌+◌, ◌*◌, ◌%◌, ◌^◌, ◌<◌, bit_and, bit_xor, refl, sym, ap, ap₂, ◌∙◌, arith}
use Rattle.std.proofs.lemmas.Nat.{xor_comm, xor_shr, xor_mod, xor_block}
use Rattle.std.specs.Int.Bits.{xor_assoc, xor_self, xor_zero_r}
use lib.Bits.{xor_zero_l, and_zero_r}
use Rattle.ciphers.specs.declared.aes_gcm.ghash.Begun.{Begun}
use Rattle.ciphers.specs.declared.aes_gcm.ghash.Element.{Element}
use Rattle.ciphers.specs.AesGcm.Ghash.{product, step, steps}
use Rattle.ciphers.specs.AesGcm.Planes.{down, up}
use Rattle.ciphers.specs.AesGcm.SubBytes.{ones}
use Rattle.ciphers.specs.AesGcm.Tables.{IsWord, plus}

-- the order of four summands is free
pub xor_swap : (a b c d : ℕ) → bit_xor (bit_xor a b) (bit_xor c d) ≡ bit_xor (bit_xor a c) (bit_xor b d)
xor_swap a b c d =
    let inner : bit_xor b (bit_xor c d) ≡ bit_xor c (bit_xor b d) = sym (xor_assoc b c d) ∙ ap (λ (n : ℕ). bit_xor n d) (xor_comm b c) ∙ xor_assoc c b d in
    xor_assoc a b (bit_xor c d) ∙ ap (bit_xor a) inner ∙ sym (xor_assoc a c (bit_xor b d))

-- a word is added twice, once or not at all
pub taken_xor : (h x y : ℕ) → x < 2 → y < 2 → bit_and h (bit_xor x y * ones) ≡ bit_xor (bit_and h (x * ones)) (bit_and h (y * ones))
taken_xor h zero zero p q = ap (bit_and h) refl ∙ and_zero_r h ∙ sym (ap₂ bit_xor (and_zero_r h) (and_zero_r h))
taken_xor h zero (suc zero) p q = sym (ap (λ (n : ℕ). bit_xor n (bit_and h ones)) (and_zero_r h) ∙ xor_zero_l (bit_and h ones))
taken_xor h (suc zero) zero p q = sym (ap (bit_xor (bit_and h ones)) (and_zero_r h) ∙ xor_zero_r (bit_and h ones))
taken_xor h (suc zero) (suc zero) p q = and_zero_r h ∙ sym (xor_self (bit_and h ones))
taken_xor h (suc (suc x)) y p q = omega arith
taken_xor h x (suc (suc y)) p q = omega arith

up_xor : (x y : ℕ) → up (bit_xor x y) 1 ≡ bit_xor (up x 1) (up y 1)
up_xor x y =
    let ex : x * 2 ^ 1 ≡ x * 2 ^ 1 + 0 = omega arith in
    let ey : y * 2 ^ 1 ≡ y * 2 ^ 1 + 0 = omega arith in
    let low : 0 < 2 ^ 1 = omega arith in
    let whole : bit_xor (x * 2 ^ 1 + 0) (y * 2 ^ 1 + 0) ≡ bit_xor x y * 2 ^ 1 + bit_xor 0 0 = xor_block 1 x y 0 0 low low in
    let rest : bit_xor x y * 2 ^ 1 + bit_xor 0 0 ≡ bit_xor x y * 2 ^ 1 = omega arith in
    let doubled : bit_xor x y * 2 ^ 1 ≡ bit_xor (x * 2 ^ 1) (y * 2 ^ 1) = sym (ap₂ bit_xor ex ey ∙ whole ∙ rest) in
    ap (λ (n : ℕ). n % 2 ^ 64) doubled ∙ xor_mod (x * 2 ^ 1) (y * 2 ^ 1) 64

-- three products in the making, of which the third is the sum of the others
pub record Adds (x y z : Begun) : Type 0 where
  sum_hi : z.sum_hi ≡ bit_xor x.sum_hi y.sum_hi
  sum_lo : z.sum_lo ≡ bit_xor x.sum_lo y.sum_lo
  hi_x : x.hi ≡ z.hi
  hi_y : y.hi ≡ z.hi
  lo_x : x.lo ≡ z.lo
  lo_y : y.lo ≡ z.lo
  bits : z.bits ≡ bit_xor x.bits y.bits
  word_x : x.bits < 2 ^ 64
  word_y : y.bits < 2 ^ 64

-- one half of a step
half : (sx sy sz h bx by bz hx hy : ℕ) → sz ≡ bit_xor sx sy → hx ≡ h → hy ≡ h → bz ≡ bit_xor bx by → bx < 2 ^ 64 → by < 2 ^ 64
    → bit_xor sz (bit_and h (down bz 63 * ones)) ≡ bit_xor (bit_xor sx (bit_and hx (down bx 63 * ones))) (bit_xor sy (bit_and hy (down by 63 * ones)))
half sx sy sz h bx by bz hx hy es ex ey eb wx wy =
    let top : down bz 63 ≡ bit_xor (down bx 63) (down by 63) = ap (λ (n : ℕ). down n 63) eb ∙ xor_shr bx by 63 in
    let parts : bit_and h (down bz 63 * ones) ≡ bit_xor (bit_and h (down bx 63 * ones)) (bit_and h (down by 63 * ones)) =
    ap (λ (n : ℕ). bit_and h (n * ones)) top ∙ taken_xor h (down bx 63) (down by 63) (omega arith) (omega arith) in
    ap₂ bit_xor es parts ∙ xor_swap sx sy _ _
    ∙ ap₂ bit_xor (ap (λ (n : ℕ). bit_xor sx (bit_and n (down bx 63 * ones))) (sym ex)) (ap (λ (n : ℕ). bit_xor sy (bit_and n (down by 63 * ones))) (sym ey))

next_hi : (hx lx h l : ℕ) → hx ≡ h → lx ≡ l → bit_xor (down hx 1) (lx % 2 * 0xe100_0000_0000_0000) ≡ bit_xor (down h 1) (l % 2 * 0xe100_0000_0000_0000)
next_hi hx lx h l e f = ap₂ (λ (m n : ℕ). bit_xor (down m 1) (n % 2 * 0xe100_0000_0000_0000)) e f

pub step_adds : (x y z : Begun) → Adds x y z → Adds (step x) (step y) (step z)
unfolding step
step_adds x y z a = record {
  sum_hi = half x.sum_hi y.sum_hi z.sum_hi z.hi x.bits y.bits z.bits x.hi y.hi a.sum_hi a.hi_x a.hi_y a.bits a.word_x a.word_y;
  sum_lo = half x.sum_lo y.sum_lo z.sum_lo z.lo x.bits y.bits z.bits x.lo y.lo a.sum_lo a.lo_x a.lo_y a.bits a.word_x a.word_y;
  hi_x = next_hi x.hi x.lo z.hi z.lo a.hi_x a.lo_x;
  hi_y = next_hi y.hi y.lo z.hi z.lo a.hi_y a.lo_y;
  lo_x = rw (a.lo_x, a.hi_x) refl;
  lo_y = rw (a.lo_y, a.hi_y) refl;
  bits = ap (λ (n : ℕ). up n 1) a.bits ∙ up_xor x.bits y.bits;
  word_x = omega arith;
  word_y = omega arith;
}

pub steps_adds : (n : ℕ) (x y z : Begun) → Adds x y z → Adds (steps n x) (steps n y) (steps n z)
unfolding steps
steps_adds zero x y z a = a
steps_adds (suc n) x y z a = step_adds (steps n x) (steps n y) (steps n z) (steps_adds n x y z a)

pub product_adds : (x y k : Element) → IsWord x → IsWord y → product (plus x y) k ≡ plus (product x k) (product y k)
unfolding product
product_adds x y k wx wy =
    let bx : Begun = record { sum_hi = 0; sum_lo = 0; hi = k.hi; lo = k.lo; bits = x.hi } in
    let by : Begun = record { sum_hi = 0; sum_lo = 0; hi = k.hi; lo = k.lo; bits = y.hi } in
    let bz : Begun = record { sum_hi = 0; sum_lo = 0; hi = k.hi; lo = k.lo; bits = bit_xor x.hi y.hi } in
    let first : Adds (steps 64 bx) (steps 64 by) (steps 64 bz) = steps_adds 64 bx by bz (record {
      sum_hi = refl;
      sum_lo = refl;
      hi_x = refl;
      hi_y = refl;
      lo_x = refl;
      lo_y = refl;
      bits = refl;
      word_x = wx.hi;
      word_y = wy.hi;
    }) in
    let fx : Begun = steps 64 bx in
    let fy : Begun = steps 64 by in
    let fz : Begun = steps 64 bz in
    let sx : Begun = record { sum_hi = fx.sum_hi; sum_lo = fx.sum_lo; hi = fx.hi; lo = fx.lo; bits = x.lo } in
    let sy : Begun = record { sum_hi = fy.sum_hi; sum_lo = fy.sum_lo; hi = fy.hi; lo = fy.lo; bits = y.lo } in
    let sz : Begun = record { sum_hi = fz.sum_hi; sum_lo = fz.sum_lo; hi = fz.hi; lo = fz.lo; bits = bit_xor x.lo y.lo } in
    let second : Adds (steps 64 sx) (steps 64 sy) (steps 64 sz) = steps_adds 64 sx sy sz (record {
      sum_hi = first.sum_hi;
      sum_lo = first.sum_lo;
      hi_x = first.hi_x;
      hi_y = first.hi_y;
      lo_x = first.lo_x;
      lo_y = first.lo_y;
      bits = refl;
      word_x = wx.lo;
      word_y = wy.lo;
    }) in
    ap₂ (λ (m n : ℕ). let e : Element = record { hi = m; lo = n } in e) second.sum_hi second.sum_lo
