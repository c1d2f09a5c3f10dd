-- Two texts of one length are the same exactly where they differ in no bit.
use Rattle.std.specs.Prelude.{◌&&◌, nat_eq, Bool, true, false}
use Rattle.std.proofs.Common.{◌≡◌, ℕ, zero, suc, ◌+◌, ◌≤◌, ◌<◌, List, [], ◌∷◌, length, drop, get_or, bit_or, bit_xor, refl, sym, ap, ◌∙◌, arith}
use Rattle.std.proofs.lemmas.Bool.{eqb-true, eqb-false, eq-eqb, ne_eqb}
use Rattle.std.proofs.lemmas.List.{drop_more}
use Rattle.std.proofs.lemmas.Nat.{le_or_l}
use Rattle.std.specs.Int.Bits.{or_zero_l, xor_assoc, xor_self, xor_zero_l, xor_zero_r}
use Rattle.std.specs.Cmp.Lexicographic.{pointwise}
use Rattle.ssh_packet.specs.Tags.{differing}

-- no bit differs of equal numbers alone
xor_is : (x y : ℕ) (same : Bool) → nat_eq x y ≡ same → nat_eq (bit_xor x y) 0 ≡ same
xor_is x y true e = let s = eqb-true x y e in eq-eqb (bit_xor x y) 0 (ap (λ (n : ℕ). bit_xor n y) s ∙ xor_self y)
xor_is x y false e = ne_eqb (bit_xor x y) 0 (λ z. eqb-false x y e (sym (xor_zero_r x) ∙ ap (bit_xor x) (sym (xor_self y)) ∙ sym (xor_assoc x y y) ∙ ap (λ (n : ℕ). bit_xor n y) z ∙ xor_zero_l y))

-- nor of one more place
or_is : (d x y : ℕ) → nat_eq (bit_or d (bit_xor x y)) 0 ≡ (nat_eq d 0 && nat_eq x y)
or_is zero x y = ap (λ (n : ℕ). nat_eq n 0) (or_zero_l (bit_xor x y)) ∙ xor_is x y (nat_eq x y) refl
or_is (suc d) x y =
    let more = le_or_l (suc d) (bit_xor x y) in
    let some : nat_eq (suc d) 0 ≡ false = ne_eqb (suc d) 0 (λ e. absurd (omega (arith, e))) in
    ne_eqb (bit_or (suc d) (bit_xor x y)) 0 (λ z. absurd (omega (arith, z, more))) ∙ sym (ap (λ (b : Bool). b && nat_eq x y) some)

assoc : (a b c : Bool) → ((a && b) && c) ≡ (a && (b && c))
assoc true b c = refl
assoc false b c = refl

same : (d : ℕ) (xs ys : List ℕ) → length xs ≡ length ys → nat_eq (differing d xs ys) 0 ≡ (nat_eq d 0 && pointwise nat_eq xs ys)
same d [] [] e = unit_right (nat_eq d 0)
  where
    unit_right : (b : Bool) → b ≡ (b && true)
    unit_right true = refl
    unit_right false = refl
same d [] (y ∷ ys) e = absurd (omega (arith, e))
same d (x ∷ xs) [] e = absurd (omega (arith, e))
same d (x ∷ xs) (y ∷ ys) e =
    same (bit_or d (bit_xor x y)) xs ys (omega (arith, e))
    ∙ ap (λ (b : Bool). b && pointwise nat_eq xs ys) (or_is d x y)
    ∙ assoc (nat_eq d 0) (nat_eq x y) (pointwise nat_eq xs ys)

-- one byte more is looked at
pub one_byte : (xs ys : List ℕ) (i d : ℕ) → i < length xs → length xs ≡ length ys →
    differing (bit_or d (bit_xor (get_or xs i 0) (get_or ys i 0))) (drop (i + 1) xs) (drop (i + 1) ys) ≡ differing d (drop i xs) (drop i ys)
one_byte xs ys i d h e = rw (drop_more xs i 0 h, drop_more ys i 0 (omega (arith, e))) refl

-- and all were
pub last_byte : (xs ys : List ℕ) (i d : ℕ) → length xs ≡ length ys → length xs ≤ i → differing d (drop i xs) (drop i ys) ≡ differing 0 xs ys →
    nat_eq d 0 ≡ pointwise nat_eq xs ys
last_byte xs ys i d e h s = ap (λ (n : ℕ). nat_eq n 0) (sym (gone xs ys i h e) ∙ s) ∙ same 0 xs ys e
  where
    gone : (xs ys : List ℕ) (i : ℕ) → length xs ≤ i → length xs ≡ length ys → differing d (drop i xs) (drop i ys) ≡ d
    gone [] [] zero h e = refl
    gone [] [] (suc i) h e = refl
    gone [] (y ∷ ys) i h e = absurd (omega (arith, e))
    gone (x ∷ xs) ys zero h e = absurd (omega arith)
    gone (x ∷ xs) [] (suc i) h e = absurd (omega (arith, e))
    gone (x ∷ xs) (y ∷ ys) (suc i) h e = gone xs ys i (omega arith) (omega (arith, e))
