-- 32 bytes that are not all zero are a shared result.
use Rattle.std.proofs.Common.{◌≡◌, ℕ, suc, ◌<◌, List, [], ◌∷◌, length, refl, ap, sym, ◌∙◌, arith, Bool, true, false, not, ◌&&◌, cond, eqb-true, Option, Some, None, subst, replicate}
use Rattle.std.specs.List.{list_all}
use Rattle.ssh_model.specs.Protocol.Wire.DataTypes.{AreBytes}
use Rattle.ssh_model.specs.Protocol.Sessions.Parties.{is_byte, is_shared, is_zero, only_shared}

below : (x : ℕ) → x < 256 → is_byte x ≡ true
below x l = grind (arith, l)

all_bytes : (l : List ℕ) → AreBytes l → list_all is_byte l ≡ true
all_bytes [] a = refl
all_bytes (x ∷ l) a = rw (below x a.0, all_bytes l a.1) refl

all_zero : (l : List ℕ) → list_all is_zero l ≡ true → l ≡ replicate (length l) 0
all_zero [] e = refl
all_zero (x ∷ l) e = go (is_zero x) refl (all_zero l) e
  where
    go : (t : Bool) → is_zero x ≡ t → (list_all is_zero l ≡ true → l ≡ replicate (length l) 0) → (t && list_all is_zero l) ≡ true → x ∷ l ≡ replicate (suc (length l)) 0
    go true f r g = λ i. eqb-true x 0 f i ∷ r g i
    go false f r g = absurd (cc g)

pub shared_so : (answer : Option (List ℕ)) (bytes : List ℕ) → answer ≡ Some bytes → length bytes ≡ 32 → AreBytes bytes → (bytes ≡ replicate 32 0 → ⊥) → Some bytes ≡ only_shared answer
shared_so answer bytes e n a z = subst (λ (o : Option (List ℕ)). Some bytes ≡ only_shared o) (sym e) (sym (ap (λ (t : Bool). cond t (Some bytes) None) (is_one)))
  where
    not_zero : (t : Bool) → list_all is_zero bytes ≡ t → not t ≡ true
    not_zero true f = absurd (z (all_zero bytes f ∙ ap (λ (k : ℕ). replicate k 0) n))
    not_zero false f = refl

    is_one : is_shared bytes ≡ true
    is_one = rw (n, all_bytes bytes a, not_zero (list_all is_zero bytes) refl) refl
