-- The exclusive or of 32 bytes, and prefixes of them.
use Rattle.std.proofs.Common.{◌≡◌, ℕ, ◌+◌, ◌<◌, List, [], ◌∷◌, ◌++◌, length, take, get_or, set, bit_xor, refl, sym, ap, ◌∙◌, arith}
use Rattle.std.proofs.Math.Seq.{take-append_seam}
use Rattle.std.proofs.lemmas.List.{take_more_set, take_more, take_all, length-take-le}
use Rattle.std.specs.Simd.Lanes.{zip2}

-- one more byte of both lists
zip_more : (xs ys : List ℕ) (x y : ℕ) → length xs ≡ length ys → zip2 bit_xor (xs ++ x ∷ []) (ys ++ y ∷ []) ≡ zip2 bit_xor xs ys ++ bit_xor x y ∷ []
zip_more [] [] x y same = refl
zip_more [] (b ∷ ys) x y same = absurd (omega (arith, same))
zip_more (a ∷ xs) [] x y same = absurd (omega (arith, same))
zip_more (a ∷ xs) (b ∷ ys) x y same = ap (λ (l : List ℕ). bit_xor a b ∷ l) (zip_more xs ys x y (omega (arith, same)))

pub one_more : (i : ℕ) (one other bytes : List ℕ) → length one ≡ 32 → length other ≡ 32 → length bytes ≡ 32 → i < 32 → take i bytes ≡ zip2 bit_xor (take i one) (take i other)
    → take (i + 1) (set bytes i (bit_xor (get_or one i 0) (get_or other i 0))) ≡ zip2 bit_xor (take (i + 1) one) (take (i + 1) other)
one_more i one other bytes n m k below done =
    let front = length-take-le i one (omega arith) in
    let front' = length-take-le i other (omega arith) in
    take_more_set bytes i (bit_xor (get_or one i 0) (get_or other i 0)) (omega arith)
    ∙ ap (λ (l : List ℕ). l ++ bit_xor (get_or one i 0) (get_or other i 0) ∷ []) done
    ∙ sym (zip_more (take i one) (take i other) (get_or one i 0) (get_or other i 0) (front ∙ sym front'))
    ∙ sym (ap (λ (l : List ℕ). zip2 bit_xor l (take (i + 1) other)) (take_more one i 0 (omega arith)) ∙ ap (λ (l : List ℕ). zip2 bit_xor (take i one ++ get_or one i 0 ∷ []) l) (take_more other i 0 (omega arith)))

pub all_of : (one other bytes : List ℕ) → length one ≡ 32 → length other ≡ 32 → length bytes ≡ 32 → take 32 bytes ≡ zip2 bit_xor (take 32 one) (take 32 other) → bytes ≡ zip2 bit_xor one other
all_of one other bytes n m k done =
    sym (take_all 32 bytes (omega (arith, k))) ∙ done
    ∙ ap (λ (l : List ℕ). zip2 bit_xor l (take 32 other)) (take_all 32 one (omega (arith, n)))
    ∙ ap (λ (l : List ℕ). zip2 bit_xor one l) (take_all 32 other (omega (arith, m)))

-- what was put in front of 32 bytes is the front
pub front_of : (hash written rest : List ℕ) → written ≡ hash → length hash ≡ 32 → take 32 (written ++ rest) ≡ hash
front_of hash written rest same long =
    ap (λ (l : List ℕ). take 32 (l ++ rest)) same ∙ ap (λ (n : ℕ). take n (hash ++ rest)) (sym long) ∙ take-append_seam hash rest
