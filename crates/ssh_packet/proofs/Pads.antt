-- Blocks of 64 bytes against a pad.
use Rattle.std.proofs.Common.{◌≡◌, ℕ, ◌+◌, ◌-◌, ◌<◌, List, [], ◌∷◌, ◌++◌, length, take, drop, map, get_or, set, replicate, bit_xor, sym, ap, ◌∙◌, arith}
use Rattle.std.proofs.lemmas.List.{take_more_set, take_more, drop-replicate, take_all, map-append}

-- one more byte is done
pub one_more : (pad i : ℕ) (block bytes : List ℕ) → i < length block → i < length bytes → take i bytes ≡ map (λ b. bit_xor b pad) (take i block)
    → take (i + 1) (set bytes i (bit_xor (get_or block i 0) pad)) ≡ map (λ b. bit_xor b pad) (take (i + 1) block)
one_more pad i block bytes h k done =
    let f : ℕ → ℕ = λ b. bit_xor b pad in
    take_more_set bytes i (f (get_or block i 0)) k
    ∙ ap (λ (x : List ℕ). x ++ f (get_or block i 0) ∷ []) done
    ∙ sym (ap (map f) (take_more block i 0 h) ∙ map-append f (take i block) (get_or block i 0 ∷ []))

-- all bytes are done
pub all_of : (pad : ℕ) (block bytes : List ℕ) → length block ≡ 64 → length bytes ≡ 64 → take 64 bytes ≡ map (λ b. bit_xor b pad) (take 64 block) → bytes ≡ map (λ b. bit_xor b pad) block
all_of pad block bytes h k done =
    let f : ℕ → ℕ = λ b. bit_xor b pad in
    sym (ap (λ (n : ℕ). take n bytes) (sym k) ∙ take_all _ bytes (omega arith)) ∙ done ∙ ap (map f) (ap (λ (n : ℕ). take n block) (sym h) ∙ take_all _ block (omega arith))

pub zeros_left : (n : ℕ) (bytes written : List ℕ) → written ≡ bytes → written ++ drop n (replicate 64 0) ≡ bytes ++ replicate (64 - n) 0
zeros_left n bytes written e = ap (λ (x : List ℕ). x ++ drop n (replicate 64 0)) e ∙ ap (λ (x : List ℕ). bytes ++ x) (drop-replicate n 64 0)
