-- A counter block belongs to one nonce and one counter.
use Rattle.std.proofs.Common.{◌≡◌, ℕ, ◌^◌, ◌<◌, List, drop, length, slice_index, sym, ap, ◌∙◌, arith}
use Rattle.std.proofs.lemmas.Grind.{same_number_lists}
use Rattle.std.proofs.lemmas.Nat.{from_be_bytes-to_be_bytes_4}
use Rattle.std.specs.Int.{w32, from_be_bytes}
use Rattle.ciphers.specs.AesGcm.Gcm.{counter_block}
use Rattle.ciphers.proofs.AesGcmLemmas.WordBits.{below_16}

below_12 : (P : ℕ → Type 0) → P 0 → P 1 → P 2 → P 3 → P 4 → P 5 → P 6 → P 7 → P 8 → P 9 → P 10 → P 11 → (l : ℕ) → l < 12 → P l
below_12 P p0 p1 p2 p3 p4 p5 p6 p7 p8 p9 p10 p11 l h = below_16 (λ (l : ℕ). l < 12 → P l) (λ h. p0) (λ h. p1) (λ h. p2) (λ h. p3) (λ h. p4) (λ h. p5) (λ h. p6) (λ h. p7) (λ h. p8) (λ h. p9) (λ h. p10) (λ h. p11) (λ h. absurd (omega (arith, h))) (λ h. absurd (omega (arith, h))) (λ h. absurd (omega (arith, h))) (λ h. absurd (omega (arith, h))) l (omega (arith, h)) h

pub nonces_same : (m n : List ℕ) (i j : ℕ) → length m ≡ 12 → length n ≡ 12 → counter_block m i ≡ counter_block n j → m ≡ n
nonces_same m n i j p q e =
    let byte : (k : ℕ) → slice_index (counter_block m i) k ≡ slice_index (counter_block n j) k = λ k. ap (λ (l : List ℕ). slice_index l k) e in
    same_number_lists m n (p ∙ sym q)
    (λ k h. below_12 (λ (k : ℕ). slice_index m k ≡ slice_index n k) (byte 0) (byte 1) (byte 2) (byte 3) (byte 4) (byte 5) (byte 6) (byte 7) (byte 8) (byte 9) (byte 10) (byte 11) k (omega (arith, h, p)))

pub counters_same : (m n : List ℕ) (i j : ℕ) → i < 2 ^ 32 → j < 2 ^ 32 → counter_block m i ≡ counter_block n j → i ≡ j
counters_same m n i j p q e =
    sym (from_be_bytes-to_be_bytes_4 i p) ∙ ap (λ (l : List ℕ). from_be_bytes w32 (drop 12 l)) e ∙ from_be_bytes-to_be_bytes_4 j q
