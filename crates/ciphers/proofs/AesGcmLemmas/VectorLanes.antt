-- Lanes of sums.
use Rattle.std.proofs.Common.{◌≡◌, ℕ, ◌<◌, ◌*◌, ◌/◌, ◌%◌, ◌^◌, List, ◌++◌, length, slice_index, bit_and, bit_or, bit_xor, replicate, refl, sym, ap, ap₂, ◌∙◌, arith}
use Rattle.std.proofs.lemmas.Simd.{get_or-replicate, get_or-zip2, length-zip2}
use Rattle.std.proofs.Math.ListN.{get_or-append}
use lib.Lanes.{zip2}
use Rattle.ciphers.specs.AesGcm.Rows.{moved}
use Rattle.ciphers.specs.AesGcm.VectorPacking.{high, low}

pub xor_lane : (x y : List ℕ) (l : ℕ) → length x ≡ 16 → length y ≡ 16 → l < 16 → slice_index (zip2 bit_xor x y) l ≡ bit_xor (slice_index x l) (slice_index y l)
xor_lane x y l a b h = get_or-zip2 bit_xor x y l 0 0 0 (omega (arith, a)) (omega (arith, b))

pub xor_long : (x y : List ℕ) → length x ≡ 16 → length y ≡ 16 → length (zip2 bit_xor x y) ≡ 16
xor_long x y a b = length-zip2 bit_xor x y (a ∙ sym b) ∙ a

-- a lane of a vector that is shuffled by itself
pub own_lane : (x : List ℕ) → length x ≡ 16 → (k : ℕ) → k < 16 → slice_index (x ++ x) k ≡ slice_index x k
own_lane x e k h = get_or-append x x 0 k (omega (arith, e))

-- a lane with that of the row below it, and the same two rows on
pub pair_lane : (a r : List ℕ) (l : ℕ) → length a ≡ 16 → length r ≡ 16 → ((i : ℕ) → i < 16 → slice_index r i ≡ slice_index a (moved 4 i)) → l < 16
    → slice_index (zip2 bit_xor a r) l ≡ bit_xor (slice_index a l) (slice_index a (moved 4 l))
pair_lane a r l p q e h = xor_lane a r l p q h ∙ ap (bit_xor (slice_index a l)) (e l h)

pub pair_following : (a r : List ℕ) (l : ℕ) → length a ≡ 16 → length r ≡ 16 → ((i : ℕ) → i < 16 → slice_index r i ≡ slice_index a (moved 4 i)) → l < 16
    → slice_index (zip2 bit_xor a r) (moved 8 l) ≡ bit_xor (slice_index a (moved 8 l)) (slice_index a (moved 12 l))
pair_following a r l p q e h =
    let on : moved 4 (moved 8 l) ≡ moved 12 l = omega arith in
    pair_lane a r (moved 8 l) p q e (omega arith) ∙ ap (λ (k : ℕ). bit_xor (slice_index a (moved 8 l)) (slice_index a k)) on

-- ---- lanes of what two functions of numbers make

zip_lane : (f : ℕ → ℕ → ℕ) (x y : List ℕ) (l : ℕ) → length x ≡ 16 → length y ≡ 16 → l < 16 → slice_index (zip2 f x y) l ≡ f (slice_index x l) (slice_index y l)
zip_lane f x y l a b h = get_or-zip2 f x y l 0 0 0 (omega (arith, a)) (omega (arith, b))

zip_long : (f : ℕ → ℕ → ℕ) (x y : List ℕ) → length x ≡ 16 → length y ≡ 16 → length (zip2 f x y) ≡ 16
zip_long f x y a b = length-zip2 f x y (a ∙ sym b) ∙ a

splat_long : (c : ℕ) → length (replicate 16 c) ≡ 16
splat_long c = refl

splat_lane : (f : ℕ → ℕ → ℕ) (x : List ℕ) (c l : ℕ) → length x ≡ 16 → l < 16 → slice_index (zip2 f x (replicate 16 c)) l ≡ f (slice_index x l) c
splat_lane f x c l a h = zip_lane f x (replicate 16 c) l a (splat_long c) h ∙ ap (f (slice_index x l)) (get_or-replicate 16 l c 0 h)

abbrev up8 : ℕ → ℕ → ℕ
up8 a b = a * 2 ^ b % 2 ^ 8

abbrev down8 : ℕ → ℕ → ℕ
down8 a b = a / 2 ^ b

pub low_lane : (x y : List ℕ) (m s l : ℕ) → length x ≡ 16 → length y ≡ 16 → l < 16
    → slice_index (zip2 bit_or (zip2 bit_and x (replicate 16 m)) (zip2 up8 (zip2 bit_and y (replicate 16 m)) (replicate 16 s))) l ≡ low m s (slice_index x l) (slice_index y l)
low_lane x y m s l p q h =
    let a : List ℕ = zip2 bit_and x (replicate 16 m) in
    let b : List ℕ = zip2 bit_and y (replicate 16 m) in
    let lb : length b ≡ 16 = zip_long bit_and y (replicate 16 m) q (splat_long m) in
    zip_lane bit_or a (zip2 up8 b (replicate 16 s)) l (zip_long bit_and x (replicate 16 m) p (splat_long m)) (zip_long up8 b (replicate 16 s) lb (splat_long s)) h
    ∙ ap₂ bit_or (splat_lane bit_and x m l p h) (splat_lane up8 b s l lb h ∙ ap (λ (n : ℕ). up8 n s) (splat_lane bit_and y m l q h))

pub high_lane : (x y : List ℕ) (m s l : ℕ) → length x ≡ 16 → length y ≡ 16 → l < 16
    → slice_index (zip2 bit_or (zip2 down8 (zip2 bit_and x (replicate 16 m)) (replicate 16 s)) (zip2 bit_and y (replicate 16 m))) l ≡ high m s (slice_index x l) (slice_index y l)
high_lane x y m s l p q h =
    let a : List ℕ = zip2 bit_and x (replicate 16 m) in
    let b : List ℕ = zip2 bit_and y (replicate 16 m) in
    let la : length a ≡ 16 = zip_long bit_and x (replicate 16 m) p (splat_long m) in
    zip_lane bit_or (zip2 down8 a (replicate 16 s)) b l (zip_long down8 a (replicate 16 s) la (splat_long s)) (zip_long bit_and y (replicate 16 m) q (splat_long m)) h
    ∙ ap₂ bit_or (splat_lane down8 a s l la h ∙ ap (λ (n : ℕ). down8 n s) (splat_lane bit_and x m l p h)) (splat_lane bit_and y m l q h)

pub low_long : (x y : List ℕ) (m s : ℕ) → length x ≡ 16 → length y ≡ 16
    → length (zip2 bit_or (zip2 bit_and x (replicate 16 m)) (zip2 up8 (zip2 bit_and y (replicate 16 m)) (replicate 16 s))) ≡ 16
low_long x y m s p q =
    let b : List ℕ = zip2 bit_and y (replicate 16 m) in
    zip_long bit_or (zip2 bit_and x (replicate 16 m)) (zip2 up8 b (replicate 16 s)) (zip_long bit_and x (replicate 16 m) p (splat_long m))
    (zip_long up8 b (replicate 16 s) (zip_long bit_and y (replicate 16 m) q (splat_long m)) (splat_long s))

pub high_long : (x y : List ℕ) (m s : ℕ) → length x ≡ 16 → length y ≡ 16
    → length (zip2 bit_or (zip2 down8 (zip2 bit_and x (replicate 16 m)) (replicate 16 s)) (zip2 bit_and y (replicate 16 m))) ≡ 16
high_long x y m s p q =
    let a : List ℕ = zip2 bit_and x (replicate 16 m) in
    zip_long bit_or (zip2 down8 a (replicate 16 s)) (zip2 bit_and y (replicate 16 m))
    (zip_long down8 a (replicate 16 s) (zip_long bit_and x (replicate 16 m) p (splat_long m)) (splat_long s)) (zip_long bit_and y (replicate 16 m) q (splat_long m))
