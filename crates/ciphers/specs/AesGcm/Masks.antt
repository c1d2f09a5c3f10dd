-- A text with a key stream added.
use Rattle.std.proofs.Common.{◌≡◌, ℕ, zero, suc, ◌+◌, ◌*◌, ◌/◌, ◌%◌, ◌<◌, ◌≤◌, List, [], ◌∷◌, ◌++◌, length, take, drop, get_or, set, bit_xor, refl, sym, ap, ◌∙◌, arith}
use Rattle.std.proofs.lemmas.List.{take_more_set, take_more, take_all, length-take-le}
use Rattle.std.specs.Prelude.{slice_index}
use Rattle.std.specs.Int.{w64, to_be_bytes, to_le_bytes}
use Rattle.std.specs.List.{AllByRecursion}
use Rattle.std.proofs.lemmas.Nat.{xor_of_8}
use Rattle.std.specs.Int.Bits.{xor_assoc, xor_self, xor_zero_r}
use Rattle.ciphers.specs.declared.aes_gcm.gcm.KeyParts.{KeyParts}
use Rattle.ciphers.specs.declared.aes_gcm.aes.Schedule.{Schedule}
use Rattle.ciphers.specs.declared.aes_gcm.planes.Planes.{Planes}
use Rattle.ciphers.specs.AesGcm.Aes.{encrypted}
use Rattle.ciphers.specs.AesGcm.Packing.{row, transposed, unpacked}
use Rattle.ciphers.specs.AesGcm.Gcm.{counter_blocks, masked, stream, tag_of}

pub length-masked : (f : ℕ → ℕ) (at : ℕ) (bytes : List ℕ) → length (masked f at bytes) ≡ length bytes
length-masked f at [] = refl
length-masked f at (b ∷ bytes) = ap suc (length-masked f (at + 1) bytes)

pub masked-append : (f : ℕ → ℕ) (at : ℕ) (xs ys : List ℕ) → masked f at (xs ++ ys) ≡ masked f at xs ++ masked f (at + length xs) ys
masked-append f at [] ys = let e : at ≡ at + 0 = omega arith in ap (λ (n : ℕ). masked f n ys) e
masked-append f at (x ∷ xs) ys =
    let e : at + 1 + length xs ≡ at + suc (length xs) = omega arith in
    ap (λ (l : List ℕ). bit_xor x (f at) ∷ l) (masked-append f (at + 1) xs ys ∙ ap (λ (n : ℕ). masked f (at + 1) xs ++ masked f n ys) e)

-- one byte more is done
pub one_more : (f : ℕ → ℕ) (i v : ℕ) (old text : List ℕ) → i < length old → i < length text → take i text ≡ masked f 16 (take i old) → v ≡ bit_xor (get_or old i 0) (f (16 + i))
    → take (i + 1) (set text i v) ≡ masked f 16 (take (i + 1) old)
one_more f i v old text h k done e =
    let size : 16 + length (take i old) ≡ 16 + i = omega (arith, length-take-le i old (omega arith)) in
    take_more_set text i v k
    ∙ ap (λ (x : List ℕ). x ++ v ∷ []) done
    ∙ ap (λ (n : ℕ). masked f 16 (take i old) ++ n ∷ []) (e ∙ ap (λ (n : ℕ). bit_xor (get_or old i 0) (f n)) (sym size))
    ∙ sym (ap (masked f 16) (take_more old i 0 h) ∙ masked-append f 16 (take i old) (get_or old i 0 ∷ []))

-- all bytes are done
pub all_of : (f : ℕ → ℕ) (n : ℕ) (old text : List ℕ) → length old ≤ n → length text ≤ n → take n text ≡ masked f 16 (take n old) → text ≡ masked f 16 old
all_of f n old text h k done = sym (take_all n text k) ∙ done ∙ ap (masked f 16) (take_all n old h)

-- a stream that is added twice is gone
pub masked_twice : (f : ℕ → ℕ) (at : ℕ) (bytes : List ℕ) → masked f at (masked f at bytes) ≡ bytes
masked_twice f at [] = refl
masked_twice f at (b ∷ bytes) =
    let one : bit_xor (bit_xor b (f at)) (f at) ≡ b = xor_assoc b (f at) (f at) ∙ ap (bit_xor b) (xor_self (f at)) ∙ xor_zero_r b in
    ap (λ (n : ℕ). n ∷ masked f (at + 1) (masked f (at + 1) bytes)) one ∙ ap (λ (l : List ℕ). b ∷ l) (masked_twice f (at + 1) bytes)

pub length-tag : (key : KeyParts) (nonce additional text : List ℕ) → length (tag_of key nonce additional text) ≡ 16
unfolding tag_of
length-tag key nonce additional text = refl

-- ---- bytes

-- numbers below 256
abbrev pub AreBytes : List ℕ → Type 0
AreBytes bytes = AllByRecursion (λ b. b < 256) bytes

-- a byte of a word
byte_of : (n m : ℕ) → slice_index (to_le_bytes w64 n) m < 256
byte_of n zero = omega arith
byte_of n (suc zero) = omega arith
byte_of n (suc (suc zero)) = omega arith
byte_of n (suc (suc (suc zero))) = omega arith
byte_of n (suc (suc (suc (suc zero)))) = omega arith
byte_of n (suc (suc (suc (suc (suc zero))))) = omega arith
byte_of n (suc (suc (suc (suc (suc (suc zero)))))) = omega arith
byte_of n (suc (suc (suc (suc (suc (suc (suc zero))))))) = omega arith
byte_of n (suc (suc (suc (suc (suc (suc (suc (suc m)))))))) = omega arith

-- a byte of some
index_of : (l : List ℕ) (i : ℕ) → AreBytes l → slice_index l i < 256
index_of [] i p = omega arith
index_of (b ∷ l) zero p = p.0
index_of (b ∷ l) (suc i) p = index_of l i p.1

append_of : (a b : List ℕ) → AreBytes a → AreBytes b → AreBytes (a ++ b)
append_of [] b p q = q
append_of (x ∷ a) b p q = (p.0, append_of a b p.1 q)

pub take_bytes : (n : ℕ) (l : List ℕ) → AreBytes l → AreBytes (take n l)
take_bytes zero l p = tt
take_bytes (suc n) [] p = tt
take_bytes (suc n) (b ∷ l) p = (p.0, take_bytes n l p.1)

pub drop_bytes : (n : ℕ) (l : List ℕ) → AreBytes l → AreBytes (drop n l)
drop_bytes zero l p = p
drop_bytes (suc n) [] p = tt
drop_bytes (suc n) (b ∷ l) p = drop_bytes n l p.1

row_of : (t : Planes) (m : ℕ) → AreBytes (row t m)
row_of t m = (
  byte_of t.p0 m,
  (
    byte_of t.p1 m,
    (
      byte_of t.p2 m,
      (
        byte_of t.p3 m,
        (
          byte_of t.p4 m,
          (
            byte_of t.p5 m,
            (byte_of t.p6 m, (byte_of t.p7 m, tt)),
          ),
        ),
      ),
    ),
  ),
)

unpacked_of : (planes : Planes) → AreBytes (unpacked planes)
unfolding unpacked
unpacked_of planes =
    let t : Planes = transposed planes in
    let l6 : List ℕ = row t 6 ++ row t 7 in
    let p6 : AreBytes l6 = append_of (row t 6) (row t 7) (row_of t 6) (row_of t 7) in
    let l5 : List ℕ = row t 5 ++ l6 in
    let p5 : AreBytes l5 = append_of (row t 5) l6 (row_of t 5) p6 in
    let l4 : List ℕ = row t 4 ++ l5 in
    let p4 : AreBytes l4 = append_of (row t 4) l5 (row_of t 4) p5 in
    let l3 : List ℕ = row t 3 ++ l4 in
    let p3 : AreBytes l3 = append_of (row t 3) l4 (row_of t 3) p4 in
    let l2 : List ℕ = row t 2 ++ l3 in
    let p2 : AreBytes l2 = append_of (row t 2) l3 (row_of t 2) p3 in
    let l1 : List ℕ = row t 1 ++ l2 in
    let p1 : AreBytes l1 = append_of (row t 1) l2 (row_of t 1) p2 in
    let l0 : List ℕ = row t 0 ++ l1 in
    let p0 : AreBytes l0 = append_of (row t 0) l1 (row_of t 0) p1 in
    p0

encrypted_of : (keys : Schedule) (bytes : List ℕ) → AreBytes (encrypted keys bytes)
unfolding encrypted
encrypted_of keys bytes = unpacked_of _

-- The encrypted text is a list of bytes.
pub encrypted_fits : (keys : Schedule) (bytes : List ℕ) (i : ℕ) → slice_index (encrypted keys bytes) i < 256
encrypted_fits keys bytes i = index_of _ i (encrypted_of keys bytes)

-- The key stream is a list of bytes.
pub stream_byte : (key : KeyParts) (nonce : List ℕ) (at : ℕ) → stream key nonce at < 256
unfolding stream
stream_byte key nonce at = encrypted_fits key.schedule (counter_blocks nonce (4 * (at / 64) + 1)) (at % 64)

-- bytes with a stream of bytes added are bytes
pub masked_bytes : (f : ℕ → ℕ) (at : ℕ) (bytes : List ℕ) → ((n : ℕ) → f n < 256) → AreBytes bytes → AreBytes (masked f at bytes)
masked_bytes f at [] s p = tt
masked_bytes f at (b ∷ bytes) s p = (xor_of_8 b (f at) p.0 (s at), masked_bytes f (at + 1) bytes s p.1)

word_of : (n : ℕ) → AreBytes (to_be_bytes w64 n)
word_of n = (omega arith, (omega arith, (omega arith, (omega arith, (omega arith, (omega arith, (omega arith, (omega arith, tt))))))))

-- a tag has bytes
pub tag_bytes : (key : KeyParts) (nonce additional text : List ℕ) → AreBytes (tag_of key nonce additional text)
unfolding tag_of
tag_bytes key nonce additional text = append_of (to_be_bytes w64 _) (to_be_bytes w64 _) (word_of _) (word_of _)
