-- A product modulo the order, byte by byte from the highest one down.
use Rattle.std.proofs.Common.{◌≡◌, ℕ, suc, ◌+◌, ◌-◌, ◌*◌, ◌/◌, ◌%◌, ◌<◌, ◌^◌, List, length, slice_index, ap, sym, ◌∙◌, arith}
use Rattle.std.proofs.Math.Nat.{div-eq_of_lt, mod-add-mod}
use Rattle.std.proofs.lemmas.Nat.{mul-mod_second}
use Rattle.ciphers.specs.X25519.Bytes.{value}
use Rattle.ciphers.specs.Ed25519.Scalar.{order}
use Rattle.ciphers.specs.X25519.Values.{one_byte_more, value_below}

-- the bytes from a place on as a number, times another one
abbrev pub product_from : List ℕ → ℕ → ℕ → ℕ
product_from bytes k m = value bytes / 2 ^ (8 * k) * m % order

step_modulo : (h b m l : ℕ) → (256 * (h * m % l) + b * m) % l ≡ (256 * h + b) * m % l
step_modulo h b m l =
    sym (mod-add-mod (256 * (h * m % l)) l (b * m))
    ∙ ap (λ (x : ℕ). (x + b * m) % l) (mul-mod_second 256 (h * m) l)
    ∙ mod-add-mod (256 * (h * m)) l (b * m)
    ∙ ap (λ (x : ℕ). x % l) (omega arith)

pub no_bytes : (bytes : List ℕ) (m : ℕ) → ((i : ℕ) → slice_index bytes i < 256) → 0 ≡ product_from bytes (length bytes - 0) m
no_bytes bytes m f =
    let all : length bytes - 0 ≡ length bytes = omega arith in
    rw (all, div-eq_of_lt (value_below bytes f)) (omega arith)

pub one_byte : (bytes : List ℕ) (n i m x y : ℕ) → ((k : ℕ) → slice_index bytes k < 256) → i < n
    → x ≡ product_from bytes (n - i) m → y ≡ (256 * x + slice_index bytes (n - 1 - i) * m) % order
    → y ≡ product_from bytes (n - (i + 1)) m
one_byte bytes n i m x y f h p q =
    let k : ℕ = n - 1 - i in
    let above : n - i ≡ suc k = omega arith in
    let here : n - (i + 1) ≡ k = omega arith in
    let byte : ℕ = slice_index bytes k in
    q
    ∙ ap (λ (z : ℕ). (256 * z + byte * m) % order) (p ∙ ap (λ (j : ℕ). product_from bytes j m) above)
    ∙ step_modulo (value bytes / 2 ^ (8 * suc k)) byte m order
    ∙ ap (λ (z : ℕ). z * m % order) (sym (one_byte_more bytes k f))
    ∙ ap (λ (j : ℕ). product_from bytes j m) (sym here)
