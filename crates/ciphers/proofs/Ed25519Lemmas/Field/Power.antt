-- Powers modulo a number by repeated squaring, quick to compute.
use Rattle.std.proofs.Common.{◌≡◌, ℕ, zero, suc, ◌+◌, ◌*◌, ◌/◌, ◌%◌, ◌^◌, ◌<◌, ap, sym, ◌∙◌, arith}
use Rattle.std.proofs.Math.Nat.{pow-suc, pow-zero}
use Rattle.std.proofs.lemmas.Nat.{mul-mod, mul-mod_first, pow-add}

-- the square of y, times x where b is one
abbrev square_times : (m x b y : ℕ) → ℕ
square_times m x b y = y * y % m * x ^ b % m

-- x to the power k, a number of so many binary digits
unfoldable pub quick : (m x k digits : ℕ) → ℕ
quick m x k zero = 1 % m
quick m x k (suc n) = square_times m x (k % 2) (quick m x (k / 2) n)

square_is : (m x h b k : ℕ) → h + h + b ≡ k → square_times m x b (x ^ h % m) ≡ x ^ k % m
square_is m x h b k e =
    ap (λ (n : ℕ). n * x ^ b % m) (sym (mul-mod (x ^ h) (x ^ h) m))
    ∙ mul-mod_first (x ^ h * x ^ h) (x ^ b) m
    ∙ ap (λ (n : ℕ). n * x ^ b % m) (sym (pow-add x h h))
    ∙ ap (λ (n : ℕ). n % m) (sym (pow-add x (h + h) b))
    ∙ ap (λ (n : ℕ). x ^ n % m) e

pub quick_is : (m x k n : ℕ) → k < 2 ^ n → quick m x k n ≡ x ^ k % m
unfolding quick
quick_is m x k zero h =
    let none : zero ≡ k = omega arith in
    ap (λ (n : ℕ). n % m) (sym (pow-zero x)) ∙ ap (λ (n : ℕ). x ^ n % m) none
quick_is m x k (suc n) h =
    let half : k / 2 < 2 ^ n = omega (arith, pow-suc 2 n) in
    ap (square_times m x (k % 2)) (quick_is m x (k / 2) n half) ∙ square_is m x (k / 2) (k % 2) k (omega arith)
