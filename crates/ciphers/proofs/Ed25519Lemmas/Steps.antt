-- The first step of each ladder, and one step more.
use Rattle.std.proofs.Common.{◌≡◌, ℕ, zero, suc, ◌+◌, ◌-◌, ◌<◌, ◌≤◌, ◌≢◌, List, length, length-set, slice_set, below_more, get_or-set_other, get_or-set_same, refl, ap, sym, ◌∙◌, add-one, arith}
use Rattle.ciphers.specs.X25519.Curve.{one_element, zero_element}
use Rattle.ciphers.specs.X25519.Field.{IsTight, residue}
use Rattle.ciphers.specs.X25519.Field as field
use Rattle.ciphers.specs.declared.ed25519.point.Point.{Point}
use Rattle.ciphers.specs.declared.ed25519.point.ReadyPoint.{ReadyPoint}
use Rattle.ciphers.specs.declared.ed25519.scalar.Scalar.{Scalar}
use Rattle.ciphers.specs.Ed25519.Comb.{base_multiple, combed}
use Rattle.ciphers.specs.Ed25519.Point.{Extended, IsPoint, Ready, added_ready, chosen, numbers, prepared, ready}
use Rattle.ciphers.specs.Ed25519.Windows.{digit_at, joint_multiple, multiple, point_at, sixteen_combed, sixteen_times, windowed, with_digit}

tight_zero : IsTight zero_element
tight_zero = record { a = omega arith; b = omega arith; c = omega arith; d = omega arith; e = omega arith }

tight_one : IsTight one_element
tight_one = record { a = omega arith; b = omega arith; c = omega arith; d = omega arith; e = omega arith }

abbrev pub neutral : Point
neutral = record { x = zero_element; y = one_element; z = one_element; t = zero_element }

pub neutral_point : IsPoint neutral
neutral_point = record { x = tight_zero; y = tight_one; z = tight_one; t = tight_zero }

-- ---- the comb

pub chosen_ready : (choice : ℕ) (p q : ReadyPoint)
    → ready (record { less = field.chosen choice p.less q.less; more = field.chosen choice p.more q.more; t = field.chosen choice p.t q.t })
    ≡ chosen choice (ready p) (ready q)
unfolding field.chosen
chosen_ready zero p q = refl
chosen_ready (suc n) p q = refl

pub no_teeth : (s : Scalar) → numbers neutral ≡ base_multiple s 0
unfolding base_multiple residue
no_teeth s = refl

pub one_tooth : (s : Scalar) (n : ℕ) → base_multiple s (n + 1) ≡ combed (base_multiple s n) s (63 - n)
unfolding base_multiple
one_tooth s n = rw add-one refl

-- ---- the table of multiples

pub only_zero : (P : ℕ → Type 0) → P 0 → (k : ℕ) → k < 1 → P k
only_zero P x zero h = x
only_zero P x (suc k) h = absurd (omega arith)

pub no_multiples : (p : Extended) → numbers neutral ≡ multiple p 0
unfolding multiple residue
no_multiples p = refl

-- what holds of the points of a table holds with one more
pub one_point : (P : ℕ → Point → Type 0) (table : List Point) (i : ℕ) (q : Point) → i < length table
    → ((k : ℕ) → k < i → P k (point_at table k)) → P i q
    → (k : ℕ) → k < i + 1 → P k (point_at (slice_set table i q) k)
one_point P table i q l f h =
    below_more _ _
    (λ k b. let other : k ≢ i = omega arith in rw get_or-set_other (f k b))
    (rw get_or-set_same h)

pub same_length : (table : List Point) (i : ℕ) (q : Point) → length table ≡ 16 → length (slice_set table i q) ≡ 16
same_length table i q e = rw length-set e

pub next_multiple : {q last : Extended} {r : Ready} (p : Extended) (i : ℕ) → 1 ≤ i → last ≡ multiple p (i - 1) → r ≡ prepared p
    → q ≡ added_ready last r → q ≡ multiple p i
unfolding multiple
next_multiple p zero h el er eq = absurd (omega arith)
next_multiple {q} {last} {r} p (suc n) h el er eq =
    let less : suc n - 1 ≡ n = omega arith in
    eq ∙ ap (λ (x : Extended). added_ready x r) (el ∙ ap (multiple p) less) ∙ ap (added_ready (multiple p n)) er

-- ---- the windows

pub chosen_second : (digit : ℕ) (p q : Extended) → digit ≢ 0 → chosen digit p q ≡ q
chosen_second zero p q h = absurd (h refl)
chosen_second (suc n) p q h = refl

-- a step with the point and the digit that it takes
next_digit : {last q other more : Extended} {digit place : ℕ} (p : Extended) → q ≡ last → other ≡ multiple p digit → digit ≡ place
    → more ≡ with_digit q other digit → more ≡ with_digit last (multiple p place) place
next_digit {last} {q} {other} {more} {digit} p eq eo ed em =
    em
    ∙ ap (λ (x : Extended). with_digit x other digit) eq
    ∙ ap (λ (x : Extended). with_digit last x digit) eo
    ∙ ap (λ (k : ℕ). with_digit last (multiple p k) k) ed

pub no_windows : (p : Extended) (bytes : List ℕ) → numbers neutral ≡ windowed p bytes 0
unfolding windowed residue
no_windows p bytes = refl

pub next_window : {q sixteen other more : Extended} {digit : ℕ} (p : Extended) (bytes : List ℕ) (n : ℕ)
    → q ≡ windowed p bytes n → sixteen ≡ sixteen_times q → digit ≡ digit_at bytes (63 - n) → other ≡ multiple p digit
    → more ≡ with_digit sixteen other digit → more ≡ windowed p bytes (n + 1)
unfolding windowed
next_window p bytes n eq es ed eo em =
    next_digit p (es ∙ ap (λ (x : Extended). sixteen_times x) eq) eo ed em
    ∙ sym (ap (windowed p bytes) (add-one n))

pub all_windows : (s : Scalar) (p : Extended) (bytes : List ℕ) (n : ℕ) → n ≡ 48 → windowed p bytes n ≡ joint_multiple s p bytes 0
unfolding joint_multiple
all_windows s p bytes n e = ap (windowed p bytes) e

pub next_joint : {q sixteen other more : Extended} {digit : ℕ} (s : Scalar) (p : Extended) (bytes : List ℕ) (n : ℕ)
    → q ≡ joint_multiple s p bytes n → sixteen ≡ sixteen_combed q s (15 - n) → digit ≡ digit_at bytes (15 - n) → other ≡ multiple p digit
    → more ≡ with_digit sixteen other digit → more ≡ joint_multiple s p bytes (n + 1)
unfolding joint_multiple
next_joint s p bytes n eq es ed eo em =
    next_digit p (es ∙ ap (λ (x : Extended). sixteen_combed x s (15 - n)) eq) eo ed em
    ∙ sym (ap (joint_multiple s p bytes) (add-one n))
