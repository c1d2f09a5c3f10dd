-- Equal exchange texts have equal inputs, and how long an encoding is.
use Rattle.std.proofs.Common.{◌≡◌, ℕ, zero, suc, ◌+◌, ◌*◌, ◌/◌, ◌%◌, ◌^◌, ◌<◌, ◌≤◌, leb, List, [], ◌∷◌, ◌++◌, length, inl, inr, refl, sym, ap, subst, ◌∙◌, append_assoc, append-nil, length-append, arith}
use Rattle.std.specs.Int.{w32, to_be_bytes}
use Rattle.std.proofs.lemmas.Bool.{cases_Bool, cases_lt, cond-true, cond-false, lt-ltb}
use Rattle.std.proofs.Math.Nat.{pow-suc, mul-le-mul_right}
use Rattle.ssh_model.specs.Protocol.Wire.DataTypes.{AreBytes, number, IsString}
use Rattle.ssh_model.specs.Protocol.Wire.Message.{◌▸◌, IsEnd}
use Rattle.ssh_model.specs.Protocol.KeyExchange.Exchange.{Inputs, string_of, digits, positive, mpint_body, mpint_of, exchange_text}
use Rattle.ssh_model.specs.Laws.KeyExchange.{Fits}
use Rattle.ssh_model.proofs.Wire.Fields.{◌▹◌, string, end}

-- ---- strings

-- no number of n bytes reaches 256 ^ n
pub number_below : (bs : List ℕ) → AreBytes bs → number bs < 256 ^ length bs
number_below [] h = omega arith
number_below (b ∷ bs) h =
    let rest = number_below bs h.1 in
    let top : b * 256 ^ length bs ≤ 255 * 256 ^ length bs = mul-le-mul_right (256 ^ length bs) (omega (arith, h.0)) in
    omega (arith, pow-suc 256 (length bs))

-- what a string holds is as short as its length can say
pub string_fits : (text bytes : List ℕ) → IsString text bytes → length text < 2 ^ 32
string_fits text bytes s =
    let below = number_below s.front s.size.are_bytes in
    let room : 256 ^ length s.front ≡ 256 ^ 4 = ap (λ (n : ℕ). 256 ^ n) s.size.count in
    omega (arith, s.size.value)

pub is_string : (text : List ℕ) → length text < 2 ^ 32 → IsString text (string_of text)
unfolding string_of
is_string text small =
    record {
      front = to_be_bytes w32 (length text);
      size = record { are_bytes = (omega arith, (omega arith, (omega arith, (omega arith, tt)))); count = refl; value = omega arith };
      parts = refl;
    }

-- ---- the bytes of a number

-- a byte after makes the number 256 times as large
number_following : (bs : List ℕ) (b : ℕ) → number (bs ++ b ∷ []) ≡ number bs * 256 + b
number_following [] b = omega arith
number_following (c ∷ bs) b =
    let rest = number_following bs b in
    let place : c * 256 ^ length (bs ++ b ∷ []) ≡ 256 * (c * 256 ^ length bs) =
    ap (λ (n : ℕ). c * 256 ^ n) (length-append bs (b ∷ []) ∙ omega arith) ∙ ap (λ (p : ℕ). c * p) (pow-suc 256 (length bs)) ∙ omega arith in
    omega (arith, rest, place)

-- with places enough, the bytes stand for the number
pub digits_number : (places n : ℕ) → n ≤ places → number (digits places n) ≡ n
unfolding digits
digits_number zero n room = omega arith
digits_number (suc places) n room =
    elim (cases_lt 0 n) [
      | inl some ↦
          let rest = digits_number places (n / 256) (omega arith) in
          ap number (cond-true _ _ _ (lt-ltb 0 n some)) ∙ number_following (digits places (n / 256)) (n % 256) ∙ omega (arith, rest)
      | inr none ↦ let e : n ≡ 0 = omega arith in rw e refl
    ]

-- a number below 256 ^ k has k of them at most
digits_length : (k places n : ℕ) → n < 256 ^ k → length (digits places n) ≤ k
unfolding digits
digits_length k zero n room = omega arith
digits_length zero (suc places) n room = let e : n ≡ 0 = omega arith in rw e (omega arith)
digits_length (suc k) (suc places) n room =
    elim (cases_lt 0 n) [
      | inl some ↦
          let p = pow-suc 256 k in
          let rest = digits_length k places (n / 256) (omega (arith, p, room)) in
          rw (cond-true _ _ _ (lt-ltb 0 n some)) (omega (arith, rest, length-append (digits places (n / 256)) ((n % 256) ∷ [])))
      | inr none ↦ let e : n ≡ 0 = omega arith in rw e (omega arith)
    ]

-- The zero in front changes no number, and is one byte.
positive_facts : (bs : List ℕ) → (number (positive bs) ≡ number bs) × (length (positive bs) ≤ suc (length bs))
positive_facts [] = (refl, omega arith)
positive_facts (b ∷ bs) =
    elim (cases_Bool (leb 128 b)) [
      | inl high ↦ (ap number (cond-true _ _ _ high) ∙ omega arith, rw (cond-true _ _ _ high) (omega arith))
      | inr low ↦ (ap number (cond-false _ _ _ low), rw (cond-false _ _ _ low) (omega arith))
    ]

pub body_number : (n : ℕ) → number (mpint_body n) ≡ n
unfolding mpint_body
body_number n = (positive_facts (digits n n)).0 ∙ digits_number n n (omega arith)

-- the bytes that a number is given in, with a zero in front, are never fewer
pub body_length : (bytes : List ℕ) → AreBytes bytes → length (mpint_body (number bytes)) ≤ length bytes + 1
unfolding mpint_body
body_length bytes h =
    let n = number bytes in
    omega (arith, (positive_facts (digits n n)).1, digits_length (length bytes) n n (number_below bytes h))

-- a number of 32 bytes
pub body_of_32 : (n : ℕ) (bytes : List ℕ) → AreBytes bytes → length bytes ≡ 32 → number bytes ≡ n → length (mpint_body n) ≤ 33
body_of_32 n bytes h count value = omega (arith, ap (λ (k : ℕ). length (mpint_body k)) value, body_length bytes h)

-- ---- the text

-- the strings of the inputs, one after the other
abbrev IsText : Inputs → List ℕ → Type 0
IsText x =
    IsString x.client_version ▸ IsString x.server_version ▸ IsString x.client_init ▸ IsString x.server_init ▸ IsString x.host_key ▸ IsString x.client_point
    ▸ IsString x.server_point ▸ IsString (mpint_body x.shared) ▸ IsEnd

then_string : (text more : List ℕ) {Q : List ℕ → Type 0} → length text < 2 ^ 32 → Q more → (IsString text ▸ Q) (string_of text ++ more)
then_string text more small q = record { front = string_of text; back = more; first = is_string text small; second = q; parts = refl }

nested : (a b c d k p q n : List ℕ) → a ++ (b ++ (c ++ (d ++ (k ++ (p ++ (q ++ (n ++ []))))))) ≡ a ++ b ++ c ++ d ++ k ++ p ++ q ++ n
nested a b c d k p q n = simp (append_assoc, append-nil) refl

is_text : (x : Inputs) → Fits x → IsText x (exchange_text x)
is_text x f =
    subst (IsText x)
    (nested (string_of x.client_version) (string_of x.server_version) (string_of x.client_init) (string_of x.server_init) (string_of x.host_key)
    (string_of x.client_point) (string_of x.server_point) (mpint_of x.shared))
    (then_string x.client_version _ f.client_version (then_string x.server_version _ f.server_version (then_string x.client_init _ f.client_init
    (then_string x.server_init _ f.server_init (then_string x.host_key _ f.host_key (then_string x.client_point _ f.client_point
    (then_string x.server_point _ f.server_point (then_string (mpint_body x.shared) _ f.shared refl))))))))

pub equal_inputs : (x y : Inputs) → Fits x → Fits y → exchange_text x ≡ exchange_text y → x ≡ y
equal_inputs x y f g e =
    let h = (string ▹ string ▹ string ▹ string ▹ string ▹ string ▹ string ▹ string ▹ end).same (exchange_text y) (subst (IsText x) e (is_text x f)) (is_text y g) in
    let n = sym (body_number x.shared) ∙ ap number h.1.1.1.1.1.1.1.0 ∙ body_number y.shared in
    λ i. record {
      client_version = h.0 i;
      server_version = h.1.0 i;
      client_init = h.1.1.0 i;
      server_init = h.1.1.1.0 i;
      host_key = h.1.1.1.1.0 i;
      client_point = h.1.1.1.1.1.0 i;
      server_point = h.1.1.1.1.1.1.0 i;
      shared = n i;
    }
