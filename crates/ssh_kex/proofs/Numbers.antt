-- The bytes of an unsigned number are the shortest that stand for it.
use Rattle.std.proofs.Common.{◌≡◌, ℕ, zero, suc, ◌+◌, ◌*◌, ◌/◌, ◌%◌, ◌^◌, ◌<◌, ◌≤◌, true, false, cond, ltb, leb, List, [], ◌∷◌, ◌++◌, length, get_or, inl, inr, refl, sym, ap, subst, ◌∙◌, arith, length-append}
use Rattle.std.specs.Prelude.{pos}
use Rattle.std.proofs.lemmas.Bool.{cases_Bool, cases_lt, cond-true, cond-false, lt-ltb, leb-false}
use Rattle.ssh_model.specs.Protocol.Wire.DataTypes.{AreBytes, number}
use Rattle.ssh_model.specs.Laws.DataTypes.{IsShortest}
use Rattle.ssh_model.specs.Protocol.KeyExchange.Exchange.{digits, positive, mpint_body}
use Rattle.ssh_types.specs.WholeNumbers.{kept_shortest, integer_marked, integer_low, one_more}

-- a byte after makes the number 256 times as large
number_following : (bs : List ℕ) (b : ℕ) → number (bs ++ b ∷ []) ≡ number bs * 256 + b
number_following [] b = omega arith
number_following (c ∷ bs) b =
    let rest = number_following bs b in
    let len : length (bs ++ b ∷ []) ≡ suc (length bs) = omega (arith, length-append bs (b ∷ [])) in
    let place : c * 256 ^ length (bs ++ b ∷ []) ≡ 256 * (c * 256 ^ length bs) =
    ap (λ (n : ℕ). c * 256 ^ n) len ∙ ap (λ (p : ℕ). c * p) (one_more (length bs)) ∙ omega arith in
    omega (arith, rest, place)

bytes_following : (bs : List ℕ) (b : ℕ) → AreBytes bs → b < 256 → AreBytes (bs ++ b ∷ [])
bytes_following [] b h low = (low, tt)
bytes_following (c ∷ bs) b h low = (h.0, bytes_following bs b h.1 low)

first_following : (bs : List ℕ) (b : ℕ) → 0 < get_or bs 0 0 → 0 < get_or (bs ++ b ∷ []) 0 0
first_following [] b h = absurd (omega arith)
first_following (c ∷ bs) b h = h

-- one step of the digits
digits_more : (places n : ℕ) → 0 < n → digits (suc places) n ≡ digits places (n / 256) ++ (n % 256) ∷ []
unfolding digits
digits_more places n some = cond-true _ _ _ (lt-ltb 0 n some)

digits_none : (places : ℕ) → digits places 0 ≡ []
unfolding digits
digits_none zero = refl
digits_none (suc places) = refl

digits_zero : (n : ℕ) → digits zero n ≡ []
unfolding digits
digits_zero n = refl

pub digits_number : (places n : ℕ) → n ≤ places → number (digits places n) ≡ n
digits_number zero n room = ap number (digits_zero n) ∙ omega arith
digits_number (suc places) n room =
    elim (cases_lt 0 n) [
      | inl some ↦
          let rest = digits_number places (n / 256) (omega arith) in
          ap number (digits_more places n some) ∙ number_following (digits places (n / 256)) (n % 256) ∙ omega (arith, rest)
      | inr none ↦ let e : n ≡ 0 = omega arith in ap (λ (k : ℕ). number (digits (suc places) k)) e ∙ ap number (digits_none (suc places)) ∙ sym e
    ]

pub digits_bytes : (places n : ℕ) → AreBytes (digits places n)
digits_bytes zero n = subst (λ (l : List ℕ). AreBytes l) (sym (digits_zero n)) tt
digits_bytes (suc places) n =
    elim (cases_lt 0 n) [
      | inl some ↦ subst (λ (l : List ℕ). AreBytes l) (sym (digits_more places n some)) (bytes_following (digits places (n / 256)) (n % 256) (digits_bytes places (n / 256)) (omega arith))
      | inr none ↦ let e : n ≡ 0 = omega arith in subst (λ (k : ℕ). AreBytes (digits (suc places) k)) (sym e) (subst (λ (l : List ℕ). AreBytes l) (sym (digits_none (suc places))) tt)
    ]

-- no zero in front
pub digits_front : (places n : ℕ) → n ≤ places → 0 < n → 0 < get_or (digits places n) 0 0
digits_front zero n room some = absurd (omega arith)
digits_front (suc places) n room some =
    subst (λ (l : List ℕ). 0 < get_or l 0 0) (sym (digits_more places n some))
    (elim (cases_lt 0 (n / 256)) [
      | inl more ↦ first_following (digits places (n / 256)) (n % 256) (digits_front places (n / 256) (omega arith) more)
      | inr none ↦
          let e : n / 256 ≡ 0 = omega arith in
          let last : 0 < n % 256 = omega arith in
          subst (λ (k : ℕ). 0 < get_or (digits places k ++ (n % 256) ∷ []) 0 0) (sym e)
          (subst (λ (l : List ℕ). 0 < get_or (l ++ (n % 256) ∷ []) 0 0) (sym (digits_none places)) last)
    ])

-- bytes with no zero in front, of which the first is not read as a sign
low_canonical : (b : ℕ) (bs : List ℕ) → 0 < b → b < 128 → AreBytes (b ∷ bs) → IsShortest (pos (number (b ∷ bs))) (b ∷ bs)
low_canonical b [] some low h =
    subst (λ z. IsShortest z (b ∷ [])) (integer_low b [] h low) (kept_shortest false (b ∷ []) (lt-ltb 0 b some) h)
low_canonical b (c ∷ cs) some low h =
    let first = lt-ltb 0 b some in
    let second = lt-ltb b 255 (omega arith) in
    let inner : cond (ltb 0 b) (ltb b 255) false ≡ true = cond-true _ _ _ first ∙ second in
    let kept : cond (ltb c 128) (ltb 0 b) (cond (ltb 0 b) (ltb b 255) false) ≡ true = elim (cases_Bool (ltb c 128)) [
      | inl t ↦ cond-true _ _ _ t ∙ first
      | inr f ↦ cond-false _ _ _ f ∙ inner
    ] in
    subst (λ z. IsShortest z (b ∷ c ∷ cs)) (integer_low b (c ∷ cs) h low) (kept_shortest false (b ∷ c ∷ cs) kept h)

pub positive_shortest : (bs : List ℕ) → AreBytes bs → (0 < number bs → 0 < get_or bs 0 0) → (number bs ≡ 0 → bs ≡ []) → IsShortest (pos (number bs)) (positive bs)
positive_shortest [] h front none = kept_shortest false [] refl h
positive_shortest (b ∷ bs) h front none =
    elim (cases_lt 0 (number (b ∷ bs))) [
      | inl some ↦ elim (cases_Bool (leb 128 b)) [
        | inl high ↦
            subst (λ (l : List ℕ). IsShortest (pos (number (b ∷ bs))) l) (sym (cond-true _ _ _ high))
            (subst (λ z. IsShortest z (0 ∷ b ∷ bs)) (integer_marked (b ∷ bs) h) (kept_shortest true (b ∷ bs) high h))
        | inr low ↦
            subst (λ (l : List ℕ). IsShortest (pos (number (b ∷ bs))) l) (sym (cond-false _ _ _ low))
            (low_canonical b bs (front some) (omega (arith, leb-false 128 b low)) h)
      ]
      | inr least ↦ absurd (let e : (b ∷ bs) ≡ [] = none (omega (arith, least)) in cc)
    ]

-- The body of a number's mpint is its shortest bytes.
pub body_shortest : (n : ℕ) → IsShortest (pos n) (mpint_body n)
unfolding mpint_body
body_shortest n =
    let value = digits_number n n (omega arith) in
    let none : number (digits n n) ≡ 0 → digits n n ≡ [] =
    λ e. let z : n ≡ 0 = sym value ∙ e in ap (λ (k : ℕ). digits k k) z ∙ digits_none 0 in
    subst (λ (k : ℕ). IsShortest (pos k) (mpint_body n)) value
    (positive_shortest (digits n n) (digits_bytes n n) (λ some. digits_front n n (omega arith) (omega (arith, value))) none)

-- the bytes that a number is given in, with a zero in front, are never fewer
pub body_length : (bytes : List ℕ) → AreBytes bytes → length (mpint_body (number bytes)) ≤ length bytes + 1
body_length bytes h =
    let s = body_shortest (number bytes) in
    let le : length (mpint_body (number bytes)) ≤ length (0 ∷ bytes) = s.shortest (0 ∷ bytes) (omega arith, h) (integer_marked bytes h) in
    omega (arith, le)
