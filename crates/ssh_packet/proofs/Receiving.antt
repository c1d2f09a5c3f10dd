-- Bytes that are added to a partial packet.
use Rattle.std.proofs.Common.{◌≡◌, ℕ, ◌+◌, ◌-◌, ◌<◌, ◌≤◌, ◌⊎◌, inl, inr, min, List, ◌++◌, length, take, drop, sym, ap, subst, ◌∙◌, arith, length-append, append_assoc}
use Rattle.std.proofs.lemmas.List.{take-append-drop, length-take, drop-take, take-take}
use Rattle.ssh_model.specs.Protocol.Wire.DataTypes.{IsUint32}
use Rattle.ssh_model.specs.Laws.Reading.{OneForm}
use Rattle.ssh_model.specs.Protocol.Wire.Packet.{Blocks}
use Rattle.ssh_model.specs.Protocol.Wire.Sealing.{HasSize, IsWhole}
use Rattle.ssh_model.specs.Laws.Units.{IsPartial, IsPartial.no_length, IsPartial.has_length}
use Rattle.ssh_packet.proofs.Fields.{longer, one_size, from_four}

-- the first a + m bytes are the first a, and the m after them
take_more : (xs : List ℕ) (a m : ℕ) → take a xs ++ take m (drop a xs) ≡ take (a + m) xs
take_more xs a m =
    let whole = take-append-drop a (take (a + m) xs) in
    (rw (take-take a (a + m) xs (omega arith), drop-take a m xs) at whole)

taken_length : (n : ℕ) (old bytes : List ℕ) → length (old ++ take n bytes) ≡ length old + min n (length bytes)
taken_length n old bytes = length-append old (take n bytes) ∙ ap (λ (k : ℕ). length old + k) (length-take n bytes)

-- Part of a packet is held, and bytes were added to the end of its length field.
pub record Begun (blocks : Blocks) (tag front : ℕ) (old bytes : List ℕ) : Type 0 where
  pub buffered : IsPartial blocks tag old
  pub used : front ≡ min (4 - length old) (length bytes)
  pub from : 4 ≤ length (old ++ take front bytes)

-- either the length field was not there before, or nothing was added
cases_field : (blocks : Blocks) (tag front : ℕ) (old bytes : List ℕ) → Begun blocks tag front old bytes → (length (old ++ take front bytes) ≡ 4) ⊎ ((n : ℕ) × HasSize blocks tag n old × (length old < n) × (front ≡ 0) × (length (old ++ take front bytes) ≡ length old))
cases_field blocks tag front old bytes b =
    let used = b.used in
    let from = b.from in
    let count = taken_length front old bytes in
    elim b.buffered [
      | no_length short ↦ inl (omega arith)
      | has_length n h short ↦ more n h short
    ]
  where
    more : (n : ℕ) → HasSize blocks tag n old → length old < n → (length (old ++ take front bytes) ≡ 4) ⊎ ((n : ℕ) × HasSize blocks tag n old × (length old < n) × (front ≡ 0) × (length (old ++ take front bytes) ≡ length old))
    more n h short =
        let used = b.used in
        let long : 4 ≤ length old = omega (arith, ap length h.parts, length-append h.field h.rest, h.counts.count) in
        let none : front ≡ 0 = omega arith in
        inr (n, h, short, none, omega (arith, taken_length front old bytes))

-- ---- a length that no packet has

pub bad_field : (blocks : Blocks) (tag front : ℕ) (old bytes all : List ℕ) → Begun blocks tag front old bytes → all ≡ old ++ take front bytes → ((n : ℕ) → HasSize blocks tag n all → ⊥) → length all ≡ 4
bad_field blocks tag front old bytes all b e other =
    elim (cases_field blocks tag front old bytes b) [
      | inl four ↦ ap length e ∙ four
      | inr some ↦ absurd (other some.0 (subst (λ (x : List ℕ). HasSize blocks tag some.0 x) (sym e) (longer blocks tag some.0 old (take front bytes) some.1)))
    ]

pub bad_progress : (blocks : Blocks) (tag front : ℕ) (old bytes all : List ℕ) → Begun blocks tag front old bytes → all ≡ old ++ take front bytes → ((n : ℕ) → HasSize blocks tag n all → ⊥) → 0 < length bytes → 0 < front
bad_progress blocks tag front old bytes all b e other some =
    elim b.buffered [
      | no_length short ↦ let used = b.used in omega arith
      | has_length n h short ↦ absurd (other n (subst (λ (x : List ℕ). HasSize blocks tag n x) (sym e) (longer blocks tag n old (take front bytes) h)))
    ]

-- ---- a length that packets have

pub goes_on : (blocks : Blocks) (tag size back : ℕ) (middle after all : List ℕ) → HasSize blocks tag size middle → all ≡ middle ++ take back after → length all < size → IsPartial blocks tag all
goes_on blocks tag size back middle after all h e short =
    has_length size (subst (λ (x : List ℕ). HasSize blocks tag size x) (sym e) (longer blocks tag size middle (take back after) h)) short

pub size_progress : (blocks : Blocks) (tag front back size : ℕ) (old bytes middle after : List ℕ) → OneForm IsUint32 → Begun blocks tag front old bytes → middle ≡ old ++ take front bytes → HasSize blocks tag size middle
    → after ≡ drop front bytes → back ≡ min (size - length middle) (length after) → 0 < length bytes → 0 < front + back
size_progress blocks tag front back size old bytes middle after one b e h rest used some =
    elim b.buffered [
      | no_length short ↦ let first = b.used in omega arith
      | has_length n k short ↦ more n k short
    ]
  where
    more : (n : ℕ) → HasSize blocks tag n old → length old < n → 0 < front + back
    more n k short =
        let first = b.used in
        let long : 4 ≤ length old = omega (arith, ap length k.parts, length-append k.field k.rest, k.counts.count) in
        let none : front ≡ 0 = omega arith in
        let same : n ≡ size = one_size blocks tag n size middle one (subst (λ (x : List ℕ). HasSize blocks tag n x) (sym e) (longer blocks tag n old (take front bytes) k)) h in
        let here : length middle ≡ length old = omega (arith, ap length e, taken_length front old bytes) in
        let following : length after ≡ length bytes = ap length (rest ∙ ap (λ (k : ℕ). drop k bytes) none) in
        omega arith

pub joined : (front back : ℕ) (old bytes middle after all : List ℕ) → middle ≡ old ++ take front bytes → after ≡ drop front bytes → all ≡ middle ++ take back after → all ≡ old ++ take (front + back) bytes
joined front back old bytes middle after all e f g =
    g ∙ ap (λ (x : List ℕ). x ++ take back after) e ∙ append_assoc old (take front bytes) (take back after)
    ∙ ap (λ (x : List ℕ). old ++ (take front bytes ++ take back x)) f ∙ ap (λ (x : List ℕ). old ++ x) (take_more bytes front back)

pub whole : (blocks : Blocks) (tag front back size : ℕ) (old bytes middle after all : List ℕ) → OneForm IsUint32 → Begun blocks tag front old bytes → middle ≡ old ++ take front bytes → HasSize blocks tag size middle
    → back ≡ min (size - length middle) (length after) → all ≡ middle ++ take back after → size ≤ length all → IsWhole blocks tag all
whole blocks tag front back size old bytes middle after all one b e h used g long =
    let most : length middle ≤ size = elim (cases_field blocks tag front old bytes b) [
      | inl four ↦ omega (arith, ap length e, from_four blocks tag size middle h)
      | inr some ↦
          let same : some.0 ≡ size = one_size blocks tag some.0 size middle one (subst (λ (x : List ℕ). HasSize blocks tag some.0 x) (sym e) (longer blocks tag some.0 old (take front bytes) some.1)) h in
          omega (arith, ap length e, some.2, some.4)
    ] in
    let exact : size ≡ length all = omega (arith, ap length g, taken_length back middle after) in
    record { has = subst (λ (n : ℕ). HasSize blocks tag n all) exact (subst (λ (x : List ℕ). HasSize blocks tag size x) (sym g) (longer blocks tag size middle (take back after) h)) }
