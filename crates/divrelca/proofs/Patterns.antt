-- A pattern after a star: what has to be tried again once the pattern is seen to differ from a name, and what has not.
use Rattle.std.proofs.Common.{◌≡◌, ℕ, Bool, true, false, ◌&&◌, ◌||◌, if◌then◌else◌, nat_eq, List, [], ◌∷◌, ◌≤◌, length, Some, None, arith, refl, sym, ap, inl, inr, ◌∙◌}
use Rattle.std.proofs.lemmas.Bool.{cases_Bool, eqb-true, or_cases, or_parts, or_right}
use Rattle.divrelca.specs.HostNames.{IsAfterStar, after_byte, is_like, stands_for}

-- A star stands for no byte at all.
pub star_for_none : (pattern name : List ℕ) → is_like pattern name ≡ true → is_like (42 ∷ pattern) name ≡ true
unfolding is_like
star_for_none pattern [] h = h
star_for_none pattern (c ∷ name) h = ap (λ (b : Bool). b || is_like (42 ∷ pattern) name) h

-- A star stands for one byte more.
pub star_for_more : (pattern : List ℕ) (c : ℕ) (name : List ℕ) → is_like (42 ∷ pattern) name ≡ true → is_like (42 ∷ pattern) (c ∷ name) ≡ true
unfolding is_like
star_for_more pattern c name h = or_right (is_like pattern (c ∷ name)) (is_like (42 ∷ pattern) name) h

-- ---- a byte of the pattern that is no star

like_step : (p : ℕ) (pattern : List ℕ) (c : ℕ) (name : List ℕ) → nat_eq p 42 ≡ false → stands_for p c ≡ true → is_like (p ∷ pattern) (c ∷ name) ≡ is_like pattern name
unfolding is_like
like_step p pattern c name no' yes' =
    ap (λ (b : Bool). if b then is_like pattern (c ∷ name) || is_like (p ∷ pattern) name else stands_for p c && is_like pattern name) no'
    ∙ ap (λ (b : Bool). b && is_like pattern name) yes'

unlike_step : (p : ℕ) (pattern : List ℕ) (c : ℕ) (name : List ℕ) → nat_eq p 42 ≡ false → stands_for p c ≡ false → is_like (p ∷ pattern) (c ∷ name) ≡ false
unfolding is_like
unlike_step p pattern c name no' differs =
    ap (λ (b : Bool). if b then is_like pattern (c ∷ name) || is_like (p ∷ pattern) name else stands_for p c && is_like pattern name) no'
    ∙ ap (λ (b : Bool). b && is_like pattern name) differs

-- What is left of the name after the byte says the rest.
pub like_after_byte : (p : ℕ) (pattern name tail : List ℕ) → nat_eq p 42 ≡ false → after_byte p name ≡ Some tail → is_like (p ∷ pattern) name ≡ is_like pattern tail
like_after_byte p pattern [] tail no' h = absurd (let e : None ≡ Some tail = h in cc)
like_after_byte p pattern (c ∷ name) tail no' h =
    elim (cases_Bool (stands_for p c)) [
      | inl yes' ↦
          let e : Some name ≡ Some tail = sym (ap (λ (b : Bool). if b then Some name else None) yes') ∙ h in
          let same : name ≡ tail = cc in
          like_step p pattern c name no' yes' ∙ ap (is_like pattern) same
      | inr differs ↦ absurd (let e : None ≡ Some tail = sym (ap (λ (b : Bool). if b then Some name else None) differs) ∙ h in cc)
    ]

pub unlike_at_byte : (p : ℕ) (pattern name : List ℕ) → nat_eq p 42 ≡ false → after_byte p name ≡ None → is_like (p ∷ pattern) name ≡ false
unfolding is_like
unlike_at_byte p pattern [] no' h = ap (λ (b : Bool). b && is_like pattern []) no'
unlike_at_byte p pattern (c ∷ name) no' h =
    elim (cases_Bool (stands_for p c)) [
      | inl yes' ↦ absurd (let e : Some name ≡ None = sym (ap (λ (b : Bool). if b then Some name else None) yes') ∙ h in cc)
      | inr differs ↦ unlike_step p pattern c name no' differs
    ]

-- What stands after two bytes that are alike.
like_after : (p : ℕ) (pattern : List ℕ) (c : ℕ) (name : List ℕ) → nat_eq p 42 ≡ false → is_like (p ∷ pattern) (c ∷ name) ≡ true → is_like pattern name ≡ true
like_after p pattern c name no' h =
    elim (cases_Bool (stands_for p c)) [
      | inl yes' ↦ sym (like_step p pattern c name no' yes') ∙ h
      | inr differs ↦ absurd (let e : false ≡ true = sym (unlike_step p pattern c name no' differs) ∙ h in cc)
    ]

-- ---- stars

-- A byte of the pattern that is no star, and its counterpart, are left out. The star may have stood for that counterpart as well.
star_later : (p : ℕ) (pattern : List ℕ) (c : ℕ) (name : List ℕ) → nat_eq p 42 ≡ false → is_like (42 ∷ p ∷ pattern) (c ∷ name) ≡ true → is_like (42 ∷ pattern) name ≡ true
unfolding is_like
star_later p pattern c [] no' h =
    elim (or_cases (is_like (p ∷ pattern) (c ∷ [])) (is_like (42 ∷ p ∷ pattern) []) h) [
      | inl now ↦ star_for_none pattern [] (like_after p pattern c [] no' now)
      | inr later ↦ absurd (let e : false ≡ true = sym (ap (λ (b : Bool). b && is_like pattern []) no') ∙ later in cc)
    ]
star_later p pattern c (d ∷ name) no' h =
    elim (or_cases (is_like (p ∷ pattern) (c ∷ d ∷ name)) (is_like (42 ∷ p ∷ pattern) (d ∷ name)) h) [
      | inl now ↦ star_for_none pattern (d ∷ name) (like_after p pattern c (d ∷ name) no' now)
      | inr later ↦ star_for_more pattern d name (star_later p pattern d name no' later)
    ]

pub star_after_byte : (p : ℕ) (pattern name tail : List ℕ) → nat_eq p 42 ≡ false → after_byte p name ≡ Some tail → is_like (42 ∷ p ∷ pattern) name ≡ true → is_like (42 ∷ pattern) tail ≡ true
star_after_byte p pattern [] tail no' found h = absurd (let e : None ≡ Some tail = found in cc)
star_after_byte p pattern (c ∷ name) tail no' found h =
    elim (cases_Bool (stands_for p c)) [
      | inl yes' ↦
          let e : Some name ≡ Some tail = sym (ap (λ (b : Bool). if b then Some name else None) yes') ∙ found in
          let same : tail ≡ name = cc in
          ap (is_like (42 ∷ pattern)) same ∙ star_later p pattern c name no' h
      | inr differs ↦ absurd (let e : None ≡ Some tail = sym (ap (λ (b : Bool). if b then Some name else None) differs) ∙ found in cc)
    ]

-- Two stars in a row are one.
pub star_twice : (pattern name : List ℕ) → is_like (42 ∷ 42 ∷ pattern) name ≡ is_like (42 ∷ pattern) name
unfolding is_like
star_twice pattern [] = refl
star_twice pattern (c ∷ name) =
    elim (cases_Bool (is_like (42 ∷ pattern) (c ∷ name))) [
      | inl yes' ↦ ap (λ (b : Bool). b || is_like (42 ∷ 42 ∷ pattern) name) yes' ∙ sym yes'
      | inr no' ↦
          ap (λ (b : Bool). b || is_like (42 ∷ 42 ∷ pattern) name) no' ∙ star_twice pattern name
          ∙ (or_parts (is_like pattern (c ∷ name)) (is_like (42 ∷ pattern) name) no').1 ∙ sym no'
    ]

-- A name that differs from a pattern after a star is like it from a later byte on or not at all.
pub star_on : (pattern : List ℕ) (c : ℕ) (name : List ℕ) → is_like pattern (c ∷ name) ≡ false → is_like (42 ∷ pattern) (c ∷ name) ≡ is_like (42 ∷ pattern) name
unfolding is_like
star_on pattern c name no' = ap (λ (b : Bool). b || is_like (42 ∷ pattern) name) no'

pub star_at_end : (pattern name : List ℕ) → length name ≡ 0 → is_like (42 ∷ pattern) name ≡ is_like pattern name
unfolding is_like
star_at_end pattern [] h = refl
star_at_end pattern (c ∷ name) h = absurd (omega (arith, h))

-- Two tests agree if each is true where the other is.
agree : (a b : Bool) → (a ≡ true → b ≡ true) → (b ≡ true → a ≡ true) → a ≡ b
agree true b f g = sym (f refl)
agree false true f g = g refl
agree false false f g = refl

-- A star that is met leaves one place to come back to.
pub star_met : (pattern name wanted : List ℕ) (p : ℕ) (rest left : List ℕ) → wanted ≡ p ∷ rest → p ≡ 42 → is_like wanted left ≡ is_like pattern name →
    (is_like (42 ∷ pattern) name ≡ true → is_like (42 ∷ wanted) left ≡ true) → length wanted ≤ length pattern → length left ≤ length name →
    IsAfterStar pattern name rest left
star_met pattern name wanted p rest left parts is same later fewer left_of =
    let e : wanted ≡ 42 ∷ rest = parts ∙ ap (λ (k : ℕ). k ∷ rest) is in
    let whole : is_like (42 ∷ rest) left ≡ is_like pattern name = ap (λ (l : List ℕ). is_like l left) (sym e) ∙ same in
    let size : length wanted ≡ length (42 ∷ rest) = ap length e in
    record {
      same = sym whole;
      later = agree (is_like (42 ∷ pattern) name) (is_like (42 ∷ rest) left)
          (λ h. sym (star_twice rest left) ∙ ap (λ (l : List ℕ). is_like (42 ∷ l) left) (sym e) ∙ later h)
          (λ h. star_for_none pattern name (sym whole ∙ h));
      shorter = omega arith;
      left_of = left_of;
    }

-- ---- ends

pub ends_like : (pattern name : List ℕ) → length pattern ≡ 0 → nat_eq (length name) 0 ≡ true → is_like pattern name ≡ true
unfolding is_like
ends_like [] [] h k = refl
ends_like [] (c ∷ name) h k = absurd (let e = eqb-true (length (c ∷ name)) 0 k in omega (arith, e))
ends_like (p ∷ pattern) name h k = absurd (omega (arith, h))

pub ends_unlike : (pattern name : List ℕ) → length pattern ≡ 0 → nat_eq (length name) 0 ≡ false → is_like pattern name ≡ false
unfolding is_like
ends_unlike [] [] h k = absurd (let e : true ≡ false = k in cc)
ends_unlike [] (c ∷ name) h k = refl
ends_unlike (p ∷ pattern) name h k = absurd (omega (arith, h))

-- ---- by which goals are answered

pub ruleset meetings = (like_after_byte, unlike_at_byte, star_after_byte, ends_like, ends_unlike)
