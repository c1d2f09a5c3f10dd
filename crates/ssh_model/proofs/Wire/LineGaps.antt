-- Bytes before the version line are the beginning of a line, or have a unit in front.
use Rattle.std.proofs.Common.{◌≡◌, ℕ, ◌<◌, ◌≤◌, Bool, true, false, not, List, [], ◌∷◌, ◌++◌, length, ◌⊎◌, inl, inr, refl, ap, sym, subst, ◌∙◌, arith, append_assoc, append-nil, length-append, Option, Some, None}
use Rattle.std.proofs.lemmas.Bool.{cases_lt, cases_eq, cases_Bool, ne_eqb, and_from}
use Rattle.std.proofs.lemmas.List.Folds.{list_all-append}
use Rattle.std.specs.Prelude.{codes}
use Rattle.std.specs.List.{list_all}
use Rattle.ssh_model.specs.Protocol.Wire.Outcome.{Outcome, Outcome.OtherLine, Outcome.VersionLine, Outcome.RefusedLine}
use Rattle.ssh_model.specs.Laws.Units.{HasUnit, IsPartialLine, IsPartialLine.in_text, IsPartialLine.at_line_end}
use Rattle.ssh_model.specs.Protocol.Wire.Line.{is_text_byte, IsText, line_end, LineIs, LineIs.other, LineIs.other_from_client, LineIs.too_many_others, LineIs.no_minus, LineIs.bad_version, LineIs.bad_software, LineIs.version, LineUnit, LineUnit.line, LineUnit.zero_byte, LineUnit.lf_without_cr, LineUnit.cr_without_lf, LineUnit.too_long, HasNoMinus, HasVersion, IsAccepted, IsSoftware, is_version_byte, comment_text, opening}
use Rattle.ssh_model.proofs.Wire.Lists.{both}
use Rattle.ssh_model.proofs.Wire.LineOutcomes.{one_software}
use Rattle.ssh_model.specs.declared.refusal.Refusal.TheVariants.{BadLine, BadVersion}

-- ---- what a complete line is

begins : (p text : List ℕ) → ((rest : List ℕ) × (text ≡ p ++ rest)) ⊎ ((rest : List ℕ) → text ≡ p ++ rest → ⊥)
begins [] text = inl (text, refl)
begins (a ∷ p) [] = inr (λ rest e. omega (arith, ap length e))
begins (a ∷ p) (b ∷ text) = go (cases_eq b a) (begins p text)
  where
    go : ((b ≡ a) ⊎ (b ≡ a → ⊥)) → (((rest : List ℕ) × (text ≡ p ++ rest)) ⊎ ((rest : List ℕ) → text ≡ p ++ rest → ⊥)) →
        ((rest : List ℕ) × (b ∷ text ≡ a ∷ p ++ rest)) ⊎ ((rest : List ℕ) → b ∷ text ≡ a ∷ p ++ rest → ⊥)
    go (inl e) (inl w) = inl (w.0, cc (e, w.1))
    go (inl e) (inr none) = inr (λ rest f. none rest (cc f))
    go (inr apart) w = inr (λ rest f. apart (cc f))

same : (a b : List ℕ) → (a ≡ b) ⊎ (a ≡ b → ⊥)
same a b = go (begins a b)
  where
    go : ((rest : List ℕ) × (b ≡ a ++ rest)) ⊎ ((rest : List ℕ) → b ≡ a ++ rest → ⊥) → (a ≡ b) ⊎ (a ≡ b → ⊥)
    go (inl w) = next w.0 w.1
      where
        next : (rest : List ℕ) → b ≡ a ++ rest → (a ≡ b) ⊎ (a ≡ b → ⊥)
        next [] e = inl (sym (append-nil a) ∙ sym e)
        next (d ∷ rest) e = inr (λ f. omega (arith, ap length f, ap length e, length-append a (d ∷ rest)))
    go (inr none) = inr (λ e. none [] (sym e ∙ sym (append-nil a)))

minus_in : (text : List ℕ) → HasNoMinus text ⊎ ((p : List ℕ) × (after : List ℕ) × (text ≡ p ++ 45 ∷ after) × HasNoMinus p)
minus_in [] = inl refl
minus_in (b ∷ text) = go (cases_eq b 45) (minus_in text)
  where
    go : ((b ≡ 45) ⊎ (b ≡ 45 → ⊥)) → (HasNoMinus text ⊎ ((p : List ℕ) × (after : List ℕ) × (text ≡ p ++ 45 ∷ after) × HasNoMinus p)) →
        HasNoMinus (b ∷ text) ⊎ ((p : List ℕ) × (after : List ℕ) × (b ∷ text ≡ p ++ 45 ∷ after) × HasNoMinus p)
    go (inl e) w = inr ([], text, cc e, refl)
    go (inr apart) (inl none) = inl (and_from _ _ (ap not (ne_eqb b 45 apart)) none)
    go (inr apart) (inr w) = inr (b ∷ w.0, w.1, ap (λ (l : List ℕ). b ∷ l) w.2, and_from _ _ (ap not (ne_eqb b 45 apart)) w.3)

accepts : (s : Bool) (p : List ℕ) → IsAccepted s p ⊎ (IsAccepted s p → ⊥)
accepts s p = go (same p (codes "2.0")) (cases_Bool s) (same p (codes "1.99"))
  where
    go : ((p ≡ codes "2.0") ⊎ (p ≡ codes "2.0" → ⊥)) → ((s ≡ true) ⊎ (s ≡ false)) → ((p ≡ codes "1.99") ⊎ (p ≡ codes "1.99" → ⊥)) → IsAccepted s p ⊎ (IsAccepted s p → ⊥)
    go (inl e) t w = inl (inl e)
    go (inr x) (inl t) (inl e) = inl (inr (t, e))
    go (inr x) (inl t) (inr y) = inr (elim [ inl e ↦ x e | inr e ↦ y e.1 ])
    go (inr x) (inr f) w = inr (elim [ inl e ↦ x e | inr e ↦ let z : false ≡ true = sym f ∙ e.0 in cc z ])

-- printable bytes and then a comment, if any
abbrev Splits : List ℕ → Type 0
Splits text = (a : List ℕ) × (x : Option (List ℕ)) × (list_all is_version_byte a ≡ true) × (text ≡ a ++ comment_text x)

splits : (text : List ℕ) → Splits text ⊎ (Splits text → ⊥)
splits [] = inl ([], None, refl, refl)
splits (b ∷ text) = go (cases_Bool (is_version_byte b)) (splits text)
  where
    more : is_version_byte b ≡ true → (a : List ℕ) (x : Option (List ℕ)) → list_all is_version_byte a ≡ true → b ∷ text ≡ a ++ comment_text x → Splits text
    more v [] None h e = absurd (omega (arith, ap length e))
    more v [] (Some x) h e =
        let f : b ≡ 32 = cc e in
        absurd (let g : true ≡ false = sym v ∙ ap is_version_byte f in cc g)
    more v (d ∷ a) x h e = (a, x, (both (is_version_byte d) (list_all is_version_byte a) h).1, cc e)

    never : is_version_byte b ≡ false → (b ≡ 32 → ⊥) → (a : List ℕ) (x : Option (List ℕ)) → list_all is_version_byte a ≡ true → b ∷ text ≡ a ++ comment_text x → ⊥
    never v w [] None h e = omega (arith, ap length e)
    never v w [] (Some x) h e = w (cc e)
    never v w (d ∷ a) x h e =
        let f : d ≡ b = cc e in
        let g : true ≡ false = sym (both (is_version_byte d) (list_all is_version_byte a) h).0 ∙ ap is_version_byte f ∙ v in cc g

    go : ((is_version_byte b ≡ true) ⊎ (is_version_byte b ≡ false)) → (Splits text ⊎ (Splits text → ⊥)) → Splits (b ∷ text) ⊎ (Splits (b ∷ text) → ⊥)
    go (inl v) (inl w) = inl (b ∷ w.0, w.1, and_from _ _ v w.2, ap (λ (l : List ℕ). b ∷ l) w.3)
    go (inl v) (inr none) = inr (λ s. none (more v s.0 s.1 s.2 s.3))
    go (inr v) w = space (cases_eq b 32)
      where
        space : ((b ≡ 32) ⊎ (b ≡ 32 → ⊥)) → Splits (b ∷ text) ⊎ (Splits (b ∷ text) → ⊥)
        space (inl e) = inl ([], Some text, refl, ap (λ (n : ℕ). n ∷ text) e)
        space (inr apart) = inr (λ s. never v apart s.0 s.1 s.2 s.3)

named : (text : List ℕ) → ((a : List ℕ) × (x : Option (List ℕ)) × IsSoftware a x text) ⊎ ((a : List ℕ) (x : Option (List ℕ)) → IsSoftware a x text → ⊥)
named text = go (splits text)
  where
    go : (Splits text ⊎ (Splits text → ⊥)) → ((a : List ℕ) × (x : Option (List ℕ)) × IsSoftware a x text) ⊎ ((a : List ℕ) (x : Option (List ℕ)) → IsSoftware a x text → ⊥)
    go (inl s) = some (s.0) (s.1) (s.2) (s.3)
      where
        some : (a : List ℕ) (x : Option (List ℕ)) → list_all is_version_byte a ≡ true → text ≡ a ++ comment_text x →
            ((a : List ℕ) × (x : Option (List ℕ)) × IsSoftware a x text) ⊎ ((a : List ℕ) (x : Option (List ℕ)) → IsSoftware a x text → ⊥)
        some [] x h e = inr (λ b y s. let r = one_software b y [] x s.printable h (sym s.parts ∙ e) in omega (arith, s.some, ap length r.0))
        some (d ∷ a) x h e = inl (d ∷ a, x, record { some = omega arith; printable = h; parts = e })
    go (inr none) = inr (λ a x s. none (a, x, s.printable, s.parts))

abbrev Judged : Bool → ℕ → List ℕ → Type 0
Judged s n text = (o : Outcome) × LineIs s n text o

judged : (s : Bool) (n : ℕ) (text : List ℕ) → Judged s n text
judged s n text = go (begins opening text)
  where
    found : (p after : List ℕ) → HasVersion p after text → Judged s n text
    found p after h = next (accepts s p) (named after)
      where
        next : (IsAccepted s p ⊎ (IsAccepted s p → ⊥)) → ((a : List ℕ) × (x : Option (List ℕ)) × IsSoftware a x after) ⊎ ((a : List ℕ) (x : Option (List ℕ)) → IsSoftware a x after → ⊥) → Judged s n text
        next (inr bad) w = (RefusedLine BadVersion, bad_version p after h bad)
        next (inl good) (inr none) = (RefusedLine BadLine, bad_software p after h good none)
        next (inl good) (inl w) = (VersionLine text, version p w.0 w.1 (record { after = after; printable = printable good; parts = h.parts; is_software = w.2 }) good)
          where
            printable : IsAccepted s p → list_all is_version_byte p ≡ true
            printable (inl e) = rw e refl
            printable (inr e) = rw (e.1) refl

    go : ((rest : List ℕ) × (text ≡ opening ++ rest)) ⊎ ((rest : List ℕ) → text ≡ opening ++ rest → ⊥) → Judged s n text
    go (inl w) = minus (minus_in w.0)
      where
        minus : (HasNoMinus w.0 ⊎ ((p : List ℕ) × (after : List ℕ) × (w.0 ≡ p ++ 45 ∷ after) × HasNoMinus p)) → Judged s n text
        minus (inl none) = (RefusedLine BadLine, no_minus w.0 w.1 none)
        minus (inr m) = found m.0 m.1 (record { parts = w.1 ∙ ap (λ (l : List ℕ). opening ++ l) m.2; first = m.3 })
    go (inr is) = from (cases_Bool s) (cases_lt n 64)
      where
        from : ((s ≡ true) ⊎ (s ≡ false)) → ((n < 64) ⊎ (64 ≤ n)) → Judged s n text
        from (inr client) w = (RefusedLine BadLine, other_from_client client is)
        from (inl server) (inl few) = (OtherLine text, other server few is)
        from (inl server) (inr many) = (RefusedLine BadLine, too_many_others server many is)

-- ---- what bytes are

text_byte : (b : ℕ) → (b ≡ 0 → ⊥) → (b ≡ 10 → ⊥) → (b ≡ 13 → ⊥) → is_text_byte b ≡ true
text_byte b x y z = and_from _ _ (ap not (ne_eqb b 0 x)) (and_from _ _ (ap not (ne_eqb b 10 y)) (ap not (ne_eqb b 13 z)))

one_more : (text : List ℕ) (b : ℕ) → IsText text → is_text_byte b ≡ true → IsText (text ++ b ∷ [])
one_more text b t h = list_all-append is_text_byte text (b ∷ []) ∙ and_from _ _ t (and_from _ _ h refl)

module _ (s : Bool) (n : ℕ) where
  abbrev Found : List ℕ → Type 0
  Found bytes = IsPartialLine bytes ⊎ HasUnit (LineUnit s n) bytes

  taken : (bytes unit more : List ℕ) (o : Outcome) → unit ++ more ≡ bytes → LineUnit s n unit o → Found bytes
  taken bytes unit more o e u = inr (record { unit = unit; more = more; outcome = o; parts = e; is_unit = u })

  at_cr : (text bytes rest : List ℕ) → IsText text → length text < 255 → text ++ 13 ∷ rest ≡ bytes → Found bytes
  at_cr text bytes [] t room e = go (cases_lt (length text) 254)
    where
      go : ((length text < 254) ⊎ (254 ≤ length text)) → Found bytes
      go (inl small) = inl (at_line_end text t (sym e) (omega (arith, small, ap length e, length-append text (13 ∷ []))))
      go (inr big) = taken bytes (text ++ 13 ∷ []) [] (RefusedLine BadLine) (append-nil (text ++ 13 ∷ []) ∙ e) (too_long text 13 t (omega (arith, room, big)) refl)
  at_cr text bytes (b ∷ rest) t room e = go (cases_lt (length text) 254) (cases_eq b 10)
    where
      go : ((length text < 254) ⊎ (254 ≤ length text)) → ((b ≡ 10) ⊎ (b ≡ 10 → ⊥)) → Found bytes
      go (inr big) w = taken bytes (text ++ 13 ∷ []) (b ∷ rest) (RefusedLine BadLine) (append_assoc text (13 ∷ []) (b ∷ rest) ∙ e) (too_long text 13 t (omega (arith, room, big)) refl)
      go (inl small) (inr apart) =
          taken bytes (text ++ 13 ∷ b ∷ []) rest (RefusedLine BadLine) (append_assoc text (13 ∷ b ∷ []) rest ∙ e) (cr_without_lf text b t small apart refl)
      go (inl small) (inl lf) =
          let j = judged s n text in
          taken bytes (text ++ line_end) rest (outcome_of j) (append_assoc text line_end rest ∙ ap (λ (k : ℕ). text ++ 13 ∷ k ∷ rest) (sym lf) ∙ e) (the_line j)
        where
          outcome_of : Judged s n text → Outcome
          outcome_of j = j.0

          the_line : (j : Judged s n text) → LineUnit s n (text ++ line_end) (outcome_of j)
          the_line j = line text (record { is_text = t; parts = refl; size = omega (arith, small, length-append text line_end) }) j.1

  found_from : (rest text bytes : List ℕ) → IsText text → length text < 255 → text ++ rest ≡ bytes → Found bytes
  found_from [] text bytes t room e =
      let same : text ≡ bytes = sym (append-nil text) ∙ e in
      inl (in_text (subst (λ (l : List ℕ). IsText l) same t) (omega (arith, room, ap length same)))
  found_from (b ∷ rest) text bytes t room e = go (cases_eq b 0) (cases_eq b 10) (cases_eq b 13) (cases_lt (length text) 254) (found_from rest (text ++ b ∷ []) bytes)
    where
      front : (text ++ b ∷ []) ++ rest ≡ bytes
      front = append_assoc text (b ∷ []) rest ∙ e

      go : ((b ≡ 0) ⊎ (b ≡ 0 → ⊥)) → ((b ≡ 10) ⊎ (b ≡ 10 → ⊥)) → ((b ≡ 13) ⊎ (b ≡ 13 → ⊥)) → ((length text < 254) ⊎ (254 ≤ length text)) →
          (IsText (text ++ b ∷ []) → length (text ++ b ∷ []) < 255 → (text ++ b ∷ []) ++ rest ≡ bytes → Found bytes) → Found bytes
      go (inl z) y x w next = taken bytes (text ++ b ∷ []) rest (RefusedLine BadLine) front (zero_byte text t room (ap (λ (k : ℕ). text ++ k ∷ []) z))
      go (inr z) (inl y) x w next = taken bytes (text ++ b ∷ []) rest (RefusedLine BadLine) front (lf_without_cr text t room (ap (λ (k : ℕ). text ++ k ∷ []) y))
      go (inr z) (inr y) (inl x) w next = at_cr text bytes rest t room (ap (λ (k : ℕ). text ++ k ∷ rest) (sym x) ∙ e)
      go (inr z) (inr y) (inr x) (inr big) next = taken bytes (text ++ b ∷ []) rest (RefusedLine BadLine) front (too_long text b t (omega (arith, room, big)) refl)
      go (inr z) (inr y) (inr x) (inl small) next = next (one_more text b t (text_byte b z y x)) (omega (arith, small, length-append text (b ∷ []))) front

  pub line_found : (bytes : List ℕ) → IsPartialLine bytes ⊎ HasUnit (LineUnit s n) bytes
  line_found bytes = found_from bytes [] bytes refl (omega arith) refl
