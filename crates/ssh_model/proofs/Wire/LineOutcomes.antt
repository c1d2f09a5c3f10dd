-- A unit before the version line has one outcome, and a version line has one version.
use Rattle.std.proofs.Common.{◌≡◌, ℕ, Bool, true, false, not, ◌&&◌, leb, eqb, ltb, cond, List, [], ◌∷◌, ◌++◌, ◌⊎◌, inl, inr, refl, ap, sym, subst, ◌∙◌, append_assoc, Option, Some, None}
use Rattle.std.proofs.lemmas.Bool.{lt-ltb, le-ltb}
use Rattle.std.specs.List.{list_all}
use Rattle.ssh_model.specs.Protocol.Wire.Outcome.{Outcome, Outcome.OtherLine, Outcome.VersionLine, Outcome.RefusedLine}
use Rattle.ssh_model.specs.Protocol.Wire.Line.{IsText, IsLine, LineIs, LineIs.other, LineIs.other_from_client, LineIs.too_many_others, LineIs.no_minus, LineIs.bad_version, LineIs.bad_software, LineIs.version, LineUnit, LineUnit.line, LineUnit.zero_byte, LineUnit.lf_without_cr, LineUnit.cr_without_lf, LineUnit.too_long, IsOther, HasNoMinus, HasVersion, IsAccepted, IsSoftware, IsVersionText, is_version_byte, comment_text, opening}
use Rattle.ssh_model.specs.Laws.Units.{IsVersionLine}
use Rattle.ssh_model.proofs.Wire.Lists.{same_last, both, all_there}
use Rattle.ssh_model.proofs.Wire.Lines.{not_text}
use Rattle.ssh_model.specs.declared.refusal.Refusal.TheVariants.{BadLine, BadVersion}

-- ---- minuses

minus_there : (u v : List ℕ) → HasNoMinus (u ++ 45 ∷ v) → ⊥
minus_there u v h = let e : false ≡ true = all_there (λ (b : ℕ). not (eqb b 45)) u v 45 h in cc

-- what stands before the first minus, and after it
first_minus : (p after q later : List ℕ) → HasNoMinus p → HasNoMinus q → p ++ 45 ∷ after ≡ q ++ 45 ∷ later → (p ≡ q) × (after ≡ later)
first_minus [] after [] later h k e = (refl, cc e)
first_minus [] after (b ∷ q) later h k e =
    let f : b ≡ 45 = cc e in
    absurd (minus_there [] q (subst (λ (x : ℕ). HasNoMinus (x ∷ q)) f k))
first_minus (b ∷ p) after [] later h k e =
    let f : b ≡ 45 = cc e in
    absurd (minus_there [] p (subst (λ (x : ℕ). HasNoMinus (x ∷ p)) f h))
first_minus (b ∷ p) after (d ∷ q) later h k e =
    let f : b ≡ d = cc e in
    let t : p ++ 45 ∷ after ≡ q ++ 45 ∷ later = cc e in
    let r = first_minus p after q later (both (not (eqb b 45)) (list_all (λ x. not (eqb x 45)) p) h).1 (both (not (eqb d 45)) (list_all (λ x. not (eqb x 45)) q) k).1 t in
    (cc (f, r.0), r.1)

same_rest : (a b : List ℕ) → opening ++ a ≡ opening ++ b → a ≡ b
same_rest a b e = cc e

one_place : (p after q later text : List ℕ) → HasVersion p after text → HasVersion q later text → (p ≡ q) × (after ≡ later)
one_place p after q later text h k = first_minus p after q later h.first k.first (same_rest (p ++ 45 ∷ after) (q ++ 45 ∷ later) (sym h.parts ∙ k.parts))

printed_no_minus : (p : List ℕ) → list_all is_version_byte p ≡ true → HasNoMinus p
printed_no_minus [] h = refl
printed_no_minus (b ∷ p) h =
    let s = both (is_version_byte b) (list_all is_version_byte p) h in
    let t = both (leb 33 b && leb b 126) (not (eqb b 45)) s.0 in
    rw t.1 (printed_no_minus p s.1)

text_place : (p software text : List ℕ) (comments : Option (List ℕ)) (v : IsVersionText p software comments text) → HasVersion p v.after text
text_place p software text comments v = record { parts = v.parts; first = printed_no_minus p v.printable }

-- ---- one outcome of a complete line

other_outcome : Bool → ℕ → List ℕ → Outcome
other_outcome from_server others text = cond from_server (cond (ltb others 64) (OtherLine text) (RefusedLine BadLine)) (RefusedLine BadLine)

data Version (from_server : Bool) (p after text : List ℕ) : Outcome → Type 0 where
  refused : (IsAccepted from_server p → ⊥) → Version from_server p after text (RefusedLine BadVersion)
  no_name : IsAccepted from_server p → ((software : List ℕ) (comments : Option (List ℕ)) → IsSoftware software comments after → ⊥) → Version from_server p after text (RefusedLine BadLine)
  accepted : IsAccepted from_server p → (software : List ℕ) (comments : Option (List ℕ)) → IsSoftware software comments after → Version from_server p after text (VersionLine text)

data Kind (from_server : Bool) (others : ℕ) (text : List ℕ) (o : Outcome) : Type 0 where
  is_other : IsOther text → o ≡ other_outcome from_server others text → Kind from_server others text o
  without : (rest : List ℕ) → text ≡ opening ++ rest → HasNoMinus rest → o ≡ RefusedLine BadLine → Kind from_server others text o
  with_minus : (p after : List ℕ) → HasVersion p after text → Version from_server p after text o → Kind from_server others text o

kind : (s : Bool) (n : ℕ) (text : List ℕ) (o : Outcome) → LineIs s n text o → Kind s n text o
unfolding other_outcome
kind s n text _ (other server few is) = is_other is (rw (server, lt-ltb n 64 few) refl)
kind s n text _ (other_from_client client is) = is_other is (rw client refl)
kind s n text _ (too_many_others server many is) = is_other is (rw (server, le-ltb n 64 many) refl)
kind s n text _ (no_minus rest parts none) = without rest parts none refl
kind s n text _ (bad_version p after has bad) = with_minus p after has (refused bad)
kind s n text _ (bad_software p after has good none) = with_minus p after has (no_name good none)
kind s n text _ (version p software comments v good) = with_minus p v.after (text_place p software text comments v) (accepted good software comments v.is_software)

one_version : (s : Bool) (p after text : List ℕ) (a b : Outcome) → Version s p after text a → Version s p after text b → a ≡ b
one_version s p after text _ _ (refused bad) (refused worse) = refl
one_version s p after text _ _ (refused bad) (no_name good none) = absurd (bad good)
one_version s p after text _ _ (refused bad) (accepted good software comments is) = absurd (bad good)
one_version s p after text _ _ (no_name good none) (refused bad) = absurd (bad good)
one_version s p after text _ _ (no_name good none) (no_name better nor) = refl
one_version s p after text _ _ (no_name good none) (accepted better software comments is) = absurd (none software comments is)
one_version s p after text _ _ (accepted good software comments is) (refused bad) = absurd (bad good)
one_version s p after text _ _ (accepted good software comments is) (no_name better none) = absurd (none software comments is)
one_version s p after text _ _ (accepted good software comments is) (accepted better other_software other_comments other_is) = refl

minus_not_there : (rest p after text : List ℕ) → text ≡ opening ++ rest → HasNoMinus rest → HasVersion p after text → ⊥
minus_not_there rest p after text e none h =
    minus_there p after (subst (λ (x : List ℕ). HasNoMinus x) (same_rest rest (p ++ 45 ∷ after) (sym e ∙ h.parts)) none)

one_kind : (s : Bool) (n : ℕ) (text : List ℕ) (a b : Outcome) → Kind s n text a → Kind s n text b → a ≡ b
one_kind s n text a b (is_other is e) (is_other are f) = e ∙ sym f
one_kind s n text a b (is_other is e) (without rest parts none f) = absurd (is rest parts)
one_kind s n text a b (is_other is e) (with_minus p after h v) = absurd (is (p ++ 45 ∷ after) h.parts)
one_kind s n text a b (without rest parts none e) (is_other is f) = absurd (is rest parts)
one_kind s n text a b (without rest parts none e) (without more pieces nor f) = e ∙ sym f
one_kind s n text a b (without rest parts none e) (with_minus p after h v) = absurd (minus_not_there rest p after text parts none h)
one_kind s n text a b (with_minus p after h v) (is_other is f) = absurd (is (p ++ 45 ∷ after) h.parts)
one_kind s n text a b (with_minus p after h v) (without rest parts none f) = absurd (minus_not_there rest p after text parts none h)
one_kind s n text a b (with_minus p after h v) (with_minus q later k w) =
    let e = one_place p after q later text h k in
    let moved : Version s q after text a = subst (λ (x : List ℕ). Version s x after text a) e.0 v in
    let there : Version s q later text a = subst (λ (x : List ℕ). Version s q x text a) e.1 moved in
    one_version s q later text a b there w

-- ---- one outcome of a unit

line_last : (text front bytes : List ℕ) (b : ℕ) → IsLine text bytes → bytes ≡ front ++ b ∷ [] → (front ≡ text ++ 13 ∷ []) × (b ≡ 10)
line_last text front bytes b l e = same_last front (text ++ 13 ∷ []) b 10 (sym e ∙ l.parts ∙ sym (append_assoc text (13 ∷ []) (10 ∷ [])))

no_text : (text front bytes : List ℕ) (b : ℕ) → IsText front → bytes ≡ front ++ b ∷ [] → IsLine text bytes → ⊥
no_text text front bytes b t e l = not_text text 13 refl (subst (λ (x : List ℕ). IsText x) (line_last text front bytes b l e).0 t)

one_text : (text other bytes : List ℕ) → IsLine text bytes → IsLine other bytes → text ≡ other
one_text text second bytes l m =
    let s = line_last second (text ++ 13 ∷ []) bytes 10 m (l.parts ∙ sym (append_assoc text (13 ∷ []) (10 ∷ []))) in
    (same_last text second 13 13 s.0).0

complete : (s : Bool) (n : ℕ) (unit : List ℕ) (o : Outcome) → LineUnit s n unit o →
    ((text : List ℕ) × IsLine text unit × LineIs s n text o) ⊎ ((o ≡ RefusedLine BadLine) × ((text : List ℕ) → IsLine text unit → ⊥))
complete s n u _ (line text l is) = inl (text, l, is)
complete s n u _ (zero_byte text t room e) = inr (refl, λ full l. let z : 0 ≡ 10 = (line_last full text u 0 l e).1 in cc)
complete s n u _ (lf_without_cr text t room e) = inr (refl, λ full l. no_text full text u 10 t e l)
complete s n u _ (cr_without_lf text b t room apart e) =
    inr (refl, λ full l. apart (line_last full (text ++ 13 ∷ []) u b l (e ∙ sym (append_assoc text (13 ∷ []) (b ∷ [])))).1)
complete s n u _ (too_long text b t full e) = inr (refl, λ full l. no_text full text u b t e l)

pub line_outcome : (s : Bool) (n : ℕ) (unit : List ℕ) (a b : Outcome) → LineUnit s n unit a → LineUnit s n unit b → a ≡ b
line_outcome s n unit a b x y = go (complete s n unit a x) (complete s n unit b y)
  where
    go : ((text : List ℕ) × IsLine text unit × LineIs s n text a) ⊎ ((a ≡ RefusedLine BadLine) × ((text : List ℕ) → IsLine text unit → ⊥)) →
        ((text : List ℕ) × IsLine text unit × LineIs s n text b) ⊎ ((b ≡ RefusedLine BadLine) × ((text : List ℕ) → IsLine text unit → ⊥)) → a ≡ b
    go (inl l) (inl m) =
        let moved : LineIs s n m.0 a = subst (λ (t : List ℕ). LineIs s n t a) (one_text l.0 m.0 unit l.1 m.1) l.2 in
        one_kind s n m.0 a b (kind s n m.0 a moved) (kind s n m.0 b m.2)
    go (inl l) (inr m) = absurd (m.1 l.0 l.1)
    go (inr l) (inl m) = absurd (l.1 m.0 m.1)
    go (inr l) (inr m) = l.0 ∙ sym m.0

-- ---- one version of a version line

-- the software's version ends at the first space
pub one_software : (a : List ℕ) (x : Option (List ℕ)) (b : List ℕ) (y : Option (List ℕ)) → list_all is_version_byte a ≡ true → list_all is_version_byte b ≡ true →
    a ++ comment_text x ≡ b ++ comment_text y → (a ≡ b) × (x ≡ y)
one_software [] None [] None h k e = (refl, refl)
one_software [] None [] (Some y) h k e = absurd (cc e)
one_software [] (Some x) [] None h k e = absurd (cc e)
one_software [] (Some x) [] (Some y) h k e = (refl, let f : x ≡ y = cc e in ap Some f)
one_software [] None (c ∷ b) y h k e = absurd (cc e)
one_software [] (Some x) (c ∷ b) y h k e =
    let f : c ≡ 32 = cc e in
    absurd (let g : false ≡ true = subst (λ (d : ℕ). (is_version_byte d && list_all is_version_byte b) ≡ true) f k in cc)
one_software (c ∷ a) x [] None h k e = absurd (cc e)
one_software (c ∷ a) x [] (Some y) h k e =
    let f : c ≡ 32 = cc e in
    absurd (let g : false ≡ true = subst (λ (d : ℕ). (is_version_byte d && list_all is_version_byte a) ≡ true) f h in cc)
one_software (c ∷ a) x (d ∷ b) y h k e =
    let f : c ≡ d = cc e in
    let t : a ++ comment_text x ≡ b ++ comment_text y = cc e in
    let r = one_software a x b y (both (is_version_byte c) (list_all is_version_byte a) h).1 (both (is_version_byte d) (list_all is_version_byte b) k).1 t in
    (cc (f, r.0), r.1)

pub version_line : (p a : List ℕ) (x : Option (List ℕ)) (q b : List ℕ) (y : Option (List ℕ)) (bytes : List ℕ) → IsVersionLine p a x bytes → IsVersionLine q b y bytes → (p ≡ q) × (a ≡ b) × (x ≡ y)
version_line p a x q b y bytes v w =
    let e = one_text v.text w.text bytes v.line w.line in
    let moved : IsVersionText p a x w.text = subst (λ (t : List ℕ). IsVersionText p a x t) e v.version in
    let place = one_place p moved.after q w.version.after w.text (text_place p a w.text x moved) (text_place q b w.text y w.version) in
    let s = moved.is_software in
    let t = w.version.is_software in
    let r = one_software a x b y s.printable t.printable (sym s.parts ∙ place.1 ∙ t.parts) in
    (place.0, r.0, r.1)
