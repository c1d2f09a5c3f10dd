-- The units of a stream before the version line: where they end, and what they are.
use Rattle.std.proofs.Common.{◌≡◌, ℕ, ◌+◌, ◌<◌, Bool, true, false, List, [], ◌∷◌, ◌++◌, length, ◌⊎◌, inl, inr, refl, ap, sym, subst, ◌∙◌, arith, append_assoc, append-nil, length-append}
use Rattle.ssh_model.specs.Protocol.Wire.Outcome.{Outcome}
use Rattle.ssh_model.specs.Protocol.Wire.Line.{is_text_byte, IsText, line_end, LineUnit, LineUnit.line, LineUnit.zero_byte, LineUnit.lf_without_cr, LineUnit.cr_without_lf, LineUnit.too_long}
use Rattle.ssh_model.specs.Laws.Units.{IsPartialLine, IsPartialLine.in_text, IsPartialLine.at_line_end}
use Rattle.ssh_model.proofs.Wire.Lists.{cut, same_last, no_more, all_front, all_there}

-- ---- the beginning of a line

-- a text and CR are no text, nor are a text and a byte 0 or LF
pub not_text : (text : List ℕ) (b : ℕ) → is_text_byte b ≡ false → IsText (text ++ b ∷ []) → ⊥
not_text text b bad t = let e : true ≡ false = sym (all_there is_text_byte text [] b t) ∙ bad in cc

two : (text : List ℕ) (a b : ℕ) → (text ++ a ∷ []) ++ b ∷ [] ≡ text ++ a ∷ b ∷ []
two text a b = append_assoc text (a ∷ []) (b ∷ [])

-- what begins the beginning of a line is the beginning of a line
pub begun_less : (u v b : List ℕ) → u ++ v ≡ b → IsPartialLine b → IsPartialLine u
begun_less u v b e (in_text t short) =
    let whole : IsText (u ++ v) = subst (λ (l : List ℕ). IsText l) (sym e) t in
    in_text (all_front is_text_byte u v whole) (omega (arith, short, ap length e, length-append u v))
begun_less u v b e (at_line_end text t parts short) = go (cut u v text (13 ∷ []) (e ∙ parts))
  where
    room : length u < 255
    room = omega (arith, short, ap length e, length-append u v)

    go : ((x : List ℕ) × (u ++ x ≡ text) × (v ≡ x ++ 13 ∷ [])) ⊎ ((y : ℕ) × (x : List ℕ) × (text ++ y ∷ x ≡ u)) → IsPartialLine u
    go (inl w) =
        let whole : IsText (u ++ w.0) = subst (λ (l : List ℕ). IsText l) (sym w.1) t in
        in_text (all_front is_text_byte u w.0 whole) room
    go (inr w) =
        let sizes : length text + (1 + length w.1) ≡ length u = omega (arith, ap length w.2, length-append text (w.0 ∷ w.1)) in
        let none : length w.1 ≡ 0 = omega (arith, sizes, ap length e, ap length parts, length-append u v, length-append text (13 ∷ [])) in
        let rest : length v ≡ 0 = omega (arith, sizes, ap length e, ap length parts, length-append u v, length-append text (13 ∷ [])) in
        let one : u ++ [] ≡ text ++ 13 ∷ [] = ap (λ (l : List ℕ). u ++ l) (sym (no_more v rest)) ∙ e ∙ parts in
        at_line_end text t (sym (append-nil u) ∙ one) room

-- a text with another byte after it is no partial line, nor is anything with CR and a byte after it
text_over : (text bytes : List ℕ) (b : ℕ) → is_text_byte b ≡ false → (b ≡ 13 → ⊥) → bytes ≡ text ++ b ∷ [] → IsPartialLine bytes → ⊥
text_over text bytes b bad other parts (in_text t short) = not_text text b bad (subst (λ (l : List ℕ). IsText l) parts t)
text_over text bytes b bad other parts (at_line_end t i p short) = other (same_last text t b 13 (sym parts ∙ p)).1

cr_over : (text bytes : List ℕ) (b : ℕ) → bytes ≡ text ++ 13 ∷ b ∷ [] → IsPartialLine bytes → ⊥
cr_over text bytes b parts (in_text t short) =
    let e : true ≡ false = sym (all_there is_text_byte text (b ∷ []) 13 (subst (λ (l : List ℕ). IsText l) parts t)) in cc
cr_over text bytes b parts (at_line_end t i p short) =
    let s = same_last (text ++ 13 ∷ []) t b 13 (two text 13 b ∙ sym parts ∙ p) in
    not_text text 13 refl (subst (λ (l : List ℕ). IsText l) (sym s.0) i)

begun_room : (bytes : List ℕ) → IsPartialLine bytes → length bytes < 255
begun_room bytes (in_text t short) = short
begun_room bytes (at_line_end text t parts short) = short

-- a unit is not the beginning of a line
over : (from_server : Bool) (others : ℕ) (unit : List ℕ) (o : Outcome) → LineUnit from_server others unit o → IsPartialLine unit → ⊥
over s n u _ (line text l is) = cr_over text u 10 l.parts
over s n u _ (zero_byte text t room parts) = text_over text u 0 refl (λ (e : 0 ≡ 13). cc) parts
over s n u _ (lf_without_cr text t room parts) = text_over text u 10 refl (λ (e : 10 ≡ 13). cc) parts
over s n u _ (cr_without_lf text b t room other parts) = cr_over text u b parts
over s n u _ (too_long text b t full parts) = λ g. absurd (omega (arith, begun_room u g, ap length parts, length-append text (b ∷ []), full))

-- all its bytes but the last are
record IsOverOnce (unit : List ℕ) : Type 0 where
  front : List ℕ
  last : ℕ
  parts : unit ≡ front ++ last ∷ []
  buffered : IsPartialLine front

after_cr : (text unit : List ℕ) (b : ℕ) → IsText text → length text < 254 → unit ≡ text ++ 13 ∷ b ∷ [] → IsOverOnce unit
after_cr text unit b t room parts =
    record {
      front = text ++ 13 ∷ [];
      last = b;
      parts = parts ∙ sym (two text 13 b);
      buffered = at_line_end text t refl (omega (arith, room, length-append text (13 ∷ [])));
    }

after_text : (text unit : List ℕ) (b : ℕ) → IsText text → length text < 255 → unit ≡ text ++ b ∷ [] → IsOverOnce unit
after_text text unit b t room parts = record { front = text; last = b; parts = parts; buffered = in_text t room }

over_once : (from_server : Bool) (others : ℕ) (unit : List ℕ) (o : Outcome) → LineUnit from_server others unit o → IsOverOnce unit
over_once s n u _ (line text l is) = after_cr text u 10 l.is_text (omega (arith, l.size, ap length l.parts, length-append text line_end)) l.parts
over_once s n u _ (zero_byte text t room parts) = after_text text u 0 t room parts
over_once s n u _ (lf_without_cr text t room parts) = after_text text u 10 t room parts
over_once s n u _ (cr_without_lf text b t room other parts) = after_cr text u b t room parts
over_once s n u _ (too_long text b t full parts) = after_text text u b t (omega (arith, full)) parts

-- ---- where units end

pub line_alone : (from_server : Bool) (others : ℕ) (u v w : List ℕ) (o p : Outcome) →
    LineUnit from_server others u o → LineUnit from_server others w p → u ++ v ≡ w → v ≡ []
line_alone s n u [] w o p a b e = refl
line_alone s n u (y ∷ v) w o p a b e = let i = over_once s n w p b in absurd (go i (cut u (y ∷ v) i.front (i.last ∷ []) (e ∙ i.parts)))
  where
    go : (i : IsOverOnce w) → ((x : List ℕ) × (u ++ x ≡ i.front) × (y ∷ v ≡ x ++ i.last ∷ [])) ⊎ ((z : ℕ) × (x : List ℕ) × (i.front ++ z ∷ x ≡ u)) → ⊥
    go i (inl c) = over s n u o a (begun_less u c.0 i.front c.1 i.buffered)
    go i (inr c) =
        omega (arith, ap length c.2, length-append i.front (c.0 ∷ c.1), ap length (e ∙ i.parts), length-append u (y ∷ v), length-append i.front (i.last ∷ []))

pub line_some : (from_server : Bool) (others : ℕ) (o : Outcome) → LineUnit from_server others [] o → ⊥
line_some s n o a = over s n [] o a (in_text refl (omega arith))

-- the beginning of a line has no unit in front
pub line_begun : (from_server : Bool) (others : ℕ) (bytes u v : List ℕ) (o : Outcome) → IsPartialLine bytes → u ++ v ≡ bytes → LineUnit from_server others u o → ⊥
line_begun s n bytes u v o b e a = over s n u o a (begun_less u v bytes e b)
