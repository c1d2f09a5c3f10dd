-- The texts of complete lines.
use Rattle.std.proofs.Common.{◌≡◌, ℕ, ◌+◌, ◌<◌, ◌≤◌, Bool, true, false, not, eqb, ltb, eq-eqb, List, [], ◌∷◌, ◌++◌, length, get_or, take, drop, Option, Some, None, MatchOption, refl, ap, sym, ◌∙◌, arith, append-nil, length-append}
use Rattle.std.specs.List.{list_all, position}
use Rattle.std.proofs.lemmas.Bool.{eqb-true, ltb-true, ne_eqb}
use Rattle.ssh_model.specs.Protocol.Wire.Line.{HasNoMinus, IsSoftware, is_version_byte, comment_text}
use Rattle.ssh_packet.specs.LineKinds.{HasSoftware}
use Rattle.ssh_packet.proofs.FirstOthers.{IsFirstOther, first_other, no_other, not_all, one_first}

-- ---- minuses

-- The first minus of the bytes stands there.
pub record IsFirstMinus (at : ℕ) (bytes : List ℕ) : Type 0 where
  pub within : at < length bytes
  pub first : HasNoMinus (take at bytes)
  pub parts : bytes ≡ take at bytes ++ 45 ∷ drop (at + 1) bytes

twice : (b : Bool) → b ≡ not (not b)
twice true = refl
twice false = refl

is_45 : (b : ℕ) → not (eqb b 45) ≡ false → b ≡ 45
is_45 b e = grind (arith, e)

pub minus_cases : (bytes : List ℕ) (place : Option ℕ) → place ≡ position (λ b. eqb b 45) bytes → MatchOption place (HasNoMinus bytes) (λ at. IsFirstMinus at bytes)
minus_cases bytes None e = no_other (λ b. not (eqb b 45)) (λ b. eqb b 45) (λ b. twice (eqb b 45)) bytes (sym e)
minus_cases bytes (Some at) e =
    let f = first_other (λ b. not (eqb b 45)) (λ b. eqb b 45) (λ b. twice (eqb b 45)) bytes at (sym e) in
    record { within = f.within; first = f.before; parts = f.parts ∙ ap (λ (b : ℕ). take at bytes ++ b ∷ drop (at + 1) bytes) (is_45 (get_or bytes at 0) f.here) }

-- ---- the software's version

-- the place of the first byte that no version has
abbrev pub IsPlace : List ℕ → Option ℕ → Type 0
IsPlace bytes place = place ≡ position (λ b. not (is_version_byte b)) bytes

pub whole_version : (bytes : List ℕ) → IsPlace bytes None → 0 < length bytes → HasSoftware bytes
whole_version bytes e some = (bytes, None, record { some = omega (arith, some); printable = no_other is_version_byte (λ b. not (is_version_byte b)) (λ b. refl) bytes (sym e); parts = sym (append-nil bytes) })

pub some_version : (bytes : List ℕ) → HasSoftware bytes → 0 < length bytes
some_version bytes s = let h = s.2 in omega (arith, h.some, ap length h.parts, length-append s.0 (comment_text s.1))

pub version_and_comments : (bytes : List ℕ) (end : ℕ) → IsPlace bytes (Some end) → 0 < end → get_or bytes end 0 ≡ 32 → HasSoftware bytes
version_and_comments bytes end e some space =
    let f = first_other is_version_byte (λ b. not (is_version_byte b)) (λ b. refl) bytes end (sym e) in (
      take end bytes,
      Some (drop (end + 1) bytes),
      record {
        some = grind (arith, f.within, some);
        printable = f.before;
        parts = f.parts ∙ ap (λ (b : ℕ). take end bytes ++ b ∷ drop (end + 1) bytes) space;
      },
    )

pub version_end : (bytes : List ℕ) (end : ℕ) → IsPlace bytes (Some end) → HasSoftware bytes → (0 < end) × (get_or bytes end 0 ≡ 32)
version_end bytes end e s = go (s.1) s.2
  where
    f : IsFirstOther is_version_byte end bytes
    f = first_other is_version_byte (λ b. not (is_version_byte b)) (λ b. refl) bytes end (sym e)

    go : (comments : Option (List ℕ)) → IsSoftware s.0 comments bytes → (0 < end) × (get_or bytes end 0 ≡ 32)
    go None h =
        let same : list_all is_version_byte (take end bytes ++ get_or bytes end 0 ∷ drop (end + 1) bytes) ≡ true = ap (λ (l : List ℕ). list_all is_version_byte l) (sym f.parts ∙ h.parts ∙ append-nil s.0) ∙ h.printable in
        absurd (not_all is_version_byte (take end bytes) (drop (end + 1) bytes) (get_or bytes end 0) f.here same)
    go (Some comments) h =
        let one = one_first is_version_byte (take end bytes) s.0 (drop (end + 1) bytes) comments (get_or bytes end 0) 32 f.before h.printable f.here refl (sym f.parts ∙ h.parts) in
        (grind (arith, f.within, ap length one.0, h.some), one.1)

-- the tests of the code

pub tested_whole : (bytes : List ℕ) (empty : Bool) → empty ≡ eqb (length bytes) 0 → IsPlace bytes None → (not empty ≡ true → HasSoftware bytes) × (HasSoftware bytes → not empty ≡ true)
tested_whole [] empty e p = (λ h. let f : false ≡ true = sym (ap not e) ∙ h in cc f, λ s. absurd (omega (arith, some_version [] s)))
tested_whole (b ∷ bytes) empty e p = (λ h. whole_version (b ∷ bytes) p (omega arith), λ s. ap not (e ∙ ne_eqb (length (b ∷ bytes)) 0 (λ z. omega (arith, z))))

pub tested_space : (bytes : List ℕ) (end : ℕ) → IsPlace bytes (Some end) → 0 < end → (eqb (get_or bytes end 0) 32 ≡ true → HasSoftware bytes) × (HasSoftware bytes → eqb (get_or bytes end 0) 32 ≡ true)
tested_space bytes end e some = (λ h. version_and_comments bytes end e some (eqb-true (get_or bytes end 0) 32 h), λ s. eq-eqb (get_or bytes end 0) 32 (version_end bytes end e s).1)

pub tested_none : (bytes : List ℕ) (end : ℕ) → IsPlace bytes (Some end) → end ≤ 0 → (ltb 0 end ≡ true → HasSoftware bytes) × (HasSoftware bytes → ltb 0 end ≡ true)
tested_none bytes end e none = (λ h. absurd (omega (arith, ltb-true 0 end h)), λ s. absurd (omega (arith, (version_end bytes end e s).0)))
