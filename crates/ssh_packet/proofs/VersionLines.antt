-- What the text of a complete line is, by its parts.
use Rattle.std.proofs.Common.{◌≡◌, ℕ, ◌+◌, Bool, true, false, List, ◌∷◌, ◌++◌, take, drop, inl, inr, refl, ap, sym, subst, ◌∙◌, arith}
use Rattle.std.specs.List.{list_all}
use Rattle.std.proofs.lemmas.List.{drop-take, drop-drop}
use Rattle.ssh_model.specs.declared.refusal.Refusal.TheVariants.{BadLine, BadVersion}
use Rattle.ssh_model.specs.Protocol.Wire.Outcome.{Outcome.VersionLine, Outcome.RefusedLine}
use Rattle.ssh_model.specs.Protocol.Wire.Line.{HasVersion, IsAccepted, LineIs, LineIs.bad_version, LineIs.bad_software, LineIs.version, is_version_byte, opening}
use Rattle.ssh_packet.specs.LineKinds.{HasMinusAt, HasSoftware}
use Rattle.ssh_packet.proofs.Softwares.{IsFirstMinus}

-- The text begins with "SSH-", and the first minus after it stands there.
pub record IsSplit (at : ℕ) (rest text : List ℕ) : Type 0 where
  pub opens : text ≡ opening ++ rest
  pub minus : IsFirstMinus at rest

has_version : (at : ℕ) (rest text : List ℕ) → IsSplit at rest text → HasVersion (take at rest) (drop (at + 1) rest) text
has_version at rest text s = record { parts = s.opens ∙ ap (λ (l : List ℕ). opening ++ l) s.minus.parts; first = s.minus.first }

-- a test that says whether
abbrev pub Tells : Bool → Type 0 → Type 0
Tells r P = (r ≡ true → P) × (P → r ≡ true)

untold : (r : Bool) (P : Type 0) → Tells r P → r ≡ false → P → ⊥
untold r P t f p = let e : true ≡ false = sym (t.1 p) ∙ f in cc e

pub not_accepted : (s : Bool) (n at : ℕ) (rest text : List ℕ) (r : Bool) → IsSplit at rest text → Tells r (IsAccepted s (take at rest)) → r ≡ false → LineIs s n text (RefusedLine BadVersion)
not_accepted s n at rest text r split t f = bad_version (take at rest) (drop (at + 1) rest) (has_version at rest text split) (untold r (IsAccepted s (take at rest)) t f)

pub not_software : (s : Bool) (n at : ℕ) (rest text : List ℕ) (q r : Bool) → IsSplit at rest text → Tells q (IsAccepted s (take at rest)) → q ≡ true → Tells r (HasSoftware (drop (at + 1) rest)) → r ≡ false → LineIs s n text (RefusedLine BadLine)
not_software s n at rest text q r split t e u f =
    bad_software (take at rest) (drop (at + 1) rest) (has_version at rest text split) (t.0 e) (λ software comments is. untold r (HasSoftware (drop (at + 1) rest)) u f (software, comments, is))

printable : (s : Bool) (protoversion : List ℕ) → IsAccepted s protoversion → list_all is_version_byte protoversion ≡ true
printable s protoversion (inl e) = rw e refl
printable s protoversion (inr e) = rw (e.1) refl

minus_at : (at : ℕ) (rest : List ℕ) → IsFirstMinus at rest → HasMinusAt (at + 4) (opening ++ rest)
minus_at at rest m =
    let text : List ℕ = opening ++ rest in
    let sum : at + 4 ≡ 4 + at = omega arith in
    let next : at + 4 + 1 ≡ 4 + (at + 1) = omega arith in
    let front : drop 4 (take (at + 4) text) ≡ take at rest = ap (λ (k : ℕ). drop 4 (take k text)) sum ∙ drop-take 4 at text in
    let back : drop (at + 4 + 1) text ≡ drop (at + 1) rest = ap (λ (k : ℕ). drop k text) next ∙ sym (drop-drop (at + 1) 4 text) in
    let within = m.within in
    let parts : text ≡ opening ++ take at rest ++ 45 ∷ drop (at + 1) rest = ap (λ (l : List ℕ). opening ++ l) m.parts in
    let first : HasVersion (take at rest) (drop (at + 1) rest) text = record { parts = parts; first = m.first } in
    let before : HasVersion (drop 4 (take (at + 4) text)) (drop (at + 1) rest) text = subst (λ (l : List ℕ). HasVersion l (drop (at + 1) rest) text) (sym front) first in
    record { from = omega arith; to = omega arith; has = subst (λ (l : List ℕ). HasVersion (drop 4 (take (at + 4) text)) l text) (sym back) before }

pub is_version : (s : Bool) (n at : ℕ) (rest text : List ℕ) (q r : Bool) → IsSplit at rest text → Tells q (IsAccepted s (take at rest)) → q ≡ true → Tells r (HasSoftware (drop (at + 1) rest)) → r ≡ true → LineIs s n text (VersionLine text) × HasMinusAt (at + 4) text
is_version s n at rest text q r split t e u f =
    let accepted = t.0 e in
    let software = u.0 f in
    let whole = has_version at rest text split in (
      version (take at rest) software.0 software.1 (record { after = drop (at + 1) rest; printable = printable s (take at rest) accepted; parts = whole.parts; is_software = software.2 }) accepted,
      subst (λ (l : List ℕ). HasMinusAt (at + 4) l) (sym split.opens) (minus_at at rest split.minus),
    )
