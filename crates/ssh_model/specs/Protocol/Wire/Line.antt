-- The lines before the first packet (RFC 4253 section 4.2, if nothing else is said). What is own the standard leaves open, or allows
-- more.
use Rattle.std.specs.Prelude.{◌≡◌, ◌<◌, ◌≤◌, ℕ, Bool, true, false, not, nat_le, ◌==◌, ◌&&◌, ◌⊎◌, IsTrue, List, [], ◌∷◌}
use Rattle.std.specs.Prelude.{◌++◌, length, codes, Option, Some, None}
use Rattle.std.specs.List.{list_all}
use Rattle.ssh_model.specs.Protocol.Bounds.{most_other_lines}
use Rattle.ssh_model.specs.declared.refusal.Refusal.TheVariants.{BadLine, BadVersion}
use Rattle.ssh_model.specs.Protocol.Wire.Outcome.{Outcome, Outcome.OtherLine, Outcome.VersionLine, Outcome.RefusedLine}

-- ---- lines

-- CR LF
abbrev pub line_end : List ℕ
line_end = 13 ∷ 10 ∷ []

-- No line has a byte 0, and CR and LF stand only at its end (own).
abbrev pub is_text_byte : ℕ → Bool
is_text_byte b = not (b == 0) && (not (b == 10) && not (b == 13))

-- bytes other than 0, LF and CR
abbrev pub IsText : List ℕ → Type 0
IsText text = IsTrue (list_all is_text_byte text)

-- The bytes are a line: a text, then CR LF, at most 255 bytes in all, which the standard asks of version lines alone
-- (RFC 4253 section 4.2, own).
pub record IsLine (text bytes : List ℕ) : Type 0 where
  pub is_text : IsText text
  pub parts : bytes ≡ text ++ line_end
  pub size : length bytes ≤ 255

-- ---- version lines

-- "SSH-"
abbrev pub opening : List ℕ
opening = codes "SSH-"

-- printable US-ASCII other than space and minus
abbrev pub is_version_byte : ℕ → Bool
is_version_byte b = (nat_le 33 b && nat_le b 126) && not (b == 45)

-- a space and the comments, if there are any
abbrev pub comment_text : Option (List ℕ) → List ℕ
comment_text None = []
comment_text (Some comments) = 32 ∷ comments

-- The text after the second minus: the software's version and the comments. Own: the version has at least one
-- character, and the comments are any bytes that a line may have (RFC 4253 section 4.2, own).
pub record IsSoftware (software : List ℕ) (comments : Option (List ℕ)) (text : List ℕ) : Type 0 where
  pub some : 1 ≤ length software
  pub printable : IsTrue (list_all is_version_byte software)
  pub parts : text ≡ software ++ comment_text comments

-- "SSH-", the version of the protocol, a minus, and the text after it
pub record IsVersionText (protoversion software : List ℕ) (comments : Option (List ℕ)) (text : List ℕ) : Type 0 where
  pub after : List ℕ
  pub printable : IsTrue (list_all is_version_byte protoversion)
  pub parts : text ≡ opening ++ protoversion ++ 45 ∷ after
  pub is_software : IsSoftware software comments after

-- 2.0, and from a server also 1.99, which means the same (RFC 4253 section 5.1). Own: 1.99 is not accepted from a client.
abbrev pub IsAccepted : (from_server : Bool) → List ℕ → Type 0
IsAccepted from_server protoversion =
    (protoversion ≡ codes "2.0") ⊎ ((from_server ≡ true) × (protoversion ≡ codes "1.99"))

-- ---- other lines

-- The text doesn't begin with "SSH-", so it is not that of a version line, not even of a malformed one.
abbrev pub IsOther : List ℕ → Type 0
IsOther text = (rest : List ℕ) → text ≡ opening ++ rest → ⊥

-- ---- what an end makes of them

-- No minus stands in the bytes.
abbrev pub HasNoMinus : List ℕ → Type 0
HasNoMinus bytes = IsTrue (list_all (λ b. not (b == 45)) bytes)

-- The text begins with "SSH-", and a minus follows. The version of the protocol stands before the first minus.
pub record HasVersion (protoversion after text : List ℕ) : Type 0 where
  pub parts : text ≡ opening ++ protoversion ++ 45 ∷ after
  pub first : HasNoMinus protoversion

-- The outcome of a complete line with this text, at an end that awaits the version line and took so many other lines. The end
-- refuses a bad line, and a version of the protocol that it doesn't accept (RFC 4253 section 4.2, own).
pub data LineIs (from_server : Bool) (others : ℕ) (text : List ℕ) : Outcome → Type 0 where
  other : from_server ≡ true → others < most_other_lines → IsOther text → LineIs from_server others text (OtherLine text)
  other_from_client : from_server ≡ false → IsOther text → LineIs from_server others text (RefusedLine BadLine)
  too_many_others : from_server ≡ true → most_other_lines ≤ others → IsOther text →
      LineIs from_server others text (RefusedLine BadLine)
  no_minus : (rest : List ℕ) → text ≡ opening ++ rest → HasNoMinus rest →
      LineIs from_server others text (RefusedLine BadLine)
  bad_version : (protoversion after : List ℕ) → HasVersion protoversion after text →
      (IsAccepted from_server protoversion → ⊥) → LineIs from_server others text (RefusedLine BadVersion)
  bad_software : (protoversion after : List ℕ) → HasVersion protoversion after text →
      IsAccepted from_server protoversion →
      ((software : List ℕ) (comments : Option (List ℕ)) → IsSoftware software comments after → ⊥) →
      LineIs from_server others text (RefusedLine BadLine)
  version : (protoversion software : List ℕ) (comments : Option (List ℕ)) →
      IsVersionText protoversion software comments text →
      IsAccepted from_server protoversion → LineIs from_server others text (VersionLine text)

-- One unit of the stream, before the version line was taken. It is a complete line, or the bytes up to the first byte that
-- makes them a bad line. A text of 254 bytes is refused with the next byte. The outcome is a line or a refusal (own).
pub data LineUnit (from_server : Bool) (others : ℕ) (unit : List ℕ) : Outcome → Type 0 where
  line : {outcome : Outcome} (text : List ℕ) → IsLine text unit → LineIs from_server others text outcome →
      LineUnit from_server others unit outcome
  zero_byte : (text : List ℕ) → IsText text → length text < 255 → unit ≡ text ++ 0 ∷ [] →
      LineUnit from_server others unit (RefusedLine BadLine)
  lf_without_cr : (text : List ℕ) → IsText text → length text < 255 → unit ≡ text ++ 10 ∷ [] →
      LineUnit from_server others unit (RefusedLine BadLine)
  cr_without_lf : (text : List ℕ) (byte : ℕ) → IsText text → length text < 254 → (byte ≡ 10 → ⊥) →
      unit ≡ text ++ 13 ∷ byte ∷ [] → LineUnit from_server others unit (RefusedLine BadLine)
  too_long : (text : List ℕ) (byte : ℕ) → IsText text → length text ≡ 254 → unit ≡ text ++ byte ∷ [] →
      LineUnit from_server others unit (RefusedLine BadLine)
