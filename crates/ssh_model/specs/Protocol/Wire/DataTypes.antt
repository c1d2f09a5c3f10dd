-- The data types of SSH: which bytes encode which value. Each type is a relation of a value and bytes (RFC 4251 section 5, if nothing
-- else is said).
use Rattle.std.specs.Prelude.{◌≡◌, ℕ, ◌+◌, ◌*◌, ◌^◌, ◌<◌, Bool, true, false, nat_eq, nat_lt, nat_le, ◌==◌, ◌&&◌}
use Rattle.std.specs.Prelude.{if◌then◌else◌, IsTrue, List, [], ◌∷◌, ◌++◌, length, count_by}
use Rattle.std.specs.List.{AllByRecursion, join_with_byte, list_all}
use Rattle.std.specs.Cmp.Lexicographic.{pointwise}
use Rattle.ssh_model.specs.Protocol.Bounds.{longest_name}

-- All of these numbers are below 256.
abbrev pub AreBytes : List ℕ → Type 0
AreBytes bytes = AllByRecursion (λ b. b < 256) bytes

-- the number that bytes stand for, the most significant byte first
abbrev pub number : List ℕ → ℕ
number [] = 0
number (b ∷ bs) = b * 256 ^ length bs + number bs

-- The two texts are the same (own).
abbrev pub is_text : List ℕ → List ℕ → Bool
is_text xs ys = pointwise nat_eq xs ys

-- ---- byte, boolean, uint32, uint64, string

-- one byte
abbrev pub IsByte : ℕ → List ℕ → Type 0
IsByte n bytes = bytes ≡ n ∷ []

-- 0 is FALSE, and every other byte is TRUE
abbrev pub IsBoolean : Bool → List ℕ → Type 0
IsBoolean truth bytes = (n : ℕ) × (bytes ≡ n ∷ []) × (truth ≡ nat_lt 0 n)

-- the same as it is written: FALSE as 0, TRUE as 1
abbrev pub IsWrittenBoolean : Bool → List ℕ → Type 0
IsWrittenBoolean truth bytes = bytes ≡ (if truth then 1 else 0) ∷ []

-- The bytes encode the number, the most significant byte first, in this many bytes.
pub record IsUnsigned (size n : ℕ) (bytes : List ℕ) : Type 0 where
  pub are_bytes : AreBytes bytes
  pub count : length bytes ≡ size
  pub value : number bytes ≡ n

-- A number as a uint32, in four bytes.
abbrev pub IsUint32 : ℕ → List ℕ → Type 0
IsUint32 n bytes = IsUnsigned 4 n bytes

-- a uint32 length, and that many bytes
pub record IsString (text bytes : List ℕ) : Type 0 where
  pub front : List ℕ
  pub size : IsUint32 (length text) front
  pub parts : bytes ≡ front ++ text

-- ---- names and name-lists

-- the separator of names
abbrev pub is_comma : ℕ → Bool
is_comma c = c == 44

-- printable US-ASCII other than the comma (RFC 4251 sections 5 and 6)
abbrev pub is_name_byte : ℕ → Bool
is_name_byte c = (nat_le 33 c && nat_le c 126) && (if is_comma c then false else true)

-- 1 to `longest_name` such bytes, with at most one at-sign among them (RFC 4251 sections 5 and 6)
abbrev pub is_name : List ℕ → Bool
is_name name =
    ((nat_le 1 (length name) && nat_le (length name) longest_name) && list_all is_name_byte name)
    && nat_le (count_by (λ c. c == 64) name) 1

-- The text is these names, joined by commas. The text of no names is empty.
pub record IsNameText (names : List (List ℕ)) (text : List ℕ) : Type 0 where
  pub all : IsTrue (list_all is_name names)
  pub joined : text ≡ join_with_byte 44 names

-- a string that holds names joined by commas
pub record IsNameList (names : List (List ℕ)) (bytes : List ℕ) : Type 0 where
  pub body : List ℕ
  pub text : IsNameText names body
  pub string : IsString body bytes
