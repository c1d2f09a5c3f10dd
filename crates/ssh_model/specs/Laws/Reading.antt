-- What it means to read a value from the front of some bytes, and to write it at the end of others.
use Rattle.std.specs.Prelude.{◌≡◌, List, ◌++◌, ℕ}

-- Bytes that encode the value stood before the bytes that are left.
pub record Reads (encoded : List ℕ → Type 0) (before after : List ℕ) : Type 0 where
  pub bytes : List ℕ
  pub meets : encoded bytes
  pub parts : before ≡ bytes ++ after

-- No prefix of the bytes encodes a value.
pub record NoFront {V : Type 0} (Encodes : V → List ℕ → Type 0) (before : List ℕ) : Type 0 where
  pub none : (value : V) (bytes after : List ℕ) → Encodes value bytes → before ≡ bytes ++ after → ⊥

-- Bytes that encode the value were put at the end.
pub record Writes (encoded : List ℕ → Type 0) (before after : List ℕ) : Type 0 where
  pub bytes : List ℕ
  pub meets : encoded bytes
  pub parts : after ≡ before ++ bytes

-- The old bytes are unchanged, and more may stand after them.
abbrev pub Extends : List ℕ → List ℕ → Type 0
Extends before after = (more : List ℕ) × (after ≡ before ++ more)

-- No encoding of a value begins with an encoding of another value. So a written value is read again, whatever follows
-- it.
abbrev pub OneForm : {V : Type 0} → (V → List ℕ → Type 0) → Type 0
OneForm {V} Encodes =
    (v w : V) (a b x y : List ℕ) → Encodes v a → Encodes w b → a ++ x ≡ b ++ y → (v ≡ w) × (a ≡ b) × (x ≡ y)

-- A value has one encoding.
abbrev pub OneEncoding : {V : Type 0} → (V → List ℕ → Type 0) → Type 0
OneEncoding {V} Encodes = (v : V) (a b : List ℕ) → Encodes v a → Encodes v b → a ≡ b
