-- Fields that follow one another, each as a value and the bytes that encode it.
use Rattle.std.specs.Prelude.{List, ℕ}
use Rattle.std.proofs.Common.{refl}
use Rattle.ssh_model.specs.Laws.Reading.{OneForm}
use Rattle.ssh_model.specs.Protocol.Wire.Message.{Then, IsEnd}
use Rattle.ssh_model.specs.Laws.Encodings.{one_uint32}
use Rattle.ssh_message.specs.Meaning.{IsZero}

-- a value, and then the values after it
abbrev pub Both : {V W : Type 0} → (V → List ℕ → Type 0) → (W → List ℕ → Type 0) → V × W → List ℕ → Type 0
Both First Second values bytes = Then (First values.0) (Second values.1) bytes

-- no value, at the end of the bytes
abbrev pub IsNothing : Unit {0} → List ℕ → Type 0
IsNothing _ bytes = IsEnd bytes

-- The bytes encode no value.
pub record NoWhole {V : Type 0} (Encodes : V → List ℕ → Type 0) (bytes : List ℕ) : Type 0 where
  pub none : (value : V) → Encodes value bytes → ⊥

-- the reserved number of an offer
pub one_zero : OneForm IsZero
one_zero v w a b x y p q e = let s = one_uint32 0 0 a b x y p q e in (refl, s.1, s.2)
