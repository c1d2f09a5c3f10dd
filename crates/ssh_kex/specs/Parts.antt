-- The functions of the supplied parts.
use Rattle.std.specs.Prelude.{ℕ, List}

-- The host keys of a server: its public key under a name of an algorithm, and its signature of a hash with that key.
pub record HostKeys : Type 0 where
  pub key : List ℕ → List ℕ
  pub signature : List ℕ → List ℕ → List ℕ
