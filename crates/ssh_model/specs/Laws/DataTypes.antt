-- The data types of SSH (RFC 4251 section 5) that no claim needs: uint64, and mpint as a relation.
use Rattle.std.specs.Prelude.{ℕ, List, ℤ, if◌then◌else◌, nat_lt, ◌*◌, ◌^◌, length, pos, ◌-ℤ◌, ◌≡◌, ◌≤◌}
use Rattle.ssh_model.specs.Protocol.Wire.DataTypes.{IsUnsigned, number, AreBytes, IsString}

-- A number as a uint64, in eight bytes.
abbrev pub IsUint64 : ℕ → List ℕ → Type 0
IsUint64 n bytes = IsUnsigned 8 n bytes

-- The whole number that bytes encode in two's complement: their unsigned number, less 256 ^ length if the top bit is set.
abbrev pub integer : List ℕ → ℤ
integer bytes =
    if nat_lt (2 * number bytes) (256 ^ length bytes)
    then pos (number bytes)
    else pos (number bytes) -ℤ pos (256 ^ length bytes)

-- The bytes are the shortest that encode the whole number z. Zero is encoded by no bytes.
pub record IsShortest (z : ℤ) (bytes : List ℕ) : Type 0 where
  pub are_bytes : AreBytes bytes
  pub value : integer bytes ≡ z
  pub shortest : (other : List ℕ) → AreBytes other → integer other ≡ z → length bytes ≤ length other

-- a string that holds the shortest bytes of a whole number
pub record IsMpint (z : ℤ) (bytes : List ℕ) : Type 0 where
  pub body : List ℕ
  pub shortest : IsShortest z body
  pub string : IsString body bytes
