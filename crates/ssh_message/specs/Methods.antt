-- A method of authentication, as its name and the bytes after it.
use Rattle.std.specs.Prelude.{◌≡◌, ℕ, true, false, Some, None, List, codes}
use Rattle.ssh_model.specs.Protocol.Wire.DataTypes.{IsBoolean, IsString}
use Rattle.ssh_model.specs.Protocol.Wire.Message.{Method, NoMethod, Password, Publickey, Other, IsOther, Then, IsEnd, IsRest}

abbrev pub method_name : Method → List ℕ
method_name NoMethod = codes "none"
method_name (Password password new_password) = codes "password"
method_name (Publickey algorithm key signature) = codes "publickey"
method_name (Other name rest) = name

-- the bytes after the name
abbrev pub IsArguments : Method → List ℕ → Type 0
IsArguments NoMethod = IsEnd
IsArguments (Password password None) = Then (IsBoolean false) (Then (IsString password) IsEnd)
IsArguments (Password password (Some new)) = Then (IsBoolean true) (Then (IsString password) (Then (IsString new) IsEnd))
IsArguments (Publickey algorithm key None) = Then (IsBoolean false) (Then (IsString algorithm) (Then (IsString key) IsEnd))
IsArguments (Publickey algorithm key (Some signature)) = Then (IsBoolean true) (Then (IsString algorithm) (Then (IsString key) (Then (IsString signature) IsEnd)))
IsArguments (Other name rest) = λ bytes. IsOther name × IsRest rest bytes

-- The bytes are the arguments of a method of this name.
pub record AreArguments (name : List ℕ) (m : Method) (bytes : List ℕ) : Type 0 where
  pub named : method_name m ≡ name
  pub arguments : IsArguments m bytes

-- The bytes are arguments of no method of this name.
pub record NoArguments (name bytes : List ℕ) : Type 0 where
  pub none : (m : Method) → method_name m ≡ name → IsArguments m bytes → ⊥
