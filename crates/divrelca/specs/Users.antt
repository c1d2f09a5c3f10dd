-- Whom a server lets in.
use Rattle.std.specs.Prelude.{◌&&◌, ℕ, Bool, false, List, Option, Some, None}
use Rattle.sha2.specs.Sha256.{sha256}
use Rattle.ssh_model.specs.Protocol.Authentication.Requests.{Judge}
use Rattle.ssh_model.specs.Protocol.Wire.DataTypes.{is_text}
use Rattle.divrelca.specs.Parts.Ed25519.{judge_of}
use Rattle.divrelca.specs.declared.parts.ed25519_judge.AcceptedKey.{AcceptedKey}
use Rattle.divrelca.specs.declared.users.PasswordHash.{PasswordHash}

-- The user is the one who has the password, and this is its hash.
abbrev pub is_hash : (name : List ℕ) → Option PasswordHash → (user : List ℕ) → (word : PasswordHash) → Bool
is_hash name None user word = false
is_hash name (Some hash) user word = is_text name user && is_text word.bytes hash.bytes

-- The user is the one who has the password, and the word is it.
abbrev pub is_password : (name : List ℕ) → Option PasswordHash → (user word : List ℕ) → Bool
is_password name password user word = is_hash name password user (record { bytes = sha256 word })

-- the verdicts on the keys, and that on the password
abbrev pub verdicts_of : (name : List ℕ) → List AcceptedKey → Option PasswordHash → Judge
verdicts_of name keys password = record (judge_of keys) { password_is_right = is_password name password }
