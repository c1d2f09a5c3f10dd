-- Public keys as they stand on a line: the type of a key, and its base64.
use Rattle.std.specs.Prelude.{ℕ, ◌||◌, Bool, false, if◌then◌else◌, List, [], ◌∷◌, ◌++◌, length, codes, nat_eq, Option, Some, None, Result, Ok, Err}
use Rattle.std.specs.List.{starts_with}
use Rattle.base64.specs.Engines.{standard}
use Rattle.base64.specs.GeneralPurpose.{decode_of}
use Rattle.base64.specs.declared.decode.DecodeError.{DecodeError}
use Rattle.ssh_model.specs.Protocol.Wire.DataTypes.{is_text}
use Rattle.divrelca.specs.Parts.Ed25519.{trust_in}
use Rattle.divrelca.specs.declared.parts.ed25519_trust.Ed25519Trust.{Ed25519Trust}
use Rattle.divrelca.specs.declared.key_files.fault.Expected.{Expected}
use Rattle.divrelca.specs.declared.key_files.fault.Expected.TheVariants.{Key}

-- The word is the type of a key.
abbrev pub is_key_type : List ℕ → Bool
is_key_type word =
    (starts_with nat_eq word (codes "ssh-") || starts_with nat_eq word (codes "ecdsa-")) || starts_with nat_eq word (codes "sk-")

-- ---- base64

-- the decoded bytes, if there are this many
abbrev pub of_length : (count : ℕ) → Result (List ℕ) DecodeError → Option (List ℕ)
of_length count (Ok bytes) = if nat_eq (length bytes) count then Some bytes else None
of_length count (Err error) = None

-- The bytes that base64 digits encode (RFC 4648 section 4), if there are exactly this many.
unfoldable pub bytes_in : (count : ℕ) → List ℕ → Option (List ℕ)
bytes_in count digits = of_length count (decode_of standard digits)

-- ---- keys

-- the public key in a trusted key
abbrev pub public_in : Option Ed25519Trust → Option (List ℕ)
public_in None = None
public_in (Some trust) = Some trust.public

-- the key that these bytes encode on the wire, if it is one of ssh-ed25519 and no point of small order
abbrev pub key_in_blob : Option (List ℕ) → Option (List ℕ)
key_in_blob None = None
key_in_blob (Some blob) = public_in (trust_in blob)

-- the key of 32 bytes that base64 digits are as it goes over the wire (RFC 8709 section 4)
unfoldable pub key_in : List ℕ → Option (List ℕ)
key_in digits = key_in_blob (bytes_in 51 digits)

-- a key that has to be there
abbrev pub some_key : Option (List ℕ) → Result (Option (List ℕ)) Expected
some_key None = Err Key
some_key (Some key) = Ok (Some key)

-- The key that digits are. One of another type than ssh-ed25519 is passed over.
abbrev pub key_of : (kind digits : List ℕ) → Result (Option (List ℕ)) Expected
key_of kind digits = if is_text kind (codes "ssh-ed25519") then some_key (key_in digits) else Ok None

-- The key that is found is this one.
abbrev pub is_key : (key : List ℕ) → (found : Option (List ℕ)) → Bool
is_key key None = false
is_key key (Some other) = is_text other key

-- the keys, and after them the one that is found, if one is
abbrev pub with_found : List (List ℕ) → (found : Option (List ℕ)) → List (List ℕ)
with_found keys None = keys
with_found keys (Some key) = keys ++ key ∷ []
