-- Keys and signatures of ssh-ed25519 (RFC 8709), and the parts that they make.
use Rattle.std.specs.Prelude.{ℕ, Bool, false, not, ◌&&◌, if◌then◌else◌, nat_eq, List, [], ◌++◌, length, drop, codes, Option, Some, None}
use Rattle.std.specs.List.{list_any}
use Rattle.ciphers.specs.Ed25519.Order.{is_small_order}
use Rattle.ciphers.specs.Ed25519.Signature.{is_signature, pair_of, signature_of}
use Rattle.ssh_model.specs.Protocol.Authentication.Requests.{Judge}
use Rattle.ssh_model.specs.Protocol.KeyExchange.Exchange.{string_of}
use Rattle.ssh_model.specs.Protocol.Wire.DataTypes.{is_text}
use Rattle.ssh_kex.specs.Parts.{HostKeys}
use Rattle.divrelca.specs.declared.parts.ed25519_judge.AcceptedKey.{AcceptedKey}
use Rattle.divrelca.specs.declared.parts.ed25519_signer.Ed25519Signer.{Ed25519Signer}
use Rattle.divrelca.specs.declared.parts.ed25519_trust.Ed25519Trust.{Ed25519Trust}

-- ---- over the wire

abbrev pub is_name : List ℕ → Bool
is_name algorithm = is_text algorithm (codes "ssh-ed25519")

-- the name and a key, each as a string (section 4)
unfoldable pub key_blob : List ℕ → List ℕ
key_blob key = string_of (codes "ssh-ed25519") ++ string_of key

-- the name and a signature (section 6)
unfoldable pub signature_blob : List ℕ → List ℕ
signature_blob signature = string_of (codes "ssh-ed25519") ++ string_of signature

-- the key of 32 bytes that bytes encode with the name
unfoldable pub key_in : List ℕ → Option (List ℕ)
key_in blob = if nat_eq (length blob) 51 && is_text (key_blob (drop 19 blob)) blob then Some (drop 19 blob) else None

-- the signature of 64 bytes that bytes encode with the name
unfoldable pub signature_in : List ℕ → Option (List ℕ)
signature_in blob = if nat_eq (length blob) 83 && is_text (signature_blob (drop 19 blob)) blob then Some (drop 19 blob) else None

-- the signature is the key's signature of the text
abbrev pub signed_by : Option (List ℕ) → (key text : List ℕ) → Bool
signed_by None key text = false
signed_by (Some signature) key text = is_signature key text signature

-- The bytes are a signature of the text by this key, which is no point of small order.
unfoldable pub has_signed : (key text blob : List ℕ) → Bool
has_signed key text blob = signed_by (signature_in blob) key text && not (is_small_order key)

-- ---- the parts

abbrev pub signer_of : List ℕ → Ed25519Signer
signer_of seed = record { pair = pair_of seed; key = key_blob (pair_of seed).public }

abbrev pub host_keys : Ed25519Signer → HostKeys
host_keys signer = record {
  key = λ algorithm. if is_name algorithm then signer.key else [];
  signature = λ algorithm hash. if is_name algorithm then signature_blob (signature_of signer.pair hash) else [];
}

abbrev pub user_signature : Ed25519Signer → (user algorithm key text : List ℕ) → List ℕ
user_signature signer user algorithm key text =
    if is_name algorithm && is_text key signer.key then signature_blob (signature_of signer.pair text) else []

abbrev pub trusted_by : Option (List ℕ) → Option Ed25519Trust
trusted_by None = None
trusted_by (Some key) = if is_small_order key then None else Some (record { public = key })

-- trust in the key that these bytes encode, if it is no point of small order
abbrev pub trust_in : List ℕ → Option Ed25519Trust
trust_in blob = trusted_by (key_in blob)

abbrev pub is_trusted : List ℕ → (algorithm key hash signature : List ℕ) → Bool
is_trusted public algorithm key hash signature =
    is_name algorithm && (is_text key (key_blob public) && has_signed public hash signature)

-- One of the keys is trusted.
abbrev pub is_trusted_by_any : List (List ℕ) → (algorithm key hash signature : List ℕ) → Bool
is_trusted_by_any keys algorithm key hash signature = list_any (λ public. is_trusted public algorithm key hash signature) keys

abbrev pub is_key_of : (user key : List ℕ) → AcceptedKey → Bool
is_key_of user key entry =
    is_text entry.user.now user && (is_text (key_blob entry.public) key && not (is_small_order entry.public))

abbrev pub is_accepted : List AcceptedKey → (user key : List ℕ) → Bool
is_accepted accepted user key = list_any (is_key_of user key) accepted

abbrev pub signed_with : Option (List ℕ) → (text signature : List ℕ) → Bool
signed_with None text signature = false
signed_with (Some public) text signature = has_signed public text signature

-- The signature is that of the key that bytes are.
abbrev pub is_user_signature : (key text signature : List ℕ) → Bool
is_user_signature key text signature = signed_with (key_in key) text signature

abbrev pub judge_of : List AcceptedKey → Judge
judge_of accepted = record {
  admits = λ user. false;
  password_is_right = λ user password. false;
  knows_key = λ user algorithm key. is_name algorithm && is_accepted accepted user key;
  signature_is_right = λ algorithm key text signature. is_name algorithm && is_user_signature key text signature;
}

-- Nobody is known. A signature is judged by the key that comes with it.
abbrev pub by_signature : Judge
by_signature = record {
  admits = λ user. false;
  password_is_right = λ user password. false;
  knows_key = λ user algorithm key. false;
  signature_is_right = λ algorithm key text signature. is_name algorithm && is_user_signature key text signature;
}

-- The host has signed the hash with the key that comes with it, whichever that is.
abbrev pub has_host_signed : (algorithm key hash signature : List ℕ) → Bool
has_host_signed algorithm key hash signature = is_name algorithm && is_user_signature key hash signature

-- The bytes are this public key over the wire, under the name of this algorithm.
abbrev pub is_wire_key : (algorithm key : List ℕ) → (public : List ℕ) → Bool
is_wire_key algorithm key public = is_name algorithm && is_text key (key_blob public)

-- They are one of these.
abbrev pub is_one_of : List (List ℕ) → (algorithm key : List ℕ) → Bool
is_one_of keys algorithm key = list_any (λ public. is_wire_key algorithm key public) keys
