-- The signatures of a client's user.
use Rattle.std.specs.Prelude.{ℕ, List, [], Option, Some, None}
use Rattle.divrelca.specs.declared.parts.ed25519_signer.Ed25519Signer.{Ed25519Signer}
use Rattle.divrelca.specs.Parts.Ed25519.{user_signature}

-- the signature of the key pair, or no bytes if there is no key pair
abbrev pub signature_by : Option Ed25519Signer → (user algorithm key text : List ℕ) → List ℕ
signature_by None user algorithm key text = []
signature_by (Some signer) user algorithm key text = user_signature signer user algorithm key text
