-- Key pairs, signatures and their verification (RFC 8032 sections 5.1.5 to 5.1.7).
use Rattle.std.specs.Prelude.{ℕ, ◌+◌, ◌*◌, ◌%◌, List, ◌++◌, take, drop, Bool, false, Option, Some, None, if◌then◌else◌, nat_eq}
use Rattle.std.specs.Cmp.Lexicographic.{pointwise}
use Rattle.sha2.specs.Sha512.{sha512}
use Rattle.ciphers.specs.X25519.Bytes.{le_bytes, value}
use Rattle.ciphers.specs.X25519.Curve.{clamped}
use Rattle.ciphers.specs.declared.ed25519.keys.KeyPair.{KeyPair}
use Rattle.ciphers.specs.Ed25519.Encoding.{decoded, encoded}
use Rattle.ciphers.specs.Ed25519.Point.{Extended, added, base, multiplied, negated}
use Rattle.ciphers.specs.Ed25519.Scalar.{is_below_order, order}

-- this multiple of the base point, encoded
unfoldable pub base_times : List ℕ → List ℕ
base_times number = encoded (multiplied number base 256)

-- the key pair of a secret of 32 bytes (section 5.1.5)
unfoldable pub pair_of : List ℕ → KeyPair
pair_of seed = record {
  scalar = clamped (take 32 (sha512 seed));
  prefix = drop 32 (sha512 seed);
  public = base_times (clamped (take 32 (sha512 seed)));
}

-- the number r of a message
abbrev pub nonce_of : KeyPair → List ℕ → ℕ
nonce_of pair message = value (sha512 (pair.prefix ++ message)) % order

-- the hash whose number is k
abbrev pub challenge_of : (point public message : List ℕ) → List ℕ
challenge_of point public message = sha512 (point ++ (public ++ message))

-- R, and after it S, which is (r + k s) mod L
abbrev pub joined_with : KeyPair → List ℕ → ℕ → List ℕ → List ℕ
joined_with pair message nonce point =
    point ++ le_bytes ((nonce + value (challenge_of point pair.public message) * value pair.scalar) % order)

-- the signature of a message (section 5.1.6)
unfoldable pub signature_of : KeyPair → List ℕ → List ℕ
signature_of pair message = joined_with pair message (nonce_of pair message) (base_times (le_bytes (nonce_of pair message)))

-- S B - k A, encoded
unfoldable pub commitment : (response challenge : List ℕ) → Extended → List ℕ
commitment response challenge key = encoded (added (multiplied response base 256) (multiplied challenge (negated key) 256))

-- whether the signature is that of the message under a point, which the public key is the encoding of
abbrev pub verified_by : Option Extended → (public message signature : List ℕ) → Bool
verified_by None public message signature = false
verified_by (Some key) public message signature =
    if is_below_order (value (drop 32 signature)) then
    pointwise nat_eq
    (commitment (drop 32 signature) (le_bytes (value (challenge_of (take 32 signature) public message) % order)) key)
    (take 32 signature)
    else false

-- whether the signature is that of the message under the public key (section 5.1.7)
unfoldable pub is_signature : (public message signature : List ℕ) → Bool
is_signature public message signature = verified_by (decoded public) public message signature
