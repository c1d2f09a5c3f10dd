-- Points of small order.
use Rattle.std.specs.Prelude.{ℕ, Bool, false, List, ◌∷◌, nat_eq, replicate, Option, Some, None}
use Rattle.std.specs.Cmp.Lexicographic.{pointwise}
use Rattle.ciphers.specs.Ed25519.Encoding.{decoded, encoded}
use Rattle.ciphers.specs.Ed25519.Point.{Extended, added}

-- the bytes of the identity, whose x is 0 and whose y is 1
abbrev pub identity_bytes : List ℕ
identity_bytes = 1 ∷ replicate 31 0

abbrev pub eight_times : Extended → Extended
eight_times p = added (added (added p p) (added p p)) (added (added p p) (added p p))

-- whether eight times a point is the identity
abbrev pub is_eighth : Option Extended → Bool
is_eighth None = false
is_eighth (Some p) = pointwise nat_eq (encoded (eight_times p)) identity_bytes

-- whether the bytes are a point whose order divides eight
unfoldable pub is_small_order : List ℕ → Bool
is_small_order key = is_eighth (decoded key)
