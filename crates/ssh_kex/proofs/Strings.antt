-- The encodings of an exchange text are those of the data types.
use Rattle.std.proofs.Common.{◌≡◌, ℕ, ◌^◌, ◌<◌, Bool, true, false, List, [], ◌++◌, length, IsTrue, append_assoc, refl, ap, subst, ◌∙◌, arith}
use Rattle.std.specs.Prelude.{pos, ℤ}
use Rattle.std.specs.Int.{w32, to_be_bytes}
use Rattle.ssh_model.specs.Protocol.Wire.DataTypes.{AreBytes, IsUint32, IsString}
use Rattle.ssh_model.specs.Laws.DataTypes.{integer, IsShortest, IsMpint}
use Rattle.ssh_model.specs.Laws.Reading.{Writes}
use Rattle.ssh_model.specs.Protocol.KeyExchange.Exchange.{string_of, mpint_body, mpint_of}
use Rattle.ssh_types.specs.Encodings.{mpint_encoding, is_string}
use Rattle.ssh_types.specs.WholeNumbers.{one_shortest, kept_shortest}
use Rattle.ssh_types.specs.Digits.{marked_bytes, is_canonical}
use Rattle.ssh_kex.proofs.Numbers.{body_shortest}

pub is_mpint : (n : ℕ) → length (mpint_body n) < 2 ^ 32 → IsMpint (pos n) (mpint_of n)
is_mpint n small = record { body = mpint_body n; shortest = body_shortest n; string = is_string (mpint_body n) small }

pub written_mpint : (n : ℕ) (z : ℤ) (before after : List ℕ) → length (mpint_body n) < 2 ^ 32 → z ≡ pos n → Writes (IsMpint z) before after → after ≡ before ++ mpint_of n
written_mpint n z before after small same w =
    w.parts ∙ ap (λ (l : List ℕ). before ++ l) (mpint_encoding (pos n) w.bytes (mpint_of n) (subst (λ y. IsMpint y w.bytes) same w.meets) (is_mpint n small))

-- the shortest bytes of a number are the body of its mpint
pub one_body : (n : ℕ) (bytes : List ℕ) → IsShortest (pos n) bytes → bytes ≡ mpint_body n
one_body n bytes s = one_shortest (pos n) (pos n) bytes (mpint_body n) s (body_shortest n) refl

bytes_following_mark : (m : Bool) (ds : List ℕ) → AreBytes (marked_bytes m ds) → AreBytes ds
bytes_following_mark true ds h = h.1
bytes_following_mark false ds h = h

bytes_with_mark : (m : Bool) (ds : List ℕ) → AreBytes ds → AreBytes (marked_bytes m ds)
bytes_with_mark true ds h = (omega arith, h)
bytes_with_mark false ds h = h

-- what a number keeps is the body of its mpint; its bytes are known by other parts of it
pub kept_body : (n : ℕ) (m k : Bool) (ds es : List ℕ) → IsTrue (is_canonical m ds) → integer (marked_bytes m ds) ≡ pos n → AreBytes es → marked_bytes k es ≡ marked_bytes m ds → marked_bytes m ds ≡ mpint_body n
kept_body n m k ds es kept value are same =
    let bytes = bytes_following_mark m ds (subst (λ (l : List ℕ). AreBytes l) same (bytes_with_mark k es are)) in
    one_body n (marked_bytes m ds) (subst (λ z. IsShortest z (marked_bytes m ds)) value (kept_shortest m ds kept bytes))

-- pieces put after one another
pub eight_pieces : (a b c d e f g h : List ℕ) → ((((((([] ++ a) ++ b) ++ c) ++ d) ++ e) ++ f) ++ g) ++ h ≡ a ++ b ++ c ++ d ++ e ++ f ++ g ++ h
eight_pieces a b c d e f g h = simp append_assoc refl
