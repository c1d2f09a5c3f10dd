-- One sealing of two keeps the laws that both keep.
use Rattle.std.specs.Prelude.{◌≡◌, ℕ, ◌+◌, ◌≤◌, ◌<◌, ◌^◌, true, Option, Some, None, IfSome, IsTrue, List, length, take}
use Rattle.ssh_model.specs.Protocol.Bounds.{longest_key_material, longest_tag}
use Rattle.ssh_model.specs.Protocol.Wire.DataTypes.{AreBytes}
use Rattle.ssh_model.specs.Protocol.Wire.Packet.{IsBlock, is_size}
use Rattle.ssh_model.specs.Protocol.Wire.Sealing.{Crypto, IsSealing, Lengths, is_wire_size}
use Rattle.divrelca.specs.declared.parts.either.EitherKey.{EitherKey}
use Rattle.divrelca.specs.declared.parts.either.EitherKey.TheVariants.{First, Second}
use Rattle.divrelca.specs.Parts.Either.{either, first_of}

few : (x y : Option Lengths)
    → IfSome x (λ n. (n.iv ≤ longest_key_material) × (n.cipher ≤ longest_key_material) × (n.mac ≤ longest_key_material))
    → IfSome y (λ n. (n.iv ≤ longest_key_material) × (n.cipher ≤ longest_key_material) × (n.mac ≤ longest_key_material))
    → IfSome (first_of x y) (λ n. (n.iv ≤ longest_key_material) × (n.cipher ≤ longest_key_material) × (n.mac ≤ longest_key_material))
few (Some n) y p q = p
few None y p q = q

module _ {K L : Type 0} (a : Crypto K) (b : Crypto L) (p : IsSealing a) (q : IsSealing b) where
  blocks : (key : EitherKey K L) → IsBlock ((either a b).blocks key).size
  blocks (First k) = p.blocks k
  blocks (Second l) = q.blocks l

  tag : (key : EitherKey K L) → (either a b).tag key ≤ longest_tag
  tag (First k) = p.tag k
  tag (Second l) = q.tag l

  opens : (key : EitherKey K L) (number : ℕ) (packet : List ℕ) → number < 2 ^ 32 → AreBytes packet → IsTrue (is_size ((either a b).blocks key) ((either a b).tag key) (length packet)) →
      (either a b).opened key number ((either a b).sealed key number packet) ≡ record { good = true; bytes = packet }
  opens (First k) = p.opens k
  opens (Second l) = q.opens l

  sealed_front : (key : EitherKey K L) (number : ℕ) (packet : List ℕ) → number < 2 ^ 32 → AreBytes packet → IsTrue (is_size ((either a b).blocks key) ((either a b).tag key) (length packet)) →
      take 4 ((either a b).sealed key number packet) ≡ take 4 packet
  sealed_front (First k) = p.sealed_front k
  sealed_front (Second l) = q.sealed_front l

  sealed_length : (key : EitherKey K L) (number : ℕ) (packet : List ℕ) → number < 2 ^ 32 → AreBytes packet → IsTrue (is_size ((either a b).blocks key) ((either a b).tag key) (length packet)) →
      length ((either a b).sealed key number packet) ≡ length packet + (either a b).tag key
  sealed_length (First k) = p.sealed_length k
  sealed_length (Second l) = q.sealed_length l

  sealed_bytes : (key : EitherKey K L) (number : ℕ) (packet : List ℕ) → number < 2 ^ 32 → AreBytes packet → IsTrue (is_size ((either a b).blocks key) ((either a b).tag key) (length packet)) →
      AreBytes ((either a b).sealed key number packet)
  sealed_bytes (First k) = p.sealed_bytes k
  sealed_bytes (Second l) = q.sealed_bytes l

  opened_front : (key : EitherKey K L) (number : ℕ) (bytes : List ℕ) → number < 2 ^ 32 → AreBytes bytes → IsTrue (is_wire_size ((either a b).blocks key) ((either a b).tag key) (length bytes)) →
      take 4 ((either a b).opened key number bytes).bytes ≡ take 4 bytes
  opened_front (First k) = p.opened_front k
  opened_front (Second l) = q.opened_front l

  opened_length : (key : EitherKey K L) (number : ℕ) (bytes : List ℕ) → number < 2 ^ 32 → AreBytes bytes → IsTrue (is_wire_size ((either a b).blocks key) ((either a b).tag key) (length bytes)) →
      length ((either a b).opened key number bytes).bytes + (either a b).tag key ≡ length bytes
  opened_length (First k) = p.opened_length k
  opened_length (Second l) = q.opened_length l

pub either_laws : {K L : Type 0} → {a : Crypto K} → {b : Crypto L} → IsSealing a → IsSealing b → IsSealing (either a b)
either_laws {a = a} {b = b} p q = record {
  lengths = λ enc mac. few (a.lengths enc mac) (b.lengths enc mac) (p.lengths enc mac) (q.lengths enc mac);
  blocks = blocks a b p q;
  tag = tag a b p q;
  opens = opens a b p q;
  sealed_front = sealed_front a b p q;
  sealed_length = sealed_length a b p q;
  sealed_bytes = sealed_bytes a b p q;
  opened_front = opened_front a b p q;
  opened_length = opened_length a b p q;
}
