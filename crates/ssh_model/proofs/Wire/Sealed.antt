-- What an end seals is a unit that opens under the same key and number.
use Rattle.std.proofs.Common.{◌≡◌, ℕ, ◌+◌, ◌-◌, ◌<◌, ◌^◌, true, List, length, refl, sym, subst, Option, Some, None, arith}
use Rattle.std.specs.Prelude.{nat_le}
use Rattle.std.proofs.lemmas.Bool.{le-leb}
use Rattle.ssh_model.specs.Protocol.Wire.DataTypes.{AreBytes}
use Rattle.ssh_model.specs.Protocol.Wire.Packet.{Blocks, IsPacket, is_size, with_length}
use Rattle.ssh_model.specs.Protocol.Wire.Sealing.{Crypto, IsSealing, IsSealed, IsWire, is_wire_size}
use Rattle.ssh_model.specs.Protocol.Wire.Outcome.{Outcome.Opens}
use Rattle.ssh_model.specs.Protocol.Wire.Unit.{PacketUnit, PacketUnit.opens, HasNumber}

-- a packet's size with its tag
pub wire_size : (blocks : Blocks) (tag size : ℕ) → is_size blocks tag size ≡ true → is_wire_size blocks tag (size + tag) ≡ true
wire_size blocks tag size h =
    let less : nat_le tag (size + tag) ≡ true = le-leb tag (size + tag) (omega arith) in
    let same : size + tag - tag ≡ size = omega arith in rw (less, same) h

sealed_wire : {K : Type 0} (c : Crypto K) (key : Option K) (number : ℕ) (payload bytes : List ℕ) → IsSealing c → number < 2 ^ 32 → IsSealed c key number payload bytes → IsWire c key number payload bytes
sealed_wire c None number payload bytes laws n s =
    let size = s.least.packet.size in
    record {
      size = rw (s.sealed) (let z : length s.packet + 0 ≡ length s.packet = omega arith in subst (λ (k : ℕ). is_wire_size (with_length 8) 0 k ≡ true) z (wire_size (with_length 8) 0 (length s.packet) size));
      good = refl;
      packet = subst (λ (x : List ℕ). IsPacket (with_length 8) 0 payload x) (sym s.sealed) s.least.packet;
    }
sealed_wire c (Some key) number payload bytes laws n s =
    let size = s.least.packet.size in
    let opens = laws.opens key number s.packet n s.are_bytes size in
    let count = laws.sealed_length key number s.packet n s.are_bytes size in
    let e = s.sealed in
    record {
      size = rw (e, count) (wire_size (c.blocks key) (c.tag key) (length s.packet) size);
      good = rw (e, opens) refl;
      packet = rw (e, opens) s.least.packet;
    }

sealed_are : {K : Type 0} (c : Crypto K) (key : Option K) (number : ℕ) (payload bytes : List ℕ) → IsSealing c → number < 2 ^ 32 → IsSealed c key number payload bytes → AreBytes bytes
sealed_are c None number payload bytes laws n s = rw (s.sealed) s.are_bytes
sealed_are c (Some key) number payload bytes laws n s = rw (s.sealed) (laws.sealed_bytes key number s.packet n s.are_bytes s.least.packet.size)

pub sealed_unit : {K : Type 0} (c : Crypto K) (key : Option K) (number count : ℕ) (payload bytes : List ℕ) → IsSealing c → HasNumber number count → IsSealed c key number payload bytes
    → PacketUnit c key number count bytes (Opens payload)
sealed_unit c key number count payload bytes laws n s = opens payload n (sealed_are c key number payload bytes laws n.1 s) (sealed_wire c key number payload bytes laws n.1 s)
