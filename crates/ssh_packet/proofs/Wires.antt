-- What was sealed is a wire.
use Rattle.std.proofs.Common.{◌≡◌, ℕ, ◌+◌, ◌-◌, ◌<◌, ◌^◌, true, leb, List, length, refl, sym, subst, Option, Some, None, arith}
use Rattle.std.proofs.lemmas.Bool.{le-leb}
use Rattle.ssh_model.specs.Protocol.Wire.Packet.{Blocks, IsPacket, is_size, with_length}
use Rattle.ssh_model.specs.Protocol.Wire.Sealing.{Crypto, IsSealing, IsSealed, IsWire, is_wire_size}

-- a packet's size with its tag
wire_size : (blocks : Blocks) (tag size : ℕ) → is_size blocks tag size ≡ true → is_wire_size blocks tag (size + tag) ≡ true
wire_size blocks tag size h =
    let less : leb tag (size + tag) ≡ true = le-leb tag (size + tag) (omega arith) in
    let same : size + tag - tag ≡ size = omega arith in
    rw (less, same) h

pub sealed_wire : {K : Type 0} (c : Crypto K) (key : Option K) (number : ℕ) (payload bytes : List ℕ) → IsSealing c → number < 2 ^ 32 → IsSealed c key number payload bytes → IsWire c key number payload bytes
sealed_wire {K} c None number payload bytes laws n s =
    record {
      size = rw (s.sealed) (let z : length s.packet + 0 ≡ length s.packet = omega arith in subst (λ (k : ℕ). is_wire_size (with_length 8) 0 k ≡ true) z (wire_size (with_length 8) 0 (length s.packet) s.least.packet.size));
      good = refl;
      packet = subst (λ (x : List ℕ). IsPacket (with_length 8) 0 payload x) (sym s.sealed) s.least.packet;
    }
sealed_wire {K} c (Some key) number payload bytes laws n s =
    let size = s.least.packet.size in
    let opens = laws.opens key number s.packet n s.are_bytes size in
    let count = laws.sealed_length key number s.packet n s.are_bytes size in
    let e = s.sealed in
    record {
      size = rw (e, count) (wire_size (c.blocks key) (c.tag key) (length s.packet) size);
      good = rw (e, opens) refl;
      packet = rw (e, opens) s.least.packet;
    }
