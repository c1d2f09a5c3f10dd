-- The facts that the tests of a packet's size establish.
use Rattle.std.specs.Prelude.{◌≡◌, ℕ, ◌+◌, ◌-◌, ◌≤◌, ◌%◌, ◌&&◌, ◌==◌, if◌then◌else◌, Bool, max, nat_le, true, false}
use Rattle.std.proofs.Common.{arith}
use Rattle.std.proofs.lemmas.Bool.{leb-true, and_parts, eqb-true}
use Rattle.ssh_model.specs.Protocol.Bounds.{largest_packet}
use Rattle.ssh_model.specs.Protocol.Wire.Packet.{Blocks, counted, is_size, least_size}
use Rattle.ssh_model.specs.Protocol.Wire.Sealing.{is_wire_size}

-- the facts that the test of a size establishes
pub record SizeFacts (blocks : Blocks) (tag size : ℕ) : Type 0 where
  pub whole : counted blocks size % max blocks.size 8 ≡ 0
  pub from : 12 ≤ size
  pub to : size + tag ≤ largest_packet

pub size_facts : (blocks : Blocks) (tag size : ℕ) → is_size blocks tag size ≡ true → SizeFacts blocks tag size
size_facts blocks tag size h =
    let p = and_parts (counted blocks size % max blocks.size 8 == 0) (nat_le (least_size blocks) size && nat_le (size + tag) largest_packet) h in
    let q = and_parts (nat_le (least_size blocks) size) (nat_le (size + tag) largest_packet) p.1 in
    let low : least_size blocks ≤ size = leb-true (least_size blocks) size q.0 in
    let some : 12 ≤ least_size blocks = twelve blocks.counts_length blocks.size in
    record { whole = eqb-true (counted blocks size % max blocks.size 8) 0 p.0; from = omega (arith, low, some); to = leb-true (size + tag) largest_packet q.1 }
  where
    twelve : (b : Bool) (n : ℕ) → 12 ≤ (if b then max 16 n else 4 + max 8 n)
    twelve true n = omega arith
    twelve false n = omega arith

pub wire_facts : (blocks : Blocks) (tag size : ℕ) → is_wire_size blocks tag size ≡ true → (tag ≤ size) × (12 ≤ size - tag)
wire_facts blocks tag size h =
    let p = and_parts (nat_le tag size) (is_size blocks tag (size - tag)) h in
    (leb-true tag size p.0, (size_facts blocks tag (size - tag) p.1).from)
