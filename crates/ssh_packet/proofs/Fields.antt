-- The length field in front of a packet.
use Rattle.std.proofs.Common.{◌≡◌, ℕ, ◌+◌, ◌≤◌, true, List, ◌++◌, length, take, drop, refl, sym, ap, ◌∙◌, arith, append_assoc}
use Rattle.std.proofs.lemmas.List.{take-append-drop, length-take-le}
use Rattle.ssh_model.specs.Protocol.Wire.DataTypes.{AreBytes, IsUint32, number}
use Rattle.ssh_model.specs.Laws.Reading.{Reads, NoFront, OneForm}
use Rattle.ssh_model.specs.Protocol.Wire.Packet.{Blocks, is_size}
use Rattle.ssh_model.specs.Protocol.Wire.Sealing.{HasSize}
use Rattle.ssh_packet.specs.Bytes.{first_bytes}

-- four bytes are a uint32
pub some_field : (bytes : List ℕ) → AreBytes bytes → 4 ≤ length bytes → NoFront IsUint32 bytes → ⊥
some_field bytes h from none =
    none.none (number (take 4 bytes)) (take 4 bytes) (drop 4 bytes)
    (record { are_bytes = first_bytes 4 bytes h; count = length-take-le 4 bytes from; value = refl })
    (sym (take-append-drop 4 bytes))

pub has_size : (blocks : Blocks) (tag count : ℕ) (bytes rest : List ℕ) → Reads (IsUint32 count) bytes rest → is_size blocks tag (4 + count) ≡ true → HasSize blocks tag (4 + count + tag) bytes
has_size blocks tag count bytes rest r size = record { field = r.bytes; rest = rest; count = count; parts = r.parts; counts = r.meets; size = size; whole = refl }

-- ---- a partial packet goes on as it began

pub longer : (blocks : Blocks) (tag n : ℕ) (bytes more : List ℕ) → HasSize blocks tag n bytes → HasSize blocks tag n (bytes ++ more)
longer blocks tag n bytes more h =
    record { field = h.field; rest = h.rest ++ more; count = h.count; parts = ap (λ (x : List ℕ). x ++ more) h.parts ∙ append_assoc h.field h.rest more; counts = h.counts; size = h.size; whole = h.whole }

pub one_size : (blocks : Blocks) (tag m n : ℕ) (bytes : List ℕ) → OneForm IsUint32 → HasSize blocks tag m bytes → HasSize blocks tag n bytes → m ≡ n
one_size blocks tag m n bytes one h k =
    let same = one h.count k.count h.field k.field h.rest k.rest h.counts k.counts (sym h.parts ∙ k.parts) in
    omega (arith, h.whole, k.whole, same.0)

pub from_four : (blocks : Blocks) (tag n : ℕ) (bytes : List ℕ) → HasSize blocks tag n bytes → 4 ≤ n
from_four blocks tag n bytes h = omega (arith, h.whole)
