-- The units of a stream of packets: where they end, and what they are.
use Rattle.std.proofs.Common.{◌≡◌, ℕ, ◌+◌, ◌^◌, ◌<◌, ◌≤◌, true, false, cond, ltb, List, [], ◌++◌, length, take, drop, refl, ap, sym, subst, ◌∙◌, arith, append_assoc, append-nil, length-append, Option, Some, None}
use Rattle.std.proofs.lemmas.Bool.{cond-true, lt-ltb, le-ltb}
use Rattle.std.proofs.lemmas.List.{take-append-drop, length-take}
use Rattle.ssh_model.specs.Protocol.Wire.DataTypes.{AreBytes, IsUint32, number as number_of}
use Rattle.ssh_model.specs.Protocol.Wire.Packet.{Blocks, is_size}
use Rattle.ssh_model.specs.Protocol.Wire.Sealing.{Crypto, IsSealing, IsWire, IsBadLength, HasSize, IsWhole, blocks_under, tag_under, opened_under}
use Rattle.ssh_model.specs.Laws.Units.{IsPartial, IsPartial.no_length, IsPartial.has_length, IsPartialPacket}
use Rattle.ssh_model.specs.Protocol.Wire.Outcome.{Outcome}
use Rattle.ssh_model.specs.Protocol.Wire.Unit.{PacketUnit, PacketUnit.opens, PacketUnit.bad_length, PacketUnit.spent, PacketUnit.bad_tag, PacketUnit.bad_padding}
use Rattle.ssh_model.proofs.Wire.Lists.{no_more}
use Rattle.ssh_model.specs.Laws.Encodings.{same_front}

-- ---- opened bytes keep the length field

opened_front : {K : Type 0} (c : Crypto K) (key : Option K) (number : ℕ) (payload unit : List ℕ) → IsSealing c → number < 2 ^ 32 → AreBytes unit → IsWire c key number payload unit →
    take 4 (opened_under c key number unit).bytes ≡ take 4 unit
opened_front c None number payload unit laws n b w = refl
opened_front c (Some key) number payload unit laws n b w = laws.opened_front key number unit n b w.size

opened_length : {K : Type 0} (c : Crypto K) (key : Option K) (number : ℕ) (payload unit : List ℕ) → IsSealing c → number < 2 ^ 32 → AreBytes unit → IsWire c key number payload unit →
    length (opened_under c key number unit).bytes + tag_under c key ≡ length unit
opened_length c None number payload unit laws n b w = omega arith
opened_length c (Some key) number payload unit laws n b w = laws.opened_length key number unit n b w.size

-- what opens to a packet is whole by its own length field
pub wire_whole : {K : Type 0} (c : Crypto K) (key : Option K) (number : ℕ) (payload unit : List ℕ) → IsSealing c → number < 2 ^ 32 → AreBytes unit → IsWire c key number payload unit →
    IsWhole (blocks_under c key) (tag_under c key) unit
wire_whole c key number payload unit laws n b w =
    let string = w.packet.string in
    let bytes : List ℕ = (opened_under c key number unit).bytes in
    let sizes : length bytes ≡ 4 + length w.packet.body = ap length string.parts ∙ length-append string.front w.packet.body ∙ ap (λ (k : ℕ). k + length w.packet.body) string.size.count in
    let front : take 4 unit ≡ string.front =
    sym (opened_front c key number payload unit laws n b w) ∙ ap (take 4) string.parts ∙ front_of string.front w.packet.body string.size.count in
    record {
      has = record {
        field = string.front;
        rest = drop 4 unit;
        count = length w.packet.body;
        parts = sym (take-append-drop 4 unit) ∙ ap (λ (l : List ℕ). l ++ drop 4 unit) front;
        counts = string.size;
        size = subst (λ (k : ℕ). is_size (blocks_under c key) (tag_under c key) k ≡ true) sizes w.packet.size;
        whole = sym (opened_length c key number payload unit laws n b w) ∙ ap (λ (k : ℕ). k + tag_under c key) sizes;
      };
    }
  where
    front_of : (x y : List ℕ) → length x ≡ 4 → take 4 (x ++ y) ≡ x
    front_of x y e = (same_front (take 4 (x ++ y)) x (drop 4 (x ++ y)) y (omega (arith, e, length-take 4 (x ++ y), length-append x y)) (take-append-drop 4 (x ++ y))).0

-- ---- where units end

-- so many bytes a unit has, by its length field
extent : (blocks : Blocks) (tag number count : ℕ) → ℕ
extent blocks tag number count = cond (is_size blocks tag (4 + count)) (cond (ltb number (2 ^ 32)) (4 + count + tag) 4) 4

record HasExtent (blocks : Blocks) (tag number : ℕ) (unit : List ℕ) : Type 0 where
  field : List ℕ
  rest : List ℕ
  count : ℕ
  parts : unit ≡ field ++ rest
  counts : IsUint32 count field
  size : length unit ≡ extent blocks tag number count

whole_extent : (blocks : Blocks) (tag number : ℕ) (unit : List ℕ) → number < 2 ^ 32 → IsWhole blocks tag unit → HasExtent blocks tag number unit
unfolding extent
whole_extent blocks tag number unit n w =
    let h = w.has in
    record { field = h.field; rest = h.rest; count = h.count; parts = h.parts; counts = h.counts; size = rw (h.size, lt-ltb number (2 ^ 32) n) h.whole }

length_extent : (blocks : Blocks) (tag number : ℕ) (unit : List ℕ) → IsBadLength blocks tag unit → HasExtent blocks tag number unit
unfolding extent
length_extent blocks tag number unit b =
    record { field = unit; rest = []; count = b.count; parts = sym (append-nil unit); counts = b.field; size = rw (b.size) b.field.count }

spent_extent : (blocks : Blocks) (tag number n : ℕ) (unit : List ℕ) → number ≡ 2 ^ 32 → length unit ≡ 4 → HasSize blocks tag n unit → HasExtent blocks tag number unit
unfolding extent
spent_extent blocks tag number n unit e four h =
    let no : ltb number (2 ^ 32) ≡ false = le-ltb number (2 ^ 32) (omega (arith, e)) in
    record { field = h.field; rest = h.rest; count = h.count; parts = h.parts; counts = h.counts; size = rw (h.size, no) four }

unit_extent : {K : Type 0} (c : Crypto K) (key : Option K) (number taken : ℕ) (unit : List ℕ) (o : Outcome) → IsSealing c → PacketUnit c key number taken unit o → HasExtent (blocks_under c key) (tag_under c key) taken unit
unit_extent c key number taken unit _ laws (opens p n b w) = whole_extent (blocks_under c key) (tag_under c key) taken unit n.0 (wire_whole c key number p unit laws n.1 b w)
unit_extent c key number taken unit _ laws (bad_length l) = length_extent (blocks_under c key) (tag_under c key) taken unit l
unit_extent c key number taken unit _ laws (spent n e four h) = spent_extent (blocks_under c key) (tag_under c key) taken n unit e four h
unit_extent c key number taken unit _ laws (bad_tag n b t) = whole_extent (blocks_under c key) (tag_under c key) taken unit n.0 t.whole
unit_extent c key number taken unit _ laws (bad_padding n b p) = whole_extent (blocks_under c key) (tag_under c key) taken unit n.0 p.whole

from_four : (blocks : Blocks) (tag number : ℕ) (unit : List ℕ) → HasExtent blocks tag number unit → 4 ≤ length unit
from_four blocks tag number unit h = omega (arith, ap length h.parts, length-append h.field h.rest, h.counts.count)

-- two units in one stream have the same length field
same_count : (blocks : Blocks) (tag number : ℕ) (u v w : List ℕ) → HasExtent blocks tag number u → HasExtent blocks tag number w → u ++ v ≡ w → length u ≡ length w
same_count blocks tag number u v w h k e =
    let s = same_front h.field k.field (h.rest ++ v) k.rest (h.counts.count ∙ sym k.counts.count)
    (sym (append_assoc h.field h.rest v) ∙ ap (λ (l : List ℕ). l ++ v) (sym h.parts) ∙ e ∙ k.parts) in
    let count : h.count ≡ k.count = sym h.counts.value ∙ ap number_of s.0 ∙ k.counts.value in
    h.size ∙ ap (extent blocks tag number) count ∙ sym k.size

pub packet_alone : {K : Type 0} (c : Crypto K) (key : Option K) (number taken : ℕ) (u v w : List ℕ) (o p : Outcome) → IsSealing c →
    PacketUnit c key number taken u o → PacketUnit c key number taken w p → u ++ v ≡ w → v ≡ []
packet_alone c key number taken u v w o p laws a b e =
    let same = same_count (blocks_under c key) (tag_under c key) taken u v w (unit_extent c key number taken u o laws a) (unit_extent c key number taken w p laws b) e in
    no_more v (omega (arith, same, ap length e, length-append u v))

pub packet_some : {K : Type 0} (c : Crypto K) (key : Option K) (number taken : ℕ) (o : Outcome) → IsSealing c → PacketUnit c key number taken [] o → ⊥
packet_some c key number taken o laws a = absurd (omega (arith, from_four (blocks_under c key) (tag_under c key) taken [] (unit_extent c key number taken [] o laws a)))

-- the beginning of a packet has no unit in front
begun_short : (blocks : Blocks) (tag number : ℕ) (bytes u v : List ℕ) → IsPartial blocks tag bytes → (4 ≤ length bytes → number < 2 ^ 32) → u ++ v ≡ bytes → HasExtent blocks tag number u → ⊥
unfolding extent
begun_short blocks tag number bytes u v (no_length short) fresh e h = omega (arith, short, from_four blocks tag number u h, ap length e, length-append u v)
begun_short blocks tag number bytes u v (has_length n s short) fresh e h =
    let f = same_front h.field s.field (h.rest ++ v) s.rest (h.counts.count ∙ sym s.counts.count)
    (sym (append_assoc h.field h.rest v) ∙ ap (λ (l : List ℕ). l ++ v) (sym h.parts) ∙ e ∙ s.parts) in
    let count : h.count ≡ s.count = sym h.counts.value ∙ ap number_of f.0 ∙ s.counts.value in
    let four : 4 ≤ length bytes = omega (arith, from_four blocks tag number u h, ap length e, length-append u v) in
    let size : length u ≡ 4 + s.count + tag =
    h.size ∙ ap (extent blocks tag number) count ∙ cond-true _ _ _ s.size ∙ cond-true _ _ _ (lt-ltb number (2 ^ 32) (fresh four)) in
    omega (arith, size, s.whole, short, ap length e, length-append u v)

pub packet_begun : {K : Type 0} (c : Crypto K) (key : Option K) (number taken : ℕ) (bytes u v : List ℕ) (o : Outcome) → IsSealing c → IsPartialPacket c key taken bytes → u ++ v ≡ bytes → PacketUnit c key number taken u o → ⊥
packet_begun c key number taken bytes u v o laws b e a =
    begun_short (blocks_under c key) (tag_under c key) taken bytes u v b.buffered b.unspent e (unit_extent c key number taken u o laws a)
