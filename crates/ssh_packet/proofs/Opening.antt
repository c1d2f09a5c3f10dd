-- What a whole packet is when it is opened.
use Rattle.std.proofs.Common.{◌≡◌, ℕ, ◌+◌, ◌-◌, ◌<◌, ◌≤◌, ◌^◌, true, List, ◌∷◌, ◌++◌, length, take, drop, get_or, refl, sym, ap, subst, ◌∙◌, arith, length-append, length-drop, IsTrue, leb}
use Rattle.std.specs.Prelude.{Option, Some, None}
use Rattle.std.proofs.Math.Seq.{take-append_seam, drop-append_seam, drop-cons}
use Rattle.std.proofs.lemmas.Bool.{le-leb}
use Rattle.std.proofs.lemmas.List.{drop-take, get_or-take, length-take-le, take-append-drop, take-take}
use Rattle.ssh_model.specs.Protocol.Wire.DataTypes.{AreBytes, IsUint32}
use Rattle.ssh_model.specs.Protocol.Wire.Packet.{Blocks, IsBody, IsPacket, is_size}
use Rattle.ssh_model.specs.Protocol.Wire.Sealing.{Crypto, IsBadPadding, IsSealing, IsWhole, IsWire, is_wire_size, blocks_under, tag_under, opened_under}
use Rattle.ssh_packet.specs.Sizes.{size_facts}

-- a whole packet has the size of one
whole_size : (blocks : Blocks) (tag : ℕ) (bytes : List ℕ) → IsWhole blocks tag bytes → IsTrue (is_wire_size blocks tag (length bytes))
whole_size blocks tag bytes w =
    let h = w.has in
    let e : length bytes ≡ 4 + h.count + tag = h.whole in
    let less : leb tag (4 + h.count + tag) ≡ true = le-leb tag (4 + h.count + tag) (omega arith) in
    let rest : 4 + h.count + tag - tag ≡ 4 + h.count = omega arith in
    rw (e, less, rest) h.size

whole_room : (blocks : Blocks) (tag : ℕ) (bytes : List ℕ) → IsWhole blocks tag bytes → tag + 12 ≤ length bytes
whole_room blocks tag bytes w = omega (arith, w.has.whole, (size_facts blocks tag (4 + w.has.count) w.has.size).from)

-- ---- the packet that was opened

-- The padding of an opened packet, by its fifth byte, has at least four bytes and leaves a payload.
record HasPadding (packet : List ℕ) : Type 0 where
  pub from : 4 ≤ get_or packet 4 0
  pub room : get_or packet 4 0 + 5 < length packet

-- what then stands between the first five bytes and the padding
abbrev inner : List ℕ → List ℕ
inner packet = take (length packet - 5 - get_or packet 4 0) (drop 5 packet)

-- what opening keeps of a whole packet: its length field, and all but the tag's size
record IsOpened (tag : ℕ) (bytes packet : List ℕ) : Type 0 where
  pub front : take 4 packet ≡ take 4 bytes
  pub size : length packet + tag ≡ length bytes

opened_whole : {K : Type 0} (c : Crypto K) (key : Option K) (number : ℕ) (bytes : List ℕ) → IsSealing c → number < 2 ^ 32 → AreBytes bytes → IsWhole (blocks_under c key) (tag_under c key) bytes
    → IsOpened (tag_under c key) bytes (opened_under c key number bytes).bytes
opened_whole {K} c None number bytes laws n b w = record { front = refl; size = omega arith }
opened_whole {K} c (Some key) number bytes laws n b w =
    let size = whole_size (c.blocks key) (c.tag key) bytes w in
    record { front = laws.opened_front key number bytes n b size; size = laws.opened_length key number bytes n b size }

-- the length field in front of the packet
field_is : (blocks : Blocks) (tag : ℕ) (bytes packet : List ℕ) → IsWhole blocks tag bytes → IsOpened tag bytes packet → IsUint32 (length (drop 4 packet)) (take 4 packet)
field_is blocks tag bytes packet w o =
    let h = w.has in
    let first : take 4 bytes ≡ h.field = ap (take 4) h.parts ∙ ap (λ (n : ℕ). take n (h.field ++ h.rest)) (sym h.counts.count) ∙ take-append_seam h.field h.rest in
    let count : h.count ≡ length (drop 4 packet) = omega (arith, h.whole, o.size, length-drop 4 packet) in
    subst (λ (x : List ℕ). IsUint32 (length (drop 4 packet)) x) (sym (o.front ∙ first)) (subst (λ (n : ℕ). IsUint32 n h.field) count h.counts)

fifth : (packet : List ℕ) → 4 < length packet → drop 4 packet ≡ get_or packet 4 0 ∷ drop 5 packet
fifth packet h = drop-cons packet 4 0 h

body_is : (packet : List ℕ) → HasPadding packet → get_or packet 4 0 < 256 → IsBody (inner packet) (drop 4 packet)
body_is packet p byte =
    let count = length packet - 5 - get_or packet 4 0 in
    let long : count ≤ length (drop 5 packet) = omega (arith, p.room, length-drop 5 packet) in
    let size : length (drop count (drop 5 packet)) ≡ get_or packet 4 0 = omega (arith, p.room, length-drop count (drop 5 packet), length-drop 5 packet) in
    record {
      padding = drop count (drop 5 packet);
      parts = fifth packet (omega (arith, p.room)) ∙ ap (λ (x : List ℕ). get_or packet 4 0 ∷ x) (sym (take-append-drop count (drop 5 packet))) ∙ ap (λ (n : ℕ). n ∷ (take count (drop 5 packet) ++ drop count (drop 5 packet))) (sym size);
      some_payload = omega (arith, p.room, length-take-le count (drop 5 packet) long);
      padding_from = omega (arith, p.from);
      padding_to = omega arith;
    }

packet_found : (blocks : Blocks) (tag : ℕ) (bytes packet : List ℕ) → IsWhole blocks tag bytes → IsOpened tag bytes packet → HasPadding packet → get_or packet 4 0 < 256 → IsPacket blocks tag (inner packet) packet
packet_found blocks tag bytes packet w o p byte =
    let h = w.has in
    let same : 4 + h.count ≡ length packet = omega (arith, h.whole, o.size) in
    record {
      body = drop 4 packet;
      is_body = body_is packet p byte;
      string = record { front = take 4 packet; size = field_is blocks tag bytes packet w o; parts = sym (take-append-drop 4 packet) };
      size = subst (λ (n : ℕ). IsTrue (is_size blocks tag n)) same h.size;
    }

-- the padding of a packet is told by its fifth byte
padding_told : (blocks : Blocks) (tag : ℕ) (payload packet : List ℕ) → IsPacket blocks tag payload packet → HasPadding packet
padding_told blocks tag payload packet p =
    let b = p.is_body in
    let s = p.string in
    let four = s.size.count in
    let parts : packet ≡ s.front ++ (length b.padding ∷ payload ++ b.padding) = s.parts ∙ ap (λ (x : List ℕ). s.front ++ x) b.parts in
    let following : drop 4 packet ≡ length b.padding ∷ payload ++ b.padding = ap (drop 4) parts ∙ ap (λ (n : ℕ). drop n (s.front ++ (length b.padding ∷ payload ++ b.padding))) (sym four) ∙ drop-append_seam s.front (length b.padding ∷ payload ++ b.padding) in
    let count : length packet ≡ 5 + length payload + length b.padding = ap length parts ∙ omega (arith, four, length-append s.front (length b.padding ∷ payload ++ b.padding), length-append payload b.padding) in
    let heads : get_or packet 4 0 ∷ drop 5 packet ≡ length b.padding ∷ payload ++ b.padding = sym (fifth packet (omega arith)) ∙ following in
    let told : get_or packet 4 0 ≡ length b.padding = cc in
    record { from = omega (arith, b.padding_from); room = omega (arith, b.some_payload) }

-- ---- what was judged

-- A whole packet whose tag is good, with what opening left of it in front of these bytes.
pub record IsJudged {K : Type 0} (c : Crypto K) (key : Option K) (number tag size : ℕ) (bytes left : List ℕ) : Type 0 where
  pub laws : IsSealing c
  pub number_fits : number < 2 ^ 32
  pub are_bytes : AreBytes bytes
  pub tag_is : tag ≡ tag_under c key
  pub whole : IsWhole (blocks_under c key) tag bytes
  pub good : (opened_under c key number bytes).good ≡ true
  pub packet : take (size - tag_under c key) (take size left) ≡ (opened_under c key number bytes).bytes
  pub size_is : length bytes ≡ size
  pub within : size ≤ length left

module _ {K : Type 0} {c : Crypto K} {key : Option K} {number tag size : ℕ} {bytes left : List ℕ} (j : IsJudged c key number tag size bytes left) where
  whole_is : IsWhole (blocks_under c key) (tag_under c key) bytes
  whole_is = subst (λ (n : ℕ). IsWhole (blocks_under c key) n bytes) j.tag_is j.whole

  packet_is : take (size - tag) left ≡ (opened_under c key number bytes).bytes
  packet_is = sym (take-take (size - tag) size left (omega arith)) ∙ ap (λ (n : ℕ). take (size - n) (take size left)) j.tag_is ∙ j.packet

  room : tag + 12 ≤ size
  room = omega (arith, whole_room (blocks_under c key) tag bytes j.whole, j.size_is)

  packet_size : length (take (size - tag) left) ≡ size - tag
  packet_size = length-take-le (size - tag) left (omega (arith, j.within))

  -- The fifth byte says how long the padding is.
  module _ (padding : ℕ) (told : padding ≡ get_or left 4 0) where
    fifth_is : get_or (take (size - tag) left) 4 0 ≡ padding
    fifth_is = get_or-take (size - tag) left 4 0 (omega (arith, room)) ∙ sym told

    inner_is : inner (take (size - tag) left) ≡ take (size - tag - 5 - padding) (drop 5 left)
    inner_is =
        let packet = take (size - tag) left in
        let count : length packet - 5 - get_or packet 4 0 ≡ size - tag - 5 - padding = ap (λ (n : ℕ). n - 5 - get_or packet 4 0) packet_size ∙ ap (λ (n : ℕ). size - tag - 5 - n) fifth_is in
        let five : size - tag ≡ 5 + (size - tag - 5) = omega (arith, room) in
        let following : drop 5 packet ≡ take (size - tag - 5) (drop 5 left) = ap (λ (n : ℕ). drop 5 (take n left)) five ∙ drop-take 5 (size - tag - 5) left in
        ap (λ (n : ℕ). take n (drop 5 packet)) count ∙ ap (take (size - tag - 5 - padding)) following ∙ take-take (size - tag - 5 - padding) (size - tag - 5) (drop 5 left) (omega arith)

    pub judged_packet : padding < 256 → 4 ≤ padding → padding + 5 < size - tag → IsWire c key number (take (size - tag - 5 - padding) (drop 5 left)) bytes
    judged_packet byte from to =
        let packet = (opened_under c key number bytes).bytes in
        let has : HasPadding (take (size - tag) left) = record { from = omega (arith, fifth_is, from); room = omega (arith, fifth_is, packet_size, to) } in
        let opened = opened_whole c key number bytes j.laws j.number_fits j.are_bytes whole_is in
        let found : IsPacket (blocks_under c key) (tag_under c key) (inner packet) packet =
        packet_found (blocks_under c key) (tag_under c key) bytes packet whole_is opened (subst HasPadding packet_is has) (omega (arith, ap (λ (x : List ℕ). get_or x 4 0) packet_is, fifth_is, byte)) in
        record {
          size = whole_size (blocks_under c key) (tag_under c key) bytes whole_is;
          good = j.good;
          packet = subst (λ (x : List ℕ). IsPacket (blocks_under c key) (tag_under c key) x packet) (ap inner (sym packet_is) ∙ inner_is) found;
        }

    pub judged_padding : (4 ≤ padding → padding + 5 < size - tag → ⊥) → IsBadPadding c key number bytes
    judged_padding none =
        record {
          whole = whole_is;
          good = j.good;
          none = λ payload p.
              let has : HasPadding (take (size - tag) left) = subst HasPadding (sym packet_is) (padding_told (blocks_under c key) (tag_under c key) payload (opened_under c key number bytes).bytes p) in
              none (omega (arith, fifth_is, has.from)) (omega (arith, fifth_is, packet_size, has.room));
        }
