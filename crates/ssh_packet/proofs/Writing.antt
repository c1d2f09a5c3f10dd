-- The least packet of a payload.
use Rattle.std.proofs.Common.{◌≡◌, ℕ, ◌+◌, ◌-◌, ◌%◌, ◌<◌, ◌≤◌, ◌⊎◌, inl, inr, Bool, true, false, ltb, max, List, [], ◌∷◌, ◌++◌, length, take, drop, refl, sym, ap, subst, ◌∙◌, arith, length-append, length-drop, append_assoc}
use Rattle.std.proofs.lemmas.Bool.{le-leb, eq-eqb, cases_Bool, ltb-true, ltb-false, cond-true, cond-false}
use Rattle.std.proofs.lemmas.List.{length-take-le}
use Rattle.std.proofs.Math.Seq.{take-add, take-append_seam}
use Rattle.ssh_model.specs.Protocol.Bounds.{largest_packet}
use Rattle.ssh_model.specs.Protocol.Wire.DataTypes.{AreBytes, IsByte, IsUint32}
use Rattle.ssh_model.specs.Laws.Reading.{Writes}
use Rattle.ssh_model.specs.Protocol.Wire.Packet.{Blocks, IsBlock, IsPacket, IsLeastPacket, counted, is_size, least_size}
use Rattle.ssh_model.specs.Protocol.Wire.Sealing.{Crypto, IsSealed, blocks_under, tag_under, sealed_under}
use Rattle.ssh_packet.specs.Bytes.{first_bytes}
use Rattle.std.specs.Prelude.{Option}
use Rattle.std.proofs.Math.Seq.{drop-append_seam}
use Rattle.ssh_packet.specs.Sizes.{size_facts}
use Rattle.ssh_packet.specs.Writing.{HasParts, IsTail, Pads, gap_following, padding_for}

regroup : (before field payload x y : List ℕ) (count : ℕ) → (((before ++ field) ++ count ∷ []) ++ payload) ++ (x ++ y) ≡ before ++ ((field ++ (count ∷ (payload ++ x))) ++ y)
regroup before field payload x y count = simp append_assoc

-- the padding and room for the tag, cut from bytes in front of which the padding was put
pub tail_put : (count tag : ℕ) (IsGiven : List ℕ → Type 0) (room before after : List ℕ) → IsGiven (take count room) → count + tag ≤ length room → after ≡ before ++ take (count + tag) room
    → Writes (IsTail count tag IsGiven) before after
tail_put count tag IsGiven room before after given most e =
    record {
      bytes = take (count + tag) room;
      meets = record {
        padding = take count room;
        room = take tag (drop count room);
        filled = length-take-le count room (omega (arith, most));
        given = given;
        left = length-take-le tag (drop count room) (omega (arith, most, length-drop count room));
        parts = take-add count tag room;
      };
      parts = e;
    }

pub parts_put : (count tag : ℕ) (IsGiven : List ℕ → Type 0) (payload before a b c d tail : List ℕ) → Writes (IsUint32 (1 + length payload + count)) before a → Writes (IsByte count) a b → c ≡ b ++ payload → d ≡ c ++ tail → IsTail count tag IsGiven tail
    → Writes (HasParts count tag IsGiven payload) before d
parts_put count tag IsGiven payload before a b c d tail first second e f t =
    let field = first.bytes in
    let b_is : b ≡ (before ++ field) ++ count ∷ [] = second.parts ∙ ap (λ (x : List ℕ). a ++ x) second.meets ∙ ap (λ (x : List ℕ). x ++ count ∷ []) first.parts in
    record {
      bytes = (field ++ (count ∷ (payload ++ t.padding))) ++ t.room;
      meets = record { length_field = field; padding = t.padding; room = t.room; filled = t.filled; given = t.given; left = t.left; counts = first.meets; parts = refl };
      parts = f ∙ ap (λ (x : List ℕ). x ++ tail) (e ∙ ap (λ (x : List ℕ). x ++ payload) b_is)
          ∙ ap (λ (x : List ℕ). (((before ++ field) ++ count ∷ []) ++ payload) ++ x) t.parts
          ∙ regroup before field payload t.padding t.room count;
    }

-- ---- the padding

-- what the padding fills up
record Fills (size front padding : ℕ) : Type 0 where
  pub whole : (front + padding) % size ≡ 0
  pub from : 4 ≤ padding
  pub to : padding ≤ size + 3

-- the least bytes of padding, by the gap in the last block
cases_padding : (size front : ℕ) → ((gap_following size front ≡ size - front % size + size) × (size - front % size < 4)) ⊎ ((gap_following size front ≡ size - front % size) × (4 ≤ size - front % size))
cases_padding size front =
    let gap : ℕ = size - front % size in
    elim (cases_Bool (ltb gap 4)) [
      | inl t ↦ inl (cond-true (ltb gap 4) (gap + size) gap t, ltb-true gap 4 t)
      | inr f ↦ inr (cond-false (ltb gap 4) (gap + size) gap f, ltb-false gap 4 f)
    ]

fills_8 : (front : ℕ) → Fills 8 front (gap_following 8 front)
fills_8 front = elim (cases_padding 8 front) [
  | inl c ↦ let e = c.0 in record { whole = omega arith; from = omega arith; to = omega arith }
  | inr c ↦ let e = c.0 in record { whole = omega arith; from = omega arith; to = omega arith }
]

fills_16 : (front : ℕ) → Fills 16 front (gap_following 16 front)
fills_16 front = elim (cases_padding 16 front) [
  | inl c ↦ let e = c.0 in record { whole = omega arith; from = omega arith; to = omega arith }
  | inr c ↦ let e = c.0 in record { whole = omega arith; from = omega arith; to = omega arith }
]

fills_32 : (front : ℕ) → Fills 32 front (gap_following 32 front)
fills_32 front = elim (cases_padding 32 front) [
  | inl c ↦ let e = c.0 in record { whole = omega arith; from = omega arith; to = omega arith }
  | inr c ↦ let e = c.0 in record { whole = omega arith; from = omega arith; to = omega arith }
]

fills_64 : (front : ℕ) → Fills 64 front (gap_following 64 front)
fills_64 front = elim (cases_padding 64 front) [
  | inl c ↦ let e = c.0 in record { whole = omega arith; from = omega arith; to = omega arith }
  | inr c ↦ let e = c.0 in record { whole = omega arith; from = omega arith; to = omega arith }
]

-- what a packet of so many bytes of payload has to know of its blocks
record BlockFacts (blocks : Blocks) (count : ℕ) : Type 0 where
  pub same : max blocks.size 8 ≡ blocks.size
  pub from : 4 ≤ padding_for blocks count
  pub to : padding_for blocks count ≤ 67
  pub whole : counted blocks (5 + count + padding_for blocks count) % blocks.size ≡ 0
  pub at_least : 1 ≤ count → least_size blocks ≤ 5 + count + padding_for blocks count
  pub least : (other : ℕ) → counted blocks (5 + count + other) % blocks.size ≡ 0 → 4 ≤ other → padding_for blocks count ≤ other

blocks_8 : (counts : Bool) (count : ℕ) → BlockFacts (record { size = 8; counts_length = counts }) count
blocks_8 true count =
    let f = fills_8 (5 + count) in
    record { same = refl; from = f.from; to = omega (arith, f.to); whole = f.whole; at_least = λ some. omega (arith, f.whole, f.from); least = λ other whole from. omega (arith, f.whole, f.to) }
blocks_8 false count =
    let f = fills_8 (5 + count - 4) in
    record { same = refl; from = f.from; to = omega (arith, f.to); whole = omega (arith, f.whole); at_least = λ some. omega (arith, f.whole, f.from); least = λ other whole from. omega (arith, f.whole, f.to) }

blocks_16 : (counts : Bool) (count : ℕ) → BlockFacts (record { size = 16; counts_length = counts }) count
blocks_16 true count =
    let f = fills_16 (5 + count) in
    record { same = refl; from = f.from; to = omega (arith, f.to); whole = f.whole; at_least = λ some. omega (arith, f.whole, f.from); least = λ other whole from. omega (arith, f.whole, f.to) }
blocks_16 false count =
    let f = fills_16 (5 + count - 4) in
    record { same = refl; from = f.from; to = omega (arith, f.to); whole = omega (arith, f.whole); at_least = λ some. omega (arith, f.whole, f.from); least = λ other whole from. omega (arith, f.whole, f.to) }

blocks_32 : (counts : Bool) (count : ℕ) → BlockFacts (record { size = 32; counts_length = counts }) count
blocks_32 true count =
    let f = fills_32 (5 + count) in
    record { same = refl; from = f.from; to = omega (arith, f.to); whole = f.whole; at_least = λ some. omega (arith, f.whole, f.from); least = λ other whole from. omega (arith, f.whole, f.to) }
blocks_32 false count =
    let f = fills_32 (5 + count - 4) in
    record { same = refl; from = f.from; to = omega (arith, f.to); whole = omega (arith, f.whole); at_least = λ some. omega (arith, f.whole, f.from); least = λ other whole from. omega (arith, f.whole, f.to) }

blocks_64 : (counts : Bool) (count : ℕ) → BlockFacts (record { size = 64; counts_length = counts }) count
blocks_64 true count =
    let f = fills_64 (5 + count) in
    record { same = refl; from = f.from; to = omega (arith, f.to); whole = f.whole; at_least = λ some. omega (arith, f.whole, f.from); least = λ other whole from. omega (arith, f.whole, f.to) }
blocks_64 false count =
    let f = fills_64 (5 + count - 4) in
    record { same = refl; from = f.from; to = omega (arith, f.to); whole = omega (arith, f.whole); at_least = λ some. omega (arith, f.whole, f.from); least = λ other whole from. omega (arith, f.whole, f.to) }

blocks_of : (blocks : Blocks) (count : ℕ) → IsBlock blocks.size → BlockFacts blocks count
blocks_of blocks count (inl e) = subst (λ (n : ℕ). BlockFacts (record { size = n; counts_length = blocks.counts_length }) count) (sym e) (blocks_8 blocks.counts_length count)
blocks_of blocks count (inr (inl e)) = subst (λ (n : ℕ). BlockFacts (record { size = n; counts_length = blocks.counts_length }) count) (sym e) (blocks_16 blocks.counts_length count)
blocks_of blocks count (inr (inr (inl e))) = subst (λ (n : ℕ). BlockFacts (record { size = n; counts_length = blocks.counts_length }) count) (sym e) (blocks_32 blocks.counts_length count)
blocks_of blocks count (inr (inr (inr e))) = subst (λ (n : ℕ). BlockFacts (record { size = n; counts_length = blocks.counts_length }) count) (sym e) (blocks_64 blocks.counts_length count)

-- ---- the packet

size_test : (blocks : Blocks) (tag size : ℕ) → counted blocks size % max blocks.size 8 ≡ 0 → least_size blocks ≤ size → size + tag ≤ largest_packet → is_size blocks tag size ≡ true
size_test blocks tag size whole from to = rw (eq-eqb (counted blocks size % max blocks.size 8) 0 whole, le-leb (least_size blocks) size from, le-leb (size + tag) largest_packet to) refl

-- a packet of a payload, by its padding
packet_size : (blocks : Blocks) (tag : ℕ) (payload bytes : List ℕ) → (p : IsPacket blocks tag payload bytes) → length bytes ≡ 5 + length payload + length p.is_body.padding
packet_size blocks tag payload bytes p =
    let b = p.is_body in
    let s = p.string in
    ap length s.parts ∙ omega (arith, s.size.count, length-append s.front p.body, ap length b.parts, length-append payload b.padding)

-- what was written, without the room for its tag
cut : (count tag : ℕ) (IsGiven : List ℕ → Type 0) (payload bytes : List ℕ) → (h : HasParts count tag IsGiven payload bytes) → take (length bytes - tag) bytes ≡ h.length_field ++ (count ∷ payload ++ h.padding)
cut count tag IsGiven payload bytes h =
    let packet : List ℕ = h.length_field ++ (count ∷ payload ++ h.padding) in
    let n : length bytes - tag ≡ length packet = omega (arith, ap length h.parts, length-append packet h.room, h.left) in
    ap (λ (k : ℕ). take k bytes) n ∙ ap (take (length packet)) h.parts ∙ take-append_seam packet h.room

pub written_size : (blocks : Blocks) (tag : ℕ) (IsGiven : List ℕ → Type 0) (payload bytes : List ℕ) → HasParts (padding_for blocks (length payload)) tag IsGiven payload bytes → length bytes ≡ 5 + length payload + padding_for blocks (length payload) + tag
written_size blocks tag IsGiven payload bytes h =
    let count = padding_for blocks (length payload) in
    let packet : List ℕ = h.length_field ++ (count ∷ payload ++ h.padding) in
    ap length h.parts ∙ omega (arith, length-append packet h.room, h.left, length-append h.length_field (count ∷ payload ++ h.padding), h.counts.count, length-append payload h.padding, h.filled)

pub least_packet : (blocks : Blocks) (tag : ℕ) (IsGiven : List ℕ → Type 0) (payload bytes : List ℕ) → IsBlock blocks.size → 1 ≤ length payload → 5 + length payload + padding_for blocks (length payload) + tag ≤ largest_packet
    → HasParts (padding_for blocks (length payload)) tag IsGiven payload bytes → IsLeastPacket blocks tag payload (take (length bytes - tag) bytes)
least_packet blocks tag IsGiven payload bytes is some fits h =
    let count : ℕ = padding_for blocks (length payload) in
    let k = blocks_of blocks (length payload) is in
    let packet : List ℕ = h.length_field ++ (count ∷ payload ++ h.padding) in
    let size : length packet ≡ 5 + length payload + count = omega (arith, length-append h.length_field (count ∷ payload ++ h.padding), h.counts.count, length-append payload h.padding, h.filled) in
    let body : 1 + length payload + count ≡ length (count ∷ payload ++ h.padding) = omega (arith, length-append payload h.padding, h.filled) in
    let p : IsPacket blocks tag payload packet = record {
      body = count ∷ payload ++ h.padding;
      is_body = record { padding = h.padding; parts = ap (λ (n : ℕ). n ∷ payload ++ h.padding) (sym h.filled); some_payload = some; padding_from = omega (arith, h.filled, k.from); padding_to = omega (arith, h.filled, k.to) };
      string = record { front = h.length_field; size = subst (λ (n : ℕ). IsUint32 n h.length_field) body h.counts; parts = refl };
      size = subst (λ (n : ℕ). is_size blocks tag n ≡ true) (sym size) (size_test blocks tag (5 + length payload + count) (subst (λ (b : ℕ). counted blocks (5 + length payload + count) % b ≡ 0) (sym k.same) k.whole) (k.at_least some) fits);
    } in
    let least : (other : List ℕ) → IsPacket blocks tag payload other → length packet ≤ length other =
    λ other q.
    let n = packet_size blocks tag payload other q in
    let whole = subst (λ (b : ℕ). counted blocks (length other) % b ≡ 0) k.same (size_facts blocks tag (length other) q.size).whole in
    omega (arith, size, n, k.least (length q.is_body.padding) (subst (λ (x : ℕ). counted blocks x % blocks.size ≡ 0) n whole) q.is_body.padding_from) in
    subst (λ (x : List ℕ). IsLeastPacket blocks tag payload x) (sym (cut count tag IsGiven payload bytes h)) (record { packet = p; least = least })

-- ---- the bytes put out

-- a packet was written after the old bytes
pub record Written {K : Type 0} (c : Crypto K) (key : Option K) (IsGiven : List ℕ → Type 0) (blocks : Blocks) (tag start : ℕ) (payload old put : List ℕ) : Type 0 where
  pub blocks_are : blocks ≡ blocks_under c key
  pub are_blocks : IsBlock blocks.size
  pub tag_is : tag ≡ tag_under c key
  pub start_is : start ≡ length old
  pub some : 1 ≤ length payload
  pub fits : 5 + length payload + padding_for blocks (length payload) + tag ≤ largest_packet
  pub parts : Writes (HasParts (padding_for blocks (length payload)) tag IsGiven payload) old put
  pub are_bytes : AreBytes (drop start put)

module _ {K : Type 0} (c : Crypto K) (key : Option K) (IsGiven : List ℕ → Type 0) (number : ℕ) (blocks : Blocks) (tag start : ℕ) (payload old put : List ℕ) (w : Written c key IsGiven blocks tag start payload old put) where
  -- the packet without room for its tag
  abbrev pub packet : List ℕ
  packet = take (length put - start - tag_under c key) (drop start put)

  begins : take start put ≡ old
  begins = ap (take start) w.parts.parts ∙ ap (λ (n : ℕ). take n (old ++ w.parts.bytes)) w.start_is ∙ take-append_seam old w.parts.bytes

  following : drop start put ≡ w.parts.bytes
  following = ap (drop start) w.parts.parts ∙ ap (λ (n : ℕ). drop n (old ++ w.parts.bytes)) w.start_is ∙ drop-append_seam old w.parts.bytes

  packet_is : packet ≡ take (length w.parts.bytes - tag) w.parts.bytes
  packet_is =
      let count : length put - start - tag_under c key ≡ length w.parts.bytes - tag = omega (arith, ap length w.parts.parts, length-append old w.parts.bytes, w.start_is, w.tag_is) in
      ap (λ (n : ℕ). take n (drop start put)) count ∙ ap (take (length w.parts.bytes - tag)) following

  least : IsLeastPacket blocks tag payload packet
  least = subst (λ (x : List ℕ). IsLeastPacket blocks tag payload x) (sym packet_is) (least_packet blocks tag IsGiven payload w.parts.bytes w.are_blocks w.some w.fits w.parts.meets)

  -- its bytes after the old ones, sealed
  pub sealed_written : (final : List ℕ) → final ≡ take start put ++ sealed_under c key number packet → Writes (IsSealed c key number payload) old final
  sealed_written final e =
      record {
        bytes = sealed_under c key number packet;
        meets = record {
          packet = packet;
          are_bytes = first_bytes (length put - start - tag_under c key) (drop start put) w.are_bytes;
          least = subst (λ (b : Blocks). IsLeastPacket b (tag_under c key) payload packet) w.blocks_are (subst (λ (n : ℕ). IsLeastPacket blocks n payload packet) w.tag_is least);
          sealed = refl;
        };
        parts = e ∙ ap (λ (x : List ℕ). x ++ sealed_under c key number packet) begins;
      }

  pub padded_written : (final : List ℕ) → final ≡ take start put ++ sealed_under c key number packet → Pads c key number payload IsGiven old final
  padded_written final e =
      let h = w.parts.meets in
      let count : ℕ = padding_for blocks (length payload) in
      let whole : packet ≡ h.length_field ++ (length h.padding ∷ payload ++ h.padding) =
      packet_is ∙ cut count tag IsGiven payload w.parts.bytes h ∙ ap (λ (n : ℕ). h.length_field ++ (n ∷ payload ++ h.padding)) (sym h.filled) in
      record {
        padding = h.padding;
        given = h.given;
        writes = record {
          bytes = sealed_under c key number packet;
          meets = record { length_field = h.length_field; counts = subst (λ (n : ℕ). IsUint32 (1 + length payload + n) h.length_field) (sym h.filled) h.counts; sealed = ap (sealed_under c key number) whole };
          parts = e ∙ ap (λ (x : List ℕ). x ++ sealed_under c key number packet) begins;
        };
      }
