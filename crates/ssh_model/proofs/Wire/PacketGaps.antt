-- Bytes of a stream of packets are a partial packet, or have a unit in front.
use Rattle.std.proofs.Common.{◌≡◌, ℕ, ◌+◌, ◌-◌, ◌^◌, ◌<◌, ◌≤◌, true, false, leb, List, [], ◌∷◌, ◌++◌, length, take, drop, ◌⊎◌, inl, inr, refl, ap, sym, subst, ◌∙◌, arith, append_assoc, append-nil, length-append, length-drop, Option, Some, None}
use Rattle.std.proofs.lemmas.Bool.{cases_lt, cases_Bool, le-leb}
use Rattle.std.proofs.lemmas.List.{take-append-drop, length-take-le}
use Rattle.ssh_model.specs.Protocol.Wire.DataTypes.{AreBytes, IsUint32, number as number_of}
use Rattle.ssh_model.specs.Protocol.Wire.Packet.{Blocks, IsBody, IsPacket, is_size}
use Rattle.ssh_model.specs.Protocol.Wire.Sealing.{Crypto, IsSealing, HasSize, IsWhole, Opened, is_wire_size, blocks_under, tag_under, opened_under}
use Rattle.ssh_model.specs.Laws.Units.{IsPartial.no_length, IsPartial.has_length, HasUnit, IsPartialPacket, IsPlace}
use Rattle.ssh_model.specs.Protocol.Wire.Outcome.{Outcome, Outcome.Opens, Outcome.RefusedPacket}
use Rattle.ssh_model.specs.Protocol.Wire.Unit.{PacketUnit, PacketUnit.opens, PacketUnit.bad_length, PacketUnit.spent, PacketUnit.bad_tag, PacketUnit.bad_padding, HasNumber}
use Rattle.ssh_model.specs.declared.refusal.Refusal.TheVariants.{BadLength, BadPadding, BadTag, NumberSpent}
use Rattle.ssh_model.specs.Laws.Encodings.{same_front}

-- ---- what a whole packet opens to

body_or_not : (body : List ℕ) → ((p : List ℕ) × IsBody p body) ⊎ ((p : List ℕ) → IsBody p body → ⊥)
body_or_not [] = inr (λ p b. let e : [] ≡ length b.padding ∷ p ++ b.padding = b.parts in omega (arith, ap length e))
body_or_not (n ∷ rest) = go (cases_lt n 4) (cases_lt 255 n) (cases_lt n (length rest))
  where
    told : (p : List ℕ) (b : IsBody p (n ∷ rest)) → (n ≡ length b.padding) × (rest ≡ p ++ b.padding)
    told p b = let e : n ∷ rest ≡ length b.padding ∷ p ++ b.padding = b.parts in (cc e, cc e)

    go : ((n < 4) ⊎ (4 ≤ n)) → ((255 < n) ⊎ (n ≤ 255)) → ((n < length rest) ⊎ (length rest ≤ n)) → ((p : List ℕ) × IsBody p (n ∷ rest)) ⊎ ((p : List ℕ) → IsBody p (n ∷ rest) → ⊥)
    go (inl few) w v = inr (λ p b. omega (arith, few, (told p b).0, b.padding_from))
    go (inr x) (inl many) v = inr (λ p b. omega (arith, many, (told p b).0, b.padding_to))
    go (inr x) (inr y) (inr short) = inr (λ p b. omega (arith, short, (told p b).0, ap length (told p b).1, length-append p b.padding, b.some_payload))
    go (inr x) (inr y) (inl room) =
        let count = length rest - n in
        let size : length (drop count rest) ≡ n = omega (arith, room, length-drop count rest) in
        inl (
          take count rest,
          record {
            padding = drop count rest;
            parts = ap (λ (l : List ℕ). n ∷ l) (sym (take-append-drop count rest)) ∙ ap (λ (k : ℕ). k ∷ (take count rest ++ drop count rest)) (sym size);
            some_payload = omega (arith, room, length-take-le count rest (omega arith));
            padding_from = omega (arith, size, x);
            padding_to = omega (arith, size, y);
          },
        )

whole_size : (blocks : Blocks) (tag : ℕ) (unit : List ℕ) → IsWhole blocks tag unit → is_wire_size blocks tag (length unit) ≡ true
whole_size blocks tag unit w =
    let h = w.has in
    let e : length unit ≡ 4 + h.count + tag = h.whole in
    let less : leb tag (4 + h.count + tag) ≡ true = le-leb tag (4 + h.count + tag) (omega arith) in
    let rest : 4 + h.count + tag - tag ≡ 4 + h.count = omega arith in
    rw (e, less, rest) h.size

-- what opening keeps: the length field, and all but the tag's size
record IsOpened (tag : ℕ) (unit packet : List ℕ) : Type 0 where
  front : take 4 packet ≡ take 4 unit
  size : length packet + tag ≡ length unit

opened_whole : {K : Type 0} (c : Crypto K) (key : Option K) (number : ℕ) (unit : List ℕ) → IsSealing c → number < 2 ^ 32 → AreBytes unit → IsWhole (blocks_under c key) (tag_under c key) unit →
    IsOpened (tag_under c key) unit (opened_under c key number unit).bytes
opened_whole c None number unit laws n b w = record { front = refl; size = omega arith }
opened_whole c (Some key) number unit laws n b w =
    let size = whole_size (c.blocks key) (c.tag key) unit w in
    record { front = laws.opened_front key number unit n b size; size = laws.opened_length key number unit n b size }

front_of : (x y : List ℕ) → length x ≡ 4 → take 4 (x ++ y) ≡ x
front_of x y e = (same_front (take 4 (x ++ y)) x (drop 4 (x ++ y)) y (length-take-le 4 (x ++ y) (omega (arith, e, length-append x y)) ∙ sym e) (take-append-drop 4 (x ++ y))).0

opened_packet : (blocks : Blocks) (tag : ℕ) (unit packet payload : List ℕ) → IsWhole blocks tag unit → IsOpened tag unit packet → IsBody payload (drop 4 packet) → IsPacket blocks tag payload packet
opened_packet blocks tag unit packet payload w o b =
    let h = w.has in
    let first : take 4 packet ≡ h.field = o.front ∙ ap (take 4) h.parts ∙ front_of h.field h.rest h.counts.count in
    let sizes : 4 + h.count ≡ length packet = omega (arith, h.whole, o.size) in
    let count : h.count ≡ length (drop 4 packet) = omega (arith, sizes, length-drop 4 packet) in
    let field : IsUint32 (length (drop 4 packet)) (take 4 packet) = subst (λ (x : List ℕ). IsUint32 (length (drop 4 packet)) x) (sym first) (subst (λ (k : ℕ). IsUint32 k h.field) count h.counts) in
    record {
      body = drop 4 packet;
      is_body = b;
      string = record { front = take 4 packet; size = field; parts = sym (take-append-drop 4 packet) };
      size = subst (λ (k : ℕ). is_size blocks tag k ≡ true) sizes h.size;
    }

no_packet : (blocks : Blocks) (tag : ℕ) (unit packet : List ℕ) → IsWhole blocks tag unit → IsOpened tag unit packet → ((p : List ℕ) → IsBody p (drop 4 packet) → ⊥) → (payload : List ℕ) → IsPacket blocks tag payload packet → ⊥
no_packet blocks tag unit packet w o none payload p =
    let s = p.string in
    let four : length (take 4 packet) ≡ 4 = length-take-le 4 packet (omega (arith, w.has.whole, o.size)) in
    let e = same_front s.front (take 4 packet) p.body (drop 4 packet) (s.size.count ∙ sym four) (sym s.parts ∙ sym (take-append-drop 4 packet)) in
    none payload (subst (λ (x : List ℕ). IsBody payload x) e.1 p.is_body)

whole_unit : {K : Type 0} (c : Crypto K) (key : Option K) (number taken : ℕ) (unit : List ℕ) → IsSealing c → HasNumber number taken → AreBytes unit → IsWhole (blocks_under c key) (tag_under c key) unit → (o : Outcome) × PacketUnit c key number taken unit o
whole_unit c key number taken unit laws n b w = go (cases_Bool opened.good) (body_or_not (drop 4 opened.bytes))
  where
    opened : Opened
    opened = opened_under c key number unit

    keeps : IsOpened (tag_under c key) unit opened.bytes
    keeps = opened_whole c key number unit laws n.1 b w

    go : ((opened.good ≡ true) ⊎ (opened.good ≡ false)) → (((p : List ℕ) × IsBody p (drop 4 opened.bytes)) ⊎ ((p : List ℕ) → IsBody p (drop 4 opened.bytes) → ⊥)) → (o : Outcome) × PacketUnit c key number taken unit o
    go (inr bad) v = (RefusedPacket BadTag, bad_tag n b (record { whole = w; bad = bad }))
    go (inl good) (inl v) =
        (Opens v.0, opens v.0 n b (record { size = whole_size (blocks_under c key) (tag_under c key) unit w; good = good; packet = opened_packet (blocks_under c key) (tag_under c key) unit opened.bytes v.0 w keeps v.1 }))
    go (inl good) (inr none) =
        (RefusedPacket BadPadding, bad_padding n b (record { whole = w; good = good; none = no_packet (blocks_under c key) (tag_under c key) unit opened.bytes w keeps none }))

-- ---- what bytes are

front_bytes : (u v : List ℕ) → AreBytes (u ++ v) → AreBytes u
front_bytes [] v h = tt
front_bytes (x ∷ u) v h = (h.0, front_bytes u v h.1)

module _ {K : Type 0} (c : Crypto K) (key : Option K) (number taken : ℕ) (laws : IsSealing c) (fits : IsPlace number taken) (bytes : List ℕ) (are : AreBytes bytes) where
  abbrev Found : Type 0
  Found = IsPartialPacket c key taken bytes ⊎ HasUnit (PacketUnit c key number taken) bytes

  found_sized : (field rest : List ℕ) (n : ℕ) → bytes ≡ field ++ rest → IsUint32 n field → is_size (blocks_under c key) (tag_under c key) (4 + n) ≡ true → Found
  found_sized field rest n e u size = spent_or_not (cases_lt taken (2 ^ 32))
    where
      has : HasSize (blocks_under c key) (tag_under c key) (4 + n + tag_under c key) bytes
      has = record { field = field; rest = rest; count = n; parts = e; counts = u; size = size; whole = refl }

      spent_or_not : ((taken < 2 ^ 32) ⊎ (2 ^ 32 ≤ taken)) → Found
      spent_or_not (inr many) =
          inr (record {
            unit = field;
            more = rest;
            outcome = RefusedPacket NumberSpent;
            parts = sym e;
            is_unit = spent (4 + n + tag_under c key) (omega (arith, many, fits.0)) u.count (record { field = field; rest = []; count = n; parts = sym (append-nil field); counts = u; size = size; whole = refl });
          })
      spent_or_not (inl few) = whole_or_not (cases_lt (length bytes) (4 + n + tag_under c key))
        where
          whole_or_not : ((length bytes < 4 + n + tag_under c key) ⊎ (4 + n + tag_under c key ≤ length bytes)) → Found
          whole_or_not (inl short) = inl (record { buffered = has_length (4 + n + tag_under c key) has short; unspent = λ _. few })
          whole_or_not (inr long) = inr (record { unit = unit; more = drop count rest; outcome = (the_unit whole).0; parts = parts; is_unit = (the_unit whole).1 })
            where
              count : ℕ
              count = n + tag_under c key

              unit : List ℕ
              unit = field ++ take count rest

              enough : count ≤ length rest
              enough = omega (arith, long, ap length e, length-append field rest, u.count)

              parts : unit ++ drop count rest ≡ bytes
              parts = append_assoc field (take count rest) (drop count rest) ∙ ap (λ (l : List ℕ). field ++ l) (take-append-drop count rest) ∙ sym e

              whole : IsWhole (blocks_under c key) (tag_under c key) unit
              whole =
                  record {
                    has = record {
                      field = field;
                      rest = take count rest;
                      count = n;
                      parts = refl;
                      counts = u;
                      size = size;
                      whole = omega (arith, length-append field (take count rest), length-take-le count rest enough, u.count);
                    };
                  }

              the_unit : IsWhole (blocks_under c key) (tag_under c key) unit → (o : Outcome) × PacketUnit c key number taken unit o
              the_unit w = whole_unit c key number taken unit laws (few, fits.1 few) (front_bytes unit (drop count rest) (subst (λ (l : List ℕ). AreBytes l) (sym parts) are)) w

  pub packet_found : Found
  packet_found = go (cases_lt (length bytes) 4)
    where
      go : ((length bytes < 4) ⊎ (4 ≤ length bytes)) → Found
      go (inl short) = inl (record { buffered = no_length short; unspent = λ four. absurd (omega (arith, short, four)) })
      go (inr four) = sized (cases_Bool (is_size (blocks_under c key) (tag_under c key) (4 + number_of (take 4 bytes))))
        where
          e : bytes ≡ take 4 bytes ++ drop 4 bytes
          e = sym (take-append-drop 4 bytes)

          u : IsUint32 (number_of (take 4 bytes)) (take 4 bytes)
          u = record { are_bytes = front_bytes (take 4 bytes) (drop 4 bytes) (subst (λ (l : List ℕ). AreBytes l) e are); count = length-take-le 4 bytes four; value = refl }

          sized : ((is_size (blocks_under c key) (tag_under c key) (4 + number_of (take 4 bytes)) ≡ true) ⊎ (is_size (blocks_under c key) (tag_under c key) (4 + number_of (take 4 bytes)) ≡ false)) → Found
          sized (inl good) = found_sized (take 4 bytes) (drop 4 bytes) (number_of (take 4 bytes)) e u good
          sized (inr bad) =
              inr (record { unit = take 4 bytes; more = drop 4 bytes; outcome = RefusedPacket BadLength; parts = sym e; is_unit = bad_length (record { count = number_of (take 4 bytes); field = u; size = bad }) })
