-- A unit of a stream of packets has one outcome.
use Rattle.std.proofs.Common.{◌≡◌, ℕ, ◌+◌, ◌^◌, ◌<◌, true, false, List, [], ◌∷◌, ◌++◌, length, refl, ap, sym, subst, ◌∙◌, arith, append-nil, length-append, Option}
use Rattle.ssh_model.specs.Protocol.Wire.DataTypes.{number as number_of}
use Rattle.ssh_model.specs.Protocol.Wire.Packet.{Blocks, IsBody, IsPacket, is_size}
use Rattle.ssh_model.specs.Protocol.Wire.Sealing.{Crypto, IsSealing, IsBadLength, HasSize, blocks_under, tag_under, opened_under}
use Rattle.ssh_model.specs.Protocol.Wire.Outcome.{Outcome, Outcome.Opens}
use Rattle.ssh_model.specs.Protocol.Wire.Unit.{PacketUnit, PacketUnit.opens, PacketUnit.bad_length, PacketUnit.spent, PacketUnit.bad_tag, PacketUnit.bad_padding}
use Rattle.ssh_model.specs.Laws.Encodings.{same_front}
use Rattle.ssh_model.proofs.Wire.Packets.{wire_whole}

one_body : (p q body : List ℕ) → IsBody p body → IsBody q body → p ≡ q
one_body p q body b d =
    let e : length b.padding ∷ p ++ b.padding ≡ length d.padding ∷ q ++ d.padding = sym b.parts ∙ d.parts in
    let sizes : length b.padding ≡ length d.padding = cc e in
    let rest : p ++ b.padding ≡ q ++ d.padding = cc e in
    (same_front p q b.padding d.padding (omega (arith, sizes, ap length rest, length-append p b.padding, length-append q d.padding)) rest).0

-- bytes are a packet of one payload
one_payload : (blocks : Blocks) (tag : ℕ) (p q bytes : List ℕ) → IsPacket blocks tag p bytes → IsPacket blocks tag q bytes → p ≡ q
one_payload blocks tag p q bytes a b =
    let s = same_front a.string.front b.string.front a.body b.body (a.string.size.count ∙ sym b.string.size.count) (sym a.string.parts ∙ b.string.parts) in
    one_body p q b.body (subst (λ (x : List ℕ). IsBody p x) s.1 a.is_body) b.is_body

-- a length field that a packet may have is not refused
good_length : (blocks : Blocks) (tag n : ℕ) (unit : List ℕ) → HasSize blocks tag n unit → IsBadLength blocks tag unit → ⊥
good_length blocks tag n unit h b =
    let s = same_front h.field unit h.rest [] (h.counts.count ∙ sym b.field.count) (sym h.parts ∙ sym (append-nil unit)) in
    let count : h.count ≡ b.count = sym h.counts.value ∙ ap number_of s.0 ∙ b.field.value in
    let e : true ≡ false = sym h.size ∙ ap (λ (k : ℕ). is_size blocks tag (4 + k)) count ∙ b.size in
    cc

fresh : (taken : ℕ) → taken < 2 ^ 32 → taken ≡ 2 ^ 32 → ⊥
fresh taken n e = omega (arith, n, e)

good_tag : {K : Type 0} (c : Crypto K) (key : Option K) (number : ℕ) (unit : List ℕ) → (opened_under c key number unit).good ≡ true → (opened_under c key number unit).good ≡ false → ⊥
good_tag c key number unit t f = let e : true ≡ false = sym t ∙ f in cc

module _ {K : Type 0} (c : Crypto K) (key : Option K) (number taken : ℕ) (unit : List ℕ) (laws : IsSealing c) where
  pub packet_outcome : (a b : Outcome) → PacketUnit c key number taken unit a → PacketUnit c key number taken unit b → a ≡ b
  packet_outcome _ _ (opens p n b w) (opens q m d v) = ap Opens (one_payload (blocks_under c key) (tag_under c key) p q (opened_under c key number unit).bytes w.packet v.packet)
  packet_outcome _ _ (opens p n b w) (bad_length l) = absurd (good_length (blocks_under c key) (tag_under c key) (length unit) unit (wire_whole c key number p unit laws n.1 b w).has l)
  packet_outcome _ _ (opens p n b w) (spent k e four h) = absurd (fresh taken n.0 e)
  packet_outcome _ _ (opens p n b w) (bad_tag m d t) = absurd (good_tag c key number unit w.good t.bad)
  packet_outcome _ _ (opens p n b w) (bad_padding m d x) = absurd (x.none p w.packet)
  packet_outcome _ _ (bad_length l) (opens p n b w) = absurd (good_length (blocks_under c key) (tag_under c key) (length unit) unit (wire_whole c key number p unit laws n.1 b w).has l)
  packet_outcome _ _ (bad_length l) (bad_length k) = refl
  packet_outcome _ _ (bad_length l) (spent k e four h) = absurd (good_length (blocks_under c key) (tag_under c key) k unit h l)
  packet_outcome _ _ (bad_length l) (bad_tag m d t) = absurd (good_length (blocks_under c key) (tag_under c key) (length unit) unit t.whole.has l)
  packet_outcome _ _ (bad_length l) (bad_padding m d x) = absurd (good_length (blocks_under c key) (tag_under c key) (length unit) unit x.whole.has l)
  packet_outcome _ _ (spent k e four h) (opens p n b w) = absurd (fresh taken n.0 e)
  packet_outcome _ _ (spent k e four h) (bad_length l) = absurd (good_length (blocks_under c key) (tag_under c key) k unit h l)
  packet_outcome _ _ (spent k e four h) (spent j f six g) = refl
  packet_outcome _ _ (spent k e four h) (bad_tag m d t) = absurd (fresh taken m.0 e)
  packet_outcome _ _ (spent k e four h) (bad_padding m d x) = absurd (fresh taken m.0 e)
  packet_outcome _ _ (bad_tag m d t) (opens p n b w) = absurd (good_tag c key number unit w.good t.bad)
  packet_outcome _ _ (bad_tag m d t) (bad_length l) = absurd (good_length (blocks_under c key) (tag_under c key) (length unit) unit t.whole.has l)
  packet_outcome _ _ (bad_tag m d t) (spent k e four h) = absurd (fresh taken m.0 e)
  packet_outcome _ _ (bad_tag m d t) (bad_tag n b s) = refl
  packet_outcome _ _ (bad_tag m d t) (bad_padding n b x) = absurd (good_tag c key number unit x.good t.bad)
  packet_outcome _ _ (bad_padding m d x) (opens p n b w) = absurd (x.none p w.packet)
  packet_outcome _ _ (bad_padding m d x) (bad_length l) = absurd (good_length (blocks_under c key) (tag_under c key) (length unit) unit x.whole.has l)
  packet_outcome _ _ (bad_padding m d x) (spent k e four h) = absurd (fresh taken m.0 e)
  packet_outcome _ _ (bad_padding m d x) (bad_tag n b t) = absurd (good_tag c key number unit x.good t.bad)
  packet_outcome _ _ (bad_padding m d x) (bad_padding n b y) = refl
