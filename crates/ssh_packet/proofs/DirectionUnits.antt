-- What a receiver makes of what its reader found.
use Rattle.std.proofs.Common.{◌≡◌, ℕ, ◌+◌, ◌-◌, ◌<◌, ◌≤◌, ◌^◌, List, [], ◌∷◌, ◌++◌, length, take, Option, None, sym, ap, subst, ◌∙◌, arith, length-append, inl, inr}
use Rattle.std.specs.Prelude.{Some}
use Rattle.std.proofs.lemmas.Bool.{cases_lt}
use Rattle.std.proofs.lemmas.List.{length-take, take-take}
use Rattle.ssh_model.specs.Protocol.Wire.DataTypes.{AreBytes}
use Rattle.ssh_model.specs.declared.refusal.Refusal.TheVariants as refusals
use Rattle.ssh_model.specs.Protocol.Wire.Outcome.{Outcome.RefusedPacket}
use Rattle.ssh_model.specs.Protocol.Wire.Packet.{Blocks}
use Rattle.ssh_model.specs.Protocol.Wire.Sealing.{Crypto, IsWhole, blocks_under, tag_under}
use Rattle.ssh_model.specs.Laws.Units.{IsPartial, IsPartial.no_length, IsPartial.has_length, IsPartialPacket}
use Rattle.ssh_model.specs.Protocol.Wire.Unit.{HasNumber, PacketUnit, PacketUnit.opens, PacketUnit.bad_length, PacketUnit.spent, PacketUnit.bad_tag, PacketUnit.bad_padding}
use Rattle.ssh_packet.specs.Bytes.{first_bytes, joined_bytes}
use Rattle.ssh_packet.specs.Reading.{Finds, Reading}
use Rattle.ssh_packet.specs.Refusals.{packet_refusal}
use Rattle.ssh_packet.specs.Sizes.{size_facts}
use Rattle.ssh_packet.specs.declared.refusal.PacketRefusal.{PacketRefusal}
use Rattle.ssh_packet.specs.declared.refusal.PacketRefusal.TheVariants.{BadLength, BadPadding, BadTag}
use Rattle.ssh_model.specs.declared.refusal.Refusal.{Refusal}
use Rattle.ssh_model.specs.declared.refusal.Refusal.TheVariants.{NumberSpent}
use Rattle.ssh_packet.specs.declared.step.PacketStep.{PacketStep}
use Rattle.ssh_packet.specs.declared.step.PacketStep.TheVariants.{Payload, More, Refused}
use Rattle.ssh_packet.specs.Directions.{Direction, Receives, Receiver, IsReceiver, counted, direction_of, newkeys, receiver_of}

-- no payload is shown
none_shown : (r : Reading) (b : ℕ) (more : List ℕ) → r.payload ≡ [] → r.payload ≡ b ∷ more → r.rest ≡ []
none_shown r b more none some = cc

-- no byte is buffered
pub none_begun : {K : Type 0} (c : Crypto K) (d : Direction K) (r : Reading) (ended : Option Refusal) → d.number < 2 ^ 32 → d.count ≤ 2 ^ 32 → r.rest ≡ [] → (ended ≡ None → r.refused ≡ None) → IsReceiver c d r ended
none_begun c d r ended number count none live = record {
  number = number;
  count = count;
  buffered = subst (λ (x : List ℕ). IsPartial (blocks_under c d.key) (tag_under c d.key) x) (sym none) (no_length (omega arith));
  are_bytes = subst AreBytes (sym none) tt;
  unspent = λ _ long. absurd (omega (arith, ap length none, long));
  live = live;
  between = λ b more _. none;
}

-- the next epoch, once NEWKEYS is shown
pub epoch_begun : {K : Type 0} (c : Crypto K) (d : Direction K) (key : K) (number epoch : ℕ) (r : Reading) (ended : Option Refusal) (o : Receiver K) → receiver_of d r ended ≡ o → IsReceiver c d r ended → o.payload ≡ newkeys → number < 2 ^ 32 →
    IsReceiver c (direction_of (Some key) number 0 epoch) r ended
epoch_begun c d key number epoch r ended o same kept shown fits =
    none_begun c (direction_of (Some key) number 0 epoch) r ended fits (omega arith) (kept.between _ _ (ap (λ (t : Receiver _). t.payload) same ∙ shown)) kept.live

-- A receiver that has not refused has this value, by its fields.
pub record Live {K : Type 0} (c : Crypto K) (d : Direction K) (old : Reading) (ended : Option Refusal) (o : Receiver K) : Type 0 where
  pub same : receiver_of d old ended ≡ o
  pub kept : IsReceiver c d old ended
  pub live : o.ended ≡ None

module _ {K : Type 0} {c : Crypto K} {d : Direction K} {old : Reading} {ended : Option Refusal} {o : Receiver K} (l : Live c d old ended o) where
  not_ended : ended ≡ None
  not_ended = ap (λ (t : Receiver K). t.ended) l.same ∙ l.live

  same : receiver_of d old None ≡ o
  same = ap (λ (e : Option Refusal). receiver_of d old e) (sym not_ended) ∙ l.same

  pub unrefused : old.refused ≡ None
  unrefused = l.kept.live not_ended

  pub count_is : d.count ≡ o.direction.count
  count_is = ap (λ (t : Receiver K). t.direction.count) same

  has_number : o.direction.count < 2 ^ 32 → HasNumber d.number d.count
  has_number left = (omega (arith, count_is, left), l.kept.number)

  pub begun_packet : IsPartialPacket c o.direction.key o.direction.count o.buffered
  begun_packet = subst (λ (t : Receiver K). IsPartialPacket c t.direction.key t.direction.count t.buffered) same (record { buffered = l.kept.buffered; unspent = l.kept.unspent not_ended })

  -- the buffered bytes, followed by those that were used
  used_bytes : (used : ℕ) (bytes : List ℕ) → AreBytes bytes → AreBytes (old.rest ++ take used bytes)
  used_bytes used bytes b = joined_bytes old.rest (take used bytes) l.kept.are_bytes (first_bytes used bytes b)

  -- what was made of the bytes, for the value of the receiver
  made : (bytes : List ℕ) (step : PacketStep Refusal) (new : Receiver K) → Receives c (old.rest ++ bytes) (receiver_of d old None) step new → Receives c (o.buffered ++ bytes) o step new
  made bytes step new f = subst (λ (t : Receiver K). Receives c (t.buffered ++ bytes) t step new) same f

  goes_on : (bytes : List ℕ) (step : PacketStep Refusal) (after : Direction K) (new : Reading) → Receives c (old.rest ++ bytes) (receiver_of d old None) step (receiver_of after new None) →
      Receives c (o.buffered ++ bytes) o step (receiver_of after new ended)
  goes_on bytes step after new f =
      subst (λ (e : Option Refusal). Receives c (o.buffered ++ bytes) o step (receiver_of after new e)) (sym not_ended) (made bytes step (receiver_of after new None) f)

  -- ---- while numbers are left

  module _ (left : o.direction.count < 2 ^ 32) (used : ℕ) (bytes : List ℕ) (are : AreBytes bytes) (new : Reading) where
    pub found_payload : Finds c d.key d.number (old.rest ++ take used bytes) Payload new → Receives c (o.buffered ++ take used bytes) o Payload (receiver_of (counted d) new ended)
    found_payload f =
        goes_on (take used bytes) Payload (counted d) new
        (opens new.payload (has_number left) (used_bytes used bytes are) f.0, ap (λ (r : Reading). receiver_of (counted d) r None) f.1)

    pub found_more : Finds c d.key d.number (old.rest ++ take used bytes) More new → Receives c (o.buffered ++ take used bytes) o More (receiver_of d new ended)
    found_more f =
        goes_on (take used bytes) More d new
        (record { buffered = f.0; unspent = λ _. (has_number left).0 }, ap (λ (r : Reading). receiver_of d r None) f.1)

    refused_unit : (refusal : PacketRefusal) → Finds c d.key d.number (old.rest ++ take used bytes) (Refused refusal) new → PacketUnit c d.key d.number d.count (old.rest ++ take used bytes) (RefusedPacket (packet_refusal refusal))
    refused_unit BadLength f = bad_length f.0
    refused_unit BadPadding f = bad_padding (has_number left) (used_bytes used bytes are) f.0
    refused_unit BadTag f = bad_tag (has_number left) (used_bytes used bytes are) f.0

    pub found_refused : (refusal : PacketRefusal) (why : Refusal) → why ≡ packet_refusal refusal → Finds c d.key d.number (old.rest ++ take used bytes) (Refused refusal) new →
        Receives c (o.buffered ++ take used bytes) o (Refused why) (receiver_of d new (Some why))
    found_refused refusal why is f =
        made (take used bytes) (Refused why) (receiver_of d new (Some why)) (
          subst (λ (r : Refusal). PacketUnit c d.key d.number d.count (old.rest ++ take used bytes) (RefusedPacket r)) (sym is) (refused_unit refusal f),
          ap (λ (r : Reading). receiver_of d r (Some why)) f.1,
        )

    pub kept_more : Finds c d.key d.number (old.rest ++ take used bytes) More new → IsReceiver c d new ended
    kept_more f =
        let rest : old.rest ++ take used bytes ≡ new.rest = sym (ap (λ (r : Reading). r.rest) f.1) in
        record {
          number = l.kept.number;
          count = l.kept.count;
          buffered = subst (λ (x : List ℕ). IsPartial (blocks_under c d.key) (tag_under c d.key) x) rest f.0;
          are_bytes = subst AreBytes rest (used_bytes used bytes are);
          unspent = λ _ _. (has_number left).0;
          live = λ _. ap (λ (r : Reading). r.refused) f.1;
          between = λ b more e. none_shown new b more (ap (λ (r : Reading). r.payload) f.1) e;
        }

-- ---- where all numbers are taken

no_whole : (blocks : Blocks) (tag : ℕ) (bytes : List ℕ) → IsWhole blocks tag bytes → length bytes ≤ 4 → ⊥
no_whole blocks tag bytes w short = let facts = size_facts blocks tag (4 + w.has.count) w.has.size in omega (arith, w.has.whole, facts.from)

field_unit : {K : Type 0} (c : Crypto K) (d : Direction K) (unit : List ℕ) (refusal : PacketRefusal) (new : Reading) → length unit ≤ 4 → Finds c d.key 0 unit (Refused refusal) new
    → PacketUnit c d.key d.number d.count unit (RefusedPacket (packet_refusal refusal))
field_unit c d unit BadLength new short f = bad_length f.0
field_unit c d unit BadPadding new short f = absurd (no_whole (blocks_under c d.key) (tag_under c d.key) unit f.0.whole short)
field_unit c d unit BadTag new short f = absurd (no_whole (blocks_under c d.key) (tag_under c d.key) unit f.0.whole short)

spent_unit : {K : Type 0} (c : Crypto K) (d : Direction K) (unit : List ℕ) → d.count ≡ 2 ^ 32 → IsPartial (blocks_under c d.key) (tag_under c d.key) unit → length unit ≡ 4 →
    PacketUnit c d.key d.number d.count unit (RefusedPacket refusals.NumberSpent)
spent_unit c d unit all (no_length short) four = absurd (omega arith)
spent_unit c d unit all (has_length n h short) four = spent n all four h

-- It reads the bytes up to the end of a length field, and uses so many of them.
pub record Field {K : Type 0} (c : Crypto K) (d : Direction K) (old : Reading) (ended : Option Refusal) (o : Receiver K) (used : ℕ) (bytes field : List ℕ) : Type 0 where
  pub live : Live c d old ended o
  pub spent : o.direction.count ≡ 2 ^ 32
  pub are_bytes : AreBytes bytes
  pub field_is : field ≡ take (4 - length old.rest) bytes
  pub used_to : used ≤ length field

module _ {K : Type 0} {c : Crypto K} {d : Direction K} {old : Reading} {ended : Option Refusal} {o : Receiver K} {used : ℕ} {bytes field : List ℕ} (f : Field c d old ended o used bytes field) (new : Reading) where
  all_taken : d.count ≡ 2 ^ 32
  all_taken = count_is f.live ∙ f.spent

  field_from : length old.rest < 4
  field_from = elim (cases_lt (length old.rest) 4) [
    | inl short ↦ short
    | inr long ↦ absurd (omega (arith, f.live.kept.unspent (not_ended f.live) long, all_taken))
  ]

  field_to : used ≤ 4 - length old.rest
  field_to = let to = f.used_to in omega (arith, ap length f.field_is, length-take (4 - length old.rest) bytes)

  same_bytes : take used field ≡ take used bytes
  same_bytes = ap (take used) f.field_is ∙ take-take used (4 - length old.rest) bytes field_to

  field_all : length (old.rest ++ take used field) ≤ 4
  field_all = omega (arith, field_from, field_to, length-append old.rest (take used field), length-take used field)

  pub field_refused : (refusal : PacketRefusal) (why : Refusal) → why ≡ packet_refusal refusal → Finds c d.key 0 (old.rest ++ take used field) (Refused refusal) new →
      Receives c (o.buffered ++ take used bytes) o (Refused why) (receiver_of d new (Some why))
  field_refused refusal why is found =
      subst (λ (x : List ℕ). Receives c (o.buffered ++ x) o (Refused why) (receiver_of d new (Some why))) same_bytes
      (made f.live (take used field) (Refused why) (receiver_of d new (Some why)) (
        subst (λ (r : Refusal). PacketUnit c d.key d.number d.count (old.rest ++ take used field) (RefusedPacket r)) (sym is) (field_unit c d (old.rest ++ take used field) refusal new field_all found),
        ap (λ (r : Reading). receiver_of d r (Some why)) found.1,
      ))

  pub field_spent : Finds c d.key 0 (old.rest ++ take used field) More new → 4 ≤ length new.rest → Receives c (o.buffered ++ take used bytes) o (Refused NumberSpent) (receiver_of d new (Some NumberSpent))
  field_spent found long =
      let rest : new.rest ≡ old.rest ++ take used field = ap (λ (r : Reading). r.rest) found.1 in
      let four : length (old.rest ++ take used field) ≡ 4 = omega (arith, ap length rest, field_all) in
      subst (λ (x : List ℕ). Receives c (o.buffered ++ x) o (Refused NumberSpent) (receiver_of d new (Some NumberSpent))) same_bytes
      (made f.live (take used field) (Refused NumberSpent) (receiver_of d new (Some NumberSpent))
      (spent_unit c d (old.rest ++ take used field) all_taken found.0 four, ap (λ (r : Reading). receiver_of d r (Some NumberSpent)) found.1))

  pub kept_spent : (why : Refusal) → Finds c d.key 0 (old.rest ++ take used field) More new → IsReceiver c d new (Some why)
  kept_spent why found =
      let rest : old.rest ++ take used field ≡ new.rest = sym (ap (λ (r : Reading). r.rest) found.1) in
      let all : AreBytes (old.rest ++ take used field) = subst (λ (x : List ℕ). AreBytes (old.rest ++ x)) (sym same_bytes) (used_bytes f.live used bytes f.are_bytes) in
      record {
        number = f.live.kept.number;
        count = f.live.kept.count;
        buffered = subst (λ (x : List ℕ). IsPartial (blocks_under c d.key) (tag_under c d.key) x) rest found.0;
        are_bytes = subst AreBytes rest all;
        unspent = λ e. absurd (let impossible : Some why ≡ None = e in cc);
        live = λ e. absurd (let impossible : Some why ≡ None = e in cc);
        between = λ b more e. none_shown new b more (ap (λ (r : Reading). r.payload) found.1) e;
      }
