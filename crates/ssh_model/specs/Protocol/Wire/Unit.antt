-- The units of the byte stream that comes to an end: lines up to the version line, and then packets (own, if nothing else is said).
use Rattle.std.specs.Prelude.{◌≡◌, ◌<◌, ◌^◌, ℕ, Bool, true, false, List, length, Option}
use Rattle.ssh_model.specs.Protocol.Wire.DataTypes.{AreBytes}
use Rattle.ssh_model.specs.Protocol.Wire.Sealing.{Crypto, IsWire, IsBadLength, IsBadTag, IsBadPadding, HasSize}
use Rattle.ssh_model.specs.Protocol.Wire.Sealing.{blocks_under, tag_under}
use Rattle.ssh_model.specs.Protocol.Wire.Outcome.{Outcome, Outcome.Opens, Outcome.RefusedPacket}
use Rattle.ssh_model.specs.declared.refusal.Refusal.TheVariants.{BadLength, BadPadding, BadTag}
use Rattle.ssh_model.specs.declared.refusal.Refusal.TheVariants.{NumberSpent}
use Rattle.ssh_model.specs.Protocol.Wire.Line.{LineUnit}
use Rattle.ssh_model.specs.Protocol.Wire.Delivery.{Rules}
use Rattle.ssh_model.specs.Protocol.Bounds.{numbers_of_epoch}

-- The next packet has a sequence number of its own, a uint32: fewer than 2^32 were taken under this key (RFC 4253 section 6.4).
abbrev pub HasNumber : (number count : ℕ) → Type 0
HasNumber number count = (count < numbers_of_epoch) × (number < 2 ^ 32)

-- The unit is one packet with its tag, or its length field alone. The end took `count` packets under this key. Its next
-- packet has the sequence number `number`. The outcome is an opened payload or a refusal. The refusals are tested in
-- this order: the length field, spent numbers, the tag, the padding (RFC 4253 section 6, own).
pub data PacketUnit {K : Type 0} (c : Crypto K) (key : Option K) (number count : ℕ) (unit : List ℕ) : Outcome →
    Type 0 where
  opens : (payload : List ℕ) → HasNumber number count → AreBytes unit → IsWire c key number payload unit →
      PacketUnit c key number count unit (Opens payload)
  bad_length : IsBadLength (blocks_under c key) (tag_under c key) unit →
      PacketUnit c key number count unit (RefusedPacket BadLength)
  spent : (size : ℕ) → count ≡ numbers_of_epoch → length unit ≡ 4 → HasSize (blocks_under c key) (tag_under c key) size unit →
      PacketUnit c key number count unit (RefusedPacket NumberSpent)
  bad_tag : HasNumber number count → AreBytes unit → IsBadTag c key number unit →
      PacketUnit c key number count unit (RefusedPacket BadTag)
  bad_padding : HasNumber number count → AreBytes unit → IsBadPadding c key number unit →
      PacketUnit c key number count unit (RefusedPacket BadPadding)

-- The next thing that an end reads. `Lines`: a line, after so many other lines. `Packets`: a packet under this key, with
-- this sequence number, after `count` packets under that key.
pub data Stage (K : Type 0) : Type 0 where
  Lines : (from_server : Bool) (others : ℕ) → Stage K
  Packets : (key : Option K) (number count : ℕ) → Stage K

-- The bytes are the next unit, and this is its outcome.
abbrev pub IsUnit : {K : Type 0} → Crypto K → Stage K → List ℕ → Outcome → Type 0
IsUnit c (Lines from_server others) unit outcome = LineUnit from_server others unit outcome
IsUnit c (Packets key number count) unit outcome = PacketUnit c key number count unit outcome

-- The rules of an end whose stage is a function of its history.
abbrev pub reading : {K History : Type 0} → Crypto K → (stage : History → Stage K) →
    (after : History → List ℕ → History → Type 0) → (dead : History → Bool) → Rules History
reading c stage after dead = record {
  Ends = λ h unit. (dead h ≡ false) × (outcome : Outcome) × IsUnit c (stage h) unit outcome;
  After = after;
  Dead = λ h. dead h ≡ true;
}
