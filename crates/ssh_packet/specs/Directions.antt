-- One direction's packets at one end: the state of their sender and of their receiver.
use Rattle.std.specs.Prelude.{◌≡◌, ◌≤◌, ◌<◌, ◌^◌, ◌==◌, ◌++◌, ℕ, if◌then◌else◌, List, [], ◌∷◌, length, take, Option, None, Some}
use Rattle.ssh_model.specs.Protocol.Wire.DataTypes.{AreBytes}
use Rattle.ssh_model.specs.Protocol.Bounds.{numbers_of_epoch}
pub use Rattle.ssh_model.specs.State.TransportLayer.Directions.{Direction, SumsUp, counted, new_direction, renewed}
use Rattle.ssh_model.specs.Protocol.Sessions.Epochs.{count, epoch}
use Rattle.ssh_model.specs.Protocol.Wire.Outcome.{Outcome.Opens, Outcome.RefusedPacket}
use Rattle.ssh_model.specs.Protocol.Wire.Sealing.{Crypto, blocks_under, tag_under}
use Rattle.ssh_model.specs.Laws.Units.{IsPartial, IsPartialPacket}
use Rattle.ssh_model.specs.Protocol.Wire.Unit.{PacketUnit}
use Rattle.ssh_packet.specs.Reading.{Reading}
use Rattle.ssh_model.specs.declared.refusal.Refusal.{Refusal}
use Rattle.ssh_packet.specs.declared.step.PacketStep.{PacketStep}
use Rattle.ssh_packet.specs.declared.step.PacketStep.TheVariants.{Payload, More, Refused}

-- a direction by its fields
abbrev pub direction_of : {K : Type 0} → Option K → ℕ → ℕ → ℕ → Direction K
direction_of key number count epoch = record { key = key; number = number; count = count; epoch = epoch }

-- the direction before any packet, sealed under this key from the first packet on
abbrev pub sealed_direction : {K : Type 0} → K → Direction K
sealed_direction key = record { key = Some key; number = 0; count = 0; epoch = 0 }

-- the number of the next packet, or the count itself if the epoch has had all of its packets
abbrev pub next_number : {K : Type 0} → Direction K → ℕ
next_number direction = if direction.count == numbers_of_epoch then numbers_of_epoch else direction.number

-- the payload of NEWKEYS (RFC 4253 section 7.3)
abbrev pub newkeys : List ℕ
newkeys = 21 ∷ []

-- ---- the rest of a receiver's state

-- The bytes of the partial packet, the payload that is shown, and the refusal that stays.
pub record Receiver (K : Type 0) : Type 0 where
  pub direction : Direction K
  pub buffered : List ℕ
  pub payload : List ℕ
  pub ended : Option Refusal

-- the buffered bytes; after a refusal there are none
abbrev pub buffered_by : Option Refusal → List ℕ → List ℕ
buffered_by None rest = rest
buffered_by (Some refusal) rest = []

-- a receiver by its fields
abbrev pub receiver_of : {K : Type 0} → Direction K → Reading → Option Refusal → Receiver K
receiver_of direction reading ended = record {
  direction = direction;
  buffered = buffered_by ended reading.rest;
  payload = reading.payload;
  ended = ended;
}

-- the receiver before any byte came
abbrev pub new_receiver : {K : Type 0} → Direction K → Receiver K
new_receiver direction = record { direction = direction; buffered = []; payload = []; ended = None }

-- Every receiver satisfies this. Its reader holds a partial packet under its key, until it refuses. While it shows a payload
-- it buffers no byte.
pub record IsReceiver {K : Type 0} (c : Crypto K) (direction : Direction K) (reading : Reading) (ended : Option Refusal) : Type 0 where
  pub number : direction.number < 2 ^ 32
  pub count : direction.count ≤ numbers_of_epoch
  pub buffered : IsPartial (blocks_under c direction.key) (tag_under c direction.key) reading.rest
  pub are_bytes : AreBytes reading.rest
  pub unspent : ended ≡ None → 4 ≤ length reading.rest → direction.count < numbers_of_epoch
  pub live : ended ≡ None → reading.refused ≡ None
  pub between : (byte : ℕ) (more : List ℕ) → reading.payload ≡ byte ∷ more → reading.rest ≡ []

-- The bytes that a receiver buffers, followed by some of these, are the next packet, and it opens to this payload.
pub record NextOpens {K : Type 0} (c : Crypto K) (r : Receiver K) (bytes payload : List ℕ) : Type 0 where
  pub used : ℕ
  pub within : used ≤ length bytes
  pub live : r.ended ≡ None
  pub opens : PacketUnit c r.direction.key r.direction.number r.direction.count (r.buffered ++ take used bytes) (Opens payload)

-- The state and step of a receiver that has not refused, after it used all of these bytes.
abbrev pub Receives : {K : Type 0} → Crypto K → List ℕ → Receiver K → PacketStep Refusal → Receiver K → Type 0
Receives c bytes old Payload new =
    PacketUnit c old.direction.key old.direction.number old.direction.count bytes (Opens new.payload) × (new ≡ record old { direction = counted old.direction; buffered = []; payload = new.payload })
Receives c bytes old More new = IsPartialPacket c old.direction.key old.direction.count bytes × (new ≡ record old { buffered = bytes; payload = [] })
Receives c bytes old (Refused refusal) new =
    PacketUnit c old.direction.key old.direction.number old.direction.count bytes (RefusedPacket refusal) × (new ≡ record old { buffered = []; payload = []; ended = Some refusal })
