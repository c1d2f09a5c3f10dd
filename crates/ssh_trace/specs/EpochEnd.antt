-- One end of an epoch.
use Rattle.std.specs.Prelude.{◌≡◌, ◌≤◌, ◌<◌, ◌+◌, ◌%◌, ◌^◌, ℕ, Bool, true, false, if◌then◌else◌, List, [], length, Option, None, Some, unwrap_or}
use Rattle.ssh_model.specs.Protocol.Bounds.{longest_payload, numbers_of_epoch}
use Rattle.ssh_model.specs.OneEpoch.History.{Item, has_died, sent, took}
use Rattle.ssh_model.specs.Laws.MacOnly.{mac_only}
use Rattle.ssh_model.specs.Protocol.Wire.Outcome.{Outcome.Opens, Outcome.RefusedPacket}
use Rattle.ssh_model.specs.Laws.Reading.{Writes}
use Rattle.ssh_model.specs.Protocol.Wire.Sealing.{IsSealed}
use Rattle.ssh_model.specs.Protocol.Wire.Unit.{PacketUnit}
use Rattle.ssh_model.specs.Laws.Units.{IsPartialPacket}
use Rattle.ssh_model.specs.declared.refusal.Refusal.{Refusal}
use Rattle.ssh_packet.specs.Directions.{Direction, Receiver}
use Rattle.ssh_packet.specs.declared.step.PacketStep.{PacketStep}
use Rattle.ssh_packet.specs.declared.step.PacketStep.TheVariants.{Payload, More, Refused}
use Rattle.ssh_trace.specs.declared.epoch_end.AskStep.{AskStep}
use Rattle.ssh_trace.specs.declared.epoch_end.AskStep.TheVariants as ask

-- its keys, how many payloads it sent and took, the bytes of the partial packet, the payload taken last, and whether it is dead
pub record End : Type 0 where
  pub sending_key : List ℕ
  pub taking_key : List ℕ
  pub sent : ℕ
  pub taken : ℕ
  pub buffered : List ℕ
  pub payload : List ℕ
  pub dead : Bool

-- an end that nothing happened to
abbrev pub new_end : List ℕ → List ℕ → End
new_end sending_key taking_key = record { sending_key = sending_key; taking_key = taking_key; sent = 0; taken = 0; buffered = []; payload = []; dead = false }

-- ---- an end by its fields

abbrev pub key_in : Option (List ℕ) → List ℕ
key_in key = unwrap_or key []

abbrev pub end_of : Direction (List ℕ) → Receiver (List ℕ) → Bool → End
end_of sender receiver dead = record {
  sending_key = key_in sender.key;
  taking_key = key_in receiver.direction.key;
  sent = sender.count;
  taken = receiver.direction.count;
  buffered = receiver.buffered;
  payload = receiver.payload;
  dead = dead;
}

-- What holds of every end: both directions are under keys, their numbers are those of the only epoch, and a living end has
-- refused nothing.
pub record IsKept (sender : Direction (List ℕ)) (receiver : Receiver (List ℕ)) (dead : Bool) : Type 0 where
  pub sending : sender.key ≡ Some (key_in sender.key)
  pub taking : receiver.direction.key ≡ Some (key_in receiver.direction.key)
  pub next_sent : sender.number ≡ sender.count % 2 ^ 32
  pub next_taken : receiver.direction.number ≡ receiver.direction.count % 2 ^ 32
  pub live : dead ≡ false → receiver.ended ≡ None

-- ---- what an end does

pub record SameKeys (old new : End) : Type 0 where
  pub sending : new.sending_key ≡ old.sending_key
  pub taking : new.taking_key ≡ old.taking_key

-- it died, and did nothing else
pub record HasDied (old new : End) : Type 0 where
  pub dead : new.dead ≡ true
  pub sent : new.sent ≡ old.sent
  pub taken : new.taken ≡ old.taken

-- What an end made of bytes when it had used them all.
abbrev pub EndFinds : List ℕ → End → PacketStep Refusal → End → Type 0
EndFinds bytes old More new = IsPartialPacket mac_only (Some old.taking_key) old.taken bytes × (new ≡ record old { buffered = bytes; payload = [] })
EndFinds bytes old Payload new =
    PacketUnit mac_only (Some old.taking_key) old.taken old.taken bytes (Opens new.payload) × (new ≡ record old { buffered = []; payload = new.payload; taken = old.taken + 1 })
EndFinds bytes old (Refused refusal) new = PacketUnit mac_only (Some old.taking_key) old.taken old.taken bytes (RefusedPacket refusal) × HasDied old new

-- What an end made of the ask to send a payload, with the bytes put out before and after.
pub record Sends (payload : List ℕ) (old new : End) (before after : List ℕ) : Type 0 where
  pub short : length payload ≤ longest_payload
  pub left : old.sent < numbers_of_epoch
  pub writes : Writes (IsSealed mac_only (Some old.sending_key) old.sent payload) before after
  pub new_is : new ≡ record old { sent = old.sent + 1 }

pub record RefusesAsk (payload : List ℕ) (old new : End) (before after : List ℕ) : Type 0 where
  pub long : longest_payload < length payload
  pub new_is : new ≡ old
  pub none : after ≡ before

pub record SpendsNumbers (payload : List ℕ) (old new : End) (before after : List ℕ) : Type 0 where
  pub short : length payload ≤ longest_payload
  pub spent : old.sent ≡ numbers_of_epoch
  pub died : HasDied old new
  pub none : after ≡ before

abbrev pub EndAsks : List ℕ → End → AskStep → End → List ℕ → List ℕ → Type 0
EndAsks payload old ask.Sent new before after = Sends payload old new before after
EndAsks payload old ask.TooLong new before after = RefusesAsk payload old new before after
EndAsks payload old ask.Spent new before after = SpendsNumbers payload old new before after

-- ---- what the state of an end says of its history

-- the bytes that an end has not used; a dead one keeps none
abbrev pub left_of : End → List ℕ
left_of end = if end.dead then [] else end.buffered

-- The end sums up a history, the newest item first, with the bytes that it has not used.
pub record EndSums (h : List Item) (rest : List ℕ) (end : End) : Type 0 where
  pub dead_is : end.dead ≡ has_died h
  pub sent_is : end.sent ≡ length (sent h)
  pub taken_is : end.taken ≡ length (took h)
  pub rest_is : rest ≡ left_of end
