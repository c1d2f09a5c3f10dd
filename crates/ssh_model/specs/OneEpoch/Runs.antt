-- Two ends in one sealed epoch: each direction has one key, and both numbers begin at zero.
use Rattle.std.specs.Prelude.{◌≡◌, ◌≤◌, ◌<◌, ℕ, List, [], ◌∷◌, ◌++◌, length, false, true, Some}
use Rattle.ssh_model.specs.Protocol.Bounds.{longest_payload, numbers_of_epoch}
use Rattle.ssh_model.specs.Protocol.Wire.Sealing.{Crypto, IsSealed}
use Rattle.ssh_model.specs.Protocol.Wire.Outcome.{Outcome.Opens, Outcome.RefusedPacket}
use Rattle.ssh_model.specs.Protocol.Wire.Unit.{PacketUnit}
use Rattle.ssh_model.specs.Laws.Units.{IsPartialPacket}
use Rattle.ssh_model.specs.declared.ask_refusal.AskRefusal.TheVariants.{TooLong}
use Rattle.ssh_model.specs.declared.refusal.Refusal.{Refusal}
use Rattle.ssh_model.specs.declared.refusal.Refusal.TheVariants.{NumberSpent}
use Rattle.ssh_model.specs.declared.side.Side.{Side}
use Rattle.ssh_model.specs.declared.side.Side.TheVariants.{Client, Server}
use Rattle.ssh_model.specs.Protocol.Side.{peer, done_by, part}
use Rattle.ssh_model.specs.OneEpoch.History.{Item, Item.Asked, Item.AskRefused, Item.Sent, Item.Took, Item.Refused}
use Rattle.ssh_model.specs.OneEpoch.History.{Item.Died, Done, sent, took, has_died}

-- the keys of the two directions, by the side that sends
pub record Keys (K : Type 0) : Type 0 where
  pub client : K
  pub server : K

-- the key under which a side sends
abbrev pub key_of : {K : Type 0} → Keys K → Side → K
key_of keys Client = keys.client
key_of keys Server = keys.server

-- The items of an end that reads these bytes as one unit and uses all of them. It took `number` packets under its only key.
pub data Takes {K : Type 0} (c : Crypto K) (key : K) (number : ℕ) (unit : List ℕ) : List Item → Type 0 where
  payload : (bytes : List ℕ) → PacketUnit c (Some key) number number unit (Opens bytes) →
      Takes c key number unit (Took bytes ∷ [])
  refuses : (refusal : Refusal) → PacketUnit c (Some key) number number unit (RefusedPacket refusal) →
      Takes c key number unit (Died ∷ Refused refusal ∷ [])

-- The reading of bytes by an end with this history, which has not used them: the items that it adds, the newest first,
-- and the bytes that are left. A dead end uses none and keeps none.
pub data Gets {K : Type 0} (c : Crypto K) (key : K) : List Item → List ℕ → List Item → List ℕ → Type 0 where
  dead : {h : List Item} (bytes : List ℕ) → has_died h ≡ true → Gets c key h bytes [] []
  waits : {h : List Item} {rest : List ℕ} → has_died h ≡ false → IsPartialPacket c (Some key) (length (took h)) rest →
      Gets c key h rest [] rest
  takes : {h items more : List Item} {bytes rest : List ℕ} (unit after : List ℕ) → has_died h ≡ false →
      bytes ≡ unit ++ after →
      Takes c key (length (took h)) unit items → Gets c key (items ++ h) after more rest →
      Gets c key h bytes (more ++ items) rest

-- An end with this history, and with bytes that it has not used, is asked to send a payload. The result is the items
-- that it adds, the newest first, the bytes that it puts out, and the bytes that are left.
pub data Asks {K : Type 0} (c : Crypto K) (key : K) (h : List Item) (rest payload : List ℕ) : List Item → List ℕ →
    List ℕ → Type 0 where
  dead : has_died h ≡ true → Asks c key h rest payload [] [] rest
  too_long : has_died h ≡ false → longest_payload < length payload →
      Asks c key h rest payload (AskRefused TooLong ∷ Asked ∷ []) [] rest
  spent : has_died h ≡ false → length payload ≤ longest_payload → length (sent h) ≡ numbers_of_epoch →
      Asks c key h rest payload (Died ∷ Refused NumberSpent ∷ Asked ∷ []) [] []
  sends : (bytes : List ℕ) → has_died h ≡ false → length payload ≤ longest_payload → length (sent h) < numbers_of_epoch →
      IsSealed c (Some key) (length (sent h)) payload bytes →
      Asks c key h rest payload (Sent payload ∷ Asked ∷ []) bytes rest

-- an event of the two ends
pub data Event : Type 0 where
  Ask : Side → List ℕ → Event
  Deliver : Side → List ℕ → Event

-- The state of a run: all that was done, the newest first, the bytes that each end has not used, and the bytes
-- that each end put out.
pub record World : Type 0 where
  pub run : List Done
  pub client_rest : List ℕ
  pub server_rest : List ℕ
  pub client_bytes : List ℕ
  pub server_bytes : List ℕ

-- the world in which nothing was done
abbrev pub fresh : World
fresh = record { run = []; client_rest = []; server_rest = []; client_bytes = []; server_bytes = [] }

-- the world after one side did these items, with the bytes that it has not used now, and those that it put out
abbrev pub next_world : World → Side → List Item → List ℕ → List ℕ → World
next_world w Client items rest bytes =
    record w { run = done_by Client items ++ w.run; client_rest = rest; client_bytes = w.client_bytes ++ bytes }
next_world w Server items rest bytes =
    record w { run = done_by Server items ++ w.run; server_rest = rest; server_bytes = w.server_bytes ++ bytes }

-- the bytes that a side has not used
abbrev pub rest_of : World → Side → List ℕ
rest_of w Client = w.client_rest
rest_of w Server = w.server_rest

-- One event of a run. A side opens the bytes that come to it under the key of its peer.
pub data Step {K : Type 0} (c : Crypto K) (keys : Keys K) (w : World) : Event → World → Type 0 where
  asks : {items : List Item} {bytes rest : List ℕ} (side : Side) (payload : List ℕ) →
      Asks c (key_of keys side) (part side w.run) (rest_of w side) payload items bytes rest →
      Step c keys w (Ask side payload) (next_world w side items rest bytes)
  gets : {items : List Item} {rest : List ℕ} (side : Side) (bytes : List ℕ) →
      Gets c (key_of keys (peer side)) (part side w.run) (rest_of w side ++ bytes) items rest →
      Step c keys w (Deliver side bytes) (next_world w side items rest [])

-- A run: events in their order, from one world to another.
pub data Run {K : Type 0} (c : Crypto K) (keys : Keys K) : World → List Event → World → Type 0 where
  ends : {w : World} → Run c keys w [] w
  goes : {w between end : World} {event : Event} {events : List Event} → Step c keys w event between →
      Run c keys between events end → Run c keys w (event ∷ events) end
