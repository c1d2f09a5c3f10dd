-- What is told of the next packet of an end before it is taken, in a session.
use Rattle.std.specs.Prelude.{◌≡◌, ◌≤◌, ◌++◌, ℕ, Bool, List, [], ◌∷◌, length, take}
use Rattle.ssh_model.specs.Protocol.Sessions.Items.{Item, Item.Died, Item.Took, Item.TookGuess, Item.TookLine, Item.TookOtherLine}
use Rattle.ssh_model.specs.Protocol.Sessions.Parties.{Parties}
use Rattle.ssh_model.specs.Protocol.Sessions.Turns.{OnPayload, stage}
use Rattle.ssh_model.specs.Protocol.Wire.Message.{Msg, IsPayload}
use Rattle.ssh_model.specs.Protocol.Wire.Outcome.{Outcome, Outcome.Opens}
use Rattle.ssh_model.specs.Protocol.Wire.Unit.{IsUnit, PacketUnit}
use Rattle.ssh_model.specs.State.TransportLayer.Kept.{Transport}
use Rattle.ssh_model.specs.declared.side.Side.{Side}

-- The bytes that an end holds after this history, followed by some of these, are the next packet of its session, and it opens to this
-- payload.
pub record Foresees {K : Type 0} (p : Parties K) (side : Side) (history : List Item) (held bytes payload : List ℕ) : Type 0 where
  pub used : ℕ
  pub within : used ≤ length bytes
  pub unit : IsUnit p.crypto (stage p side history) (held ++ take used bytes) (Opens payload)

-- The items of a turn answer this payload, or the end dies for want of memory.
pub data AnswersPayload {K : Type 0} (p : Parties K) (side : Side) (history : List Item) (payload : List ℕ) : List Item → Type 0 where
  answers : {items : List Item} → OnPayload p side history payload items → AnswersPayload p side history payload items
  dies : AnswersPayload p side history payload (Died ∷ [])

-- The payload is this message, for an end that waits for the answer to a key probe or for one that does not.
pub record IsRead (message : Msg) (payload : List ℕ) : Type 0 where
  pub probing : Bool
  pub is : IsPayload probing message payload

-- Nothing but this payload was taken among these items.
abbrev pub TakesOnly : (payload : List ℕ) → List Item → Type 0
TakesOnly payload [] = Unit {0}
TakesOnly payload (Took channel message taken ∷ items) = ((taken ≡ payload) × IsRead message payload) × TakesOnly payload items
TakesOnly payload (TookGuess taken ∷ items) = (taken ≡ payload) × TakesOnly payload items
TakesOnly payload (TookLine line ∷ items) = ⊥
TakesOnly payload (TookOtherLine line ∷ items) = ⊥
TakesOnly payload (_ ∷ items) = TakesOnly payload items

-- A packet of the session is one by what its transport keeps.
abbrev pub ReadsBack : {K : Type 0} → Parties K → Side → List Item → Transport K → Type 0
ReadsBack p side history s =
    (bytes : List ℕ) (outcome : Outcome) → IsUnit p.crypto (stage p side history) bytes outcome →
    PacketUnit p.crypto s.taking.key s.taking.number s.taking.count bytes outcome
