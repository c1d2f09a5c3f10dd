-- The items of a session, as a turn shows them.
use Rattle.std.specs.Prelude.{◌≡◌, ℕ, ◌-◌, length, map, Option, Some, None, option_map, List, [], ◌∷◌, ◌++◌, replicate}
use Rattle.ssh_message.specs.Meaning.{meaning}
use Rattle.ssh_model.specs.Protocol.Wire.Message.{Msg}
use Rattle.ssh_model.specs.Protocol.Sessions.Items.{Fact, Item, Item.Refused, Item.Told, Item.TookGuess, Item.TookLine}
use Rattle.ssh_model.specs.Protocol.Sessions.Items.{Item.TookOtherLine}
use Rattle.ssh_model.specs.declared.refusal.Refusal.{Refusal}
use Rattle.ssh_end_machine.specs.Steps.{fact_told}
use Rattle.ssh_end_machine.specs.Told.{told_of}
use Rattle.ssh_end_machine.specs.declared.step.TakenMessage.{TakenMessage}
use Rattle.ssh_end_machine.specs.declared.turn.SentPayloads.{SentPayloads}
use Rattle.ssh_end_machine.specs.declared.turn.Took.{Took}
use Rattle.ssh_end_machine.specs.declared.turn.Took.TheVariants as took
use Rattle.ssh_end_machine.specs.declared.turn.Turn.{Turn}

-- ---- of the items of a turn, the newest first

abbrev pub oldest : List Item → Option Item
oldest [] = None
oldest (item ∷ []) = Some item
oldest (_ ∷ items) = oldest items

-- the newest fact that is told
abbrev pub fact_in : List Item → Option Fact
fact_in [] = None
fact_in (Told fact ∷ items) = Some fact
fact_in (_ ∷ items) = fact_in items

-- the newest refusal of the peer
abbrev pub refusal_in : List Item → Option Refusal
refusal_in [] = None
refusal_in (Refused why opened ∷ items) = Some why
refusal_in (_ ∷ items) = refusal_in items

-- ---- the turn

-- The oldest item is shown as taken. Nothing is shown as taken if that is a refusal, or if there is no item.
abbrev pub ShowsTaken : Option Took → Option Item → Type 0
ShowsTaken None None = Unit {0}
ShowsTaken None (Some (Refused why opened)) = Unit {0}
ShowsTaken (Some (took.OtherLine text)) (Some item) = item ≡ TookOtherLine text.now
ShowsTaken (Some (took.VersionLine text)) (Some item) = item ≡ TookLine text.now
ShowsTaken (Some (took.Skipped payload)) (Some item) = item ≡ TookGuess payload.now
ShowsTaken (Some (took.Message channel message payload)) (Some item) = item ≡ Item.Took channel (meaning message) payload.now
ShowsTaken given item = ⊥

-- The turn shows the items that were taken, told and refused.
pub record TurnShows (turn : Turn) (items : List Item) : Type 0 where
  pub took : ShowsTaken turn.took (oldest items)
  pub told : option_map told_of turn.told ≡ fact_in items
  pub refused : turn.refused ≡ refusal_in items

-- The turn is that in which this message was taken.
pub record IsMessageTurn (step : TakenMessage) (message : Msg) (payload : List ℕ) (turn : Turn) : Type 0 where
  pub took : ShowsTaken turn.took (Some (Item.Took step.channel message payload))
  pub told : option_map told_of turn.told ≡ fact_told step.event_kind message step.channel

-- ---- sent messages

-- the payloads, the oldest first
abbrev pub payloads_in : SentPayloads → List (List ℕ)
payloads_in sent = map (λ v. v.items) sent.payloads.now

-- the channels of the payloads, one for each
abbrev pub channels_in : SentPayloads → List (Option ℕ)
channels_in sent = replicate (length sent.payloads.now - length sent.channels.now) None ++ sent.channels.now
