-- What an end does on an ask of its user.
use Rattle.std.specs.Prelude.{◌≡◌, ℕ, Option, None, Some, List, [], ◌∷◌, true, false}
use Rattle.ssh_model.specs.Protocol.Wire.Message.{Msg, Msg.Disconnect, Msg.KexInit}
use Rattle.ssh_model.specs.Protocol.Wire.Sealing.{Crypto}
use Rattle.ssh_model.specs.Protocol.KeyExchange.Exchanges.{Material}
use Rattle.ssh_model.specs.Protocol.Sessions.Items.{Ask, Ask.AskDisconnect, Encoded.EncodedBy}
use Rattle.ssh_model.specs.Protocol.Sessions.Parties.{offer_of}
use Rattle.ssh_model.specs.Protocol.Sessions.TurnClaims.{HasEncoding}
use Rattle.ssh_model.specs.Protocol.Sessions.Refusals.{first_refusal}
use Rattle.ssh_model.specs.State.TransportLayer.Kept.{Asks, Transport, after_sent, message_ask_checks}
use Rattle.ssh_model.specs.declared.ask_refusal.AskRefusal.{AskRefusal}
use Rattle.ssh_transport_machine.specs.Offering.{OwnSent}
use Rattle.ssh_transport_machine.specs.Puts.{Outs, Puts, Sends}
use Rattle.ssh_transport_machine.specs.State.{State}
use Rattle.ssh_transport_machine.specs.Answering.{HasRoom, IsQuiet, SpentBy}
use Rattle.ssh_transport_machine.specs.declared.machine.sending.SendOutcome.{SendOutcome}
use Rattle.ssh_transport_machine.specs.declared.machine.sending.SendOutcome.TheVariants.{Done, Spent}
use Rattle.ssh_transport.specs.declared.outcome.AskTurn.{AskTurn}
use Rattle.ssh_transport.specs.declared.outcome.AskTurn.TheVariants as turn

-- the refusal of an ask, where there is one
abbrev pub refusal_with : Option AskRefusal → Option AskRefusal
refusal_with None = None
refusal_with (Some why) = Some why

-- The ask was refused by the first check that holds, and changed nothing.
pub record AskRefused {K : Type 0} (old : State K) (ask : Ask) (why : AskRefusal) (new : State K) (o : Outs) :
    Type 0 where
  pub why_is : first_refusal (message_ask_checks old.kept ask) ≡ Some why
  pub after : new ≡ old
  pub quiet : IsQuiet o

-- Nothing refused it, and what it asks for was sent.
pub record AskSent {K : Type 0} (c : Crypto K) (old : State K) (ask : Ask) (new : State K) (o : Outs) : Type 0 where
  pub fine : first_refusal (message_ask_checks old.kept ask) ≡ None
  pub message : Msg
  pub payload : List ℕ
  pub kept : Transport K
  pub asks : Asks old.kept ask message payload kept
  pub puts : Puts c old.kept.sending (EncodedBy message payload ∷ []) o
  pub after : new ≡ record old { kept = kept }

-- Nothing refused it, and no number was left for what it asks for: nothing was put out, and the end is over.
pub record AskSpent {K : Type 0} (old : State K) (ask : Ask) (new : State K) (o : Outs) : Type 0 where
  pub fine : first_refusal (message_ask_checks old.kept ask) ≡ None
  pub message : Msg
  pub encoding : HasEncoding message
  pub kept : Transport K
  pub asks : Asks old.kept ask message encoding.payload kept
  pub spent : SpentBy old new o

-- what was done on an ask for a service or for an exchange of keys
abbrev pub AskDone : {K : Type 0} → Crypto K → State K → Ask → AskTurn → State K → Outs → Type 0
AskDone c old ask (turn.Refused why) new o = AskRefused old ask why new o
AskDone c old ask (turn.Answered Done) new o = AskSent c old ask new o
AskDone c old ask (turn.Answered Spent) new o = AskSpent old ask new o

-- DISCONNECT was sent, and the end is over. All else stays as it was, except for its number.
pub record DisconnectSent {K : Type 0} (c : Crypto K) (old : State K) (description : List ℕ) (new : State K)
    (o : Outs) : Type 0 where
  pub fine : first_refusal (message_ask_checks old.kept (AskDisconnect description)) ≡ None
  pub sends : Sends c old.kept.sending (Disconnect 11 description []) o
  pub after : new ≡ record old { kept = record (after_sent old.kept) { dead = true } }

-- No number was left for it.
pub record DisconnectSpent {K : Type 0} (old : State K) (description : List ℕ) (new : State K) (o : Outs) :
    Type 0 where
  pub fine : first_refusal (message_ask_checks old.kept (AskDisconnect description)) ≡ None
  pub spent : SpentBy old new o

-- what was done on an ask to disconnect with this description
abbrev pub DisconnectDone : {K : Type 0} → Crypto K → State K → List ℕ → AskTurn → State K → Outs → Type 0
DisconnectDone c old description (turn.Refused why) new o = AskRefused old (AskDisconnect description) why new o
DisconnectDone c old description (turn.Answered Done) new o = DisconnectSent c old description new o
DisconnectDone c old description (turn.Answered Spent) new o = DisconnectSpent old description new o

-- No number was left for a KEXINIT with this pair.
pub record OfferSpent {K : Type 0} (old : State K) (material : Material) (new : State K) (o : Outs) : Type 0 where
  pub encoding : HasEncoding (KexInit (offer_of old.kept.settings old.kept.side false material.cookie))
  pub spent : SpentBy old new o

-- A KEXINIT was sent with this pair, or no number was left for it.
abbrev pub OfferDone : {K : Type 0} → Crypto K → State K → Material → SendOutcome → State K → Outs → Type 0
OfferDone c old material Done new o = OwnSent c old material new o
OfferDone c old material Spent new o = OfferSpent old material new o

-- ---- where memory is refused

-- Nothing refuses the ask, and this would be sent.
pub record AskNeedsMemory {K : Type 0} (old : State K) (ask : Ask) : Type 0 where
  pub fine : first_refusal (message_ask_checks old.kept ask) ≡ None
  pub message : Msg
  pub encoding : HasEncoding message
  pub kept : Transport K
  pub asks : Asks old.kept ask message encoding.payload kept
  pub room : HasRoom old

-- Nothing refuses the ask to disconnect, and it would be sent.
pub record DisconnectNeedsMemory {K : Type 0} (old : State K) (description : List ℕ) : Type 0 where
  pub fine : first_refusal (message_ask_checks old.kept (AskDisconnect description)) ≡ None
  pub room : HasRoom old

-- A KEXINIT would be sent with this pair.
pub record OfferNeedsMemory {K : Type 0} (old : State K) (material : Material) : Type 0 where
  pub encoding : HasEncoding (KexInit (offer_of old.kept.settings old.kept.side false material.cookie))
  pub room : HasRoom old
