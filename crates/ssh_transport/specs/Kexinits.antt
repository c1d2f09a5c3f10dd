-- What an end does with its peer's KEXINIT that nothing refuses.
use Rattle.std.specs.Prelude.{◌≡◌, ℕ, ◌+◌, ◌<◌, ◌≤◌, false, None, Some, List, [], ◌∷◌, ◌++◌, length}
use Rattle.ssh_model.specs.declared.side.Side.{Side}
use Rattle.ssh_model.specs.declared.side.Side.TheVariants.{Client, Server}
use Rattle.ssh_model.specs.declared.refusal.Refusal.TheVariants.{NumberSpent}
use Rattle.ssh_model.specs.Protocol.Bounds.{numbers_of_epoch}
use Rattle.ssh_model.specs.Protocol.Wire.Message.{Msg.KexInit, IsPayload, Proposal}
use Rattle.ssh_model.specs.Protocol.Wire.Sealing.{Crypto}
use Rattle.ssh_model.specs.Protocol.Sessions.Items.{Item, Item.Died, Item.Refused, Item.Took, Encoded}
use Rattle.ssh_model.specs.Protocol.Sessions.Parties.{Agreement, Parties, agreement_of}
use Rattle.ssh_model.specs.Protocol.Sessions.Turns.{AreEncoded}
use Rattle.ssh_model.specs.State.TransportLayer.Kept.{Transport, after_taken}
use Rattle.ssh_model.specs.State.TransportLayer.Summary.{items_sent}
use Rattle.ssh_model.specs.State.TransportLayer.Turns.{Turned}
use Rattle.ssh_transport_machine.specs.Answering.{IsQuiet}
use Rattle.ssh_transport_machine.specs.Puts.{Outs, Puts, payloads_of}
use Rattle.ssh_transport_machine.specs.State.{State, dead_state, noted}
use Rattle.ssh_transport_machine.specs.declared.machine.kexinit.KexinitFacts.{KexinitFacts}
use Rattle.ssh_transport_machine.specs.declared.machine.sending.SendOutcome.{SendOutcome}
use Rattle.ssh_transport_machine.specs.declared.machine.sending.SendOutcome.TheVariants.{Done, Spent}
use Rattle.ssh_transport.specs.Outcomes.{IsAnswered}
use Rattle.ssh_transport.specs.declared.outcome.Handled.TheVariants as handled
use Rattle.ssh_transport.specs.declared.outcome.TransportTurn.{TransportTurn}
use Rattle.ssh_transport.specs.OfClient.Kexinits.{ClientSays}
use Rattle.ssh_transport.specs.OfServer.Kexinits.{ServerSays}

-- what the role of this side says, and the transport after that, before the peer's KEXINIT is kept
abbrev pub Says : {K : Type 0} → Agreement → Side → Transport K → List Encoded → Transport K → Type 0
Says agreement Server s said after = ServerSays s said after
Says agreement Client s said after = ClientSays agreement s said after

-- It was said, and the peer's KEXINIT is kept.
pub record KexinitAnswered {K : Type 0} (c : Crypto K) (agreement : Agreement) (side : Side) (old : State K)
    (facts : KexinitFacts) (new : State K) (o : Outs) : Type 0 where
  pub said : List Encoded
  pub between : Transport K
  pub says : Says agreement side old.kept said between
  pub puts : Puts c old.kept.sending said o
  pub after : new ≡ record old { kept = noted facts.wrong facts.strict facts.extensions old.receiver.payload between }

-- There is something to say, and it has encodings.
pub record HasAnswer {K : Type 0} (agreement : Agreement) (side : Side) (s : Transport K) : Type 0 where
  pub said : List Encoded
  pub between : Transport K
  pub says : Says agreement side s said between
  pub some : 1 ≤ length said
  pub encoded : AreEncoded (items_sent said)

-- Too few numbers were left for it: nothing was put out, and the end is over.
pub record KexinitSpent {K : Type 0} (agreement : Agreement) (side : Side) (old new : State K) (o : Outs) : Type 0 where
  pub answer : HasAnswer agreement side old.kept
  pub few : numbers_of_epoch < old.kept.sending.count + length answer.said
  pub after : new ≡ dead_state old
  pub quiet : IsQuiet o

-- The KEXINIT is answered, or too few numbers are left for that, and the end is over.
abbrev pub KexinitDone : {K : Type 0} → Crypto K → Agreement → Side → State K → KexinitFacts → SendOutcome → State K → Outs →
    Type 0
KexinitDone c agreement side old facts Done new o = KexinitAnswered c agreement side old facts new o
KexinitDone c agreement side old facts Spent new o = KexinitSpent agreement side old new o

-- what is answered to the caller
abbrev pub KexinitTaken : {K : Type 0} → Crypto K → Agreement → Side → State K → KexinitFacts → TransportTurn → State K → Outs →
    Type 0
KexinitTaken c agreement side old facts given new o =
    IsAnswered handled.Kexinit (KexinitDone c agreement side old facts) given new o

-- ---- where memory is refused

-- Something would be said, and numbers are left for it.
pub record KexinitNeedsMemory {K : Type 0} (agreement : Agreement) (side : Side) (old : State K) : Type 0 where
  pub answer : HasAnswer agreement side old.kept
  pub room : old.kept.sending.count + length answer.said ≤ numbers_of_epoch

-- ---- as a turn of a session

-- the messages that were sent, the newest first, and all items of the turn: one constructor a row
pub data KexinitShows {K : Type 0} (agreement : Agreement) (side : Side) (s : Transport K) (payload : List ℕ) :
    SendOutcome → List Encoded → List Item → Type 0 where
  answered : (theirs : Proposal) (said : List Encoded) (between : Transport K) → IsPayload false (KexInit theirs) payload →
      Says agreement side s said between →
      KexinitShows agreement side s payload Done said (items_sent said ++ Took None (KexInit theirs) payload ∷ [])
  spent : KexinitShows agreement side s payload Spent [] (Died ∷ Refused NumberSpent (Some payload) ∷ [])

-- What was done with the KEXINIT is a turn of a session, with these items, bytes and payloads listed.
pub record KexinitTurn {K : Type 0} (p : Parties K) (side : Side) (history : List Item) (s : Transport K) (payload : List ℕ)
    (answer : SendOutcome) (new : Transport K) (o : Outs) : Type 0 where
  pub said : List Encoded
  pub items : List Item
  pub more : List ℕ
  pub shows : KexinitShows (agreement_of p side) side (after_taken s) payload answer said items
  pub turned : Turned p side history payload items more new
  pub parts : o.after ≡ o.before ++ more
  pub lists : o.payloads_after ≡ o.payloads_before ++ payloads_of said
