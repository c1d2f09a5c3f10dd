-- Where a transport of either role stands after a history of its own, and where each of its calls takes it from there.
use Rattle.std.specs.Prelude.{◌≡◌, ◌++◌, ℕ, Bool, false, true, List, Option, Result, Ok, Err, take}
use Rattle.ssh_model.specs.Protocol.Sessions.Items.{Item}
use Rattle.ssh_model.specs.Protocol.Sessions.Parties.{AreLawful, Parties, Settings, settings_of}
use Rattle.ssh_model.specs.Protocol.Sessions.Turns.{IsMaterial}
use Rattle.ssh_model.specs.Protocol.Wire.Sealing.{Crypto}
use Rattle.ssh_model.specs.declared.refusal.Refusal.{Refusal}
use Rattle.ssh_model.specs.declared.side.Side.{Side}
use Rattle.ssh_model.specs.State.TransportLayer.Kept.{Transport, after_fed, can_be_fed}
use Rattle.ssh_transport_machine.specs.Opening.{IsOpened}
use Rattle.ssh_transport_machine.specs.Puts.{Outs}
use Rattle.ssh_transport_machine.specs.State.{State, buffered_of}
use Rattle.ssh_transport_machine.specs.declared.machine.sending.SendOutcome.{SendOutcome}
use Rattle.ssh_transport.specs.Above.{PayloadSent, PeerRefused}
use Rattle.ssh_transport.specs.Asks.{AskTaken}
use Rattle.ssh_transport.specs.Places.{DiedTo, FailedTo, FedTo, MadeAt, PerformedTo, RefusedTo, SentTo, TakenTo, TransportStandsAfter}
use Rattle.ssh_transport.specs.Sending.{CanSend}
use Rattle.ssh_transport.specs.States.{TransportState}
use Rattle.ssh_transport.specs.Units.{RoleDoes, Took}
use Rattle.ssh_transport.specs.declared.outcome.AskTurn.{AskTurn}
use Rattle.ssh_transport.specs.declared.outcome.TransportAsk.{TransportAsk}
use Rattle.ssh_transport.specs.declared.outcome.TransportFault.{TransportFault}
use Rattle.ssh_transport.specs.declared.outcome.TransportTurn.{TransportTurn}
use Rattle.ssh_transport.specs.declared.role.Role as role

-- The transport stands after this history.
abbrev pub TransportStandsAt : {R S F K : Type 0} → role.Ghosts R S F K → Parties K → List Item → TransportState K R F → Type 0
TransportStandsAt r p history t = TransportStandsAfter p r.SIDE (r.is_of t.role p) history t.machine.kept

-- A transport was made with these settings, of whichever lawful parties they and its role are.
abbrev pub MadeOf : {R S F K : Type 0} → role.Ghosts R S F K → (given : Settings) → (cookie secret : List ℕ) →
    TransportState K R F → Outs → Type 0
MadeOf {K = K} r given cookie secret new o =
    (p : Parties K) → AreLawful p → settings_of p r.SIDE ≡ given → r.is_of new.role p →
    MadeAt p r.SIDE (r.is_of new.role p) cookie secret new.machine.kept o

-- where bytes of the peer took it, of which so many were used
abbrev pub TakesTo : {R S F K : Type 0} → role.Ghosts R S F K → Parties K → List Item → (old : TransportState K R F) →
    (bytes : List ℕ) → (used : ℕ) → Result TransportTurn TransportFault → (new : TransportState K R F) → Outs → Type 0
TakesTo r p history old bytes used (Ok given) new o =
    TakenTo p r.SIDE (r.is_of new.role p) history (buffered_of old.machine ++ take used bytes) given new.machine o
TakesTo r p history old bytes used (Err why) new o = FailedTo p r.SIDE (r.is_of new.role p) history why new.machine.kept

-- where an ask took it
abbrev pub AsksTo : {R S F K : Type 0} → role.Ghosts R S F K → Parties K → List Item → TransportAsk →
    Result AskTurn TransportFault → (new : TransportState K R F) → Outs → Type 0
AsksTo r p history asked (Ok done) new o = PerformedTo p r.SIDE (r.is_of new.role p) history asked done new.machine.kept o
AsksTo r p history asked (Err why) new o = FailedTo p r.SIDE (r.is_of new.role p) history why new.machine.kept

-- where a payload took it that the layers above sent
abbrev pub SendsTo : {R S F K : Type 0} → role.Ghosts R S F K → Parties K → List Item → (old : TransportState K R F) →
    (payload : List ℕ) → Result SendOutcome TransportFault → (new : TransportState K R F) → Outs → Type 0
SendsTo r p history old payload (Ok answer) new o =
    SentTo p r.SIDE (r.is_of new.role p) history payload answer old.machine.kept new.machine.kept o
SendsTo r p history old payload (Err why) new o = FailedTo p r.SIDE (r.is_of new.role p) history why new.machine.kept

-- where a refusal took it, with this payload or none
abbrev pub RefusesTo : {R S F K : Type 0} → role.Ghosts R S F K → Parties K → List Item → (why : Refusal) →
    (payload : Option (List ℕ)) → Result (Unit {0}) TransportFault → (new : TransportState K R F) → Outs → Type 0
RefusesTo r p history why payload (Ok done) new o = RefusedTo p r.SIDE (r.is_of new.role p) history why payload new.machine.kept o
RefusesTo r p history why payload (Err fault) new o = FailedTo p r.SIDE (r.is_of new.role p) history fault new.machine.kept

-- where a pair of cookie and secret took it, by the answer
abbrev pub FeedsTo : {R S F K : Type 0} → role.Ghosts R S F K → Parties K → List Item → (cookie secret : List ℕ) →
    Bool → (new : TransportState K R F) → Type 0
FeedsTo r p history cookie secret answer new = FedTo p r.SIDE (r.is_of new.role p) history cookie secret answer new.machine.kept

-- where it is left that was to die
abbrev pub DiesTo : {R S F K : Type 0} → role.Ghosts R S F K → Parties K → List Item → (old new : TransportState K R F) → Type 0
DiesTo r p history old new = DiedTo p r.SIDE (r.is_of new.role p) history old.machine.kept.dead new.machine.kept

-- ---- the law of a role

-- What a transport of this side does takes it from one place of a run to the next: where it is made, with bytes, on asks, and
-- with what the layers above have it do.
pub record TransportLifts {K R : Type 0} (side : Side) (c : Crypto K) (is_of : R → Parties K → Type 0) (does : R → RoleDoes K) :
    Type 0 where
  pub opened : (role : R) (p : Parties K) → AreLawful p → is_of role p → (given : Settings) → settings_of p side ≡ given →
      (cookie secret : List ℕ) → IsMaterial cookie secret → (new : State K) (o : Outs) →
      IsOpened c given side cookie secret new o → MadeAt p side (is_of role p) cookie secret new.kept o
  pub taken : (role : R) (p : Parties K) (history : List Item) (old : State K) →
      TransportStandsAfter p side (is_of role p) history old.kept → (bytes : List ℕ) (given : TransportTurn) (new : State K)
      (o : Outs) → Took c side (does role) old bytes given new o → TakenTo p side (is_of role p) history bytes given new o
  pub asked : (role : R) (p : Parties K) (history : List Item) (old : State K) →
      TransportStandsAfter p side (is_of role p) history old.kept → (asked : TransportAsk) (done : AskTurn) (new : State K)
      (o : Outs) → AskTaken c old asked done new o → PerformedTo p side (is_of role p) history asked done new.kept o
  pub sent : (role : R) (p : Parties K) (history : List Item) (old : State K) →
      TransportStandsAfter p side (is_of role p) history old.kept → (payload : List ℕ) → CanSend old.kept payload →
      (answer : SendOutcome) (new : State K) (o : Outs) → PayloadSent c old payload answer new o →
      SentTo p side (is_of role p) history payload answer old.kept new.kept o
  pub refused : (role : R) (p : Parties K) (history : List Item) (old : State K) →
      TransportStandsAfter p side (is_of role p) history old.kept → (why : Refusal) (payload : Option (List ℕ)) (new : State K)
      (o : Outs) → PeerRefused c old why new o → RefusedTo p side (is_of role p) history why payload new.kept o
  pub fed : (role : R) (p : Parties K) (history : List Item) (old : State K) →
      TransportStandsAfter p side (is_of role p) history old.kept → (cookie secret : List ℕ) → IsMaterial cookie secret →
      (answer : Bool) → answer ≡ can_be_fed old.kept → (new : State K) →
      (answer ≡ true → new ≡ record old { kept = after_fed cookie secret old.kept }) → (answer ≡ false → new ≡ old) →
      FedTo p side (is_of role p) history cookie secret answer new.kept
  pub died : (role : R) (p : Parties K) (history : List Item) (old : Transport K) →
      TransportStandsAfter p side (is_of role p) history old → (new : Transport K) → new.dead ≡ true →
      DiedTo p side (is_of role p) history old.dead new
