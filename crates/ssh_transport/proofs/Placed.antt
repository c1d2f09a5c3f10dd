-- The law of a transport, and where a call takes it by its result.
use Rattle.std.proofs.Common.{◌≡◌, ℕ, ◌++◌, Bool, true, false, List, ◌∷◌, refl, ap, sym, subst, Option, Result, Ok, Err, IfErr, IfOk, OnOk, take}
use Rattle.ssh_model.specs.Protocol.Sessions.Items.{Item, Item.Died}
use Rattle.ssh_model.specs.Protocol.Sessions.Parties.{Parties}
use Rattle.ssh_model.specs.Protocol.Wire.Sealing.{Crypto}
use Rattle.ssh_model.specs.State.TransportLayer.Summary.{SumsUp}
use Rattle.ssh_model.specs.declared.refusal.Refusal.{Refusal}
use Rattle.ssh_model.specs.declared.side.Side.{Side}
use Rattle.ssh_transport_machine.specs.Opening.{IsOpened}
use Rattle.ssh_transport_machine.specs.Puts.{Outs}
use Rattle.ssh_transport_machine.specs.State.{State, buffered_of}
use Rattle.ssh_transport_machine.specs.declared.machine.sending.SendOutcome.{SendOutcome}
use Rattle.ssh_transport.specs.Above.{PayloadSent, PeerRefused, RefuseFailed, SendFailed}
use Rattle.ssh_transport.specs.Asks.{AskFailed, AskTaken}
use Rattle.ssh_transport.specs.Places.{DiedTo, FailedTo, TransportStandsAfter}
use Rattle.ssh_transport.specs.Sending.{CanSend}
use Rattle.ssh_transport.specs.Sessions.{UnitTurnOf}
use Rattle.ssh_transport.specs.Stands.{AsksTo, RefusesTo, SendsTo, TakesTo, TransportLifts}
use Rattle.ssh_transport.specs.States.{TransportState}
use Rattle.ssh_transport.specs.Units.{Failed, RoleDoes, RoleNeedsMemory, Took}
use Rattle.ssh_transport.specs.declared.outcome.AskTurn.{AskTurn}
use Rattle.ssh_transport.specs.declared.outcome.TransportAsk.{TransportAsk}
use Rattle.ssh_transport.specs.declared.outcome.TransportFault.{TransportFault}
use Rattle.ssh_transport.specs.declared.outcome.TransportFault.TheVariants as fault
use Rattle.ssh_transport.specs.declared.outcome.TransportTurn.{TransportTurn}
use Rattle.ssh_transport.specs.declared.role.Role.{Ghosts}
use Rattle.ssh_transport.proofs.Going.{died_to, stands_still}
use Rattle.ssh_transport.proofs.PlacingAbove.{AboveLaws, refused_to, sent_to}
use Rattle.ssh_transport.proofs.PlacingAsks.{AskingLaws, fed_to, made_at, performed_to}
use Rattle.ssh_transport.proofs.PlacingUnits.{UnitLaws, unit_to}

-- ---- the law

pub transports : {K R : Type 0} (units : UnitLaws K) (above : AboveLaws K) (asking : AskingLaws K) (side : Side) (c : Crypto K) (is_of : R → Parties K → Type 0) (does : R → RoleDoes K) →
    ((role : R) (p : Parties K) → is_of role p → p.crypto ≡ c) →
    ((role : R) (p : Parties K) → is_of role p → (history : List Item) (old : State K) → SumsUp p side history old.kept → (bytes : List ℕ) (given : TransportTurn) (new : State K) (o : Outs) → Took c side (does role) old bytes given new o → UnitTurnOf p side history old.kept bytes given new o) →
    TransportLifts side c is_of does
transports {K} {R} units above asking side c is_of does crypto taken = record {
  opened = λ role p lawful is given settings cookie secret material new o x.
      made_at asking p side (is_of role p) lawful is given settings cookie secret material new o (subst (λ (w : Crypto K). IsOpened w given side cookie secret new o) (sym (crypto role p is)) x);
  taken = λ role p history old place bytes given new o x.
      unit_to units p side (is_of role p) history old.kept place x.alive bytes new o given (taken role p place.parts_are history old place.sums bytes given new o x);
  asked = λ role p history old place asked done new o x.
      performed_to asking p side (is_of role p) history old place asked done new o (subst (λ (w : Crypto K). AskTaken w old asked done new o) (sym (crypto role p place.parts_are)) x);
  sent = λ role p history old place payload can answer new o x.
      sent_to above p side (is_of role p) history old place x.alive new o payload can answer (subst (λ (w : Crypto K). PayloadSent w old payload answer new o) (sym (crypto role p place.parts_are)) x);
  refused = λ role p history old place why payload new o x.
      refused_to above p side (is_of role p) history old place x.alive new o why payload (subst (λ (w : Crypto K). PeerRefused w old why new o) (sym (crypto role p place.parts_are)) x);
  fed = λ role p history old place cookie secret material answer e new fed same.
      fed_to asking p side (is_of role p) history old place cookie secret material answer e new fed same;
  died = λ role p history old place new dead. died_to units.guards p side (is_of role p) history old place old.dead refl new dead;
}

-- ---- a call that failed

module _ {K : Type 0} (p : Parties K) (side : Side) (parts : Type 0) (history : List Item) (old new : State K) (place : TransportStandsAfter p side parts history old.kept)
    (dies : old.kept.dead ≡ false → new.kept.dead ≡ true → TransportStandsAfter p side parts (Died ∷ history) new.kept) where
  stays : new ≡ old → TransportStandsAfter p side parts history new.kept
  stays same = stands_still p side parts history old.kept place new.kept (subst (λ (s : State K). SumsUp p side history s.kept) (sym same) place.sums)

  take_failed : (c : Crypto K) (needs_memory : RoleNeedsMemory K) (bytes : List ℕ) (why : TransportFault) → Failed c side needs_memory old bytes why new → FailedTo p side parts history why new.kept
  take_failed c needs_memory bytes fault.Memory x = dies x.alive x.dead
  take_failed c needs_memory bytes fault.Dead x = stays x.after

  ask_failed : (asked : TransportAsk) (why : TransportFault) → AskFailed old asked why new → FailedTo p side parts history why new.kept
  ask_failed asked fault.Memory x = dies x.alive x.dead
  ask_failed asked fault.Dead x = stays x.after

  send_failed : (why : TransportFault) → SendFailed old why new → FailedTo p side parts history why new.kept
  send_failed fault.Memory x = dies x.alive (ap (λ (s : State K). s.kept.dead) x.after)
  send_failed fault.Dead x = stays x.after

  refuse_failed : (refusal : Refusal) (why : TransportFault) → RefuseFailed old refusal why new → FailedTo p side parts history why new.kept
  refuse_failed refusal fault.Memory x = dies x.alive (ap (λ (s : State K). s.kept.dead) x.after)
  refuse_failed refusal fault.Dead x = stays x.after

-- ---- the calls, by their results

module _ {R S F K : Type 0} (role : Ghosts R S F K) (c : Crypto K) (law : TransportLifts role.SIDE c role.is_of role.does) (of : R) (old new : State K) (one two : F) (p : Parties K) (history : List Item) (o : Outs) where
  abbrev before : TransportState K R F
  before = record { machine = old; role = of; filler = one }

  abbrev after : TransportState K R F
  after = record { machine = new; role = of; filler = two }

  module _ (place : TransportStandsAfter p role.SIDE (role.is_of of p) history old.kept) where
    dying : old.kept.dead ≡ false → new.kept.dead ≡ true → TransportStandsAfter p role.SIDE (role.is_of of p) (Died ∷ history) new.kept
    dying alive dead = subst (λ (b : Bool). DiedTo p role.SIDE (role.is_of of p) history b new.kept) alive (law.died of p history old.kept place new.kept dead)

    pub takes_to : (bytes : List ℕ) (used : ℕ) (r : Result TransportTurn TransportFault) → IfOk r (λ given. Took c role.SIDE (role.does of) old (buffered_of old ++ take used bytes) given new o) →
        IfErr r (λ why. Failed c role.SIDE (role.needs_memory of) old (buffered_of old ++ take used bytes) why new) → TakesTo role p history before bytes used r after o
    takes_to bytes used (Ok given) x y = law.taken of p history old place (buffered_of old ++ take used bytes) given new o x
    takes_to bytes used (Err why) x y = take_failed p role.SIDE (role.is_of of p) history old new place dying c (role.needs_memory of) (buffered_of old ++ take used bytes) why y

    pub asks_to : (asked : TransportAsk) (r : Result AskTurn TransportFault) → IfOk r (λ done. AskTaken c old asked done new o) → IfErr r (λ why. AskFailed old asked why new) → AsksTo role p history asked r after o
    asks_to asked (Ok done) x y = law.asked of p history old place asked done new o x
    asks_to asked (Err why) x y = ask_failed p role.SIDE (role.is_of of p) history old new place dying asked why y

    pub sends_to : (payload : List ℕ) → CanSend old.kept payload → (r : Result SendOutcome TransportFault) → IfOk r (λ answer. PayloadSent c old payload answer new o) → IfErr r (λ why. SendFailed old why new) → SendsTo role p history before payload r after o
    sends_to payload can (Ok answer) x y = law.sent of p history old place payload can answer new o x
    sends_to payload can (Err why) x y = send_failed p role.SIDE (role.is_of of p) history old new place dying why y

    pub refuses_to : (why : Refusal) (payload : Option (List ℕ)) (r : Result (Unit {0}) TransportFault) → OnOk r (PeerRefused c old why new o) → IfErr r (λ fault. RefuseFailed old why fault new) → RefusesTo role p history why payload r after o
    refuses_to why payload (Ok done) x y = law.refused of p history old place why payload new o x
    refuses_to why payload (Err fault) x y = refuse_failed p role.SIDE (role.is_of of p) history old new place dying why fault y
