-- What holds of a machine of one side goes on holding.
use Rattle.std.proofs.Common.{◌≡◌, ℕ, List, refl, ap, sym, ◌∙◌, subst, Bool, true, false}
use Rattle.std.proofs.lemmas.Bool.{false≢true}
use Rattle.std.specs.Prelude.{Result, Ok, Err, IfOk, IfErr, OnOk}
use Rattle.ssh_model.specs.declared.side.Side.{Side}
use Rattle.ssh_model.specs.Protocol.Wire.Message.{Msg}
use Rattle.ssh_model.specs.Protocol.Wire.Sealing.{Crypto}
use Rattle.ssh_model.specs.Protocol.Sessions.Items.{Ask}
use Rattle.ssh_model.specs.Protocol.Sessions.Parties.{Settings}
use Rattle.ssh_model.specs.State.TransportLayer.Kept as kept
use Rattle.ssh_model.specs.State.TransportLayer.Kept.{Asks, Transport, after_fed, after_sent, can_be_fed}
use Rattle.ssh_packet.specs.declared.step.PacketStep.{PacketStep}
use Rattle.ssh_packet.specs.declared.step.PacketStep.TheVariants as step
use Rattle.ssh_model.specs.declared.refusal.Refusal.{Refusal}
use Rattle.ssh_transport.specs.Above.{PayloadSent, PeerRefused, RefuseFailed, SendFailed}
use Rattle.ssh_transport.specs.Asking.{AskDone}
use Rattle.ssh_transport.specs.Asks.{AskFailed, AskTaken, AskTurned}
use Rattle.ssh_transport.specs.Choices.{IsChoosing}
use Rattle.ssh_transport_machine.specs.LineTurns.{LineTaken}
use Rattle.ssh_transport_machine.specs.Opening.{IsOpened}
use Rattle.ssh_transport_machine.specs.Puts.{Outs}
use Rattle.ssh_transport.specs.Standing.{IsStanding, Stands}
use Rattle.ssh_transport_machine.specs.State.{State}
use Rattle.ssh_transport_machine.specs.Answering.{Answers}
use Rattle.ssh_transport.specs.Dispatching.{Does, PacketDone, PacketTaken}
use Rattle.ssh_transport_machine.specs.declared.machine.classifying.Classified.{Classified}
use Rattle.ssh_transport_machine.specs.declared.machine.classifying.Classified.TheVariants as classified
use Rattle.ssh_transport_machine.specs.declared.machine.LineTurn.{LineTurn}
use Rattle.ssh_transport_machine.specs.declared.machine.LineTurn.TheVariants as line
use Rattle.ssh_transport_machine.specs.declared.machine.sending.SendOutcome.{SendOutcome}
use Rattle.ssh_transport_machine.specs.declared.machine.sending.SendOutcome.TheVariants.{Done, Spent}
use Rattle.ssh_transport.specs.declared.outcome.AskTurn.{AskTurn}
use Rattle.ssh_transport.specs.declared.outcome.AskTurn.TheVariants as ask_turn
use Rattle.ssh_transport.specs.declared.outcome.TransportAsk.{TransportAsk}
use Rattle.ssh_transport.specs.declared.outcome.TransportAsk.TheVariants as ask
use Rattle.ssh_transport.specs.declared.outcome.TransportFault.{TransportFault}
use Rattle.ssh_transport.specs.declared.outcome.TransportFault.TheVariants as fault
use Rattle.ssh_transport.proofs.Choices.{answer_choosing, ask_choosing, goes_on, line_choosing, opened_choosing, packet_choosing}
use Rattle.ssh_transport.proofs.Living.{answer_live, ask_live, fed_live, line_live, opened_live, packet_live, same_side, sent_on}
use Rattle.ssh_transport.specs.Own.{Share, Share.OfRole, Share.Shared}

over : {A : Type 0} (b : Bool) → b ≡ true → b ≡ false → A
over b e f = absurd (false≢true (sym f ∙ e))

-- ---- the side

module _ {K : Type 0} where
  abbrev side_of : State K → Side
  side_of s = s.kept.side

  line_side : (old : State K) (bytes : List ℕ) (done : LineTurn) (new : State K) → LineTaken old bytes done new → side_of new ≡ side_of old
  line_side old bytes line.More new x = ap side_of x.after
  line_side old bytes line.Other new x = ap side_of x.after
  line_side old bytes line.Version new x = ap side_of x.after
  line_side old bytes (line.Refused why) new x = ap side_of x.after

  module _ (c : Crypto K) (old new : State K) (o : Outs) (alive : new.kept.dead ≡ false) where
    sent_side : (m : Msg) (k : Transport K) → k.side ≡ side_of old → (answer : SendOutcome) → Answers c old m k answer new o → side_of new ≡ side_of old
    sent_side m k same Done y = ap side_of y.after ∙ same
    sent_side m k same Spent y = over new.kept.dead (ap (λ (t : State K). t.kept.dead) y.after) alive

    does_side : (what : Classified) (done : Share) → Does c old what done new o → side_of new ≡ side_of old
    does_side (classified.Refused why) (Shared given) y = over new.kept.dead (ap (λ (t : Transport K). t.dead) y.refuses.after) alive
    does_side classified.Skipped (Shared given) y = ap side_of y.becomes.after
    does_side classified.Disconnected (Shared given) y = ap side_of y.becomes.after
    does_side classified.Told (Shared given) y = ap side_of y.becomes.after
    does_side classified.Unknown (Shared given) y = sent_side _ _ refl y.answer y.answers
    does_side classified.ServiceRequested (Shared given) y = sent_side _ _ refl y.answer y.answers
    does_side classified.ServiceAccepted (Shared given) y = ap side_of y.becomes.after
    does_side (classified.Kexinit facts) (OfRole left) y = ap side_of y.after
    does_side classified.NewKeys (Shared given) y = ap side_of y.taken.after
    does_side classified.EcdhInit (OfRole left) y = ap side_of y.after
    does_side classified.Reply (OfRole left) y = ap side_of y.after
    does_side classified.Above (Shared given) y = ap side_of y.becomes.after
    does_side _ _ y = absurd y

    packet_done_side : (found : PacketStep Refusal) (done : Share) → PacketDone c old found done new o → side_of new ≡ side_of old
    packet_done_side step.More (Shared given) y = ap side_of y.becomes.after
    packet_done_side (step.Refused why) (Shared given) y = over new.kept.dead (ap (λ (t : Transport K). t.dead) y.refuses.after) alive
    packet_done_side step.Payload done y = does_side y.what done y.does
    packet_done_side _ _ y = absurd y

  packet_side : (c : Crypto K) (old : State K) (bytes : List ℕ) (done : Share) (new : State K) (o : Outs) → PacketTaken c old bytes done new o → new.kept.dead ≡ false → side_of new ≡ side_of old
  packet_side c old bytes done new o x alive = packet_done_side c x.between new o alive x.found done x.does ∙ ap side_of x.rest

  asked_side : (k next : Transport K) (given : Ask) (m : Msg) (payload : List ℕ) → Asks k given m payload next → next.side ≡ k.side
  asked_side k next given m payload (kept.Asks.service p side) = refl
  asked_side k next given m payload (kept.Asks.rekey material p free has) = refl

  ask_side : (c : Crypto K) (old : State K) (given : Ask) (done : AskTurn) (new : State K) (o : Outs) → AskDone c old given done new o → new.kept.dead ≡ false → side_of new ≡ side_of old
  ask_side c old given (ask_turn.Refused why) new o x alive = ap side_of x.after
  ask_side c old given (ask_turn.Answered Done) new o x alive = ap side_of x.after ∙ asked_side old.kept x.kept given x.message x.payload x.asks
  ask_side c old given (ask_turn.Answered Spent) new o x alive = over new.kept.dead (ap (λ (t : State K). t.kept.dead) x.spent.after) alive

  answer_side : (c : Crypto K) (old : State K) (m : Msg) (answer : SendOutcome) (new : State K) (o : Outs) → Answers c old m (after_sent old.kept) answer new o → new.kept.dead ≡ false → side_of new ≡ side_of old
  answer_side c old m Done new o x alive = ap side_of x.after
  answer_side c old m Spent new o x alive = over new.kept.dead (ap (λ (t : State K). t.kept.dead) x.after) alive

-- ---- all of it

module _ {K : Type 0} where
  pub opened : (c : Crypto K) (settings : Settings) (side : Side) (cookie secret : List ℕ) (new : State K) (o : Outs) → IsOpened c settings side cookie secret new o → Stands side new
  opened c settings side cookie secret new o x = λ alive. record {
    side_is = ap side_of x.state_is;
    live = opened_live c settings side cookie secret new o x;
    choosing = opened_choosing c settings side cookie secret new o x;
  }

  pub lines : (side : Side) (old : State K) (bytes : List ℕ) (done : LineTurn) (new : State K) → old.kept.dead ≡ false → Stands side old → LineTaken old bytes done new → Stands side new
  lines side old bytes done new before stands x = λ alive. record {
    side_is = line_side old bytes done new x ∙ (stands before).side_is;
    live = line_live old bytes done new (stands before).live x alive;
    choosing = line_choosing old bytes done new (stands before).choosing x alive;
  }

  pub packets : (c : Crypto K) (side : Side) (old : State K) (bytes : List ℕ) (done : Share) (new : State K) (o : Outs) → old.kept.dead ≡ false → Stands side old → PacketTaken c old bytes done new o → Stands side new
  packets c side old bytes done new o before stands x = λ alive. record {
    side_is = packet_side c old bytes done new o x alive ∙ (stands before).side_is;
    live = packet_live c old bytes done new o (stands before).live x alive;
    choosing = packet_choosing c old bytes done new o (stands before).choosing x alive;
  }

  same : (side : Side) (old new : State K) → new ≡ old → IsStanding side old → IsStanding side new
  same side old new e x = subst (λ (w : State K). IsStanding side w) (sym e) x

  asked : (c : Crypto K) (side : Side) (old : State K) (given : Ask) (done : AskTurn) (new : State K) (o : Outs) → IsStanding side old → AskDone c old given done new o → new.kept.dead ≡ false → IsStanding side new
  asked c side old given done new o s x alive = record {
    side_is = ask_side c old given done new o x alive ∙ s.side_is;
    live = ask_live c old given done new o s.live x alive;
    choosing = ask_choosing c old given done new o s.choosing x alive;
  }

  answered : (c : Crypto K) (side : Side) (old : State K) (m : Msg) (answer : SendOutcome) (new : State K) (o : Outs) → IsStanding side old → Answers c old m (after_sent old.kept) answer new o → new.kept.dead ≡ false → IsStanding side new
  answered c side old m answer new o s x alive = record {
    side_is = answer_side c old m answer new o x alive ∙ s.side_is;
    live = answer_live c old m answer new o s.live x alive;
    choosing = answer_choosing c old m answer new o s.choosing x alive;
  }

  turned : (c : Crypto K) (side : Side) (old : State K) (given : TransportAsk) (done : AskTurn) (new : State K) (o : Outs) → IsStanding side old → AskTurned c old given done new o → new.kept.dead ≡ false → IsStanding side new
  turned c side old ask.Service done new o s x alive = asked c side old _ done new o s x alive
  turned c side old ask.Rekey done new o s x alive = asked c side old _ done new o s x alive
  turned c side old (ask.Disconnect description) (ask_turn.Refused why) new o s x alive = same side old new x.after s
  turned c side old (ask.Disconnect description) (ask_turn.Answered Done) new o s x alive = over new.kept.dead (ap (λ (t : State K). t.kept.dead) x.after) alive
  turned c side old (ask.Disconnect description) (ask_turn.Answered Spent) new o s x alive = over new.kept.dead (ap (λ (t : State K). t.kept.dead) x.spent.after) alive

  taken : (c : Crypto K) (side : Side) (old : State K) (given : TransportAsk) (done : AskTurn) (new : State K) (o : Outs) → Stands side old → AskTaken c old given done new o → Stands side new
  taken c side old given done new o stands x = λ alive. turned c side old given done new o (stands x.alive) x.turned alive

  failed : (side : Side) (old : State K) (given : TransportAsk) (why : TransportFault) (new : State K) → Stands side old → AskFailed old given why new → Stands side new
  failed side old given fault.Memory new stands x = λ alive. over new.kept.dead x.dead alive
  failed side old given fault.Dead new stands x = subst (λ (w : State K). Stands side w) (sym x.after) stands

  given_pair : (side : Side) (old new : State K) (cookie secret : List ℕ) → Stands side old → can_be_fed old.kept ≡ true → new ≡ record old { kept = after_fed cookie secret old.kept } → Stands side new
  given_pair side old new cookie secret stands can e = λ alive. let s = stands (ap (λ (w : State K). w.kept.dead) (sym e) ∙ alive) in record {
    side_is = ap side_of e ∙ s.side_is;
    live = fed_live old new cookie secret s.live can e;
    choosing = subst (λ (w : State K). IsChoosing w.kept) (sym e) (goes_on old.kept (after_fed cookie secret old.kept) refl refl refl refl s.choosing);
  }

  pub asks : (c : Crypto K) (side : Side) (old : State K) (given : TransportAsk) (result : Result AskTurn TransportFault) (new : State K) (o : Outs) → Stands side old → IfOk result (λ done. AskTaken c old given done new o) → IfErr result (λ fault. AskFailed old given fault new) →
      Stands side new
  asks c side old given (Ok done) new o stands x y = taken c side old given done new o stands x
  asks c side old given (Err why) new o stands x y = failed side old given why new stands y

  pub refused : (c : Crypto K) (side : Side) (old : State K) (why : Refusal) (result : Result (Unit {0}) TransportFault) (new : State K) (o : Outs) → Stands side old → OnOk result (PeerRefused c old why new o) → IfErr result (λ fault. RefuseFailed old why fault new) → Stands side new
  refused c side old why (Ok done) new o stands x y = λ alive. over new.kept.dead (ap (λ (t : Transport K). t.dead) x.refuses.after) alive
  refused c side old why (Err fault.Memory) new o stands x y = λ alive. over new.kept.dead (ap (λ (t : State K). t.kept.dead) y.after) alive
  refused c side old why (Err fault.Dead) new o stands x y = subst (λ (w : State K). Stands side w) (sym y.after) stands

  put : (c : Crypto K) (side : Side) (old new : State K) → new ≡ record old { kept = after_sent old.kept } → Stands side old → Stands side new
  put c side old new e stands = λ alive. let s = stands (ap (λ (w : State K). w.kept.dead) (sym e) ∙ alive) in record {
    side_is = ap side_of e ∙ s.side_is;
    live = same_side old new (after_sent old.kept) e refl refl refl (sent_on old.kept old.kept.requested s.live.kept) s.live;
    choosing = subst (λ (w : State K). IsChoosing w.kept) (sym e) (goes_on old.kept (after_sent old.kept) refl refl refl refl s.choosing);
  }

  pub sent : (c : Crypto K) (side : Side) (old : State K) (payload : List ℕ) (result : Result SendOutcome TransportFault) (new : State K) (o : Outs) → Stands side old → IfOk result (λ answer. PayloadSent c old payload answer new o) → IfErr result (λ fault. SendFailed old fault new) → Stands side new
  sent c side old payload (Ok Done) new o stands x y = put c side old new x.sent.after stands
  sent c side old payload (Ok Spent) new o stands x y = λ alive. over new.kept.dead (ap (λ (t : State K). t.kept.dead) x.sent.after) alive
  sent c side old payload (Err fault.Memory) new o stands x y = λ alive. over new.kept.dead (ap (λ (t : State K). t.kept.dead) y.after) alive
  sent c side old payload (Err fault.Dead) new o stands x y = subst (λ (w : State K). Stands side w) (sym y.after) stands

  pub fed : (side : Side) (old : State K) (done : Bool) (new : State K) (cookie secret : List ℕ) → Stands side old → done ≡ can_be_fed old.kept → (done ≡ true → new ≡ record old { kept = after_fed cookie secret old.kept }) → (done ≡ false → new ≡ old) → Stands side new
  fed side old true new cookie secret stands can kept_so same_so = given_pair side old new cookie secret stands (sym can) (kept_so refl)
  fed side old false new cookie secret stands can kept_so same_so = subst (λ (w : State K). Stands side w) (sym (same_so refl)) stands

  pub authenticated : (side : Side) (old : State K) → Stands side old → Stands side (record old { kept = record old.kept { authenticated = true } })
  authenticated side old stands = λ alive. let s = stands alive in record {
    side_is = s.side_is;
    live = same_side old (record old { kept = record old.kept { authenticated = true } }) (record old.kept { authenticated = true }) refl refl refl refl
        (record { pending = s.live.kept.pending; blocked = s.live.kept.blocked; taken_epochs = s.live.kept.taken_epochs; sent_epochs = s.live.kept.sent_epochs; fed = s.live.kept.fed; begun = λ e f. refl; granted = λ e f. refl }) s.live;
    choosing = goes_on old.kept (record old.kept { authenticated = true }) refl refl refl refl s.choosing;
  }

  pub dead : (side : Side) (s : State K) → s.kept.dead ≡ true → Stands side s
  dead side s e = λ alive. over s.kept.dead e alive
