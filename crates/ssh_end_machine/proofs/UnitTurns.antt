-- What an end does with the bytes of one line or one packet is what the end of a session does with them.
use Rattle.std.proofs.Common.{◌≡◌, ℕ, ◌++◌, true, false, List, refl, ap, sym, ◌∙◌, subst}
use Rattle.std.proofs.lemmas.Bool.{false≢true}
use Rattle.std.specs.Global.{Box}
use Rattle.ssh_model.specs.declared.side.Side.{Side}
use Rattle.ssh_model.specs.Protocol.Authentication.Requests.{Judge}
use Rattle.ssh_model.specs.State.End.Summary.{EndSumsUp}
use Rattle.ssh_model.specs.Protocol.Sessions.Items.{Item, messages_sent}
use Rattle.ssh_model.specs.Protocol.Sessions.Parties.{Parties}
use Rattle.ssh_model.specs.declared.refusal.Refusal.{Refusal}
use Rattle.ssh_model.specs.Protocol.Sessions.Turns.{stage}
use Rattle.ssh_model.specs.State.TransportLayer.Kept.{Transport}
use Rattle.ssh_model.specs.State.TransportLayer.Summary.{SumsUp}
use Rattle.ssh_model.specs.Protocol.Wire.Outcome.{Outcome.Opens}
use Rattle.ssh_model.specs.Protocol.Wire.Unit.{IsUnit}
use Rattle.ssh_kex.specs.declared.owned_choice.OwnedChoice.{OwnedChoice}
use Rattle.ssh_packet.specs.Refusals.{line_refusal}
use Rattle.ssh_transport.specs.Outcomes.{IsRefusal, LineOutcome, answer_outcome}
use Rattle.ssh_transport_machine.specs.Puts.{Outs, payloads_of}
use Rattle.ssh_transport.specs.Sessions.{IsAbove, UnitTurnOf, WouldDie, is_up}
use Rattle.ssh_transport.specs.Shown.{IsLineRefusal, LineTurnOf, PacketTurnOf}
use Rattle.ssh_transport_machine.specs.State.{State, buffered_of, dead_state}
use Rattle.ssh_transport_machine.specs.Answering.{IsQuiet}
use Rattle.ssh_transport_machine.specs.declared.machine.LineTurn.{LineTurn}
use Rattle.ssh_transport_machine.specs.declared.machine.LineTurn.TheVariants as line_turn
use Rattle.ssh_transport_machine.specs.declared.machine.sending.SendOutcome.{SendOutcome}
use Rattle.ssh_transport_machine.specs.declared.machine.sending.SendOutcome.TheVariants as answered
use Rattle.ssh_transport.specs.declared.outcome.Handled.TheVariants as effect
use Rattle.ssh_transport.specs.declared.outcome.TransportTurn.{TransportTurn}
use Rattle.ssh_transport.specs.declared.outcome.TransportTurn.TheVariants as outcome
use Rattle.ssh_transport.specs.Roles.{IsCompleted, IsOwnShown, Leaves, OwnTurn}
use Rattle.ssh_transport.specs.Units.{Died, RoleDoes, RoleNeedsMemory, Took}
use Rattle.ssh_model.specs.declared.refusal.Refusal.TheVariants as code
use Rattle.ssh_end_machine.specs.Outcomes.{is_whole, step_given}
use Rattle.ssh_end_machine.specs.Layers.{Layers}
use Rattle.ssh_end_machine.specs.Reading.{IsReading}
use Rattle.ssh_end_machine.specs.UnitTurns.{EndTurnsOn, IsRunning, IsUnitTurned}
use Rattle.ssh_end_machine.specs.Units.{Handles, AfterNewkeys, ToServices, TransportOnly, UnitHandled}
use Rattle.ssh_end_machine.specs.Sessions.{AreOf, IsLoginOf, end_of}
use Rattle.ssh_end_machine.specs.Steps.{Shows, UnitTurned, shown_by}
use Rattle.ssh_end_machine.specs.declared.layers.login.Login.{Login}
use Rattle.ssh_end_machine.specs.declared.step.Step.{Step}
use Rattle.ssh_end_machine.specs.declared.step.Step.TheVariants as step
use Rattle.ssh_end_machine.proofs.TurningBegun.{Begun}
use Rattle.ssh_end_machine.proofs.Judging.{ServerFacts}
use Rattle.ssh_end_machine.proofs.TurningReads.{Left, OpensShown, ReadingLaws, Reads, above_reads, ended_reads, refused_with, same_with, whole_reads}
use Rattle.ssh_end_machine.proofs.TurningShown.{shown_completing, shown_finished, shown_packet}
use Rattle.ssh_end_machine.proofs.TurnsAbove.{finished_so, still_judged}
use Rattle.ssh_end_machine.proofs.TurnsEnds.{completed_turn, number_spent, peer_refused}
use Rattle.ssh_end_machine.proofs.TurnsKexinit.{kexinit_answered}
use Rattle.ssh_end_machine.proofs.TurnsUnits.{other_line, payload_turn, refused_line, refused_packet, version_line}
use Rattle.ssh_end_machine.proofs.TurnsWhole.{goes_whole, kept_after, still_of, whole_turn}
use Rattle.ssh_end_machine.proofs.TurningLaws.{TurningLaws}
use Rattle.ssh_end_machine.proofs.TurningUnits.{unit_left, unit_waits}
use Rattle.ssh_end_machine.proofs.TurningWhole.{is_turn, is_whole_turn, no_more}
use Rattle.ssh_transport.specs.Own.{Own, Share.Shared}

-- the laws of a transport whose role does this, and has these parts
pub record TransportLaws {K : Type 0} (p : Parties K) (side : Side) (does : RoleDoes K) (needs_memory : RoleNeedsMemory K) : Type 0 where
  pub taken : (history : List Item) (old : State K) → SumsUp p side history old.kept → (bytes : List ℕ) (given : TransportTurn) (new : State K) (o : Outs) → Took p.crypto side does old bytes given new o → UnitTurnOf p side history old.kept bytes given new o
  pub died : (history : List Item) (old : State K) → SumsUp p side history old.kept → (bytes : List ℕ) (new : State K) → Died p.crypto side needs_memory old bytes new → WouldDie p side old.kept bytes
  pub completed : (old : State K) (bytes : List ℕ) (choice : Box OwnedChoice) (new : State K) (o : Outs) → Took p.crypto side does old bytes (outcome.Completed choice) new o → IsCompleted old new o
  -- An exchange that was ended would have taken memory.
  pub due : (old : State K) (bytes : List ℕ) (choice : Box OwnedChoice) (new : State K) (o : Outs) → Took p.crypto side does old bytes (outcome.Completed choice) new o → Died p.crypto side needs_memory old bytes (dead_state old)
  pub shown : (old new : State K) (o : Outs) (own : Own) (given : TransportTurn) → does old own given new o → IsOwnShown old given new o
  pub leaves : (old new : State K) (o : Outs) (own : Own) (given : TransportTurn) → does old own given new o → Leaves old given new

-- What is no whole line or packet is a step of its own.
turned_step : {K : Type 0} (p : Parties K) (side : Side) (history : List Item) (bytes : List ℕ) (done : Step) (new : State K) (later : Layers) (o : Outs) → IsUnitTurned p side history bytes done new later o → EndTurnsOn p side history bytes done new later o
turned_step p side history bytes step.More new later o x = absurd (no_more new.receiver.payload x.turned.items x.turned.shows)
turned_step p side history bytes step.OtherLine new later o x = x
turned_step p side history bytes step.VersionLine new later o x = x
turned_step p side history bytes step.Skipped new later o x = x
turned_step p side history bytes (step.Took took) new later o x = x
turned_step p side history bytes (step.Refused why) new later o x = x

module _ {K : Type 0} (laws : TurningLaws K) (reads : ReadingLaws K) (p : Parties K) (side : Side) (does : RoleDoes K) (needs_memory : RoleNeedsMemory K) (below : TransportLaws p side does needs_memory) (server_facts : ServerFacts) (judge : Judge) (history : List Item) (old : State K) (layers : Layers) (running : IsRunning p side judge history old layers) (bytes : List ℕ) where
  abbrev Given : TransportTurn → State K → Outs → Type 0
  Given given new o = Took p.crypto side does old bytes given new o

  -- ---- a unit

  module _ (done : Step) (new : State K) (later : Layers) (o : Outs) (given : TransportTurn) (between : State K) (middle : List ℕ) (payloads_before : List (List ℕ))
      (took : Given given between (record { before = o.before; after = middle; payloads_before = o.payloads_before; payloads_after = payloads_before }))
      (goes : Handles p.crypto judge given between layers done new later (record { before = middle; after = o.after; payloads_before = payloads_before; payloads_after = o.payloads_after })) where
    abbrev front : Outs
    front = record { before = o.before; after = middle; payloads_before = o.payloads_before; payloads_after = payloads_before }

    abbrev back : Outs
    back = record { before = middle; after = o.after; payloads_before = payloads_before; payloads_after = o.payloads_after }

    abbrev Turned : Type 0
    Turned = EndTurnsOn p side history bytes done new later o

    goes_so : (so : TransportTurn) → given ≡ so → Handles p.crypto judge so between layers done new later back
    goes_so so same = subst (λ (t : TransportTurn). Handles p.crypto judge t between layers done new later back) same goes

    took_so : (so : TransportTurn) → given ≡ so → Given so between front
    took_so so same = subst (λ (t : TransportTurn). Given t between front) same took

    left : Left p side history bytes given between
    left = unit_left laws reads p running.lawful side does below.shown below.leaves history old running.sums.transport running.reading bytes given between front took

    begun_now : given ≡ outcome.More → Begun p.crypto bytes between
    begun_now same = go left
      where
        go : Left p side history bytes given between → Begun p.crypto bytes between
        go (Left.waits e x) = x
        go (Left.over why e dead) = absurd (cc (sym same ∙ e))
        go (Left.line is more fresh opens) = absurd (more same)
        go (Left.packet more found none opens) = absurd (more same)

    -- with the payload that is shown
    settle : Reads p side history bytes done new → (payload : List ℕ) → UnitTurned p side history bytes payload done (end_of new.kept later) o → AreOf p later → (OpensShown p side history bytes new → payload ≡ shown_by done new) → Turned
    settle (Reads.waits e) payload x are agrees = absurd (no_more payload x.items (subst (λ (d : Step). Shows payload d x.items) e x.shows))
    settle (Reads.over why e dead) payload x are agrees = turned_step p side history bytes done new later o (record {
      turned = refused_with p side history bytes done (end_of new.kept later) o payload (shown_by done new) why e x;
      buffered = λ alive. absurd (false≢true (sym alive ∙ dead));
      reading = λ alive. absurd (false≢true (sym alive ∙ dead));
      layers_are = are;
    })
    settle (Reads.whole fresh opens) payload x are agrees = turned_step p side history bytes done new later o (record {
      turned = same_with p side history bytes done (end_of new.kept later) o payload (shown_by done new) (agrees opens) x;
      buffered = λ alive. fresh.buffered;
      reading = λ alive. fresh.reading;
      layers_are = are;
    })

    waiting : SumsUp p side history between.kept → IsQuiet front → given ≡ outcome.More → Turned
    waiting sums quiet same =
        let g : TransportOnly outcome.More between layers done new later middle o.after payloads_before o.payloads_after = goes_so outcome.More same in
        let taken = took_so outcome.More same in
        subst (λ (d : Step). EndTurnsOn p side history bytes d new later o) (sym g.shown) (record {
          sums = subst (λ (l : Layers). EndSumsUp p side history (end_of new.kept l)) (sym g.layers_are)
              (subst (λ (m : State K). EndSumsUp p side history (end_of m.kept layers)) (sym g.same) (record { transport = sums; above = λ live. running.sums.above took.alive }));
          waits = unit_waits laws reads p running.lawful side does below.shown below.leaves history old running.sums.transport running.reading bytes between front taken;
          quiet = record { out = g.out ∙ quiet.out; sent = g.lists ∙ quiet.sent };
          alive = ap (λ (m : State K). m.kept.dead) g.same ∙ (begun_now same).alive;
          buffered = ap (λ (m : State K). buffered_of m) g.same ∙ (begun_now same).buffered;
          reading = subst (λ (m : State K). IsReading p.crypto m) (sym g.same) (begun_now same).reading;
          layers_are = subst (λ (l : Layers). AreOf p l) (sym g.layers_are) running.layers_are;
        })

    -- the transport did all
    whole : (so : TransportTurn) → given ≡ so → is_whole so ≡ true → (payload : List ℕ) → (OpensShown p side history bytes new → new ≡ between → payload ≡ shown_by (step_given so) new) → UnitTurned p side history bytes payload (step_given so) (kept_after layers so between.kept) front → Turned
    whole so same is payload agrees x =
        let g : TransportOnly so between layers done new later middle o.after payloads_before o.payloads_after = goes_whole p.crypto judge so between layers done new later back is (goes_so so same) in
        settle (whole_reads p side history bytes between new done so g.shown g.same (subst (λ (t : TransportTurn). Left p side history bytes t between) same left)) payload
        (whole_turn p side history bytes payload so between layers done new later o middle payloads_before g x)
        (subst (λ (l : Layers). AreOf p l) (sym g.layers_are) (still_of p so layers running.layers_are)) (λ opens. agrees opens g.same ∙ ap (λ (d : Step). shown_by d new) (sym g.shown))

    refused : (why : Refusal) (so : TransportTurn) → given ≡ so → IsRefusal why so → IsQuiet front → IsLineRefusal p side history old.kept bytes why between.kept → Turned
    refused why (outcome.Refused so) same is quiet x = whole (outcome.Refused so) same refl new.receiver.payload (λ opens e. refl) (refused_line laws p side history old.kept layers running.sums took.alive bytes why so is between.kept front quiet x)
    refused why outcome.More same is quiet x = absurd is
    refused why (outcome.Done so) same is quiet x = absurd is
    refused why (outcome.Up number) same is quiet x = absurd is
    refused why (outcome.Completed choice) same is quiet x = absurd is

    line : (so : LineTurn) → LineOutcome so given → IsQuiet front → LineTurnOf p side history old.kept bytes so between → Turned
    line line_turn.More same quiet x = waiting x quiet same
    line line_turn.Other same quiet x = whole (outcome.Done effect.OtherLine) same refl between.reading.text (λ opens e. ap (λ (s : State K). s.reading.text) (sym e)) (other_line laws p side history old.kept layers running.sums took.alive bytes between front quiet x)
    line line_turn.Version same quiet x = whole (outcome.Done effect.VersionLine) same refl between.kept.lines.line (λ opens e. ap (λ (s : State K). s.kept.lines.line) (sym e)) (version_line laws p side history old.kept layers running.sums took.alive bytes between front quiet x)
    line (line_turn.Refused why) same quiet x = refused (line_refusal why) given refl same quiet x

    packet : (so : TransportTurn) → given ≡ so → is_up so ≡ false → PacketTurnOf p side history old.kept bytes (Shared so) between front → Turned
    packet so same not_up (PacketTurnOf.buffered x) = waiting (subst (λ (t : Transport K). SumsUp p side history t) (sym x.after) running.sums.transport) x.quiet same
    packet so same not_up (PacketTurnOf.refused {why} x) = whole (outcome.Refused why) same refl new.receiver.payload (λ opens e. refl) (refused_packet laws p side history old.kept layers running.sums took.alive bytes why between.kept front x)
    packet so same not_up (PacketTurnOf.payload x) =
        let y = is_turn p side history old.kept x.between so between front not_up x.turn in
        whole so same (is_whole_turn y.shows) x.between.receiver.payload (λ opens e. opens x.between.receiver.payload x.unit ∙ sym (shown_packet y.shows new))
        (payload_turn laws p side history old.kept layers running.sums took.alive bytes so between front not_up x)

    above : (number : ℕ) → given ≡ outcome.Up number → IsAbove p side history old.kept bytes between front → Turned
    above number same x =
        let g : ToServices p.crypto judge between layers done new later back = goes_so (outcome.Up number) same in
        let y = finished_so laws server_facts p side judge history old layers running took.alive bytes between front x g.given later g.judged done new back g.finished in
        settle (above_reads p side history bytes between new done number g.given back g.finished (subst (λ (t : TransportTurn). Left p side history bytes t between) same left)) between.receiver.payload (record {
          items = y.items;
          more = y.more;
          shows = y.shows;
          sends_on = y.sends_on;
          turned = y.turned;
          parts = y.parts ∙ ap (λ (l : List ℕ). l ++ y.more) x.quiet.out;
          lists = y.lists ∙ ap (λ (l : List (List ℕ)). l ++ payloads_of (messages_sent y.items)) x.quiet.sent;
        })
        (still_judged laws server_facts p side judge history old layers running took.alive bytes between front x g.given later g.judged)
        (λ opens. opens between.receiver.payload x.unit ∙ sym (shown_finished p.crypto between g.given done new back g.finished new))

    kexinit : (so : SendOutcome) (payload : List ℕ) → given ≡ answer_outcome so effect.Kexinit → IsUnit p.crypto (stage p side history) bytes (Opens payload) →
        UnitTurned p side history bytes payload (step_given (answer_outcome so effect.Kexinit)) (kept_after layers (answer_outcome so effect.Kexinit) between.kept) front → Turned
    kexinit answered.Done payload same unit x = whole (outcome.Done effect.Kexinit) same refl payload (λ opens e. opens payload unit) x
    kexinit answered.Spent payload same unit x = whole (outcome.Refused code.NumberSpent) same refl payload (λ opens e. opens payload unit) x

    own : (payload : List ℕ) → IsUnit p.crypto (stage p side history) bytes (Opens payload) → OwnTurn p side history old.kept payload given between.kept front → Turned
    own payload unit (OwnTurn.refused why same x) = whole (outcome.Refused why) same refl payload (λ opens e. opens payload unit) (peer_refused laws p side judge history old layers running took.alive bytes payload unit why between.kept front x)
    own payload unit (OwnTurn.spent same x) = whole (outcome.Refused code.NumberSpent) same refl payload (λ opens e. opens payload unit) (number_spent laws p side judge history old layers running took.alive bytes payload unit between.kept front x)
    own payload unit (OwnTurn.kexinit so same x) = kexinit so payload same unit (kexinit_answered laws p side history old layers running.sums took.alive bytes payload unit so between.kept front x)
    own payload unit (OwnTurn.ended choice same x) =
        let g : AfterNewkeys p.crypto between layers done new later back = goes_so (outcome.Completed choice) same in
        let z : IsCompleted old between front = below.completed old bytes choice between front (took_so (outcome.Completed choice) same) in
        settle (ended_reads p side history bytes between new done choice layers.channels later.channels back g.rest g.completing (subst (λ (t : TransportTurn). Left p side history bytes t between) same left)) payload
        (completed_turn laws p side judge history old layers running took.alive bytes payload unit between.kept z.alive z.few z.epoch
        o.before middle o.payloads_before payloads_before x done new later between refl o.after o.payloads_after g.authentication g.completing)
        (record { login = subst (λ (l : Login). IsLoginOf p l) (sym g.authentication) running.layers_are.login })
        (λ opens. opens payload unit ∙ sym (shown_completing p.crypto between layers.channels done new later.channels back g.completing new))

    turned_by : UnitTurnOf p side history old.kept bytes given between front → Turned
    turned_by (UnitTurnOf.line so same quiet x) = line so same quiet x
    turned_by (UnitTurnOf.shared not_up x) = packet given refl not_up x
    turned_by (UnitTurnOf.above same x) = above _ same x
    turned_by (UnitTurnOf.own payload unit x) = own payload unit x

  pub turned : (done : Step) (new : State K) (later : Layers) (o : Outs) → UnitHandled p.crypto side does judge old layers bytes done new later o → EndTurnsOn p side history bytes done new later o
  turned done new later o x =
      turned_by done new later o x.given x.between x.middle x.payloads_before x.took x.goes
      (below.taken history old running.sums.transport bytes x.given x.between (record { before = o.before; after = x.middle; payloads_before = o.payloads_before; payloads_after = x.payloads_before }) x.took)
