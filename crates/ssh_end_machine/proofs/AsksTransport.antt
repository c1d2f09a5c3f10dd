-- What comes of an ask for the transport is a row of the end.
use Rattle.std.proofs.Common.{◌≡◌, ℕ, List, [], ◌∷◌, ◌++◌, refl, ap, sym, ◌∙◌, subst, append-nil, true, false, Some, None, Ok, Err}
use Rattle.ssh_model.specs.declared.side.Side.{Side}
use Rattle.ssh_model.specs.Protocol.Wire.Message.{Msg.Disconnect}
use Rattle.ssh_model.specs.Protocol.Wire.Sealing.{Crypto}
use Rattle.ssh_model.specs.Protocol.Sessions.Items as session
use Rattle.ssh_model.specs.Protocol.Sessions.Items.{Item.Asked, Item.Died, Item.Refused, Item.Sent}
use Rattle.ssh_model.specs.Protocol.Sessions.Parties.{Parties}
use Rattle.ssh_model.specs.declared.refusal.Refusal.TheVariants as refusals
use Rattle.ssh_model.specs.Protocol.Sessions.Refusals.{Check, Check.RefusedWhere, first_refusal}
use Rattle.ssh_model.specs.State.Channels.Kept.{Channels}
use Rattle.ssh_model.specs.State.TransportLayer.Kept.{message_ask_checks}
use Rattle.ssh_model.specs.Laws.Farewells.{farewell_encoded}
use Rattle.ssh_model.specs.State.End.Asks.{TakesAsk}
use Rattle.ssh_model.specs.State.End.State.{Authentication, EndState}
use Rattle.ssh_model.specs.declared.ask_refusal.AskRefusal.{AskRefusal}
use Rattle.ssh_transport.specs.Asking as machine
use Rattle.ssh_transport.specs.Asking.{AskNeedsMemory, AskSent, AskSpent, DisconnectNeedsMemory, DisconnectSent, DisconnectSpent}
use Rattle.ssh_transport.specs.Asks.{AskTaken, WasDead}
use Rattle.ssh_transport_machine.specs.Puts.{Outs}
use Rattle.ssh_transport_machine.specs.State.{State}
use Rattle.ssh_transport_machine.specs.Answering.{IsQuiet}
use Rattle.ssh_transport_machine.specs.declared.machine.sending.SendOutcome.{SendOutcome}
use Rattle.ssh_transport_machine.specs.declared.machine.sending.SendOutcome.TheVariants.{Done, Spent}
use Rattle.ssh_transport.specs.declared.outcome.AskTurn.TheVariants as turn
use Rattle.ssh_transport.specs.declared.outcome.TransportAsk.{TransportAsk}
use Rattle.ssh_transport.specs.declared.outcome.TransportAsk.TheVariants as given
use Rattle.ssh_end_machine.specs.Asking.{AskRow, DiedRow, MachineFails, RefusedRow, ShowsAsk, TransportRow, WasOver, end_with, step_by}
use Rattle.ssh_end_machine.specs.declared.asking.outcome.Fault.{Fault}
use Rattle.ssh_end_machine.specs.declared.asking.outcome.Fault.TheVariants as fault
use Rattle.ssh_end_machine.specs.declared.asking.outcome.AskStep.{AskStep}

-- The first refusal stays the first with more checks after.
pub first_stays : (l more : List (Check AskRefusal)) (why : AskRefusal) → first_refusal l ≡ Some why → first_refusal (l ++ more) ≡ Some why
first_stays [] more why e = absurd (cc e)
first_stays (RefusedWhere true x ∷ l) more why e = e
first_stays (RefusedWhere false x ∷ l) more why e = first_stays l more why e

-- Nothing is put out with nothing.
pub quiet_parts : (o : Outs) → IsQuiet o → o.after ≡ o.before ++ []
quiet_parts o quiet = quiet.out ∙ sym (append-nil o.before)

pub quiet_lists : (o : Outs) → IsQuiet o → o.payloads_after ≡ o.payloads_before ++ []
quiet_lists o quiet = quiet.sent ∙ sym (append-nil o.payloads_before)

module _ {K : Type 0} (p : Parties K) (side : Side) (old : State K) (a : Authentication) (ch : Channels) (alive : old.kept.dead ≡ false) where
  abbrev before : EndState K
  before = end_with old a ch

  sent_row : (ask : session.Ask) (new : State K) (o : Outs) → AskSent p.crypto old ask new o → AskRow p side before ask (step_by Done) (end_with new a ch) o
  sent_row ask new o x = record {
    items = Sent None x.message x.payload ∷ Asked ask ∷ [];
    more = x.puts.more;
    shows = ShowsAsk.sent None None x.message x.payload;
    takes = subst (λ (t : State K). TakesAsk p side before ask (Sent None x.message x.payload ∷ Asked ask ∷ []) x.puts.more (end_with t a ch)) (sym x.after)
        (TakesAsk.of_transport ask x.message x.payload x.kept alive x.fine x.asks x.puts.packets);
    parts = x.puts.parts;
    lists = x.puts.lists;
  }

  spent_row : (ask : session.Ask) (new : State K) (o : Outs) → AskSpent old ask new o → AskRow p side before ask (step_by Spent) (end_with new a ch) o
  spent_row ask new o x = record {
    items = Died ∷ Refused refusals.NumberSpent None ∷ Asked ask ∷ [];
    more = [];
    shows = ShowsAsk.spent;
    takes = TakesAsk.spent ask x.message x.encoding.payload x.kept (end_with new a ch) alive x.fine x.asks x.encoding.encodes x.spent.none_left (ap (λ (t : State K). t.kept.dead) x.spent.after);
    parts = quiet_parts o x.spent.quiet;
    lists = quiet_lists o x.spent.quiet;
  }

  disconnected_row : (d : List ℕ) (new : State K) (o : Outs) → DisconnectSent p.crypto old d new o → AskRow p side before (session.Ask.AskDisconnect d) (step_by Done) (end_with new a ch) o
  disconnected_row d new o x = record {
    items = Died ∷ Sent None (Disconnect 11 d []) x.sends.payload ∷ Asked (session.Ask.AskDisconnect d) ∷ [];
    more = x.sends.puts.more;
    shows = ShowsAsk.disconnected d x.sends.payload refl;
    takes = TakesAsk.disconnects d x.sends.payload (end_with new a ch) alive x.fine x.sends.puts.packets (ap (λ (t : State K). t.kept.dead) x.after);
    parts = x.sends.puts.parts;
    lists = x.sends.puts.lists;
  }

  disconnect_spent_row : (d : List ℕ) (new : State K) (o : Outs) → DisconnectSpent old d new o → AskRow p side before (session.Ask.AskDisconnect d) (step_by Spent) (end_with new a ch) o
  disconnect_spent_row d new o x =
      let said = farewell_encoded old.kept d x.fine in
      record {
        items = Died ∷ Refused refusals.NumberSpent None ∷ Asked (session.Ask.AskDisconnect d) ∷ [];
        more = [];
        shows = ShowsAsk.spent;
        takes = TakesAsk.disconnect_spent d said.payload (end_with new a ch) alive x.fine said.encodes x.spent.none_left (ap (λ (t : State K). t.kept.dead) x.spent.after);
        parts = quiet_parts o x.spent.quiet;
        lists = quiet_lists o x.spent.quiet;
      }

  refused_row : (ask : session.Ask) (why : AskRefusal) (new : State K) (o : Outs) → machine.AskRefused old ask why new o → RefusedRow p side before ask why (end_with new a ch)
  refused_row ask why new o x = record {
    alive = alive;
    why_is = first_stays (message_ask_checks old.kept ask) _ why x.why_is;
    same = ap (λ (t : State K). end_with t a ch) x.after;
  }

  died_row : (ask : session.Ask) (new : State K) → AskNeedsMemory old ask → new.kept.dead ≡ true → DiedRow p side before ask (end_with new a ch)
  died_row ask new x dead = record {
    takes = TakesAsk.dies ask x.message x.encoding.payload x.kept (end_with new a ch) alive x.fine x.asks x.encoding.encodes x.room dead;
    dead = dead;
  }

  disconnect_died_row : (d : List ℕ) (new : State K) → DisconnectNeedsMemory old d → new.kept.dead ≡ true → DiedRow p side before (session.Ask.AskDisconnect d) (end_with new a ch)
  disconnect_died_row d new x dead =
      let said = farewell_encoded old.kept d x.fine in
      record {
        takes = TakesAsk.disconnect_dies d said.payload (end_with new a ch) alive x.fine said.encodes x.room dead;
        dead = dead;
      }

pub over_row : {K : Type 0} (old new : State K) (a : Authentication) (ch : Channels) → WasDead old new → WasOver (end_with old a ch) (end_with new a ch)
over_row {K} old new a ch x = record { dead = x.dead; same = ap (λ (t : State K). end_with t a ch) x.after }

module _ {K : Type 0} (c : Crypto K) (old new : State K) (o : Outs) where
  done : (t : TransportAsk) (answer : SendOutcome) → AskTaken c old t (turn.Answered answer) new o → TransportRow c old t (Ok (step_by answer)) new o
  done given.Service Done x = λ side a ch p is settings. sent_row p side old a ch x.alive _ new o (subst (λ (e : Crypto K). AskSent e old session.Ask.AskService new o) (sym is) x.turned)
  done given.Service Spent x = λ side a ch p is settings. spent_row p side old a ch x.alive _ new o x.turned
  done given.Rekey Done x = λ side a ch p is settings. sent_row p side old a ch x.alive _ new o (subst (λ (e : Crypto K). AskSent e old session.Ask.AskRekey new o) (sym is) x.turned)
  done given.Rekey Spent x = λ side a ch p is settings. spent_row p side old a ch x.alive _ new o x.turned
  done (given.Disconnect d) Done x = λ side a ch p is settings. disconnected_row p side old a ch x.alive d.now new o (subst (λ (e : Crypto K). DisconnectSent e old d.now new o) (sym is) x.turned)
  done (given.Disconnect d) Spent x = λ side a ch p is settings. disconnect_spent_row p side old a ch x.alive d.now new o x.turned

  pub answered : (t : TransportAsk) (answer : SendOutcome) → AskTaken c old t (turn.Answered answer) new o → (step : AskStep) → step ≡ step_by answer → TransportRow c old t (Ok step) new o
  answered t answer x step e = subst (λ (s : AskStep). TransportRow c old t (Ok s) new o) (sym e) (done t answer x)

  pub failed : (t : TransportAsk) (f : Fault) → MachineFails c old t f new → TransportRow c old t (Err f) new o
  failed given.Service (fault.Ask why) x = λ side a ch p is settings. refused_row p side old a ch x.taken.alive _ why new x.outs x.taken.turned
  failed given.Rekey (fault.Ask why) x = λ side a ch p is settings. refused_row p side old a ch x.taken.alive _ why new x.outs x.taken.turned
  failed (given.Disconnect d) (fault.Ask why) x = λ side a ch p is settings. refused_row p side old a ch x.taken.alive _ why new x.outs x.taken.turned
  failed given.Service fault.Memory x = λ side a ch p is settings. died_row p side old a ch x.alive _ new x.lacked x.dead
  failed given.Rekey fault.Memory x = λ side a ch p is settings. died_row p side old a ch x.alive _ new x.lacked x.dead
  failed (given.Disconnect d) fault.Memory x = λ side a ch p is settings. disconnect_died_row p side old a ch x.alive d.now new x.lacked x.dead
  failed given.Service fault.Dead x = λ side a ch p is settings. over_row old new a ch x
  failed given.Rekey fault.Dead x = λ side a ch p is settings. over_row old new a ch x
  failed (given.Disconnect d) fault.Dead x = λ side a ch p is settings. over_row old new a ch x
