-- An ask leaves the user as it was, and the service.
use Rattle.std.proofs.Common.{◌≡◌, List, ℕ, ap, refl, subst, sym, false}
use Rattle.std.specs.Prelude.{Err, IfOk, Ok, Result}
use Rattle.ssh_model.specs.Protocol.Wire.Message.{Msg}
use Rattle.ssh_model.specs.Protocol.Wire.Sealing.{Crypto}
use Rattle.ssh_model.specs.Protocol.Sessions.Items.{Ask}
use Rattle.ssh_model.specs.State.TransportLayer.Kept as kept
use Rattle.ssh_model.specs.State.TransportLayer.Kept.{Asks, Transport}
use Rattle.ssh_transport.specs.Asking.{AskDone}
use Rattle.ssh_transport.specs.Asks.{AskTaken, AskTurned}
use Rattle.ssh_transport.specs.Roles.{KeepsUser}
use Rattle.ssh_transport_machine.specs.Puts.{Outs}
use Rattle.ssh_transport_machine.specs.State.{State}
use Rattle.ssh_transport_machine.specs.declared.machine.sending.SendOutcome.TheVariants.{Done, Spent}
use Rattle.ssh_transport.specs.declared.outcome.AskTurn.{AskTurn}
use Rattle.ssh_transport.specs.declared.outcome.AskTurn.TheVariants as turn
use Rattle.ssh_transport.specs.declared.outcome.TransportAsk.{TransportAsk}
use Rattle.ssh_transport.specs.declared.outcome.TransportAsk.TheVariants as ask
use Rattle.ssh_transport.specs.declared.outcome.TransportFault.{TransportFault}
use Rattle.ssh_transport.proofs.Exchanging.{over, user_by, user_same}

module _ {K : Type 0} (c : Crypto K) (old new : State K) (o : Outs) (alive : new.kept.dead ≡ false) where
  left : new ≡ old → KeepsUser old.kept new.kept
  left e = subst (λ (w : State K). KeepsUser old.kept w.kept) (sym e) (user_same old.kept)

  asked_user : (next : Transport K) (given : Ask) (m : Msg) (payload : List ℕ) → Asks old.kept given m payload next → new ≡ record old { kept = next } → KeepsUser old.kept new.kept
  asked_user next given m payload (kept.Asks.service p side) e = user_by old new _ e (record { authenticated = refl; accepted = λ f. f })
  asked_user next given m payload (kept.Asks.rekey material p free has) e = user_by old new _ e (record { authenticated = refl; accepted = λ f. f })

  done_user : (given : Ask) (done : AskTurn) → AskDone c old given done new o → KeepsUser old.kept new.kept
  done_user given (turn.Refused why) x = left x.after
  done_user given (turn.Answered Done) x = asked_user x.kept given x.message x.payload x.asks x.after
  done_user given (turn.Answered Spent) x = over new.kept.dead (ap (λ (w : State K). w.kept.dead) x.spent.after) alive

  turned_user : (given : TransportAsk) (done : AskTurn) → AskTurned c old given done new o → KeepsUser old.kept new.kept
  turned_user ask.Service done x = done_user _ done x
  turned_user ask.Rekey done x = done_user _ done x
  turned_user (ask.Disconnect description) (turn.Refused why) x = left x.after
  turned_user (ask.Disconnect description) (turn.Answered Done) x = over new.kept.dead (ap (λ (w : State K). w.kept.dead) x.after) alive
  turned_user (ask.Disconnect description) (turn.Answered Spent) x = over new.kept.dead (ap (λ (w : State K). w.kept.dead) x.spent.after) alive

pub ask_user : {K : Type 0} (c : Crypto K) (old new : State K) (given : TransportAsk) (result : Result AskTurn TransportFault) (o : Outs) → IfOk result (λ done. AskTaken c old given done new o) → IfOk result (λ done. new.kept.dead ≡ false → KeepsUser old.kept new.kept)
ask_user c old new given (Ok done) o x = λ alive. turned_user c old new o alive given done x.turned
ask_user c old new given (Err why) o x = x
