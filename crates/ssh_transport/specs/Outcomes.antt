-- What a transport answers to its caller, by what it did.
use Rattle.std.specs.Prelude.{◌≡◌}
use Rattle.ssh_model.specs.declared.refusal.Refusal.{Refusal}
use Rattle.ssh_packet.specs.Refusals.{line_refusal}
use Rattle.ssh_model.specs.declared.refusal.Refusal.TheVariants as refusal
use Rattle.ssh_transport_machine.specs.Puts.{Outs}
use Rattle.ssh_transport_machine.specs.State.{State}
use Rattle.ssh_transport_machine.specs.declared.machine.LineTurn.{LineTurn}
use Rattle.ssh_transport_machine.specs.declared.machine.LineTurn.TheVariants as line_turn
use Rattle.ssh_transport_machine.specs.declared.machine.sending.SendOutcome.{SendOutcome}
use Rattle.ssh_transport_machine.specs.declared.machine.sending.SendOutcome.TheVariants as answer
use Rattle.ssh_transport.specs.declared.outcome.Handled.{Handled}
use Rattle.ssh_transport.specs.declared.outcome.Handled.TheVariants as handled
use Rattle.ssh_transport.specs.declared.outcome.TransportTurn.{TransportTurn}
use Rattle.ssh_transport.specs.declared.outcome.TransportTurn.TheVariants as outcome

-- The answer is this refusal.
abbrev pub IsRefusal : Refusal → TransportTurn → Type 0
IsRefusal why (outcome.Refused given) = given ≡ why
IsRefusal why _ = ⊥

-- what a line is answered by
abbrev pub LineOutcome : LineTurn → TransportTurn → Type 0
LineOutcome line_turn.More given = given ≡ outcome.More
LineOutcome line_turn.Other given = given ≡ outcome.Done handled.OtherLine
LineOutcome line_turn.Version given = given ≡ outcome.Done handled.VersionLine
LineOutcome (line_turn.Refused why) given = IsRefusal (line_refusal why) given

-- what is done is answered by its handled, and want of numbers by the refusal of it
abbrev pub answer_outcome : SendOutcome → Handled → TransportTurn
answer_outcome answer.Done done = outcome.Done done
answer_outcome answer.Spent done = outcome.Refused refusal.NumberSpent

-- This was done, which is told by its handled, or there was no number for it, and that is told.
pub record IsAnswered {K : Type 0} (handled : Handled) (done : SendOutcome → State K → Outs → Type 0) (given : TransportTurn)
    (new : State K) (o : Outs) : Type 0 where
  pub answer : SendOutcome
  pub given_is : given ≡ answer_outcome answer handled
  pub does : done answer new o
