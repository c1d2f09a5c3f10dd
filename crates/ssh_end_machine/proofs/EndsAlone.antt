-- What ends an end on an ask changes nothing else of its transport.
use Rattle.std.proofs.Common.{◌≡◌, sym, subst}
use Rattle.ssh_transport.specs.declared.outcome.TransportAsk.{TransportAsk}
use Rattle.ssh_transport_machine.specs.State.{State}
use Rattle.ssh_transport_machine.specs.declared.machine.sending.SendOutcome.{SendOutcome}
use Rattle.ssh_end_machine.specs.Asking.{TransportEnds, step_by}
use Rattle.ssh_end_machine.specs.declared.asking.outcome.AskStep.{AskStep}

-- the same of the step that shows the answer
pub ends_step : {K : Type 0} (old new : State K) (t : TransportAsk) (answer : SendOutcome) (step : AskStep) → step ≡ step_by answer → TransportEnds old t (step_by answer).refused new → TransportEnds old t step.refused new
ends_step old new t answer step is x = subst (λ (s : AskStep). TransportEnds old t s.refused new) (sym is) x
