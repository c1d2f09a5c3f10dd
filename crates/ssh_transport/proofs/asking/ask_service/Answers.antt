use Rattle.std.proofs.Common.{ap, ◌∙◌, refl}
use Rattle.ssh_transport.specs.Asking.{refusal_with}
use Rattle.ssh_transport_machine.specs.PaddingLaws.{pads_none}
use Rattle.ssh_transport.proofs.Replying.{on_err, service_asked, service_lacks}
use Rattle.ssh_transport.proofs.asking.ask_service.Goals as goal

pub returns-clause-done : goal.returns-clause-done
returns-clause-done g c = service_asked _ _ _ _ _ (c.judge_service_ask.ensures ∙ ap refusal_with c.in_default.is) c.in_ok-request_service.ensures.answers

pub returns-in_err-request_service-clause-needs_memory : goal.returns-in_err-request_service-clause-needs_memory
returns-in_err-request_service-clause-needs_memory g c = on_err c.from_residual.result (service_lacks _ (c.judge_service_ask.ensures ∙ ap refusal_with c.in_default.is) c.in_err-request_service.ensures.room)

pub returns-in-Some-clause-padded : goal.returns-in-Some-clause-padded
returns-in-Some-clause-padded g c = pads_none refl
