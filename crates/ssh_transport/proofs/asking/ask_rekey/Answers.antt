use Rattle.std.proofs.Common.{ap, sym, ◌∙◌, refl}
use Rattle.ssh_transport.specs.Asking.{refusal_with}
use Rattle.ssh_transport_machine.specs.State.{material_of}
use Rattle.ssh_transport_machine.specs.PaddingLaws.{pads_none}
use Rattle.ssh_transport.proofs.Replying.{on_err, rekey_asked, rekey_lacks}
use Rattle.ssh_transport.proofs.asking.ask_rekey.Goals as goal

pub returns-clause-done : goal.returns-clause-done
returns-clause-done g c = rekey_asked _ _ _ _ _ _ (c.judge_rekey_ask.ensures ∙ ap refusal_with c.in_default.is) (sym c.material.ensures ∙ ap material_of c.in-Some-material.is) c.in_ok-begin_exchange-in-Some-material.ensures.done

pub returns-in_err-begin_exchange-in-Some-material-clause-needs_memory : goal.returns-in_err-begin_exchange-in-Some-material-clause-needs_memory
returns-in_err-begin_exchange-in-Some-material-clause-needs_memory g c =
    on_err c.from_residual.result (rekey_lacks _ _ (c.judge_rekey_ask.ensures ∙ ap refusal_with c.in_default.is) (sym c.material.ensures ∙ ap material_of c.in-Some-material.is) c.in_err-begin_exchange-in-Some-material.ensures.needs_memory)

pub returns-in-Some-clause-padded : goal.returns-in-Some-clause-padded
returns-in-Some-clause-padded g c = pads_none refl
