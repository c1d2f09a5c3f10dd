use Rattle.std.proofs.Common.{ap, sym, true, ◌∙◌}
use Rattle.ssh_transport_machine.specs.Padding.{sending_by}
use Rattle.ssh_transport_machine.specs.PaddingLaws.{pads_none}
use Rattle.ssh_transport_machine.proofs.Sending.{farewell, silent, spent}
use Rattle.ssh_transport_machine.proofs.machine.Machine.refuse.Goals as goal

pub returns-in_default-clause-refuses : goal.returns-in_default-clause-refuses
returns-in_default-clause-refuses g c = silent _ _ _ _ _ _ (sym c.code.ensures ∙ c.in_default.is) (ap (λ t. record t.kept { dead = true }) c.self.view_is)

pub returns-then-is_spent-clause-refuses : goal.returns-then-is_spent-clause-refuses
returns-then-is_spent-clause-refuses g c = spent _ _ _ _ _ _ (c.is_spent.ensures.spent c.if-is_spent.true) (ap (λ t. record t.kept { dead = true }) c.self.view_is)

pub returns-clause-refuses : goal.returns-clause-refuses
returns-clause-refuses g c = farewell _ _ _ _ _ c.in-Some.reason _ (sym c.code.ensures ∙ c.in-Some.is) c.name_of.ensures.value
    (ap (λ t. record t.kept { dead = true }) (c.self-2.view_is ∙ c.in_ok-send.ensures.after)) c.in_ok-send.ensures.sends

pub returns-in_default-clause-padded : goal.returns-in_default-clause-padded
returns-in_default-clause-padded g c = pads_none (ap (λ t. sending_by t c.args.sent.now c.args.out.now) (sym c.self.view_is))

pub returns-then-is_spent-clause-padded : goal.returns-then-is_spent-clause-padded
returns-then-is_spent-clause-padded g c = pads_none (ap (λ t. sending_by t c.args.sent.now c.args.out.now) (sym c.self.view_is))
