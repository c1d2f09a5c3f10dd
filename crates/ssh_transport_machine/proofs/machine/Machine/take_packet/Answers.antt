use Rattle.std.proofs.Common.{◌≡◌, ℕ, List, subst}
use Rattle.ssh_model.specs.State.TransportLayer.Kept.{Transport}
use Rattle.ssh_transport_machine.specs.Classifying as classifying
use Rattle.ssh_transport_machine.specs.Classifying.{PacketIs.more, PacketIs.opened, PacketIs.refused, PayloadIs}
use Rattle.ssh_transport_machine.specs.declared.machine.classifying.Classified.{Classified}
use Rattle.ssh_transport_machine.specs.declared.machine.classifying.Classified.TheVariants as classified
use Rattle.ssh_transport_machine.proofs.machine.Machine.take_packet.Goals as goal

-- a payload is a whole packet
no_more : {K : Type 0} (s : Transport K) (payload : List ℕ) → PayloadIs s payload classified.More → ⊥
no_more s payload (classifying.PayloadIs.read message below taken no_guess is (classifying.MessageIs.requested service given)) = given
no_more s payload (classifying.PayloadIs.read message below taken no_guess is (classifying.MessageIs.accepted service given)) = given

never_more : {K : Type 0} (s : Transport K) (payload : List ℕ) (what : Classified) → PayloadIs s payload what → what ≡ classified.More → ⊥
never_more s payload what x e = no_more s payload (subst (λ (j : Classified). PayloadIs s payload j) e x)

pub returns-in-More-clause-classified : goal.returns-in-More-clause-classified
returns-in-More-clause-classified g c =
    rw (← c.self.view_is) (more (rw c.in-More.is at (c.take-used.ensures.received (rw (← c.self.view_is) at c.requires))))

pub returns-in-Refused-clause-classified : goal.returns-in-Refused-clause-classified
returns-in-Refused-clause-classified g c =
    rw (← c.self.view_is) (refused c.in-Refused.why (rw c.in-Refused.is at (c.take-used.ensures.received (rw (← c.self.view_is) at c.requires))))

pub returns-in-Payload-clause-more : goal.returns-in-Payload-clause-more
returns-in-Payload-clause-more g c = λ e. absurd (never_more _ _ c.classify.result c.classify.ensures e)

pub returns-in-Payload-clause-classified : goal.returns-in-Payload-clause-classified
returns-in-Payload-clause-classified g c =
    rw (← c.self.view_is) (opened (rw c.in-Payload.is at (c.take-used.ensures.received (rw (← c.self.view_is) at c.requires))) c.classify.ensures)
