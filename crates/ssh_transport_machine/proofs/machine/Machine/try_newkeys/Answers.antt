use Rattle.std.proofs.Common.{◌∙◌, ◌++◌, ◌∷◌, [], ap, refl}
use Rattle.ssh_packet.specs.Directions.{newkeys}
use Rattle.ssh_transport_machine.specs.Padding.{Continues.renews}
use Rattle.ssh_transport_machine.proofs.Padding.{listed_more, pads_sent}
use Rattle.ssh_transport_machine.proofs.machine.Machine.try_newkeys.Goals as goal

pub returns-clause-padded : goal.returns-clause-padded
returns-clause-padded g c =
    rw (← c.self.view_is) (pads_sent _ _ newkeys newkeys refl c.in_ok-send_newkeys.ensures.padded
    (listed_more c.args.sent.now.payloads.items _ _ c.push.new.self c.in_ok-reserve.ensures.items c.push_reserved.ensures.items
    (c.in_ok-push.ensures.items ∙ ap (λ l. l ++ 21 ∷ []) c.new-payload.ensures.items))
    (renews _ _ refl c.in_ok-send_newkeys.ensures.renewed))
