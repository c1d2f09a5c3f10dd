use Rattle.std.proofs.Common.{refl}
use Rattle.ssh_transport_machine.specs.Padding.{Continues.counts}
use Rattle.ssh_transport_machine.proofs.Padding.{listed_more, pads_sent}
use Rattle.ssh_transport_machine.proofs.machine.Machine.try_put.Goals as goal

pub returns-clause-padded : goal.returns-clause-padded
returns-clause-padded g c =
    rw (← c.self.view_is) (pads_sent _ _ _ c.args.payload.items c.deref.ensures.value c.in_ok-send.ensures.padded
    (listed_more c.args.sent.now.payloads.items _ _ c.args.payload c.in_ok-reserve.ensures.items c.push_reserved.ensures.items refl)
    (counts c.in_ok-send.ensures.counted))
