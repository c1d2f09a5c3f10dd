use Rattle.std.proofs.Common.{ap, sym}
use Rattle.ssh_transport_machine.specs.Padding.{sending_by}
use Rattle.ssh_transport_machine.specs.PaddingLaws.{pads_none}
use Rattle.ssh_transport_machine.proofs.machine.Machine.send_if_numbered.Goals as goal

pub returns-then-is_spent-clause-padded : goal.returns-then-is_spent-clause-padded
returns-then-is_spent-clause-padded g c = pads_none (ap (λ t. sending_by t c.args.sent.now c.args.out.now) (sym c.self.view_is))
