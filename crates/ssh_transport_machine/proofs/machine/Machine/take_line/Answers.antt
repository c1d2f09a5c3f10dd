use Rattle.std.proofs.Common.{refl}
use Rattle.ssh_transport_machine.proofs.LineTurns.{buffered}
use Rattle.ssh_transport_machine.proofs.machine.Machine.take_line.Goals as goal

pub returns-in-More-clause-taken : goal.returns-in-More-clause-taken
returns-in-More-clause-taken g c =
    buffered _ _ c.take.result.0 c.args.bytes.now c.take.follows.lender-at-none c.self.view_is refl c.requires (rw c.in-More.is at c.take.follows.holds-at-none)
