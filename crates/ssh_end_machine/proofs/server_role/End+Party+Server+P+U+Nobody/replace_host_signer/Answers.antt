use Rattle.ssh_transport.specs.OfServer.Parts.{exchange_parts}
use Rattle.ssh_end_machine.proofs.Supplying.{same_keys}
use Rattle.ssh_end_machine.proofs.server_role.End+Party+Server+P+U+Nobody.replace_host_signer.Goals as goal

pub returns-clause-placed : goal.returns-clause-placed
returns-clause-placed g c = rw (← c.self.view_is, c.replace_host_signer.ensures.new)
    (λ p history at alive same agree.
    let parts = exchange_parts g.P.Agreement.Agreement.does g.P.HostSigner.HostSigner.keys c.self.inside.transport.role in
    same_keys _ _ parts _ _ _ history _ _ same (c.parts_exchanged.ensures.host_signature p _ parts _ _ history _ _ at alive agree))
