use Rattle.ssh_transport.proofs.Replacement.{SuppliedTransports, host_signer_exchanged}
use Rattle.ssh_transport.proofs.transport.replacing.Transport+Server+P.replace_host_signer.Goals as goal

pub returns-clause-placed : goal.returns-clause-placed
returns-clause-placed g c =
    let laws : SuppliedTransports _ = record {
      runs = c.parts_exchanged.ensures.transports;
      sums = c.parts_exchanged.ensures.transport_sums;
      lawful = c.parts_exchanged.ensures.lawful;
      guards = c.against_any_layers.ensures.kept;
    } in
    rw (← c.self.view_is, c.replace.ensures.after)
    (λ p history at alive same agree. host_signer_exchanged laws p _ history _ alive _ _ _ same at agree)
