use Rattle.std.proofs.Common.{refl}
use Rattle.ssh_held.specs.Hosts.{trusting}
use Rattle.divrelca_c.specs.Embedded.Hosts.{trusts_of}
use Rattle.divrelca_c.proofs.OfEmbedded.Trusting.{each_trusted}
use Rattle.divrelca_c.proofs.embedded.laws.trusted_by_program.Goals as goal

pub returns : goal.returns
returns g c = λ p hosts h lawful run.
    let guarded = c.against_any_peer.ensures (trusting (trusts_of hosts) p) lawful _ h run in
    each_trusted p hosts h (guarded.transport.hosts refl).each
