use Rattle.std.proofs.Common.{refl}
use Rattle.ssh_held.specs.Hosts.{trust_by, trusting}
use Rattle.ssh_held.proofs.HostBooks.{each_granted}
use Rattle.ssh_held.proofs.laws.trusted_by_verdict.Goals as goal

pub returns : goal.returns
returns g c = λ p knows signatures verdicts h lawful run.
    let guarded = c.against_any_peer.ensures (trusting (trust_by knows signatures verdicts) p) lawful _ h run in
    each_granted p knows signatures verdicts h (guarded.transport.hosts refl).each
