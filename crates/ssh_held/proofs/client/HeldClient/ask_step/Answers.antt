use Rattle.ssh_held.specs.HeldHosts.{trusting_book}
use Rattle.ssh_held.proofs.HostGoing.{host_asked_on}
use Rattle.ssh_held.proofs.client.HeldClient.ask_step.Goals as goal

pub returns-clause-placed : goal.returns-clause-placed
returns-clause-placed g c = λ p history at.
    host_asked_on g.P.Sealing.Sealing.crypto g.P.Agreement.Agreement.does g.S.KnowsAlgorithms.knows g.S.HostTrust.judged g.U.UserSigner.signature_of p history
    c.args.self.now.end c.ask_step.new.self c.ask_step.ensures.role _ _ _
    (c.ask_step.ensures.placed (trusting_book g.S.KnowsAlgorithms.knows g.S.HostTrust.judged c.args.self.now.end.role.exchange.host_trust p) history at)
