use Rattle.ssh_held.specs.Held.{judged_by_book, signatures_by}
use Rattle.ssh_held.proofs.Going.{fed_on}
use Rattle.ssh_held.proofs.server.HeldServer.feed_material.Goals as goal

pub returns-clause-placed : goal.returns-clause-placed
returns-clause-placed g c = λ p history at.
    fed_on g.P.Sealing.Sealing.crypto g.P.Agreement.Agreement.does g.P.HostSigner.HostSigner.keys
    (signatures_by g.S.UserJudge.verdicts g.S.KnowsAlgorithms.knows) p history
    c.args.self.now.end c.feed_material.new.self c.feed_material.ensures.role at _ _ _
    (c.feed_material.ensures.placed (judged_by_book
    (signatures_by g.S.UserJudge.verdicts g.S.KnowsAlgorithms.knows) c.args.self.now.end.role.own.judge p) history at.place)
