use Rattle.ssh_held.specs.Held.{judged_by_book, signatures_by}
use Rattle.ssh_held.proofs.Going.{asked_on}
use Rattle.ssh_held.proofs.server.HeldServer.ask_step.Goals as goal

pub returns-clause-placed : goal.returns-clause-placed
returns-clause-placed g c = λ p history at.
    asked_on g.P.Sealing.Sealing.crypto g.P.Agreement.Agreement.does g.P.HostSigner.HostSigner.keys
    (signatures_by g.S.UserJudge.verdicts g.S.KnowsAlgorithms.knows) p history
    c.asks_take_none.ensures c.args.self.now.end c.ask_step.new.self c.ask_step.ensures.role at _ _ _
    (c.ask_step.ensures.placed (judged_by_book
    (signatures_by g.S.UserJudge.verdicts g.S.KnowsAlgorithms.knows) c.args.self.now.end.role.own.judge p) history at.place)
