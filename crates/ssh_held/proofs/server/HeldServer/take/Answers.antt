use Rattle.std.proofs.Common.{refl, subst}
use Rattle.ssh_held.specs.Held.{IsAnswered, IsWanted, judged_by_book, signatures_by}
use Rattle.ssh_held.specs.declared.book.Verdicts.{Verdicts}
use Rattle.ssh_held.proofs.Going.{PeekingLaws, failed, went_on}
use Rattle.ssh_held.proofs.server.HeldServer.take.Goals as goal

pub returns-in-Err-clause-placed : goal.returns-in-Err-clause-placed
returns-in-Err-clause-placed g c = λ p history at.
    failed g.P.Sealing.Sealing.crypto g.P.Agreement.Agreement.does g.P.HostSigner.HostSigner.keys
    (signatures_by g.S.UserJudge.verdicts g.S.KnowsAlgorithms.knows) p history
    c.args.self.now.end c.take_step.new.self c.args.bytes.now c.take_step.ensures.role at c.in-Err.fault
    (c.in-Err.ensures.placed (judged_by_book
    (signatures_by g.S.UserJudge.verdicts g.S.KnowsAlgorithms.knows) c.args.self.now.end.role.own.judge p) history at.place)

pub returns-in-Ok-clause-placed : goal.returns-in-Ok-clause-placed
returns-in-Ok-clause-placed g c = λ p history at.
    let laws : PeekingLaws _ = record {
      foreseen = c.peeked_is_answered.ensures.foreseen;
      taken = c.peeked_is_answered.ensures.taken;
      unforeseen = c.peeked_is_answered.ensures.unforeseen;
    } in
    went_on g.P.Sealing.Sealing.crypto g.P.Agreement.Agreement.does g.P.HostSigner.HostSigner.keys
    (signatures_by g.S.UserJudge.verdicts g.S.KnowsAlgorithms.knows) p history laws
    c.args.self.now.end c.take_step.new.self c.args.bytes.now c.in-Ok.used c.in-Ok.ensures.used c.take_step.ensures.role
    (λ alive. let live = (c.end_stands.ensures.stands alive).live in record { taking = live.taking; going = live.receiving })
    (subst (λ (b : Verdicts g.row.S.Denot). IsAnswered g.P.Sealing.Sealing.crypto c.args.self.now.end.machine (g.S.KnowsAlgorithms.knows b.signatures) b.list.items
    c.args.bytes.now) c.user.ensures (c.if-look.ensures.answered refl)) _ at
    (c.in-Ok.ensures.advances.placed (judged_by_book
    (signatures_by g.S.UserJudge.verdicts g.S.KnowsAlgorithms.knows) c.args.self.now.end.role.own.judge p) history at.place)

pub returns-in-Ok-clause-answered : goal.returns-in-Ok-clause-answered
returns-in-Ok-clause-answered g c =
    subst (λ (b : Verdicts g.row.S.Denot). IsAnswered g.P.Sealing.Sealing.crypto c.args.self.now.end.machine (g.S.KnowsAlgorithms.knows b.signatures) b.list.items
    c.args.bytes.now) c.user.ensures (c.if-look.ensures.answered refl)

pub returns-in-Err-clause-answered : goal.returns-in-Err-clause-answered
returns-in-Err-clause-answered g c =
    subst (λ (b : Verdicts g.row.S.Denot). IsAnswered g.P.Sealing.Sealing.crypto c.args.self.now.end.machine (g.S.KnowsAlgorithms.knows b.signatures) b.list.items
    c.args.bytes.now) c.user.ensures (c.if-look.ensures.answered refl)

pub returns-then-look-clause-wanted : goal.returns-then-look-clause-wanted
returns-then-look-clause-wanted g c = λ _.
    subst (λ (b : Verdicts g.row.S.Denot). IsWanted g.P.Sealing.Sealing.crypto c.args.self.now.end.machine (g.S.KnowsAlgorithms.knows b.signatures) b.list.items
    c.args.bytes.now c.look.new.self.payload) c.user.ensures (c.if-look.ensures.wanted refl)
