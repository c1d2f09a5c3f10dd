use Rattle.std.proofs.Common.{refl}
use Rattle.divrelca_c.proofs.GivenBack.{gives_back}
use Rattle.divrelca_c.proofs.embedded.state.Embedded.consume.Goals as goal

pub returns-clause-gives_back : goal.returns-clause-gives_back
returns-clause-gives_back g c below =
    let queued = c.in_ok-queue.ensures in
    gives_back c.args.channel c.args.bytes c.in-Some.bytes _ _ _ _ _ _ c.finish.ensures c.in-Some.ensures refl queued.queued
    (rw queued.same at c.give_back.ensures)
