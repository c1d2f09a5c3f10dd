use Rattle.std.proofs.Common.{IfSome, subst}
use Rattle.ssh_held.specs.Held.{AsksNext, session_of}
use Rattle.example_held.proofs.server.answer.Goals as goal

pub returns-in-Ok-give-clause-said : goal.returns-in-Ok-give-clause-said
returns-in-Ok-give-clause-said g c =
    let old = c.args.server.now in
    let judge = old.end.role.own.judge in
    record {
      verdict = record { asked = c.in-Some.question; accepts = c.answer-accepts.result };
      now_is = c.in-Ok-give.ensures.given c.requires.alive c.requires.out;
      by = c.answer-accepts.ensures;
      is = subst (λ found. IfSome found (λ asked. AsksNext (g.S.KnowsAlgorithms.knows judge.signatures) judge.list.items
          (session_of old.end.machine) old.next.payload asked)) c.in-Some.is c.in-Ok.ensures.is;
    }
