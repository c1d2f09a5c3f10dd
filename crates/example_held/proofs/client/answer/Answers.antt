use Rattle.example_held.proofs.Meeting.{on_host}
use Rattle.example_held.proofs.client.answer.Goals as goal

pub returns-in-Ok-give-clause-said : goal.returns-in-Ok-give-clause-said
returns-in-Ok-give-clause-said g c = record {
  verdict = record { asked = c.in-Ok.question; accepts = c.answer-accepts.result };
  now_is = c.in-Ok-give.ensures.given c.requires.alive;
  by = c.answer-accepts.ensures;
  is = on_host c.one_message.ensures c.args.client.now.next c.in-Some.host c.in-Some.ensures.algorithm c.in-Some.ensures.is
      c.in-Some.ensures.hash c.in-Some.ensures.signature (record { asked = c.in-Ok.question; accepts = c.answer-accepts.result })
      c.in-Ok.ensures;
}
