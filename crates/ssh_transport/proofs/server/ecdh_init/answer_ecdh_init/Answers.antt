use Rattle.std.proofs.Common.{refl}
use Rattle.std.specs.Option.{option_map}
use Rattle.ssh_kex.specs.Values.{owned_chosen}
use Rattle.ssh_transport.specs.OfServer.Answers as answers
use Rattle.ssh_transport.proofs.Replying.{on_err}
use Rattle.ssh_transport.proofs.server.ecdh_init.answer_ecdh_init.Goals as goal

pub returns-in_ok-finish_after-in-Ok-Some-clause-taken : goal.returns-in_ok-finish_after-in-Ok-Some-clause-taken
returns-in_ok-finish_after-in-Ok-Some-clause-taken g c =
    let encoded = rw c.in-Ok-Some.field-0-is at c.in-Ok-Some.ensures.encoded in
    answers.EcdhInitTaken.completed c.in-Ok-Some.answer.made.choice refl (record {
      point = c.args.client.point;
      shared = c.args.client.shared;
      reply = c.in-Ok-Some.answer.reply.items;
      own = c.in-Ok-Some.answer.made.keys.own;
      theirs = c.in-Ok-Some.answer.made.keys.theirs;
      session = c.in-Ok-Some.answer.made.keys.session;
      announcement = option_map (λ v. v.items) c.in-Ok-Some.answer.made.announcement;
      shows = c.requires.shown;
      answer = encoded.0;
      finishes = c.in_ok-finish_after-in-Ok-Some.ensures.finishes _ encoded.0.reply_is;
      after = c.in_ok-finish_after-in-Ok-Some.ensures.after;
    })

pub returns-in-Ok-None-clause-taken : goal.returns-in-Ok-None-clause-taken
returns-in-Ok-None-clause-taken g c = answers.EcdhInitTaken.spent refl (record {
  point = c.args.client.point;
  shared = c.args.client.shared;
  shows = c.requires.shown;
  spent = rw c.in-Ok-None.field-0-is at c.in-Ok-None.ensures.encoded;
  after = c.die.ensures;
  out = refl;
  lists = refl;
})

pub returns-in_err-finish_after-in-Ok-Some-clause-needs_memory : goal.returns-in_err-finish_after-in-Ok-Some-clause-needs_memory
returns-in_err-finish_after-in-Ok-Some-clause-needs_memory g c =
    let encoded = rw c.in-Ok-Some.field-0-is at c.in-Ok-Some.ensures.encoded in
    on_err c.from_residual.result (answers.EcdhInitNeedsMemory.answered c.args.client.point c.args.client.shared c.requires.shown (record {
      chosen = owned_chosen c.in-Ok-Some.answer.made.choice.value;
      reply = c.in-Ok-Some.answer.reply.items;
      own = c.in-Ok-Some.answer.made.keys.own;
      theirs = c.in-Ok-Some.answer.made.keys.theirs;
      session = c.in-Ok-Some.answer.made.keys.session;
      announcement = option_map (λ v. v.items) c.in-Ok-Some.answer.made.announcement;
      answer = encoded.0;
    }) encoded.1)

pub returns-in-Err-clause-needs_memory : goal.returns-in-Err-clause-needs_memory
returns-in-Err-clause-needs_memory g c = answers.EcdhInitNeedsMemory.answered c.args.client.point c.args.client.shared c.requires.shown c.in-Err.ensures.due c.in-Err.ensures.room
