use Rattle.std.proofs.Common.{IfSome, Some, subst, sym, refl}
use Rattle.std.specs.Option.{option_map}
use Rattle.ssh_message.specs.Meaning.{meaning}
use Rattle.ssh_end_machine.specs.Above.{IsMade}
use Rattle.ssh_end_machine.specs.Following.{MayGo}
use Rattle.ssh_end_machine.proofs.Following.{encoded_goes}
use Rattle.ssh_end_machine.proofs.replying.encode_answer.Goals as goal

pub returns-clause-can : goal.returns-clause-can
returns-clause-can g c = record {
  alive = c.requires.alive;
  room = c.is_spent.ensures.left c.if-is_spent.false;
  can = encoded_goes c.args.transport.now.machine.kept (meaning c.in-Some.message) c.in_ok-payload.payload.items c.in_ok-payload.ensures.encoded c.in_ok-payload.ensures.some (subst (λ w. IfSome w (λ m. MayGo c.args.transport.now.machine.kept (meaning m))) c.in-Some.is c.requires.goes);
}

pub returns-clause-made : goal.returns-clause-made
returns-clause-made g c = subst (λ w. IsMade c.args.transport.now.machine c.args.step (option_map meaning w) c.args.success c.args.step (Some c.in_ok-payload.payload.items) c.args.success) (sym c.in-Some.is) (record {
  step_is = refl;
  reply_is = (
    c.in_ok-payload.ensures.encoded,
    record {
      alive = c.requires.alive;
      room = c.is_spent.ensures.left c.if-is_spent.false;
      can = encoded_goes c.args.transport.now.machine.kept (meaning c.in-Some.message) c.in_ok-payload.payload.items c.in_ok-payload.ensures.encoded c.in_ok-payload.ensures.some (subst (λ w. IfSome w (λ m. MayGo c.args.transport.now.machine.kept (meaning m))) c.in-Some.is c.requires.goes);
    },
  );
  success_is = refl;
})
