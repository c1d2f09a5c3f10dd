use Rattle.std.proofs.Common.{refl, arith}
use Rattle.ssh_transport.proofs.OfClient.Answering.{point_answer, point_of, point_sent}
use Rattle.ssh_transport.proofs.Replying.{on_err}
use Rattle.ssh_transport.proofs.client.kexinit.reply_with_ecdh_init.Goals as goal

pub returns-then-is_spent-clause-done : goal.returns-then-is_spent-clause-done
returns-then-is_spent-clause-done g c = record {
  answer = point_answer _ c.args.machine.now.kept _ c.requires (point_of (g.A.Agreement.does c.args.agreement.now) c.args.machine.now.kept c.own_point-point.result c.own_point-point.ensures c.has_32_bytes.ensures) (c.encodings.ensures.init c.own_point-point.result (omega (arith, c.has_32_bytes.ensures)));
  few = omega (arith, c.is_spent.ensures.spent c.if-is_spent.true);
  after = c.die.ensures;
  quiet = record { out = refl; sent = refl };
}

pub returns-clause-done : goal.returns-clause-done
returns-clause-done g c =
    point_sent _ _ _ _ _ _ _ c.requires (point_of (g.A.Agreement.does c.args.agreement.now) c.args.machine.now.kept c.own_point-point.result c.own_point-point.ensures c.has_32_bytes.ensures)
    c.in_ok-reply_with_ecdh_init.ensures.sends c.in_ok-reply_with_ecdh_init.ensures.after

pub returns-in_err-reply_with_ecdh_init-clause-needs_memory : goal.returns-in_err-reply_with_ecdh_init-clause-needs_memory
returns-in_err-reply_with_ecdh_init-clause-needs_memory g c = on_err c.from_residual.result (record {
  answer = point_answer _ c.args.machine.now.kept _ c.requires (point_of (g.A.Agreement.does c.args.agreement.now) c.args.machine.now.kept c.own_point-point.result c.own_point-point.ensures c.has_32_bytes.ensures) (c.encodings.ensures.init c.own_point-point.result (omega (arith, c.has_32_bytes.ensures)));
  room = omega (arith, c.is_spent.ensures.left c.if-is_spent.false);
})
