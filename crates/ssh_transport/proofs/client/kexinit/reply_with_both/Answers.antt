use Rattle.std.proofs.Common.{refl, arith}
use Rattle.ssh_transport.proofs.OfClient.Answering.{both_answer, both_sent, point_by}
use Rattle.ssh_transport.proofs.Replying.{on_err}
use Rattle.ssh_transport.proofs.client.kexinit.reply_with_both.Goals as goal

pub returns-then-not-has_numbers-clause-done : goal.returns-then-not-has_numbers-clause-done
returns-then-not-has_numbers-clause-done g c = record {
  answer = both_answer _ _ _ _ c.requires.free c.requires.pair (point_by (g.A.Agreement.does c.args.agreement.now) c.args.material.secret c.public-point.result c.public-point.ensures c.has_32_bytes.ensures)
      (c.encodings.ensures.init c.public-point.result (omega (arith, c.has_32_bytes.ensures))) c.offer_fits.ensures;
  few = c.has_numbers.ensures.lacks c.if-not-has_numbers.true;
  after = c.die.ensures;
  quiet = record { out = refl; sent = refl };
}

pub returns-clause-done : goal.returns-clause-done
returns-clause-done g c =
    both_sent _ _ _ _ _ _ _ _ c.requires.free c.requires.pair
    (point_by (g.A.Agreement.does c.args.agreement.now) c.args.material.secret c.public-point.result c.public-point.ensures c.has_32_bytes.ensures)
    c.in_ok-reply_with_both.ensures.sends

pub returns-in_err-reply_with_both-clause-needs_memory : goal.returns-in_err-reply_with_both-clause-needs_memory
returns-in_err-reply_with_both-clause-needs_memory g c = on_err c.from_residual.result (record {
  answer = both_answer _ _ _ _ c.requires.free c.requires.pair (point_by (g.A.Agreement.does c.args.agreement.now) c.args.material.secret c.public-point.result c.public-point.ensures c.has_32_bytes.ensures)
      (c.encodings.ensures.init c.public-point.result (omega (arith, c.has_32_bytes.ensures))) c.offer_fits.ensures;
  room = c.has_numbers.ensures.has c.if-not-has_numbers.false;
})
