use Rattle.std.proofs.Common.{◌∙◌, sym, arith}
use Rattle.ssh_trace.proofs.Turning.{go_on, dead_end, whole_piece}
use Rattle.ssh_trace.proofs.deliver.deliver.Goals as goal

pub returns-then-is_dead-clause-delivered : goal.returns-then-is_dead-clause-delivered
returns-then-is_dead-clause-delivered c = λ h s.
    dead_end c.args.end.now.taking_key c.args.piece.now c.args.side c.loop-at.at h c.args.end.now c.loop-at.end c.args.log.now.items c.loop-at.log.items (c.loop-at.invariant.going h s) (sym c.is_dead.ensures ∙ c.if-is_dead.true)

pub loop-at-preserved : goal.loop-at-preserved
loop-at-preserved c =
    let keys = c.loop-at.invariant.keys in
    record {
      within = omega (arith, c.in_ok-at.ensures.used, c.split_at.ensures.back_len);
      keys = record { sending = c.deliver_once.ensures.keys.sending ∙ keys.sending; taking = c.deliver_once.ensures.keys.taking ∙ keys.taking };
      going = λ h s.
          go_on c.args.end.now.taking_key c.args.piece.now c.split_at.result.1.now c.args.side c.loop-at.at c.in_ok-at.field-0 h c.args.end.now c.loop-at.end c.deliver_once.new.end
          c.args.log.now.items c.loop-at.log.items c.deliver_once.new.log.items c.split_at.ensures.back (c.loop-at.invariant.going h s) keys.taking c.in_ok-at.ensures.turn;
    }

pub returns-clause-delivered : goal.returns-clause-delivered
returns-clause-delivered c = λ h s.
    whole_piece c.args.end.now.taking_key c.args.piece.now c.args.side c.loop-at.at h c.args.end.now c.loop-at.end c.args.log.now.items c.loop-at.log.items (c.loop-at.invariant.going h s) c.loop-at-test.false c.loop-at.invariant.keys.taking c.held.ensures.buffered
