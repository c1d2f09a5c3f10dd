use Rattle.std.proofs.Common.{◌≡◌, true, sym, ◌∙◌}
use Rattle.ssh_play.proofs.Sent.{went_more, went_on}
use Rattle.ssh_play.specs.Runs.{is_side}
use Rattle.ssh_play.proofs.safety.payloads.Goals as goal
use Rattle.ssh_play.proofs.safety.payloads.Goals.{in-Some+in_ok-push, in_default}

pub loop-done-preserved : goal.loop-done-preserved
loop-done-preserved c =
    let here : is_side c.done-item.result.side c.args.side ≡ true = sym c.is_by.ensures ∙ c.if-not-is_by.false in
    elim c.match-payload_of.branch [
      | in-Some+in_ok-push w ↦ rw (w.payloads-is, w.in_ok-push.ensures.items) (went_more _ _ _ _ c.done-item.result w.in-Some.payload c.loop-done.payloads.items c.done-item.is c.loop-done-test.true here w.in-Some.ensures.some c.loop-done.invariant)
      | in_default w ↦ rw (w.payloads-is) (went_on _ _ _ _ c.done-item.result c.loop-done.payloads.items c.done-item.is c.loop-done-test.true here w.in_default.ensures.none c.loop-done.invariant)
    ]
