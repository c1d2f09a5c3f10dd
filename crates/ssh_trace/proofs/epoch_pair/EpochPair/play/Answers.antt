use Rattle.std.proofs.Common.{◌∙◌, List, take, refl, ap, sym, subst}
use Rattle.std.proofs.lemmas.List.{take_more}
use Rattle.ssh_trace.specs.History.{events_of}
use Rattle.ssh_trace.specs.Pair.{PairState, Plays}
use Rattle.ssh_trace.specs.declared.history.Event.{Event}
use Rattle.ssh_trace.proofs.Playing.{filled_at, nothing_played, one_more}
use Rattle.ssh_trace.proofs.epoch_pair.EpochPair.play.Goals as goal

pub loop-event-init : goal.loop-event-init
loop-event-init c = record {
  fine = sym (ap (λ (p : PairState). p.failed) c.self.view_is) ∙ c.if-self.false;
  keys = refl;
  plays = nothing_played c.args.self.now c.new.result.items c.new-2.result.items c.new-3.result.items c.new.ensures.items c.new-2.ensures.items c.new-3.ensures.items;
}

pub play_one-requires : goal.play_one-requires
play_one-requires c = record { filled = filled_at c.args.events.now c.loop-event.event-index _ c.requires.filled c.loop-event-test.true }

pub loop-event-preserved : goal.loop-event-preserved
loop-event-preserved c = record {
  fine = c.play_one.ensures.failed ∙ c.loop-event.invariant.fine;
  keys = c.play_one.ensures.keys ∙ c.loop-event.invariant.keys;
  plays = λ w s. subst (λ (es : List Event). Plays (events_of es) c.args.self.now c.play_one.new.self c.play_one.new.transcript.items.items c.play_one.new.transcript.client_bytes.items c.play_one.new.transcript.server_bytes.items w)
      (sym (take_more c.args.events.now c.loop-event.event-index _ c.loop-event-test.true))
      (one_more (take c.loop-event.event-index c.args.events.now) _ c.args.self.now c.loop-event.self c.play_one.new.self _ _ _ _ _ _ w c.loop-event.invariant.keys (c.loop-event.invariant.plays w s) c.in-Ok.ensures.plays);
}
