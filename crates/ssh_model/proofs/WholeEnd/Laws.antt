-- The laws of an end.
use Rattle.std.proofs.Common.{◌≡◌, ℕ, List, ◌++◌, refl, sym, ◌∙◌, subst, Bool, true, false, append-nil}
use Rattle.ssh_model.specs.declared.side.Side.{Side}
use Rattle.ssh_model.specs.Protocol.Sessions.Parties.{Parties}
use Rattle.ssh_model.specs.Protocol.Sessions.Items.{Ask, Item}
use Rattle.ssh_model.specs.Protocol.Sessions.Events.{PutsOut}
use Rattle.ssh_model.specs.Protocol.Sessions.Turns.{AsksTurn, AsksTurn.is_dead, EndRun, EndRun.then_turn, FeedsTurn, OnUnit, Turn.asks, Turn.feeds, Turn.reads}
use Rattle.ssh_model.specs.State.End.State.{EndState}
use Rattle.ssh_model.specs.State.End.Summary.{EndSumsUp, EndTurned}
use Rattle.ssh_model.specs.State.End.Asks.{TakesAsk}
use Rattle.ssh_model.specs.State.End.Asks as end
use Rattle.ssh_model.proofs.WholeEnd.Asks.{ask_turned}

module _ {K : Type 0} (p : Parties K) (side : Side) (h : List Item) (e : EndState K) (sums : EndSumsUp p side h e) where
  -- an ask of a live end, or of a dead one
  ask_by : (d : Bool) → e.transport.dead ≡ d → (ask : Ask) (items : List Item) (more : List ℕ) (new : EndState K) → TakesAsk p side e ask items more new → EndTurned p side h (AsksTurn p side h ask) items more new
  ask_by d f ask items more new (end.TakesAsk.is_dead ask2 dead) = record {
    turn = is_dead (sym sums.transport.dead_is ∙ dead);
    sums = sums;
    puts = λ bytes z. subst (λ (b : List ℕ). PutsOut p side h b) (sym (append-nil bytes)) z;
  }
  ask_by false f ask items more new x = ask_turned p side h e sums f ask items more new x
  ask_by true f ask items more new (end.TakesAsk.refused a b z c) = absurd (cc (f, z))
  ask_by true f ask items more new (end.TakesAsk.of_transport a m b s z c x y) = absurd (cc (f, z))
  ask_by true f ask items more new (end.TakesAsk.disconnects a b n z c x y) = absurd (cc (f, z))
  ask_by true f ask items more new (end.TakesAsk.above a z c x y) = absurd (cc (f, z))
  ask_by true f ask items more new (end.TakesAsk.spent a m b s n z c x y u v) = absurd (cc (f, z))
  ask_by true f ask items more new (end.TakesAsk.disconnect_spent a b n z c x y u) = absurd (cc (f, z))
  ask_by true f ask items more new (end.TakesAsk.above_spent a n z c x y u v) = absurd (cc (f, z))
  ask_by true f ask items more new (end.TakesAsk.dies a m b s n z c x y u v) = absurd (cc (f, z))
  ask_by true f ask items more new (end.TakesAsk.disconnect_dies a b n z c x y u) = absurd (cc (f, z))
  ask_by true f ask items more new (end.TakesAsk.above_dies a n z c x y u v) = absurd (cc (f, z))

  pub asked : (ask : Ask) (items : List Item) (more : List ℕ) (new : EndState K) → TakesAsk p side e ask items more new → EndTurned p side h (AsksTurn p side h ask) items more new
  asked ask items more new x = ask_by e.transport.dead refl ask items more new x

  -- ---- the run of the end goes on

  pub unit_runs : EndRun p side h → e.transport.dead ≡ false → (unit : List ℕ) (items : List Item) (more : List ℕ) (new : EndState K) → EndTurned p side h (OnUnit p side h unit) items more new → EndRun p side (items ++ h)
  unit_runs r alive unit items more new t = then_turn r (reads unit (sym sums.transport.dead_is ∙ alive) t.turn)

  pub ask_runs : EndRun p side h → (ask : Ask) (items : List Item) (more : List ℕ) (new : EndState K) → EndTurned p side h (AsksTurn p side h ask) items more new → EndRun p side (items ++ h)
  ask_runs r ask items more new t = then_turn r (asks ask t.turn)

  pub feed_runs : EndRun p side h → (cookie secret : List ℕ) (items : List Item) (more : List ℕ) (new : EndState K) → EndTurned p side h (FeedsTurn side h cookie secret) items more new → EndRun p side (items ++ h)
  feed_runs r cookie secret items more new t = then_turn r (feeds cookie secret t.turn)
