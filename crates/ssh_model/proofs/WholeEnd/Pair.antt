-- What one end of two makes of an event, and the run of both.
use Rattle.std.proofs.Common.{◌≡◌, ℕ, List, [], ◌∷◌, ◌++◌, refl, sym, subst}
use Rattle.ssh_model.specs.declared.side.Side.{Side}
use Rattle.ssh_model.specs.declared.side.Side.TheVariants.{Client, Server}
use Rattle.ssh_model.specs.Protocol.Side.{peer, done_by, part}
use Rattle.ssh_model.specs.Protocol.Wire.Delivery.{Delivered}
use Rattle.ssh_model.specs.Protocol.Sessions.Parties.{Parties}
use Rattle.ssh_model.specs.Protocol.Sessions.Items.{Ask, Item, Done}
use Rattle.ssh_model.specs.Protocol.Sessions.Turns.{AsksTurn, FeedsTurn, Run.start}
use Rattle.ssh_model.specs.Protocol.Sessions.Events.{Event, Event.Asks, Event.Feeds, Event.Delivers, OnEvent, OnEvent.asks, OnEvent.feeds, OnEvent.delivers, Plays, Plays.ends as no_more, Plays.goes, World, kept_rest, next_world, reading_of, rest_of}
use Rattle.ssh_model.specs.State.End.State.{EndState}
use Rattle.ssh_model.specs.State.End.Summary.{EndSumsUp, EndTurned, HasOpened}
use Rattle.ssh_model.specs.State.End.Reading.{DeliversTo}
use Rattle.ssh_model.specs.State.End.Pair.{PairState, PairSumsUp, PairTurned, PairOpened, state_of, with_state}
use Rattle.ssh_model.proofs.Sessions.EndRuns.{opened_client, opened_server, part_own, part_other}
use Rattle.ssh_model.proofs.Sessions.Played.{plays_run}

module _ {K : Type 0} (p : Parties K) where
  -- the run of a world in which one end has done more
  next_run : (w : World) (side : Side) (run : List Done) (rest : List ℕ) → (next_world w side run rest).run ≡ run
  next_run w Client run rest = refl
  next_run w Server run rest = refl

  -- one end has done more, and the other nothing
  changed : (w : World) (side : Side) (run : List Done) (rest : List ℕ) (pair : PairState K) (new : EndState K) → ((t : Side) → EndSumsUp p t (part t w.run) (state_of t pair)) → EndSumsUp p side (part side run) new → part (peer side) run ≡ part (peer side) w.run →
      (t : Side) → EndSumsUp p t (part t (next_world w side run rest).run) (state_of t (with_state side new pair))
  changed w Client run rest pair new ends here there Client = here
  changed w Client run rest pair new ends here there Server = subst (λ (h : List Item). EndSumsUp p Server h pair.server) (sym there) (ends Server)
  changed w Server run rest pair new ends here there Server = here
  changed w Server run rest pair new ends here there Client = subst (λ (h : List Item). EndSumsUp p Client h pair.client) (sym there) (ends Client)

  turned : (w : World) (event : Event) (side : Side) (run : List Done) (rest : List ℕ) (pair : PairState K) (new : EndState K) → PairSumsUp p w pair → OnEvent p w event (next_world w side run rest) → EndSumsUp p side (part side run) new → part (peer side) run ≡ part (peer side) w.run →
      PairTurned p w event (next_world w side run rest) (with_state side new pair)
  turned w event side run rest pair new has on here there = record {
    on_event = on;
    sums = record { run = plays_run p w (next_world w side run rest) (event ∷ []) (goes on no_more) has.run; ends = changed w side run rest pair new has.ends here there };
  }

  module _ (w : World) (pair : PairState K) (has : PairSumsUp p w pair) (side : Side) where
    added : (items : List Item) (new : EndState K) → EndSumsUp p side (items ++ part side w.run) new → EndSumsUp p side (part side (done_by side items ++ w.run)) new
    added items new s = subst (λ (h : List Item). EndSumsUp p side h new) (sym (part_own side items w.run)) s

    pub asked : (ask : Ask) (items : List Item) (more : List ℕ) (new : EndState K) → EndTurned p side (part side w.run) (AsksTurn p side (part side w.run) ask) items more new →
        PairTurned p w (Asks side ask) (next_world w side (done_by side items ++ w.run) (kept_rest (items ++ part side w.run) (rest_of w side))) (with_state side new pair)
    asked ask items more new t = turned w (Asks side ask) side (done_by side items ++ w.run) _ pair new has (asks side ask t.turn) (added items new t.sums) (part_other side items w.run)

    pub fed : (cookie secret : List ℕ) (items : List Item) (more : List ℕ) (new : EndState K) → EndTurned p side (part side w.run) (FeedsTurn side (part side w.run) cookie secret) items more new →
        PairTurned p w (Feeds side cookie secret) (next_world w side (done_by side items ++ w.run) (rest_of w side)) (with_state side new pair)
    fed cookie secret items more new t = turned w (Feeds side cookie secret) side (done_by side items ++ w.run) _ pair new has (feeds side cookie secret t.turn) (added items new t.sums) (part_other side items w.run)

    pub delivered : (bytes : List ℕ) (last : List Item) (rest : List ℕ) (new : EndState K) → (d : DeliversTo p side w.run (rest_of w side ++ bytes) last rest) → EndSumsUp p side last new →
        PairTurned p w (Delivers side bytes) (next_world w side d.next rest) (with_state side new pair)
    delivered bytes last rest new d s =
        turned w (Delivers side bytes) side d.next rest pair new has (delivers side bytes d.delivered) (subst (λ (h : List Item). EndSumsUp p side h new) (sym d.here) s) d.there

    pub delivered_items : (bytes : List ℕ) (items : List Item) (rest : List ℕ) (new : EndState K) → Delivered (reading_of p side) w.run (rest_of w side ++ bytes) (done_by side items ++ w.run) rest → EndSumsUp p side (items ++ part side w.run) new →
        PairTurned p w (Delivers side bytes) (next_world w side (done_by side items ++ w.run) rest) (with_state side new pair)
    delivered_items bytes items rest new d s =
        turned w (Delivers side bytes) side (done_by side items ++ w.run) rest pair new has (delivers side bytes d) (added items new s) (part_other side items w.run)

  -- ---- the opening

  pub opened : (client server : List Item) (from_client from_server : List ℕ) (a b : EndState K) → HasOpened p Client client from_client a → HasOpened p Server server from_server b →
      PairOpened p (record { run = done_by Server server ++ done_by Client client; client_rest = []; server_rest = [] }) (record { client = a; server = b })
  opened client server from_client from_server a b x y = record {
    first = record { client = client; server = server; client_opens = x.opening; server_opens = y.opening; run_is = refl; client_rest_is = refl; server_rest_is = refl };
    sums = record { run = start client server x.opening y.opening; ends = ends };
  }
    where
      pair : PairState K
      pair = record { client = a; server = b }

      ends : (side : Side) → EndSumsUp p side (part side (done_by Server server ++ done_by Client client)) (state_of side pair)
      ends Client = subst (λ (h : List Item). EndSumsUp p Client h a) (sym (opened_client client server)) x.sums
      ends Server = subst (λ (h : List Item). EndSumsUp p Server h b) (sym (opened_server client server)) y.sums

  -- ---- one event more

  pub plays_then : (w between next : World) (events : List Event) (event : Event) → Plays p w events between → OnEvent p between event next → Plays p w (events ++ event ∷ []) next
  plays_then w between next events event no_more on = goes on no_more
  plays_then w between next events event (goes {between = b} {events = l} first more) on = goes first (plays_then b between next l event more on)
