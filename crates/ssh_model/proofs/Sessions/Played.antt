-- Events give runs, a beginning of an honest run is honest, and the cutting of a stream into pieces does not matter.
use Rattle.std.proofs.Common.{ℕ, List, [], ◌∷◌, ◌++◌, sym, subst, ◌↔◌}
use Rattle.ssh_model.specs.declared.side.Side.{Side}
use Rattle.ssh_model.specs.declared.side.Side.TheVariants.{Client, Server}
use Rattle.ssh_model.specs.Protocol.Side.{DoneBy.By, part}
use Rattle.ssh_model.specs.Protocol.Wire.Message.{Msg.NewKeys}
use Rattle.ssh_model.specs.Protocol.Wire.Sealing.{IsSealing}
use Rattle.ssh_model.specs.Protocol.Sessions.Parties.{Parties}
use Rattle.ssh_model.specs.Protocol.Sessions.Items.{Item, Item.Sent, Done, has_died}
use Rattle.ssh_model.specs.Protocol.Wire.Delivery.{Delivered, Delivered.dead, Delivered.waits, Delivered.takes}
use Rattle.ssh_model.specs.Laws.Delivery.{InPieces}
use Rattle.ssh_model.specs.Protocol.Sessions.Turns.{Turn.feeds, Turn.asks, Run, Run.start, Run.then_turn, stage, Turn}
use Rattle.ssh_model.specs.Protocol.Sessions.Events.{Event, IsFirst, Uses, reading_of, World, OnEvent, OnEvent.asks, OnEvent.feeds, OnEvent.delivers, Plays, Plays.ends, Plays.goes}
use Rattle.ssh_model.specs.Protocol.Sessions.Honest.{SignaturesHold, IsHonest}
use Rattle.ssh_model.proofs.Sessions.Whole.{fresh_tail, completed_grows, tags_tail}
use Rattle.ssh_model.proofs.Wire.Units.{reading_pieces}

module _ {K : Type 0} (p : Parties K) where
  delivery_runs : (side : Side) (run last : List Done) (bytes rest : List ℕ) → Delivered (reading_of p side) run bytes last rest → Run p run → Run p last
  delivery_runs side run last bytes rest (dead b d) r = r
  delivery_runs side run last bytes rest (waits alive w) r = r
  delivery_runs side run last bytes rest (takes {next = next} unit more e n a d) r =
      let t = then_turn side r (Turn.reads unit n.0 a.on_unit) in
      delivery_runs side next last more rest d (subst (λ w. Run p w) (sym a.next_is) t)

  event_runs : (w v : World) (event : Event) → OnEvent p w event v → Run p w.run → Run p v.run
  event_runs w v event (asks Client a t) r = then_turn Client r (Turn.asks a t)
  event_runs w v event (asks Server a t) r = then_turn Server r (Turn.asks a t)
  event_runs w v event (feeds Client c s t) r = then_turn Client r (Turn.feeds c s t)
  event_runs w v event (feeds Server c s t) r = then_turn Server r (Turn.feeds c s t)
  event_runs w v event (delivers {run = run} {rest = rest} Client bytes d) r = delivery_runs Client w.run run _ rest d r
  event_runs w v event (delivers {run = run} {rest = rest} Server bytes d) r = delivery_runs Server w.run run _ rest d r

  pub plays_run : (before after : World) (events : List Event) → Plays p before events after → Run p before.run → Run p after.run
  plays_run before after events ends r = r
  plays_run before after events (goes {between = b} {event = e} {events = es} s more) r = plays_run b after es more (event_runs before b e s r)

  first_run : (w : World) → IsFirst p w → Run p w.run
  first_run w f = subst (λ r. Run p r) (sym f.run_is) (start f.client f.server f.client_opens f.server_opens)

  pub first_plays : (before after : World) (events : List Event) → IsFirst p before → Plays p before events after → Run p after.run
  first_plays before after events f s = plays_run before after events s (first_run before f)

  -- ---- beginnings

  signatures_tail : (t : Side) (i : Item) (run : List Done) → SignaturesHold p (By t i ∷ run) → SignaturesHold p run
  signatures_tail Client (Sent c NewKeys b) run h = h.1
  signatures_tail t i run h = h

  one_less : (t : Side) (i : Item) (run : List Done) → IsHonest p (By t i ∷ run) → IsHonest p run
  one_less t i run h = record {
    tags = tags_tail p t i run h.tags;
    signatures = signatures_tail t i run h.signatures;
    hashes = λ x y a b e. h.hashes x y (completed_grows p t i run x a) (completed_grows p t i run y b) e;
    cookies_differ = λ side. fresh_tail p side t i run (h.cookies_differ side);
  }

  pub beginning_is_honest : (more run : List Done) → IsHonest p (more ++ run) → IsHonest p run
  beginning_is_honest [] run h = h
  beginning_is_honest (By t i ∷ more) run h = beginning_is_honest more run (one_less t i (more ++ run) h)

  -- ---- pieces

  pub session_pieces : IsSealing p.crypto → (side : Side) (run last : List Done) (one two rest : List ℕ)
      → Delivered (reading_of p side) run (one ++ two) last rest ↔ InPieces (reading_of p side) run one two last rest
  session_pieces sealing side run last one two rest =
      reading_pieces p.crypto sealing (λ r. stage p side (part side r)) (Uses p side) (λ r. has_died (part side r)) run last one two rest
