-- A dead end does nothing, and keeps no bytes.
use Rattle.std.proofs.Common.{◌≡◌, ℕ, Bool, true, false, cond, List, [], ◌++◌, refl, ap, sym, ◌∙◌}
use Rattle.ssh_model.specs.declared.side.Side.{Side}
use Rattle.ssh_model.specs.declared.side.Side.TheVariants.{Client, Server}
use Rattle.ssh_model.specs.Protocol.Side.{peer, part}
use Rattle.ssh_model.specs.Protocol.Wire.Delivery.{Delivered, Delivered.dead, Delivered.waits, Delivered.takes}
use Rattle.ssh_model.specs.Protocol.Sessions.Parties.{Parties}
use Rattle.ssh_model.specs.Protocol.Sessions.Items.{Ask, Item, Done, has_died}
use Rattle.ssh_model.specs.Protocol.Sessions.Turns.{FeedsTurn, FeedsTurn.feeds, FeedsTurn.answers_false, AsksTurn, AsksTurn.refuses, AsksTurn.answers, AsksTurn.spends, AsksTurn.dies, AsksTurn.is_dead, Turn, Turn.feeds as feeding, Turn.asks as asking, Turn.reads as reading_turn, can_feed}
use Rattle.ssh_model.specs.Protocol.Sessions.Events.{Event, OnEvent, OnEvent.asks, OnEvent.feeds, OnEvent.delivers, Plays, Plays.ends, Plays.goes, World, IsFirst, rest_of, kept_rest, reading_of}
use Rattle.ssh_model.proofs.Sessions.EndRuns.{part_own, part_other}

alive_dead : {A : Type 0} {b : Bool} → b ≡ false → b ≡ true → A
alive_dead e f = absurd (let g : false ≡ true = sym e ∙ f in cc g)

can_live : (h : List Item) → can_feed h ≡ true → has_died h ≡ false
can_live h e = go (has_died h) refl
  where
    go : (b : Bool) → has_died h ≡ b → has_died h ≡ false
    go false f = f
    go true f = absurd (let g : false ≡ true = sym (rw f refl) ∙ e in cc g)

feed_still : (side : Side) (h : List Item) (c s : List ℕ) (items : List Item) → has_died h ≡ true → FeedsTurn side h c s items → items ≡ []
feed_still side h c s items d (feeds k m) = alive_dead (can_live h k) d
feed_still side h c s items d (answers_false k) = refl

ask_still : {K : Type 0} (p : Parties K) (side : Side) (h : List Item) (ask : Ask) (items : List Item) → has_died h ≡ true → AsksTurn p side h ask items → items ≡ []
ask_still p side h ask items d (refuses k alive e) = alive_dead alive d
ask_still p side h ask items d (answers alive c o s n) = alive_dead alive d
ask_still p side h ask items d (spends alive c o s n) = alive_dead alive d
ask_still p side h ask items d (dies alive c o s n) = alive_dead alive d
ask_still p side h ask items d (is_dead e) = refl

pub turn_still : {K : Type 0} (p : Parties K) (side : Side) (h items : List Item) → has_died h ≡ true → Turn p side h items → items ≡ []
turn_still p side h items d (feeding c s t) = feed_still side h c s items d t
turn_still p side h items d (asking ask t) = ask_still p side h ask items d t
turn_still p side h items d (reading_turn unit alive t) = alive_dead alive d

-- ---- worlds

-- what is left for an end that is dead
DeadRest : World → Side → Type 0
DeadRest w side = has_died (part side w.run) ≡ true → rest_of w side ≡ []

module _ {K : Type 0} (p : Parties K) where
  delivered_rest : (side : Side) (run last : List Done) (bytes rest : List ℕ) → Delivered (reading_of p side) run bytes last rest → has_died (part side last) ≡ true → rest ≡ []
  delivered_rest side run last bytes rest (dead b d) e = refl
  delivered_rest side run last bytes rest (waits alive w) e = absurd (alive e)
  delivered_rest side run last bytes rest (takes {next = next} unit more f u a d) e = delivered_rest side next last more rest d e

  kept_dead : (h : List Item) (rest : List ℕ) → has_died h ≡ true → kept_rest h rest ≡ []
  kept_dead h rest e = ap (λ b. cond b [] rest) e

  delivered_other : (side : Side) (run last : List Done) (bytes rest : List ℕ) → Delivered (reading_of p side) run bytes last rest → part (peer side) last ≡ part (peer side) run
  delivered_other side run last bytes rest (dead b d) = refl
  delivered_other side run last bytes rest (waits alive w) = refl
  delivered_other side run last bytes rest (takes {next = next} unit more f u a d) =
      delivered_other side next last more rest d ∙ (ap (part (peer side)) a.next_is ∙ part_other side a.items run)

  fed_alive : (side : Side) (h : List Item) (c s : List ℕ) (items : List Item) → FeedsTurn side h c s items → has_died (items ++ h) ≡ true → has_died h ≡ true
  fed_alive side h c s items (feeds k m) e = e
  fed_alive side h c s items (answers_false k) e = e

  event_rest : (w v : World) (event : Event) → OnEvent p w event v → ((side : Side) → DeadRest w side) → (side : Side) → DeadRest v side
  unfolding DeadRest
  event_rest w v event (asks {items = items} Client ask t) r Client e = kept_dead (items ++ part Client w.run) (rest_of w Client) (rw part_own at e)
  event_rest w v event (asks {items = items} Client ask t) r Server e = r Server (rw (part_other Client items w.run) at e)
  event_rest w v event (asks {items = items} Server ask t) r Client e = r Client (rw (part_other Server items w.run) at e)
  event_rest w v event (asks {items = items} Server ask t) r Server e = kept_dead (items ++ part Server w.run) (rest_of w Server) (rw part_own at e)
  event_rest w v event (feeds {items = items} Client c s t) r Client e = r Client (fed_alive Client _ c s items t (rw (part_own Client items w.run) at e))
  event_rest w v event (feeds {items = items} Client c s t) r Server e = r Server (rw (part_other Client items w.run) at e)
  event_rest w v event (feeds {items = items} Server c s t) r Client e = r Client (rw (part_other Server items w.run) at e)
  event_rest w v event (feeds {items = items} Server c s t) r Server e = r Server (fed_alive Server _ c s items t (rw (part_own Server items w.run) at e))
  event_rest w v event (delivers Client bytes d) r Client e = delivered_rest Client _ _ _ _ d e
  event_rest w v event (delivers Client bytes d) r Server e = r Server (rw (delivered_other Client _ _ _ _ d) at e)
  event_rest w v event (delivers Server bytes d) r Client e = r Client (rw (delivered_other Server _ _ _ _ d) at e)
  event_rest w v event (delivers Server bytes d) r Server e = delivered_rest Server _ _ _ _ d e

  pub dead_rest : (w v : World) (events : List Event) → Plays p w events v → ((side : Side) → has_died (part side w.run) ≡ true → rest_of w side ≡ [])
      → (side : Side) → has_died (part side v.run) ≡ true → rest_of v side ≡ []
  unfolding DeadRest
  dead_rest w v events ends r = r
  dead_rest w v events (goes {between = b} {event = e} {events = es} s more) r = dead_rest b v es more (event_rest w b e s r)

  first_rest : (w : World) → IsFirst p w → (side : Side) → rest_of w side ≡ []
  first_rest w f Client = f.client_rest_is
  first_rest w f Server = f.server_rest_is

  pub first_dead_rest : (w v : World) (events : List Event) → IsFirst p w → Plays p w events v → (side : Side) → has_died (part side v.run) ≡ true → rest_of v side ≡ []
  first_dead_rest w v events f s = dead_rest w v events s (λ side e. first_rest w f side)
