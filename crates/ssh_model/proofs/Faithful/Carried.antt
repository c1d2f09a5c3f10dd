-- A faithful network kills nobody, byte by byte.
use Rattle.std.proofs.Common.{◌≡◌, ℕ, List, [], ◌∷◌, ◌++◌, inl, inr, refl, ap, sym, ◌∙◌, subst, append_assoc, append-nil, false, cond, Some, None}
use Rattle.ssh_model.specs.declared.side.Side.{Side}
use Rattle.ssh_model.specs.declared.side.Side.TheVariants.{Client, Server}
use Rattle.ssh_model.specs.Protocol.Side.{peer, DoneBy.By, done_by, part}
use Rattle.ssh_model.specs.Protocol.Lists.{IsOlder}
use Rattle.ssh_model.specs.Protocol.Wire.Delivery.{Delivered, Delivered.dead as is_dead, Delivered.waits as awaits, Delivered.takes as uses}
use Rattle.ssh_model.specs.Protocol.Sessions.Parties.{AreLawful, BothOffer, Parties}
use Rattle.ssh_model.specs.Protocol.Sessions.Items.{Ask, Item, Item.Asked, Item.Refused, Done, has_died, messages_taken}
use Rattle.ssh_model.specs.Protocol.Sessions.Phases.{has_line}
use Rattle.ssh_model.specs.Protocol.Sessions.Claims.{Agreement}
use Rattle.ssh_model.specs.Protocol.Sessions.Honest.{IsHonest}
use Rattle.ssh_model.specs.Protocol.Sessions.Turns.{AsksTurn, AsksTurn.answers, FeedsTurn, IsOpening, Run, Run.start, Run.then_turn, Turn.feeds as feeds_turn, Turn.asks as asks_turn, Turn.reads as reads_unit}
use Rattle.ssh_model.specs.Protocol.Sessions.Events.{Event, IsFirst, OnEvent, OnEvent.asks, OnEvent.feeds, OnEvent.delivers as comes, Plays, Plays.ends as no_more_events, Plays.goes as one_more_event, World, kept_rest, next_world, reading_of, rest_of}
use Rattle.ssh_model.specs.Protocol.Sessions.Faithful.{Carries, Carries.ends, Carries.goes, HasVersion, IsCarried, IsFaithful, IsUnderWay, KillsNobody, Network, PutsSince, SparesAll, TakesOff, TakesOff.asks as asks_off, TakesOff.feeds as feeds_off, TakesOff.to_client, TakesOff.to_server}
use Rattle.ssh_model.proofs.KeyExchange.Choices.{agreement_holds}
use Rattle.ssh_model.proofs.Sessions.EndRuns.{opened_client, opened_server, part_other, part_own}
use Rattle.ssh_model.proofs.Sessions.Older.{older_self, older_trans}
use Rattle.ssh_model.proofs.Sessions.Played.{beginning_is_honest}
use Rattle.ssh_model.proofs.Faithful.Plain.{ask_plain}
use Rattle.ssh_model.proofs.Faithful.Stream.{all_since, since_then}
use Rattle.ssh_model.proofs.Faithful.Whole.{kills_nobody}
use Rattle.ssh_model.proofs.Faithful.Units.{AreCalm, Faithfully, Pending, SoFar, UnitsSpared, calm_following, calm_run, calm_taken, plain_calm}
use Rattle.ssh_model.proofs.Faithful.Step.{unit_read}

-- the bytes that are under way to the end of this side
abbrev under_way : Side → Network → List ℕ
under_way Client network = network.to_client
under_way Server network = network.to_server

-- ---- older parts of a run

older_run : (side : Side) (items : List Item) (run : List Done) → IsOlder run (done_by side items ++ run)
older_run side [] run = older_self run
older_run side (i ∷ items) run = inr (older_run side items run)

older_split : (o l : List Done) → IsOlder o l → (more : List Done) × (more ++ o ≡ l)
older_split o [] e = ([], e)
older_split o (x ∷ l) (inl e) = ([], e)
older_split o (x ∷ l) (inr r) = let s = older_split o l r in (x ∷ s.0, ap (λ w. x ∷ w) s.1)

-- both ends agree at each moment before the last
abbrev Agree : {K : Type 0} → Parties K → List Done → Type 0
Agree p last = (run : List Done) → IsOlder run last → Run p run → Agreement p run

-- ---- a play over a faithful network is a play

pub carries_plays : {K : Type 0} (p : Parties K) (first last : World) (network after : Network) (events : List Event) → Carries p first network events last after → Plays p first events last
carries_plays p first last network after events ends = no_more_events
carries_plays p first last network after events (goes {between = next} {left = left} {events = more} c rest) = one_more_event c.on_event (carries_plays p next last left after more rest)

-- ---- what is pending

extended : {K : Type 0} (p : Parties K) (side : Side) (h g more : List Item) (a b : List ℕ) → Pending p side h g a → PutsSince p (peer side) g more b → Pending p side h more (a ++ b)
extended p side h g more a b q puts = record { since = q.since; puts = since_then p (peer side) q.since g more a b q.puts puts; same = q.same; line = q.line }

pending_cast : {K : Type 0} (p : Parties K) (side : Side) (h g : List Item) (a b : List ℕ) → a ≡ b → Pending p side h g a → Pending p side h g b
pending_cast p side h g a b e q = let P : List ℕ → Type 0 = λ w. Pending p side h g w in subst P e q

calm_pending : {K : Type 0} (p : Parties K) (side : Side) (l h g : List Item) (a : List ℕ) → AreCalm l → Pending p side h g a → Pending p side (l ++ h) g a
calm_pending p side l h g a c q = let e = calm_taken l h c in record { since = q.since; puts = q.puts; same = e.0 ∙ q.same; line = e.1 ∙ q.line }

died_before : (l h : List Item) → has_died (l ++ h) ≡ false → has_died h ≡ false
died_before [] h e = e
died_before (Item.Died ∷ l) h e = absurd (cc e)
died_before (i ∷ l) h e = died_before l h e

-- ---- a delivery

module _ {K : Type 0} (p : Parties K) (laws : AreLawful p) (offer : BothOffer p) (versions : (side : Side) → HasVersion p side) where
  record AfterDelivery (side : Side) (run last : List Done) (rest later : List ℕ) : Type 0 where
    so_far : SoFar p last
    other : part (peer side) last ≡ part (peer side) run
    pending : has_died (part side last) ≡ false → Pending p side (part side last) (part (peer side) run) (rest ++ later)

  delivered_older : (side : Side) (run last : List Done) (bytes rest : List ℕ) → Delivered (reading_of p side) run bytes last rest → IsOlder run last
  delivered_older side run last bytes rest (is_dead b d) = older_self run
  delivered_older side run last bytes rest (awaits n w) = older_self run
  delivered_older side run last bytes rest (uses {next = next} unit more e u a d) =
      let P : List Done → Type 0 = λ l. IsOlder run l in
      older_trans run next last (subst P (sym a.next_is) (older_run side a.items run)) (delivered_older side next last more rest d)

  delivers : (side : Side) (final run last : List Done) (buffer rest later : List ℕ) → Agree p final → IsOlder last final → Delivered (reading_of p side) run buffer last rest → SoFar p run
      → (has_died (part side run) ≡ false → Pending p side (part side run) (part (peer side) run) (buffer ++ later)) → AfterDelivery side run last rest later
  delivers side final run last buffer rest later agree o (is_dead b d) v q = record { so_far = v; other = refl; pending = λ e. absurd (cc (d, e)) }
  delivers side final run last buffer rest later agree o (awaits n w) v q = record { so_far = v; other = refl; pending = q }
  delivers side final run last buffer rest later agree o (uses {next = next} unit more e u a d) v q =
      let h = part side run in
      let older = older_trans run last final (delivered_older side run last buffer rest (uses unit more e u a d)) o in
      let bytes : buffer ++ later ≡ unit ++ (more ++ later) = ap (λ w. w ++ later) (sym e) ∙ append_assoc unit more later in
      let read = unit_read p laws side run a.items unit (more ++ later) offer versions (agree run older v.run_is) v u.0 a.on_unit (pending_cast p side h _ _ _ bytes (q u.0)) in
      let P : List Done → Type 0 = λ l. SoFar p l in
      let so_far : SoFar p next = subst P (sym a.next_is) (record { run_is = then_turn side v.run_is (reads_unit unit u.0 a.on_unit); faithful = read.goes.faithful; spared = read.goes.spared }) in
      let own : part side next ≡ a.items ++ h = ap (part side) a.next_is ∙ part_own side a.items run in
      let other : part (peer side) next ≡ part (peer side) run = ap (part (peer side)) a.next_is ∙ part_other side a.items run in
      let Q : List Item → List Item → Type 0 = λ x y. Pending p side x y (more ++ later) in
      let r = delivers side final next last more rest later agree o d so_far
      (λ z. subst (λ x. Q x (part (peer side) next)) (sym own) (subst (λ y. Q (a.items ++ h) y) (sym other) (read.pending (ap has_died (sym own) ∙ z)))) in
      let R : List Item → Type 0 = λ y. Pending p side (part side last) y (rest ++ later) in
      record { so_far = r.so_far; other = r.other ∙ other; pending = λ z. subst R other (r.pending z) }

  -- ---- an event

  -- after an event, and before what the ends put out in it
  record Between (w next : World) (left : Network) : Type 0 where
    so_far : SoFar p next.run
    pending : (side : Side) → has_died (part side next.run) ≡ false → Pending p side (part side next.run) (part (peer side) w.run) (rest_of next side ++ under_way side left)

  record Stands (w : World) (network : Network) : Type 0 where
    so_far : SoFar p w.run
    pending : (side : Side) → has_died (part side w.run) ≡ false → Pending p side (part side w.run) (part (peer side) w.run) (rest_of w side ++ under_way side network)

  asked_calm : (side : Side) (h : List Item) (ask : Ask) (items : List Item) → AsksTurn p side h ask items → AreCalm items
  asked_calm side h ask items (AsksTurn.refuses why alive e) = (tt, (tt, tt))
  asked_calm side h ask items (answers {items = l} alive c o s k) = calm_following l (Asked ask ∷ []) (plain_calm l (ask_plain p side h l ask o)) (tt, tt)
  asked_calm side h ask items (AsksTurn.spends alive c o s k) = (tt, (tt, (tt, tt)))
  asked_calm side h ask items (AsksTurn.dies alive c o s k) = (tt, tt)
  asked_calm side h ask items (AsksTurn.is_dead e) = tt

  kept : (h : List Item) (rest : List ℕ) → has_died h ≡ false → kept_rest h rest ≡ rest
  kept h rest e = ap (λ t. cond t [] rest) e

  -- an end did something of its own
  by_client : (w : World) (network : Network) (items : List Item) (rest : List ℕ) → AreCalm items → Run p (done_by Client items ++ w.run) → (has_died (items ++ part Client w.run) ≡ false → rest ≡ w.client_rest) → Stands w network
      → Between w (next_world w Client (done_by Client items ++ w.run) rest) network
  by_client w network items rest c r kept_is v = record { so_far = record { run_is = r; faithful = goes.faithful; spared = goes.spared }; pending = pending }
    where
      goes : Faithfully (done_by Client items ++ w.run)
      goes = calm_run Client items w.run c (record { faithful = v.so_far.faithful; spared = v.so_far.spared })

      own : part Client (done_by Client items ++ w.run) ≡ items ++ part Client w.run
      own = part_own Client items w.run

      pending : (side : Side) → has_died (part side (done_by Client items ++ w.run)) ≡ false → Pending p side (part side (done_by Client items ++ w.run)) (part (peer side) w.run) (rest_of (next_world w Client (done_by Client items ++ w.run) rest) side ++ under_way side network)
      pending Client e =
          let alive : has_died (items ++ part Client w.run) ≡ false = ap has_died (sym own) ∙ e in
          let P : List Item → Type 0 = λ x. Pending p Client x (part Server w.run) (rest ++ network.to_client) in
          subst P (sym own) (pending_cast p Client _ _ _ _ (ap (λ x. x ++ network.to_client) (sym (kept_is alive))) (calm_pending p Client items (part Client w.run) _ _ c (v.pending Client (died_before items _ alive))))
      pending Server e =
          let same = part_other Client items w.run in
          let P : List Item → Type 0 = λ x. Pending p Server x (part Client w.run) (w.server_rest ++ network.to_server) in
          subst P (sym same) (v.pending Server (ap has_died (sym same) ∙ e))

  by_server : (w : World) (network : Network) (items : List Item) (rest : List ℕ) → AreCalm items → Run p (done_by Server items ++ w.run) → (has_died (items ++ part Server w.run) ≡ false → rest ≡ w.server_rest) → Stands w network
      → Between w (next_world w Server (done_by Server items ++ w.run) rest) network
  by_server w network items rest c r kept_is v = record { so_far = record { run_is = r; faithful = goes.faithful; spared = goes.spared }; pending = pending }
    where
      goes : Faithfully (done_by Server items ++ w.run)
      goes = calm_run Server items w.run c (record { faithful = v.so_far.faithful; spared = v.so_far.spared })

      own : part Server (done_by Server items ++ w.run) ≡ items ++ part Server w.run
      own = part_own Server items w.run

      pending : (side : Side) → has_died (part side (done_by Server items ++ w.run)) ≡ false → Pending p side (part side (done_by Server items ++ w.run)) (part (peer side) w.run) (rest_of (next_world w Server (done_by Server items ++ w.run) rest) side ++ under_way side network)
      pending Server e =
          let alive : has_died (items ++ part Server w.run) ≡ false = ap has_died (sym own) ∙ e in
          let P : List Item → Type 0 = λ x. Pending p Server x (part Client w.run) (rest ++ network.to_server) in
          subst P (sym own) (pending_cast p Server _ _ _ _ (ap (λ x. x ++ network.to_server) (sym (kept_is alive))) (calm_pending p Server items (part Server w.run) _ _ c (v.pending Server (died_before items _ alive))))
      pending Client e =
          let same = part_other Server items w.run in
          let P : List Item → Type 0 = λ x. Pending p Client x (part Server w.run) (w.client_rest ++ network.to_client) in
          subst P (sym same) (v.pending Client (ap has_died (sym same) ∙ e))

  to_the_client : (final : List Done) (w : World) (network : Network) (bytes gone : List ℕ) (run : List Done) (rest : List ℕ) → Agree p final → IsOlder run final → network.to_client ≡ bytes ++ gone
      → Delivered (reading_of p Client) w.run (w.client_rest ++ bytes) run rest → Stands w network → Between w (next_world w Client run rest) (record { to_client = gone; to_server = network.to_server })
  to_the_client final w network bytes gone run rest agree o e d v = record { so_far = r.so_far; pending = pending }
    where
      r : AfterDelivery Client w.run run rest gone
      r = delivers Client final w.run run (w.client_rest ++ bytes) rest gone agree o d v.so_far
          (λ z. pending_cast p Client _ _ _ _ (ap (λ x. w.client_rest ++ x) e ∙ sym (append_assoc w.client_rest bytes gone)) (v.pending Client z))

      pending : (side : Side) → has_died (part side run) ≡ false → Pending p side (part side run) (part (peer side) w.run) (rest_of (next_world w Client run rest) side ++ under_way side (record { to_client = gone; to_server = network.to_server }))
      pending Client z = r.pending z
      pending Server z =
          let P : List Item → Type 0 = λ x. Pending p Server x (part Client w.run) (w.server_rest ++ network.to_server) in
          subst P (sym r.other) (v.pending Server (ap has_died (sym r.other) ∙ z))

  to_the_server : (final : List Done) (w : World) (network : Network) (bytes gone : List ℕ) (run : List Done) (rest : List ℕ) → Agree p final → IsOlder run final → network.to_server ≡ bytes ++ gone
      → Delivered (reading_of p Server) w.run (w.server_rest ++ bytes) run rest → Stands w network → Between w (next_world w Server run rest) (record { to_client = network.to_client; to_server = gone })
  to_the_server final w network bytes gone run rest agree o e d v = record { so_far = r.so_far; pending = pending }
    where
      r : AfterDelivery Server w.run run rest gone
      r = delivers Server final w.run run (w.server_rest ++ bytes) rest gone agree o d v.so_far
          (λ z. pending_cast p Server _ _ _ _ (ap (λ x. w.server_rest ++ x) e ∙ sym (append_assoc w.server_rest bytes gone)) (v.pending Server z))

      pending : (side : Side) → has_died (part side run) ≡ false → Pending p side (part side run) (part (peer side) w.run) (rest_of (next_world w Server run rest) side ++ under_way side (record { to_client = network.to_client; to_server = gone }))
      pending Server z = r.pending z
      pending Client z =
          let P : List Item → Type 0 = λ x. Pending p Client x (part Server w.run) (w.client_rest ++ network.to_client) in
          subst P (sym r.other) (v.pending Client (ap has_died (sym r.other) ∙ z))

  between : (final : List Done) (w next : World) (network left : Network) (event : Event) → Agree p final → IsOlder next.run final → OnEvent p w event next → TakesOff network event left → Stands w network → Between w next left
  between final w next network left event agree o (asks {items = items} Client ask turn) (asks_off s a) v =
      by_client w network items _ (asked_calm Client _ ask items turn) (then_turn Client v.so_far.run_is (asks_turn ask turn)) (λ e. kept (items ++ part Client w.run) w.client_rest e) v
  between final w next network left event agree o (asks {items = items} Server ask turn) (asks_off s a) v =
      by_server w network items _ (asked_calm Server _ ask items turn) (then_turn Server v.so_far.run_is (asks_turn ask turn)) (λ e. kept (items ++ part Server w.run) w.server_rest e) v
  between final w next network left event agree o (feeds Client c s (FeedsTurn.feeds k m)) (feeds_off t a b) v =
      by_client w network (Item.Fed c s ∷ []) _ (tt, tt) (then_turn Client v.so_far.run_is (feeds_turn c s (FeedsTurn.feeds k m))) (λ e. refl) v
  between final w next network left event agree o (feeds Server c s (FeedsTurn.feeds k m)) (feeds_off t a b) v =
      by_server w network (Item.Fed c s ∷ []) _ (tt, tt) (then_turn Server v.so_far.run_is (feeds_turn c s (FeedsTurn.feeds k m))) (λ e. refl) v
  between final w next network left event agree o (feeds Client c s (FeedsTurn.answers_false k)) (feeds_off t a b) v =
      by_client w network [] _ tt v.so_far.run_is (λ e. refl) v
  between final w next network left event agree o (feeds Server c s (FeedsTurn.answers_false k)) (feeds_off t a b) v =
      by_server w network [] _ tt v.so_far.run_is (λ e. refl) v
  between final w next network left event agree o (comes {run = run} {rest = rest} Client bytes d) (to_client b gone e) v = to_the_client final w network bytes gone run rest agree o e d v
  between final w next network left event agree o (comes {run = run} {rest = rest} Server bytes d) (to_server b gone e) v = to_the_server final w network bytes gone run rest agree o e d v

  carried : (final : List Done) (w next : World) (network after : Network) (event : Event) → Agree p final → IsOlder next.run final → IsCarried p w network event next after → Stands w network → Stands next after
  carried final w next network after event agree o c v = record { so_far = b.so_far; pending = pending }
    where
      b : Between w next c.left
      b = between final w next network c.left event agree o c.on_event c.takes v

      pending : (side : Side) → has_died (part side next.run) ≡ false → Pending p side (part side next.run) (part (peer side) next.run) (rest_of next side ++ under_way side after)
      pending Client e =
          pending_cast p Client _ _ _ _ (append_assoc next.client_rest c.left.to_client c.by_server ∙ ap (λ x. next.client_rest ++ x) (sym c.to_client))
          (extended p Client _ _ _ _ c.by_server (b.pending Client e) c.server_puts)
      pending Server e =
          pending_cast p Server _ _ _ _ (append_assoc next.server_rest c.left.to_server c.by_client ∙ ap (λ x. next.server_rest ++ x) (sym c.to_server))
          (extended p Server _ _ _ _ c.by_client (b.pending Server e) c.client_puts)

  event_older : (w next : World) (event : Event) → OnEvent p w event next → IsOlder w.run next.run
  event_older w next event (asks {items = items} Client ask turn) = older_run Client items w.run
  event_older w next event (asks {items = items} Server ask turn) = older_run Server items w.run
  event_older w next event (feeds {items = items} Client c s turn) = older_run Client items w.run
  event_older w next event (feeds {items = items} Server c s turn) = older_run Server items w.run
  event_older w next event (comes Client bytes d) = delivered_older Client _ _ _ _ d
  event_older w next event (comes Server bytes d) = delivered_older Server _ _ _ _ d

  carries_older : (w last : World) (network after : Network) (events : List Event) → Carries p w network events last after → IsOlder w.run last.run
  carries_older w last network after events ends = older_self w.run
  carries_older w last network after events (goes {between = next} {left = left} {event = event} {events = more} c rest) =
      older_trans _ _ _ (event_older w next event c.on_event) (carries_older next last left after more rest)

  all_carried : (final : List Done) (w last : World) (network after : Network) (events : List Event) → Agree p final → IsOlder last.run final → Carries p w network events last after → Stands w network → Stands last after
  all_carried final w last network after events agree o ends v = v
  all_carried final w last network after events agree o (goes {between = next} {left = left} {event = event} {events = more} c rest) v =
      all_carried final next last left after more agree o rest (carried final w next network left event agree (older_trans _ _ _ (carries_older next last left after more rest) o) c v)

  -- ---- from the first on

  calm_opening : (side : Side) (items : List Item) → IsOpening p side items → AreCalm items × (messages_taken items ≡ []) × (has_line items ≡ false)
  calm_opening side items o =
      let P : List Item → Type 0 = λ l. AreCalm l × (messages_taken l ≡ []) × (has_line l ≡ false) in
      subst P (sym o.items_are) ((tt, (tt, (tt, tt))), refl, refl)

  first_stands : (w : World) (network : Network) → IsFirst p w → IsUnderWay p w network → Stands w network
  first_stands w network f u = record { so_far = so_far; pending = pending }
    where
      client : part Client w.run ≡ f.client
      client = ap (part Client) f.run_is ∙ opened_client f.client f.server

      server : part Server w.run ≡ f.server
      server = ap (part Server) f.run_is ∙ opened_server f.client f.server

      nothing : Faithfully []
      nothing = record { faithful = tt; spared = tt }

      goes : Faithfully (done_by Server f.server ++ done_by Client f.client)
      goes =
          let c : Faithfully (done_by Client f.client ++ []) = calm_run Client f.client [] (calm_opening Client f.client f.client_opens).0 nothing in
          calm_run Server f.server (done_by Client f.client) (calm_opening Server f.server f.server_opens).0 (subst Faithfully (append-nil (done_by Client f.client)) c)

      so_far : SoFar p w.run
      so_far =
          let P : List Done → Type 0 = λ l. SoFar p l in
          subst P (sym f.run_is) (record { run_is = start f.client f.server f.client_opens f.server_opens; faithful = goes.faithful; spared = goes.spared })

      pending : (side : Side) → has_died (part side w.run) ≡ false → Pending p side (part side w.run) (part (peer side) w.run) (rest_of w side ++ under_way side network)
      pending Client e =
          let o = calm_opening Client f.client f.client_opens in
          pending_cast p Client _ _ _ _ (ap (λ x. x ++ network.to_client) (sym f.client_rest_is))
          (record { since = []; puts = all_since p Server _ _ u.to_client; same = ap messages_taken client ∙ o.1; line = ap has_line client ∙ o.2 })
      pending Server e =
          let o = calm_opening Server f.server f.server_opens in
          pending_cast p Server _ _ _ _ (ap (λ x. x ++ network.to_server) (sym f.server_rest_is))
          (record { since = []; puts = all_since p Client _ _ u.to_server; same = ap messages_taken server ∙ o.1; line = ap has_line server ∙ o.2 })

  agree_before : (last : List Done) → IsHonest p last → Agree p last
  agree_before last h run o r =
      let s = older_split run last o in
      let P : List Done → Type 0 = λ l. IsHonest p l in
      agreement_holds p laws offer run r (beginning_is_honest p s.0 run (subst P (sym s.1) h))

  faithfully : (first last : World) (network after : Network) (events : List Event) → IsFirst p first → IsUnderWay p first network → Carries p first network events last after → IsHonest p last.run → SoFar p last.run
  faithfully first last network after events f u c h =
      (all_carried last.run first last network after events (agree_before last.run h) (older_self last.run) c (first_stands first network f u)).so_far

  spares : (run : List Done) → KillsNobody run → UnitsSpared run → SparesAll run
  spares [] k u = tt
  spares (By side (Refused why (Some b)) ∷ run) k u = (k.0, spares run k.1 u)
  spares (By side (Refused why None) ∷ run) k u = (u.0, spares run k u.1)
  spares (By side i ∷ run) k u = spares run k u

  pub bytes_faithful : (first last : World) (network after : Network) (events : List Event) → IsFirst p first → IsUnderWay p first network → Carries p first network events last after → IsHonest p last.run → IsFaithful last.run
  bytes_faithful first last network after events f u c h = (faithfully first last network after events f u c h).faithful

  pub spares_all : (first last : World) (network after : Network) (events : List Event) → IsFirst p first → IsUnderWay p first network → Carries p first network events last after → IsHonest p last.run → SparesAll last.run
  spares_all first last network after events f u c h =
      let v = faithfully first last network after events f u c h in
      spares last.run (kills_nobody p laws last.run v.run_is v.faithful) v.spared
