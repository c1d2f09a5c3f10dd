-- Whole runs as their channels see them: windows, no refusal between the two ends, and data in order.
use Rattle.std.proofs.Common.{◌≡◌, ℕ, List, [], ◌∷◌, ◌++◌, ◌⊎◌, inl, inr, refl, ap, sym, ◌∙◌, subst, append_assoc, append-nil, Option, Some, None}
use Rattle.ssh_model.specs.declared.side.Side.{Side}
use Rattle.ssh_model.specs.declared.side.Side.TheVariants.{Client, Server}
use Rattle.ssh_model.specs.Protocol.Side.{peer, DoneBy.By, done_by, part}
use Rattle.ssh_model.specs.Protocol.Lists.{IsOlder}
use Rattle.ssh_model.specs.Protocol.Wire.Message.{Msg.NewKeys, Msg.KexInit}
use Rattle.ssh_model.specs.Protocol.Sessions.Parties.{Parties, AreLawful, BothOffer}
use Rattle.ssh_model.specs.Protocol.Sessions.Items.{Item, Item.Sent, Item.Took, Done}
use Rattle.ssh_model.specs.Protocol.Channels.Message.{Message}
use Rattle.ssh_model.specs.Protocol.Channels.History as channel
use Rattle.ssh_model.specs.ChannelLayer.Rows as row
use Rattle.ssh_model.specs.Protocol.Channels.Claims as safe
use Rattle.ssh_model.specs.Protocol.Channels.Connection.{on_channel, sent_on, received_on, channel_items}
use Rattle.ssh_model.specs.Protocol.Sessions.Honest.{IsHonest}
use Rattle.ssh_model.specs.Protocol.Sessions.Claims.{Windows, WindowsAt}
use Rattle.ssh_model.specs.Protocol.Sessions.Turns.{EndRun, EndRun.start, EndRun.then_turn, Run, Run.start, Run.then_turn, IsOpening}
use Rattle.ssh_model.proofs.Sessions.Whole.{Given, given, given_tail, kept, ends}
use Rattle.ssh_model.proofs.Sessions.EndRuns.{end_run}
use Rattle.ssh_model.proofs.Sessions.EndTurns.{end_keeps}
use Rattle.ssh_model.proofs.Sessions.Sound.{BothFormed, formed_tail}
use Rattle.ssh_model.proofs.Sessions.SoundTurns.{sounds}
use Rattle.ssh_model.proofs.Channels.View.{items_following}
use Rattle.ssh_model.proofs.Channels.Turns.{Seen, Seen.nothing, Seen.turn}
use Rattle.ssh_model.proofs.Channels.Asks.{turn_seen}
use Rattle.ssh_model.proofs.Channels.Order.{older_reading, taken_reads, sent_reads}
use Rattle.ssh_model.proofs.Channels.End as channel_end
use Rattle.ssh_model.proofs.Channels.Pair.{windows_kept}

-- the run of the channels
unfoldable pub channel_run : List Done → List row.Done
channel_run [] = []
channel_run (By side i ∷ run) = done_by side (channel_items (i ∷ [])) ++ channel_run run

pub part_seen : (s : Side) (run : List Done) → part s (channel_run run) ≡ channel_items (part s run)
unfolding channel_run
part_seen s [] = refl
part_seen Client (By Client i ∷ run) =
    channel_end.part_own Client (channel_items (i ∷ [])) (channel_run run) ∙ (ap (λ l. channel_items (i ∷ []) ++ l) (part_seen Client run) ∙ sym (items_following (i ∷ []) (part Client run)))
part_seen Client (By Server i ∷ run) = channel_end.part_other Server (channel_items (i ∷ [])) (channel_run run) ∙ part_seen Client run
part_seen Server (By Client i ∷ run) = channel_end.part_other Client (channel_items (i ∷ [])) (channel_run run) ∙ part_seen Server run
part_seen Server (By Server i ∷ run) =
    channel_end.part_own Server (channel_items (i ∷ [])) (channel_run run) ∙ (ap (λ l. channel_items (i ∷ []) ++ l) (part_seen Server run) ∙ sym (items_following (i ∷ []) (part Server run)))

done_following : (side : Side) (a b : List channel.Item) → done_by side (a ++ b) ≡ done_by side a ++ done_by side b
done_following side [] b = refl
done_following side (x ∷ a) b = ap (λ l. By side x ∷ l) (done_following side a b)

items_seen : (side : Side) (items : List Item) (run : List Done) → channel_run (done_by side items ++ run) ≡ done_by side (channel_items items) ++ channel_run run
unfolding channel_run
items_seen side [] run = refl
items_seen side (i ∷ items) run =
    ap (λ l. done_by side (channel_items (i ∷ [])) ++ l) (items_seen side items run)
    ∙ (sym (append_assoc (done_by side (channel_items (i ∷ []))) (done_by side (channel_items items)) (channel_run run))
    ∙ ap (λ l. l ++ channel_run run) (sym (done_following side (channel_items (i ∷ [])) (channel_items items)) ∙ ap (done_by side) (sym (items_following (i ∷ []) items))))

-- an item is one on channels, or none
single_sent : (c : Option ℕ) (o : Option Message) → (sent_on c o [] ≡ []) ⊎ ((x : channel.Item) × (sent_on c o [] ≡ x ∷ []))
single_sent c None = inl refl
single_sent c (Some m) = inr (_, refl)

single_taken : (c : Option ℕ) (o : Option Message) → (received_on c o [] ≡ []) ⊎ ((x : channel.Item) × (received_on c o [] ≡ x ∷ []))
single_taken c None = inl refl
single_taken c (Some m) = inr (_, refl)

pub single : (i : Item) → (channel_items (i ∷ []) ≡ []) ⊎ ((x : channel.Item) × (channel_items (i ∷ []) ≡ x ∷ []))
single (Sent c (KexInit o) b) = inr (_, refl)
single (Sent c NewKeys b) = inr (_, refl)
single (Sent c m b) = single_sent c (on_channel m)
single (Took c m b) = single_taken c (on_channel m)
single i = inl refl

module _ {K : Type 0} (p : Parties K) where
  pub order : (run : List Done) → Given p run → BothFormed p run → (s : Side) → IsOlder (row.received (channel_items (part s run))) (row.sent (channel_items (part (peer s) run)))
  order run g f Client = older_reading _ _ _ _ (kept p run g).to_client (taken_reads p (part Client run) (f Client)) (sent_reads p (part Server run) (f Server))
  order run g f Server = older_reading _ _ _ _ (kept p run g).to_server (taken_reads p (part Server run) (f Server)) (sent_reads p (part Client run) (f Client))

  order_seen : (run : List Done) → Given p run → BothFormed p run → (s : Side) → IsOlder (row.received (part s (channel_run run))) (row.sent (part (peer s) (channel_run run)))
  order_seen run g f s = rw (part_seen s run, part_seen (peer s) run) (order run g f s)

  pub ordered : (run : List Done) → Given p run → BothFormed p run → row.Ordered (channel_run run)
  unfolding channel_run
  ordered [] g f = tt
  ordered (By side i ∷ run) g f = go (channel_items (i ∷ [])) refl (single i) (ordered run (given_tail p side i run g) (formed_tail p side i run f))
    where
      here : (s : Side) → IsOlder (row.received (part s (done_by side (channel_items (i ∷ [])) ++ channel_run run))) (row.sent (part (peer s) (done_by side (channel_items (i ∷ [])) ++ channel_run run)))
      here = order_seen (By side i ∷ run) g f

      go : (l : List channel.Item) → channel_items (i ∷ []) ≡ l → ((l ≡ []) ⊎ ((x : channel.Item) × (l ≡ x ∷ []))) → row.Ordered (channel_run run) → row.Ordered (done_by side (channel_items (i ∷ [])) ++ channel_run run)
      go l e (inl n) rest = subst (λ w. row.Ordered (done_by side w ++ channel_run run)) (sym (e ∙ n)) rest
      go l e (inr n) rest =
          let one : channel_items (i ∷ []) ≡ n.0 ∷ [] = e ∙ n.1 in
          let P : List channel.Item → Type 0 = λ w. (s : Side) → IsOlder (row.received (part s (done_by side w ++ channel_run run))) (row.sent (part (peer s) (done_by side w ++ channel_run run))) in
          subst (λ w. row.Ordered (done_by side w ++ channel_run run)) (sym one) (subst P one here, rest)

-- ---- the turns

opening_seen : {K : Type 0} (p : Parties K) (side : Side) (items : List Item) → IsOpening p side items → channel_items items ≡ channel.Item.KexinitSent ∷ []
opening_seen p side items o = ap channel_items o.items_are

module _ {K : Type 0} (p : Parties K) (laws : AreLawful p) where
  then_seen : (side : Side) (h items : List Item) (run : List Done) → part side run ≡ h → Seen side h items → row.PairRun (channel_run run) → row.PairRun (channel_run (done_by side items ++ run))
  then_seen side h items run e (nothing n) r = subst row.PairRun (sym (items_seen side items run ∙ ap (λ l. done_by side l ++ channel_run run) n)) r
  then_seen side h items run e (turn t) r =
      let f : part side (channel_run run) ≡ channel_items h = part_seen side run ∙ ap channel_items e in
      subst row.PairRun (sym (items_seen side items run)) (row.PairRun.then_turn side r (subst (λ l. row.Turn side l (channel_items items)) (sym f) t))

  begun : row.PairRun (done_by Server (channel.Item.KexinitSent ∷ []) ++ (done_by Client (channel.Item.KexinitSent ∷ []) ++ []))
  begun = row.PairRun.then_turn Server (row.PairRun.then_turn Client row.PairRun.begins (row.Turn.rekeys refl)) (row.Turn.rekeys refl)

  start_seen : (client server : List Item) → IsOpening p Client client → IsOpening p Server server
      → channel_run (done_by Server server ++ done_by Client client) ≡ done_by Server (channel.Item.KexinitSent ∷ []) ++ (done_by Client (channel.Item.KexinitSent ∷ []) ++ [])
  unfolding channel_run
  start_seen client server a b =
      let one = items_seen Server server (done_by Client client) ∙ ap (λ l. done_by Server l ++ channel_run (done_by Client client)) (opening_seen p Server server b) in
      let two : channel_run (done_by Client client) ≡ done_by Client (channel.Item.KexinitSent ∷ []) ++ [] =
      ap channel_run (sym (append-nil (done_by Client client))) ∙ (items_seen Client client [] ∙ ap (λ l. done_by Client l ++ []) (opening_seen p Client client a)) in
      one ∙ ap (λ l. done_by Server (channel.Item.KexinitSent ∷ []) ++ l) two

  pub seen : (run : List Done) → Run p run → row.PairRun (channel_run run)
  seen run (start client server a b) = subst row.PairRun (sym (start_seen client server a b)) begun
  seen run (then_turn {run = r} {items = items} side before t) = then_seen side (part side r) items r refl (turn_seen p side (part side r) items t (ends p laws r before side)) (seen r before)

  pub all_ordered : BothOffer p → (run : List Done) → Run p run → IsHonest p run → row.Ordered (channel_run run)
  all_ordered offer run r h = ordered p run (given p laws offer run r h) (λ side. (sounds p laws run r side).formed)

  -- ---- the claims

  end_then : (side : Side) (h items : List Item) → Seen side h items → row.EndTurns side (channel_items h) → row.EndTurns side (channel_items (items ++ h))
  end_then side h items (nothing n) r = subst (λ l. row.EndTurns side l) (sym (items_following items h ∙ ap (λ l. l ++ channel_items h) n)) r
  end_then side h items (turn t) r = subst (λ l. row.EndTurns side l) (sym (items_following items h)) (row.EndTurns.then_turn r t)

  -- the turns of one end, as its channels see them
  pub end_turns : (side : Side) (h : List Item) → EndRun p side h → row.EndTurns side (channel_items h)
  end_turns side h (EndRun.start o) =
      subst (λ l. row.EndTurns side l) (sym (opening_seen p side h o)) (row.EndTurns.then_turn {items = channel.Item.KexinitSent ∷ []} row.EndTurns.begins (row.Turn.rekeys refl))
  end_turns side h (EndRun.then_turn {h = b} {items = items} before t) =
      end_then side b items (turn_seen p side b items t (end_keeps p laws side b before)) (end_turns side b before)

  pub end_windows : (side : Side) (h : List Item) → EndRun p side h → WindowsAt side h
  end_windows side h r = channel_end.windows_here side _ (channel_end.end_run side _ (end_turns side h r))

  pub windows_at : (run : List Done) → Run p run → (side : Side) → WindowsAt side (part side run)
  windows_at run r side = end_windows side _ (end_run p run r side)

  pub windows_hold : BothOffer p → (run : List Done) → Run p run → IsHonest p run → Windows run
  windows_hold offer run r h side =
      let w = windows_kept (channel_run run) (seen run r) (all_ordered offer run r h) side in
      let P : List channel.Item → List channel.Item → Type 0 = λ a b. safe.Within (channel.noted side a) (channel.noted (peer side) b) in
      subst (λ a. P a (channel_items (part (peer side) run))) (part_seen side run) (subst (λ b. P (part side (channel_run run)) b) (part_seen (peer side) run) w)
