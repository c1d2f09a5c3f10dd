-- Over a faithful network the messages that an end took are an older part of those that the other end sent, at every moment.
use Rattle.std.proofs.Common.{◌≡◌, ℕ, List, [], ◌∷◌, ◌++◌, ◌⊎◌, inl, inr, refl, ap, sym, ◌∙◌, subst, Option, Some, None}
use Rattle.ssh_model.specs.declared.side.Side.{Side}
use Rattle.ssh_model.specs.declared.side.Side.TheVariants.{Client, Server}
use Rattle.ssh_model.specs.Protocol.Side.{peer, DoneBy.By, done_by, part}
use Rattle.ssh_model.specs.Protocol.Lists.{IsOlder}
use Rattle.ssh_model.specs.Protocol.Wire.Message.{Msg, Msg.NewKeys, Msg.KexInit}
use Rattle.ssh_model.specs.declared.refusal.Refusal.{Refusal}
use Rattle.ssh_model.specs.Protocol.Sessions.Items.{Item, Item.Sent, Item.Took, Item.TookGuess, Item.Refused, Done, Encoded, Encoded.EncodedBy, messages_sent, messages_taken}
use Rattle.ssh_model.specs.Protocol.Channels.Message.{Message}
use Rattle.ssh_model.specs.Protocol.Channels.History as channel
use Rattle.ssh_model.specs.ChannelLayer.Rows as row
use Rattle.ssh_model.specs.Protocol.Channels.Connection.{channel_items, on_channel}
use Rattle.ssh_model.specs.Protocol.Sessions.Faithful.{IsFaithful, KillsNobody, LiesInEnds}
use Rattle.ssh_model.proofs.Sessions.Older.{older_self}
use Rattle.ssh_model.proofs.Channels.Order.{add, received_add, received_sent_on, sent_add, sent_received_on}
use Rattle.ssh_model.proofs.Channels.Run.{channel_run, part_seen, single}
use Rattle.ssh_model.proofs.Faithful.Next.{NoGuess}
use Rattle.ssh_model.proofs.Faithful.Plain.{ArePlain, IsPlain}

abbrev pub Follow : List Done → Type 0
Follow [] = Unit {0}
Follow (done ∷ run) = ((side : Side) → IsOlder (messages_taken (part side (done ∷ run))) (messages_sent (part (peer side) (done ∷ run)))) × Follow run

pub follows : (run : List Done) → Follow run → (side : Side) → IsOlder (messages_taken (part side run)) (messages_sent (part (peer side) run))
follows [] f Client = refl
follows [] f Server = refl
follows (done ∷ run) f side = f.0 side

-- ---- on channels

abbrev on_channels : List Encoded → List Message
on_channels [] = []
on_channels (EncodedBy m b ∷ l) = add (on_channel m) (on_channels l)

received_is : (h : List Item) → row.received (channel_items h) ≡ on_channels (messages_taken h)
received_is [] = refl
received_is (Took c m b ∷ h) = received_add c (on_channel m) (channel_items h) ∙ ap (add (on_channel m)) (received_is h)
received_is (Sent c (KexInit o) b ∷ h) = received_is h
received_is (Sent c NewKeys b ∷ h) = received_is h
received_is (Sent c m b ∷ h) = received_sent_on c (on_channel m) (channel_items h) ∙ received_is h
received_is (i ∷ h) = received_is h

sent_is : (h : List Item) → row.sent (channel_items h) ≡ on_channels (messages_sent h)
sent_is [] = refl
sent_is (Sent c (KexInit o) b ∷ h) = sent_is h
sent_is (Sent c NewKeys b ∷ h) = sent_is h
sent_is (Sent c m b ∷ h) = sent_add c (on_channel m) (channel_items h) ∙ ap (add (on_channel m)) (sent_is h)
sent_is (Took c m b ∷ h) = sent_received_on c (on_channel m) (channel_items h) ∙ sent_is h
sent_is (i ∷ h) = sent_is h

add_older : (a l : List Message) (o : Option Message) → IsOlder a l → IsOlder a (add o l)
add_older a l None r = r
add_older a l (Some m) r = inr r

channels_older : (a l : List Encoded) → IsOlder a l → IsOlder (on_channels a) (on_channels l)
channels_older a [] e = ap on_channels e
channels_older a (x ∷ l) (inl e) = let P : List Encoded → Type 0 = λ w. IsOlder (on_channels a) (on_channels w) in subst P e (older_self (on_channels a))
channels_older a (EncodedBy m b ∷ l) (inr r) = add_older (on_channels a) (on_channels l) (on_channel m) (channels_older a l r)

order : (h g : List Item) → IsOlder (messages_taken h) (messages_sent g) → IsOlder (row.received (channel_items h)) (row.sent (channel_items g))
order h g o =
    let P : List Message → List Message → Type 0 = λ a b. IsOlder a b in
    subst (λ a. P a (row.sent (channel_items g))) (sym (received_is h)) (subst (λ b. P (on_channels (messages_taken h)) b) (sym (sent_is g)) (channels_older _ _ o))

pub next_on_channel : (h g : List Item) (m : Msg) (b : List ℕ) (x : Message) → on_channel m ≡ Some x → IsOlder (EncodedBy m b ∷ messages_taken h) (messages_sent g) → IsOlder (x ∷ row.received (channel_items h)) (row.sent (channel_items g))
next_on_channel h g m b x e o =
    let P : List Message → List Message → Type 0 = λ a b. IsOlder a b in
    let first : add (on_channel m) (on_channels (messages_taken h)) ≡ x ∷ row.received (channel_items h) = ap (λ w. add w (on_channels (messages_taken h))) e ∙ ap (λ l. x ∷ l) (sym (received_is h)) in
    subst (λ a. P a (row.sent (channel_items g))) first (subst (λ b. P (add (on_channel m) (on_channels (messages_taken h))) b) (sym (sent_is g)) (channels_older _ _ o))

pub ordered : (run : List Done) → Follow run → row.Ordered (channel_run run)
unfolding channel_run
ordered [] f = tt
ordered (By side i ∷ run) f = go (channel_items (i ∷ [])) refl (single i) (ordered run f.1)
  where
    here : (s : Side) → IsOlder (row.received (part s (done_by side (channel_items (i ∷ [])) ++ channel_run run))) (row.sent (part (peer s) (done_by side (channel_items (i ∷ [])) ++ channel_run run)))
    here s = rw (part_seen s (By side i ∷ run), part_seen (peer s) (By side i ∷ run)) (order (part s (By side i ∷ run)) (part (peer s) (By side i ∷ run)) (f.0 s))

    go : (l : List channel.Item) → channel_items (i ∷ []) ≡ l → ((l ≡ []) ⊎ ((x : channel.Item) × (l ≡ x ∷ []))) → row.Ordered (channel_run run) → row.Ordered (done_by side (channel_items (i ∷ [])) ++ channel_run run)
    go l e (inl n) rest = subst (λ w. row.Ordered (done_by side w ++ channel_run run)) (sym (e ∙ n)) rest
    go l e (inr n) rest =
        let one : channel_items (i ∷ []) ≡ n.0 ∷ [] = e ∙ n.1 in
        let P : List channel.Item → Type 0 = λ w. (s : Side) → IsOlder (row.received (part s (done_by side w ++ channel_run run))) (row.sent (part (peer s) (done_by side w ++ channel_run run))) in
        subst (λ w. row.Ordered (done_by side w ++ channel_run run)) (sym one) (subst P one here, rest)

-- ---- items that go on

-- neither taken, nor refused after it was opened
abbrev pub IsSilent : Item → Type 0
IsSilent (Took c m b) = ⊥
IsSilent (TookGuess b) = ⊥
IsSilent (Refused why (Some b)) = ⊥
IsSilent _ = Unit {0}

abbrev pub AreSilent : List Item → Type 0
AreSilent [] = Unit {0}
AreSilent (i ∷ l) = IsSilent i × AreSilent l

plain_item : (i : Item) → IsPlain i → IsSilent i
plain_item (Took c m b) q = elim q [ ]
plain_item (TookGuess b) q = elim q [ ]
plain_item (Refused why b) q = elim q [ ]
plain_item i q = tt

pub plain_silent : (items : List Item) → ArePlain items → AreSilent items
plain_silent [] q = tt
plain_silent (i ∷ l) q = (plain_item i q.0, plain_silent l q.1)

taken_same : (i : Item) (h : List Item) → IsSilent i → messages_taken (i ∷ h) ≡ messages_taken h
taken_same (Took c m b) h q = elim q [ ]
taken_same i h q = refl

sent_grows : (i : Item) (h : List Item) (o : List Encoded) → IsOlder o (messages_sent h) → IsOlder o (messages_sent (i ∷ h))
sent_grows (Sent c m b) h o r = inr r
sent_grows i h o r = r

silent_follow : (t s : Side) (i : Item) (run : List Done) → IsSilent i → IsOlder (messages_taken (part s run)) (messages_sent (part (peer s) run)) → IsOlder (messages_taken (part s (By t i ∷ run))) (messages_sent (part (peer s) (By t i ∷ run)))
silent_follow Client Client i run q o = let P : List Encoded → Type 0 = λ l. IsOlder l (messages_sent (part Server run)) in subst P (sym (taken_same i (part Client run) q)) o
silent_follow Client Server i run q o = sent_grows i (part Client run) _ o
silent_follow Server Server i run q o = let P : List Encoded → Type 0 = λ l. IsOlder l (messages_sent (part Client run)) in subst P (sym (taken_same i (part Server run) q)) o
silent_follow Server Client i run q o = sent_grows i (part Server run) _ o

taken_follow : (t s : Side) (c : Option ℕ) (m : Msg) (b : List ℕ) (run : List Done) → IsOlder (EncodedBy m b ∷ messages_taken (part t run)) (messages_sent (part (peer t) run)) → IsOlder (messages_taken (part s run)) (messages_sent (part (peer s) run))
    → IsOlder (messages_taken (part s (By t (Took c m b) ∷ run))) (messages_sent (part (peer s) (By t (Took c m b) ∷ run)))
taken_follow Client Client c m b run n o = n
taken_follow Client Server c m b run n o = o
taken_follow Server Server c m b run n o = n
taken_follow Server Client c m b run n o = o

refused_follow : (t s : Side) (why : Refusal) (b : List ℕ) (run : List Done) → IsOlder (messages_taken (part s run)) (messages_sent (part (peer s) run)) → IsOlder (messages_taken (part s (By t (Refused why (Some b)) ∷ run))) (messages_sent (part (peer s) (By t (Refused why (Some b)) ∷ run)))
refused_follow Client Client why b run o = o
refused_follow Client Server why b run o = o
refused_follow Server Server why b run o = o
refused_follow Server Client why b run o = o

no_guess_more : (t s : Side) (i : Item) (run : List Done) → ((b : List ℕ) → i ≡ TookGuess b → ⊥) → NoGuess (part s run) → NoGuess (part s (By t i ∷ run))
no_guess_more Client Client (TookGuess b) run f n = absurd (f b refl)
no_guess_more Client Client i run f n = n
no_guess_more Client Server i run f n = n
no_guess_more Server Server (TookGuess b) run f n = absurd (f b refl)
no_guess_more Server Server i run f n = n
no_guess_more Server Client i run f n = n

-- what holds of a run over a faithful network
pub record Reached (run : List Done) : Type 0 where
  pub follow : Follow run
  pub no_guess : (side : Side) → NoGuess (part side run)
  pub kills : KillsNobody run

pub add_silent : (side : Side) (i : Item) (run : List Done) → IsSilent i → Reached run → Reached (By side i ∷ run)
add_silent side i run q v = record { follow = (λ s. silent_follow side s i run q (follows run v.follow s), v.follow); no_guess = λ s. no_guess_more side s i run (none i q) (v.no_guess s); kills = kept i q }
  where
    none : (i : Item) → IsSilent i → (b : List ℕ) → i ≡ TookGuess b → ⊥
    none (TookGuess b) q c e = q
    none i q c e = cc e

    kept : (i : Item) → IsSilent i → KillsNobody (By side i ∷ run)
    kept (Refused why (Some b)) q = elim q [ ]
    kept (Refused why None) q = v.kills
    kept i q = v.kills

pub add_taken : (side : Side) (c : Option ℕ) (m : Msg) (b : List ℕ) (run : List Done) → IsOlder (EncodedBy m b ∷ messages_taken (part side run)) (messages_sent (part (peer side) run)) → Reached run → Reached (By side (Took c m b) ∷ run)
add_taken side c m b run o v = record {
  follow = (λ s. taken_follow side s c m b run o (follows run v.follow s), v.follow);
  no_guess = λ s. no_guess_more side s (Took c m b) run (λ x e. cc e) (v.no_guess s);
  kills = v.kills;
}

pub add_refused : (side : Side) (why : Refusal) (b : List ℕ) (run : List Done) → LiesInEnds why → Reached run → Reached (By side (Refused why (Some b)) ∷ run)
add_refused side why b run l v = record {
  follow = (λ s. refused_follow side s why b run (follows run v.follow s), v.follow);
  no_guess = λ s. no_guess_more side s (Refused why (Some b)) run (λ x e. cc e) (v.no_guess s);
  kills = (l, v.kills);
}

pub all_silent : (side : Side) (items : List Item) (run : List Done) → AreSilent items → Reached run → Reached (done_by side items ++ run)
all_silent side [] run q v = v
all_silent side (i ∷ items) run q v = add_silent side i (done_by side items ++ run) q.0 (all_silent side items run q.1 v)

pub silent_after : (side : Side) (items last : List Item) (run : List Done) → AreSilent items → Reached (done_by side last ++ run) → Reached (done_by side (items ++ last) ++ run)
silent_after side [] last run q v = v
silent_after side (i ∷ items) last run q v = add_silent side i (done_by side (items ++ last) ++ run) q.0 (silent_after side items last run q.1 v)

pub silent_following : (a b : List Item) → AreSilent a → AreSilent b → AreSilent (a ++ b)
silent_following [] b q r = r
silent_following (i ∷ a) b q r = (q.0, silent_following a b q.1 r)

pub faithful_tail : (side : Side) (i : Item) (run : List Done) → IsFaithful (By side i ∷ run) → IsFaithful run
faithful_tail side (Took c m b) run f = f.1
faithful_tail side (TookGuess b) run f = f.1
faithful_tail side (Refused why (Some b)) run f = f.1
faithful_tail side (Refused why None) run f = f
faithful_tail side i run f = f

pub faithful_items : (side : Side) (items : List Item) (run : List Done) → IsFaithful (done_by side items ++ run) → IsFaithful run
faithful_items side [] run f = f
faithful_items side (i ∷ items) run f = faithful_items side items run (faithful_tail side i (done_by side items ++ run) f)

pub faithful_last : (side : Side) (items last : List Item) (run : List Done) → IsFaithful (done_by side (items ++ last) ++ run) → IsFaithful (done_by side last ++ run)
faithful_last side [] last run f = f
faithful_last side (i ∷ items) last run f = faithful_last side items last run (faithful_tail side i (done_by side (items ++ last) ++ run) f)
