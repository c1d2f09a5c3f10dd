-- A channel on which data were taken has a partner: the same OPEN, whole, at the same place.
use Rattle.std.proofs.Common.{◌≡◌, ℕ, zero, suc, ◌<◌, ◌≤◌, List, [], ◌∷◌, ◌++◌, ◌⊎◌, inl, inr, refl, ap, sym, ◌∙◌, arith, subst, reverse, append_assoc, cond, Bool, true, false, map, Option, Some, None}
use Rattle.std.proofs.lemmas.Bool.{leb-true}
use Rattle.ssh_model.specs.declared.side.Side.{Side}
use Rattle.ssh_model.specs.declared.side.Side.TheVariants.{Client, Server}
use Rattle.ssh_model.specs.Protocol.Side.{peer, part}
use Rattle.ssh_model.specs.Protocol.Lists.{IsOlder}
use Rattle.ssh_model.specs.Protocol.Wire.Message.{Msg.NewKeys, Msg.KexInit, Msg.ChannelOpen, Msg.ChannelClose, IsPayload}
use Rattle.ssh_model.specs.Protocol.Sessions.Parties.{Parties, AreLawful, BothOffer}
use Rattle.ssh_model.specs.Protocol.Sessions.Items.{Item, Item.Sent, Item.Took, Item.TookGuess, Payload, Payload.NewkeysOf, Payload.OtherOf, bytes_of, Done, sent, took}
use Rattle.ssh_model.specs.Protocol.Sessions.Epochs.{epoch, after_first, from_epoch}
use Rattle.ssh_model.specs.Protocol.Sessions.Honest.{IsHonest}
use Rattle.ssh_model.specs.Protocol.Sessions.Claims.{WholeOpen, OpensNext, SentOpen, TookOpen, HasPartner, after_newkeys}
use Rattle.ssh_model.specs.Protocol.Sessions.Turns.{Run}
use Rattle.ssh_model.specs.Protocol.Channels.Message.{Message, Message.Open, Message.Close, Channel, Channel.Opened, mine}
use Rattle.ssh_model.specs.Protocol.Channels.Notes.{Note, Note.Said, Note.Took, said_all, took_all, opens, channel_at}
use Rattle.ssh_model.specs.State.Channels.Rules.{OpenedAt}
use Rattle.ssh_model.specs.Protocol.Channels.Numbers.{has_closed, peer_number}
use Rattle.ssh_model.specs.Protocol.Channels.Notes.{next_own, next_theirs}
use Rattle.ssh_model.specs.Protocol.Channels.History as channel
use Rattle.ssh_model.specs.Protocol.Channels.History.{noted}
use Rattle.ssh_model.specs.ChannelLayer.Rows as row
use Rattle.ssh_model.specs.Protocol.Channels.Claims as claim
use Rattle.ssh_model.specs.Protocol.Channels.Connection.{on_channel, received_on, channel_items, notes}
use Rattle.ssh_model.proofs.Wire.OneMessage.{same_message}
use Rattle.ssh_model.proofs.Sessions.Older.{older_trans, older_self}
use Rattle.ssh_model.proofs.Sessions.Whole.{Given, given, kept}
use Rattle.ssh_model.proofs.Sessions.Places.{zero_after}
use Rattle.ssh_model.proofs.Sessions.Encoding.{encoded_is_read}
use Rattle.ssh_model.proofs.Sessions.Sound.{AllFormed}
use Rattle.ssh_model.proofs.Sessions.EndRuns.{end_run}
use Rattle.ssh_model.proofs.Sessions.SoundTurns.{sounds}
use Rattle.ssh_model.proofs.Channels.Order.{Reads, Reads.reads, older_reading, taken_reads, sent_reads}
use Rattle.ssh_model.proofs.Channels.Lines.{mine_peer, mine_twice}
use Rattle.ssh_model.proofs.Channels.Partner.{Numbered, numbered_both, which}
use Rattle.ssh_model.proofs.Channels.Run.{channel_run, part_seen, seen, all_ordered, end_turns}

-- ---- the OPEN of a channel that has a number

-- a CLOSE gives no number
close_said : (x y : ℕ) (t : ℕ) (i : Channel) (n : List Note) (b : Bool) → OpenedAt x i (cond b n (Said y (channel_at y n) (Close t) ∷ n)) → OpenedAt x i n
close_said x y t i n true o = o
close_said x y t i n false o = o

close_taken : (x y : ℕ) (t : ℕ) (i : Channel) (n : List Note) (b : Bool) → OpenedAt x i (cond b (Took y (channel_at y n) (Close t) ∷ n) (Said y (channel_at y n) (Close (peer_number y n)) ∷ Took y (channel_at y n) (Close t) ∷ n)) → OpenedAt x i n
close_taken x y t i n true o = o
close_taken x y t i n false o = o

-- neither does what is taken on no channel
none_taken : (side : Side) (x : ℕ) (i : Channel) (o : Option Message) (l : List channel.Item) → OpenedAt x i (noted side (received_on None o l)) → OpenedAt x i (noted side l)
none_taken side x i None l o = o
none_taken side x i (Some (Open f w k)) l o = o
none_taken side x i (Some m) l o = o

-- where the channel stands, the older history
data Opener (side : Side) (i : Channel) : List Item → Type 0 where
  sends : {h : List Item} (x : ℕ) (k : List ℕ) (s w m : ℕ) (r b : List ℕ) → i ≡ next_own side (notes side h) → Opener side i (Sent (Some x) (ChannelOpen k s w m r) b ∷ h)
  takes : {h : List Item} (x : ℕ) (k : List ℕ) (s w m : ℕ) (r b : List ℕ) → i ≡ next_theirs side (notes side h) → Opener side i (Took (Some x) (ChannelOpen k s w m r) b ∷ h)
  later : {h : List Item} (j : Item) → Opener side i h → Opener side i (j ∷ h)

opener : (side : Side) (h : List Item) (x : ℕ) (i : Channel) → OpenedAt x i (notes side h) → Opener side i h
opener side [] x i o = elim o [ ]
opener side (Sent c (KexInit p) b ∷ h) x i o = later _ (opener side h x i o)
opener side (Sent c NewKeys b ∷ h) x i o = later _ (opener side h x i o)
opener side (Sent (Some y) (ChannelOpen k s w m r) b ∷ h) x i (inl e) = sends y k s w m r b e.1
opener side (Sent (Some y) (ChannelOpen k s w m r) b ∷ h) x i (inr o) = later _ (opener side h x i o)
opener side (Sent (Some y) (ChannelClose t) b ∷ h) x i o = later _ (opener side h x i (close_said x y t i (notes side h) (has_closed y (notes side h)) o))
opener side (Sent (Some y) m b ∷ h) x i o = later _ (opener side h x i o)
opener side (Sent None m b ∷ h) x i o = later _ (opener side h x i o)
opener side (Took (Some y) (ChannelOpen k s w m r) b ∷ h) x i (inl e) = takes y k s w m r b e.1
opener side (Took (Some y) (ChannelOpen k s w m r) b ∷ h) x i (inr o) = later _ (opener side h x i o)
opener side (Took (Some y) (ChannelClose t) b ∷ h) x i o = later _ (opener side h x i (close_taken x y t i (notes side h) (has_closed y (notes side h)) o))
opener side (Took (Some y) m b ∷ h) x i o = later _ (opener side h x i o)
opener side (Took None m b ∷ h) x i o = later _ (opener side h x i (none_taken side x i (on_channel m) (channel_items h) o))
opener side (j ∷ h) x i o = later _ (opener side h x i o)

-- ---- how many were opened, by what was sent and taken

abbrev opens_in : List Message → ℕ
opens_in [] = 0
opens_in (Open f w k ∷ l) = suc (opens_in l)
opens_in (m ∷ l) = opens_in l

-- each OPEN that was sent has a number
abbrev AllNumbered : List channel.Item → Type 0
AllNumbered [] = Unit {0}
AllNumbered (channel.Item.Sent None (Open f w k) ∷ l) = ⊥
AllNumbered (j ∷ l) = AllNumbered l

opens_said : (s : Side) (l : List channel.Item) → AllNumbered l → opens (said_all (noted s l)) ≡ opens_in (row.sent l)
opens_said s [] a = refl
opens_said s (channel.Item.Sent None (Open f w k) ∷ l) a = elim a [ ]
opens_said s (channel.Item.Sent None m ∷ l) a = opens_said s l a
opens_said s (channel.Item.Sent (Some x) (Open f w k) ∷ l) a = ap suc (opens_said s l a)
opens_said s (channel.Item.Sent (Some x) (Close t) ∷ l) a = go (has_closed x (noted s l)) ∙ opens_said s l a
  where
    go : (b : Bool) → opens (said_all (cond b (noted s l) (Said x (channel_at x (noted s l)) (Close t) ∷ noted s l))) ≡ opens (said_all (noted s l))
    go true = refl
    go false = refl
opens_said s (channel.Item.Sent (Some x) m ∷ l) a = opens_said s l a
opens_said s (channel.Item.Received None (Open f w k) ∷ l) a = opens_said s l a
opens_said s (channel.Item.Received None m ∷ l) a = opens_said s l a
opens_said s (channel.Item.Received (Some x) (Open f w k) ∷ l) a = opens_said s l a
opens_said s (channel.Item.Received (Some x) (Close t) ∷ l) a = go (has_closed x (noted s l)) ∙ opens_said s l a
  where
    go : (b : Bool) → opens (said_all (cond b (Took x (channel_at x (noted s l)) (Close t) ∷ noted s l) (Said x (channel_at x (noted s l)) (Close (peer_number x (noted s l))) ∷ Took x (channel_at x (noted s l)) (Close t) ∷ noted s l))) ≡ opens (said_all (noted s l))
    go true = refl
    go false = refl
opens_said s (channel.Item.Received (Some x) m ∷ l) a = opens_said s l a
opens_said s (channel.Item.KexinitSent ∷ l) a = opens_said s l a
opens_said s (channel.Item.NewkeysSent ∷ l) a = opens_said s l a

opens_taken : (s : Side) (l : List channel.Item) → opens (took_all (noted s l)) ≡ opens_in (row.received l)
opens_taken s [] = refl
opens_taken s (channel.Item.Sent None m ∷ l) = opens_taken s l
opens_taken s (channel.Item.Sent (Some x) (Open f w k) ∷ l) = opens_taken s l
opens_taken s (channel.Item.Sent (Some x) (Close t) ∷ l) = go (has_closed x (noted s l)) ∙ opens_taken s l
  where
    go : (b : Bool) → opens (took_all (cond b (noted s l) (Said x (channel_at x (noted s l)) (Close t) ∷ noted s l))) ≡ opens (took_all (noted s l))
    go true = refl
    go false = refl
opens_taken s (channel.Item.Sent (Some x) m ∷ l) = opens_taken s l
opens_taken s (channel.Item.Received None (Open f w k) ∷ l) = ap suc (opens_taken s l)
opens_taken s (channel.Item.Received None m ∷ l) = opens_taken s l
opens_taken s (channel.Item.Received (Some x) (Open f w k) ∷ l) = ap suc (opens_taken s l)
opens_taken s (channel.Item.Received (Some x) (Close t) ∷ l) = go (has_closed x (noted s l)) ∙ opens_taken s l
  where
    go : (b : Bool) → opens (took_all (cond b (Took x (channel_at x (noted s l)) (Close t) ∷ noted s l) (Said x (channel_at x (noted s l)) (Close (peer_number x (noted s l))) ∷ Took x (channel_at x (noted s l)) (Close t) ∷ noted s l))) ≡ opens (took_all (noted s l))
    go true = refl
    go false = refl
opens_taken s (channel.Item.Received (Some x) m ∷ l) = opens_taken s l
opens_taken s (channel.Item.KexinitSent ∷ l) = opens_taken s l
opens_taken s (channel.Item.NewkeysSent ∷ l) = opens_taken s l

opens_older : (a l : List Message) → IsOlder a l → opens_in a ≤ opens_in l
opens_older a [] e = rw e (omega arith)
opens_older a (Open f w k ∷ l) (inl e) = rw e (omega arith)
opens_older a (Open f w k ∷ l) (inr o) = omega (arith, opens_older a l o)
opens_older a (m ∷ l) (inl e) = rw e (omega arith)
opens_older a (m ∷ l) (inr o) = opens_older a l o

-- ---- each OPEN that an end sends has a number

fine_due : (c : Option ℕ) (m : Message) (n : List Note) (l : List channel.Item) → AllNumbered l → AllNumbered (channel.due c m n ++ l)
fine_due None (Open f w k) n l a = a
fine_due (Some x) (Close t) n l a = go (has_closed x n)
  where
    go : (b : Bool) → AllNumbered (cond b [] (channel.Item.Sent (Some x) (Close (peer_number x n)) ∷ []) ++ l)
    go true = a
    go false = a
fine_due c m n l a = a

fine_once : (b : Bool) (c : Option ℕ) (m : Message) (n : List Note) (l : List channel.Item) → AllNumbered l → AllNumbered (channel.at_once b (channel.due c m n) ++ l)
fine_once true c m n l a = a
fine_once false c m n l a = fine_due c m n l a

fine_owed : (s : Side) (h l : List channel.Item) → AllNumbered l → AllNumbered (channel.owed s h ++ l)
fine_owed s [] l a = a
fine_owed s (channel.Item.NewkeysSent ∷ h) l a = a
fine_owed s (channel.Item.Received c m ∷ h) l a = go (channel.blocked h) (fine_owed s h l a)
  where
    go : (b : Bool) → AllNumbered (channel.owed s h ++ l) → AllNumbered (cond b (channel.due c m (noted s h) ++ channel.owed s h) (channel.owed s h) ++ l)
    go true f = subst AllNumbered (sym (append_assoc (channel.due c m (noted s h)) (channel.owed s h) l)) (fine_due c m (noted s h) (channel.owed s h ++ l) f)
    go false f = f
fine_owed s (j ∷ h) l a = fine_owed s h l a

fine_turn : (s : Side) (h items : List channel.Item) → row.Turn s h items → AllNumbered h → AllNumbered (items ++ h)
fine_turn s h items (row.Turn.opens x w k b f z) a = a
fine_turn s h items (row.Turn.asks x m b q) a = a
fine_turn s h items (row.Turn.takes_open x f w k z) a = a
fine_turn s h items (row.Turn.refuses_open f w k) a =
    subst AllNumbered (sym (append_assoc (channel.at_once (channel.blocked h) (channel.due None (Open f w k) (noted s h))) (channel.Item.Received None (Open f w k) ∷ []) h))
    (fine_once (channel.blocked h) None (Open f w k) (noted s h) (channel.Item.Received None (Open f w k) ∷ h) a)
fine_turn s h items (row.Turn.takes x m q) a =
    subst AllNumbered (sym (append_assoc (channel.at_once (channel.blocked h) (channel.due (Some x) m (noted s h))) (channel.Item.Received (Some x) m ∷ []) h))
    (fine_once (channel.blocked h) (Some x) m (noted s h) (channel.Item.Received (Some x) m ∷ h) a)
fine_turn s h items (row.Turn.rekeys b) a = a
fine_turn s h items (row.Turn.completes b) a =
    subst AllNumbered (sym (append_assoc (channel.owed s h) (channel.Item.NewkeysSent ∷ []) h)) (fine_owed s h (channel.Item.NewkeysSent ∷ h) a)

all_numbered : (s : Side) (h : List channel.Item) → row.EndTurns s h → AllNumbered h
all_numbered s h row.EndTurns.begins = tt
all_numbered s h (row.EndTurns.then_turn {history = b} {items = items} r t) = fine_turn s b items t (all_numbered s b r)

numbered_received : (c : Option ℕ) (o : Option Message) (l : List channel.Item) → AllNumbered (received_on c o l) → AllNumbered l
numbered_received c None l a = a
numbered_received c (Some m) l a = a

numbered_tail : (j : Item) (h : List Item) → AllNumbered (channel_items (j ∷ h)) → AllNumbered (channel_items h)
numbered_tail (Sent c (KexInit p) b) h a = a
numbered_tail (Sent c NewKeys b) h a = a
numbered_tail (Sent None (ChannelOpen k s w m r) b) h a = elim a [ ]
numbered_tail (Sent None m b) h a = a
numbered_tail (Sent (Some x) m b) h a = a
numbered_tail (Took c m b) h a = numbered_received c (on_channel m) (channel_items h) a
numbered_tail j h a = a

-- ---- the place of an OPEN among the payloads after the first NEWKEYS

abbrev place : Channel → ℕ
place (Opened by n) = n

-- The OPEN is this payload, with the older ones.
record Stands (whole : WholeOpen) (i : Channel) (l : List Payload) : Type 0 where
  at : Payload
  older : List Payload
  messages : List Message
  from : ℕ
  window : ℕ
  most : ℕ
  inside : IsOlder (at ∷ older) l
  reads : Reads older messages
  encoded : IsPayload true whole.message (bytes_of at)
  is_open : on_channel whole.message ≡ Some (Open from window most)
  payload_is : whole.payload ≡ bytes_of at
  before_is : whole.before ≡ reverse (map bytes_of older)
  place_is : place i ≡ opens_in messages

stands_older : (whole : WholeOpen) (i : Channel) (a l : List Payload) → IsOlder a l → Stands whole i a → Stands whole i l
stands_older whole i a l o v = record {
  at = v.at;
  older = v.older;
  messages = v.messages;
  from = v.from;
  window = v.window;
  most = v.most;
  inside = older_trans _ a l v.inside o;
  reads = v.reads;
  encoded = v.encoded;
  is_open = v.is_open;
  payload_is = v.payload_is;
  before_is = v.before_is;
  place_is = v.place_is;
}

-- two parts of one list
older_either : {A : Type 0} (a b l : List A) → IsOlder a l → IsOlder b l → IsOlder a b ⊎ IsOlder b a
older_either {A} a b [] p q = inl (let P : List A → Type 0 = λ w. IsOlder a w in subst P (p ∙ sym q) (older_self a))
older_either {A} a b (x ∷ l) (inl e) q = let P : List A → Type 0 = λ w. IsOlder b w in inr (subst P (sym e) q)
older_either {A} a b (x ∷ l) (inr p) (inl e) = let P : List A → Type 0 = λ w. IsOlder a w in inl (subst P (sym e) (inr p))
older_either a b (x ∷ l) (inr p) (inr q) = older_either a b l p q

later_more : (one other : WholeOpen) (i j : Channel) (l : List Payload) (v : Stands one i l) (w : Stands other j l) → IsOlder (v.at ∷ v.older) w.older → place i < place j
later_more one other i j l v w o =
    let r : Reads (v.at ∷ v.older) (Open v.from v.window v.most ∷ v.messages) = reads v.at one.message (Open v.from v.window v.most) v.encoded v.is_open v.reads in
    let m = opens_older _ _ (older_reading _ w.older _ w.messages o r w.reads) in
    omega (arith, m, v.place_is, w.place_is)

same_stand : (one other : WholeOpen) (i j : Channel) (l : List Payload) → place i ≡ place j → (v : Stands one i l) (w : Stands other j l) → v.at ∷ v.older ≡ w.at ∷ w.older
same_stand one other i j l e v w = go (older_either (v.at ∷ v.older) (w.at ∷ w.older) l v.inside w.inside)
  where
    go : (IsOlder (v.at ∷ v.older) (w.at ∷ w.older) ⊎ IsOlder (w.at ∷ w.older) (v.at ∷ v.older)) → v.at ∷ v.older ≡ w.at ∷ w.older
    go (inl (inl q)) = q
    go (inl (inr q)) = absurd (omega (arith, e, later_more one other i j l v w q))
    go (inr (inl q)) = sym q
    go (inr (inr q)) = absurd (omega (arith, e, later_more other one j i l w v q))

same_record : (one other : WholeOpen) → one.message ≡ other.message → one.payload ≡ other.payload → one.before ≡ other.before → one ≡ other
same_record one other m p b =
    let f : WholeOpen = record { message = one.message; payload = one.payload; before = one.before } in
    let g : WholeOpen = record { message = other.message; payload = other.payload; before = other.before } in
    let e : f ≡ g = cc (m, p, b) in
    e

-- the one OPEN of a place
same_whole : (one other : WholeOpen) (i j : Channel) (l : List Payload) → place i ≡ place j → Stands one i l → Stands other j l → one ≡ other
same_whole one other i j l e v w =
    let s = same_stand one other i j l e v w in
    let at : v.at ≡ w.at = cc s in
    let older : v.older ≡ w.older = cc s in
    let bytes : bytes_of v.at ≡ bytes_of w.at = ap bytes_of at in
    let message : one.message ≡ other.message = same_message one.message other.message (bytes_of w.at) (subst (λ b. IsPayload true one.message b) bytes v.encoded) w.encoded in
    let payload : one.payload ≡ other.payload = v.payload_is ∙ (bytes ∙ sym w.payload_is) in
    let before : one.before ≡ other.before = v.before_is ∙ (ap (λ o. reverse (map bytes_of o)) older ∙ sym w.before_is) in
    same_record one other message payload before

older_first : (x : Payload) (l : List Payload) → IsOlder (after_first l) (after_first (x ∷ l))
older_first x l = go (epoch l) refl
  where
    go : (n : ℕ) → epoch l ≡ n → IsOlder (after_first l) (from_epoch n x (after_first l))
    go zero e = zero_after l e
    go (suc n) e = inr (older_self (after_first l))

peer_twice : (side : Side) → peer (peer side) ≡ side
peer_twice Client = refl
peer_twice Server = refl

-- what this end opened is not the peer's
peer_mine : (side : Side) (n : ℕ) → mine (peer side) (Opened side n) ≡ false
peer_mine Client n = refl
peer_mine Server n = refl

-- ---- the OPEN of an end

module _ {K : Type 0} (p : Parties K) where
  sent_stands : (side : Side) (h : List Item) (i : Channel) (whole : WholeOpen) → AllFormed p h → AllNumbered (channel_items h) → SentOpen side i whole h → Stands whole i (after_first (sent h))
  sent_stands side [] i whole f a o = elim o [ ]
  sent_stands side (Sent (Some x) (ChannelOpen k s w m r) b ∷ h) i whole f a (inl e) = go (epoch (sent h)) e.keyed
    where
      stand : IsOlder (OtherOf b ∷ after_first (sent h)) (OtherOf b ∷ after_first (sent h)) → Stands whole i (OtherOf b ∷ after_first (sent h))
      stand o = record {
        at = OtherOf b;
        older = after_first (sent h);
        messages = row.sent (channel_items h);
        from = s;
        window = w;
        most = m;
        inside = o;
        reads = sent_reads p h f.1;
        encoded = subst (λ c. IsPayload true c b) (sym e.message_is) (encoded_is_read (ChannelOpen k s w m r) b f.0.0);
        is_open = ap on_channel e.message_is;
        payload_is = e.payload_is;
        before_is = e.before_is;
        place_is = ap place e.channel_is ∙ opens_said side (channel_items h) a;
      }

      go : (n : ℕ) → 0 < n → Stands whole i (from_epoch n (OtherOf b) (after_first (sent h)))
      go zero z = absurd (omega (arith, z))
      go (suc n) z = stand (inl refl)
  sent_stands side (Sent (Some x) (ChannelOpen k s w m r) b ∷ h) i whole f a (inr o) = stands_older whole i _ _ (older_first (OtherOf b) (sent h)) (sent_stands side h i whole f.1 a o)
  sent_stands side (Sent c NewKeys b ∷ h) i whole f a o = stands_older whole i _ _ (older_first (NewkeysOf b) (sent h)) (sent_stands side h i whole f.1 a o)
  sent_stands side (Sent None m b ∷ h) i whole f a o = stands_older whole i _ _ (older_first (OtherOf b) (sent h)) (sent_stands side h i whole f.1 (numbered_tail (Sent None m b) h a) o)
  sent_stands side (Sent (Some x) m b ∷ h) i whole f a o = stands_older whole i _ _ (older_first (OtherOf b) (sent h)) (sent_stands side h i whole f.1 (numbered_tail (Sent (Some x) m b) h a) o)
  sent_stands side (Took c m b ∷ h) i whole f a o = sent_stands side h i whole f.1 (numbered_tail (Took c m b) h a) o
  sent_stands side (j ∷ h) i whole f a o = sent_stands side h i whole f.1 a o

  taken_stands : (side : Side) (h : List Item) (i : Channel) (whole : WholeOpen) → AllFormed p h → TookOpen side i whole h → Stands whole i (after_first (took h))
  taken_stands side [] i whole f o = elim o [ ]
  taken_stands side (Took (Some x) (ChannelOpen k s w m r) b ∷ h) i whole f (inl e) = go (epoch (took h)) e.keyed
    where
      stand : IsOlder (OtherOf b ∷ after_first (took h)) (OtherOf b ∷ after_first (took h)) → Stands whole i (OtherOf b ∷ after_first (took h))
      stand o = record {
        at = OtherOf b;
        older = after_first (took h);
        messages = row.received (channel_items h);
        from = s;
        window = w;
        most = m;
        inside = o;
        reads = taken_reads p h f.1;
        encoded = subst (λ c. IsPayload true c b) (sym e.message_is) f.0.0;
        is_open = ap on_channel e.message_is;
        payload_is = e.payload_is;
        before_is = e.before_is;
        place_is = ap place e.channel_is ∙ opens_taken side (channel_items h);
      }

      go : (n : ℕ) → 0 < n → Stands whole i (from_epoch n (OtherOf b) (after_first (took h)))
      go zero z = absurd (omega (arith, z))
      go (suc n) z = stand (inl refl)
  taken_stands side (Took (Some x) (ChannelOpen k s w m r) b ∷ h) i whole f (inr o) = stands_older whole i _ _ (older_first (OtherOf b) (took h)) (taken_stands side h i whole f.1 o)
  taken_stands side (Took c NewKeys b ∷ h) i whole f o = stands_older whole i _ _ (older_first (NewkeysOf b) (took h)) (taken_stands side h i whole f.1 o)
  taken_stands side (Took None m b ∷ h) i whole f o = stands_older whole i _ _ (older_first (OtherOf b) (took h)) (taken_stands side h i whole f.1 o)
  taken_stands side (Took (Some x) m b ∷ h) i whole f o = stands_older whole i _ _ (older_first (OtherOf b) (took h)) (taken_stands side h i whole f.1 o)
  taken_stands side (TookGuess b ∷ h) i whole f o = stands_older whole i _ _ (older_first (OtherOf b) (took h)) (taken_stands side h i whole f.1 o)
  taken_stands side (Sent c m b ∷ h) i whole f o = taken_stands side h i whole f.1 o
  taken_stands side (j ∷ h) i whole f o = taken_stands side h i whole f.1 o

  sent_grows : (side : Side) (j : Item) (h : List Item) (i : Channel) (whole : WholeOpen) → SentOpen side i whole h → SentOpen side i whole (j ∷ h)
  sent_grows side (Sent (Some x) (ChannelOpen k s w m r) b) h i whole o = inr o
  sent_grows side (Sent (Some x) m b) h i whole o = o
  sent_grows side (Sent None m b) h i whole o = o
  sent_grows side j h i whole o = o

  taken_grows : (side : Side) (j : Item) (h : List Item) (i : Channel) (whole : WholeOpen) → TookOpen side i whole h → TookOpen side i whole (j ∷ h)
  taken_grows side (Took (Some x) (ChannelOpen k s w m r) b) h i whole o = inr o
  taken_grows side (Took (Some x) m b) h i whole o = o
  taken_grows side (Took None m b) h i whole o = o
  taken_grows side j h i whole o = o

  -- an end that opened a channel sent its OPEN
  was_sent : (side : Side) (i : Channel) (h : List Item) → Opener side i h → AllFormed p h → mine side i ≡ true → (whole : WholeOpen) × SentOpen side i whole h
  was_sent side i h (sends {h = before} x k s w m r b e) f o =
      let whole : WholeOpen = record { message = ChannelOpen k s w m r; payload = b; before = after_newkeys (sent before) } in
      let opens : OpensNext i (next_own side (notes side before)) whole (ChannelOpen k s w m r) b (sent before) =
      record { channel_is = e; message_is = refl; payload_is = refl; before_is = refl; keyed = f.0.1 (leb-true 80 90 refl) } in
      (whole, inl opens)
  was_sent side i h (takes x k s w m r b e) f o = absurd (cc (ap (mine side) e, mine_peer side (opens (took_all (notes side _))), o))
  was_sent side i h (later {h = before} j v) f o = let w = was_sent side i before v f.1 o in (w.0, sent_grows side j before i w.0 w.1)

  was_taken : (side : Side) (i : Channel) (h : List Item) → Opener side i h → AllFormed p h → mine (peer side) i ≡ true → (whole : WholeOpen) × TookOpen side i whole h
  was_taken side i h (takes {h = before} x k s w m r b e) f o =
      let whole : WholeOpen = record { message = ChannelOpen k s w m r; payload = b; before = after_newkeys (took before) } in
      let opens : OpensNext i (next_theirs side (notes side before)) whole (ChannelOpen k s w m r) b (took before) =
      record { channel_is = e; message_is = refl; payload_is = refl; before_is = refl; keyed = f.0.1 (leb-true 50 90 refl) } in
      (whole, inl opens)
  was_taken side i h (sends x k s w m r b e) f o = absurd (cc (ap (mine (peer side)) e, peer_mine side (opens (said_all (notes side _))), o))
  was_taken side i h (later {h = before} j v) f o = let w = was_taken side i before v f.1 o in (w.0, taken_grows side j before i w.0 w.1)

-- ---- whole runs

module _ {K : Type 0} (p : Parties K) (laws : AreLawful p) where
  fine_items : (run : List Done) → Run p run → (side : Side) → AllNumbered (channel_items (part side run))
  fine_items run r side = all_numbered side _ (end_turns p laws side _ (end_run p run r side))

  -- what an end took after the first NEWKEYS is older than what the other sent
  came : (run : List Done) → Given p run → (side : Side) → IsOlder (after_first (took (part side run))) (after_first (sent (part (peer side) run)))
  came run g Client = (kept p run g).to_client
  came run g Server = (kept p run g).to_server

  -- the numbers at both ends
  at_both : BothOffer p → (run : List Done) → Run p run → IsHonest p run → (side : Side) (i : Channel) → (claim.data_received side i (channel_items (part side run)) ≡ [] → ⊥)
      → Numbered i (notes side (part side run)) (notes (peer side) (part (peer side) run))
  at_both offer run r h side i d =
      let n = numbered_both (channel_run run) (seen p laws run r) (all_ordered p laws offer run r h) side i (λ e. d (sym (ap (claim.data_received side i) (part_seen side run)) ∙ e)) in
      let P : List channel.Item → List channel.Item → Type 0 = λ a b. Numbered i (noted side a) (noted (peer side) b) in
      subst (λ a. P a (channel_items (part (peer side) run))) (part_seen side run) (subst (λ b. P (part side (channel_run run)) b) (part_seen (peer side) run) n)

  pub partners_hold : BothOffer p → (run : List Done) → Run p run → IsHonest p run → (side : Side) (i : Channel) → (claim.data_received side i (channel_items (part side run)) ≡ [] → ⊥) → HasPartner side i run
  partners_hold offer run r h side i d = go (which side i)
    where
      n : Numbered i (notes side (part side run)) (notes (peer side) (part (peer side) run))
      n = at_both offer run r h side i d

      g : Given p run
      g = given p laws offer run r h

      formed : (s : Side) → AllFormed p (part s run)
      formed s = (sounds p laws run r s).formed

      here : Opener side i (part side run)
      here = opener side (part side run) n.here i n.opened_here

      there : Opener (peer side) i (part (peer side) run)
      there = opener (peer side) (part (peer side) run) n.there i n.opened_there

      go : (mine side i ≡ true) ⊎ (mine (peer side) i ≡ true) → HasPartner side i run
      go (inl e) =
          let a = was_sent p side i _ here (formed side) e in
          let b = was_taken p (peer side) i _ there (formed (peer side)) (mine_twice side i ∙ e) in
          let o = subst (λ s. IsOlder (after_first (took (part (peer side) run))) (after_first (sent (part s run)))) (peer_twice side) (came run g (peer side)) in
          let v = sent_stands p side (part side run) i a.0 (formed side) (fine_items run r side) a.1 in
          let w = stands_older b.0 i _ _ o (taken_stands p (peer side) (part (peer side) run) i b.0 (formed (peer side)) b.1) in
          let same : b.0 ≡ a.0 = sym (same_whole a.0 b.0 i i _ refl v w) in
          HasPartner.own a.0 a.1 (subst (λ x. TookOpen (peer side) i x (part (peer side) run)) same b.1)
      go (inr e) =
          let a = was_sent p (peer side) i _ there (formed (peer side)) e in
          let b = was_taken p side i _ here (formed side) e in
          let v = sent_stands p (peer side) (part (peer side) run) i a.0 (formed (peer side)) (fine_items run r (peer side)) a.1 in
          let w = stands_older b.0 i _ _ (came run g side) (taken_stands p side (part side run) i b.0 (formed side) b.1) in
          let same : b.0 ≡ a.0 = sym (same_whole a.0 b.0 i i _ refl v w) in
          HasPartner.theirs a.0 (subst (λ x. TookOpen side i x (part side run)) same b.1) a.1
