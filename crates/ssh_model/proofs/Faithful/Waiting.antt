-- No end replies to more requests on a channel than it took, and the other end waits for each reply that comes.
use Rattle.std.proofs.Common.{◌≡◌, ℕ, suc, ◌+◌, ◌-◌, ◌<◌, ◌≤◌, List, [], ◌∷◌, inl, inr, refl, ap, arith, Bool, true, false, cond, Option, Some, None}
use Rattle.ssh_model.specs.declared.side.Side.{Side}
use Rattle.ssh_model.specs.Protocol.Wire.Message.{Msg.KexInit, Msg.NewKeys, Msg.ChannelSuccess, Msg.ChannelFailure}
use Rattle.ssh_model.specs.Protocol.Sessions.Items.{Item, Item.Sent, Item.Took}
use Rattle.ssh_model.specs.Protocol.Channels.Message.{Message, Message.Open, Message.OpenFailure, Message.Close, Message.Request, Message.Reply, Channel, same, closed, stage}
use Rattle.ssh_model.specs.Protocol.Channels.Notes.{Note, Note.Said, Note.Took, Note.Refused, said, took, channel_at, next_own, next_theirs, waits_here, waits_there}
use Rattle.ssh_model.specs.Protocol.Channels.Numbers.{has_closed, peer_number}
use Rattle.ssh_model.specs.Protocol.Channels.History as channel
use Rattle.ssh_model.specs.Protocol.Channels.History.{noted, note_sent, note_received}
use Rattle.ssh_model.specs.Protocol.Channels.Connection.{channel_items, notes, on_channel, received_on, sent_on}
use Rattle.ssh_model.specs.Protocol.Lists.{IsOlder}
use Rattle.ssh_model.proofs.Channels.Lines.{same_true}
use Rattle.ssh_model.proofs.Faithful.Sendable.{AllSends}

-- how many replies are among these messages, and how many requests that want one
abbrev pub replied : List Message → ℕ
replied [] = 0
replied (Reply to success ∷ l) = suc (replied l)
replied (_ ∷ l) = replied l

abbrev pub wanted : List Message → ℕ
wanted [] = 0
wanted (Request to true ∷ l) = suc (wanted l)
wanted (_ ∷ l) = wanted l

pub replied_more : (o l : List Message) → IsOlder o l → replied o ≤ replied l
replied_more o [] e = omega (arith, ap replied e)
replied_more o (m ∷ l) (inl e) = omega (arith, ap replied e)
replied_more o (Reply t s ∷ l) (inr r) = omega (arith, replied_more o l r)
replied_more o (m ∷ l) (inr r) = replied_more o l r

pub wanted_more : (o l : List Message) → IsOlder o l → wanted o ≤ wanted l
wanted_more o [] e = omega (arith, ap wanted e)
wanted_more o (m ∷ l) (inl e) = omega (arith, ap wanted e)
wanted_more o (Request t true ∷ l) (inr r) = omega (arith, wanted_more o l r)
wanted_more o (m ∷ l) (inr r) = wanted_more o l r

no_reply : (t : Bool) (m : Message) (l : List Message) → replied (m ∷ l) ≡ replied l → replied (cond t (m ∷ l) l) ≡ replied l
no_reply true m l e = e
no_reply false m l e = refl

no_request : (t : Bool) (m : Message) (l : List Message) → wanted (m ∷ l) ≡ wanted l → wanted (cond t (m ∷ l) l) ≡ wanted l
no_request true m l e = e
no_request false m l e = refl

-- ---- an end waits for the replies to all its requests

more_wanted : (t : Bool) (to w r : ℕ) (l : List Message) → wanted l ≤ w + r → wanted (cond t (Request to true ∷ l) l) ≤ cond t (suc w) w + r
more_wanted true to w r l k = omega (arith, k)
more_wanted false to w r l k = k

one_replied : (t : Bool) (to : ℕ) (s : Bool) (w n : ℕ) (l : List Message) → n ≤ w + replied l → n ≤ cond t (w - 1) w + replied (cond t (Reply to s ∷ l) l)
one_replied true to s w n l k = omega (arith, k)
one_replied false to s w n l k = k

pub still_wait : (i : Channel) (n : List Note) → wanted (said i n) ≤ waits_there i n + replied (took i n)
still_wait i [] = omega arith
still_wait i (Said x j (Request to true) ∷ n) = more_wanted (same i j) to (waits_there i n) (replied (took i n)) (said i n) (still_wait i n)
still_wait i (Said x j m ∷ n) = omega (arith, still_wait i n, no_request (same i j) m (said i n) refl)
still_wait i (Took x j (Reply to s) ∷ n) = one_replied (same i j) to s (waits_there i n) (wanted (said i n)) (took i n) (still_wait i n)
still_wait i (Took x j m ∷ n) = omega (arith, still_wait i n, no_reply (same i j) m (took i n) refl)
still_wait i (Refused j f w k ∷ n) =
    omega (arith, still_wait i n, no_request (same i j) (OpenFailure f) (said i n) refl, no_reply (same i j) (Open f w k) (took i n) refl)

-- ---- and replies to no more than it took

abbrev pub Timely : List Note → Type 0
Timely n = (i : Channel) → waits_here i n + replied (said i n) ≤ wanted (took i n)

if_timely : (t : Bool) (a b : List Note) → Timely a → Timely b → Timely (cond t a b)
if_timely true a b v w = v
if_timely false a b v w = w

reply_said : (x : ℕ) (j : Channel) (to : ℕ) (s : Bool) (n : List Note) → 0 < waits_here j n → Timely n → Timely (Said x j (Reply to s) ∷ n)
reply_said x j to s n k v i = go (same i j) refl
  where
    go : (t : Bool) → same i j ≡ t → cond t (waits_here i n - 1) (waits_here i n) + replied (cond t (Reply to s ∷ said i n) (said i n)) ≤ wanted (took i n)
    go true e = omega (arith, v i, k, ap (λ c. waits_here c n) (same_true i j e))
    go false e = v i

request_took : (t c : Bool) (to w r : ℕ) (l : List Message) → w + r ≤ wanted l → cond t (cond c w (suc w)) w + r ≤ wanted (cond t (Request to true ∷ l) l)
request_took true true to w r l k = omega (arith, k)
request_took true false to w r l k = omega (arith, k)
request_took false c to w r l k = k

-- a message that was sent at this number is no reply, or a request waits for it
abbrev OnTime : Message → Option ℕ → List Note → Type 0
OnTime (Reply to s) None n = Unit {0}
OnTime (Reply to s) (Some x) n = 0 < waits_here (channel_at x n) n
OnTime m c n = Unit {0}

timely_sent : (side : Side) (c : Option ℕ) (m : Message) (n : List Note) → OnTime m c n → Timely n → Timely (note_sent side c m n)
timely_sent side None m n q v = v
timely_sent side (Some x) (Close to) n q v =
    if_timely (has_closed x n) n (Said x (channel_at x n) (Close to) ∷ n) v (λ i. omega (arith, v i, no_reply (same i (channel_at x n)) (Close to) (said i n) refl))
timely_sent side (Some x) (Reply to s) n q v = reply_said x (channel_at x n) to s n q v
timely_sent side (Some x) (Open f w k) n q v = λ i. omega (arith, v i, no_reply (same i (next_own side n)) (Open f w k) (said i n) refl)
timely_sent side (Some x) m n q v = λ i. omega (arith, v i, no_reply (same i (channel_at x n)) m (said i n) refl)

timely_took : (side : Side) (c : Option ℕ) (m : Message) (n : List Note) → Timely n → Timely (note_received side c m n)
timely_took side None (Open f w k) n v =
    λ i. omega (arith, v i, no_reply (same i (next_theirs side n)) (OpenFailure f) (said i n) refl, no_request (same i (next_theirs side n)) (Open f w k) (took i n) refl)
timely_took side None m n v = v
timely_took side (Some x) (Open f w k) n v = λ i. omega (arith, v i, no_request (same i (next_theirs side n)) (Open f w k) (took i n) refl)
timely_took side (Some x) (Close to) n v =
    let taken : Timely (Took x (channel_at x n) (Close to) ∷ n) = λ i. omega (arith, v i, no_request (same i (channel_at x n)) (Close to) (took i n) refl) in
    if_timely (has_closed x n) _ _ taken (λ i. omega (arith, taken i, no_reply (same i (channel_at x n)) (Close (peer_number x n)) (said i n) refl))
timely_took side (Some x) (Request to true) n v =
    λ i. request_took (same i (channel_at x n)) (closed (stage (said i n))) to (waits_here i n) (replied (said i n)) (took i n) (v i)
timely_took side (Some x) m n v = λ i. omega (arith, v i, no_request (same i (channel_at x n)) m (took i n) refl)

abbrev OnTimeIf : Option Message → Option ℕ → List Note → Type 0
OnTimeIf None c n = Unit {0}
OnTimeIf (Some m) c n = OnTime m c n

timely_sent_on : (side : Side) (c : Option ℕ) (o : Option Message) (l : List channel.Item) → OnTimeIf o c (noted side l) → Timely (noted side l) → Timely (noted side (sent_on c o l))
timely_sent_on side c None l q v = v
timely_sent_on side c (Some m) l q v = timely_sent side c m (noted side l) q v

timely_took_on : (side : Side) (c : Option ℕ) (o : Option Message) (l : List channel.Item) → Timely (noted side l) → Timely (noted side (received_on c o l))
timely_took_on side c None l v = v
timely_took_on side c (Some m) l v = timely_took side c m (noted side l) v

pub timely : (side : Side) (h : List Item) → AllSends side h → Timely (notes side h)
timely side [] s = λ i. omega arith
timely side (Sent c (KexInit o) b ∷ h) s = timely side h s.1
timely side (Sent c NewKeys b ∷ h) s = timely side h s.1
timely side (Sent (Some x) (ChannelSuccess t) b ∷ h) s = timely_sent_on side (Some x) (on_channel (ChannelSuccess t)) (channel_items h) s.0.1 (timely side h s.1)
timely side (Sent (Some x) (ChannelFailure t) b ∷ h) s = timely_sent_on side (Some x) (on_channel (ChannelFailure t)) (channel_items h) s.0.1 (timely side h s.1)
timely side (Sent None (ChannelSuccess t) b ∷ h) s = timely side h s.1
timely side (Sent None (ChannelFailure t) b ∷ h) s = timely side h s.1
timely side (Sent c m b ∷ h) s = timely_sent_on side c (on_channel m) (channel_items h) tt (timely side h s.1)
timely side (Took c m b ∷ h) s = timely_took_on side c (on_channel m) (channel_items h) (timely side h s)
timely side (i ∷ h) s = timely side h s
