-- The messages on channels that an end takes come in the order in which the other sent them.
use Rattle.std.proofs.Common.{◌≡◌, ℕ, zero, suc, ◌<◌, ◌≤◌, List, [], ◌∷◌, inl, inr, refl, ap, sym, ◌∙◌, arith, subst, true, Option, Some, None}
use Rattle.std.proofs.lemmas.Bool.{leb-true}
use Rattle.ssh_model.specs.Protocol.Lists.{IsOlder}
use Rattle.ssh_model.specs.Protocol.Wire.Message.{Msg, Msg.NewKeys, Msg.KexInit, Msg.UserauthSuccess, Msg.ChannelOpen, Msg.ChannelOpenConfirmation, Msg.ChannelOpenFailure, Msg.ChannelWindowAdjust, Msg.ChannelData, Msg.ChannelExtendedData, Msg.ChannelEof, Msg.ChannelClose, Msg.ChannelRequest, Msg.ChannelSuccess, Msg.ChannelFailure, IsPayload, message_number}
use Rattle.ssh_model.specs.Protocol.Sessions.Parties.{Parties}
use Rattle.ssh_model.specs.Protocol.Sessions.Items.{Payload, Payload.NewkeysOf, Payload.OtherOf, bytes_of, Item, Item.Sent, Item.Took, Item.TookGuess, sent, took}
use Rattle.ssh_model.specs.Protocol.Sessions.Epochs.{epoch, after_first, from_epoch}
use Rattle.ssh_model.specs.Protocol.Channels.Message.{Message}
use Rattle.ssh_model.specs.Protocol.Channels.History as channel
use Rattle.ssh_model.specs.ChannelLayer.Rows as row
use Rattle.ssh_model.specs.Protocol.Channels.Connection.{on_channel, sent_on, received_on, channel_items}
use Rattle.ssh_model.specs.Protocol.Sessions.Turns.{number_of}
use Rattle.ssh_model.proofs.Wire.OneMessage.{same_message}
use Rattle.ssh_model.proofs.Sessions.Encoding.{encoded_is_read}
use Rattle.ssh_model.proofs.Sessions.Older.{older_self}
use Rattle.ssh_model.proofs.Sessions.Places.{zero_after}
use Rattle.ssh_model.proofs.Sessions.Sound.{AllFormed}
use Rattle.ssh_model.proofs.Sessions.Encoding.{taken_number}

-- no message on a channel
abbrev pub IsOffChannel : List ℕ → Type 0
IsOffChannel b = (m : Msg) → IsPayload true m b → on_channel m ≡ None

-- the messages on channels among payloads
pub data Reads : List Payload → List Message → Type 0 where
  nothing : Reads [] []
  passes : {l : List Payload} {ms : List Message} (x : Payload) → IsOffChannel (bytes_of x) → Reads l ms → Reads (x ∷ l) ms
  reads : {l : List Payload} {ms : List Message} (x : Payload) (m : Msg) (c : Message) → IsPayload true m (bytes_of x) → on_channel m ≡ Some c → Reads l ms → Reads (x ∷ l) (c ∷ ms)

some_is : (a b : Message) → Some a ≡ Some b → a ≡ b
some_is a b e = cc

pub one_reading : (l : List Payload) (a b : List Message) → Reads l a → Reads l b → a ≡ b
one_reading l a b nothing nothing = refl
one_reading l a b (passes x f r) (passes y g s) = one_reading _ a b r s
one_reading l a b (passes x f r) (reads y m c p e s) = absurd (cc (f m p, e))
one_reading l a b (reads x m c p e r) (passes y g s) = absurd (cc (g m p, e))
one_reading l a b (reads {ms = ms} x m c p e r) (reads {ms = ns} y n d q f s) =
    let same : m ≡ n = same_message m n (bytes_of x) p q in
    let head : c ≡ d = some_is c d (sym e ∙ (ap on_channel same ∙ f)) in
    let tail : ms ≡ ns = one_reading _ ms ns r s in
    cc (head, tail)

pub older_reading : (o l : List Payload) (a b : List Message) → IsOlder o l → Reads o a → Reads l b → IsOlder a b
older_reading o l a b older r nothing = subst (λ w. IsOlder w []) (one_reading [] [] a nothing (subst (λ w. Reads w a) older r)) (older_self [])
older_reading o l a b (inl e) r s = subst (λ w. IsOlder w b) (one_reading l b a s (subst (λ w. Reads w a) e r)) (older_self b)
older_reading o l a b (inr older) r (passes x f s) = older_reading o _ a b older r s
older_reading o l a b (inr older) r (reads {ms = ms} x m c p e s) = inr (older_reading o _ a ms older r s)

-- ---- what was taken and sent after the first NEWKEYS

abbrev pub add : Option Message → List Message → List Message
add None ms = ms
add (Some c) ms = c ∷ ms

-- a payload more of this message
more_reads : (x : Payload) (m : Msg) (l : List Payload) (ms : List Message) (e : ℕ) → epoch l ≡ e → IsPayload true m (bytes_of x) → ((c : Message) → on_channel m ≡ Some c → 0 < e)
    → (o : Option Message) → on_channel m ≡ o → Reads (after_first l) ms → Reads (from_epoch e x (after_first l)) (add o ms)
more_reads x m l ms zero z p k None f r = subst (λ w. Reads w ms) (zero_after l z) r
more_reads x m l ms zero z p k (Some c) f r = absurd (omega (arith, k c f))
more_reads x m l ms (suc e) z p k None f r = passes x (λ n q. ap on_channel (same_message n m (bytes_of x) q p) ∙ f) r
more_reads x m l ms (suc e) z p k (Some c) f r = reads x m c p f r

-- messages on channels are of the connection
pub high_on_channel : (m : Msg) (c : Message) → on_channel m ≡ Some c → 80 ≤ message_number m
high_on_channel (ChannelOpen x y z u w) c e = leb-true 80 _ refl
high_on_channel (ChannelOpenConfirmation x y z u w) c e = leb-true 80 _ refl
high_on_channel (ChannelOpenFailure x y z u) c e = leb-true 80 _ refl
high_on_channel (ChannelWindowAdjust x y) c e = leb-true 80 _ refl
high_on_channel (ChannelData x y) c e = leb-true 80 _ refl
high_on_channel (ChannelExtendedData x y z) c e = leb-true 80 _ refl
high_on_channel (ChannelEof x) c e = leb-true 80 _ refl
high_on_channel (ChannelClose x) c e = leb-true 80 _ refl
high_on_channel (ChannelRequest x y z u) c e = leb-true 80 _ refl
high_on_channel (ChannelSuccess x) c e = leb-true 80 _ refl
high_on_channel (ChannelFailure x) c e = leb-true 80 _ refl
high_on_channel m c e = absurd (cc e)

pub received_add : (at : Option ℕ) (o : Option Message) (l : List channel.Item) → row.received (received_on at o l) ≡ add o (row.received l)
received_add at None l = refl
received_add at (Some c) l = refl

pub sent_add : (at : Option ℕ) (o : Option Message) (l : List channel.Item) → row.sent (sent_on at o l) ≡ add o (row.sent l)
sent_add at None l = refl
sent_add at (Some c) l = refl

-- NEWKEYS is on no channel
newkeys_reads : (b : List ℕ) (l : List Payload) (ms : List Message) → IsPayload true NewKeys b → Reads (after_first l) ms → Reads (after_first (NewkeysOf b ∷ l)) ms
newkeys_reads b l ms s r = more_reads (NewkeysOf b) NewKeys l ms (epoch l) refl s (λ c e. absurd (cc e)) None refl r

pub received_sent_on : (at : Option ℕ) (o : Option Message) (l : List channel.Item) → row.received (sent_on at o l) ≡ row.received l
received_sent_on at None l = refl
received_sent_on at (Some c) l = refl

pub sent_received_on : (at : Option ℕ) (o : Option Message) (l : List channel.Item) → row.sent (received_on at o l) ≡ row.sent l
sent_received_on at None l = refl
sent_received_on at (Some c) l = refl

off_below : (b : List ℕ) → number_of b < 50 → IsOffChannel b
off_below b n m s = go (on_channel m) refl
  where
    go : (o : Option Message) → on_channel m ≡ o → on_channel m ≡ None
    go None e = e
    go (Some c) e = absurd (omega (arith, high_on_channel m c e, taken_number true m b s, n))

guess_reads : (b : List ℕ) (l : List Payload) (ms : List Message) (e : ℕ) → epoch l ≡ e → number_of b < 50 → Reads (after_first l) ms → Reads (from_epoch e (OtherOf b) (after_first l)) ms
guess_reads b l ms zero z n r = subst (λ w. Reads w ms) (zero_after l z) r
guess_reads b l ms (suc e) z n r = passes (OtherOf b) (off_below b n) r

pub taken_reads : {K : Type 0} (p : Parties K) (h : List Item) → AllFormed p h → Reads (after_first (took h)) (row.received (channel_items h))
taken_reads p [] f = nothing
taken_reads p (Took c NewKeys b ∷ h) f = newkeys_reads b (took h) _ f.0.0 (taken_reads p h f.1)
taken_reads p (Took c m b ∷ h) f =
    subst (λ w. Reads (after_first (OtherOf b ∷ took h)) w) (sym (received_add c (on_channel m) (channel_items h)))
    (more_reads (OtherOf b) m (took h) _ (epoch (took h)) refl f.0.0 (λ x e. f.0.1 (omega (arith, high_on_channel m x e))) (on_channel m) refl (taken_reads p h f.1))
taken_reads p (TookGuess b ∷ h) f = guess_reads b (took h) _ (epoch (took h)) refl f.0 (taken_reads p h f.1)
taken_reads p (Sent c (KexInit o) b ∷ h) f = taken_reads p h f.1
taken_reads p (Sent c NewKeys b ∷ h) f = taken_reads p h f.1
taken_reads p (Sent c m b ∷ h) f = subst (λ w. Reads (after_first (took h)) w) (sym (received_sent_on c (on_channel m) (channel_items h))) (taken_reads p h f.1)
taken_reads p (i ∷ h) f = taken_reads p h f.1

pub sent_reads : {K : Type 0} (p : Parties K) (h : List Item) → AllFormed p h → Reads (after_first (sent h)) (row.sent (channel_items h))
sent_reads p [] f = nothing
sent_reads p (Sent c NewKeys b ∷ h) f = newkeys_reads b (sent h) _ (encoded_is_read NewKeys b f.0.0) (sent_reads p h f.1)
sent_reads p (Sent c (KexInit o) b ∷ h) f =
    more_reads (OtherOf b) (KexInit o) (sent h) _ (epoch (sent h)) refl (encoded_is_read (KexInit o) b f.0.0) (λ x e. absurd (cc e)) None refl (sent_reads p h f.1)
sent_reads p (Sent c UserauthSuccess b ∷ h) f =
    more_reads (OtherOf b) UserauthSuccess (sent h) _ (epoch (sent h)) refl (encoded_is_read UserauthSuccess b f.0.0) (λ x e. absurd (cc e)) None refl (sent_reads p h f.1)
sent_reads p (Sent c m b ∷ h) f =
    subst (λ w. Reads (after_first (OtherOf b ∷ sent h)) w) (sym (sent_add c (on_channel m) (channel_items h)))
    (more_reads (OtherOf b) m (sent h) _ (epoch (sent h)) refl (encoded_is_read m b f.0.0) (λ x e. f.0.1 (high_on_channel m x e)) (on_channel m) refl (sent_reads p h f.1))
sent_reads p (Took c NewKeys b ∷ h) f = sent_reads p h f.1
sent_reads p (Took c m b ∷ h) f = subst (λ w. Reads (after_first (sent h)) w) (sym (sent_received_on c (on_channel m) (channel_items h))) (sent_reads p h f.1)
sent_reads p (i ∷ h) f = sent_reads p h f.1
