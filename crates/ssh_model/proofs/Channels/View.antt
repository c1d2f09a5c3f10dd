-- A session as its channels see it: each turn of an end is a turn on its channels, or none.
use Rattle.std.proofs.Common.{◌≡◌, ℕ, List, [], ◌∷◌, ◌++◌, refl, ap, ◌∙◌, Option, Some, None}
use Rattle.ssh_model.specs.Protocol.Wire.Message.{Msg.NewKeys, Msg.KexInit}
use Rattle.ssh_model.specs.Protocol.Sessions.Items.{Item, Item.Sent, Item.Took}
use Rattle.ssh_model.specs.Protocol.Sessions.Phases.{blocked}
use Rattle.ssh_model.specs.Protocol.Channels.Message.{Message, Message.OpenFailure, Message.Close}
use Rattle.ssh_model.specs.Protocol.Channels.History as channel
use Rattle.ssh_model.specs.Protocol.Channels.History.{at_once, due, noted, owed}
use Rattle.ssh_model.specs.Protocol.Channels.Connection.{on_channel, sent_on, received_on, channel_items, AreReplies, AreReplies.none, AreReplies.reply}

-- ---- lists of items

sent_on_following : (at : Option ℕ) (o : Option Message) (l r : List channel.Item) → sent_on at o (l ++ r) ≡ sent_on at o l ++ r
sent_on_following at None l r = refl
sent_on_following at (Some m) l r = refl

received_on_following : (at : Option ℕ) (o : Option Message) (l r : List channel.Item) → received_on at o (l ++ r) ≡ received_on at o l ++ r
received_on_following at None l r = refl
received_on_following at (Some m) l r = refl

pub items_following : (items h : List Item) → channel_items (items ++ h) ≡ channel_items items ++ channel_items h
items_following [] h = refl
items_following (Sent c (KexInit o) b ∷ items) h = ap (λ l. channel.Item.KexinitSent ∷ l) (items_following items h)
items_following (Sent c NewKeys b ∷ items) h = ap (λ l. channel.Item.NewkeysSent ∷ l) (items_following items h)
items_following (Sent c m b ∷ items) h = ap (λ l. sent_on c (on_channel m) l) (items_following items h) ∙ sent_on_following c (on_channel m) (channel_items items) (channel_items h)
items_following (Took c m b ∷ items) h = ap (λ l. received_on c (on_channel m) l) (items_following items h) ∙ received_on_following c (on_channel m) (channel_items items) (channel_items h)
items_following (i ∷ items) h = items_following items h

blocked_on : (at : Option ℕ) (o : Option Message) (l : List channel.Item) → channel.blocked (sent_on at o l) ≡ channel.blocked l
blocked_on at None l = refl
blocked_on at (Some m) l = refl

blocked_received : (at : Option ℕ) (o : Option Message) (l : List channel.Item) → channel.blocked (received_on at o l) ≡ channel.blocked l
blocked_received at None l = refl
blocked_received at (Some m) l = refl

pub blocked_same : (h : List Item) → channel.blocked (channel_items h) ≡ blocked h
blocked_same [] = refl
blocked_same (Sent c (KexInit o) b ∷ h) = refl
blocked_same (Sent c NewKeys b ∷ h) = refl
blocked_same (Sent c m b ∷ h) = blocked_on c (on_channel m) (channel_items h) ∙ blocked_same h
blocked_same (Took c m b ∷ h) = blocked_received c (on_channel m) (channel_items h) ∙ blocked_same h
blocked_same (i ∷ h) = blocked_same h

-- ---- replies

-- these are replies
abbrev pub AreDueReplies : List channel.Item → Type 0
AreDueReplies [] = Unit {0}
AreDueReplies (channel.Item.Sent at (OpenFailure t) ∷ l) = AreDueReplies l
AreDueReplies (channel.Item.Sent at (Close t) ∷ l) = AreDueReplies l
AreDueReplies (_ ∷ l) = ⊥

pub replies_seen : (l : List channel.Item) (items : List Item) → AreReplies l items → AreDueReplies l → channel_items items ≡ l
replies_seen l items none d = refl
replies_seen l items (reply {items = more} at (OpenFailure t) b r) d = ap (λ x. channel.Item.Sent at (OpenFailure t) ∷ x) (replies_seen _ more r d)
replies_seen l items (reply {items = more} at (Close t) b r) d = ap (λ x. channel.Item.Sent at (Close t) ∷ x) (replies_seen _ more r d)
replies_seen l items (reply at m b r) d = elim d [ ]
