-- The numbers that an end keeps of its peer, and those of the replies that it owes, are uint32s.
use Rattle.std.proofs.Common.{ℕ, ◌<◌, ◌^◌, Bool, true, false, cond, List, [], ◌∷◌, ◌++◌, arith, Option, None, Some}
use Rattle.ssh_model.specs.declared.side.Side.{Side}
use Rattle.ssh_model.specs.Protocol.Wire.Message.{Msg, Msg.KexInit, Msg.NewKeys, Msg.ChannelOpen, Msg.ChannelOpenConfirmation, IsPayload, Msg.ChannelOpenFailure, Msg.ChannelWindowAdjust, Msg.ChannelData, Msg.ChannelExtendedData, Msg.ChannelEof, Msg.ChannelClose, Msg.ChannelRequest, Msg.ChannelSuccess, Msg.ChannelFailure}
use Rattle.ssh_model.specs.Protocol.Sessions.Parties.{Parties}
use Rattle.ssh_model.specs.Protocol.Sessions.Items.{Item, Item.Sent, Item.Took}
use Rattle.ssh_model.specs.Protocol.Channels.Message.{Channel, Message, Message.Open, Message.OpenConfirmation, Message.OpenFailure, Message.Close, same, sender}
use Rattle.ssh_model.specs.Protocol.Channels.Notes.{Line, Line.On, Note, channel_at, on, took_all}
use Rattle.ssh_model.specs.Protocol.Channels.Numbers.{has_closed, peer_number}
use Rattle.ssh_model.specs.Protocol.Channels.History as channel
use Rattle.ssh_model.specs.Protocol.Channels.History.{due, note_sent, note_received, noted, owed}
use Rattle.ssh_model.specs.Protocol.Channels.Connection.{on_channel, sent_on, received_on, channel_items, notes, owed_replies}
use Rattle.ssh_model.specs.Laws.Senders.{open_sender_below, uint32_below}
use Rattle.ssh_model.proofs.Sessions.Sound.{AllFormed}

-- ---- messages that name a number of their sender

abbrev pub NamesUint32 : Message → Type 0
NamesUint32 (Open from window max_packet) = from < 2 ^ 32
NamesUint32 (OpenConfirmation to from window max_packet) = from < 2 ^ 32
NamesUint32 _ = Unit {0}

abbrev AllName : List Message → Type 0
AllName [] = Unit {0}
AllName (m ∷ l) = NamesUint32 m × AllName l

sender_below : (l : List Message) → AllName l → sender l < 2 ^ 32
sender_below [] a = omega arith
sender_below (Open from window max_packet ∷ l) a = a.0
sender_below (OpenConfirmation to from window max_packet ∷ l) a = a.0
sender_below (m ∷ l) a = sender_below l a.1

abbrev LinesName : List Line → Type 0
LinesName [] = Unit {0}
LinesName (On channel m ∷ lines) = NamesUint32 m × LinesName lines

on_names : (channel : Channel) (lines : List Line) → LinesName lines → AllName (on channel lines)
on_names channel [] a = tt
on_names channel (On other m ∷ lines) a = go (same channel other) (on_names channel lines a.1)
  where
    go : (t : Bool) → AllName (on channel lines) → AllName (cond t (m ∷ on channel lines) (on channel lines))
    go true r = (a.0, r)
    go false r = r

-- what is taken on channels
abbrev ItemsName : List channel.Item → Type 0
ItemsName [] = Unit {0}
ItemsName (channel.Item.Received at m ∷ items) = NamesUint32 m × ItemsName items
ItemsName (_ ∷ items) = ItemsName items

sent_names : (side : Side) (at : Option ℕ) (m : Message) (l : List Note) → LinesName (took_all l) → LinesName (took_all (note_sent side at m l))
sent_names side None m l a = a
sent_names side (Some x) (Close to) l a = go (has_closed x l)
  where
    go : (t : Bool) → LinesName (took_all (cond t l (Note.Said x (channel_at x l) (Close to) ∷ l)))
    go true = a
    go false = a
sent_names side (Some x) m l a = a

taken_names : (side : Side) (at : Option ℕ) (m : Message) (l : List Note) → NamesUint32 m → LinesName (took_all l) → LinesName (took_all (note_received side at m l))
taken_names side None (Open from window max_packet) l n a = (n, a)
taken_names side None m l n a = a
taken_names side (Some x) (Close to) l n a = go (has_closed x l)
  where
    go : (t : Bool) → LinesName (took_all (cond t (Note.Took x (channel_at x l) (Close to) ∷ l) (Note.Said x (channel_at x l) (Close (peer_number x l)) ∷ Note.Took x (channel_at x l) (Close to) ∷ l)))
    go true = (tt, a)
    go false = (tt, a)
taken_names side (Some x) m l n a = (n, a)

notes_name : (side : Side) (items : List channel.Item) → ItemsName items → LinesName (took_all (noted side items))
notes_name side [] a = tt
notes_name side (channel.Item.Sent at m ∷ items) a = sent_names side at m (noted side items) (notes_name side items a)
notes_name side (channel.Item.Received at m ∷ items) a = taken_names side at m (noted side items) a.0 (notes_name side items a.1)
notes_name side (channel.Item.KexinitSent ∷ items) a = notes_name side items a
notes_name side (channel.Item.NewkeysSent ∷ items) a = notes_name side items a

peer_below : (side : Side) (items : List channel.Item) (x : ℕ) → ItemsName items → peer_number x (noted side items) < 2 ^ 32
peer_below side items x a = sender_below _ (on_names _ _ (notes_name side items a))

-- ---- replies

-- sent messages, of which those that are due name uint32s
abbrev pub RepliesFit : List channel.Item → Type 0
RepliesFit [] = Unit {0}
RepliesFit (channel.Item.Sent at (OpenFailure to) ∷ l) = (to < 2 ^ 32) × RepliesFit l
RepliesFit (channel.Item.Sent at (Close to) ∷ l) = (to < 2 ^ 32) × RepliesFit l
RepliesFit (channel.Item.Sent at m ∷ l) = RepliesFit l
RepliesFit (_ ∷ l) = ⊥

due_fits : (side : Side) (items : List channel.Item) (at : Option ℕ) (m : Message) → NamesUint32 m → ItemsName items → RepliesFit (due at m (noted side items))
due_fits side items None (Open from window max_packet) n a = (n, tt)
due_fits side items None m n a = tt
due_fits side items (Some x) (Close to) n a = go (has_closed x (noted side items))
  where
    go : (t : Bool) → RepliesFit (cond t [] (channel.Item.Sent (Some x) (Close (peer_number x (noted side items))) ∷ []))
    go true = tt
    go false = (peer_below side items x a, tt)
due_fits side items (Some x) m n a = tt

both_fit : (l more : List channel.Item) → RepliesFit l → RepliesFit more → RepliesFit (l ++ more)
both_fit [] more a b = b
both_fit (channel.Item.Sent at (OpenFailure to) ∷ l) more a b = (a.0, both_fit l more a.1 b)
both_fit (channel.Item.Sent at (Close to) ∷ l) more a b = (a.0, both_fit l more a.1 b)
both_fit (channel.Item.Sent at m ∷ l) more a b = both_fit l more a b
both_fit (channel.Item.Received at m ∷ l) more a b = elim a [ ]
both_fit (channel.Item.KexinitSent ∷ l) more a b = elim a [ ]
both_fit (channel.Item.NewkeysSent ∷ l) more a b = elim a [ ]

owed_fit : (side : Side) (items : List channel.Item) → ItemsName items → RepliesFit (owed side items)
owed_fit side [] a = tt
owed_fit side (channel.Item.NewkeysSent ∷ items) a = tt
owed_fit side (channel.Item.KexinitSent ∷ items) a = owed_fit side items a
owed_fit side (channel.Item.Sent at m ∷ items) a = owed_fit side items a
owed_fit side (channel.Item.Received at m ∷ items) a = go (channel.blocked items) (owed_fit side items a.1)
  where
    go : (t : Bool) → RepliesFit (owed side items) → RepliesFit (cond t (due at m (noted side items) ++ owed side items) (owed side items))
    go true r = both_fit (due at m (noted side items)) (owed side items) (due_fits side items at m a.0 a.1) r
    go false r = r

-- ---- of an end

confirmation_name : (to from window max : ℕ) (rest b : List ℕ) → IsPayload true (ChannelOpenConfirmation to from window max rest) b → from < 2 ^ 32
confirmation_name to from window max rest b p = let field = p.row.second.second in uint32_below from field.front field.first

sent_on_names : (at : Option ℕ) (m : Option Message) (l : List channel.Item) → ItemsName l → ItemsName (sent_on at m l)
sent_on_names at None l a = a
sent_on_names at (Some m) l a = a

taken_on_names : (at : Option ℕ) (m : Msg) (b : List ℕ) (l : List channel.Item) → IsPayload true m b → ItemsName l → ItemsName (received_on at (on_channel m) l)
taken_on_names at (ChannelOpen kind from window max rest) b l p a = (open_sender_below kind from window max rest b p, a)
taken_on_names at (ChannelOpenConfirmation to from window max rest) b l p a = (confirmation_name to from window max rest b p, a)
taken_on_names at (ChannelOpenFailure r s d l) payload items p a = (tt, a)
taken_on_names at (ChannelWindowAdjust r n) payload items p a = (tt, a)
taken_on_names at (ChannelData r body) payload items p a = (tt, a)
taken_on_names at (ChannelExtendedData r k body) payload items p a = (tt, a)
taken_on_names at (ChannelEof r) payload items p a = (tt, a)
taken_on_names at (ChannelClose r) payload items p a = (tt, a)
taken_on_names at (ChannelRequest r n w l) payload items p a = (tt, a)
taken_on_names at (ChannelSuccess r) payload items p a = (tt, a)
taken_on_names at (ChannelFailure r) payload items p a = (tt, a)
taken_on_names at m payload items p a = a

module _ {K : Type 0} (p : Parties K) where
  items_name : (h : List Item) → AllFormed p h → ItemsName (channel_items h)
  items_name [] f = tt
  items_name (Sent at (KexInit o) b ∷ h) f = items_name h f.1
  items_name (Sent at NewKeys b ∷ h) f = items_name h f.1
  items_name (Sent at m b ∷ h) f = sent_on_names at (on_channel m) (channel_items h) (items_name h f.1)
  items_name (Took at m b ∷ h) f = taken_on_names at m b (channel_items h) f.0.0 (items_name h f.1)
  items_name (i ∷ h) f = items_name h f.1

  pub peer_number_below : (side : Side) (h : List Item) (x : ℕ) → AllFormed p h → peer_number x (notes side h) < 2 ^ 32
  peer_number_below side h x f = peer_below side (channel_items h) x (items_name h f)

  pub owed_replies_fit : (side : Side) (h : List Item) → AllFormed p h → RepliesFit (owed_replies side h)
  owed_replies_fit side h f = owed_fit side (channel_items h) (items_name h f)

  pub due_replies_fit : (side : Side) (h : List Item) (at : Option ℕ) (m : Message) → NamesUint32 m → AllFormed p h → RepliesFit (due at m (notes side h))
  due_replies_fit side h at m n f = due_fits side (channel_items h) at m n (items_name h f)
