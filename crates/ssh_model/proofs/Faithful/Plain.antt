-- Of the items that an end adds to a message that it took, or to an ask, none is taken, refused or a line.
use Rattle.std.proofs.Common.{ℕ, List, [], ◌∷◌, ◌++◌, Option}
use Rattle.ssh_model.specs.declared.side.Side.{Side}
use Rattle.ssh_model.specs.Protocol.Wire.Message.{Msg}
use Rattle.ssh_model.specs.Protocol.Sessions.Parties.{Parties}
use Rattle.ssh_model.specs.Protocol.Sessions.Items.{Ask, Item, Item.Took}
use Rattle.ssh_model.specs.Protocol.Channels.History as channel
use Rattle.ssh_model.specs.Protocol.Sessions.Transport.{TransportAnswer, TransportAnswer.disconnect, IsAnnounced.extensions as announced_extensions, IsAnnounced.nothing as announced_nothing, TransportAnswer.kexinit_at_server, TransportAnswer.answered_at_client, CompletingAnswer.init, CompletingAnswer.reply, TransportAnswer.newkeys, TransportAsk.disconnect as asked_to_disconnect, TransportAsk, CompletingAnswer}
use Rattle.ssh_model.specs.Protocol.Authentication.Rows.{AuthenticationAnswer.request_accepted, AuthenticationAsk.none as asked_none, AuthenticationAsk, AuthenticationAnswer}
use Rattle.ssh_model.specs.Protocol.Channels.Connection.{AreReplies, AreReplies.none, AreReplies.reply, ConnectionAnswer, ConnectionAnswer.not_opened, ConnectionAsk, ConnectionAsk.opens}
use Rattle.ssh_model.specs.Protocol.Sessions.Turns.{Answer, Answer.of_completion, OnAsk}

abbrev pub IsPlain : Item → Type 0
IsPlain (Took c m b) = ⊥
IsPlain (Item.TookGuess b) = ⊥
IsPlain (Item.Refused why b) = ⊥
IsPlain (Item.SentLine line) = ⊥
IsPlain (Item.TookLine line) = ⊥
IsPlain _ = Unit {0}

abbrev pub ArePlain : List Item → Type 0
ArePlain [] = Unit {0}
ArePlain (i ∷ l) = IsPlain i × ArePlain l

plain_following : (a b : List Item) → ArePlain a → ArePlain b → ArePlain (a ++ b)
plain_following [] b q r = r
plain_following (i ∷ a) b q r = (q.0, plain_following a b q.1 r)

-- ---- the rows

replies_plain : (l : List channel.Item) (items : List Item) → AreReplies l items → ArePlain items
replies_plain l items none = tt
replies_plain l items (reply at m b r) = (tt, replies_plain _ _ r)

completion_plain : {K : Type 0} (p : Parties K) (owed : List Item) (side : Side) (h : List Item) (m : Msg) (items : List Item) → CompletingAnswer p owed side h m items → ArePlain owed → ArePlain items
completion_plain p owed side h m items (init q rb nb (announced_extensions xb f)) o = (tt, plain_following owed _ o (tt, (tt, (tt, tt))))
completion_plain p owed side h m items (init q rb nb (announced_nothing f)) o = (tt, plain_following owed _ o (tt, (tt, tt)))
completion_plain p owed side h m items (CompletingAnswer.reply k q g nb (announced_extensions xb f)) o = (tt, plain_following owed _ o (tt, (tt, tt)))
completion_plain p owed side h m items (CompletingAnswer.reply k q g nb (announced_nothing f)) o = (tt, plain_following owed _ o (tt, tt))

transport_plain : {K : Type 0} (p : Parties K) (side : Side) (h : List Item) (m : Msg) (items : List Item) → TransportAnswer p side h m items → ArePlain items
transport_plain p side h m items (disconnect r d l) = (tt, (tt, tt))
transport_plain p side h m items (kexinit_at_server theirs e) = tt
transport_plain p side h m items newkeys = tt
transport_plain p side h m items (answered_at_client theirs own y e) = (tt, (tt, tt))
transport_plain p side h m items a = (tt, tt)

authentication_plain : {K : Type 0} (p : Parties K) (side : Side) (h : List Item) (m : Msg) (items : List Item) → AuthenticationAnswer p side h m items → ArePlain items
authentication_plain p side h m items (request_accepted x y z c e f) = (tt, (tt, tt))
authentication_plain p side h m items a = (tt, tt)

connection_plain : (side : Side) (h : List Item) (c : Option ℕ) (m : Msg) (items : List Item) → ConnectionAnswer side h c m items → ArePlain items
connection_plain side h c m items (not_opened k f w d r full due) = replies_plain _ items due
connection_plain side h c m items (ConnectionAnswer.close t due) = (tt, replies_plain _ _ due)
connection_plain side h c m items a = (tt, tt)

pub answer_plain : {K : Type 0} (p : Parties K) (side : Side) (h : List Item) (c : Option ℕ) (m : Msg) (items : List Item) → Answer p side h c m items → ArePlain items
answer_plain p side h c m items (Answer.of_transport a) = transport_plain p side h m items a
answer_plain p side h c m items (of_completion r a) = completion_plain p _ side h m items a (replies_plain _ _ r)
answer_plain p side h c m items (Answer.of_authentication a) = authentication_plain p side h m items a
answer_plain p side h c m items (Answer.of_connection a) = connection_plain side h c m items a

transport_ask_plain : {K : Type 0} (p : Parties K) (side : Side) (h items : List Item) (a : Ask) → TransportAsk p side h a items → ArePlain items
transport_ask_plain p side h items a (asked_to_disconnect x b) = (tt, (tt, tt))
transport_ask_plain p side h items a x = (tt, tt)

authentication_ask_plain : {K : Type 0} (p : Parties K) (side : Side) (h items : List Item) (a : Ask) → AuthenticationAsk p side h a items → ArePlain items
authentication_ask_plain p side h items a (asked_none u b) = (tt, tt)
authentication_ask_plain p side h items a x = (tt, tt)

connection_ask_plain : (side : Side) (h items : List Item) (a : Ask) → ConnectionAsk side h a items → ArePlain items
connection_ask_plain side h items a (opens x k w d r b f) = (tt, (tt, tt))
connection_ask_plain side h items a x = (tt, tt)

pub ask_plain : {K : Type 0} (p : Parties K) (side : Side) (h items : List Item) (a : Ask) → OnAsk p side h a items → ArePlain items
ask_plain p side h items a (OnAsk.of_transport o) = transport_ask_plain p side h items a o
ask_plain p side h items a (OnAsk.of_authentication o) = authentication_ask_plain p side h items a o
ask_plain p side h items a (OnAsk.of_connection o) = connection_ask_plain side h items a o
