-- Each turn of an end is a turn on its channels, or none.
use Rattle.std.proofs.Common.{◌≡◌, ℕ, ◌≤◌, List, [], ◌∷◌, ◌++◌, length, refl, ap, sym, ◌∙◌, subst, Bool, true, false, cond, ltb, ltb-false, Option, Some, None}
use Rattle.ssh_model.specs.declared.side.Side.{Side}
use Rattle.ssh_model.specs.Protocol.Wire.Message.{Msg, Msg.ChannelOpen, Msg.ChannelOpenConfirmation, Msg.ChannelOpenFailure, Msg.ChannelWindowAdjust, Msg.ChannelData, Msg.ChannelExtendedData, Msg.ChannelEof, Msg.ChannelClose, Msg.ChannelRequest, Msg.ChannelSuccess, Msg.ChannelFailure}
use Rattle.ssh_model.specs.Protocol.Sessions.Refusals.{first_refusal}
use Rattle.ssh_model.specs.Protocol.Sessions.Parties.{Parties}
use Rattle.ssh_model.specs.Protocol.Sessions.Items.{Item, Item.Took}
use Rattle.ssh_model.specs.Protocol.Sessions.Phases.{blocked}
use Rattle.ssh_model.specs.Protocol.Channels.Message.{Message, Message.Open, Message.OpenFailure, Message.Close}
use Rattle.ssh_model.specs.Protocol.Channels.Notes.{Note}
use Rattle.ssh_model.specs.Protocol.Channels.Numbers.{has_closed, receive_window, max_packet_here, peer_number}
use Rattle.ssh_model.specs.Protocol.Channels.History as channel
use Rattle.ssh_model.specs.Protocol.Channels.History.{at_once, due, noted, owed}
use Rattle.ssh_model.specs.ChannelLayer.Rows as row
use Rattle.ssh_model.specs.Protocol.Channels.Connection.{channel_items, notes, AreDue, ConnectionAnswer, ConnectionAnswer.global, ConnectionAnswer.global_success, ConnectionAnswer.global_failure, ConnectionAnswer.opened, ConnectionAnswer.not_opened, ConnectionAnswer.confirmation, ConnectionAnswer.failure, ConnectionAnswer.adjust, ConnectionAnswer.got_data, ConnectionAnswer.got_extended, ConnectionAnswer.eof, ConnectionAnswer.close, ConnectionAnswer.request, ConnectionAnswer.success, ConnectionAnswer.no_success, ConnectionAsk.adjust, ConnectionAsk.eof, ConnectionAsk.close, ConnectionAsk.request, ConnectionAsk.global}
use Rattle.ssh_model.specs.Protocol.Authentication.Rows.{AuthenticationAnswer.failure, AuthenticationAnswer.success}
use Rattle.ssh_model.specs.Protocol.Sessions.Turns.{answer_checks}
use Rattle.ssh_model.specs.Laws.Checks.{all_passed}
use Rattle.ssh_model.proofs.Sessions.Stages.{or_false, not_false}
use Rattle.ssh_model.proofs.Channels.View.{items_following, blocked_same, AreDueReplies, replies_seen}

-- these items of a session are a turn on its channels, or none
pub data Seen (side : Side) (h items : List Item) : Type 0 where
  nothing : channel_items items ≡ [] → Seen side h items
  turn : row.Turn side (channel_items h) (channel_items items) → Seen side h items

-- ---- replies

due_are : (at : Option ℕ) (m : Message) (n : List Note) → AreDueReplies (due at m n)
due_are None (Open f w k) n = tt
due_are None m n = tt
due_are (Some x) (Close t) n = go (has_closed x n)
  where
    go : (b : Bool) → AreDueReplies (cond b [] (channel.Item.Sent (Some x) (Close (peer_number x n)) ∷ []))
    go true = tt
    go false = tt
due_are (Some x) m n = tt

at_once_are : (b : Bool) (l : List channel.Item) → AreDueReplies l → AreDueReplies (at_once b l)
at_once_are true l d = tt
at_once_are false l d = d

due_following : (a b : List channel.Item) → AreDueReplies a → AreDueReplies b → AreDueReplies (a ++ b)
due_following [] b d e = e
due_following (channel.Item.Sent at (OpenFailure t) ∷ a) b d e = due_following a b d e
due_following (channel.Item.Sent at (Close t) ∷ a) b d e = due_following a b d e
due_following (x ∷ a) b d e = elim d [ ]

pub owed_are : (s : Side) (h : List channel.Item) → AreDueReplies (owed s h)
owed_are s [] = tt
owed_are s (channel.Item.NewkeysSent ∷ h) = tt
owed_are s (channel.Item.Received x m ∷ h) = go (channel.blocked h) (owed_are s h)
  where
    go : (b : Bool) → AreDueReplies (owed s h) → AreDueReplies (cond b (due x m (noted s h) ++ owed s h) (owed s h))
    go true d = due_following (due x m (noted s h)) (owed s h) (due_are x m (noted s h)) d
    go false d = d
owed_are s (channel.Item.Sent x m ∷ h) = owed_are s h
owed_are s (channel.Item.KexinitSent ∷ h) = owed_are s h

at_once_nothing : (b : Bool) → at_once b [] ≡ []
at_once_nothing true = refl
at_once_nothing false = refl

-- ---- what is taken

takes_plain : (s : Side) (h : List channel.Item) (x : ℕ) (m : Message) → due (Some x) m (noted s h) ≡ [] → row.Take s (noted s h) x m → row.Turn s h (channel.Item.Received (Some x) m ∷ [])
takes_plain s h x m e t =
    let f : at_once (channel.blocked h) (due (Some x) m (noted s h)) ≡ [] = ap (at_once (channel.blocked h)) e ∙ at_once_nothing (channel.blocked h) in
    subst (λ l. row.Turn s h (l ++ (channel.Item.Received (Some x) m ∷ []))) f (row.Turn.takes x m t)

below : (a b : ℕ) → ltb a b ≡ false → b ≤ a
below a b e = ltb-false a b e

replied : (side : Side) (h items : List Item) (at : Option ℕ) (m : Message) → AreDue side h at m items
    → channel_items items ≡ at_once (channel.blocked (channel_items h)) (due at m (notes side h))
replied side h items at m r =
    replies_seen _ items r (at_once_are (blocked h) _ (due_are at m (notes side h))) ∙ ap (λ b. at_once b (due at m (notes side h))) (sym (blocked_same h))

module _ {K : Type 0} (p : Parties K) where
  pub connection_seen : (side : Side) (h items : List Item) (c : Option ℕ) (m : Msg) (b : List ℕ) → ConnectionAnswer side h c m items → first_refusal (answer_checks p side h m) ≡ None
      → Seen side h (items ++ (Took c m b ∷ []))
  connection_seen side h items c m b (global x y z) e = nothing refl
  connection_seen side h items c m b (global_success z) e = nothing refl
  connection_seen side h items c m b global_failure e = nothing refl
  connection_seen side h items c m b (opened x k f w d r free) e = turn (row.Turn.takes_open x f w d free)
  connection_seen side h items c m b (not_opened k f w d r full due) e =
      turn (subst (λ l. row.Turn side (channel_items h) l)
      (sym (items_following items (Took None (ChannelOpen k f w d r) b ∷ []) ∙ ap (λ l. l ++ (channel.Item.Received None (Open f w d) ∷ [])) (replied side h items None (Open f w d) due)))
      (row.Turn.refuses_open f w d))
  connection_seen side h items c m b (confirmation t f w d r) e =
      let q = all_passed (answer_checks p side h (ChannelOpenConfirmation t f w d r)) e in
      turn (takes_plain side _ t _ refl (row.Take.confirmed f w d (not_false _ q.1.0)))
  connection_seen side h items c m b (failure t r x l) e =
      let q = all_passed (answer_checks p side h (ChannelOpenFailure t r x l)) e in
      turn (takes_plain side _ t _ refl (row.Take.refused (not_false _ q.1.0)))
  connection_seen side h items c m b (adjust t n) e =
      let q = all_passed (answer_checks p side h (ChannelWindowAdjust t n)) e in
      turn (takes_plain side _ t _ refl (row.Take.adjusted n (not_false _ q.0) (below _ _ q.1.0)))
  connection_seen side h items c m b (got_data t x) e =
      let q = all_passed (answer_checks p side h (ChannelData t x)) e in
      let over = or_false (ltb (receive_window t (notes side h)) (length x)) (ltb (max_packet_here t (notes side h)) (length x)) q.1.1.0 in
      turn (takes_plain side _ t _ refl (row.Take.got_data None x (not_false _ q.0) q.1.0 (below _ _ over.1) (below _ _ over.0)))
  connection_seen side h items c m b (got_extended t k x) e =
      let q = all_passed (answer_checks p side h (ChannelExtendedData t k x)) e in
      let over = or_false (ltb (receive_window t (notes side h)) (length x)) (ltb (max_packet_here t (notes side h)) (length x)) q.1.1.0 in
      turn (takes_plain side _ t _ refl (row.Take.got_data (Some k) x (not_false _ q.0) q.1.0 (below _ _ over.1) (below _ _ over.0)))
  connection_seen side h items c m b (eof t) e =
      let q = all_passed (answer_checks p side h (ChannelEof t)) e in
      turn (takes_plain side _ t _ refl (row.Take.ended (not_false _ q.0) q.1.0))
  connection_seen side h items c m b (close {replies = r} t due) e =
      let q = all_passed (answer_checks p side h (ChannelClose t)) e in
      turn (subst (λ l. row.Turn side (channel_items h) l)
      (sym (items_following r (Took (Some t) (ChannelClose t) b ∷ []) ∙ ap (λ l. l ++ (channel.Item.Received (Some t) (Close t) ∷ [])) (replied side h r (Some t) (Close t) due)))
      (row.Turn.takes t (Close t) (row.Take.closed (not_false _ q.0))))
  connection_seen side h items c m b (request t x want r) e =
      let q = all_passed (answer_checks p side h (ChannelRequest t x want r)) e in
      turn (takes_plain side _ t _ refl (row.Take.requested want (not_false _ q.0)))
  connection_seen side h items c m b (success t) e =
      let q = all_passed (answer_checks p side h (ChannelSuccess t)) e in
      turn (takes_plain side _ t _ refl (row.Take.replied true (not_false _ q.0)))
  connection_seen side h items c m b (no_success t) e =
      let q = all_passed (answer_checks p side h (ChannelFailure t)) e in
      turn (takes_plain side _ t _ refl (row.Take.replied false (not_false _ q.0)))
