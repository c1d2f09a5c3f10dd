-- What is kept of channels is refused for what their history is.
use Rattle.std.proofs.Common.{◌≡◌, ℕ, ◌+◌, List, [], ◌∷◌, length, refl, ap, sym, ◌∙◌, Option, None, Some, is_some, nat_lt, cond, not, ◌&&◌, ◌||◌, Bool, true, false, ◌==◌}
use Rattle.ssh_model.specs.Protocol.Bounds.{largest_data, largest_window, most_waiting_requests}
use Rattle.ssh_model.specs.declared.side.Side.{Side}
use Rattle.ssh_model.specs.Protocol.Wire.Message.{Msg, Msg.GlobalRequest, Msg.RequestSuccess, Msg.RequestFailure, Msg.ChannelOpen, Msg.ChannelOpenConfirmation, Msg.ChannelOpenFailure, Msg.ChannelWindowAdjust, Msg.ChannelData, Msg.ChannelExtendedData, Msg.ChannelEof, Msg.ChannelClose, Msg.ChannelRequest, Msg.ChannelSuccess, Msg.ChannelFailure}
use Rattle.ssh_model.specs.declared.refusal.Refusal.{Refusal}
use Rattle.ssh_model.specs.declared.refusal.Refusal.TheVariants.{Unexpected, UnknownChannel, WindowOverrun}
use Rattle.ssh_model.specs.declared.refusal.Refusal.TheVariants.{WindowTooLarge, OwedFull}
use Rattle.ssh_model.specs.declared.ask_refusal.AskRefusal.{AskRefusal}
use Rattle.ssh_model.specs.declared.ask_refusal.AskRefusal.TheVariants.{Busy, NoChannel, NoRoom, TooLong, NothingOwed}
use Rattle.ssh_model.specs.declared.ask_refusal.AskRefusal.TheVariants.{RekeyDue, TooMuch}
use Rattle.ssh_model.specs.Protocol.Sessions.Refusals.{Check, Check.RefusedWhere, first_refusal}
use Rattle.ssh_model.specs.Protocol.Sessions.Items.{Ask, Ask.AskOpen, Ask.AskConfirm, Ask.AskRefuse, Ask.AskData, Ask.AskAdjust, Ask.AskEof, Ask.AskClose, Ask.AskRequest, Ask.AskReply, Ask.AskGlobal, Ask.AskGlobalReply, Item}
use Rattle.ssh_model.specs.Protocol.Sessions.Phases.{blocked}
use Rattle.ssh_model.specs.Protocol.Channels.Message.{Message.WindowAdjust, Message.Data}
use Rattle.ssh_model.specs.Protocol.Channels.Numbers.{is_held, is_confirmed, is_offered, is_waiting, has_ended, has_closed, peer_ended, send_window, receive_window, max_packet_there, waiting_here, waiting_there, is_window_overrun, is_window_too_large}
use Rattle.ssh_model.specs.Protocol.Channels.History as channel
use Rattle.ssh_model.specs.Protocol.Channels.History.{is_owed}
use Rattle.ssh_model.specs.State.Channels.Places.{place_at, place_of, at, is_at, is_open, is_opening, is_waiting_place}
use Rattle.ssh_model.specs.Protocol.Channels.Connection.{connection_checks, channel_ask_checks, notes, owed_replies, channel_items, is_limit_reached, is_owed_limit_reached}
use Rattle.ssh_model.specs.State.Channels.Kept.{Channels, is_queue_full, has_said_close, is_ended, take_checks, send_checks, data_checks, opening_checks, reply_checks}
use Rattle.ssh_model.specs.State.Channels.Summary.{SumsUp}
use Rattle.ssh_model.proofs.Sessions.Stages.{not_false}
use Rattle.ssh_model.proofs.Channels.View.{blocked_same}
use Rattle.ssh_model.proofs.Channels.PlaceQueue.{place_none}
use Rattle.ssh_model.proofs.Channels.Summing.{same_first, open_is, opening_is, waiting_is, used_here, held_there, kept_is, peer_eof, own_end, full_here, many_here}

-- ---- messages

module _ (s : Side) (h : List Item) (o : List channel.Item) (c : Channels) (has : SumsUp s h o c) (x : ℕ) where
  -- what is kept of a channel that is confirmed
  open_place : is_confirmed x (notes s h) ≡ true → at c.places x ≡ Some (place_at s x (notes s h))
  open_place e = kept_is s h o c has x (held_there s h o c has x e)

  -- the first check of a message on a confirmed channel, and others where it does not hold
  open_first : (l m : List (Check Refusal)) → (is_confirmed x (notes s h) ≡ true → first_refusal l ≡ first_refusal m)
      → first_refusal (RefusedWhere (not (is_confirmed x (notes s h))) UnknownChannel ∷ l) ≡ first_refusal (RefusedWhere (not (is_at is_open (at c.places x))) UnknownChannel ∷ m)
  open_first l m f = same_first _ _ UnknownChannel l m (ap not (open_is s h o c has x)) (λ e. f (not_false _ e))

  data_same : (k : Option ℕ) (body : List ℕ)
      → first_refusal (RefusedWhere (not (is_confirmed x (notes s h))) UnknownChannel ∷ RefusedWhere (peer_ended x (notes s h)) Unexpected
      ∷ RefusedWhere (is_window_overrun (Data x k body) (notes s h)) WindowOverrun ∷ []) ≡ first_refusal (data_checks (at c.places x) (length body))
  unfolding place_at place_of
  data_same k body =
      open_first
      (RefusedWhere (peer_ended x (notes s h)) Unexpected ∷ RefusedWhere (is_window_overrun (Data x k body) (notes s h)) WindowOverrun ∷ [])
      (RefusedWhere (is_at (λ kept. kept.eof_taken) (at c.places x)) Unexpected
      ∷ RefusedWhere (is_at (λ kept. nat_lt kept.receive_window (length body) || nat_lt kept.max_packet_here (length body)) (at c.places x)) WindowOverrun ∷ [])
      (λ e. rw (open_place e, peer_eof s h o c has x e) refl)

  adjust_same : (bytes : ℕ) → first_refusal (connection_checks s h (ChannelWindowAdjust x bytes)) ≡ first_refusal (take_checks (blocked h) c (ChannelWindowAdjust x bytes))
  unfolding place_at place_of
  adjust_same bytes =
      open_first (RefusedWhere (is_window_too_large (WindowAdjust x bytes) (notes s h)) WindowTooLarge ∷ [])
      (RefusedWhere (is_at (λ kept. nat_lt largest_window (bytes + kept.send_window)) (at c.places x)) WindowTooLarge ∷ [])
      (λ e. rw (open_place e) refl)

  eof_same : first_refusal (connection_checks s h (ChannelEof x)) ≡ first_refusal (take_checks (blocked h) c (ChannelEof x))
  unfolding place_at place_of
  eof_same =
      open_first (RefusedWhere (peer_ended x (notes s h)) Unexpected ∷ []) (RefusedWhere (is_at (λ kept. kept.eof_taken) (at c.places x)) Unexpected ∷ [])
      (λ e. rw (open_place e, peer_eof s h o c has x e) refl)

  reply_same : first_refusal (RefusedWhere (not (is_confirmed x (notes s h))) UnknownChannel ∷ RefusedWhere (waiting_there x (notes s h) == 0) Unexpected ∷ []) ≡ first_refusal (reply_checks (at c.places x))
  unfolding place_at place_of
  reply_same =
      open_first (RefusedWhere (waiting_there x (notes s h) == 0) Unexpected ∷ []) (RefusedWhere (is_at (λ kept. kept.waiting_there == 0) (at c.places x)) Unexpected ∷ [])
      (λ e. rw (open_place e) refl)

  request_same : (name : List ℕ) (want : Bool) (rest : List ℕ)
      → first_refusal (connection_checks s h (ChannelRequest x name want rest)) ≡ first_refusal (take_checks (blocked h) c (ChannelRequest x name want rest))
  unfolding place_at place_of
  request_same name true rest =
      open_first (RefusedWhere (not (has_closed x (notes s h)) && is_limit_reached most_waiting_requests (waiting_here x (notes s h))) OwedFull ∷ [])
      (RefusedWhere (is_at (λ kept. not kept.close_said && is_limit_reached most_waiting_requests kept.waiting_here) (at c.places x)) OwedFull ∷ [])
      (λ e. rw (open_place e) refl)
  request_same name false rest = open_first [] [] (λ e. refl)

  -- no channel is held there, and no reply is owed
  unused_same : (not (is_held x (notes s h)) && not (is_owed x o)) ≡ not (is_some (at c.places x))
  unused_same = parts (is_held x (notes s h)) (is_owed x o) ∙ sym (ap not (used_here s h o c has x))
    where
      parts : (a b : Bool) → (not a && not b) ≡ not (a || b)
      parts true b = refl
      parts false b = refl

  answer_same : first_refusal (RefusedWhere (not (is_held x (notes s h)) && not (is_owed x o)) UnknownChannel ∷ RefusedWhere (not (is_offered s x (notes s h))) Unexpected ∷ [])
      ≡ first_refusal (opening_checks (at c.places x))
  answer_same =
      same_first _ _ UnknownChannel (RefusedWhere (not (is_offered s x (notes s h))) Unexpected ∷ []) (RefusedWhere (not (is_at is_opening (at c.places x))) Unexpected ∷ [])
      unused_same (λ e. rw (opening_is s h o c has x) refl)

module _ (s : Side) (h : List Item) (c : Channels) (has : SumsUp s h (owed_replies s h) c) where
  close_same : (x : ℕ) → first_refusal (connection_checks s h (ChannelClose x)) ≡ first_refusal (take_checks (blocked h) c (ChannelClose x))
  unfolding place_at place_of
  close_same x =
      open_first s h (owed_replies s h) c has x (RefusedWhere (not (has_closed x (notes s h)) && is_owed_limit_reached s h) OwedFull ∷ [])
      (RefusedWhere (not (has_said_close (at c.places x)) && is_queue_full (blocked h) c.owed) OwedFull ∷ [])
      (λ e. rw (open_place s h (owed_replies s h) c has x e, many_here s h c has) refl)

  open_same : (kind : List ℕ) (f w k : ℕ) (rest : List ℕ) → first_refusal (connection_checks s h (ChannelOpen kind f w k rest)) ≡ first_refusal (take_checks (blocked h) c (ChannelOpen kind f w k rest))
  open_same kind f w k rest = rw (full_here s h c has, many_here s h c has) refl

  pub checked : (m : Msg) → first_refusal (connection_checks s h m) ≡ first_refusal (take_checks (blocked h) c m)
  checked (GlobalRequest name want rest) = rw has.here refl
  checked (RequestSuccess rest) = rw has.there refl
  checked RequestFailure = rw has.there refl
  checked (ChannelOpen kind f w k rest) = open_same kind f w k rest
  checked (ChannelOpenConfirmation x f w k rest) = answer_same s h (owed_replies s h) c has x
  checked (ChannelOpenFailure x reason description language) = answer_same s h (owed_replies s h) c has x
  checked (ChannelWindowAdjust x bytes) = adjust_same s h (owed_replies s h) c has x bytes
  checked (ChannelData x body) = data_same s h (owed_replies s h) c has x None body
  checked (ChannelExtendedData x kind body) = data_same s h (owed_replies s h) c has x (Some kind) body
  checked (ChannelEof x) = eof_same s h (owed_replies s h) c has x
  checked (ChannelClose x) = close_same x
  checked (ChannelRequest x name want rest) = request_same s h (owed_replies s h) c has x name want rest
  checked (ChannelSuccess x) = reply_same s h (owed_replies s h) c has x
  checked (ChannelFailure x) = reply_same s h (owed_replies s h) c has x
  checked m = refl

-- ---- asks

-- where an end is not blocked, it owes nothing
owes_none : (s : Side) (l : List channel.Item) → channel.blocked l ≡ false → channel.owed s l ≡ []
owes_none s [] e = refl
owes_none s (channel.Item.Sent x m ∷ l) e = owes_none s l e
owes_none s (channel.Item.Received x m ∷ l) e = rw e (owes_none s l e)
owes_none s (channel.Item.KexinitSent ∷ l) e = absurd (cc e)
owes_none s (channel.Item.NewkeysSent ∷ l) e = refl

-- two tests of an end that is blocked or busy, and what comes after them
after_busy : (b a d due : Bool) (f g : Option AskRefusal) → (b ≡ false → a ≡ d) → f ≡ g
    → cond (b || a) (Some Busy) (cond due (Some RekeyDue) f) ≡ cond (b || d) (Some Busy) (cond due (Some RekeyDue) g)
after_busy true a d due f g e z = refl
after_busy false a d due f g e z = rw (e refl, z) refl

module _ (s : Side) (h : List Item) (c : Channels) (has : SumsUp s h (owed_replies s h) c) (due : Bool) where
  -- on a confirmed channel
  confirmed_first : (x : ℕ) (l m : List (Check AskRefusal)) → (is_confirmed x (notes s h) ≡ true → first_refusal l ≡ first_refusal m)
      → first_refusal (RefusedWhere (not (is_confirmed x (notes s h))) NoChannel ∷ l) ≡ first_refusal (RefusedWhere (not (is_at is_open (at c.places x))) NoChannel ∷ m)
  confirmed_first x l m f = same_first _ _ NoChannel l m (ap not (open_is s h (owed_replies s h) c has x)) (λ e. f (not_false _ e))

  waiting_first : (x : ℕ) (f : Option AskRefusal)
      → cond (not (is_waiting s x (notes s h))) (Some NoChannel) f ≡ cond (not (is_at is_waiting_place (at c.places x))) (Some NoChannel) f
  waiting_first x f = ap (λ b. cond (not b) (Some NoChannel) f) (waiting_is s h (owed_replies s h) c has x)

  data_ask : (x : ℕ) (kind : Option ℕ) (body : List ℕ)
      → first_refusal (RefusedWhere (not (is_confirmed x (notes s h))) NoChannel ∷ RefusedWhere (has_ended x (notes s h)) AskRefusal.Ended
      ∷ RefusedWhere (nat_lt largest_data (length body) || nat_lt (max_packet_there x (notes s h)) (length body)) TooLong
      ∷ RefusedWhere (nat_lt (send_window x (notes s h)) (length body)) NoRoom ∷ [])
      ≡ first_refusal (RefusedWhere (not (is_at is_open (at c.places x))) NoChannel ∷ RefusedWhere (is_at is_ended (at c.places x)) AskRefusal.Ended
      ∷ RefusedWhere (nat_lt largest_data (length body) || is_at (λ kept. nat_lt kept.max_packet_there (length body)) (at c.places x)) TooLong
      ∷ RefusedWhere (is_at (λ kept. nat_lt kept.send_window (length body)) (at c.places x)) NoRoom ∷ [])
  unfolding place_at place_of
  data_ask x kind body =
      confirmed_first x
      (RefusedWhere (has_ended x (notes s h)) AskRefusal.Ended
      ∷ RefusedWhere (nat_lt largest_data (length body) || nat_lt (max_packet_there x (notes s h)) (length body)) TooLong
      ∷ RefusedWhere (nat_lt (send_window x (notes s h)) (length body)) NoRoom ∷ [])
      (RefusedWhere (is_at is_ended (at c.places x)) AskRefusal.Ended
      ∷ RefusedWhere (nat_lt largest_data (length body) || is_at (λ kept. nat_lt kept.max_packet_there (length body)) (at c.places x)) TooLong
      ∷ RefusedWhere (is_at (λ kept. nat_lt kept.send_window (length body)) (at c.places x)) NoRoom ∷ [])
      (λ e. rw (open_place s h (owed_replies s h) c has x e, own_end s h (owed_replies s h) c has x) refl)

  adjust_ask : (x bytes : ℕ)
      → first_refusal (RefusedWhere (not (is_confirmed x (notes s h))) NoChannel ∷ RefusedWhere (has_closed x (notes s h)) AskRefusal.Ended
      ∷ RefusedWhere (nat_lt largest_window (bytes + receive_window x (notes s h))) TooMuch ∷ [])
      ≡ first_refusal (RefusedWhere (not (is_at is_open (at c.places x))) NoChannel ∷ RefusedWhere (has_said_close (at c.places x)) AskRefusal.Ended
      ∷ RefusedWhere (is_at (λ kept. nat_lt largest_window (bytes + kept.receive_window)) (at c.places x)) TooMuch ∷ [])
  unfolding place_at place_of
  adjust_ask x bytes =
      confirmed_first x (RefusedWhere (has_closed x (notes s h)) AskRefusal.Ended ∷ RefusedWhere (nat_lt largest_window (bytes + receive_window x (notes s h))) TooMuch ∷ [])
      (RefusedWhere (has_said_close (at c.places x)) AskRefusal.Ended ∷ RefusedWhere (is_at (λ kept. nat_lt largest_window (bytes + kept.receive_window)) (at c.places x)) TooMuch ∷ [])
      (λ e. rw (open_place s h (owed_replies s h) c has x e) refl)

  eof_ask : (x : ℕ)
      → first_refusal (RefusedWhere (not (is_confirmed x (notes s h))) NoChannel ∷ RefusedWhere (has_ended x (notes s h)) AskRefusal.Ended ∷ [])
      ≡ first_refusal (RefusedWhere (not (is_at is_open (at c.places x))) NoChannel ∷ RefusedWhere (is_at is_ended (at c.places x)) AskRefusal.Ended ∷ [])
  unfolding place_at place_of
  eof_ask x =
      confirmed_first x (RefusedWhere (has_ended x (notes s h)) AskRefusal.Ended ∷ []) (RefusedWhere (is_at is_ended (at c.places x)) AskRefusal.Ended ∷ [])
      (λ e. rw (open_place s h (owed_replies s h) c has x e, own_end s h (owed_replies s h) c has x) refl)

  -- with other checks after, which do not look at the channel
  close_ask : (x : ℕ) (f : Option AskRefusal)
      → cond (not (is_confirmed x (notes s h))) (Some NoChannel) (cond (has_closed x (notes s h)) (Some AskRefusal.Ended) f)
      ≡ cond (not (is_at is_open (at c.places x))) (Some NoChannel) (cond (has_said_close (at c.places x)) (Some AskRefusal.Ended) f)
  unfolding place_at place_of
  close_ask x f = go (is_confirmed x (notes s h)) refl
    where
      go : (b : Bool) → is_confirmed x (notes s h) ≡ b
          → cond (not (is_confirmed x (notes s h))) (Some NoChannel) (cond (has_closed x (notes s h)) (Some AskRefusal.Ended) f)
          ≡ cond (not (is_at is_open (at c.places x))) (Some NoChannel) (cond (has_said_close (at c.places x)) (Some AskRefusal.Ended) f)
      go b e =
          let opened = sym e ∙ open_is s h (owed_replies s h) c has x in
          ap (λ d. cond (not d) (Some NoChannel) (cond (has_closed x (notes s h)) (Some AskRefusal.Ended) f)) e
          ∙ (following b e ∙ ap (λ d. cond (not d) (Some NoChannel) (cond (has_said_close (at c.places x)) (Some AskRefusal.Ended) f)) opened)
        where
          following : (d : Bool) → is_confirmed x (notes s h) ≡ d → cond (not d) (Some NoChannel) (cond (has_closed x (notes s h)) (Some AskRefusal.Ended) f)
              ≡ cond (not d) (Some NoChannel) (cond (has_said_close (at c.places x)) (Some AskRefusal.Ended) f)
          following true z = ap (λ q. cond (has_said_close q) (Some AskRefusal.Ended) f) (sym (open_place s h (owed_replies s h) c has x z))
          following false z = refl

  reply_ask : (x : ℕ)
      → first_refusal (RefusedWhere (not (is_confirmed x (notes s h))) NoChannel ∷ RefusedWhere (has_closed x (notes s h)) AskRefusal.Ended
      ∷ RefusedWhere (waiting_here x (notes s h) == 0) NothingOwed ∷ [])
      ≡ first_refusal (RefusedWhere (not (is_at is_open (at c.places x))) NoChannel ∷ RefusedWhere (has_said_close (at c.places x)) AskRefusal.Ended
      ∷ RefusedWhere (is_at (λ kept. kept.waiting_here == 0) (at c.places x)) NothingOwed ∷ [])
  unfolding place_at place_of
  reply_ask x =
      confirmed_first x (RefusedWhere (has_closed x (notes s h)) AskRefusal.Ended ∷ RefusedWhere (waiting_here x (notes s h) == 0) NothingOwed ∷ [])
      (RefusedWhere (has_said_close (at c.places x)) AskRefusal.Ended ∷ RefusedWhere (is_at (λ kept. kept.waiting_here == 0) (at c.places x)) NothingOwed ∷ [])
      (λ e. rw (open_place s h (owed_replies s h) c has x e) refl)

  -- how many requests of this end wait, where it owes nothing
  waiting_place : (x : ℕ) → is_held x (notes s h) ≡ true → is_limit_reached most_waiting_requests (waiting_there x (notes s h)) ≡ is_at (λ kept. is_limit_reached most_waiting_requests kept.waiting_there) (at c.places x)
  unfolding place_at place_of
  waiting_place x e = rw (kept_is s h (owed_replies s h) c has x e) refl

  busy_held : (x : ℕ) → blocked h ≡ false → (is_held x (notes s h) && is_limit_reached most_waiting_requests (waiting_there x (notes s h))) ≡ is_at (λ kept. is_limit_reached most_waiting_requests kept.waiting_there) (at c.places x)
  busy_held x e = go (is_held x (notes s h)) refl
    where
      none : is_owed x (owed_replies s h) ≡ false
      none = ap (is_owed x) (owes_none s (channel_items h) (blocked_same h ∙ e))

      nothing : is_held x (notes s h) ≡ false → at c.places x ≡ None
      nothing z = has.places x ∙ place_none s x (notes s h) (owed_replies s h) z none

      go : (b : Bool) → is_held x (notes s h) ≡ b → (is_held x (notes s h) && is_limit_reached most_waiting_requests (waiting_there x (notes s h))) ≡ is_at (λ kept. is_limit_reached most_waiting_requests kept.waiting_there) (at c.places x)
      go true z = ap (λ d. d && is_limit_reached most_waiting_requests (waiting_there x (notes s h))) z ∙ waiting_place x z
      go false z = ap (λ d. d && is_limit_reached most_waiting_requests (waiting_there x (notes s h))) z ∙ sym (ap (is_at (λ kept. is_limit_reached most_waiting_requests kept.waiting_there)) (nothing z))

  busy_same : (x : ℕ) (want : Bool) → blocked h ≡ false
      → (want && is_held x (notes s h) && is_limit_reached most_waiting_requests (waiting_there x (notes s h))) ≡ (want && is_at (λ kept. is_limit_reached most_waiting_requests kept.waiting_there) (at c.places x))
  busy_same x false e = refl
  busy_same x true e = busy_held x e

  pub ask_checked : (a : Ask) → first_refusal (channel_ask_checks (blocked h) due s h a) ≡ first_refusal (send_checks (blocked h) due c a)
  ask_checked (AskOpen kind window max_packet rest) = rw (full_here s h c has) refl
  ask_checked (AskConfirm x window max_packet rest) = after_busy (blocked h) false false due _ _ (λ e. refl) (waiting_first x _)
  ask_checked (AskRefuse x reason) = after_busy (blocked h) false false due _ _ (λ e. refl) (waiting_first x _)
  ask_checked (AskData x kind body) = after_busy (blocked h) false false due _ _ (λ e. refl) (data_ask x kind body)
  ask_checked (AskAdjust x bytes) = after_busy (blocked h) false false due _ _ (λ e. refl) (adjust_ask x bytes)
  ask_checked (AskEof x) = after_busy (blocked h) false false due _ _ (λ e. refl) (eof_ask x)
  ask_checked (AskClose x) = after_busy (blocked h) false false due _ _ (λ e. refl) (close_ask x _)
  ask_checked (AskRequest x name want rest) =
      after_busy (blocked h) (want && is_held x (notes s h) && is_limit_reached most_waiting_requests (waiting_there x (notes s h)))
      (want && is_at (λ kept. is_limit_reached most_waiting_requests kept.waiting_there) (at c.places x)) due _ _ (busy_same x want) (close_ask x _)
  ask_checked (AskReply x answer) = after_busy (blocked h) false false due _ _ (λ e. refl) (reply_ask x)
  ask_checked (AskGlobal name want rest) = rw has.there refl
  ask_checked (AskGlobalReply true rest) = rw has.here refl
  ask_checked (AskGlobalReply false rest) = rw has.here refl
  ask_checked a = refl
