-- Which asks an end refuses, and what it sends for one on channels, is the same with other secrets.
use Rattle.std.proofs.Common.{◌≡◌, ℕ, Bool, true, false, List, Option, refl, ap, sym, ◌∙◌}
use Rattle.ssh_model.specs.Protocol.Channels.Numbers.{peer_number}
use Rattle.ssh_model.specs.Protocol.Channels.Connection.{ConnectionAsk, channel_ask_checks, notes}
use Rattle.ssh_model.specs.Protocol.Channels.Connection.{ConnectionAsk.opens as ask_opens, ConnectionAsk.confirm as ask_confirm, ConnectionAsk.refuse as ask_refuse}
use Rattle.ssh_model.specs.Protocol.Channels.Connection.{ConnectionAsk.sends as ask_sends, ConnectionAsk.sends_extended as ask_sends_extended, ConnectionAsk.adjust as ask_adjust}
use Rattle.ssh_model.specs.Protocol.Channels.Connection.{ConnectionAsk.eof as ask_eof, ConnectionAsk.close as ask_close, ConnectionAsk.request as ask_request}
use Rattle.ssh_model.specs.Protocol.Channels.Connection.{ConnectionAsk.reply_yes as ask_reply_yes, ConnectionAsk.reply_no as ask_reply_no, ConnectionAsk.global as ask_global}
use Rattle.ssh_model.specs.Protocol.Channels.Connection.{ConnectionAsk.global_yes as ask_global_yes, ConnectionAsk.global_no as ask_global_no}
use Rattle.ssh_model.specs.Protocol.Authentication.Rows.{authentication_ask_checks, checks_of_request}
use Rattle.ssh_model.specs.Protocol.Sessions.Epochs.{count}
use Rattle.ssh_model.specs.Protocol.Sessions.Items.{Ask, Ask.AskNone, Ask.AskPassword, Ask.AskProbe}
use Rattle.ssh_model.specs.Protocol.Sessions.Items.{Ask.AskSign, Ask.AskOpen, Ask.AskConfirm, Ask.AskRefuse, Ask.AskData, Ask.AskAdjust, Ask.AskEof}
use Rattle.ssh_model.specs.Protocol.Sessions.Items.{Ask.AskClose, Ask.AskRequest, Ask.AskReply, Ask.AskGlobal, Ask.AskGlobalReply}
use Rattle.ssh_model.specs.Protocol.Sessions.Items.{Item}
use Rattle.ssh_model.specs.Protocol.Sessions.Phases.{authenticated}
use Rattle.ssh_model.specs.Laws.Secrets.{with_secrets}
use Rattle.ssh_model.proofs.Sessions.WithSecrets as same
use Rattle.ssh_model.specs.declared.side.Side.{Side}
use Rattle.ssh_model.specs.declared.side.Side.TheVariants.{Client, Server}
use Rattle.ssh_model.specs.declared.refusal.Refusal.{Refusal}
use Rattle.ssh_model.specs.Protocol.Sessions.Turns.{Refuses, Refuses.silently, Refuses.spent}
use Rattle.ssh_model.specs.Protocol.Sessions.Turns.{Refuses.said}

-- ---- refusals, and what is sent on channels

module _ (other : List ℕ → List ℕ) where
  pub refusal_same : (h : List Item) (why : Refusal) (payload : Option (List ℕ)) (items : List Item) → Refuses h why payload items →
      Refuses (with_secrets other h) why payload items
  refusal_same h why payload items (silently e) = silently e
  refusal_same h why payload items (spent e) = spent (ap count (same.sent_same other h) ∙ e)
  refusal_same h why payload items (said r b e n s) = said r b e (rw (same.sent_same other h) n) s

  notes_same : (side : Side) (h : List Item) → notes side (with_secrets other h) ≡ notes side h
  notes_same side h = rw (same.channels_same other h) refl

  peer_same : (side : Side) (h : List Item) (x : ℕ) → peer_number x (notes side (with_secrets other h)) ≡ peer_number x (notes side h)
  peer_same side h x = ap (peer_number x) (notes_same side h)

  pub channel_asks_same : (stopped due : Bool) (side : Side) (h : List Item) (ask : Ask) →
      channel_ask_checks stopped due side (with_secrets other h) ask ≡ channel_ask_checks stopped due side h ask
  channel_asks_same stopped due side h (AskOpen k w d r) = rw (same.channels_same other h) refl
  channel_asks_same stopped due side h (AskConfirm x w d r) = rw (same.channels_same other h) refl
  channel_asks_same stopped due side h (AskRefuse x r) = rw (same.channels_same other h) refl
  channel_asks_same stopped due side h (AskData x k b) = rw (same.channels_same other h) refl
  channel_asks_same stopped due side h (AskAdjust x b) = rw (same.channels_same other h) refl
  channel_asks_same stopped due side h (AskEof x) = rw (same.channels_same other h) refl
  channel_asks_same stopped due side h (AskClose x) = rw (same.channels_same other h) refl
  channel_asks_same stopped due side h (AskRequest x n w r) = rw (same.channels_same other h) refl
  channel_asks_same stopped due side h (AskReply x a) = rw (same.channels_same other h) refl
  channel_asks_same stopped due side h (AskGlobal n w r) = rw (same.globals_there_same other h) refl
  channel_asks_same stopped due side h (AskGlobalReply true r) = rw (same.globals_here_same other h) refl
  channel_asks_same stopped due side h (AskGlobalReply false r) = rw (same.globals_here_same other h) refl
  channel_asks_same stopped due side h ask = refl

  pub authenticated_same : (side : Side) (h : List Item) → authenticated side (with_secrets other h) ≡ authenticated side h
  authenticated_same Client h = same.took_success_same other h
  authenticated_same Server h = same.sent_success_same other h

  request_checks_same : (side : Side) (h : List Item) (n : ℕ) → checks_of_request side (with_secrets other h) n ≡ checks_of_request side h n
  request_checks_same side h n = rw (same.took_accept_same other h, same.outstanding_same other h, authenticated_same side h) refl

  pub user_asks_same : (side : Side) (h : List Item) (ask : Ask) →
      authentication_ask_checks side (with_secrets other h) ask ≡ authentication_ask_checks side h ask
  user_asks_same side h (AskNone u) = request_checks_same side h _
  user_asks_same side h (AskPassword u w) = request_checks_same side h _
  user_asks_same side h (AskProbe u n k) = request_checks_same side h _
  user_asks_same side h (AskSign u n k) = request_checks_same side h _
  user_asks_same side h ask = refl

  pub connection_ask : (side : Side) (h : List Item) (ask : Ask) (items : List Item) → ConnectionAsk side h ask items →
      ConnectionAsk side (with_secrets other h) ask items
  connection_ask side h ask items (ask_opens x k w d r b e) = ask_opens x k w d r b (rw (same.channels_same other h) e)
  connection_ask side h ask items (ask_confirm x w d r b) = rw (sym (notes_same side h)) (ask_confirm x w d r b)
  connection_ask side h ask items (ask_refuse x r b) = rw (sym (notes_same side h)) (ask_refuse x r b)
  connection_ask side h ask items (ask_sends x t b) = rw (sym (notes_same side h)) (ask_sends x t b)
  connection_ask side h ask items (ask_sends_extended x k t b) = rw (sym (notes_same side h)) (ask_sends_extended x k t b)
  connection_ask side h ask items (ask_adjust x n b) = rw (sym (notes_same side h)) (ask_adjust x n b)
  connection_ask side h ask items (ask_eof x b) = rw (sym (notes_same side h)) (ask_eof x b)
  connection_ask side h ask items (ask_close x b) = rw (sym (notes_same side h)) (ask_close x b)
  connection_ask side h ask items (ask_request x n w r b) = rw (sym (notes_same side h)) (ask_request x n w r b)
  connection_ask side h ask items (ask_reply_yes x b) = rw (sym (notes_same side h)) (ask_reply_yes x b)
  connection_ask side h ask items (ask_reply_no x b) = rw (sym (notes_same side h)) (ask_reply_no x b)
  connection_ask side h ask items (ask_global n w r b) = ask_global n w r b
  connection_ask side h ask items (ask_global_yes r b) = ask_global_yes r b
  connection_ask side h ask items (ask_global_no r b) = ask_global_no r b
