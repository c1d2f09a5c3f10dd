-- The rows of the asks, from what they send and what they change.
use Rattle.std.proofs.Common.{◌≡◌, ◌≤◌, ℕ, ◌+◌, ◌-◌, Bool, true, false, Option, Some, None, length, List, [], refl}
use Rattle.ssh_model.specs.Protocol.Bounds.{largest_window}
use Rattle.ssh_model.specs.Protocol.Wire.Message.{Msg.GlobalRequest, Msg.ChannelOpen, Msg.ChannelOpenConfirmation, Msg.ChannelOpenFailure, Msg.ChannelWindowAdjust, Msg.ChannelEof, Msg.ChannelClose, Msg.ChannelRequest}
use Rattle.ssh_model.specs.declared.ask_refusal.AskRefusal.TheVariants.{Busy, RekeyDue}
use Rattle.ssh_model.specs.Protocol.Sessions.Refusals.{first_refusal}
use Rattle.ssh_model.specs.Protocol.Sessions.Items.{Ask.AskOpen, Ask.AskConfirm, Ask.AskRefuse, Ask.AskData, Ask.AskAdjust, Ask.AskEof, Ask.AskClose, Ask.AskRequest, Ask.AskReply, Ask.AskGlobal, Ask.AskGlobalReply, Fact.Opening}
use Rattle.ssh_model.specs.State.Channels.Places.{at}
use Rattle.ssh_model.specs.State.Channels.Kept.{Channels, IsUnused, Sent, Sends, Sends.opens, Sends.confirm, Sends.refuse, Sends.gives_data, Sends.gives_extended, Sends.adjust, Sends.eof, Sends.close, Sends.request, Sends.reply_yes, Sends.reply_no, Sends.global, Sends.global_yes, Sends.global_no, change, put, count_where, opening_place, peer_of, send_checks, sends_on, sends_globally}
use Rattle.ssh_channels.specs.Rows.{data_message, is_busy, reply_message, global_reply_message}
use Rattle.ssh_channels.specs.Values.{ask_of}
use Rattle.ssh_channels.specs.declared.ask.Ask as code
use Rattle.ssh_channels.specs.declared.ask.Ask.TheVariants as ask

module _ (channels : Channels) where
  pub opening_sent : (number : ℕ) (kind : List ℕ) (window max_packet : ℕ) (rest : List ℕ) (sent : Sent) (new : Channels) → IsUnused channels.places number → window ≤ largest_window
      → sent ≡ record { channel = Some number; message = ChannelOpen kind number window max_packet rest; fact = Some (Opening number) }
      → new ≡ put number (Some (opening_place window max_packet)) channels → Sends channels (AskOpen kind window max_packet rest) sent new
  opening_sent number kind window max_packet rest sent new unused bound s n = rw (s, n) (opens number kind window max_packet rest unused bound)

  pub confirmation_sent : (number window max_packet : ℕ) (rest : List ℕ) (sent : Sent) (new : Channels) → window ≤ largest_window
      → sent ≡ sends_on number (ChannelOpenConfirmation (peer_of (at channels.places number)) number window max_packet rest)
      → new ≡ change number (λ kept. record kept { is_answered = true; receive_window = window; max_packet_here = max_packet }) channels
      → Sends channels (AskConfirm number window max_packet rest) sent new
  confirmation_sent number window max_packet rest sent new bound s n = rw (s, n) (confirm number window max_packet rest bound)

  pub failure_sent : (number reason : ℕ) (sent : Sent) (new : Channels) → sent ≡ sends_on number (ChannelOpenFailure (peer_of (at channels.places number)) reason [] [])
      → new ≡ put number None channels → Sends channels (AskRefuse number reason) sent new
  failure_sent number reason sent new s n = rw (s, n) (refuse number reason)

  pub data_sent : (number : ℕ) (kind : Option ℕ) (body : List ℕ) (sent : Sent) (new : Channels) → sent ≡ sends_on number (data_message (peer_of (at channels.places number)) kind body)
      → new ≡ change number (λ kept. record kept { send_window = kept.send_window - length body }) channels → Sends channels (AskData number kind body) sent new
  data_sent number None body sent new s n = rw (s, n) (gives_data number body)
  data_sent number (Some kind) body sent new s n = rw (s, n) (gives_extended number kind body)

  pub adjust_sent : (number bytes : ℕ) (sent : Sent) (new : Channels) → sent ≡ sends_on number (ChannelWindowAdjust (peer_of (at channels.places number)) bytes)
      → new ≡ change number (λ kept. record kept { receive_window = kept.receive_window + bytes }) channels → Sends channels (AskAdjust number bytes) sent new
  adjust_sent number bytes sent new s n = rw (s, n) (adjust number bytes)

  pub eof_sent : (number : ℕ) (sent : Sent) (new : Channels) → sent ≡ sends_on number (ChannelEof (peer_of (at channels.places number)))
      → new ≡ change number (λ kept. record kept { eof_sent = true }) channels → Sends channels (AskEof number) sent new
  eof_sent number sent new s n = rw (s, n) (eof number)

  pub close_sent : (number : ℕ) (sent : Sent) (new : Channels) → sent ≡ sends_on number (ChannelClose (peer_of (at channels.places number)))
      → new ≡ change number (λ kept. record kept { close_said = true }) channels → Sends channels (AskClose number) sent new
  close_sent number sent new s n = rw (s, n) (close number)

  pub request_sent : (number : ℕ) (name : List ℕ) (want : Bool) (rest : List ℕ) (sent : Sent) (new : Channels)
      → sent ≡ sends_on number (ChannelRequest (peer_of (at channels.places number)) name want rest)
      → new ≡ change number (λ kept. record kept { waiting_there = count_where want kept.waiting_there }) channels → Sends channels (AskRequest number name want rest) sent new
  request_sent number name want rest sent new s n = rw (s, n) (request number name want rest)

  pub reply_sent : (number : ℕ) (answer : Bool) (sent : Sent) (new : Channels) → sent ≡ sends_on number (reply_message (peer_of (at channels.places number)) answer)
      → new ≡ change number (λ kept. record kept { waiting_here = kept.waiting_here - 1 }) channels → Sends channels (AskReply number answer) sent new
  reply_sent number true sent new s n = rw (s, n) (reply_yes number)
  reply_sent number false sent new s n = rw (s, n) (reply_no number)

  pub global_sent : (name : List ℕ) (want : Bool) (rest : List ℕ) (sent : Sent) (new : Channels) → sent ≡ sends_globally (GlobalRequest name want rest)
      → new ≡ record channels { globals_there = count_where want channels.globals_there } → Sends channels (AskGlobal name want rest) sent new
  global_sent name want rest sent new s n = rw (s, n) (global name want rest)

  pub global_reply_sent : (answer : Bool) (rest : List ℕ) (sent : Sent) (new : Channels) → sent ≡ sends_globally (global_reply_message answer rest)
      → new ≡ record channels { globals_here = channels.globals_here - 1 } → Sends channels (AskGlobalReply answer rest) sent new
  global_reply_sent true rest sent new s n = rw (s, n) (global_yes rest)
  global_reply_sent false rest sent new s n = rw (s, n) (global_no rest)

-- ---- an ask within a key exchange, or where one is due

pub refused_while_blocked : (is_due : Bool) (channels : Channels) (ask : code.Ask) → first_refusal (send_checks true is_due channels (ask_of ask)) ≡ Some Busy
refused_while_blocked is_due channels (ask.Open kind window max_packet rest) = refl
refused_while_blocked is_due channels (ask.Confirm channel window max_packet rest) = refl
refused_while_blocked is_due channels (ask.Refuse channel reason) = refl
refused_while_blocked is_due channels (ask.Data channel kind body) = refl
refused_while_blocked is_due channels (ask.Adjust channel bytes) = refl
refused_while_blocked is_due channels (ask.Eof channel) = refl
refused_while_blocked is_due channels (ask.Close channel) = refl
refused_while_blocked is_due channels (ask.Request channel name want rest) = refl
refused_while_blocked is_due channels (ask.Reply channel success) = refl
refused_while_blocked is_due channels (ask.Global name want rest) = refl
refused_while_blocked is_due channels (ask.GlobalReply true rest) = refl
refused_while_blocked is_due channels (ask.GlobalReply false rest) = refl

pub refused_as_busy : (is_due : Bool) (channels : Channels) (ask : code.Ask) → is_busy channels (ask_of ask) ≡ true → first_refusal (send_checks false is_due channels (ask_of ask)) ≡ Some Busy
refused_as_busy is_due channels (ask.Open kind window max_packet rest) e = absurd (cc e)
refused_as_busy is_due channels (ask.Confirm channel window max_packet rest) e = absurd (cc e)
refused_as_busy is_due channels (ask.Refuse channel reason) e = absurd (cc e)
refused_as_busy is_due channels (ask.Data channel kind body) e = absurd (cc e)
refused_as_busy is_due channels (ask.Adjust channel bytes) e = absurd (cc e)
refused_as_busy is_due channels (ask.Eof channel) e = absurd (cc e)
refused_as_busy is_due channels (ask.Close channel) e = absurd (cc e)
refused_as_busy is_due channels (ask.Request channel name want rest) e = rw e refl
refused_as_busy is_due channels (ask.Reply channel success) e = absurd (cc e)
refused_as_busy is_due channels (ask.Global name want rest) e = rw e refl
refused_as_busy is_due channels (ask.GlobalReply success rest) e = absurd (cc e)

pub refused_as_due : (channels : Channels) (ask : code.Ask) → is_busy channels (ask_of ask) ≡ false → first_refusal (send_checks false true channels (ask_of ask)) ≡ Some RekeyDue
refused_as_due channels (ask.Open kind window max_packet rest) e = refl
refused_as_due channels (ask.Confirm channel window max_packet rest) e = refl
refused_as_due channels (ask.Refuse channel reason) e = refl
refused_as_due channels (ask.Data channel kind body) e = refl
refused_as_due channels (ask.Adjust channel bytes) e = refl
refused_as_due channels (ask.Eof channel) e = refl
refused_as_due channels (ask.Close channel) e = refl
refused_as_due channels (ask.Request channel name want rest) e = rw e refl
refused_as_due channels (ask.Reply channel success) e = refl
refused_as_due channels (ask.Global name want rest) e = rw e refl
refused_as_due channels (ask.GlobalReply true rest) e = refl
refused_as_due channels (ask.GlobalReply false rest) e = refl
