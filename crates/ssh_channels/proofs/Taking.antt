-- The rows of the messages that are taken, from what they answer and what they change.
use Rattle.std.proofs.Common.{◌≡◌, ℕ, ◌+◌, ◌-◌, Bool, true, false, not, ◌&&◌, Some, None, length, List, []}
use Rattle.ssh_model.specs.Protocol.Wire.Message.{Msg.GlobalRequest, Msg.RequestSuccess, Msg.RequestFailure, Msg.ChannelOpen, Msg.ChannelOpenConfirmation, Msg.ChannelOpenFailure, Msg.ChannelWindowAdjust, Msg.ChannelData, Msg.ChannelExtendedData, Msg.ChannelEof, Msg.ChannelClose, Msg.ChannelRequest, Msg.ChannelSuccess, Msg.ChannelFailure}
use Rattle.ssh_model.specs.Protocol.Sessions.Items.{Fact.Global, Fact.GlobalDone, Fact.Opened, Fact.Confirmed, Fact.OpenFailed, Fact.GotData, Fact.Adjusted, Fact.Ended, Fact.Closed, Fact.Requested, Fact.RequestDone}
use Rattle.ssh_model.specs.State.Channels.Places.{at}
use Rattle.ssh_model.specs.State.Channels.Kept.{Channels, DueReply.RefusesOpen, IsUnused, Taken, Takes, Takes.global_request, Takes.request_success, Takes.request_failure, Takes.open_taken, Takes.open_refused, Takes.confirmation, Takes.failure, Takes.adjust, Takes.got_data, Takes.got_extended, Takes.eof, Takes.close, Takes.request, Takes.success, Takes.no_success, change, put, tells, count_where, has_said_close, is_table_full, owed_where, peer_of, sent_at_once, close_reply, close_taken, waiting_place}

module _ (is_blocked : Bool) (channels : Channels) where
  pub global_taken : (name : List ℕ) (want : Bool) (rest : List ℕ) (taken : Taken) (new : Channels) → taken ≡ tells None (Global name want rest)
      → new ≡ record channels { globals_here = count_where want channels.globals_here } → Takes is_blocked channels (GlobalRequest name want rest) taken new
  global_taken name want rest taken new t n = rw (t, n) (global_request name want rest)

  pub global_done : (rest : List ℕ) (taken : Taken) (new : Channels) → taken ≡ tells None (GlobalDone true rest) → new ≡ record channels { globals_there = channels.globals_there - 1 }
      → Takes is_blocked channels (RequestSuccess rest) taken new
  global_done rest taken new t n = rw (t, n) (request_success rest)

  pub global_failed : (taken : Taken) (new : Channels) → taken ≡ tells None (GlobalDone false []) → new ≡ record channels { globals_there = channels.globals_there - 1 }
      → Takes is_blocked channels RequestFailure taken new
  global_failed taken new t n = rw (t, n) request_failure

  pub opened : (number : ℕ) (kind : List ℕ) (sender window max_packet : ℕ) (rest : List ℕ) (taken : Taken) (new : Channels) → IsUnused channels.places number
      → taken ≡ tells (Some number) (Opened number kind window max_packet rest) → new ≡ put number (Some (waiting_place sender window max_packet)) channels
      → Takes is_blocked channels (ChannelOpen kind sender window max_packet rest) taken new
  opened number kind sender window max_packet rest taken new unused t n = rw (t, n) (open_taken number kind sender window max_packet rest unused)

  pub open_declined : (kind : List ℕ) (sender window max_packet : ℕ) (rest : List ℕ) (taken : Taken) (new : Channels) → is_table_full channels.places ≡ true
      → taken ≡ record { channel = None; reply = sent_at_once is_blocked (RefusesOpen sender); fact = None } → new ≡ owed_where is_blocked (RefusesOpen sender) channels
      → Takes is_blocked channels (ChannelOpen kind sender window max_packet rest) taken new
  open_declined kind sender window max_packet rest taken new full t n = rw (t, n) (open_refused kind sender window max_packet rest full)

  pub confirmed : (recipient sender window max_packet : ℕ) (rest : List ℕ) (taken : Taken) (new : Channels) → taken ≡ tells (Some recipient) (Confirmed recipient window max_packet rest)
      → new ≡ change recipient (λ kept. record kept { is_answered = true; peer_number = sender; send_window = window; max_packet_there = max_packet }) channels
      → Takes is_blocked channels (ChannelOpenConfirmation recipient sender window max_packet rest) taken new
  confirmed recipient sender window max_packet rest taken new t n = rw (t, n) (confirmation recipient sender window max_packet rest)

  pub open_failed : (recipient reason : ℕ) (description language : List ℕ) (taken : Taken) (new : Channels) → taken ≡ tells (Some recipient) (OpenFailed recipient reason description)
      → new ≡ put recipient None channels → Takes is_blocked channels (ChannelOpenFailure recipient reason description language) taken new
  open_failed recipient reason description language taken new t n = rw (t, n) (failure recipient reason description language)

  pub adjust_taken : (recipient bytes : ℕ) (taken : Taken) (new : Channels) → taken ≡ tells (Some recipient) (Adjusted recipient bytes)
      → new ≡ change recipient (λ kept. record kept { send_window = kept.send_window + bytes }) channels → Takes is_blocked channels (ChannelWindowAdjust recipient bytes) taken new
  adjust_taken recipient bytes taken new t n = rw (t, n) (adjust recipient bytes)

  pub data_taken : (recipient : ℕ) (body : List ℕ) (taken : Taken) (new : Channels) → taken ≡ tells (Some recipient) (GotData recipient None body)
      → new ≡ change recipient (λ kept. record kept { receive_window = kept.receive_window - length body }) channels
      → Takes is_blocked channels (ChannelData recipient body) taken new
  data_taken recipient body taken new t n = rw (t, n) (got_data recipient body)

  pub extended_data_taken : (recipient kind : ℕ) (body : List ℕ) (taken : Taken) (new : Channels) → taken ≡ tells (Some recipient) (GotData recipient (Some kind) body)
      → new ≡ change recipient (λ kept. record kept { receive_window = kept.receive_window - length body }) channels
      → Takes is_blocked channels (ChannelExtendedData recipient kind body) taken new
  extended_data_taken recipient kind body taken new t n = rw (t, n) (got_extended recipient kind body)

  pub eof_taken : (recipient : ℕ) (taken : Taken) (new : Channels) → taken ≡ tells (Some recipient) (Ended recipient)
      → new ≡ change recipient (λ kept. record kept { eof_taken = true }) channels → Takes is_blocked channels (ChannelEof recipient) taken new
  eof_taken recipient taken new t n = rw (t, n) (eof recipient)

  pub closed : (recipient : ℕ) (taken : Taken) (new : Channels)
      → taken ≡ record {
        channel = Some recipient;
        reply = close_reply (has_said_close (at channels.places recipient)) is_blocked recipient (peer_of (at channels.places recipient));
        fact = Some (Closed recipient);
      }
      → new ≡ close_taken (has_said_close (at channels.places recipient)) is_blocked recipient (peer_of (at channels.places recipient)) channels
      → Takes is_blocked channels (ChannelClose recipient) taken new
  closed recipient taken new t n = rw (t, n) (close recipient)

  pub request_taken : (recipient : ℕ) (name : List ℕ) (want : Bool) (rest : List ℕ) (taken : Taken) (new : Channels) → taken ≡ tells (Some recipient) (Requested recipient name want rest)
      → new ≡ change recipient (λ kept. record kept { waiting_here = count_where (want && not kept.close_said) kept.waiting_here }) channels
      → Takes is_blocked channels (ChannelRequest recipient name want rest) taken new
  request_taken recipient name want rest taken new t n = rw (t, n) (request recipient name want rest)

  pub request_done : (recipient : ℕ) (taken : Taken) (new : Channels) → taken ≡ tells (Some recipient) (RequestDone recipient true)
      → new ≡ change recipient (λ kept. record kept { waiting_there = kept.waiting_there - 1 }) channels → Takes is_blocked channels (ChannelSuccess recipient) taken new
  request_done recipient taken new t n = rw (t, n) (success recipient)

  pub request_failed : (recipient : ℕ) (taken : Taken) (new : Channels) → taken ≡ tells (Some recipient) (RequestDone recipient false)
      → new ≡ change recipient (λ kept. record kept { waiting_there = kept.waiting_there - 1 }) channels → Takes is_blocked channels (ChannelFailure recipient) taken new
  request_failed recipient taken new t n = rw (t, n) (no_success recipient)
