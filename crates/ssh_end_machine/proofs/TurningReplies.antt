-- The reply that a message makes due on channels has an encoding: the number of the peer in it is a uint32.
use Rattle.std.proofs.Common.{◌≡◌, ℕ, ◌+◌, ◌-◌, ◌%◌, ◌<◌, ◌^◌, Bool, true, false, List, length, arith, refl, Option, Some, None}
use Rattle.std.specs.Option.{option_map}
use Rattle.std.specs.Prelude.{IsSome}
use Rattle.ssh_model.specs.Protocol.Wire.Message.{Msg, IsPayload}
use Rattle.ssh_model.specs.Protocol.Wire.Outcome.{Outcome.Opens}
use Rattle.ssh_model.specs.Protocol.Wire.Sealing.{Crypto}
use Rattle.ssh_model.specs.Protocol.Wire.Unit.{HasNumber, PacketUnit}
use Rattle.ssh_model.specs.State.Channels.Kept.{Channels, DueReply, DueReply.AnswersClose, DueReply.RefusesOpen, Taken, Takes, close_reply, has_said_close, peer_of, sent_at_once}
use Rattle.ssh_model.specs.State.Channels.Places.{at}
use Rattle.ssh_model.specs.State.Channels.Summary.{reply_sent, told}
use Rattle.ssh_model.specs.State.End.Payloads.{AnswersAbove, ReadsAbove, reply_items}
use Rattle.ssh_model.specs.State.End.State.{Authentication, EndState, above_checks}
use Rattle.ssh_model.specs.Protocol.Sessions.Items.{Fact, Item, messages_sent}
use Rattle.ssh_model.specs.Protocol.Sessions.Parties.{Parties}
use Rattle.ssh_model.specs.Protocol.Sessions.Refusals.{first_refusal}
use Rattle.ssh_model.specs.Protocol.Sessions.TurnClaims.{HasEncoding}
use Rattle.ssh_model.specs.Protocol.Sessions.Turns.{AreEncoded}
use Rattle.ssh_model.specs.Laws.Senders.{open_sender_below}
use Rattle.ssh_model.specs.Laws.Written.{close_encoded, open_failure_encoded}
use Rattle.ssh_end_machine.specs.Above.{SpentAbove}

-- ---- replies

-- a reply that is sent at once has an encoding
abbrev pub EncodesDue : Option DueReply → Type 0
EncodesDue None = Unit {0}
EncodesDue (Some reply) = HasEncoding (reply_sent reply)

at_once : (is_blocked : Bool) (reply : DueReply) → HasEncoding (reply_sent reply) → EncodesDue (sent_at_once is_blocked reply)
at_once true reply x = tt
at_once false reply x = x

close_at_once : (is_said is_blocked : Bool) (number to : ℕ) → to < 2 ^ 32 → EncodesDue (close_reply is_said is_blocked number to)
close_at_once true is_blocked number to x = tt
close_at_once false is_blocked number to x = at_once is_blocked (AnswersClose number to) (close_encoded to x)

-- The numbers that the peer gave the channels are uint32s.
module _ (c : Channels) (named : (number : ℕ) → peer_of (at c.places number) < 2 ^ 32) where
  pub due_encoded : (is_blocked probing : Bool) (message : Msg) (payload : List ℕ) (taken : Taken) (new : Channels) → Takes is_blocked c message taken new → IsPayload probing message payload → EncodesDue taken.reply
  due_encoded b probing message payload taken new (Takes.global_request name want rest) is = tt
  due_encoded b probing message payload taken new (Takes.request_success rest) is = tt
  due_encoded b probing message payload taken new Takes.request_failure is = tt
  due_encoded b probing message payload taken new (Takes.open_taken number kind sender window max_packet rest unused) is = tt
  due_encoded b probing message payload taken new (Takes.open_refused kind sender window max_packet rest full) is =
      at_once b (RefusesOpen sender) (open_failure_encoded sender 4 (open_sender_below kind sender window max_packet rest payload is) (omega arith))
  due_encoded b probing message payload taken new (Takes.confirmation recipient sender window max_packet rest) is = tt
  due_encoded b probing message payload taken new (Takes.failure recipient reason description language) is = tt
  due_encoded b probing message payload taken new (Takes.adjust recipient bytes) is = tt
  due_encoded b probing message payload taken new (Takes.got_data recipient body) is = tt
  due_encoded b probing message payload taken new (Takes.got_extended recipient kind body) is = tt
  due_encoded b probing message payload taken new (Takes.eof recipient) is = tt
  due_encoded b probing message payload taken new (Takes.close recipient) is =
      close_at_once (has_said_close (at c.places recipient)) b recipient (peer_of (at c.places recipient)) (named recipient)
  due_encoded b probing message payload taken new (Takes.request recipient name want rest) is = tt
  due_encoded b probing message payload taken new (Takes.success recipient) is = tt
  due_encoded b probing message payload taken new (Takes.no_success recipient) is = tt

-- ---- the number of a packet

pub has_number : {K : Type 0} (c : Crypto K) (key : Option K) (number count : ℕ) (unit payload : List ℕ) → PacketUnit c key number count unit (Opens payload) → HasNumber number count
has_number c key number count unit payload (PacketUnit.opens _ has bytes wire) = has

pub last_of : (n : ℕ) → n < 2 ^ 32 → ((n + 1) % 2 ^ 32 + (2 ^ 32 - 1)) % 2 ^ 32 ≡ n
last_of n small = omega (arith, small)

-- ---- what would be sent

-- A message would be sent, which has an encoding.
pub record EncodedAbove {K : Type 0} (p : Parties K) (e : EndState K) (payload : List ℕ) : Type 0 where
  pub message : Msg
  pub channel : Option ℕ
  pub items : List Item
  pub authentication : Authentication
  pub channels : Channels
  pub reads : ReadsAbove e message payload
  pub unrefused : first_refusal (above_checks p e message) ≡ None
  pub answers : AnswersAbove p e message channel items authentication channels
  pub encoded : AreEncoded items
  pub one : length (messages_sent items) ≡ 1

-- No number is left for it.
pub spent_above : {K : Type 0} (p : Parties K) (e : EndState K) (payload : List ℕ) → EncodedAbove p e payload → e.transport.sending.count ≡ 2 ^ 32 → SpentAbove p e payload
spent_above p e payload x none_left = record {
  message = x.message;
  channel = x.channel;
  items = x.items;
  authentication = x.authentication;
  channels = x.channels;
  reads = x.reads;
  unrefused = x.unrefused;
  answers = x.answers;
  encoded = x.encoded;
  some = omega (arith, x.one);
  none_left = none_left;
}

-- a reply that is due has an encoding
pub due_above : {K : Type 0} (p : Parties K) (e : EndState K) (payload : List ℕ) (message : Msg) (channel : Option ℕ) (due : Option DueReply) (fact : Option Fact) (authentication : Authentication) (channels : Channels) → ReadsAbove e message payload → first_refusal (above_checks p e message) ≡ None →
    ((reply : List ℕ) → AnswersAbove p e message channel (told fact (reply_items due reply)) authentication channels) → EncodesDue due → IsSome (option_map reply_sent due) → EncodedAbove p e payload
due_above p e payload message channel None fact authentication channels reads fine answers encoded some = absurd (cc some)
due_above p e payload message channel (Some due) None authentication channels reads fine answers encoded some = record {
  message = message;
  channel = channel;
  items = _;
  authentication = authentication;
  channels = channels;
  reads = reads;
  unrefused = fine;
  answers = answers encoded.payload;
  encoded = (encoded.encodes, tt);
  one = refl;
}
due_above p e payload message channel (Some due) (Some fact) authentication channels reads fine answers encoded some = record {
  message = message;
  channel = channel;
  items = _;
  authentication = authentication;
  channels = channels;
  reads = reads;
  unrefused = fine;
  answers = answers encoded.payload;
  encoded = (encoded.encodes, tt);
  one = refl;
}
