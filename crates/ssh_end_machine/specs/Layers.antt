-- The layers above a transport: their states, and their answer to a payload.
use Rattle.std.specs.Prelude.{◌≡◌, ℕ, Bool, true, false, cond, nat_lt, Option, None, Some, List, ◌++◌}
use Rattle.ssh_model.specs.Protocol.Wire.Message.{Msg, Msg.Unimplemented, Msg.Unknown, IsPayload}
use Rattle.std.specs.Option.{option_map}
use Rattle.ssh_model.specs.State.Channels.Summary.{reply_sent}
use Rattle.ssh_model.specs.Protocol.Authentication.Requests.{Judge}
use Rattle.ssh_model.specs.State.Channels.Kept.{Channels, Takes, take_checks}
use Rattle.ssh_model.specs.declared.refusal.Refusal.{Refusal}
use Rattle.ssh_model.specs.declared.refusal.Refusal.TheVariants.{BadMessage, Unexpected}
use Rattle.ssh_model.specs.Protocol.Sessions.Refusals.{Check, first_refusal}
use Rattle.ssh_model.specs.Protocol.Sessions.Turns.{number_of}
use Rattle.ssh_auth.specs.Serving.{IsShortAnswer}
use Rattle.ssh_channels.specs.Rows.{OpensChannel}
use Rattle.ssh_channels.specs.Values.{reply_of, taken_of}
use Rattle.ssh_end_machine.specs.Layer.{Beneath}
use Rattle.ssh_end_machine.specs.Login.{LoginRow, NeedsSignedText, login_checks, login_message, login_takes, probes}
use Rattle.ssh_end_machine.specs.declared.layers.answer.LayerAnswer.{LayerAnswer}
use Rattle.ssh_end_machine.specs.declared.layers.answer.LayerAnswer.TheVariants as answer
use Rattle.ssh_types.specs.declared.call_error.CallError.{CallError}
use Rattle.ssh_types.specs.declared.call_error.CallError.TheVariants as fault
use Rattle.ssh_end_machine.specs.declared.layers.login.Login.{Login}

-- The states of the layers.
pub record Layers : Type 0 where
  pub authentication : Login
  pub channels : Channels

-- which numbers from 50 on are taken outside an exchange
abbrev pub may_take : Beneath → Layers → ℕ → Bool
may_take below layers number =
    cond (nat_lt number 80) (login_takes layers.authentication number) below.is_authenticated

-- the checks on a message that may be taken
abbrev pub layer_checks : Judge → Beneath → Layers → Msg → List (Check Refusal)
layer_checks judge below layers message =
    login_checks judge below.session layers.authentication message ++ take_checks below.is_blocked layers.channels message

-- The payload has a number that may be taken, and is this message.
pub record Reads (below : Beneath) (layers : Layers) (message : Msg) (payload : List ℕ) : Type 0 where
  pub taken : may_take below layers (number_of payload) ≡ true
  pub message_is : IsPayload (probes layers.authentication) message payload

-- Authentication took it.
pub record AuthenticationTakes (judge : Judge) (below : Beneath) (old : Layers) (message : Msg) (given : LayerAnswer)
    (new : Layers) : Type 0 where
  pub row : LoginRow judge below.session old.authentication message given new.authentication
  pub channels : new.channels ≡ old.channels

-- Channels took it.
pub record ChannelsTake (below : Beneath) (old : Layers) (message : Msg) (taken : _) (new : Layers) : Type 0 where
  pub row : Takes below.is_blocked old.channels message taken new.channels
  pub authentication : new.authentication ≡ old.authentication

-- Nothing was done with a message of a number that no message has.
pub record NobodyTakes (old : Layers) (message : Msg) (new : Layers) : Type 0 where
  pub number : ℕ
  pub message_is : message ≡ Unknown number
  pub same : new ≡ old

-- the effect of a message in its layer
abbrev pub LayerRow : Judge → Beneath → Layers → Msg → LayerAnswer → Layers → Type 0
LayerRow judge below old message (answer.Channels given) new = ChannelsTake below old message (taken_of message given) new
LayerRow judge below old message answer.Unknown new = NobodyTakes old message new
LayerRow judge below old message given new = AuthenticationTakes judge below old message given new

-- The payload is this message, which nothing refuses, and this was done with it.
pub record LayersTake (judge : Judge) (below : Beneath) (old : Layers) (message : Msg) (payload : List ℕ)
    (given : LayerAnswer) (new : Layers) : Type 0 where
  pub reads : Reads below old message payload
  pub unrefused : first_refusal (layer_checks judge below old message) ≡ None
  pub row : LayerRow judge below old message given new

-- The reason for which a payload is refused: its number, that it is no message, or a check on its message.
pub data LayersRefuse (judge : Judge) (below : Beneath) (old : Layers) (payload : List ℕ) : Refusal → Type 0 where
  unexpected : may_take below old (number_of payload) ≡ false → LayersRefuse judge below old payload Unexpected
  bad_message : may_take below old (number_of payload) ≡ true →
      ((message : Msg) → IsPayload (probes old.authentication) message payload → ⊥) →
      LayersRefuse judge below old payload BadMessage
  refused : (message : Msg) (why : Refusal) → Reads below old message payload →
      first_refusal (layer_checks judge below old message) ≡ Some why → LayersRefuse judge below old payload why

-- Memory was asked for: for the text that a signature covers, of a payload that no packet has, or for a new channel.
pub data LayersNeedMemory (judge : Judge) (below : Beneath) (old : Layers) (payload : List ℕ) : Type 0 where
  for_text : (message : Msg) → Reads below old message payload → NeedsSignedText judge below.session old.authentication message →
      LayersNeedMemory judge below old payload
  for_channel : (message : Msg) → Reads below old message payload → OpensChannel old.channels message →
      LayersNeedMemory judge below old payload

-- why nothing was taken
abbrev pub LayersFail : Judge → Beneath → Layers → List ℕ → CallError Refusal → Type 0
LayersFail judge below old payload (fault.Refused why) = LayersRefuse judge below old payload why
LayersFail judge below old payload fault.Memory = LayersNeedMemory judge below old payload

-- ---- sent messages

-- The message that is sent for an answer is short enough.
abbrev pub IsShort : LayerAnswer → Type 0
IsShort (answer.Server given) = IsShortAnswer given
IsShort given = Unit {0}

-- the message that is sent at once for an answer; the answered packet had this number
abbrev pub message_of : Layers → LayerAnswer → (number : ℕ) → Option Msg
message_of layers (answer.Channels given) number = option_map reply_sent (option_map reply_of given.reply)
message_of layers answer.Unknown number = Some (Unimplemented number)
message_of layers given number = login_message layers.authentication given
