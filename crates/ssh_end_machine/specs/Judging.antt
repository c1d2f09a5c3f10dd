-- The judgement of an end on a payload from 50 on.
use Rattle.std.specs.Prelude.{◌≡◌, Bool, true, false, None, Result, Ok, Err, IsSome}
use Rattle.ssh_model.specs.Protocol.Wire.Message.{Msg}
use Rattle.ssh_model.specs.declared.refusal.Refusal.{Refusal}
use Rattle.ssh_model.specs.declared.refusal.Refusal.TheVariants.{NumberSpent}
use Rattle.ssh_model.specs.Protocol.Authentication.Requests.{Judge}
use Rattle.ssh_auth.specs.declared.answer.ClientAnswer.TheVariants as to_client
use Rattle.ssh_auth.specs.declared.answer.ServerAnswer.TheVariants as by_server
use Rattle.ssh_transport_machine.specs.State.{State, last_number}
use Rattle.ssh_transport_machine.specs.Answering.{HasRoom}
use Rattle.ssh_end_machine.specs.Above.{IsAnswer, IsBeneath, IsUnsent}
use Rattle.ssh_end_machine.specs.Layer.{Beneath}
use Rattle.ssh_channels.specs.Rows.{OpensChannel}
use Rattle.ssh_end_machine.specs.Layers.{IsShort, Layers, LayersRefuse, LayersTake, Reads, message_of}
use Rattle.ssh_end_machine.specs.Login.{probes}
use Rattle.ssh_end_machine.specs.Told.{client_kind_of, event_kind_of}
use Rattle.ssh_end_machine.specs.declared.replying.ServiceReply.{ServiceReply}
use Rattle.ssh_end_machine.specs.declared.layers.answer.LayerAnswer.{LayerAnswer}
use Rattle.ssh_end_machine.specs.declared.layers.answer.LayerAnswer.TheVariants as answer
use Rattle.ssh_end_machine.specs.declared.step.EventKind.TheVariants as event_kind
use Rattle.ssh_end_machine.specs.declared.step.TakenMessage.{TakenMessage}

-- how a message with this answer was taken; `probing`: a key probe was outstanding
abbrev pub took_by : LayerAnswer → (probing : Bool) → TakenMessage
took_by (answer.Server given) probing = record { channel = None; probing = probing; event_kind = event_kind_of given }
took_by (answer.Client given) probing = record { channel = None; probing = probing; event_kind = client_kind_of given }
took_by (answer.Channels given) probing = record { channel = given.channel; probing = probing; event_kind = event_kind.Message }
took_by answer.Unknown probing = record { channel = None; probing = probing; event_kind = event_kind.Message }

-- The user is authenticated by this.
abbrev pub succeeds : LayerAnswer → Bool
succeeds (answer.Server by_server.Accepted) = true
succeeds (answer.Client (to_client.Authenticated request)) = true
succeeds given = false

-- ---- the judgement of a payload

-- The layers took the message of the payload.
pub record IsTaken {K : Type 0} (judge : Judge) (m : State K) (old : Layers) (given : LayerAnswer)
    (new : Layers) : Type 0 where
  pub below : Beneath
  pub is_beneath : IsBeneath m below
  pub message : Msg
  pub takes : LayersTake judge below old message m.receiver.payload given new
  pub short : IsShort given

-- They took it, and this is made of it.
pub record TakesPayload {K : Type 0} (judge : Judge) (m : State K) (old : Layers) (above : ServiceReply)
    (new : Layers) : Type 0 where
  pub given : LayerAnswer
  pub taken : IsTaken judge m old given new
  pub made : IsAnswer m (took_by given (probes old.authentication)) (message_of new given (last_number m.kept.taking))
      (succeeds given) above

-- They refuse the peer.
pub record RefusesPayload {K : Type 0} (judge : Judge) (m : State K) (old : Layers) (why : Refusal)
    (new : Layers) : Type 0 where
  pub below : Beneath
  pub is_beneath : IsBeneath m below
  pub refuses : LayersRefuse judge below old m.receiver.payload why
  pub same : new ≡ old

-- The peer is refused: by the layers, or since no number is left for what would be sent for what they took.
pub data RefusesPeer {K : Type 0} (judge : Judge) (m : State K) (old : Layers) : Refusal → Layers → Type 0 where
  by_layers : (why : Refusal) (new : Layers) → RefusesPayload judge m old why new → RefusesPeer judge m old why new
  spent : (given : LayerAnswer) (new : Layers) → IsTaken judge m old given new →
      IsUnsent m (message_of new given (last_number m.kept.taking)) → RefusesPeer judge m old NumberSpent new

-- the judgement of the payload that is shown
abbrev pub JudgesPayload : {K : Type 0} → Judge → State K → Layers → Result ServiceReply Refusal → Layers → Type 0
JudgesPayload judge m old (Ok above) new = TakesPayload judge m old above new
JudgesPayload judge m old (Err why) new = RefusesPeer judge m old why new

-- Memory was refused for a new channel, or for a message to be sent, for which a number is left.
pub data JudgeNeedsMemory {K : Type 0} (judge : Judge) (m : State K) (old : Layers) : Type 0 where
  for_channel : (below : Beneath) → IsBeneath m below → (message : Msg) → Reads below old message m.receiver.payload →
      OpensChannel old.channels message → JudgeNeedsMemory judge m old
  unencoded : (given : LayerAnswer) (new : Layers) → IsTaken judge m old given new →
      IsSome (message_of new given (last_number m.kept.taking)) → HasRoom m → JudgeNeedsMemory judge m old
