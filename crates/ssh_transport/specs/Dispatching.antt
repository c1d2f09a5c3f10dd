-- What an end does with a payload that it took, once it is classified.
use Rattle.std.specs.Prelude.{◌≡◌, ℕ, ◌≤◌, true, List, Some, None, codes}
use Rattle.ssh_model.specs.Protocol.Wire.Message.{Msg, Msg.ServiceAccept, Msg.Unimplemented}
use Rattle.ssh_model.specs.Protocol.Wire.Sealing.{Crypto}
use Rattle.ssh_model.specs.Protocol.Sessions.Phases as model
use Rattle.ssh_model.specs.State.TransportLayer.Directions.{renewed}
use Rattle.ssh_model.specs.State.TransportLayer.Kept.{Transport, after_sent}
use Rattle.ssh_model.specs.declared.refusal.Refusal.{Refusal}
use Rattle.ssh_packet.specs.Directions.{Receives}
use Rattle.ssh_packet.specs.declared.step.PacketStep.{PacketStep}
use Rattle.ssh_packet.specs.declared.step.PacketStep.TheVariants as step
use Rattle.ssh_transport_machine.specs.Classifying.{PayloadIs}
use Rattle.ssh_transport.specs.Outcomes.{answer_outcome}
use Rattle.ssh_transport_machine.specs.Puts.{Outs, Refuses}
use Rattle.ssh_transport_machine.specs.State.{State, before_taken, last_number}
use Rattle.ssh_transport_machine.specs.declared.machine.classifying.Classified.{Classified}
use Rattle.ssh_transport_machine.specs.declared.machine.classifying.Classified.TheVariants as classified
use Rattle.ssh_transport.specs.Own as own
use Rattle.ssh_transport_machine.specs.declared.machine.sending.SendOutcome.{SendOutcome}
use Rattle.ssh_transport.specs.declared.outcome.Handled.{Handled}
use Rattle.ssh_transport.specs.declared.outcome.Handled.TheVariants as handled
use Rattle.ssh_transport.specs.declared.outcome.TransportTurn.{TransportTurn}
use Rattle.ssh_transport.specs.declared.outcome.TransportTurn.TheVariants as outcome
use Rattle.ssh_model.specs.Protocol.Bounds.{numbers_of_epoch}
use Rattle.ssh_transport_machine.specs.Answering.{Answers, HasRoom, IsQuiet, RefusalNeedsMemory}
use Rattle.ssh_transport.specs.Own.{Own, Share, Share.OfRole, Share.Shared}

-- ---- what is answered

-- The answer to a message that did this is told so.
pub record AnswersBy {K : Type 0} (c : Crypto K) (old : State K) (message : Msg) (kept : Transport K) (handled : Handled)
    (given : TransportTurn) (new : State K) (o : Outs) : Type 0 where
  pub answer : SendOutcome
  pub told : given ≡ answer_outcome answer handled
  pub answers : Answers c old message kept answer new o

-- ---- the rows of payloads

-- The peer was refused for this. What is read of it stays as it was.
pub record RefusalDone {K : Type 0} (c : Crypto K) (old : State K) (why : Refusal) (given : TransportTurn)
    (new : State K) (o : Outs) : Type 0 where
  pub told : given ≡ outcome.Refused why
  pub refuses : Refuses c old.kept why new.kept o
  pub reading : new ≡ record old { kept = new.kept }

-- Nothing was put out, and this is kept.
pub record Becomes {K : Type 0} (old : State K) (kept : Transport K) (new : State K) (o : Outs) : Type 0 where
  pub after : new ≡ record old { kept = kept }
  pub quiet : IsQuiet o

-- The same, and this is told.
pub record BecomesBy {K : Type 0} (old : State K) (kept : Transport K) (turn given : TransportTurn) (new : State K)
    (o : Outs) : Type 0 where
  pub told : given ≡ turn
  pub becomes : Becomes old kept new o

-- Nothing was done yet: this is left to the role.
pub record IsLeft {K : Type 0} (old : State K) (what left : Own) (new : State K) (o : Outs) : Type 0 where
  pub same : left ≡ what
  pub after : new ≡ old
  pub quiet : IsQuiet o

-- Packets are taken under the key that was pending.
pub record NewkeysTaken {K : Type 0} (old new : State K) : Type 0 where
  pub key : K
  pub pending : old.kept.pending ≡ Some key
  pub after : new ≡ record old {
    receiver = record old.receiver { direction = renewed old.kept.strict key old.receiver.direction };
    kept = record old.kept {
      taking = renewed old.kept.strict key old.receiver.direction;
      phase = model.Phase.Normal;
      pending = None;
    };
  }

-- NEWKEYS was taken, and nothing was put out.
pub record NewkeysDone {K : Type 0} (old : State K) (given : TransportTurn) (new : State K) (o : Outs) : Type 0 where
  pub told : given ≡ outcome.Done handled.NewKeys
  pub taken : NewkeysTaken old new
  pub quiet : IsQuiet o

-- What was done with a payload that is this to the end, and what is told of it, one clause a row; or what is left of it
-- to the role.
abbrev pub Does : {K : Type 0} → Crypto K → State K → Classified → Share → State K → Outs → Type 0
Does c old (classified.Refused why) (Shared given) new o = RefusalDone c old why given new o
Does c old classified.Skipped (Shared given) new o =
    BecomesBy old (record old.kept { phase = model.Phase.Exchanging }) (outcome.Done handled.Skipped) given new o
Does c old classified.Disconnected (Shared given) new o =
    BecomesBy old (record old.kept { dead = true }) (outcome.Done handled.Disconnected) given new o
Does c old classified.Told (Shared given) new o = BecomesBy old old.kept (outcome.Done handled.Told) given new o
-- RFC 4253 section 11.4: with the number of the packet
Does c old classified.Unknown (Shared given) new o =
    AnswersBy c old (Unimplemented (last_number old.kept.taking)) (after_sent old.kept) handled.Unknown given new o
Does c old classified.ServiceRequested (Shared given) new o =
    AnswersBy c old (ServiceAccept (codes "ssh-userauth")) (record (after_sent old.kept) { requested = true })
    handled.ServiceRequested given new o
Does c old classified.ServiceAccepted (Shared given) new o =
    BecomesBy old (record old.kept { accepted = true }) (outcome.Done handled.ServiceAccepted) given new o
Does c old (classified.Kexinit facts) (OfRole left) new o = IsLeft old (own.Own.Kexinit facts) left new o
Does c old classified.NewKeys (Shared given) new o = NewkeysDone old given new o
Does c old classified.EcdhInit (OfRole left) new o = IsLeft old own.Own.EcdhInit left new o
Does c old classified.Reply (OfRole left) new o = IsLeft old own.Own.Reply left new o
-- for the layers above: with the number of the packet, and nothing is done yet
Does c old classified.Above (Shared given) new o =
    BecomesBy old old.kept (outcome.Up (last_number old.kept.taking)) given new o
Does c old _ _ new o = ⊥

-- What was done with the payload that is shown: it was classified by what was kept before its packet was taken.
pub record Turns {K : Type 0} (c : Crypto K) (old : State K) (done : Share) (new : State K)
    (o : Outs) : Type 0 where
  pub directed : old.kept.taking ≡ old.receiver.direction
  pub numbered : old.kept.taking.count ≤ numbers_of_epoch
  pub what : Classified
  pub payload_is : PayloadIs (before_taken old.kept) old.receiver.payload what
  pub does : Does c old what done new o

-- ---- where memory is refused

-- Of a payload that is this to the end something would be sent.
abbrev pub WouldSend : {K : Type 0} → State K → Classified → Type 0
WouldSend old (classified.Refused why) = RefusalNeedsMemory old why
WouldSend old classified.Unknown = HasRoom old
WouldSend old classified.ServiceRequested = HasRoom old
WouldSend old _ = ⊥

-- Something would be sent of the payload that is shown.
pub record TurnNeedsMemory {K : Type 0} (old : State K) : Type 0 where
  pub numbered : old.kept.taking.count ≤ numbers_of_epoch
  pub what : Classified
  pub payload_is : PayloadIs (before_taken old.kept) old.receiver.payload what
  pub would : WouldSend old what

-- ---- a packet

-- What was done with what was found: nothing yet, the peer was refused for it, or what its payload asks for.
abbrev pub PacketDone : {K : Type 0} → Crypto K → State K → PacketStep Refusal → Share →
    State K → Outs → Type 0
PacketDone c between step.More (Shared given) new o = BecomesBy between between.kept outcome.More given new o
PacketDone c between (step.Refused why) (Shared given) new o = RefusalDone c between why given new o
PacketDone c between step.Payload done new o = Turns c between done new o
PacketDone c between _ _ new o = ⊥

-- Of what was found something would be sent.
abbrev pub FoundNeedsMemory : {K : Type 0} → State K → PacketStep Refusal → Type 0
FoundNeedsMemory between step.More = ⊥
FoundNeedsMemory between (step.Refused why) = RefusalNeedsMemory between why
FoundNeedsMemory between step.Payload = TurnNeedsMemory between

-- Something would be sent of the buffered bytes of a packet followed by those that a call used.
pub record PacketNeedsMemory {K : Type 0} (c : Crypto K) (old : State K) (bytes : List ℕ) : Type 0 where
  pub found : PacketStep Refusal
  pub between : State K
  pub receives : Receives c bytes old.receiver found between.receiver
  pub rest : between ≡ record old {
    receiver = between.receiver;
    kept = record old.kept { taking = between.receiver.direction };
  }
  pub needs_memory : FoundNeedsMemory between found

-- What a call made of the buffered bytes of a packet followed by those that it used.
pub record PacketTaken {K : Type 0} (c : Crypto K) (old : State K) (bytes : List ℕ)
    (done : Share) (new : State K) (o : Outs) : Type 0 where
  pub found : PacketStep Refusal
  pub between : State K
  pub receives : Receives c bytes old.receiver found between.receiver
  pub rest : between ≡ record old {
    receiver = between.receiver;
    kept = record old.kept { taking = between.receiver.direction };
  }
  pub does : PacketDone c between found done new o
