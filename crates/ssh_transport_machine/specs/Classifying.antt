-- What an end makes of a packet and of its payload.
use Rattle.std.specs.Prelude.{◌≡◌, ℕ, ◌<◌, ◌≤◌, ◌==◌, ◌||◌, Bool, true, false, List, codes, Some}
use Rattle.ssh_model.specs.Protocol.Wire.Message.{Msg, Msg.Disconnect, Msg.Ignore, Msg.Unimplemented, Msg.Debug, Msg.ServiceRequest, Msg.ServiceAccept, Msg.ExtInfo, Msg.KexInit, Msg.NewKeys, Msg.Unknown, Extension, Proposal, IsPayload}
use Rattle.ssh_model.specs.Protocol.Wire.DataTypes.{is_text}
use Rattle.ssh_model.specs.Protocol.Wire.Sealing.{Crypto}
use Rattle.ssh_model.specs.Protocol.Sessions.Refusals.{first_refusal}
use Rattle.ssh_model.specs.Protocol.Sessions.Phases as model
use Rattle.ssh_model.specs.Protocol.Sessions.Turns.{number_of}
use Rattle.ssh_model.specs.State.TransportLayer.Kept.{Transport, offer_checks, takes}
use Rattle.ssh_model.specs.declared.refusal.Refusal.{Refusal}
use Rattle.ssh_model.specs.declared.refusal.Refusal.TheVariants as refusal
use Rattle.ssh_packet.specs.Directions.{Receives}
use Rattle.ssh_packet.specs.declared.step.PacketStep.TheVariants as step
use Rattle.ssh_transport_machine.specs.Kexinits.{IsFine}
use Rattle.ssh_transport_machine.specs.State.{State, before_taken}
use Rattle.ssh_transport_machine.specs.declared.machine.classifying.Classified.{Classified}
use Rattle.ssh_transport_machine.specs.declared.machine.classifying.Classified.TheVariants as classified
use Rattle.ssh_transport_machine.specs.declared.machine.kexinit.KexinitFacts.{KexinitFacts}

-- The service is that of authentication, or the request is refused.
abbrev pub RequestIs : (service : List ℕ) → Classified → Type 0
RequestIs service classified.ServiceRequested = is_text service (codes "ssh-userauth") ≡ true
RequestIs service (classified.Refused why) = (is_text service (codes "ssh-userauth") ≡ false) × (why ≡ refusal.NoService)
RequestIs service _ = ⊥

-- the same of a service that is granted
abbrev pub AcceptIs : (service : List ℕ) → Classified → Type 0
AcceptIs service classified.ServiceAccepted = is_text service (codes "ssh-userauth") ≡ true
AcceptIs service (classified.Refused why) = (is_text service (codes "ssh-userauth") ≡ false) × (why ≡ refusal.Unexpected)
AcceptIs service _ = ⊥

-- the numbers of a client's point and of a server's reply (RFC 5656 section 7.1), whose payloads are read by a role
abbrev pub is_roles : ℕ → Bool
is_roles n = n == 30 || n == 31

-- What a message is to an end that keeps this, one constructor a row. A point and a reply are not read here.
pub data MessageIs {K : Type 0} (s : Transport K) : Msg → Classified → Type 0 where
  disconnected : (reason : ℕ) (description language : List ℕ) → MessageIs s (Disconnect reason description language) classified.Disconnected
  ignored : (body : List ℕ) → MessageIs s (Ignore body) classified.Told
  unimplemented : (number : ℕ) → MessageIs s (Unimplemented number) classified.Told
  debug : (display : Bool) (message language : List ℕ) → MessageIs s (Debug display message language) classified.Told
  extensions : (announced : List Extension) → MessageIs s (ExtInfo announced) classified.Told
  requested : {verdict : Classified} (service : List ℕ) → RequestIs service verdict → MessageIs s (ServiceRequest service) verdict
  accepted : {verdict : Classified} (service : List ℕ) → AcceptIs service verdict → MessageIs s (ServiceAccept service) verdict
  kexinit_refused : (theirs : Proposal) (why : Refusal) → first_refusal (offer_checks s theirs) ≡ Some why → MessageIs s (KexInit theirs) (classified.Refused why)
  kexinit : (theirs : Proposal) (facts : KexinitFacts) → IsFine s theirs facts → MessageIs s (KexInit theirs) (classified.Kexinit facts)
  newkeys : MessageIs s NewKeys classified.NewKeys
  unknown : (number : ℕ) → MessageIs s (Unknown number) classified.Unknown

-- What a payload is: refused by its number, skipped after a wrong guess, of a number that a role reads, no message, for the layers
-- above, or a message.
pub data PayloadIs {K : Type 0} (s : Transport K) (payload : List ℕ) : Classified → Type 0 where
  above : 50 ≤ number_of payload → model.is_normal s.phase ≡ true → PayloadIs s payload classified.Above
  out_of_place : 50 ≤ number_of payload → model.is_normal s.phase ≡ false → PayloadIs s payload (classified.Refused refusal.Unexpected)
  unexpected : number_of payload < 50 → takes s (number_of payload) ≡ false → PayloadIs s payload (classified.Refused refusal.Unexpected)
  skipped : number_of payload < 50 → takes s (number_of payload) ≡ true → s.phase ≡ model.Phase.Guessed → PayloadIs s payload classified.Skipped
  ecdh_init : number_of payload ≡ 30 → takes s (number_of payload) ≡ true → (s.phase ≡ model.Phase.Guessed → ⊥) → PayloadIs s payload classified.EcdhInit
  reply : number_of payload ≡ 31 → takes s (number_of payload) ≡ true → (s.phase ≡ model.Phase.Guessed → ⊥) → PayloadIs s payload classified.Reply
  bad_message : number_of payload < 50 → is_roles (number_of payload) ≡ false → takes s (number_of payload) ≡ true →
      (s.phase ≡ model.Phase.Guessed → ⊥) → ((message : Msg) → IsPayload false message payload → ⊥) → PayloadIs s payload (classified.Refused refusal.BadMessage)
  read : {verdict : Classified} (message : Msg) → number_of payload < 50 → takes s (number_of payload) ≡ true → (s.phase ≡ model.Phase.Guessed → ⊥) → IsPayload false message payload →
      MessageIs s message verdict → PayloadIs s payload verdict

-- What a packet is whose buffered bytes are followed by those that a call used: not whole yet, refused, or opened. Its payload is told
-- by what was kept before it was taken.
pub data PacketIs {K : Type 0} (c : Crypto K) (bytes : List ℕ) (old new : State K) : Classified → Type 0 where
  more : Receives c bytes old.receiver step.More new.receiver → PacketIs c bytes old new classified.More
  refused : (why : Refusal) → Receives c bytes old.receiver (step.Refused why) new.receiver →
      PacketIs c bytes old new (classified.Refused why)
  opened : {verdict : Classified} → Receives c bytes old.receiver step.Payload new.receiver →
      PayloadIs (before_taken new.kept) new.receiver.payload verdict → PacketIs c bytes old new verdict
