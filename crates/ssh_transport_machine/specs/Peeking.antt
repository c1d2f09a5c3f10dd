-- What is told of the next packet before it is taken.
use Rattle.std.specs.Prelude.{◌≡◌, ◌≤◌, ℕ, false, true, List, length}
use Rattle.ssh_model.specs.Protocol.Bounds.{largest_packet}
use Rattle.ssh_model.specs.Protocol.KeyExchange.Choice.{Chosen}
use Rattle.ssh_model.specs.Protocol.KeyExchange.Exchange.{exchange_hash}
use Rattle.ssh_model.specs.Protocol.Sessions.Parties.{Agreement}
use Rattle.ssh_model.specs.Protocol.Sessions.Phases.{Phase.Exchanging}
use Rattle.ssh_model.specs.Protocol.Wire.Message.{IsPayload, Msg.KexEcdhReply}
use Rattle.ssh_model.specs.Protocol.Wire.Sealing.{Crypto}
use Rattle.ssh_model.specs.State.TransportLayer.Kept.{IsChosen, Transport, inputs_with, is_good_point}
use Rattle.ssh_model.specs.declared.side.Side.TheVariants.{Client}
use Rattle.ssh_packet.specs.Directions.{NextOpens}
use Rattle.ssh_transport_machine.specs.State.{State}

-- The end is not over and reads packets. Those bytes of the next packet that it holds, followed by some of these, are that packet, and it
-- opens to this payload.
pub record Peeks {K : Type 0} (c : Crypto K) (s : State K) (bytes payload : List ℕ) : Type 0 where
  pub alive : s.kept.dead ≡ false
  pub found : s.kept.lines.found ≡ true
  pub taking : s.kept.taking ≡ s.receiver.direction
  pub opens : NextOpens c s.receiver bytes payload

-- The end is not over. It took the KEXINIT of its peer, and awaits the next message of the exchange, which will be read. This algorithm of the
-- host key was chosen in that exchange (RFC 4253 section 7.1).
pub record AwaitsHost {K : Type 0} (s : Transport K) (algorithm : List ℕ) : Type 0 where
  pub alive : s.dead ≡ false
  pub phase : s.phase ≡ Exchanging
  pub chosen : Chosen
  pub chosen_is : IsChosen s chosen
  pub algorithm_is : chosen.host ≡ algorithm

-- The payload is a server's reply of a good point, and this is the hash of the exchange that it ends (RFC 5656 section 4).
pub record HashesReply {K : Type 0} (agreement : Agreement) (s : Transport K) (payload hash : List ℕ) : Type 0 where
  pub host_key : List ℕ
  pub point : List ℕ
  pub signature : List ℕ
  pub read : IsPayload false (KexEcdhReply host_key point signature) payload
  pub good : is_good_point agreement s point ≡ true
  pub hash_is : hash ≡ exchange_hash (inputs_with Client agreement s host_key point)

-- The payload is no such reply, or too long for a packet.
abbrev pub HashesNone : {K : Type 0} → Agreement → Transport K → (payload : List ℕ) → Type 0
HashesNone agreement s payload =
    (host_key point signature : List ℕ) → IsPayload false (KexEcdhReply host_key point signature) payload →
    is_good_point agreement s point ≡ true → length payload ≤ largest_packet → ⊥

-- The end is not over and awaits the next message of the exchange under way. The payload is such a reply, with this hash.
pub record AwaitsHashed {K : Type 0} (agreement : Agreement) (s : Transport K) (payload hash : List ℕ) : Type 0 where
  pub alive : s.dead ≡ false
  pub phase : s.phase ≡ Exchanging
  pub is : HashesReply agreement s payload hash

-- The end is over, or awaits no message of an exchange, or the payload is no such reply.
abbrev pub AwaitsNone : {K : Type 0} → Agreement → Transport K → (payload : List ℕ) → Type 0
AwaitsNone agreement s payload = s.dead ≡ false → s.phase ≡ Exchanging → HashesNone agreement s payload
