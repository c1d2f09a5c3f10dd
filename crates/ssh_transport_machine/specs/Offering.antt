-- What an end makes of a KEXINIT of its own.
use Rattle.std.specs.Prelude.{◌≡◌, ℕ, false, List, [], ◌∷◌}
use Rattle.ssh_model.specs.Protocol.Wire.Message.{Msg.KexInit, Msg.KexEcdhInit}
use Rattle.ssh_model.specs.Protocol.Wire.Sealing.{Crypto}
use Rattle.ssh_model.specs.Protocol.KeyExchange.Exchanges.{Material}
use Rattle.ssh_model.specs.Protocol.Sessions.Items.{Encoded.EncodedBy}
use Rattle.ssh_model.specs.Protocol.Sessions.Parties.{offer_of}
use Rattle.ssh_model.specs.State.TransportLayer.Kept.{after_own_kexinit, after_sent}
use Rattle.ssh_transport_machine.specs.Puts.{Outs, Puts}
use Rattle.ssh_transport_machine.specs.State.{State, noted}
use Rattle.ssh_transport_machine.specs.declared.machine.kexinit.KexinitFacts.{KexinitFacts}

-- It was sent with this pair, which is used up.
pub record OwnSent {K : Type 0} (c : Crypto K) (old : State K) (material : Material) (new : State K) (o : Outs) : Type 0 where
  pub payload : List ℕ
  pub puts : Puts c old.kept.sending (EncodedBy (KexInit (offer_of old.kept.settings old.kept.side false material.cookie)) payload ∷ []) o
  pub after : new ≡ record old { kept = after_own_kexinit material payload old.kept }

-- It answered the peer's.
pub record OwnAnswered {K : Type 0} (c : Crypto K) (old : State K) (material : Material) (facts : KexinitFacts) (new : State K) (o : Outs) : Type 0 where
  pub payload : List ℕ
  pub puts : Puts c old.kept.sending (EncodedBy (KexInit (offer_of old.kept.settings old.kept.side false material.cookie)) payload ∷ []) o
  pub after : new ≡ record old { kept = noted facts.wrong facts.strict facts.extensions old.receiver.payload (after_own_kexinit material payload old.kept) }

-- It answered the peer's, and with it went the client's point.
pub record BothAnswered {K : Type 0} (c : Crypto K) (old : State K) (material : Material) (point : List ℕ) (facts : KexinitFacts) (new : State K) (o : Outs) : Type 0 where
  pub own : List ℕ
  pub init : List ℕ
  pub puts : Puts c old.kept.sending (EncodedBy (KexEcdhInit point) init ∷ EncodedBy (KexInit (offer_of old.kept.settings old.kept.side false material.cookie)) own ∷ []) o
  pub after : new ≡ record old { kept = noted facts.wrong facts.strict facts.extensions old.receiver.payload (after_sent (after_own_kexinit material own old.kept)) }
