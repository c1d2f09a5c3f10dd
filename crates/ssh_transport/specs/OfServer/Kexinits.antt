-- What a server says to its client's KEXINIT (RFC 4253 section 7.1).
use Rattle.std.specs.Prelude.{◌≡◌, ℕ, true, false, Some, List, [], ◌∷◌}
use Rattle.ssh_model.specs.Protocol.Wire.Message.{Msg.KexInit}
use Rattle.ssh_model.specs.Protocol.KeyExchange.Exchanges.{Material}
use Rattle.ssh_model.specs.Protocol.Sessions.Items.{Encoded, Encoded.EncodedBy}
use Rattle.ssh_model.specs.Protocol.Sessions.Parties.{offer_of}
use Rattle.ssh_model.specs.State.TransportLayer.Kept.{Transport, after_own_kexinit}

-- Nothing after its own KEXINIT, and otherwise its own: the messages, and the transport after them.
pub data ServerSays {K : Type 0} (s : Transport K) : List Encoded → Transport K → Type 0 where
  nothing : s.blocked ≡ true → ServerSays s [] s
  own : (material : Material) (payload : List ℕ) → s.blocked ≡ false → s.material ≡ Some material →
      ServerSays s (EncodedBy (KexInit (offer_of s.settings s.side false material.cookie)) payload ∷ [])
      (after_own_kexinit material payload s)
