-- What the two ends do besides what every end does: the ghost members of their roles, with X25519, Ed25519 and AES-GCM.
use Rattle.ssh_model.specs.State.TransportLayer.Kept.{ExchangeParts}
use Rattle.ssh_model.specs.declared.side.Side.TheVariants as sides
use Rattle.ssh_transport.specs.OfClient.Roles.{ClientDoes, ClientNeedsMemory, IsOfClient}
use Rattle.ssh_transport.specs.OfServer.Parts.{exchange_parts}
use Rattle.ssh_transport.specs.OfServer.Roles.{IsOfServer, ServerDoes, ServerNeedsMemory}
use Rattle.ssh_transport.specs.declared.role.Role as exchange
use Rattle.ssh_transport_machine.specs.Replies.{TrustingParts, trusting_parts}
use Rattle.ssh_end_machine.specs.Parts.{IsParty, no_signatures, no_verdicts}
use Rattle.ssh_end_machine.specs.declared.role.EndRole as role
use Rattle.divrelca.specs.Parts.AesGcm.{aes_gcm}
use Rattle.divrelca.specs.Parts.Curve25519.{x25519_agreement}
use Rattle.divrelca.specs.Parts.Ed25519.{host_keys}
use Rattle.divrelca.specs.declared.keys.PaddingSource.{PaddingSource}
use Rattle.divrelca.specs.declared.parts.gcm_sealing.AesGcm.{AesGcm}
use Rattle.divrelca.specs.declared.parts.packet_key.PacketKey.{PacketKey}
use Rattle.divrelca_c.specs.Embedded.Ends.{ClientExchange, ClientOwn, ServerExchange, ServerOwn}
use Rattle.divrelca_c.specs.Embedded.Hosts.{trusts_of}
use Rattle.divrelca_c.specs.Embedded.Signing.{signatures_by}
use Rattle.divrelca_c.specs.Embedded.Users.{verdicts_of}

-- ---- a server: its host's key pair, and its users

abbrev server_parts : ServerExchange → ExchangeParts
server_parts exchange = exchange_parts (λ agreement. x25519_agreement) host_keys exchange

abbrev pub server_exchanges : exchange.Ghosts ServerExchange AesGcm PaddingSource PacketKey
server_exchanges = record {
  SIDE = sides.Server;
  is_of = λ exchange p. IsOfServer p aes_gcm (server_parts exchange);
  does = λ exchange. ServerDoes aes_gcm (server_parts exchange);
  needs_memory = λ exchange. ServerNeedsMemory aes_gcm (server_parts exchange);
}

abbrev pub server_ends : role.Ghosts ServerOwn ServerExchange AesGcm PaddingSource PacketKey
server_ends = record {
  is_of = λ exchange own p. IsParty sides.Server p (server_exchanges.is_of exchange p) (verdicts_of own.judge) no_signatures;
  judging = λ own. verdicts_of own.judge;
  signing = λ own. no_signatures;
}

-- ---- a client: the hosts that it trusts, and the signatures of its user

abbrev client_parts : ClientExchange → TrustingParts
client_parts exchange =
    trusting_parts (λ agreement. x25519_agreement) trusts_of exchange.agreement exchange.host_trust

abbrev pub client_exchanges : exchange.Ghosts ClientExchange AesGcm PaddingSource PacketKey
client_exchanges = record {
  SIDE = sides.Client;
  is_of = λ exchange p. IsOfClient p aes_gcm (client_parts exchange);
  does = λ exchange. ClientDoes aes_gcm (client_parts exchange);
  needs_memory = λ exchange. ClientNeedsMemory aes_gcm (client_parts exchange);
}

abbrev pub client_ends : role.Ghosts ClientOwn ClientExchange AesGcm PaddingSource PacketKey
client_ends = record {
  is_of = λ exchange own p. IsParty sides.Client p (client_exchanges.is_of exchange p) no_verdicts (signatures_by own.signer);
  judging = λ own. no_verdicts;
  signing = λ own. signatures_by own.signer;
}
