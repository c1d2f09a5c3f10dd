-- The values of the two ends: an `Embedded` of each role.
use Rattle.ssh_end_machine.specs.declared.nobody.Nobody.{Nobody}
use Rattle.ssh_end_machine.specs.declared.party.Party.{Party}
use Rattle.ssh_transport.specs.declared.client.Client as client
use Rattle.ssh_transport.specs.declared.server.Server as server
use Rattle.divrelca.specs.declared.keys.PaddingSource.{PaddingSource}
use Rattle.divrelca.specs.declared.parts.curve25519.Curve25519.{Curve25519}
use Rattle.divrelca.specs.declared.parts.ed25519_signer.Ed25519Signer.{Ed25519Signer}
use Rattle.divrelca.specs.declared.parts.gcm_sealing.AesGcm.{AesGcm}
use Rattle.divrelca.specs.declared.parts.packet_key.PacketKey.{PacketKey}
use Rattle.divrelca.specs.declared.user_key.UserKey.{UserKey}
use Rattle.ssh_held.specs.declared.signing.GivenSignatures.{GivenSignatures}
use Rattle.divrelca_c.specs.declared.embedded.hosts.TrustedHosts.{TrustedHosts}
use Rattle.divrelca_c.specs.declared.embedded.parts.EmbeddedClient.{EmbeddedClient}
use Rattle.divrelca_c.specs.declared.embedded.parts.EmbeddedServer.{EmbeddedServer}
use Rattle.divrelca_c.specs.declared.embedded.state.Embedded.{Embedded}
use Rattle.divrelca_c.specs.declared.embedded.users.Users.{Users}

-- what each does in an exchange of keys
abbrev pub ServerExchange : Type 0
ServerExchange = server.Server EmbeddedServer AesGcm PaddingSource Curve25519 Ed25519Signer PacketKey

abbrev pub ClientExchange : Type 0
ClientExchange = client.Client EmbeddedClient AesGcm PaddingSource Curve25519 TrustedHosts PacketKey

-- what each has of its own besides
abbrev pub ServerOwn : Type 0
ServerOwn = Party ServerExchange Users Nobody AesGcm PaddingSource PacketKey

abbrev pub ClientOwn : Type 0
ClientOwn = Party ClientExchange Nobody (GivenSignatures UserKey) AesGcm PaddingSource PacketKey

abbrev pub Server : Type 0
Server = Embedded ServerOwn ServerExchange AesGcm PaddingSource PacketKey

abbrev pub Client : Type 0
Client = Embedded ClientOwn ClientExchange AesGcm PaddingSource PacketKey
