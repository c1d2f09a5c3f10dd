-- Where the transport of each role stands, by the values of its parts.
use Rattle.std.specs.Prelude.{List}
use Rattle.ssh_model.specs.Protocol.Sessions.Items.{Item}
use Rattle.ssh_model.specs.Protocol.Sessions.Parties.{Agreement, Parties}
use Rattle.ssh_model.specs.Protocol.Wire.Sealing.{Crypto}
use Rattle.ssh_model.specs.declared.side.Side.TheVariants as sides
use Rattle.ssh_kex.specs.Parts.{HostKeys}
use Rattle.ssh_transport_machine.specs.Replies.{Trusts}
use Rattle.ssh_transport.specs.OfClient.Parts.{client_parts}
use Rattle.ssh_transport.specs.OfClient.Roles.{IsOfClient}
use Rattle.ssh_transport.specs.OfServer.Parts.{exchange_parts}
use Rattle.ssh_transport.specs.OfServer.Roles.{IsOfServer}
use Rattle.ssh_transport.specs.Places.{TransportStandsAfter}
use Rattle.ssh_transport.specs.States.{TransportState}
use Rattle.ssh_transport.specs.declared.client.Client.{Client}
use Rattle.ssh_transport.specs.declared.server.Server.{Server}

-- The transport of a client, whose parts do this, stands after this history.
abbrev pub ClientTransportAt : {P S F A T K : Type 0} → Crypto K → (does : A → Agreement) → (judged : T → Trusts) → Parties K →
    List Item → TransportState K (Client P S F A T K) F → Type 0
ClientTransportAt c does judged p history t =
    TransportStandsAfter p sides.Client (IsOfClient p c (client_parts does judged t.role)) history t.machine.kept

-- The transport of a server, whose parts do this, stands after this history.
abbrev pub ServerTransportAt : {P S F A H K : Type 0} → Crypto K → (does : A → Agreement) → (keys : H → HostKeys) → Parties K →
    List Item → TransportState K (Server P S F A H K) F → Type 0
ServerTransportAt c does keys p history t =
    TransportStandsAfter p sides.Server (IsOfServer p c (exchange_parts does keys t.role)) history t.machine.kept
