-- Where the end of each role stands, by the values of its parts.
use Rattle.std.specs.Prelude.{List}
use Rattle.ssh_kex.specs.Parts.{HostKeys}
use Rattle.ssh_model.specs.Protocol.Authentication.Requests.{Judge}
use Rattle.ssh_model.specs.Protocol.Sessions.Items.{Item}
use Rattle.ssh_model.specs.Protocol.Sessions.Parties.{Agreement, Parties}
use Rattle.ssh_model.specs.Protocol.Wire.Sealing.{Crypto}
use Rattle.ssh_model.specs.declared.side.Side.TheVariants.{Client}
use Rattle.ssh_transport.specs.OfServer.Parts.{exchange_parts}
use Rattle.ssh_transport_machine.specs.Replies.{Trusts}
use Rattle.ssh_transport_machine.specs.State.{State}
use Rattle.ssh_end_machine.specs.Asking.{UserSignatures}
use Rattle.ssh_end_machine.specs.Ends.{EndValue}
use Rattle.ssh_end_machine.specs.Layers.{Layers}
use Rattle.ssh_end_machine.specs.Parts.{ClientRole, IsClient, ServerRole}
use Rattle.ssh_end_machine.specs.Places.{StandsAfter}
use Rattle.ssh_end_machine.specs.Sessions.{AreOf, end_of}
use Rattle.ssh_end_machine.specs.Stands.{ServerStandsAt}

-- The client with these parts, which trusts these host keys, and these signatures of its user stands after this history.
abbrev pub ClientStandsAt : {K : Type 0} → Parties K → Crypto K → Agreement → Trusts → UserSignatures → List Item → State K → Layers → Type 0
ClientStandsAt p c agreement trusts signature history machine layers =
    StandsAfter p Client (IsClient p c agreement trusts signature) (AreOf p layers) history machine (end_of machine.kept layers)

-- The end of a client, whose parts do this, stands after this history.
abbrev pub ClientEndAt : {P U S F A T K : Type 0} → Crypto K → (does : A → Agreement) → (judged : T → Trusts) →
    (signature : U → UserSignatures) → Parties K → List Item → EndValue K (ClientRole P U S F A T K) F → Type 0
ClientEndAt c does judged signature p history end =
    ClientStandsAt p c (does end.role.exchange.agreement) (judged end.role.exchange.host_trust) (signature end.role.own.signer)
    history end.machine end.layers

-- The end of a server, whose parts do this, stands after this history.
abbrev pub ServerEndAt : {P U S F A H K : Type 0} → Crypto K → (does : A → Agreement) → (keys : H → HostKeys) →
    (verdicts : U → Judge) → Parties K → List Item → EndValue K (ServerRole P U S F A H K) F → Type 0
ServerEndAt c does keys verdicts p history end =
    ServerStandsAt p c (exchange_parts does keys end.role.exchange) (verdicts end.role.own.judge) history end.machine end.layers
