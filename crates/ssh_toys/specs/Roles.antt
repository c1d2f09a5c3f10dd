-- What is of each role of the toys alone.
--     agreement, trusts, client_parts, server_parts, signature_of    what the toys do
--     client_exchange, server_exchange                               the ghost members of both roles in an exchange of keys
--     client_role, server_role                                       those of the roles of whole ends
use Rattle.std.specs.Prelude.{ℕ, ◌&&◌, List, codes, nat_eq}
use Rattle.std.specs.Cmp.Lexicographic.{pointwise}
use Rattle.sha2.specs.Sha256.{sha256}
use Rattle.ssh_end_machine.specs.Parts.{IsClient, IsServer, no_signatures, no_verdicts}
use Rattle.ssh_end_machine.specs.declared.nobody.Nobody.{Nobody}
use Rattle.ssh_end_machine.specs.declared.party.Party.{Party}
use Rattle.ssh_end_machine.specs.declared.role.EndRole as role
use Rattle.ssh_model.specs.Protocol.Sessions.Parties.{Agreement}
use Rattle.ssh_model.specs.Laws.MacOnly.{mac_only}
use Rattle.ssh_model.specs.State.TransportLayer.Kept.{ExchangeParts}
use Rattle.ssh_model.specs.declared.side.Side.TheVariants as sides
use Rattle.ssh_packet.specs.declared.mac_only.MacOnly.{MacOnly}
use Rattle.ssh_transport_machine.specs.Replies.{Trusts, TrustingParts}
use Rattle.ssh_transport.specs.OfClient.Roles.{ClientDoes, ClientNeedsMemory, IsOfClient}
use Rattle.ssh_transport.specs.OfServer.Roles.{IsOfServer, ServerDoes, ServerNeedsMemory}
use Rattle.ssh_transport.specs.declared.client.Client.{Client}
use Rattle.ssh_transport.specs.declared.role.Role as exchange
use Rattle.ssh_transport.specs.declared.server.Server.{Server}
use Rattle.ssh_toys.specs.Standard.{shared_by}
use Rattle.ssh_toys.specs.Users.{verdicts_of}
use Rattle.ssh_toys.specs.declared.agreement.ToyAgreement.{ToyAgreement}
use Rattle.ssh_toys.specs.declared.filler.ToyFiller.{ToyFiller}
use Rattle.ssh_toys.specs.declared.host.ToySigner.{ToySigner}
use Rattle.ssh_toys.specs.declared.host.ToyTrust.{ToyTrust}
use Rattle.ssh_toys.specs.declared.parts.ToyClient.{ToyClient}
use Rattle.ssh_toys.specs.declared.parts.ToyServer.{ToyServer}
use Rattle.ssh_toys.specs.declared.user.ToyJudge.{ToyJudge}
use Rattle.ssh_toys.specs.declared.user.ToyUserSigner.{ToyUserSigner}

-- ---- what the toys do

abbrev pub agreement : Agreement
agreement = record { point = λ secret. secret; shared = shared_by }

abbrev pub trusts : Trusts
trusts algorithm key hash signature = pointwise nat_eq key (codes "toy-host") && pointwise nat_eq signature hash

abbrev pub client_parts : TrustingParts
client_parts = record { agreement = agreement; trusts = trusts }

abbrev pub server_parts : ExchangeParts
server_parts = record {
  agreement = agreement;
  host_key = λ algorithm. codes "toy-host";
  host_signature = λ algorithm hash. hash;
}

-- The signature of a text is its SHA-256, whoever made it.
abbrev pub signature_of : (user algorithm key text : List ℕ) → List ℕ
signature_of user algorithm key text = sha256 text

-- ---- the roles in an exchange of keys

abbrev pub ClientExchange : Type 0
ClientExchange = Client ToyClient MacOnly ToyFiller ToyAgreement ToyTrust (List ℕ)

abbrev pub ServerExchange : Type 0
ServerExchange = Server ToyServer MacOnly ToyFiller ToyAgreement ToySigner (List ℕ)

abbrev pub client_exchange : exchange.Ghosts ClientExchange MacOnly ToyFiller (List ℕ)
client_exchange = record {
  SIDE = sides.Client;
  is_of = λ part p. IsOfClient p mac_only client_parts;
  does = λ part old own turn new o. ClientDoes mac_only client_parts old own turn new o;
  needs_memory = λ part old own. ClientNeedsMemory mac_only client_parts old own;
}

abbrev pub server_exchange : exchange.Ghosts ServerExchange MacOnly ToyFiller (List ℕ)
server_exchange = record {
  SIDE = sides.Server;
  is_of = λ part p. IsOfServer p mac_only server_parts;
  does = λ part old own turn new o. ServerDoes mac_only server_parts old own turn new o;
  needs_memory = λ part old own. ServerNeedsMemory mac_only server_parts old own;
}

-- ---- the roles of whole ends

abbrev pub ClientPart : Type 0
ClientPart = Party ClientExchange Nobody ToyUserSigner MacOnly ToyFiller (List ℕ)

abbrev pub ServerPart : Type 0
ServerPart = Party ServerExchange ToyJudge Nobody MacOnly ToyFiller (List ℕ)

abbrev pub client_role : role.Ghosts ClientPart ClientExchange MacOnly ToyFiller (List ℕ)
client_role = record {
  is_of = λ exchange part p. IsClient p mac_only agreement trusts signature_of;
  judging = λ part. no_verdicts;
  signing = λ part. signature_of;
}

abbrev pub server_role : role.Ghosts ServerPart ServerExchange MacOnly ToyFiller (List ℕ)
server_role = record {
  is_of = λ exchange part p. IsServer p mac_only server_parts (verdicts_of part.judge.credentials.now);
  judging = λ part. verdicts_of part.judge.credentials.now;
  signing = λ part. no_signatures;
}
