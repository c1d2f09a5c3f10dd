-- What the roles of both ends have, in the words of a session.
use Rattle.ssh_model.specs.Protocol.Authentication.Requests.{Judge}
use Rattle.ssh_model.specs.Protocol.Sessions.Parties.{Agreement}
use Rattle.ssh_model.specs.Protocol.Wire.Sealing.{Crypto}
use Rattle.ssh_kex.specs.Parts.{HostKeys}
use Rattle.ssh_transport_machine.specs.Replies.{Trusts}
use Rattle.ssh_transport.specs.OfServer.Parts.{exchange_parts}
use Rattle.ssh_transport.specs.declared.client.Client.{Client}
use Rattle.ssh_transport.specs.declared.server.Server.{Server}
use Rattle.ssh_end_machine.specs.Asking.{UserSignatures}
use Rattle.ssh_end_machine.specs.Parts.{IsClient, IsServer, no_signatures, no_verdicts}
use Rattle.ssh_end_machine.specs.declared.nobody.Nobody.{Nobody}
use Rattle.ssh_end_machine.specs.declared.party.Party.{Party}
use Rattle.ssh_end_machine.specs.declared.role.EndRole as role

module _ {P U S F A H K : Type 0} (c : Crypto K) (does : A → Agreement) where
  abbrev pub client_of : (judged : H → Trusts) → (signature : U → UserSignatures) → role.Ghosts (Party (Client P S F A H K) Nobody U S F K) (Client P S F A H K) S F K
  client_of judged signature = record {
    is_of = λ exchange part p. IsClient p c (does exchange.agreement) (judged exchange.host_trust) (signature part.signer);
    judging = λ part. no_verdicts;
    signing = λ part. signature part.signer;
  }

  abbrev pub server_of : (keys : H → HostKeys) → (verdicts : U → Judge) → role.Ghosts (Party (Server P S F A H K) U Nobody S F K) (Server P S F A H K) S F K
  server_of keys verdicts = record {
    is_of = λ exchange part p. IsServer p c (exchange_parts does keys exchange) (verdicts part.judge);
    judging = λ part. verdicts part.judge;
    signing = λ part. no_signatures;
  }
