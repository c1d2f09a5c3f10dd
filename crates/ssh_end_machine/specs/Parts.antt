-- When the parts of an end are those of parties.
use Rattle.std.specs.Prelude.{◌≡◌, false, []}
use Rattle.ssh_model.specs.declared.side.Side.{Side}
use Rattle.ssh_model.specs.declared.side.Side.TheVariants.{Client, Server}
use Rattle.ssh_model.specs.Protocol.Authentication.Requests.{Judge, judge_of}
use Rattle.ssh_model.specs.Protocol.Sessions.Parties.{Agreement, Parties}
use Rattle.ssh_model.specs.State.TransportLayer.Kept.{ExchangeParts}
use Rattle.ssh_model.specs.Protocol.Wire.Sealing.{Crypto}
use Rattle.ssh_transport_machine.specs.Replies.{Trusts}
use Rattle.ssh_transport.specs.OfClient.Roles.{IsOfClient}
use Rattle.ssh_transport.specs.OfServer.Roles.{IsOfServer}
use Rattle.ssh_transport.specs.declared.client.Client as client
use Rattle.ssh_transport.specs.declared.server.Server as server
use Rattle.ssh_end_machine.specs.Asking.{UserSignatures}
use Rattle.ssh_end_machine.specs.declared.nobody.Nobody.{Nobody}
use Rattle.ssh_end_machine.specs.RoleValues.{RoleValue}
use Rattle.ssh_end_machine.specs.declared.party.Party.{Party}

-- the signatures of a server, which signs for no user
abbrev pub no_signatures : UserSignatures
no_signatures user algorithm key text = []

-- the verdicts by which nobody is let in
abbrev pub no_verdicts : Judge
no_verdicts = record {
  admits = λ user. false;
  password_is_right = λ user word. false;
  knows_key = λ user algorithm key. false;
  signature_is_right = λ algorithm key text signature. false;
}

-- These are the parts of an end of these parties: what it does in an exchange of keys is, and so are the verdicts on users
-- of a server, and the signatures of a client.
pub record IsParty {K : Type 0} (side : Side) (p : Parties K) (exchanging : Type 0) (judge : Judge)
    (signature : UserSignatures) : Type 0 where
  pub exchange : exchanging
  pub judge_is : side ≡ Server → judge_of p ≡ judge
  pub signature_is : side ≡ Client → p.user_signature ≡ signature

-- These are the parts of the server of these parties, and its verdicts on users.
abbrev pub IsServer : {K : Type 0} → Parties K → Crypto K → ExchangeParts → Judge → Type 0
IsServer p c parts judge = IsParty Server p (IsOfServer p c parts) judge no_signatures

-- These are the parts of the client of these parties, and the signatures of its user.
abbrev pub IsClient : {K : Type 0} → Parties K → Crypto K → Agreement → Trusts → UserSignatures → Type 0
IsClient p c agreement trusts signature =
    IsParty Client p (IsOfClient p c (record { agreement = agreement; trusts = trusts })) no_verdicts signature

-- the values of the roles of whole ends, with what they do in an exchange of keys
abbrev pub ServerRole : (P U S F A H K : Type 0) → Type 0
ServerRole P U S F A H K = RoleValue (server.Server P S F A H K) (Party (server.Server P S F A H K) U Nobody S F K)

abbrev pub ClientRole : (P U S F A H K : Type 0) → Type 0
ClientRole P U S F A H K = RoleValue (client.Client P S F A H K) (Party (client.Client P S F A H K) Nobody U S F K)

-- A server has these parts, and judges users by this.
pub record IsServerOf {P U S F A H K : Type 0} (agreement : A) (host_signer : H) (user : U)
    (role : ServerRole P U S F A H K) : Type 0 where
  pub agreement_is : role.exchange.agreement ≡ agreement
  pub host_signer_is : role.exchange.host_signer ≡ host_signer
  pub user_is : role.own.judge ≡ user

-- A client has these parts, and this signs for its user.
pub record IsClientOf {P U S F A H K : Type 0} (agreement : A) (host_trust : H) (user : U)
    (role : ClientRole P U S F A H K) : Type 0 where
  pub agreement_is : role.exchange.agreement ≡ agreement
  pub host_trust_is : role.exchange.host_trust ≡ host_trust
  pub user_is : role.own.signer ≡ user
