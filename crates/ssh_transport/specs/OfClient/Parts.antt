-- The supplied parts of a client, as its clauses have them.
use Rattle.ssh_model.specs.declared.side.Side.TheVariants as sides
use Rattle.ssh_model.specs.Protocol.Sessions.Parties.{Agreement, Parties, agreement_of}
use Rattle.ssh_transport_machine.specs.Replies.{Trusts, TrustingParts, trusting_parts}
use Rattle.ssh_transport.specs.declared.client.Client.{Client}

-- what the parts of a client do in an exchange of keys
abbrev pub client_parts : {P S F A T K : Type 0} → (does : A → Agreement) → (judged : T → Trusts) → Client P S F A T K → TrustingParts
client_parts does judged client = trusting_parts does judged client.agreement client.host_trust

-- what those of the client of these parties do
abbrev pub client_parts_of : {K : Type 0} → Parties K → TrustingParts
client_parts_of p = record { agreement = agreement_of p sides.Client; trusts = p.trusts }
