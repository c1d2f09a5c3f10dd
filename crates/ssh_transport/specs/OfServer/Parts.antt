-- The supplied parts of a server, as the model has them.
use Rattle.ssh_model.specs.Protocol.Sessions.Parties.{Agreement}
use Rattle.ssh_model.specs.State.TransportLayer.Kept.{ExchangeParts}
use Rattle.ssh_kex.specs.Parts.{HostKeys}
use Rattle.ssh_transport.specs.declared.server.Server.{Server}

-- what the parts of a server do in an exchange of keys
abbrev pub exchange_parts : {P S F A H K : Type 0} → (does : A → Agreement) → (keys : H → HostKeys) →
    Server P S F A H K → ExchangeParts
exchange_parts does keys server = record {
  agreement = does server.agreement;
  host_key = (keys server.host_signer).key;
  host_signature = (keys server.host_signer).signature;
}
