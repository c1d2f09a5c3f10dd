use Rattle.ssh_model.proofs.Example.PartsAsked.{by_server_row, by_client_row, other_by_client_row}
use Rattle.ssh_model.proofs.laws.parts.host_keys.Goals as goal

pub returns : goal.returns
returns c = record {
  by_server = by_server_row;
  by_client = by_client_row;
  other_by_client = other_by_client_row;
}
