use Rattle.ssh_model.proofs.Example.PartsAsked.{client_row, server_row}
use Rattle.ssh_model.proofs.laws.parts.agreements.Goals as goal

pub returns : goal.returns
returns c = record {
  client = client_row;
  server = server_row;
}
