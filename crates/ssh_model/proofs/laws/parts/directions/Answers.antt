use Rattle.ssh_model.proofs.Example.PartsAsked.{client_sends_row, client_takes_row, server_sends_row, server_takes_row}
use Rattle.ssh_model.proofs.laws.parts.directions.Goals as goal

pub returns : goal.returns
returns c = record {
  client_sends = client_sends_row;
  client_takes = client_takes_row;
  server_sends = server_sends_row;
  server_takes = server_takes_row;
}
