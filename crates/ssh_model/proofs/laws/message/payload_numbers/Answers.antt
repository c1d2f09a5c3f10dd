use Rattle.ssh_model.proofs.Wire.Payloads.{payload_number}
use Rattle.ssh_model.proofs.laws.message.payload_numbers.Goals as goal

pub returns : goal.returns
returns c = payload_number
