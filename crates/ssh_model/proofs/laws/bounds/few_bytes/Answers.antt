use Rattle.ssh_model.proofs.AnyPeer.Bytes.{few_bytes}
use Rattle.ssh_model.proofs.laws.bounds.few_bytes.Goals as goal

pub returns : goal.returns
returns g c = few_bytes
