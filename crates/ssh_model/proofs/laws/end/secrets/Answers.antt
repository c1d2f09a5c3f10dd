use Rattle.ssh_model.proofs.TransportLayer.Secrets.{wiped}
use Rattle.ssh_model.proofs.laws.end.secrets.Goals as goal

pub returns : goal.returns
returns g c = λ p side h e bytes free sums. record { transport = wiped p side h e.transport bytes free sums.transport; above = λ z. sums.above z }
