use Rattle.ssh_model.proofs.Sessions.SecretRuns.{exchanged, puts_out, runs}
use Rattle.ssh_model.proofs.laws.secrets.secrets_enter_by_agreement.Goals as goal

pub returns : goal.returns
returns g c = record { exist = exchanged; runs = runs; puts_out = puts_out }
