use Rattle.ssh_model.proofs.Sessions.TurnLaws.{end_numbers}
use Rattle.ssh_model.proofs.Channels.Run.{end_windows}
use Rattle.ssh_model.proofs.laws.one_end.kept_by_one_end.Goals as goal

pub returns : goal.returns
returns g c = record { numbers = end_numbers; windows = end_windows }
