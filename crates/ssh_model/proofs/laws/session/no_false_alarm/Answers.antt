use Rattle.ssh_model.proofs.Sessions.NoFalseAlarm.{no_false_alarm_holds}
use Rattle.ssh_model.proofs.laws.session.no_false_alarm.Goals as goal

pub returns : goal.returns
returns g c = no_false_alarm_holds
