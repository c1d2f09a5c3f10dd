use Rattle.ssh_model.proofs.Channels.Run.{windows_hold}
use Rattle.ssh_model.proofs.KeyExchange.Choices.{agreement_holds}
use Rattle.ssh_model.proofs.Sessions.Accepted.{authorized_holds}
use Rattle.ssh_model.proofs.Sessions.NoFalseAlarm.{no_false_alarm_holds}
use Rattle.ssh_model.proofs.Sessions.Whole.{beginning_holds}
use Rattle.ssh_model.proofs.laws.session.safety.Goals as goal

pub returns : goal.returns
returns g c = λ p laws both run r honest. record {
  agreement = agreement_holds p laws both run r honest;
  beginning = beginning_holds p laws both run r honest;
  authorized = authorized_holds p laws both run r honest;
  windows = windows_hold p laws both run r honest;
  no_false_alarm = no_false_alarm_holds p laws both run r honest;
}
