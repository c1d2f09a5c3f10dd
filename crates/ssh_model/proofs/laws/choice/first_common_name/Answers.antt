use Rattle.ssh_model.proofs.KeyExchange.Firsts.{first_is, none_is, first_only}
use Rattle.ssh_model.proofs.laws.choice.first_common_name.Goals as goal

pub returns : goal.returns
returns c = record { is_first = first_is; is_none = none_is; is_only = first_only }
