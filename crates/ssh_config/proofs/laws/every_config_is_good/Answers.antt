use Rattle.ssh_config.specs.Meaning.{given_of}
use Rattle.ssh_config.proofs.Lists.{good_settings}
use Rattle.ssh_config.proofs.laws.every_config_is_good.Goals as goal

pub returns : goal.returns
returns g c = good_settings g.S.Sealing.crypto (given_of c.args.config.now) c.args.config.now.good
