use Rattle.ssh_config.specs.Meaning.{settings_of}
use Rattle.ssh_end_machine.proofs.Fitting.{failure_encoded}
use Rattle.ssh_end_machine.proofs.opening_laws.settings_fit.Goals as goal

pub returns-clause-methods : goal.returns-clause-methods
returns-clause-methods g c = failure_encoded (settings_of c.args.config.now).methods c.every_config_is_good.ensures.lists.methods
