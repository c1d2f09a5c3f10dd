use Rattle.std.proofs.Common.{ap}
use Rattle.ssh_config.specs.Meaning.{given_of}
use Rattle.ssh_transport_machine.proofs.Choosing.{known_by}
use Rattle.ssh_transport_machine.proofs.machine.Machine.choice_with.Goals as goal

pub returns-clause-known : goal.returns-clause-known
returns-clause-known g c =
    known_by _ (given_of c.self.inside.config) c.every_config_is_good.ensures.lists _ (ap (λ s. s.kept.settings) c.self.view_is) c.args.self.now.kept.side _ _ _ c.own_lists-own.ensures c.choice_of.ensures.is_choice
