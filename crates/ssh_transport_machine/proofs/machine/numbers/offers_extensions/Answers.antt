use Rattle.std.proofs.Common.{sym, ◌∙◌}
use Rattle.ssh_config.specs.Meaning.{settings_of}
use Rattle.ssh_transport_machine.proofs.OwnMarkers.{own_extensions}
use Rattle.ssh_transport_machine.proofs.machine.numbers.offers_extensions.Goals as goal

pub returns : goal.returns
returns g c = c.takes_extensions.ensures ∙ sym (own_extensions (settings_of c.args.config.now) c.args.side c.every_config_is_good.ensures.lists.known_kex)
