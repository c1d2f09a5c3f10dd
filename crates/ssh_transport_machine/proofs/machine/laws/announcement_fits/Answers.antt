use Rattle.std.proofs.Common.{refl}
use Rattle.ssh_config.specs.Meaning.{given_of}
use Rattle.ssh_transport_machine.proofs.Announcing.{has_announcement}
use Rattle.ssh_transport_machine.proofs.machine.laws.announcement_fits.Goals as goal

pub returns : goal.returns
returns g c = has_announcement c.payload_sizes.ensures _ _ (given_of c.machine.inside.config) c.machine.view_is refl c.every_config_is_good.ensures.extensions
