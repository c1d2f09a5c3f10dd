use Rattle.ssh_config.specs.Meaning.{settings_of}
use Rattle.ssh_transport_machine.proofs.Encodings.{offer_at, offer_encoded}
use Rattle.ssh_transport_machine.proofs.machine.laws.offer_fits.Goals as goal

pub returns : goal.returns
returns g c =
    let lists = c.every_config_is_good.ensures.lists in
    offer_at _ _ _ c.machine.view_is (offer_encoded (settings_of c.machine.inside.config) c.machine.inside.side c.args.cookie.now c.has_16_bytes.ensures lists.kex lists.host lists.encryption lists.mac)
