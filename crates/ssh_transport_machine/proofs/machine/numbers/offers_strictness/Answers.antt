use Rattle.std.proofs.Common.{ap, sym, ◌∙◌}
use Rattle.ssh_model.specs.Protocol.Sessions.Parties.{is_offered}
use Rattle.ssh_config.specs.Meaning.{settings_of}
use Rattle.ssh_transport_machine.proofs.OwnMarkers.{own_strict}
use Rattle.ssh_transport_machine.proofs.machine.numbers.offers_strictness.Goals as goal

pub returns : goal.returns
returns g c =
    c.is_offered.ensures ∙ (ap is_offered c.strictness.ensures ∙ sym (own_strict (settings_of c.args.config.now) c.args.side c.every_config_is_good.ensures.lists.known_kex))
