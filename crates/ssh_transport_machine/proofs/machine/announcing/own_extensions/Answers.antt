use Rattle.std.proofs.Common.{◌≤◌, sym, subst, List}
use Rattle.ssh_model.specs.Protocol.Bounds.{longest_payload}
use Rattle.ssh_model.specs.Protocol.Wire.Message.{Extension, Msg.ExtInfo}
use Rattle.ssh_model.specs.Laws.Sizes.{payload_size}
use Rattle.ssh_config.specs.Meaning.{given_of}
use Rattle.ssh_transport_machine.proofs.Announcing.{fits}
use Rattle.ssh_transport_machine.proofs.machine.announcing.own_extensions.Goals as goal

pub returns-clause-size : goal.returns-clause-size
returns-clause-size g c =
    subst (λ (l : List Extension). payload_size (ExtInfo l) ≤ longest_payload) (sym c.extensions.ensures) (fits (given_of c.args.config.now) c.every_config_is_good.ensures.extensions)
