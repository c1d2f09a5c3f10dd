use Rattle.std.proofs.Common.{◌≡◌, map, take}
use Rattle.ssh_types.specs.Values.{owned_names}
use Rattle.ssh_config.proofs.texts.names_of.Given as goal

abbrev pub invariant-loop-text : goal.invariant-loop-text
invariant-loop-text l = owned_names l.list ≡ map (λ name. name.now) (take l.text-index l.texts)
