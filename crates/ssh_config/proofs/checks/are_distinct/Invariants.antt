use Rattle.std.proofs.Common.{◌≡◌, drop, map}
use Rattle.ssh_message.specs.Announced.{extension_of}
use Rattle.ssh_config.specs.Checks.{are_distinct}
use Rattle.ssh_config.specs.Config.{extension_names}
use Rattle.ssh_config.proofs.checks.are_distinct.Given as goal

abbrev pub invariant-loop-place : goal.invariant-loop-place
invariant-loop-place l = are_distinct (extension_names (map extension_of l.extensions)) ≡ are_distinct (extension_names (map extension_of (drop l.place l.extensions)))
