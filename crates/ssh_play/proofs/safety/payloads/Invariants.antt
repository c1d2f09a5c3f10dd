use Rattle.std.proofs.Common.{◌≡◌, ◌++◌, drop}
use Rattle.ssh_play.specs.Prefixes.{payloads_in}
use Rattle.ssh_play.specs.Runs.{went}
use Rattle.ssh_play.proofs.safety.payloads.Given as goal

-- the payloads so far and those of what is left
abbrev pub invariant-loop-done : goal.invariant-loop-done
invariant-loop-done l =
    payloads_in l.payloads.items ++ went l.side l.way (drop l.done-index l.run) ≡ went l.side l.way l.run
