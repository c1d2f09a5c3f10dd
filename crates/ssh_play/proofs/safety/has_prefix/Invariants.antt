use Rattle.std.proofs.Common.{◌≡◌, drop}
use Rattle.ssh_play.specs.Prefixes.{begins, payloads_in}
use Rattle.ssh_play.proofs.safety.has_prefix.Given as goal

-- what is left to compare decides
abbrev pub invariant-loop-index : goal.invariant-loop-index
invariant-loop-index l =
    begins (payloads_in (drop l.index l.begun)) (payloads_in (drop l.index l.whole)) ≡ begins (payloads_in l.begun) (payloads_in l.whole)
