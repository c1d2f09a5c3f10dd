use Rattle.std.proofs.Common.{◌≡◌, drop}
use Rattle.ssh_play.specs.Prefixes.{after_first, payloads_in}
use Rattle.ssh_play.proofs.safety.after_newkeys.Given as goal

-- no NEWKEYS stands before
abbrev pub invariant-loop-index : goal.invariant-loop-index
invariant-loop-index l =
    after_first (payloads_in (drop l.index l.payloads)) ≡ after_first (payloads_in l.payloads)
