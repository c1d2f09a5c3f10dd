use Rattle.std.proofs.Common.{◌≡◌, drop}
use Rattle.ssh_packet.specs.Tags.{differing}
use Rattle.ssh_packet.proofs.tag.tags_equal.Given as goal

abbrev pub invariant-loop-i : goal.invariant-loop-i
invariant-loop-i l = differing l.difference (drop l.i l.found) (drop l.i l.expected) ≡ differing 0 l.found l.expected
