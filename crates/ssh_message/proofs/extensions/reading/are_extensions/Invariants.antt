use Rattle.std.proofs.Common.{◌≡◌, ◌-◌, ◌≤◌}
use Rattle.ssh_message.specs.Extensions.{are_extensions}
use Rattle.ssh_message.proofs.extensions.reading.are_extensions.Given as goal

abbrev pub invariant-loop : goal.invariant-loop
invariant-loop l = record {
  left : are_extensions l.fn.count l.bytes ≡ are_extensions (l.fn.count - l.counter) l.left;
  within : l.counter ≤ l.fn.count;
}
