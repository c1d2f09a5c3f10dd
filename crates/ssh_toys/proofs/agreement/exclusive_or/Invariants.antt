use Rattle.std.proofs.Common.{◌≡◌, length, take, bit_xor}
use Rattle.std.specs.Simd.Lanes.{zip2}
use Rattle.ssh_toys.proofs.agreement.exclusive_or.Given as goal

abbrev pub invariant-loop-i : goal.invariant-loop-i
invariant-loop-i l = record { whole : length l.bytes ≡ 32; done : take l.i l.bytes ≡ zip2 bit_xor (take l.i l.one) (take l.i l.other) }
