use Rattle.std.proofs.Common.{◌≡◌, length, take, map, bit_xor}
use Rattle.ssh_packet.proofs.hmac.against.Given as goal

abbrev pub invariant-loop-i : goal.invariant-loop-i
invariant-loop-i l = record { whole : length l.bytes ≡ 64; done : take l.i l.bytes ≡ map (λ b. bit_xor b l.pad) (take l.i l.block) }
