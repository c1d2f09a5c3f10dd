use Rattle.std.proofs.Common.{◌≤◌, ◌-◌, ◌∷◌, length}
use Rattle.ssh_model.specs.Protocol.Wire.DataTypes.{number}
use Rattle.ssh_model.specs.Protocol.KeyExchange.Exchange.{key_front}
use Rattle.ssh_kex.specs.Values.{letter_of}
use Rattle.ssh_kex.proofs.Blocks.{Filled}
use Rattle.ssh_kex.proofs.keys.derive.Given as goal

abbrev pub invariant-loop-out : goal.invariant-loop-out
invariant-loop-out l = record {
  blocks : Filled (key_front (number l.shared) l.hash) (letter_of l.fn.letter ∷ l.session_id) l.out l.block l.chain l.filled;
  within : l.filled ≤ length l.out;
}

abbrev pub decreases-loop-out : goal.decreases-loop-out
decreases-loop-out l = length l.out - l.filled
