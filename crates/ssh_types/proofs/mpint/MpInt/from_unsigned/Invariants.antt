use Rattle.std.proofs.Common.{◌≡◌, ◌≤◌, length}
use Rattle.ssh_model.specs.Protocol.Wire.DataTypes.{number, AreBytes}
use Rattle.ssh_types.proofs.mpint.MpInt.from_unsigned.Given as goal

-- The zeros that were left away count for nothing.
abbrev pub invariant-loop-digits : goal.invariant-loop-digits
invariant-loop-digits l = record { same : number l.digits ≡ number l.bytes; bytes : AreBytes l.digits; less : length l.digits ≤ length l.bytes }

abbrev pub decreases-loop-digits : goal.decreases-loop-digits
decreases-loop-digits l = length l.digits
