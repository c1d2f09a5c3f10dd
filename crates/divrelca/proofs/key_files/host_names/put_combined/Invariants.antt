use Rattle.std.proofs.Common.{List, ℕ, ◌++◌, bit_xor, map, take}
use Rattle.sha1.specs.Sha1.{Holds}
use Rattle.divrelca.proofs.key_files.host_names.put_combined.Given as goal

-- the hasher holds the bytes so far, each combined, after what it held before
abbrev pub invariant-loop-byte : goal.invariant-loop-byte
invariant-loop-byte l = (m : List ℕ) → Holds l.fn.hasher m → Holds l.hasher (m ++ map (λ b. bit_xor b l.pad) (take l.byte-index l.bytes))
