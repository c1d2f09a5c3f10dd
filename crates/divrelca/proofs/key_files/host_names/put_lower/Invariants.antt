use Rattle.std.proofs.Common.{List, ℕ, ◌++◌, map, take}
use Rattle.std.specs.Char.{to_ascii_lowercase}
use Rattle.sha1.specs.Sha1.{Holds}
use Rattle.divrelca.proofs.key_files.host_names.put_lower.Given as goal

-- the hasher holds the bytes of the name so far, after what it held before
abbrev pub invariant-loop-byte : goal.invariant-loop-byte
invariant-loop-byte l = (m : List ℕ) → Holds l.fn.hasher m → Holds l.hasher (m ++ map to_ascii_lowercase (take l.byte-index l.host))
