use Rattle.std.proofs.Common.{◌≡◌, false}
use Rattle.divrelca.specs.HostNames.{are_for}
use Rattle.divrelca.specs.Texts.{parts_left, parts_of}
use Rattle.divrelca.proofs.key_files.host_names.are_for.Given as goal

-- the names that are left say of the host what all say
abbrev pub invariant-loop-name : goal.invariant-loop-name
invariant-loop-name l = are_for l.so_far l.host (parts_left l.name-iterator) ≡ are_for false l.host (parts_of 44 l.fn.names)
