use Rattle.std.proofs.Common.{◌≡◌, ◌||◌, drop}
use Rattle.std.specs.List.{list_any}
use Rattle.divrelca_c.specs.Embedded.Users.{has_hash}
use Rattle.divrelca_c.proofs.embedded.users.Users.has_hash.Given as goal

-- of the entries before this one one was found, or it is among those that are left
abbrev pub invariant-loop-entry : goal.invariant-loop-entry
invariant-loop-entry l =
    (l.found || list_any (has_hash l.user l.word) (drop l.entry-index l.self.list.items))
    ≡ list_any (has_hash l.user l.word) l.self.list.items
