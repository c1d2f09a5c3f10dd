use Rattle.std.proofs.Common.{sym}
use Rattle.ssh_channels.specs.Entries.{place_of}
use Rattle.ssh_channels.proofs.Tables.{removed_places, removed_table, nothing_freed}
use Rattle.ssh_channels.proofs.table.Table.remove.Goals as goal

pub remove-requires : goal.remove-requires
remove-requires c =
    let k = rw c.deref.ensures.value at (sym c.in-Some.ensures) in
    c.self.invariant.linked _ _ k

pub invariant_of-self : goal.invariant_of-self
invariant_of-self c =
    let k = rw c.deref.ensures.value at (sym c.in-Some.ensures) in
    removed_table _ _ _ c.self.invariant _ _ k c.remove.ensures.updates c.remove.ensures.len

pub returns-in-Some : goal.returns-in-Some
returns-in-Some c =
    let k = rw c.deref.ensures.value at (sym c.in-Some.ensures) in
    rw (← c.self.view_is) (removed_places _ _ _ c.self.invariant _ _ k c.remove.ensures.updates place_of)

pub returns-in-None : goal.returns-in-None
returns-in-None c = rw (← c.self.view_is) (nothing_freed place_of _ _ _ (rw c.deref.ensures.value at (sym c.in-None.ensures)))
