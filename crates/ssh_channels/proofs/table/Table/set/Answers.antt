use Rattle.std.proofs.Common.{sym}
use Rattle.ssh_channels.specs.Entries.{place_of}
use Rattle.ssh_channels.proofs.Tables.{written_places, written_table}
use Rattle.ssh_channels.proofs.table.Table.set.Goals as goal

pub invariant_of-self : goal.invariant_of-self
invariant_of-self c =
    let k = rw c.deref.ensures.value at (sym c.in-Some.ensures) in
    written_table _ _ c.self.invariant _ _ _ k

pub returns-in-Some : goal.returns-in-Some
returns-in-Some c =
    let k = rw c.deref.ensures.value at (sym c.in-Some.ensures) in
    rw (← c.self.view_is) (written_places _ _ c.self.invariant _ _ _ k place_of)
