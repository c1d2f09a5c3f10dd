use Rattle.std.proofs.Common.{◌∙◌, sym}
use Rattle.ssh_channels.specs.Entries.{place_of}
use Rattle.ssh_channels.proofs.Tables.{used_places}
use Rattle.ssh_channels.proofs.table.Table.count.Goals as goal

pub returns : goal.returns
returns c = rw (← c.self.view_is) (c.len.ensures ∙ (c.self.invariant.used ∙ sym (used_places place_of _ _ c.self.invariant)))
