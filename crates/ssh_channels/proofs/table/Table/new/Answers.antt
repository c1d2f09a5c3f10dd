use Rattle.std.proofs.Common.{ap, count_by, is_some}
use Rattle.ssh_channels.specs.Entries.{place_of}
use Rattle.ssh_channels.proofs.Tables.{none_places, none_table}
use Rattle.ssh_channels.proofs.table.Table.new.Goals as goal
use Rattle.ssh_model.specs.Protocol.Bounds.{most_channels}

pub invariant_of-result : goal.invariant_of-result
invariant_of-result c = rw c.in_ok-keys.ensures.items (none_table c.new.result (ap (count_by is_some) c.new.ensures.empty))

pub returns : goal.returns
returns c = rw c.in_ok-keys.ensures.items (none_places place_of c.new.result most_channels)
