use Rattle.std.proofs.Common.{refl}
use Rattle.ssh_channels.proofs.channels.Channels.new.Goals as goal

pub returns : goal.returns
returns c = rw (c.in_ok-table.ensures, c.in_ok-owed.ensures.items) refl
