use Rattle.std.proofs.Common.{sym}
use Rattle.std.proofs.lemmas.List.{take_rest}
use Rattle.ssh_types.proofs.Joined.{split_at_comma}
use Rattle.ssh_types.proofs.name_bytes.split_comma.Goals as goal

pub returns-clause-found : goal.returns-clause-found
returns-clause-found c = rw take_rest (split_at_comma c.args.text.now c.in_ok-at.at (sym c.in_ok-at.ensures))
