use Rattle.std.proofs.Common.{sym}
use Rattle.std.proofs.lemmas.List.{take_rest}
use Rattle.divrelca.proofs.Cuts.{cut_at}
use Rattle.divrelca.proofs.key_files.parts.cut.Goals as goal

pub returns-clause-found : goal.returns-clause-found
returns-clause-found c = rw take_rest (cut_at c.args.end c.args.text.now c.in_ok-place.place (sym c.in_ok-place.ensures))
