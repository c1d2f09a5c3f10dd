use Rattle.ssh_held.proofs.Signatures.{cut_off}
use Rattle.ssh_held.proofs.signing.put.Goals as goal

pub returns-clause-value : goal.returns-clause-value
returns-clause-value c = cut_off c.args.signature.now c.copy_from_slice.new.self _ c.min-count.result c.min-count.ensures c.copy_from_slice.ensures.after
