use Rattle.std.proofs.Common.{sym, ◌∙◌, refl}
use Rattle.std.proofs.lemmas.Iterator.Consumers.{nth_from_yields_List, YieldsList-from_first}
use Rattle.divrelca.specs.Skipped.{faults_left}
use Rattle.divrelca_c.proofs.Options.{same_option}
use Rattle.divrelca_c.proofs.keys.fault_at.Goals as goal

pub returns : goal.returns
returns c =
    sym (same_option c.nth.result)
    ∙ nth_from_yields_List c.nth.result c.nth.new.self c.args.place c.nth.ensures.ran (YieldsList-from_first (λ x. x) faults_left (faults_left c.args.lines) refl)
