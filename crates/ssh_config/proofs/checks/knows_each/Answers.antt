use borrow.Author.Tests.{tests}
use Rattle.std.proofs.Common.{◌∙◌, sym, rules}
use Rattle.std.proofs.lemmas.Iterator.{YieldsList-from_slice}
use Rattle.std.proofs.lemmas.Iterator.Search.{all_from_yields_List}
use Rattle.std.proofs.lemmas.List.Folds.{list_all-map}
use Rattle.ssh_config.specs.Checks.{knows}
use Rattle.ssh_config.proofs.checks.knows_each.Goals as goal

pub returns : goal.returns
returns g c =
    let each = all_from_yields_List (λ name. knows g.S.Sealing.crypto c.args.enc.now name.now) _ _ c.all.result c.all.ensures.ran (YieldsList-from_slice c.args.macs.now cc) (λ x b q k. search (rules, tests)) in
    each ∙ sym (list_all-map (knows g.S.Sealing.crypto c.args.enc.now) (λ name. name.now) c.args.macs.now)
