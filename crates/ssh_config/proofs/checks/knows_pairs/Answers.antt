use borrow.Author.Tests.{tests}
use Rattle.std.proofs.Common.{◌∙◌, sym, rules, map}
use Rattle.std.proofs.lemmas.Iterator.{YieldsList-from_slice}
use Rattle.std.proofs.lemmas.Iterator.Search.{all_from_yields_List}
use Rattle.std.proofs.lemmas.List.Folds.{list_all-map}
use Rattle.ssh_config.specs.Checks.{knows_each}
use Rattle.ssh_config.proofs.checks.knows_pairs.Goals as goal

pub returns : goal.returns
returns g c =
    let macs = map (λ name. name.now) c.args.mac.now in
    let each = all_from_yields_List (λ name. knows_each g.S.Sealing.crypto macs name.now) _ _ c.all.result c.all.ensures.ran (YieldsList-from_slice c.args.encryption.now cc) (λ x b q k. search (rules, tests)) in
    each ∙ sym (list_all-map (knows_each g.S.Sealing.crypto macs) (λ name. name.now) c.args.encryption.now)
