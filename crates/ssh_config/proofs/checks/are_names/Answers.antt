use borrow.Author.Tests.{tests}
use Rattle.std.proofs.Common.{◌∙◌, sym, rules}
use Rattle.std.proofs.lemmas.Iterator.{YieldsList-from_slice}
use Rattle.std.proofs.lemmas.Iterator.Search.{all_from_yields_List}
use Rattle.std.proofs.lemmas.List.Folds.{list_all-map}
use Rattle.ssh_model.specs.Protocol.Wire.DataTypes.{is_name}
use Rattle.ssh_config.proofs.checks.are_names.Goals as goal

pub returns : goal.returns
returns c =
    let each = all_from_yields_List (λ name. is_name name.now) _ _ c.all.result c.all.ensures.ran (YieldsList-from_slice c.args.texts.now cc) (λ x b q k. search (rules, tests)) in
    each ∙ sym (list_all-map (is_name) (λ name. name.now) c.args.texts.now)
