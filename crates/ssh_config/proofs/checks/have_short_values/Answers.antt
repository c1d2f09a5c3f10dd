use borrow.Author.Tests.{tests}
use Rattle.std.proofs.Common.{◌∙◌, sym, rules}
use Rattle.std.proofs.lemmas.Iterator.{YieldsList-from_slice}
use Rattle.std.proofs.lemmas.Iterator.Search.{all_from_yields_List}
use Rattle.std.proofs.lemmas.List.Folds.{list_all-map}
use Rattle.ssh_message.specs.Announced.{extension_of}
use Rattle.ssh_config.specs.Config.{is_short_value}
use Rattle.ssh_config.proofs.checks.have_short_values.Goals as goal

pub returns : goal.returns
returns c =
    let each = all_from_yields_List (λ x. is_short_value (extension_of x)) _ _ c.all.result c.all.ensures.ran (YieldsList-from_slice c.args.extensions.now cc) (λ x b q k. search (rules, tests)) in
    each ∙ sym (list_all-map is_short_value extension_of c.args.extensions.now)
