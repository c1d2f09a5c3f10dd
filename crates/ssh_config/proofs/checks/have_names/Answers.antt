use borrow.Author.Tests.{tests}
use Rattle.std.proofs.Common.{◌∙◌, rules}
use Rattle.std.proofs.lemmas.Iterator.{YieldsList-from_slice}
use Rattle.std.proofs.lemmas.Iterator.Search.{all_from_yields_List}
use Rattle.ssh_model.specs.Protocol.Wire.DataTypes.{is_name}
use Rattle.ssh_config.proofs.Announced.{all_named}
use Rattle.ssh_config.proofs.checks.have_names.Goals as goal

pub returns : goal.returns
returns c =
    let each = all_from_yields_List (λ x. is_name x.name.now) _ _ c.all.result c.all.ensures.ran (YieldsList-from_slice c.args.extensions.now cc) (λ x b q k. search (rules, tests)) in
    each ∙ all_named c.args.extensions.now
