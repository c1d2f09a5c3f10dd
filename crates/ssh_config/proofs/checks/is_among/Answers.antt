use borrow.Author.Tests.{tests}
use Rattle.std.proofs.Common.{◌∙◌, rules}
use Rattle.std.proofs.lemmas.Iterator.{YieldsList-from_slice}
use Rattle.std.proofs.lemmas.Iterator.Search.{any_from_yields_List}
use Rattle.ssh_config.specs.Config.{is_same}
use Rattle.ssh_config.proofs.Announced.{any_named}
use Rattle.ssh_config.proofs.checks.is_among.Goals as goal

pub returns : goal.returns
returns c =
    let some = any_from_yields_List (λ x. is_same c.args.name.now x.name.now) _ _ c.any.result c.any.ensures.ran (YieldsList-from_slice c.args.extensions.now cc) (λ x b q k. search (rules, tests)) in
    some ∙ any_named (is_same c.args.name.now) c.args.extensions.now
