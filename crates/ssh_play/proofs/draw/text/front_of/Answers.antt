use Rattle.std.proofs.Common.{◌∙◌, ◌++◌, ap, sym, drop, arith}
use Rattle.std.proofs.lemmas.List.Folds.{drop_split}
use Rattle.ssh_play.proofs.draw.text.front_of.Goals as goal

pub returns-in-Some-clause-front : goal.returns-in-Some-clause-front
returns-in-Some-clause-front c =
    let rest = drop c.saturating_sub.result c.args.text.now in
    (rest, drop_split c.args.text.now 0 c.saturating_sub.result (omega arith) ∙ ap (λ front. front ++ rest) (sym c.in-Some.ensures.cases.0))
