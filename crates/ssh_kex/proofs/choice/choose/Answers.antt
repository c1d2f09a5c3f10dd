use Rattle.ssh_kex.specs.Values.{chosen_of, kind_of, lists_of}
use Rattle.ssh_kex.proofs.Choices.{there_is, these_are}
use Rattle.ssh_kex.proofs.choice.choose.Goals as goal

pub returns-clause-computed : goal.returns-clause-computed
returns-clause-computed c =
    there_is c.computed_choice.ensures.there c.computed_choice.ensures.none c.all_eight.result (lists_of c.args.client.now) (lists_of c.args.server.now) chosen_of
    (λ refusal. kind_of refusal.kind) c.all_eight.ensures.chosen c.all_eight.ensures.refused

pub returns-clause-computed_names : goal.returns-clause-computed_names
returns-clause-computed_names c =
    these_are c.computed_choice.ensures.is c.all_eight.result (lists_of c.args.client.now) (lists_of c.args.server.now) chosen_of c.all_eight.ensures.chosen
