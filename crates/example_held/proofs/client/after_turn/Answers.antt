use Rattle.example_held.proofs.Meeting.{finds_exchanges}
use Rattle.example_held.proofs.Telling.{end_says}
use Rattle.example_held.proofs.client.after_turn.Goals as goal

pub returns-clause-says : goal.returns-clause-says
returns-clause-says g c = end_says finds_exchanges c.args.client.now.end c.end.result.now c.last_turn.result c.completes.result
    c.end.ensures
    c.last_turn.ensures.shows c.completes.ensures
