use Rattle.example_held.proofs.Serving.{finds_users}
use Rattle.example_held.proofs.Telling.{end_says}
use Rattle.example_held.proofs.server.after_turn.Goals as goal

pub returns-clause-says : goal.returns-clause-says
returns-clause-says g c = end_says finds_users c.args.server.now.end c.end.result.now c.last_turn.result c.lets_in.result c.end.ensures
    c.last_turn.ensures.shows c.lets_in.ensures
