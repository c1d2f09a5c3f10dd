use Rattle.ssh_end_machine.proofs.Exchanging.{exchanged}
use Rattle.ssh_end_machine.proofs.judge_laws.users_exchanged.Goals as goal

pub returns : goal.returns
returns g c = exchanged (record {
  runs = c.judges_exchanged.ensures.runs;
  sums = c.judges_exchanged.ensures.sums;
  lawful = c.judges_exchanged.ensures.lawful;
  guards = c.against_any_peer.ensures;
})
