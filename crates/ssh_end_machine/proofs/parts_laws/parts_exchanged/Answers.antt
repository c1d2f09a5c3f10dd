use Rattle.ssh_end_machine.proofs.Supplying.{SuppliedLaws, host_signer_exchanged, judge_exchanged, signer_exchanged, trust_exchanged}
use Rattle.ssh_end_machine.proofs.parts_laws.parts_exchanged.Goals as goal

pub returns : goal.returns
returns g c =
    let l : SuppliedLaws _ = record {
      runs = c.parts_exchanged.ensures.runs;
      sums = c.parts_exchanged.ensures.sums;
      lawful = c.parts_exchanged.ensures.lawful;
      guards = c.against_any_peer.ensures;
    } in
    record {
      judge = judge_exchanged l;
      host_trust = trust_exchanged l;
      user_signature = signer_exchanged l;
      host_signature = host_signer_exchanged l;
    }
