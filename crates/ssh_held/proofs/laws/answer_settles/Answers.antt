use Rattle.ssh_held.proofs.Settling.{SettlingLaws, host_settled, request_settled}
use Rattle.ssh_held.proofs.laws.answer_settles.Goals as goal

pub returns : goal.returns
returns g c =
    let l : SettlingLaws g.S.Sealing.crypto = record {
      alone = λ key number count. record {
        alone = λ unit more other a b. c.packet_units.ensures.stand_alone g.S.Sealing.crypto key number count unit more other a b g.met.S.Sealing.laws;
        outcome = λ unit a b. c.packet_units.ensures.have_one_outcome g.S.Sealing.crypto key number count unit a b g.met.S.Sealing.laws;
      };
      one = λ m n payload. c.one_message.ensures _ m n payload;
    } in
    record {
      request = λ machine knows verdicts verdict session bytes payload other x next y.
          request_settled l machine bytes knows verdicts verdict session payload other x next y;
      host = λ agreement knows machine verdicts verdict bytes payload other algorithm later hash next x about y.
          host_settled l machine bytes agreement knows verdicts verdict payload other algorithm later hash next x about y;
    }
