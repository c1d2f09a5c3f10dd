use Rattle.ssh_packet.proofs.Peeking.{Alone, none_opens, taken_opens}
use Rattle.ssh_packet.proofs.packets.laws.peeked_is_taken.Goals as goal

pub returns-clause-opens : goal.returns-clause-opens
returns-clause-opens g c = λ crypto old new bytes payload used step laws all r n.
    let l : Alone crypto old.direction.key old.direction.number old.direction.count = record {
      alone = λ unit more other a b. c.packet_units.ensures.stand_alone crypto old.direction.key old.direction.number old.direction.count unit more other a b laws;
      outcome = λ unit a b. c.packet_units.ensures.have_one_outcome crypto old.direction.key old.direction.number old.direction.count unit a b laws;
      begun = λ part unit more a. c.packet_units.ensures.come_after_what_is_begun crypto old.direction.key old.direction.number old.direction.count part unit more a laws;
    } in
    taken_opens l bytes used new payload step all r n

pub returns-clause-none : goal.returns-clause-none
returns-clause-none g c = λ crypto old new bytes used most live none r. none_opens crypto old new bytes used most live none r
