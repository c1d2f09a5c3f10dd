use Rattle.ssh_model.specs.Protocol.Sessions.Turns.{stage}
use Rattle.ssh_end_machine.proofs.Peeking.{Alone, answered, foreseen, only_peeked, unforeseen, whole}
use Rattle.ssh_end_machine.proofs.peeking_laws.peeked_is_answered.Goals as goal

pub returns : goal.returns
returns g c = record {
  foreseen = λ p side history machine layers sums bytes payload x.
      foreseen p side history machine (c.same_units.ensures.packets p side history machine.kept sums.transport x.alive x.found) bytes payload x;
  answered = λ p side history held bytes payload lawful f used items t.
      let l : Alone p.crypto (stage p side history) = record {
        alone = λ unit more other a b. c.stream_units.ensures.stand_alone p.crypto (stage p side history) unit more other a b lawful.sealing;
        outcome = λ unit a b. c.stream_units.ensures.have_one_outcome p.crypto (stage p side history) unit a b lawful.sealing;
      } in
      answered p side history l held bytes payload f used items t;
  taken = λ p side history held bytes payload lawful f used shown done new o x.
      let l : Alone p.crypto (stage p side history) = record {
        alone = λ unit more other a b. c.stream_units.ensures.stand_alone p.crypto (stage p side history) unit more other a b lawful.sealing;
        outcome = λ unit a b. c.stream_units.ensures.have_one_outcome p.crypto (stage p side history) unit a b lawful.sealing;
      } in
      only_peeked p side history payload shown done x.items
      (answered p side history l held bytes payload f used x.items x.turned.turn) x.shows;
  unforeseen = λ p side history machine layers sums alive taking going bytes none used most items t.
      unforeseen p side history machine alive taking going (λ found. c.same_units.ensures.back p side history machine.kept sums.transport alive found)
      (sums.transport.live alive).lines.found_is bytes none used most items t;
  whole = λ p side history held bytes payload lawful f alive waits. whole p side history held bytes payload f alive waits;
}
