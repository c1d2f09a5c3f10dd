use Rattle.ssh_transport.proofs.Kexinits.{answered_so, would_answer}
use Rattle.ssh_transport.proofs.laws.kexinit.kexinits_taken.Goals as goal

pub returns-clause-taken : goal.returns-clause-taken
returns-clause-taken g c side p history s sums alive old new o kept facts is answer x =
    answered_so c.payload_numbers.ensures p side history s sums alive old kept facts (record {
      answered = c.payload_is_one_turn.ensures.answered;
      skipped = c.payload_is_one_turn.ensures.skipped;
      disconnected = c.payload_is_one_turn.ensures.disconnected;
      refused = c.payload_is_one_turn.ensures.refused;
      spent = c.payload_is_one_turn.ensures.spent;
      numbers = c.payload_numbers.ensures;
    }) is new o answer x

pub returns-clause-died : goal.returns-clause-died
returns-clause-died g c side p history s sums alive old kept facts is x = would_answer c.payload_numbers.ensures p side history s sums alive old kept facts is x
