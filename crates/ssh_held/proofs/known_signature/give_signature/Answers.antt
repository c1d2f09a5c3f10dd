use Rattle.ssh_held.proofs.known_signature.give_signature.Goals as goal

pub returns-clause-given : goal.returns-clause-given
returns-clause-given g c = record {
  given = record {
    algorithm = c.in_ok-text.field-0;
    key = c.in_ok-text-2.field-0;
    text = c.in_ok-text_of_now.field-0;
    signature = c.in_ok-text-3.field-0;
  };
  added = c.in_ok-add.ensures.given;
  algorithm_is = c.in_ok-text.ensures;
  key_is = c.in_ok-text-2.ensures;
  text_is = c.in_ok-text_of_now.ensures;
  signature_is = c.in_ok-text-3.ensures;
}
