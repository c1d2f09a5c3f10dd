use Rattle.std.proofs.Common.{arith}
use Rattle.ssh_model.specs.declared.refusal.Refusal.TheVariants.{BadHost, BadMessage, BadPoint}
use Rattle.ssh_model.specs.Protocol.Sessions.Refusals.{refusal_name}
use Rattle.ssh_transport.proofs.laws.ending.role_laws.Goals as goal

pub returns : goal.returns
returns g c side = record {
  numbers = c.payload_numbers.ensures;
  says_message = c.encodings.ensures.disconnect 2 (refusal_name BadMessage) (omega arith) (omega arith);
  says_point = c.encodings.ensures.disconnect 3 (refusal_name BadPoint) (omega arith) (omega arith);
  says_host = c.encodings.ensures.disconnect 9 (refusal_name BadHost) (omega arith) (omega arith);
  unread = c.unread_refused.ensures side;
  kexinits = c.kexinits_taken.ensures.taken side;
  kexinits_die = c.kexinits_taken.ensures.died side;
  kexinits_stand = c.kexinits_stand.ensures side;
  exchanges_stand = c.exchanges_stand.ensures side;
  forgets = c.secrets_forgotten.ensures;
  ended = λ p. c.exchange_ends.ensures.ended p side;
  choices = λ p. c.choices.ensures p side;
  refused = λ p. c.payload_is_one_turn.ensures.refused p side;
  spent = λ p. c.refused_and_spent.ensures.end_spent p side;
}
