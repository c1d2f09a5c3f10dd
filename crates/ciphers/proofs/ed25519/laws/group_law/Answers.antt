use Rattle.ciphers.proofs.Ed25519Lemmas.Group.Closed.{added_is_curve}
use Rattle.ciphers.proofs.Ed25519Lemmas.Group.Laws.{added_commutes, added_identity, added_negated, base_is_curve}
use Rattle.ciphers.proofs.Ed25519Lemmas.Group.Same.{added_associates, added_same, encoded_same}
use Rattle.ciphers.proofs.Ed25519Lemmas.Ladder.Equal.{field}
use Rattle.ciphers.proofs.ed25519.laws.group_law.Goals as goal

pub returns : goal.returns
returns c = record {
  closed = added_is_curve field;
  commutes = added_commutes;
  associates = added_associates field;
  identity = added_identity;
  opposite = added_negated;
  same = added_same field;
  encoded = encoded_same field;
  base = base_is_curve;
}
