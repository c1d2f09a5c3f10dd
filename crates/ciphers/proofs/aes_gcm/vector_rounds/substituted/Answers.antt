use Rattle.std.proofs.Common.{subst, sym}
use Rattle.ciphers.specs.declared.aes_gcm.lanes.Vectors.{Vectors}
use Rattle.ciphers.specs.AesGcm.Rows.{AreVectors}
use Rattle.ciphers.specs.AesGcm.Same.{Same}
use Rattle.ciphers.specs.AesGcm.SubBytes as plane_bytes
use Rattle.ciphers.proofs.AesGcmLemmas.Rounds.{sub_same}
use Rattle.ciphers.proofs.AesGcmLemmas.SubBits.{sub_are}
use Rattle.ciphers.proofs.aes_gcm.vector_rounds.substituted.Goals as goal

pub returns : goal.returns
returns c = record {
  bits = λ b a lt s. subst (λ (v : Vectors). Same b (plane_bytes.sub_bytes a) v) (sym c.sub_bytes.ensures) (sub_same b a c.args.s lt c.requires s);
  long = subst (λ (v : Vectors). AreVectors v) (sym c.sub_bytes.ensures) (sub_are c.args.s c.requires);
}
