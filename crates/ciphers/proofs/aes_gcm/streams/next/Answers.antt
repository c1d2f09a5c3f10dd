use Rattle.std.proofs.Common.{ℕ, ◌*◌, ap, ◌∙◌}
use Rattle.ciphers.specs.AesGcm.Streams.{byte_in, sum_of}
use Rattle.ciphers.proofs.aes_gcm.streams.next.Goals as goal

pub returns : goal.returns
returns c = record {
  lanes = λ l h. c.times.ensures.lanes l h
      ∙ ap (λ (n : ℕ). sum_of c.args.table.now (byte_in c.args.all.now l) (16 * c.args.j) n 16) (c.row.ensures.lanes l h);
  long = c.times.ensures.long;
}
