use Rattle.std.proofs.Common.{sym, ap₂, ◌∙◌}
use Rattle.ciphers.specs.AesGcm.Ghash.{absorbed}
use Rattle.ciphers.proofs.AesGcmLemmas.Sums.{one_block}
use Rattle.ciphers.proofs.aes_gcm.table.absorbed_from.Goals as goal

pub loop-i-preserved : goal.loop-i-preserved
loop-i-preserved c s e =
    c.absorbed-all.ensures
    ∙ ap₂ (absorbed c.args.key) (c.loop-i.invariant s e) c.block_at.ensures
    ∙ sym (one_block c.loop-i.i c.args.key s c.args.bytes.now)
