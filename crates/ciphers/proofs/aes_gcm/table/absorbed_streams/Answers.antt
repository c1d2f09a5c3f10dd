use Rattle.std.proofs.Common.{ℕ, sym, ap₂, ◌∙◌}
use Rattle.ciphers.specs.declared.aes_gcm.ghash.Element.{Element}
use Rattle.ciphers.specs.AesGcm.Ghash.{absorbed}
use Rattle.ciphers.specs.AesGcm.Streams.{byte_in}
use Rattle.ciphers.specs.AesGcm.Tables.{element_of, none}
use Rattle.ciphers.proofs.AesGcmLemmas.Chain.{absorb_nothing}
use Rattle.ciphers.proofs.AesGcmLemmas.Blocks.{absorb_next}
use Rattle.ciphers.proofs.aes_gcm.table.absorbed_streams.Goals as goal

pub loop-l-init : goal.loop-l-init
loop-l-init c = sym (absorb_nothing c.args.key none (λ (l : ℕ). element_of (byte_in c.args.all.now l)))

pub loop-l-preserved : goal.loop-l-preserved
loop-l-preserved c =
    let k : Element = c.args.key in
    c.absorbed-sum.ensures
    ∙ ap₂ (absorbed k) c.loop-l.invariant c.turned_block.ensures
    ∙ absorb_next k none (λ (l : ℕ). element_of (byte_in c.args.all.now l)) c.loop-l.l
