use Rattle.std.proofs.Common.{subst}
use Rattle.ciphers.specs.declared.aes_gcm.ghash.Element.{Element}
use Rattle.ciphers.specs.AesGcm.Tables.{IsNibbles}
use Rattle.ciphers.proofs.aes_gcm.table.grow.Goals as goal

pub returns : goal.returns
returns c =
    let k : Element = c.args.key in
    let one : IsNibbles 1 c.fill.new.table k = subst (λ (e : Element). IsNibbles 1 c.fill.new.table e) c.whole.ensures.same c.fill.ensures in
    c.double-4.ensures 8 k (c.double-3.ensures 4 k (c.double-2.ensures 2 k (c.double.ensures 1 k one)))
