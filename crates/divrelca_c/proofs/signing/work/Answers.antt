use Rattle.std.proofs.Common.{◌≡◌, ◌∙◌, of_z, refl, rules, subst, sym, to_z, w32, ℤ}
use Rattle.divrelca_c.specs.Signing.{WorksSigned, WorksSigned.lacks, WorksSigned.works}
use Rattle.divrelca_c.proofs.signing.work.Goals as goal

pub returns-in-Some : goal.returns-in-Some
returns-in-Some c =
    let same : to_z w32 (of_z w32 c.code_lack.result) ≡ c.code_lack.result = search rules in
    lacks c.in-Some.why c.in-Some.ensures.lacks (same ∙ c.code_lack.ensures.code) c.drop_unsigned.ensures.waits c.drop_unsigned.ensures.same refl

pub returns-in-None : goal.returns-in-None
returns-in-None c =
    let same : to_z w32 (of_z w32 c.work.result) ≡ c.work.result = search rules in
    subst (λ (code : ℤ). WorksSigned c.args.client.now code c.args.channel.now c.work.new.channel c.work.new.end) (sym same)
    (works (c.oldest_lacks.ensures.signed c.in-None.is) c.work.ensures)
