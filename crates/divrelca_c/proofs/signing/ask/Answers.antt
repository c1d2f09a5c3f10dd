use Rattle.std.proofs.Common.{◌≡◌, ◌∙◌, of_z, refl, rules, subst, sym, to_z, w32, ℤ}
use Rattle.divrelca_c.specs.Signing.{AsksSigned, AsksSigned.asks, AsksSigned.lacks}
use Rattle.divrelca_c.proofs.signing.ask.Goals as goal

pub returns-in-Some : goal.returns-in-Some
returns-in-Some c =
    let same : to_z w32 (of_z w32 c.code_lack.result) ≡ c.code_lack.result = search rules in
    lacks c.in-Some.why c.in-Some.ensures.lacks (same ∙ c.code_lack.ensures.code) refl refl

pub returns-in-None : goal.returns-in-None
returns-in-None c =
    let same : to_z w32 (of_z w32 c.ask.result) ≡ c.ask.result = search rules in
    subst (λ (code : ℤ). AsksSigned c.args.client.now c.args.ask.now code c.args.channel.now c.ask.new.channel c.ask.new.end) (sym same)
    (asks (c.lacks.ensures.signed c.in-None.is) c.ask.ensures)
