use Rattle.std.proofs.Common.{◌-◌, ap, sym, ◌∙◌}
use Rattle.ciphers.specs.Ed25519.Comb.{combed}
use Rattle.ciphers.proofs.ed25519.comb.base_multiple.Goals as goal
use Rattle.ciphers.proofs.Ed25519Lemmas.Steps.{neutral_point, no_teeth, one_tooth}

pub loop-i-init : goal.loop-i-init
loop-i-init c = (no_teeth c.args.s, neutral_point)

pub loop-i-preserved : goal.loop-i-preserved
loop-i-preserved c = (
  c.combed-q.ensures.value ∙ ap (λ q. combed q c.args.s (63 - c.loop-i.i)) c.loop-i.invariant.0 ∙ sym (one_tooth c.args.s c.loop-i.i),
  c.combed-q.ensures.point,
)
