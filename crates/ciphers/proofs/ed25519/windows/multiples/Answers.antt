use Rattle.std.proofs.Common.{◌≡◌, ℕ, ◌-◌, ◌<◌, refl, arith, length}
use Rattle.ciphers.specs.declared.ed25519.point.Point.{Point}
use Rattle.ciphers.specs.Ed25519.Point.{IsPoint, numbers}
use Rattle.ciphers.specs.Ed25519.Windows.{multiple}
use Rattle.ciphers.proofs.ed25519.windows.multiples.Goals as goal
use Rattle.ciphers.proofs.Ed25519Lemmas.Steps.{neutral_point, next_multiple, no_multiples, one_point, only_zero, same_length}

pub loop-i-init : goal.loop-i-init
loop-i-init c = record {
  size = refl;
  value = only_zero _ (no_multiples (numbers c.args.p));
  point = only_zero _ neutral_point;
}

pub loop-i-preserved : goal.loop-i-preserved
loop-i-preserved c =
    let i : ℕ = c.loop-i.i in
    let q : Point = c.added_prepared.result in
    let fits : i < length c.loop-i.table = omega arith in record {
      size = same_length c.loop-i.table i q c.loop-i.invariant.size;
      value =
          one_point (λ (k : ℕ) (r : Point). numbers r ≡ multiple (numbers c.args.p) k) c.loop-i.table i q fits c.loop-i.invariant.value
          (next_multiple (numbers c.args.p) i c.loop-i.auto.i (c.loop-i.invariant.value (i - 1) (omega arith)) c.prepared-ready.ensures.value
          c.added_prepared.ensures.value);
      point = one_point (λ (k : ℕ) (r : Point). IsPoint r) c.loop-i.table i q fits c.loop-i.invariant.point c.added_prepared.ensures.point;
    }
