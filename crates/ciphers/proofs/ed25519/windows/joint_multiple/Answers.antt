use Rattle.std.proofs.Common.{◌≡◌, ◌∙◌, arith}
use Rattle.ciphers.specs.Ed25519.Point.{numbers}
use Rattle.ciphers.proofs.ed25519.windows.joint_multiple.Goals as goal
use Rattle.ciphers.proofs.Ed25519Lemmas.Steps.{neutral_point, all_windows, next_joint, next_window, no_windows}

pub high-init : goal.high-init
high-init c = record { value = no_windows (numbers c.args.p) c.args.bytes.now; point = neutral_point }

pub high-preserved : goal.high-preserved
high-preserved c = record {
  value =
      next_window (numbers c.args.p) c.args.bytes.now c.high.i c.high.invariant.value c.sixteen_times.ensures.value c.digit_at.ensures.value
      (c.multiples-table.ensures.value c.digit_at.result c.digit_at.ensures.below) c.with_digit-q.ensures.value;
  point = c.with_digit-q.ensures.point;
}

pub low-init : goal.low-init
low-init c =
    let all : c.high.i ≡ 48 = omega arith in record {
      value = c.high.invariant.value ∙ all_windows c.args.s (numbers c.args.p) c.args.bytes.now c.high.i all;
      point = c.high.invariant.point;
    }

pub low-preserved : goal.low-preserved
low-preserved c = record {
  value =
      next_joint c.args.s (numbers c.args.p) c.args.bytes.now c.low.i c.low.invariant.value c.sixteen_combed-q.ensures.value
      c.digit_at-in-low.ensures.value
      (c.multiples-table.ensures.value c.digit_at-in-low.result c.digit_at-in-low.ensures.below) c.with_digit-q-in-low.ensures.value;
  point = c.with_digit-q-in-low.ensures.point;
}
