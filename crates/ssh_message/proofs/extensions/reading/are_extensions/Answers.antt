use Rattle.std.proofs.Common.{◌≡◌, ℕ, suc, ◌-◌, ◌+◌, arith, sym, ap, ◌∙◌, false}
use Rattle.ssh_message.specs.Extensions.{are_extensions}
use Rattle.ssh_message.proofs.Announcing.{empty_is, extensions_more, extensions_none}
use Rattle.ssh_message.proofs.extensions.reading.are_extensions.Goals as goal

pub returns-in_default : goal.returns-in_default
returns-in_default c =
    sym (c.loop.invariant.left ∙ extensions_none (c.args.count - c.loop.counter) (c.args.count - (c.loop.counter + 1)) c.loop.left.now (omega arith) c.in_default.ensures.none)

pub loop-preserved : goal.loop-preserved
loop-preserved c = record {
  left = c.loop.invariant.left ∙ extensions_more (c.args.count - c.loop.counter) (c.args.count - (c.loop.counter + 1)) c.loop.left.now (omega arith) c.in-Some.ensures.whole
      ∙ ap (are_extensions (c.args.count - (c.loop.counter + 1))) (sym c.in-Some.ensures.rest);
  within = omega arith;
}

pub returns : goal.returns
returns c =
    let none : c.args.count - c.loop.counter ≡ 0 = omega arith in
    c.is_empty.ensures ∙ empty_is c.loop.left.now ∙ sym (c.loop.invariant.left ∙ ap (λ (n : ℕ). are_extensions n c.loop.left.now) none)

pub loop-init : goal.loop-init
loop-init c =
    let all : c.args.count ≡ c.args.count - 0 = omega arith in
    record { left = ap (λ (n : ℕ). are_extensions n c.args.bytes.now) all; within = omega arith }
