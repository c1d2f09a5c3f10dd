use Rattle.std.proofs.Common.{◌≡◌, ◌+◌, ℕ, List, [], ◌++◌, arith, drop, refl, sym, ap, ◌∙◌, take}
use Rattle.std.proofs.lemmas.Bool.{false≢true}
use Rattle.std.proofs.lemmas.List.{drop-take, take-append-drop, take-take}
use Rattle.example_accepted.proofs.Telling.{served_on, served_over}
use Rattle.example_accepted.proofs.serve.Goals as goal

-- the first bytes, and some of those after them
taken : (at used : ℕ) (bytes : List ℕ) → take at bytes ++ take used (drop at bytes) ≡ take (at + used) bytes
taken at used bytes =
    ap (λ (l : List ℕ). l ++ take used (drop at bytes)) (sym (take-take at (at + used) bytes (omega arith)))
    ∙ (ap (λ (l : List ℕ). take at (take (at + used) bytes) ++ l) (sym (drop-take at used bytes)) ∙ take-append-drop at (take (at + used) bytes))

pub loop-at-init : goal.loop-at-init
loop-at-init g c = record {
  within = omega arith;
  going = λ p history given. record { items = []; place = given; let_in = λ so. absurd (false≢true so); kept_out = λ so user by told. told; reads = λ following last rest d. d };
}

pub loop-at-preserved : goal.loop-at-preserved
loop-at-preserved g c = record {
  within = omega (arith, c.in_ok-used.ensures.used, c.split_at.ensures.back_len);
  going = λ p history given.
      let x = c.loop-at.invariant.going p history given in
      let all = ap (λ (l : List ℕ). take c.loop-at.at c.args.bytes.now ++ take c.in_ok-used.used l) c.split_at.ensures.back ∙ taken c.loop-at.at c.in_ok-used.used c.args.bytes.now in
      rw c.either-is_in.ensures
      (served_on p _ _ _ _ history _ _ _ c.loop-at.server.machine c.serve_unit.new.server.machine _ _ c.loop-at.is_in c.in_ok-used.is_told (take (c.loop-at.at + c.in_ok-used.used) c.args.bytes.now) all x (c.in_ok-used.ensures.serves p (x.items ++ history) x.place));
}

pub returns-then-is_dead : goal.returns-then-is_dead
returns-then-is_dead g c = record {
  serves = λ p history given.
      served_over p _ _ history _ (take c.loop-at.at c.args.bytes.now) (drop c.loop-at.at c.args.bytes.now) c.args.bytes.now c.loop-at.is_in c.loop-at.server.machine _ (take-append-drop c.loop-at.at c.args.bytes.now) refl
      (sym c.is_dead.ensures ∙ c.if-is_dead.true) (c.loop-at.invariant.going p history given);
}
