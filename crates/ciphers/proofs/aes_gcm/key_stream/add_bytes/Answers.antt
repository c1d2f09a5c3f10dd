use Rattle.std.proofs.Common.{◌≡◌, ℕ, ◌+◌, get_or, bit_xor, ap, ◌∙◌, inl, inr, arith}
use Rattle.std.proofs.lemmas.Bool.{cases_lt}
use Rattle.std.proofs.lemmas.List.{get_or-set_other, get_or-set_same}
use Rattle.ciphers.proofs.aes_gcm.key_stream.add_bytes.Goals as goal

pub loop-i-preserved : goal.loop-i-preserved
loop-i-preserved c =
    let text = c.loop-i.text in
    let i : ℕ = c.loop-i.i in
    let at : ℕ = c.args.at in
    let v : ℕ = bit_xor (get_or text (at + i) 0) (get_or c.args.bytes.now (c.args.from + i) 0) in
    record {
      here = λ k h. elim (cases_lt k i) [
        | inl below ↦ get_or-set_other text (at + i) (at + k) v 0 (omega (arith, below)) ∙ c.loop-i.invariant.here k below
        | inr above ↦
            let e : k ≡ i = omega arith in
            rw e (get_or-set_same text (at + i) v 0 (omega (arith, c.loop-i.auto.text)) ∙ ap (λ (n : ℕ). bit_xor n (get_or c.args.bytes.now (c.args.from + i) 0)) (c.loop-i.invariant.rest i (omega arith)))
      ];
      rest = λ k h. get_or-set_other text (at + i) (at + k) v 0 (omega (arith, h)) ∙ c.loop-i.invariant.rest k (omega (arith, h));
      before = λ k h. get_or-set_other text (at + i) k v 0 (omega (arith, h)) ∙ c.loop-i.invariant.before k h;
    }
