use Rattle.std.proofs.Common.{◌≡◌, ℕ, ◌+◌, ◌*◌, ◌/◌, ◌%◌, get_or, slice_index, subst, ap, ap₂, ◌∙◌, inl, inr, arith}
use Rattle.std.proofs.Common.{set}
use Rattle.std.proofs.lemmas.Bool.{cases_lt}
use Rattle.std.proofs.lemmas.List.{get_or-set_other, get_or-set_same, length-set}
use Rattle.ciphers.specs.AesGcm.Tables.{bit_column, place}
use Rattle.ciphers.proofs.aes_gcm.table.bit_columns.Goals as goal

pub loop-n-preserved : goal.loop-n-preserved
loop-n-preserved c =
    let old = c.loop-n.columns in
    let t = c.args.table.now in
    let n : ℕ = c.loop-n.n in
    let v : ℕ = slice_index t (place c.bit_column-column.result (n / 16)) in
    let is : v ≡ slice_index t (place (bit_column c.args.g (n % 16)) (n / 16)) = ap (λ (m : ℕ). slice_index t (place m (n / 16))) c.bit_column-column.ensures.column in
    record {
      done = λ k h. elim (cases_lt k n) [
        | inl below ↦ get_or-set_other old n k v 0 (omega (arith, below)) ∙ c.loop-n.invariant.done k below
        | inr above ↦
            let e : n ≡ k = omega arith in
            subst (λ (q : ℕ). get_or (set old n v) q 0 ≡ slice_index t (place (bit_column c.args.g (q % 16)) (q / 16))) e (get_or-set_same old n v 0 (omega (arith, c.loop-n.invariant.long)) ∙ is)
      ];
      long = length-set old n v ∙ c.loop-n.invariant.long;
    }

pub returns-clause-bytes : goal.returns-clause-bytes
returns-clause-bytes c l i h lt =
    let t = c.args.table.now in
    let low : (16 * i + l) % 16 ≡ l = omega (arith, h) in
    let high : (16 * i + l) / 16 ≡ i = omega (arith, h) in
    c.loop-n.invariant.done (16 * i + l) (omega (arith, h, lt)) ∙ ap₂ (λ (x y : ℕ). slice_index t (place (bit_column c.args.g x) y)) low high
