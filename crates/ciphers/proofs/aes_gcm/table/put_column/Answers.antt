use Rattle.std.proofs.Common.{◌≡◌, ℕ, get_or, ◌∙◌, inl, inr, arith}
use Rattle.std.proofs.lemmas.Bool.{cases_lt}
use Rattle.std.proofs.lemmas.List.{get_or-set_same, get_or-set_other, length-set}
use Rattle.ciphers.specs.AesGcm.Tables.{place}
use Rattle.ciphers.proofs.AesGcmLemmas.Tables.{other_row, other_column}
use Rattle.ciphers.proofs.aes_gcm.table.put_column.Goals as goal

pub loop-j-preserved : goal.loop-j-preserved
loop-j-preserved c =
    let old = c.loop-j.table in
    let j : ℕ = c.loop-j.j in
    let n : ℕ = c.args.n in
    let v : ℕ = get_or c.bytes_of-bytes.result j 0 in
    record {
      here = λ i lt. elim (cases_lt i j) [
        | inl below ↦ get_or-set_other old (place n j) (place n i) v 0 (other_row n i j below) ∙ c.loop-j.invariant.here i below
        | inr above ↦
            let e : i ≡ j = omega arith in
            rw e (get_or-set_same old (place n j) v 0 (omega (arith, c.loop-j.invariant.long, c.requires.table)))
      ];
      additional = λ m i ne h. get_or-set_other old (place n j) (place m i) v 0 (other_column m n i j ne h (omega arith)) ∙ c.loop-j.invariant.additional m i ne h;
      long = length-set old (place n j) v ∙ c.loop-j.invariant.long;
    }
