use Rattle.std.proofs.Common.{◌≡◌, ℕ, slice_index, subst, ap, ◌∙◌, inl, inr, refl, sym, arith}
use Rattle.std.proofs.lemmas.Bool.{cases_lt}
use Rattle.ciphers.specs.declared.aes_gcm.ghash.Element.{Element}
use Rattle.ciphers.specs.AesGcm.Ghash.{product}
use Rattle.ciphers.specs.AesGcm.Tables.{bit_column, bytes_of, element_of, nibble, place}
use Rattle.ciphers.proofs.AesGcmLemmas.Tables.{place_below_16}
use Rattle.ciphers.proofs.aes_gcm.table.bit_products.Goals as goal

pub loop-l-preserved : goal.loop-l-preserved
loop-l-preserved c =
    let l : ℕ = c.loop-l.l in
    let g : ℕ = c.args.g in
    let key = c.args.key in
    let new = c.put_column.new.table in
    let made : c.product.result ≡ product (element_of (nibble (bit_column g l))) key = c.product.ensures ∙ rw (c.nibble.ensures, c.bit_column.ensures.column) refl in
    record {
      done = λ i j lt h. ap (slice_index new) (place_below_16 i j (omega (arith, lt))) ∙ elim (cases_lt i l) [
        | inl below ↦ c.put_column.ensures.additional i j (λ e. omega (arith, e, below)) h ∙ ap (slice_index c.loop-l.products) (sym (place_below_16 i j (omega (arith, lt)))) ∙ c.loop-l.invariant.done i j below h
        | inr above ↦
            let e : l ≡ i = omega arith in
            subst (λ (q : ℕ). slice_index new (place q j) ≡ slice_index (bytes_of (product (element_of (nibble (bit_column g q))) key)) j) e
            (c.put_column.ensures.here j h ∙ ap (λ (x : Element). slice_index (bytes_of x) j) made)
      ];
      long = c.put_column.ensures.long ∙ c.loop-l.invariant.long;
    }
