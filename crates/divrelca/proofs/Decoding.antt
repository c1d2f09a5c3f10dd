-- When decoding into a slice gives as many bytes as the slice has.
use Rattle.std.proofs.Common.{◌≡◌, ℕ, zero, suc, ◌*◌, ◌/◌, ◌<◌, Bool, true, false, List, [], ◌++◌, length, drop, Option, Some, None, Result, Ok, Err, if◌then◌else◌, nat_lt, nat_eq, refl, sym, ap, inl, inr, ◌∙◌, arith, length-append, append-nil, eq-eqb, eqb-true, ltb-true, ne_eqb}
use Rattle.std.proofs.lemmas.Bool.{cases_Bool}
use Rattle.std.proofs.lemmas.Bool.Decides.{nat_tests}
use Rattle.std.proofs.lemmas.List.{drop_all}
use Rattle.base64.specs.Decode.{IsWrittenOver, bytes_fit, decode_error, decode_outcome, decode_slice_result, decoded_bytes, group_bytes, groups_before_last, groups_bytes, lone_error, groups_error, or_else, or_error, suffix_bytes, suffix_error}
use Rattle.base64.specs.Engines.{standard}
use Rattle.base64.specs.GeneralPurpose.{decode_of, decode_slice_of, decoded_bytes_of}
use Rattle.base64.specs.declared.decode.DecodeError.{DecodeError}
use Rattle.base64.specs.declared.decode.DecodeSliceError.{DecodeSliceError}
use Rattle.base64.specs.declared.decode.DecodeSliceError.TheVariants.{OutputSliceTooSmall}
use Rattle.base64.specs.declared.engine.DecodePaddingMode.{DecodePaddingMode}
use Rattle.divrelca.specs.Keys.{bytes_in, of_length}

-- the bytes, where decoding into a slice filled it
abbrev filled : (count : ℕ) → Result ℕ DecodeSliceError → List ℕ → Option (List ℕ)
filled count (Ok n) bytes = if nat_eq n count then Some bytes else None
filled count (Err error) bytes = None

too_long : (count n : ℕ) → count < n → nat_eq n count ≡ false
too_long count n lt = grind (arith, nat_tests)

-- bytes that are too many
refused_long : (count : ℕ) (bytes : List ℕ) → count < length bytes → None ≡ of_length count (Ok bytes)
refused_long count bytes lt = sym (ap (λ (b : Bool). if b then Some bytes else None) (too_long count (length bytes) lt))

fits_in : (count : ℕ) (bytes : List ℕ) (b : Bool) → nat_lt count (length bytes) ≡ b → filled count (if b then Err OutputSliceTooSmall else Ok (length bytes)) bytes ≡ of_length count (Ok bytes)
fits_in count bytes true e = refused_long count bytes (ltb-true count (length bytes) e)
fits_in count bytes false e = refl

-- what was decoded is what fills the slice
fills : (count : ℕ) (lone rest : Option DecodeError) (small : Bool) (bytes : List ℕ) → (small ≡ true → count < length bytes) →
    filled count (or_error lone (if small then Err OutputSliceTooSmall else or_error rest (bytes_fit (length bytes) count))) bytes ≡ of_length count (decode_outcome (or_else lone rest) bytes)
fills count (Some e) rest small bytes h = refl
fills count None (Some e) true bytes h = refl
fills count None (Some e) false bytes h = refl
fills count None None true bytes h = refused_long count bytes (h refl)
fills count None None false bytes h = fits_in count bytes (nat_lt count (length bytes)) refl

length-groups : (dec s : List ℕ) (q : ℕ) → length (groups_bytes dec s q) ≡ 3 * q
unfolding groups_bytes
length-groups dec s zero = refl
length-groups dec s (suc q) = omega (arith, length-append (groups_bytes dec s q) (group_bytes dec s (4 * q)), length-groups dec s q)

-- groups for which there is no room are too many bytes
too_many : (dec s : List ℕ) (pad count : ℕ) → nat_lt (count / 3) (groups_before_last (length s)) ≡ true → count < length (decoded_bytes dec pad s)
too_many dec s pad count e =
    let q : ℕ = groups_before_last (length s) in
    let lt : count / 3 < q = ltb-true (count / 3) q e in
    omega (arith, length-append (groups_bytes dec s q) (suffix_bytes dec pad (4 * q) s), length-groups dec s q)

slice_fills : (dec s : List ℕ) (pad count : ℕ) (allow : Bool) (mode : DecodePaddingMode) →
    filled count (decode_slice_result dec pad allow mode s count) (decoded_bytes dec pad s) ≡ of_length count (decode_outcome (decode_error dec pad allow mode s) (decoded_bytes dec pad s))
slice_fills dec s pad count allow mode =
    let q : ℕ = groups_before_last (length s) in
    fills count (lone_error dec pad s) (or_else (groups_error dec s q) (suffix_error dec pad allow mode (4 * q) s)) (nat_lt (count / 3) q) (decoded_bytes dec pad s) (too_many dec s pad count)

standard_fills : (s : List ℕ) (count : ℕ) → bytes_in count s ≡ filled count (decode_slice_of standard s count) (decoded_bytes_of standard s)
unfolding bytes_in
standard_fills s count = sym (slice_fills standard.decode_table s standard.padding.value count standard.config.decode_allow_trailing_bits standard.config.decode_padding_mode)

-- ---- what the code tells

-- an error is no filled slice
pub not_decoded : (s : List ℕ) (count : ℕ) (error : DecodeSliceError) → Err error ≡ decode_slice_of standard s count → bytes_in count s ≡ None
not_decoded s count error e = standard_fills s count ∙ ap (λ (r : Result ℕ DecodeSliceError). filled count r (decoded_bytes_of standard s)) (sym e)

counted : (s : List ℕ) (count n : ℕ) → Ok n ≡ decode_slice_of standard s count → bytes_in count s ≡ (if nat_eq n count then Some (decoded_bytes_of standard s) else None)
counted s count n e = standard_fills s count ∙ ap (λ (r : Result ℕ DecodeSliceError). filled count r (decoded_bytes_of standard s)) (sym e)

-- Decoded bytes of a length have it.
length-of : (count : ℕ) (r : Result (List ℕ) DecodeError) (bytes : List ℕ) → of_length count r ≡ Some bytes → length bytes ≡ count
length-of count (Err error) bytes e = absurd (cc)
length-of count (Ok found) bytes e =
    elim (cases_Bool (nat_eq (length found) count)) [
      | inl yes' ↦
          let q : Some found ≡ Some bytes = sym (ap (λ (b : Bool). if b then Some found else None) yes') ∙ e in
          let same : found ≡ bytes = cc in
          sym (ap length same) ∙ eqb-true (length found) count yes'
      | inr no' ↦ absurd (let q : None ≡ Some bytes = sym (ap (λ (b : Bool). if b then Some found else None) no') ∙ e in cc)
    ]

-- a filled slice is the bytes
pub taken : (s old new : List ℕ) (n : ℕ) → Ok n ≡ decode_slice_of standard s (length old) → IsWrittenOver (decoded_bytes_of standard s) old new → n ≡ length old → bytes_in (length old) s ≡ Some new
unfolding bytes_in
taken s old new n e w same =
    let b : List ℕ = decoded_bytes_of standard s in
    let found : bytes_in (length old) s ≡ Some b = counted s (length old) n e ∙ ap (λ (t : Bool). if t then Some b else None) (eq-eqb n (length old) same) in
    let size : length b ≡ length old = length-of (length old) (decode_of standard s) b found in
    let none : drop (length b) old ≡ [] = drop_all (length b) old (omega arith) in
    let whole : new ≡ b = w ∙ ap (λ (l : List ℕ). b ++ l) none ∙ append-nil b in
    found ∙ ap (λ (l : List ℕ). Some l) (sym whole)

-- a slice that is not filled
pub not_taken : (s old : List ℕ) (n : ℕ) → Ok n ≡ decode_slice_of standard s (length old) → (n ≡ length old → ⊥) → bytes_in (length old) s ≡ None
not_taken s old n e other =
    let unlike : nat_eq n (length old) ≡ false = ne_eqb n (length old) other in
    counted s (length old) n e ∙ ap (λ (t : Bool). if t then Some (decoded_bytes_of standard s) else None) unlike
