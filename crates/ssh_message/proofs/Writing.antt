-- Fields that are written one after the other.
use Rattle.std.proofs.Common.{◌≡◌, ℕ, ◌+◌, ◌<◌, ◌≤◌, List, [], ◌∷◌, zero, suc, Result, Ok, Err, ◌++◌, length, get_or, take, length-append, refl, sym, ap, subst, ◌∙◌, append_assoc, append-nil, arith}
use Rattle.std.proofs.lemmas.List.{take_all, take_more}
use Rattle.std.specs.Prelude.{OnErr, OnOk}
use Rattle.ssh_model.specs.Protocol.Wire.DataTypes.{IsByte}
use Rattle.ssh_model.specs.Laws.Reading.{Writes}
use Rattle.ssh_model.specs.Protocol.Wire.Message.{Msg, Msg.Unknown, IsWrittenPayload, Then}
use Rattle.ssh_model.specs.Laws.Sizes.{payload_size, HasPayloadSize}
use Rattle.ssh_message.specs.declared.write.field.Field.{Field}
use Rattle.ssh_message.specs.Fields.{all_sizes, field_size, AreFields, AreFit, FieldFits, IsField, IsRowOf}
use Rattle.ssh_message.specs.Written.{Grown}

-- ---- one more part at the end

then_more : {P Q R : List ℕ → Type 0} {bytes : List ℕ} (more : List ℕ) → Then P Q bytes → ((back : List ℕ) → Q back → R (back ++ more)) → Then P R (bytes ++ more)
then_more more t f =
    record {
      front = t.front;
      back = t.back ++ more;
      first = t.first;
      second = f t.back t.second;
      parts = ap (λ (b : List ℕ). b ++ more) t.parts ∙ append_assoc t.front t.back more;
    }

writes_more : {P R : List ℕ → Type 0} {before middle after : List ℕ} (more : List ℕ) → Writes P before middle → after ≡ middle ++ more → ((bytes : List ℕ) → P bytes → R (bytes ++ more)) → Writes R before after
writes_more {before = before} more w e f =
    record {
      bytes = w.bytes ++ more;
      meets = f w.bytes w.meets;
      parts = e ∙ (ap (λ (b : List ℕ). b ++ more) w.parts ∙ append_assoc before w.bytes more);
    }

-- nothing, and then the bytes
at_end : {bytes : List ℕ} (more : List ℕ) → bytes ≡ [] → bytes ++ more ≡ more
at_end more e = ap (λ (b : List ℕ). b ++ more) e

fields_more : (fields : List Field) (f : Field) (bytes more : List ℕ) → AreFields fields [] bytes → IsField f more → AreFields (fields ++ f ∷ []) [] (bytes ++ more)
fields_more [] f bytes more e h = record { front = more; back = []; first = h; second = refl; parts = at_end more e ∙ sym (append-nil more) }
fields_more (g ∷ fields) f bytes more t h = then_more more t (λ b q. fields_more fields f b more q h)

fields_rest : (fields : List Field) (bytes rest : List ℕ) → AreFields fields [] bytes → AreFields fields rest (bytes ++ rest)
fields_rest [] bytes rest e = at_end rest e
fields_rest (g ∷ fields) bytes rest t = then_more rest t (λ b q. fields_rest fields b rest q)

-- ---- a row, field after field

pub row_begins : {number : ℕ} {before after : List ℕ} → Writes (IsByte number) before after → Writes (IsRowOf number [] []) before after
row_begins w = record { bytes = w.bytes; meets = record { front = w.bytes; back = []; first = w.meets; second = refl; parts = sym (append-nil w.bytes) }; parts = w.parts }

pub row_more : {number : ℕ} {before middle after : List ℕ} (fields : List Field) (i : ℕ) (f : Field) → f ≡ get_or fields i f → i < length fields → Writes (IsRowOf number (take i fields) []) before middle → Writes (IsField f) middle after → Writes (IsRowOf number (take (i + 1) fields) []) before after
row_more {number} {before} {middle} {after} fields i f e h w g =
    let R : List Field → Type 0 = λ fs. Writes (IsRowOf number fs []) before after in
    let all : take (i + 1) fields ≡ take i fields ++ f ∷ [] = take_more fields i f h ∙ ap (λ (x : Field). take i fields ++ x ∷ []) (sym e) in
    subst R (sym all) (writes_more g.bytes w g.parts (λ b t. then_more g.bytes t (λ c q. fields_more (take i fields) f c g.bytes q g.meets)))

pub row_ends : {number : ℕ} {before middle after : List ℕ} (fields : List Field) (i : ℕ) (rest : List ℕ) → length fields ≤ i → Writes (IsRowOf number (take i fields) []) before middle → after ≡ middle ++ rest → Writes (IsRowOf number fields rest) before after
row_ends {number} {before} {middle} {after} fields i rest h w e =
    let R : List Field → Type 0 = λ fs. Writes (IsRowOf number fs []) before middle in
    let v : Writes (IsRowOf number fields []) before middle = subst R (take_all i fields h) w in
    writes_more rest v e (λ b t. then_more rest t (λ c q. fields_rest fields c rest q))

fits_at : (fields : List Field) (i : ℕ) (f : Field) → i < length fields → AreFit fields → FieldFits (get_or fields i f)
fits_at [] i f h fit = absurd (omega (arith, h))
fits_at (g ∷ fields) zero f h fit = fit.0
fits_at (g ∷ fields) (suc i) f h fit = fits_at fields i f (omega (arith, h)) fit.1

pub field_fits : (fields : List Field) (i : ℕ) (f : Field) → f ≡ get_or fields i f → i < length fields → AreFit fields → FieldFits f
field_fits fields i f e h fit = subst FieldFits (sym e) (fits_at fields i f h fit)

-- ---- where an allocation fails

pub grown_after : {P : List ℕ → Type 0} {before middle after : List ℕ} → Writes P before middle → after ≡ middle → Grown before after
grown_after w e = record { more = w.bytes; parts = e ∙ w.parts }

pub of_failure : {T E P : Type 0} (r : Result T E) → P → OnErr r P
of_failure (Ok x) p = tt
of_failure (Err e) p = p

-- ---- sizes

sizes_joined : (fields others : List Field) → all_sizes (fields ++ others) ≡ all_sizes fields + all_sizes others
sizes_joined [] others = omega arith
sizes_joined (f ∷ fields) others = omega (arith, sizes_joined fields others)

pub sizes_more : (fields : List Field) (i : ℕ) (f : Field) → f ≡ get_or fields i f → i < length fields → all_sizes (take (i + 1) fields) ≡ all_sizes (take i fields) + field_size f
sizes_more fields i f e h =
    let all : take (i + 1) fields ≡ take i fields ++ f ∷ [] = take_more fields i f h ∙ ap (λ (x : Field). take i fields ++ x ∷ []) (sym e) in
    ap all_sizes all ∙ (sizes_joined (take i fields) (f ∷ []) ∙ omega arith)

-- the first of the fields have no more bytes than all
pub sizes_front : (n : ℕ) (fields : List Field) → all_sizes (take n fields) ≤ all_sizes fields
sizes_front zero fields = omega arith
sizes_front (suc n) [] = omega arith
sizes_front (suc n) (f ∷ fields) = omega (arith, sizes_front n fields)

-- a byte was put at the end
pub one_more : (number : ℕ) {before after : List ℕ} → Writes (IsByte number) before after → length after ≡ length before + 1
one_more number {before} w = ap length w.parts ∙ omega (arith, length-append before w.bytes, ap length w.meets)

-- what was put of a message has its size
sized : (m : Msg) (before after : List ℕ) → ((message : Msg) (payload : List ℕ) → IsWrittenPayload message payload → HasPayloadSize message payload)
    → Writes (IsWrittenPayload m) before after → ((n : ℕ) → m ≡ Unknown n → after ≡ before ++ n ∷ []) → length after ≡ length before + payload_size m
sized (Unknown n) before after sizes w alone = ap length (alone n refl) ∙ length-append before (n ∷ [])
sized m before after sizes w alone = ap length w.parts ∙ omega (arith, length-append before w.bytes, sizes m w.bytes w.meets)

pub has_size : {T E : Type 0} (r : Result T E) (m : Msg) (before after : List ℕ) → ((message : Msg) (payload : List ℕ) → IsWrittenPayload message payload → HasPayloadSize message payload)
    → OnOk r (Writes (IsWrittenPayload m) before after) → ((n : ℕ) → m ≡ Unknown n → OnOk r (after ≡ before ++ n ∷ [])) → OnOk r (length after ≡ length before + payload_size m)
has_size (Ok x) m before after sizes w alone = sized m before after sizes w alone
has_size (Err e) m before after sizes w alone = tt
