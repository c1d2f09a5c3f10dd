-- Names joined by commas are the names between commas.
use Rattle.std.proofs.Common.{◌≡◌, ℕ, ◌≤◌, Bool, true, false, ◌&&◌, List, [], ◌∷◌, length, ltb, ◌++◌, ◌+◌, ◌*◌, take-append-drop, subst, refl, sym, ap, inl, inr, ◌∙◌, arith}
use Rattle.std.specs.Prelude.{Result, Ok, Err, OnOk, OnErr, Some, None, take, drop, get_or}
use Rattle.std.specs.List.{join_with_byte, slice_split, list_all, All, position, position_or_len}
use Rattle.std.proofs.lemmas.Bool.{and_parts, cases_Bool, cond-true, ltb-false}
use Rattle.std.proofs.lemmas.Grind.{common_steps}
use Rattle.std.proofs.lemmas.List.{drop_more}
use Rattle.std.proofs.lemmas.List.Quantifiers.{position-Some}
use Rattle.std.proofs.lemmas.List.Sums.{fails_before_first, count_by-le-length}
use Rattle.std.proofs.lemmas.List.Splits.{slice_split_none, slice_split_at, length-slice_split, join_with_byte-slice_split}
use Rattle.std.proofs.lemmas.List.Folds.{list_all-append}
use Rattle.ssh_model.specs.Protocol.Wire.DataTypes.{is_comma, is_name, IsString, IsNameText, IsNameList}
use Rattle.ssh_model.specs.Laws.Reading.{Reads, NoFront, Writes}
use Rattle.ssh_types.specs.Names.{Pushes, names_of, are_names}
use Rattle.ssh_types.specs.Values.{IsBadNames}
use Rattle.ssh_model.specs.Laws.Sizes.{names_size}
use Rattle.ssh_model.specs.Laws.Names.{name_facts, one_more, split_joined, text_length}
use Rattle.ssh_model.specs.Laws.Encodings.{one_string}

-- a name and more of them
first_of_all : (name : List ℕ) (names : List (List ℕ)) → list_all is_name (name ∷ names) ≡ true → (is_name name ≡ true) × (list_all is_name names ≡ true)
first_of_all name names h = and_parts (is_name name) (list_all is_name names) h

-- What is split at commas is joined by them again.
pub text_of_names : (text : List ℕ) → are_names text ≡ true → IsNameText (names_of text) text
text_of_names [] h = record { all = h; joined = refl }
text_of_names (c ∷ cs) h = record { all = h; joined = sym (join_with_byte-slice_split 44 (c ∷ cs)) }

pub checked_length : (text : List ℕ) → are_names text ≡ true → length text ≤ 65 * length (names_of text)
checked_length text h = text_length (names_of text) text (text_of_names text h)

starts_empty : (names : List (List ℕ)) (name : List ℕ) → 1 ≤ length name → [] ≡ join_with_byte 44 (name ∷ names) → ⊥
starts_empty [] name some e = let l = ap length e in omega arith
starts_empty (next ∷ names) [] some e = omega arith
starts_empty (next ∷ names) (c ∷ cs) some e = cc

starts : (names : List (List ℕ)) (name text : List ℕ) → 1 ≤ length name → text ≡ join_with_byte 44 (name ∷ names) → names_of text ≡ slice_split is_comma text
starts names name [] some e = absurd (starts_empty names name some e)
starts names name (c ∷ cs) some e = refl

-- A text has one list of names.
pub names_of_text : (names : List (List ℕ)) (text : List ℕ) → IsNameText names text → names_of text ≡ names
names_of_text [] text t = ap names_of t.joined
names_of_text (name ∷ names) text t =
    let p = first_of_all name names t.all in
    starts names name text (name_facts name p.0).some t.joined ∙ ap (slice_split is_comma) t.joined ∙ split_joined name names t.all

pub no_text : (text : List ℕ) → are_names text ≡ false → (names : List (List ℕ)) → IsNameText names text → ⊥
no_text text spoilt names t =
    let e : true ≡ false = sym t.all ∙ ap (list_all is_name) (sym (names_of_text names text t)) ∙ spoilt in cc

-- There is at most one name more than there are bytes.
pub names_fit : (text : List ℕ) → length (names_of text) ≤ length text + 1
names_fit [] = omega arith
names_fit (c ∷ cs) =
    let parts = length-slice_split is_comma (c ∷ cs) in
    let commas = count_by-le-length is_comma (c ∷ cs) in
    omega arith

-- ---- the first comma

-- the parts are what stands before it, and the parts of what stands after it
pub split_at_comma : (text : List ℕ) (at : ℕ) → position is_comma text ≡ Some at → slice_split is_comma text ≡ take at text ∷ slice_split is_comma (drop (at + 1) text)
split_at_comma text at e =
    let found = position-Some is_comma text at 0 e in
    let front : All (λ c. is_comma c ≡ false) (take at text) = λ k d lt. grind (arith, common_steps, (position-Some is_comma text at d e).2) in
    let parts : text ≡ take at text ++ (get_or text at 0 ∷ drop (at + 1) text) =
    sym (take-append-drop at text) ∙ ap (λ (l : List ℕ). take at text ++ l) (drop_more text at 0 found.0) in
    ap (slice_split is_comma) parts ∙ slice_split_at is_comma (take at text) (get_or text at 0) (drop (at + 1) text) front found.1

-- without one the text is the one part
pub split_at_none : (text : List ℕ) → position is_comma text ≡ None → slice_split is_comma text ≡ text ∷ []
split_at_none text e =
    elim (cases_Bool (ltb (position_or_len is_comma text) (length text))) [
      | inl t ↦ absurd (let q : Some (position_or_len is_comma text) ≡ None = sym (cond-true _ _ _ t) ∙ e in cc)
      | inr f ↦
          let past = ltb-false _ _ f in
          slice_split_none is_comma text (λ k d lt. fails_before_first is_comma text k d (omega arith))
    ]

-- ---- the first name and those after it

-- a text that is no empty part has the names between its commas
names_of_some : (text : List ℕ) → list_all is_name (slice_split is_comma text) ≡ true → names_of text ≡ slice_split is_comma text
names_of_some [] h = absurd cc
names_of_some (c ∷ cs) h = refl

some_names : (text : List ℕ) → are_names text ≡ true → 1 ≤ length text → list_all is_name (slice_split is_comma text) ≡ true
some_names [] h some = absurd (omega arith)
some_names (c ∷ cs) h some = h

-- a part before a comma, and the parts after it
pub first_and_rest : (text first rest : List ℕ) → are_names text ≡ true → 1 ≤ length text → slice_split is_comma text ≡ first ∷ slice_split is_comma rest → (is_name first ≡ true) × (are_names rest ≡ true) × (names_of text ≡ first ∷ names_of rest)
first_and_rest text first rest h some parts =
    let all = some_names text h some in
    let p = first_of_all first (slice_split is_comma rest) (ap (list_all is_name) (sym parts) ∙ all) in
    let more = names_of_some rest p.1 in
    (p.0, ap (list_all is_name) more ∙ p.1, names_of_some text all ∙ parts ∙ ap (λ (l : List (List ℕ)). first ∷ l) (sym more))

-- a text without a comma is one name
pub last_name : (text : List ℕ) → are_names text ≡ true → 1 ≤ length text → slice_split is_comma text ≡ text ∷ [] → (is_name text ≡ true) × (names_of text ≡ text ∷ [])
last_name text h some parts =
    let all = some_names text h some in
    let p = first_of_all text [] (ap (list_all is_name) (sym parts) ∙ all) in
    (p.0, names_of_some text all ∙ parts)

-- ---- strings that hold names

-- no string, no names
pub no_names_short : (before : List ℕ) → NoFront IsString before → NoFront IsNameList before
no_names_short before h = record { none = λ names bytes after m parts. h.none m.body bytes after m.string parts }

-- a string that is no text of names, no names
pub no_names_form : (text before after : List ℕ) → Reads (IsString text) before after → ((names : List (List ℕ)) → IsNameText names text → ⊥) → NoFront IsNameList before
no_names_form text before after r h =
    record {
      none = λ names bytes rest m parts.
          let one = one_string text m.body r.bytes bytes after rest r.meets m.string (sym r.parts ∙ parts) in
          h names (subst (λ (x : List ℕ). IsNameText names x) (sym one.0) m.text);
    }

-- a string that is no text of names
pub is_bad_names : (text before after : List ℕ) → Reads (IsString text) before after → ((list : List (List ℕ)) → IsNameText list text → ⊥) → IsBadNames before
is_bad_names text before after r h = record { text = text; after = after; string = r; none = h }

-- a string that is a text of names
pub reads_names : (names : List (List ℕ)) (text before after : List ℕ) → Reads (IsString text) before after → IsNameText names text → Reads (IsNameList names) before after
reads_names names text before after r t =
    record { bytes = r.bytes; meets = record { body = text; text = t; string = r.meets }; parts = r.parts }

-- a string of names joined by commas
pub writes_names : (names : List (List ℕ)) (text before after : List ℕ) → IsNameText names text → Writes (IsString text) before after → Writes (IsNameList names) before after
writes_names names text before after t w = record { bytes = w.bytes; meets = record { body = text; text = t; string = w.meets }; parts = w.parts }

-- the size of names by the text that they are joined to
pub joined_size : (names : List (List ℕ)) (text : List ℕ) → IsNameText names text → names_size names ≡ 4 + length text
joined_size names text t = ap (λ (bytes : List ℕ). 4 + length bytes) (sym t.joined)

-- ---- one name more

more_text : (names : List (List ℕ)) (name text : List ℕ) → 1 ≤ length text → IsNameText names text → text ++ (44 ∷ name) ≡ join_with_byte 44 (names ++ name ∷ [])
more_text [] name text some t = absurd (let l = ap length t.joined in omega arith)
more_text (first ∷ names) name text some t = ap (λ (l : List ℕ). l ++ (44 ∷ name)) t.joined ∙ sym (one_more first names name)

-- both hold
both : (a b : Bool) → a ≡ true → b ≡ true → (a && b) ≡ true
both true true h k = refl
both true false h k = absurd cc
both false b h k = absurd cc

all_more : (names : List (List ℕ)) (name : List ℕ) → list_all is_name names ≡ true → is_name name ≡ true → list_all is_name (names ++ name ∷ []) ≡ true
all_more names name h n =
    list_all-append is_name names (name ∷ [])
    ∙ both (list_all is_name names) (list_all is_name (name ∷ [])) h (both (is_name name) true n refl)

-- What a text of names and one name more are: names again, and which.
pub record IsPushed (old : List (List ℕ)) (name new : List ℕ) : Type 0 where
  pub all : are_names new ≡ true
  pub names : names_of new ≡ old ++ name ∷ []

pushed : (names : List (List ℕ)) (name new : List ℕ) → IsNameText (names ++ name ∷ []) new → IsPushed names name new
pushed names name new t =
    let which = names_of_text (names ++ name ∷ []) new t in
    record { all = ap (list_all is_name) which ∙ t.all; names = which }

first_name : (text name new : List ℕ) → text ≡ [] → is_name name ≡ true → new ≡ text ++ name → IsPushed (names_of text) name new
first_name [] name new none n e = pushed [] name new (record { all = both (is_name name) true n refl; joined = e })
first_name (c ∷ cs) name new none n e = absurd cc

one_name_more : (text name new : List ℕ) → 1 ≤ length text → are_names text ≡ true → is_name name ≡ true → new ≡ text ++ (44 ∷ name) → IsPushed (names_of text) name new
one_name_more text name new some h n e =
    let t = text_of_names text h in
    pushed (names_of text) name new (record { all = all_more (names_of text) name h n; joined = e ∙ more_text (names_of text) name text some t })

pub pushes_first : {X Y : Type 0} (result : Result X Y) (text name new : List ℕ) → text ≡ [] → is_name name ≡ true →
    OnOk result (new ≡ text ++ name) → OnErr result (new ≡ text) → Pushes result text name new
pushes_first (Ok x) text name new none n e k = let p = first_name text name new none n e in record { names = p.all; pushed = p.names }
pushes_first (Err x) text name new none n e k = record { names = ap are_names (k ∙ none); pushed = tt }

pub pushes_more : {X Y : Type 0} (result : Result X Y) (text name new : List ℕ) → 1 ≤ length text → are_names text ≡ true → is_name name ≡ true →
    OnOk result (new ≡ text ++ (44 ∷ name)) → OnErr result (new ≡ text) → Pushes result text name new
pushes_more (Ok x) text name new some h n e k = let p = one_name_more text name new some h n e in record { names = p.all; pushed = p.names }
pushes_more (Err x) text name new some h n e k = record { names = ap are_names k ∙ h; pushed = tt }
