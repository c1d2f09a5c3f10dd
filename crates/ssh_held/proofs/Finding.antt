-- What is found first in a list is found first in a longer one.
use Rattle.std.proofs.Common.{◌≡◌, ◌&&◌, Bool, true, false, List, [], ◌∷◌, ◌++◌, Option, Some, None, cond, find, is_some, not, option_map, unwrap_or, ap, refl, sym, ◌∙◌}
use Rattle.std.proofs.lemmas.Bool.{false≢true}
use Rattle.ssh_held.proofs.HostKeys.{some_before}

found_in : {A : Type 0} (t : Bool) (x : A) (l m : Option A) → is_some (cond t (Some x) l) ≡ true → (is_some l ≡ true → m ≡ l) →
    cond t (Some x) m ≡ cond t (Some x) l
found_in true x l m e later = refl
found_in false x l m e later = later e

pub first_found : {A : Type 0} (is : A → Bool) (l more : List A) → is_some (find is l) ≡ true → find is (l ++ more) ≡ find is l
first_found is [] more e = absurd (cc e)
first_found is (x ∷ l) more e = found_in (is x) x (find is l) (find is (l ++ more)) e (first_found is l more)

-- the same of what is seen of it
pub found_before : {A B : Type 0} (is : A → Bool) (view : A → B) (l more : List A) → is_some (option_map view (find is l)) ≡ true →
    option_map view (find is (l ++ more)) ≡ option_map view (find is l)
found_before is view l more e = ap (option_map view) (first_found is l more (some_before view (find is l) e))

-- ---- what is added at the end is found

passed : {A : Type 0} (t : Bool) (x : A) (rest : Option A) → is_some rest ≡ true → is_some (cond t (Some x) rest) ≡ true
passed true x rest e = refl
passed false x rest e = e

pub last_found : {A : Type 0} (is : A → Bool) (l : List A) (x : A) → is x ≡ true → is_some (find is (l ++ (x ∷ []))) ≡ true
last_found is [] x e = ap (λ (t : Bool). is_some (cond t (Some x) None)) e
last_found is (y ∷ l) x e = passed (is y) y (find is (l ++ (x ∷ []))) (last_found is l x e)

pub seen_some : {A B : Type 0} (view : A → B) (o : Option A) → is_some o ≡ true → is_some (option_map view o) ≡ true
seen_some view (Some x) e = refl
seen_some view None e = absurd (cc e)

pub found_last : {A B : Type 0} (is : A → Bool) (view : A → B) (l : List A) (x : A) → is x ≡ true →
    option_map view (find is (l ++ (x ∷ []))) ≡ None → ⊥
found_last {A} {B} is view l x e n =
    false≢true (ap (λ (o : Option B). is_some o) (sym n) ∙ seen_some view (find is (l ++ (x ∷ []))) (last_found is l x e))

then_found : {A B : Type 0} (view : A → B) (t : Bool) (x y : A) (l m : Option A) → option_map view (cond t (Some x) l) ≡ None →
    (option_map view l ≡ None → option_map view m ≡ Some (view y)) → option_map view (cond t (Some x) m) ≡ Some (view y)
then_found view true x y l m n later = absurd (cc n)
then_found view false x y l m n later = later n

found_at : {A B : Type 0} (view : A → B) (t : Bool) (x : A) → t ≡ true → option_map view (cond t (Some x) None) ≡ Some (view x)
found_at view true x e = refl
found_at view false x e = absurd (cc e)

-- what was not found before is what is added
pub found_then : {A B : Type 0} (is : A → Bool) (view : A → B) (l : List A) (x : A) → option_map view (find is l) ≡ None → is x ≡ true →
    option_map view (find is (l ++ (x ∷ []))) ≡ Some (view x)
found_then is view [] x n e = found_at view (is x) x e
found_then is view (y ∷ l) x n e = then_found view (is y) y x (find is l) (find is (l ++ (x ∷ []))) n (λ m. found_then is view l x m e)

-- ---- what is added at the end is not found

pub no_later : {A : Type 0} (is : A → Bool) (l : List A) (x : A) → is x ≡ false → find is (l ++ (x ∷ [])) ≡ find is l
no_later {A} is [] x e = ap (λ (t : Bool). cond t (Some x) None) e
no_later {A} is (y ∷ l) x e = ap (λ (o : Option A). cond (is y) (Some y) o) (no_later is l x e)

pub found_no_later : {A B : Type 0} (is : A → Bool) (view : A → B) (l : List A) (x : A) → is x ≡ false →
    option_map view (find is (l ++ (x ∷ []))) ≡ option_map view (find is l)
found_no_later is view l x e = ap (option_map view) (no_later is l x e)

-- ---- a verdict

pub yes : (x : Option Bool) → unwrap_or x false ≡ true → x ≡ Some true
yes (Some true) e = refl
yes (Some false) e = absurd (cc e)
yes None e = absurd (cc e)

pub some_if_yes : (x : Option Bool) → unwrap_or x false ≡ true → is_some x ≡ true
some_if_yes (Some b) e = refl
some_if_yes None e = absurd (cc e)

pub first_of : (f c : Bool) → (f && c) ≡ true → f ≡ true
first_of true c e = refl
first_of false c e = absurd (cc e)

pub second_of : (f c : Bool) → (f && c) ≡ true → c ≡ true
second_of true c e = e
second_of false c e = absurd (cc e)

pub both_of : (f c : Bool) → f ≡ true → c ≡ true → (f && c) ≡ true
both_of true c a e = e
both_of false c a e = absurd (cc a)

pub not_true : (b : Bool) → not b ≡ true → b ≡ false
not_true true e = absurd (cc e)
not_true false e = refl

pub not_false : (b : Bool) → not b ≡ false → b ≡ true
not_false true e = refl
not_false false e = absurd (cc e)
