-- Whether bytes begin with a value, or are one: it is found or there is none.
use Rattle.std.proofs.Common.{◌≡◌, ℕ, zero, suc, ◌≤◌, Bool, true, false, nat_lt, nat_le, List, [], ◌∷◌, ◌++◌, length, take, ◌⊎◌, inl, inr, refl, sym, ap, ◌∙◌, subst, arith, length-append, append_assoc, Some, None, length-take-le, lt-ltb, take-append-drop}
use Rattle.std.specs.Prelude.{codes, drop}
use Rattle.std.specs.List.{list_all, slice_split}
use Rattle.std.proofs.lemmas.Bool.{le-leb, leb-true}
use Rattle.std.proofs.lemmas.List.Splits.{join_with_byte-slice_split}
use Rattle.ssh_model.specs.Protocol.Wire.DataTypes.{AreBytes, IsByte, IsBoolean, IsUint32, IsString, IsNameList, IsNameText, is_comma, is_name, number}
use Rattle.ssh_model.specs.Protocol.Wire.Message.{◌▸◌, IsEnd, IsRest, IsCookie, IsOtherName, IsMethod, IsExtensions, Method, Method.NoMethod, Method.Password, Method.Publickey, Method.Other, Extension}
use Rattle.ssh_model.specs.Laws.Reading.{OneForm}
use Rattle.ssh_model.specs.Protocol.Wire.DataTypes.{is_text}
use Rattle.ssh_model.specs.Laws.Names.{split_joined}
use Rattle.ssh_model.specs.Laws.Encodings.{same_front, one_byte, one_boolean, one_uint32, one_string, one_name_list, one_cookie}
use Rattle.ssh_model.specs.Protocol.Sessions.Parties.{is_byte}
use Rattle.ssh_model.proofs.Sessions.Parts.{are_bytes}
use Rattle.ssh_model.proofs.KeyExchange.Firsts.{text_same, text_self}

-- ---- values in front of bytes, and values of whole bytes

pub record Front {V : Type 0} (Encodes : V → List ℕ → Type 0) (bytes : List ℕ) : Type 0 where
  pub value : V
  pub front : List ℕ
  pub back : List ℕ
  pub first : Encodes value front
  pub parts : bytes ≡ front ++ back

abbrev pub Whole : {V : Type 0} → (V → List ℕ → Type 0) → List ℕ → Type 0
Whole {V} Encodes bytes = (value : V) × Encodes value bytes

abbrev pub Decided : Type 0 → Type 0
Decided A = A ⊎ (A → ⊥)

abbrev pub Decides : {V : Type 0} → (V → List ℕ → Type 0) → Type 0
Decides Encodes = (bytes : List ℕ) → Decided (Whole Encodes bytes)

-- a field whose end shows in its bytes
pub record Field {V : Type 0} (Encodes : V → List ℕ → Type 0) : Type 0 where
  pub splits : (bytes : List ℕ) → Decided (Front Encodes bytes)
  pub one : OneForm Encodes

-- a field, and what follows it
pub then : {V W : Type 0} {F : V → List ℕ → Type 0} {G : W → List ℕ → Type 0} → Field F → Decides G → Decides (λ (x : V × W). F (x.0) ▸ G (x.1))
then {V} {W} {F} {G} field decides bytes = go (field.splits bytes)
  where
    following : (f : Front F bytes) → Decided (Whole G f.back) → Decided (Whole (λ (x : V × W). F (x.0) ▸ G (x.1)) bytes)
    following f (inl w) = inl ((f.value, w.0), record { front = f.front; back = f.back; first = f.first; second = w.1; parts = f.parts })
    following f (inr n) = inr (λ w.
        let s = w.1 in
        let same = field.one (w.0.0) f.value s.front f.front s.back f.back s.first f.first (sym s.parts ∙ f.parts) in
        n (w.0.1, subst (G (w.0.1)) (same.2) s.second))

    go : Decided (Front F bytes) → Decided (Whole (λ (x : V × W). F (x.0) ▸ G (x.1)) bytes)
    go (inl f) = following f (decides f.back)
    go (inr n) = inr (λ w. let s = w.1 in n (record { value = w.0.0; front = s.front; back = s.back; first = s.first; parts = s.parts }))

-- a field that has to be this value
pub fixed : {V : Type 0} {F : V → List ℕ → Type 0} → Field F → ((v w : V) → Decided (v ≡ w)) → (v : V) → Field (λ (u : Unit {0}). F v)
fixed {V} {F} field same v = record { splits = λ bytes. go bytes (field.splits bytes); one = λ t u a b x y p q e. let s = field.one v v a b x y p q e in (refl, s.1, s.2) }
  where
    is_it : (bytes : List ℕ) (f : Front F bytes) → Decided (f.value ≡ v) → Decided (Front (λ (u : Unit {0}). F v) bytes)
    is_it bytes f (inl e) = inl (record { value = tt; front = f.front; back = f.back; first = subst (λ w. F w f.front) e f.first; parts = f.parts })
    is_it bytes f (inr n) = inr (λ g. n ((field.one f.value v f.front g.front f.back g.back f.first g.first (sym f.parts ∙ g.parts)).0))

    go : (bytes : List ℕ) → Decided (Front F bytes) → Decided (Front (λ (u : Unit {0}). F v) bytes)
    go bytes (inl f) = is_it bytes f (same f.value v)
    go bytes (inr n) = inr (λ g. n (record { value = v; front = g.front; back = g.back; first = g.first; parts = g.parts }))

pub ended : Decides (λ (u : Unit {0}). IsEnd)
ended [] = inl (tt, refl)
ended (b ∷ bytes) = inr (λ w. cc (w.1))

pub rest_of : Decides IsRest
rest_of bytes = inl (bytes, refl)

-- ---- sameness

eq_bool : (a b : Bool) → Decided (a ≡ b)
eq_bool true true = inl refl
eq_bool false false = inl refl
eq_bool true false = inr (λ e. cc e)
eq_bool false true = inr (λ e. cc e)

pub eq_number : (m n : ℕ) → Decided (m ≡ n)
eq_number zero zero = inl refl
eq_number zero (suc n) = inr (λ e. omega (arith, e))
eq_number (suc m) zero = inr (λ e. omega (arith, e))
eq_number (suc m) (suc n) = go (eq_number m n)
  where
    go : Decided (m ≡ n) → Decided (suc m ≡ suc n)
    go (inl e) = inl (ap suc e)
    go (inr f) = inr (λ e. f (omega (arith, e)))

pub by_truth : (truth : Bool) → Decided (truth ≡ true)
by_truth true = inl refl
by_truth false = inr (λ e. cc e)

eq_text : (a b : List ℕ) → Decided (a ≡ b)
eq_text a b = go (by_truth (is_text a b))
  where
    go : Decided (is_text a b ≡ true) → Decided (a ≡ b)
    go (inl e) = inl (text_same a b e)
    go (inr n) = inr (λ e. n (subst (λ c. is_text a c ≡ true) e (text_self a)))

-- ---- the fields

pub byte : Field IsByte
byte = record { splits = split; one = one_byte }
  where
    split : (bytes : List ℕ) → Decided (Front IsByte bytes)
    split [] = inr (λ f. let n = ap length f.parts in let k : length f.front ≡ 1 = ap length f.first in omega (arith, n, k, length-append f.front f.back))
    split (b ∷ bytes) = inl (record { value = b; front = b ∷ []; back = bytes; first = refl; parts = refl })

pub boolean : Field IsBoolean
boolean = record { splits = split; one = one_boolean }
  where
    split : (bytes : List ℕ) → Decided (Front IsBoolean bytes)
    split [] = inr (λ f. let n = ap length f.parts in let k : length f.front ≡ 1 = ap length (f.first.1) in omega (arith, n, k, length-append f.front f.back))
    split (b ∷ bytes) = inl (record { value = nat_lt 0 b; front = b ∷ []; back = bytes; first = (b, refl, refl); parts = refl })

all_bytes : (bytes : List ℕ) → AreBytes bytes → list_all is_byte bytes ≡ true
all_bytes [] are = refl
all_bytes (b ∷ bytes) are = let e : nat_lt b 256 ≡ true = lt-ltb b 256 (are.0) in rw (e, all_bytes bytes (are.1)) refl

-- the first bytes, and what follows them
split_at : (n : ℕ) (bytes : List ℕ) → n ≤ length bytes → bytes ≡ take n bytes ++ drop n bytes
split_at n bytes h = sym (take-append-drop n bytes)

pub uint32 : Field IsUint32
uint32 = record { splits = split; one = one_uint32 }
  where
    is_number : (bytes : List ℕ) → 4 ≤ length bytes → Decided (list_all is_byte (take 4 bytes) ≡ true) → Decided (Front IsUint32 bytes)
    is_number bytes n (inl e) = inl (record { value = number (take 4 bytes); front = take 4 bytes; back = drop 4 bytes; first = record { are_bytes = are_bytes (take 4 bytes) e; count = length-take-le 4 bytes n; value = refl }; parts = split_at 4 bytes n })
    is_number bytes n (inr f) = inr (λ g.
        let k : length g.front ≡ length (take 4 bytes) = g.first.count ∙ sym (length-take-le 4 bytes n) in
        let same = same_front g.front (take 4 bytes) g.back (drop 4 bytes) k (sym g.parts ∙ split_at 4 bytes n) in
        f (subst (λ l. list_all is_byte l ≡ true) (same.0) (all_bytes g.front g.first.are_bytes)))

    go : (bytes : List ℕ) (t : Bool) → nat_le 4 (length bytes) ≡ t → Decided (Front IsUint32 bytes)
    go bytes true e = is_number bytes (leb-true 4 (length bytes) e) (by_truth (list_all is_byte (take 4 bytes)))
    go bytes false e = inr (λ g. let n = ap length g.parts in absurd (no_more bytes g.front g.back e (omega (arith, n, g.first.count, length-append g.front g.back))))
      where
        no_more : (bytes front back : List ℕ) → nat_le 4 (length bytes) ≡ false → 4 ≤ length bytes → ⊥
        no_more bytes front back e n = let f = le-leb 4 (length bytes) n in cc (e, f)

    split : (bytes : List ℕ) → Decided (Front IsUint32 bytes)
    split bytes = go bytes (nat_le 4 (length bytes)) refl

pub string : Field IsString
string = record { splits = split; one = one_string }
  where
    text_following : (bytes : List ℕ) (f : Front IsUint32 bytes) (t : Bool) → nat_le f.value (length f.back) ≡ t → Decided (Front IsString bytes)
    text_following bytes f true e =
        let text = take f.value f.back in
        let n : length text ≡ f.value = length-take-le f.value f.back (leb-true f.value (length f.back) e) in
        inl (record {
          value = text;
          front = f.front ++ text;
          back = drop f.value f.back;
          first = record { front = f.front; size = subst (λ k. IsUint32 k f.front) (sym n) f.first; parts = refl };
          parts = f.parts ∙ (ap (λ l. f.front ++ l) (split_at f.value f.back (leb-true f.value (length f.back) e)) ∙ sym (append_assoc f.front text (drop f.value f.back)));
        })
    text_following bytes f false e = inr (λ g.
        let s = g.first in
        let parts : bytes ≡ s.front ++ (g.value ++ g.back) = g.parts ∙ (ap (λ l. l ++ g.back) s.parts ∙ append_assoc s.front g.value g.back) in
        let same = one_uint32 f.value (length g.value) f.front s.front f.back (g.value ++ g.back) f.first s.size (sym f.parts ∙ parts) in
        let n : f.value ≤ length f.back = omega (arith, same.0, ap length (same.2), length-append g.value g.back) in
        let t = le-leb f.value (length f.back) n in cc (e, t))

    go : (bytes : List ℕ) → Decided (Front IsUint32 bytes) → Decided (Front IsString bytes)
    go bytes (inl f) = text_following bytes f (nat_le f.value (length f.back)) refl
    go bytes (inr n) = inr (λ g. let s = g.first in n (record { value = length g.value; front = s.front; back = g.value ++ g.back; first = s.size; parts = g.parts ∙ (ap (λ l. l ++ g.back) s.parts ∙ append_assoc s.front g.value g.back) }))

    split : (bytes : List ℕ) → Decided (Front IsString bytes)
    split bytes = go bytes (uint32.splits bytes)

-- the names that a text is made of
name_text : (text : List ℕ) → Decided ((names : List (List ℕ)) × IsNameText names text)
name_text [] = inl ([], record { all = refl; joined = refl })
name_text (b ∷ text) = go (by_truth (list_all is_name (slice_split is_comma (b ∷ text))))
  where
    none : (names : List (List ℕ)) → IsNameText names (b ∷ text) → list_all is_name (slice_split is_comma (b ∷ text)) ≡ true
    none [] t = let e = t.joined in absurd (cc e)
    none (name ∷ names) t =
        let e : slice_split is_comma (b ∷ text) ≡ name ∷ names = ap (slice_split is_comma) t.joined ∙ split_joined name names t.all in
        subst (λ l. list_all is_name l ≡ true) (sym e) t.all

    go : Decided (list_all is_name (slice_split is_comma (b ∷ text)) ≡ true) → Decided ((names : List (List ℕ)) × IsNameText names (b ∷ text))
    go (inl e) = inl (slice_split is_comma (b ∷ text), record { all = e; joined = sym (join_with_byte-slice_split 44 (b ∷ text)) })
    go (inr n) = inr (λ w. n (none (w.0) (w.1)))

pub names : Field IsNameList
names = record { splits = split; one = one_name_list }
  where
    of_text : (bytes : List ℕ) (f : Front IsString bytes) → Decided ((names : List (List ℕ)) × IsNameText names f.value) → Decided (Front IsNameList bytes)
    of_text bytes f (inl w) = inl (record { value = w.0; front = f.front; back = f.back; first = record { body = f.value; text = w.1; string = f.first }; parts = f.parts })
    of_text bytes f (inr n) = inr (λ g.
        let l = g.first in
        let same = one_string f.value l.body f.front g.front f.back g.back f.first l.string (sym f.parts ∙ g.parts) in
        n (g.value, subst (λ t. IsNameText g.value t) (sym (same.0)) l.text))

    go : (bytes : List ℕ) → Decided (Front IsString bytes) → Decided (Front IsNameList bytes)
    go bytes (inl f) = of_text bytes f (name_text f.value)
    go bytes (inr n) = inr (λ g. let l = g.first in n (record { value = l.body; front = g.front; back = g.back; first = l.string; parts = g.parts }))

    split : (bytes : List ℕ) → Decided (Front IsNameList bytes)
    split bytes = go bytes (string.splits bytes)

pub cookie : Field IsCookie
cookie = record { splits = split; one = one_cookie }
  where
    go : (bytes : List ℕ) (t : Bool) → nat_le 16 (length bytes) ≡ t → Decided (Front IsCookie bytes)
    go bytes true e =
        let n = leb-true 16 (length bytes) e in
        inl (record { value = take 16 bytes; front = take 16 bytes; back = drop 16 bytes; first = record { same = refl; count = length-take-le 16 bytes n }; parts = split_at 16 bytes n })
    go bytes false e = inr (λ g.
        let n : 16 ≤ length bytes = omega (arith, ap length g.parts, g.first.count, length-append g.front g.back) in
        let t = le-leb 16 (length bytes) n in cc (e, t))

    split : (bytes : List ℕ) → Decided (Front IsCookie bytes)
    split bytes = go bytes (nat_le 16 (length bytes)) refl

other_name : Field IsOtherName
other_name = record { splits = λ bytes. go bytes (string.splits bytes); one = λ s t a b x y p q e. one_string s t a b x y p.string q.string e }
  where
    is_other : (bytes : List ℕ) (f : Front IsString bytes) → Decided (f.value ≡ codes "none") → Decided (f.value ≡ codes "password") → Decided (f.value ≡ codes "publickey") → Decided (Front IsOtherName bytes)
    is_other bytes f (inr a) (inr b) (inr c) = inl (record { value = f.value; front = f.front; back = f.back; first = record { other = record { not_none = a; not_password = b; not_publickey = c }; string = f.first }; parts = f.parts })
    is_other bytes f (inl e) b c = inr (λ g. let o = g.first in o.other.not_none (sym ((one_string f.value g.value f.front g.front f.back g.back f.first o.string (sym f.parts ∙ g.parts)).0) ∙ e))
    is_other bytes f a (inl e) c = inr (λ g. let o = g.first in o.other.not_password (sym ((one_string f.value g.value f.front g.front f.back g.back f.first o.string (sym f.parts ∙ g.parts)).0) ∙ e))
    is_other bytes f a b (inl e) = inr (λ g. let o = g.first in o.other.not_publickey (sym ((one_string f.value g.value f.front g.front f.back g.back f.first o.string (sym f.parts ∙ g.parts)).0) ∙ e))

    go : (bytes : List ℕ) → Decided (Front IsString bytes) → Decided (Front IsOtherName bytes)
    go bytes (inl f) = is_other bytes f (eq_text f.value (codes "none")) (eq_text f.value (codes "password")) (eq_text f.value (codes "publickey"))
    go bytes (inr n) = inr (λ g. let o = g.first in n (record { value = g.value; front = g.front; back = g.back; first = o.string; parts = g.parts }))

-- ---- one of several

-- found, or to be looked for among others
pub step : {A B : Type 0} → (A → B) → Decided A → ((A → ⊥) → Decided B) → Decided B
step f (inl a) others = inl (f a)
step f (inr n) others = others n

-- ---- the method of a request for authentication

no_method : Decides (λ (x : (Unit {0} × Unit {0})). IsMethod IsBoolean NoMethod)
no_method = then (fixed string eq_text (codes "none")) ended

password : Decides (λ (x : (Unit {0} × (Unit {0} × (List ℕ × Unit {0})))). IsMethod IsBoolean (Password (x.1.1.0) None))
password = then (fixed string eq_text (codes "password")) (then (fixed boolean eq_bool false) (then string ended))

new_password : Decides (λ (x : (Unit {0} × (Unit {0} × (List ℕ × (List ℕ × Unit {0}))))). IsMethod IsBoolean (Password (x.1.1.0) (Some (x.1.1.1.0))))
new_password = then (fixed string eq_text (codes "password")) (then (fixed boolean eq_bool true) (then string (then string ended)))

key_probe : Decides (λ (x : (Unit {0} × (Unit {0} × (List ℕ × (List ℕ × Unit {0}))))). IsMethod IsBoolean (Publickey (x.1.1.0) (x.1.1.1.0) None))
key_probe = then (fixed string eq_text (codes "publickey")) (then (fixed boolean eq_bool false) (then string (then string ended)))

signed_request : Decides (λ (x : (Unit {0} × (Unit {0} × (List ℕ × (List ℕ × (List ℕ × Unit {0})))))). IsMethod IsBoolean (Publickey (x.1.1.0) (x.1.1.1.0) (Some (x.1.1.1.1.0))))
signed_request = then (fixed string eq_text (codes "publickey")) (then (fixed boolean eq_bool true) (then string (then string (then string ended))))

other_method : Decides (λ (x : (List ℕ × List ℕ)). IsMethod IsBoolean (Other (x.0) (x.1)))
other_method = then other_name rest_of

pub method : Decides (IsMethod IsBoolean)
method bytes =
    step (λ w. (NoMethod, w.1)) (no_method bytes) (λ n0.
    step (λ w. ((Password (w.0.1.1.0) None), w.1)) (password bytes) (λ n1.
    step (λ w. ((Password (w.0.1.1.0) (Some (w.0.1.1.1.0))), w.1)) (new_password bytes) (λ n2.
    step (λ w. ((Publickey (w.0.1.1.0) (w.0.1.1.1.0) None), w.1)) (key_probe bytes) (λ n3.
    step (λ w. ((Publickey (w.0.1.1.0) (w.0.1.1.1.0) (Some (w.0.1.1.1.1.0))), w.1)) (signed_request bytes) (λ n4.
    step (λ w. (Other (w.0.0) (w.0.1), w.1)) (other_method bytes) (λ n5.
    inr (λ w. no_other (w.0) n0 n1 n2 n3 n4 n5 (w.1))))))))
  where
    no_other : (m : Method) → (Whole (λ (x : (Unit {0} × Unit {0})). IsMethod IsBoolean NoMethod) bytes → ⊥) → (Whole (λ (x : (Unit {0} × (Unit {0} × (List ℕ × Unit {0})))). IsMethod IsBoolean (Password (x.1.1.0) None)) bytes → ⊥) → (Whole (λ (x : (Unit {0} × (Unit {0} × (List ℕ × (List ℕ × Unit {0}))))). IsMethod IsBoolean (Password (x.1.1.0) (Some (x.1.1.1.0)))) bytes → ⊥) → (Whole (λ (x : (Unit {0} × (Unit {0} × (List ℕ × (List ℕ × Unit {0}))))). IsMethod IsBoolean (Publickey (x.1.1.0) (x.1.1.1.0) None)) bytes → ⊥) → (Whole (λ (x : (Unit {0} × (Unit {0} × (List ℕ × (List ℕ × (List ℕ × Unit {0})))))). IsMethod IsBoolean (Publickey (x.1.1.0) (x.1.1.1.0) (Some (x.1.1.1.1.0)))) bytes → ⊥) → (Whole (λ (x : (List ℕ × List ℕ)). IsMethod IsBoolean (Other (x.0) (x.1))) bytes → ⊥) → IsMethod IsBoolean m bytes → ⊥
    no_other NoMethod n0 n1 n2 n3 n4 n5 h = n0 ((tt, tt), h)
    no_other (Password password None) n0 n1 n2 n3 n4 n5 h = n1 ((tt, (tt, (password, tt))), h)
    no_other (Password password (Some new)) n0 n1 n2 n3 n4 n5 h = n2 ((tt, (tt, (password, (new, tt)))), h)
    no_other (Publickey algorithm key None) n0 n1 n2 n3 n4 n5 h = n3 ((tt, (tt, (algorithm, (key, tt)))), h)
    no_other (Publickey algorithm key (Some signature)) n0 n1 n2 n3 n4 n5 h = n4 ((tt, (tt, (algorithm, (key, (signature, tt))))), h)
    no_other (Other name rest) n0 n1 n2 n3 n4 n5 h = n5 ((name, rest), h)

-- ---- extensions

-- so many of them
pairs : (n : ℕ) → Decides (λ (l : List Extension) bytes. (length l ≡ n) × IsExtensions l bytes)
pairs zero [] = inl ([], (refl, refl))
pairs zero (b ∷ bytes) = inr (λ w. none (w.0) (w.1.0) (w.1.1))
  where
    none : (l : List Extension) → length l ≡ 0 → IsExtensions l (b ∷ bytes) → ⊥
    none [] e h = cc h
    none (x ∷ l) e h = omega (arith, e)
pairs (suc n) bytes = go ((then string (then string (pairs n))) bytes)
  where
    one_more : (l : List Extension) → length l ≡ suc n → IsExtensions l bytes → Whole (λ (x : List ℕ × (List ℕ × List Extension)). IsString (x.0) ▸ IsString (x.1.0) ▸ (λ more. (length (x.1.1) ≡ n) × IsExtensions (x.1.1) more)) bytes
    one_more [] e h = absurd (omega (arith, e))
    one_more (x ∷ l) e h =
        let s = h.second in
        ((x.name, (x.value, l)), record { front = h.front; back = h.back; first = h.first; second = record { front = s.front; back = s.back; first = s.first; second = (omega (arith, e), s.second); parts = s.parts }; parts = h.parts })

    go : Decided (Whole (λ (x : List ℕ × (List ℕ × List Extension)). IsString (x.0) ▸ IsString (x.1.0) ▸ (λ more. (length (x.1.1) ≡ n) × IsExtensions (x.1.1) more)) bytes)
        → Decided (Whole (λ (l : List Extension) bytes. (length l ≡ suc n) × IsExtensions l bytes) bytes)
    go (inl w) =
        let h = w.1 in
        let s = h.second in
        inl (record { name = w.0.0; value = w.0.1.0 } ∷ w.0.1.1, (ap suc (s.second.0), record { front = h.front; back = h.back; first = h.first; second = record { front = s.front; back = s.back; first = s.first; second = s.second.1; parts = s.parts }; parts = h.parts }))
    go (inr no_pair) = inr (λ w. no_pair (one_more (w.0) (w.1.0) (w.1.1)))

pub extensions : Decides (λ (l : List Extension). IsUint32 (length l) ▸ IsExtensions l)
extensions bytes = go (uint32.splits bytes)
  where
    following : (f : Front IsUint32 bytes) → Decided (Whole (λ (l : List Extension) more. (length l ≡ f.value) × IsExtensions l more) f.back) → Decided (Whole (λ (l : List Extension). IsUint32 (length l) ▸ IsExtensions l) bytes)
    following f (inl w) = inl (w.0, record { front = f.front; back = f.back; first = subst (λ k. IsUint32 k f.front) (sym (w.1.0)) f.first; second = w.1.1; parts = f.parts })
    following f (inr n) = inr (λ w.
        let h = w.1 in
        let same = one_uint32 f.value (length (w.0)) f.front h.front f.back h.back f.first h.first (sym f.parts ∙ h.parts) in
        n (w.0, (sym (same.0), subst (λ l. IsExtensions (w.0) l) (sym (same.2)) h.second)))

    go : Decided (Front IsUint32 bytes) → Decided (Whole (λ (l : List Extension). IsUint32 (length l) ▸ IsExtensions l) bytes)
    go (inl f) = following f (pairs f.value f.back)
    go (inr n) = inr (λ w. let h = w.1 in n (record { value = length (w.0); front = h.front; back = h.back; first = h.first; parts = h.parts }))
