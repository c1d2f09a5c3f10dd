-- The extensions that an end announces: no two of one name, and each of them short.
use Rattle.std.proofs.Common.{◌≡◌, ℕ, zero, suc, ◌+◌, ◌<◌, ◌≤◌, ◌^◌, Bool, true, ◌&&◌, ◌||◌, ltb, List, [], ◌∷◌, length, drop, map, get_or, refl, ap, ◌∙◌, arith}
use Rattle.std.specs.Prelude.{not}
use Rattle.std.specs.List.{list_all, list_any}
use Rattle.std.proofs.lemmas.Bool.{and_parts, leb-true, lt-ltb}
use Rattle.ssh_model.specs.Protocol.Wire.DataTypes.{is_name}
use Rattle.ssh_model.specs.Protocol.Wire.Message as model
use Rattle.ssh_message.specs.Announced.{extension_of, is_short}
use Rattle.ssh_message.specs.declared.extensions.Extension.{Extension}
use Rattle.ssh_config.specs.Checks.{are_distinct}
use Rattle.ssh_config.specs.Config.{extension_names, is_same, is_short_value}
use Rattle.ssh_config.proofs.Booleans.{both}
use Rattle.ssh_model.specs.Laws.Names.{name_facts}

-- ---- no two of one name

drop_more : (xs : List Extension) (i : ℕ) (d : Extension) → i < length xs → drop i xs ≡ get_or xs i d ∷ drop (i + 1) xs
drop_more [] i d here = absurd (omega (arith, here))
drop_more (x ∷ xs) zero d here = refl
drop_more (x ∷ xs) (suc i) d here =
    let next : suc (i + 1) ≡ suc i + 1 = omega arith in
    drop_more xs i d (omega (arith, here)) ∙ ap (λ (n : ℕ). get_or xs i d ∷ drop n (x ∷ xs)) next

pub any_named : (test : List ℕ → Bool) (xs : List Extension) → list_any (λ x. test x.name.now) xs ≡ list_any test (extension_names (map extension_of xs))
any_named test [] = refl
any_named test (x ∷ xs) = ap (λ (b : Bool). test x.name.now || b) (any_named test xs)

pub all_named : (xs : List Extension) → list_all (λ x. is_name x.name.now) xs ≡ list_all is_name (extension_names (map extension_of xs))
all_named [] = refl
all_named (x ∷ xs) = ap (λ (b : Bool). is_name x.name.now && b) (all_named xs)

-- ---- each of them short

pub all_short : (xs : List model.Extension) → list_all is_name (extension_names xs) ≡ true → list_all is_short_value xs ≡ true → list_all is_short xs ≡ true
all_short [] h k = refl
all_short (x ∷ xs) h k =
    let p = and_parts (is_name x.name) (list_all is_name (extension_names xs)) h in
    let q = and_parts (is_short_value x) (list_all is_short_value xs) k in
    let name : length x.name ≤ 64 = (name_facts x.name p.0).most in
    let value : length x.value ≤ 1024 = leb-true (length x.value) 1024 q.0 in
    both (is_short x) (list_all is_short xs)
    (both (ltb (length x.name) (2 ^ 32)) (ltb (length x.value) (2 ^ 32)) (lt-ltb (length x.name) (2 ^ 32) (omega (arith, name))) (lt-ltb (length x.value) (2 ^ 32) (omega (arith, value))))
    (all_short xs p.1 q.1)
