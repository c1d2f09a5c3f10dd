-- Extensions written one after the other.
use Rattle.std.proofs.Common.{◌≡◌, ℕ, ◌+◌, ◌<◌, ◌^◌, Bool, true, false, ltb, List, [], ◌∷◌, ◌++◌, length, take, map, get_or, refl, sym, ap, subst, ◌∙◌, append_assoc, inl, inr}
use Rattle.std.proofs.lemmas.Bool.{and_parts, cases_Bool, ltb-true}
use Rattle.std.proofs.lemmas.List.{append-nil, map-append, take_more}
use Rattle.std.proofs.lemmas.List.Folds.{list_all-map, list_all_at}
use Rattle.std.specs.List.{list_all}
use Rattle.ssh_model.specs.Protocol.Wire.DataTypes.{IsString}
use Rattle.ssh_model.specs.Protocol.Wire.Message as model
use Rattle.ssh_model.specs.Protocol.Wire.Message.{◌▸◌, IsExtensions}
use Rattle.ssh_model.specs.Laws.Reading.{Writes}
use Rattle.ssh_message.specs.Announced.{extension_of, is_short}
use Rattle.ssh_message.specs.declared.extensions.Extension.{Extension}

-- those of both texts
one_following : (all more : List model.Extension) (front back : List ℕ) → IsExtensions all front → IsExtensions more back → IsExtensions (all ++ more) (front ++ back)
one_following [] more front back h k = subst (λ (l : List ℕ). IsExtensions more (l ++ back)) (sym h) k
one_following (x ∷ all) more front back h k = record {
  front = h.front;
  back = h.back ++ back;
  first = h.first;
  second = record {
    front = h.second.front;
    back = h.second.back ++ back;
    first = h.second.first;
    second = one_following all more h.second.back back h.second.second k;
    parts = ap (λ (l : List ℕ). l ++ back) h.second.parts ∙ append_assoc h.second.front h.second.back back;
  };
  parts = ap (λ (l : List ℕ). l ++ back) h.parts ∙ append_assoc h.front h.back back;
}

one_extension : (x : model.Extension) (name value : List ℕ) → IsString x.name name → IsString x.value value → IsExtensions (x ∷ []) (name ++ value)
one_extension x name value n v = record {
  front = name;
  back = value;
  first = n;
  second = record { front = value; back = []; first = v; second = refl; parts = sym (append-nil value) };
  parts = refl;
}

-- one extension more, its name and its value written
module _ (xs : List Extension) (i : ℕ) (d : Extension) (here : i < length xs) where
  pub written_more : {old mid new : List ℕ} → IsExtensions (map extension_of (take i xs)) old → Writes (IsString (get_or xs i d).name.now) old mid → Writes (IsString (get_or xs i d).value.now) mid new →
      IsExtensions (map extension_of (take (i + 1) xs)) new
  written_more {old = old} {mid = mid} {new = new} h n v =
      let x : model.Extension = extension_of (get_or xs i d) in
      let all : map extension_of (take (i + 1) xs) ≡ map extension_of (take i xs) ++ x ∷ [] = ap (map extension_of) (take_more xs i d here) ∙ map-append extension_of (take i xs) (get_or xs i d ∷ []) in
      let parts : new ≡ old ++ (n.bytes ++ v.bytes) = v.parts ∙ ap (λ (l : List ℕ). l ++ v.bytes) n.parts ∙ append_assoc old n.bytes v.bytes in
      subst (λ (l : List ℕ). IsExtensions (map extension_of (take (i + 1) xs)) l) (sym parts)
      (subst (λ (l : List model.Extension). IsExtensions l (old ++ (n.bytes ++ v.bytes))) (sym all)
      (one_following (map extension_of (take i xs)) (x ∷ []) old (n.bytes ++ v.bytes) h (one_extension x n.bytes v.bytes n.meets v.meets)))

  -- and it can be written
  pub short_more : list_all is_short (map extension_of xs) ≡ true → is_short (extension_of (get_or xs i d)) ≡ true
  short_more h = elim (cases_Bool (is_short (extension_of (get_or xs i d)))) [
    | inl t ↦ t
    | inr f ↦ absurd (let e : true ≡ false = sym h ∙ list_all-map is_short extension_of xs ∙ list_all_at (λ (y : Extension). is_short (extension_of y)) xs i d here f in cc)
  ]

  pub name_short : list_all is_short (map extension_of xs) ≡ true → length (get_or xs i d).name.now < 2 ^ 32
  name_short h = ltb-true _ _ (and_parts (ltb (length (get_or xs i d).name.now) (2 ^ 32)) (ltb (length (get_or xs i d).value.now) (2 ^ 32)) (short_more h)).0

  pub value_short : list_all is_short (map extension_of xs) ≡ true → length (get_or xs i d).value.now < 2 ^ 32
  value_short h = ltb-true _ _ (and_parts (ltb (length (get_or xs i d).name.now) (2 ^ 32)) (ltb (length (get_or xs i d).value.now) (2 ^ 32)) (short_more h)).1
