-- The first common name, as it is computed, is the one that the choice of algorithms speaks of.
use Rattle.std.proofs.Common.{Option, ◌≡◌, ℕ, zero, suc, List, [], ◌∷◌, ◌⊎◌, inl, inr, refl, ap, sym, subst, arith, Bool, true, false, cond, nat_eq, eqb-true, Some, None, is_some, not, ◌&&◌, ◌++◌, ◌∙◌}
use Rattle.std.specs.List.{Contains, find}
use Rattle.std.specs.Cmp.Lexicographic.{pointwise}
use Rattle.ssh_model.specs.Protocol.Wire.DataTypes.{is_text}
use Rattle.ssh_model.specs.Protocol.Wire.Message.{Proposal}
use Rattle.ssh_model.specs.Protocol.KeyExchange.Choice.{Kind, Lists, Chosen, offered, Kind.CompSc, Kind.Kex, Kind.CompCs, Kind.HostKey, Kind.EncCs, Kind.MacSc, Kind.EncSc, Kind.MacCs}
use Rattle.ssh_model.specs.Laws.KeyExchange.{IsFirstCommon, HasNoCommon, IsRightGuess, IsChoice, IsChosen}
use Rattle.ssh_model.specs.Protocol.Sessions.Parties.{lists_of}
use Rattle.ssh_model.specs.Protocol.Sessions.Phases.{is_same, is_wrong_guess}
use Rattle.ssh_model.specs.Protocol.KeyExchange.Exchanges.{first_common, name_of, common, has_choice, chosen}
use Rattle.ssh_model.proofs.Sessions.Stages.{and_left, and_right, not_false, second_false}

pub text_same : (a b : List ℕ) → is_text a b ≡ true → a ≡ b
text_same [] [] e = refl
text_same [] (y ∷ b) e = absurd (cc e)
text_same (x ∷ a) [] e = absurd (cc e)
text_same (x ∷ a) (y ∷ b) e =
    let head : x ≡ y = eqb-true x y (and_left (nat_eq x y) (pointwise nat_eq a b) e) in
    let tail = text_same a b (and_right (nat_eq x y) (pointwise nat_eq a b) e) in
    cc (head, tail)

pub text_self : (a : List ℕ) → is_text a a ≡ true
text_self [] = refl
text_self (x ∷ a) = grind (arith, text_self a)

-- ---- what a list contains

pub head_in : (x : List ℕ) (l : List (List ℕ)) → Contains (x ∷ l) x
head_in x l = (0, omega arith, refl)

pub tail_in : (x y : List ℕ) (l : List (List ℕ)) → Contains l x → Contains (y ∷ l) x
tail_in x y l c = (suc c.0, omega (arith, c.1), c.2)

pub in_cases : (x y : List ℕ) (l : List (List ℕ)) → Contains (y ∷ l) x → (y ≡ x) ⊎ Contains l x
in_cases x y l (zero, n, e) = inl e
in_cases x y l (suc k, n, e) = inr (k, omega (arith, n), e)

not_in_none : (x : List ℕ) → Contains [] x → ⊥
not_in_none x c = omega (arith, c.1)

-- ---- finding

abbrev test_of : List ℕ → List ℕ → Bool
test_of n other = is_text n other

found : (n : List ℕ) (server : List (List ℕ)) → is_some (find (test_of n) server) ≡ true → Contains server n
found n [] e = absurd (cc e)
found n (o ∷ server) e = go (is_text n o) refl e (found n server)
  where
    go : (t : Bool) → is_text n o ≡ t → is_some (cond t (Some o) (find (test_of n) server)) ≡ true → (is_some (find (test_of n) server) ≡ true → Contains server n) → Contains (o ∷ server) n
    go true f g r = subst (λ w. Contains (o ∷ server) w) (sym (text_same n o f)) (head_in o server)
    go false f g r = tail_in n o server (r g)

not_found : (n : List ℕ) (server : List (List ℕ)) → is_some (find (test_of n) server) ≡ false → Contains server n → ⊥
not_found n [] e c = not_in_none n c
not_found n (o ∷ server) e c = go (is_text n o) refl e (not_found n server) (in_cases n o server c)
  where
    go : (t : Bool) → is_text n o ≡ t → is_some (cond t (Some o) (find (test_of n) server)) ≡ false → (is_some (find (test_of n) server) ≡ false → Contains server n → ⊥) → ((o ≡ n) ⊎ Contains server n) → ⊥
    go true f g r c = cc g
    go false f g r (inl same) = let t : is_text n o ≡ true = subst (λ w. is_text n w ≡ true) (sym same) (text_self n) in cc (t, f)
    go false f g r (inr there) = r g there

-- ---- the first common name

pub first_is : (client server : List (List ℕ)) (name : List ℕ) → first_common client server ≡ Some name → IsFirstCommon client server name
first_is [] server name e = absurd (cc e)
first_is (n ∷ client) server name e = go (is_some (find (test_of n) server)) refl e (first_is client server name)
  where
    go : (t : Bool) → is_some (find (test_of n) server) ≡ t → cond t (Some n) (first_common client server) ≡ Some name
        → (first_common client server ≡ Some name → IsFirstCommon client server name) → IsFirstCommon (n ∷ client) server name
    go true f g r =
        let same : n ≡ name = cc g in
        record {
          earlier = [];
          later = client;
          place = ap (λ w. w ∷ client) same;
          in_both = subst (λ w. Contains server w) same (found n server f);
          first = λ other c d. not_in_none other c;
        }
    go false f g r =
        let w = r g in
        record {
          earlier = n ∷ w.earlier;
          later = w.later;
          place = ap (λ l. n ∷ l) w.place;
          in_both = w.in_both;
          first = λ other c d. before w other (in_cases other n w.earlier c) d;
        }
      where
        before : (w : IsFirstCommon client server name) (other : List ℕ) → ((n ≡ other) ⊎ Contains w.earlier other) → Contains server other → ⊥
        before w other (inl same) d = not_found n server f (subst (λ x. Contains server x) (sym same) d)
        before w other (inr c) d = w.first other c d

pub none_is : (client server : List (List ℕ)) → first_common client server ≡ None → HasNoCommon client server
none_is [] server e = record { none = λ name c d. not_in_none name c }
none_is (n ∷ client) server e = go (is_some (find (test_of n) server)) refl e (none_is client server)
  where
    go : (t : Bool) → is_some (find (test_of n) server) ≡ t → cond t (Some n) (first_common client server) ≡ None
        → (first_common client server ≡ None → HasNoCommon client server) → HasNoCommon (n ∷ client) server
    go true f g r = absurd (cc g)
    go false f g r = record { none = λ name c d. before name (in_cases name n client c) d }
      where
        before : (name : List ℕ) → ((n ≡ name) ⊎ Contains client name) → Contains server name → ⊥
        before name (inl same) d = not_found n server f (subst (λ x. Contains server x) (sym same) d)
        before name (inr c) d = (r g).none name c d

first_at : (earlier later server : List (List ℕ)) (name : List ℕ) → Contains server name → ((other : List ℕ) → Contains earlier other → Contains server other → ⊥)
    → first_common (earlier ++ name ∷ later) server ≡ Some name
first_at [] later server name c f = go (is_some (find (test_of name) server)) refl
  where
    go : (t : Bool) → is_some (find (test_of name) server) ≡ t → cond t (Some name) (first_common later server) ≡ Some name
    go true e = refl
    go false e = absurd (not_found name server e c)
first_at (n ∷ earlier) later server name c f = go (is_some (find (test_of n) server)) refl (first_at earlier later server name c (λ other d e. f other (tail_in other n earlier d) e))
  where
    go : (t : Bool) → is_some (find (test_of n) server) ≡ t → first_common (earlier ++ name ∷ later) server ≡ Some name → cond t (Some n) (first_common (earlier ++ name ∷ later) server) ≡ Some name
    go true e r = absurd (f n (head_in n earlier) (found n server e))
    go false e r = r

pub first_only : (client server : List (List ℕ)) (name : List ℕ) → IsFirstCommon client server name → first_common client server ≡ Some name
first_only client server name w = ap (λ l. first_common l server) w.place ∙ first_at w.earlier w.later server name w.in_both w.first

-- ---- the choice

some_is : (name : Option (List ℕ)) → is_some name ≡ true → name ≡ Some (name_of name)
some_is None e = absurd (cc e)
some_is (Some name) e = refl

computed : (kind : Kind) (client server : Lists) → is_some (common kind client server) ≡ true → IsChosen client server kind (name_of (common kind client server))
computed kind client server e = first_is (offered kind client) (offered kind server) (name_of (common kind client server)) (some_is (common kind client server) e)

pub choice_computed : (client server : Lists) → has_choice client server ≡ true → IsChoice client server (chosen client server)
choice_computed client server e =
    let seven = and_left _ (is_some (common CompSc client server)) e in
    let six = and_left _ (is_some (common CompCs client server)) seven in
    let five = and_left _ (is_some (common MacSc client server)) six in
    let four = and_left _ (is_some (common MacCs client server)) five in
    let three = and_left _ (is_some (common EncSc client server)) four in
    let two = and_left (is_some (common Kex client server) && is_some (common HostKey client server)) (is_some (common EncCs client server)) three in
    record {
      kex = computed Kex client server (and_left _ (is_some (common HostKey client server)) two);
      host = computed HostKey client server (and_right (is_some (common Kex client server)) _ two);
      enc_cs = computed EncCs client server (and_right (is_some (common Kex client server) && is_some (common HostKey client server)) _ three);
      enc_sc = computed EncSc client server (and_right _ _ four);
      mac_cs = computed MacCs client server (and_right _ _ five);
      mac_sc = computed MacSc client server (and_right _ _ six);
      comp_cs = computed CompCs client server (and_right _ _ seven);
      comp_sc = computed CompSc client server (and_right _ _ e);
    }

pub choice_only : (client server : Lists) (c : Chosen) → IsChoice client server c → (has_choice client server ≡ true) × (chosen client server ≡ c)
choice_only client server c w =
    let kex : common Kex client server ≡ Some c.kex = first_only _ _ _ w.kex in
    let host : common HostKey client server ≡ Some c.host = first_only _ _ _ w.host in
    let enc_cs : common EncCs client server ≡ Some c.enc_cs = first_only _ _ _ w.enc_cs in
    let enc_sc : common EncSc client server ≡ Some c.enc_sc = first_only _ _ _ w.enc_sc in
    let mac_cs : common MacCs client server ≡ Some c.mac_cs = first_only _ _ _ w.mac_cs in
    let mac_sc : common MacSc client server ≡ Some c.mac_sc = first_only _ _ _ w.mac_sc in
    let comp_cs : common CompCs client server ≡ Some c.comp_cs = first_only _ _ _ w.comp_cs in
    let comp_sc : common CompSc client server ≡ Some c.comp_sc = first_only _ _ _ w.comp_sc in
    (rw (kex, host, enc_cs, enc_sc, mac_cs, mac_sc, comp_cs, comp_sc) refl, rw (kex, host, enc_cs, enc_sc, mac_cs, mac_sc, comp_cs, comp_sc) refl)

-- ---- the guess

same_is : (a b : Option (List ℕ)) → is_same a b ≡ true → a ≡ b
same_is None None e = refl
same_is (Some a) (Some b) e = ap Some (text_same a b e)
same_is None (Some b) e = absurd (cc e)
same_is (Some a) None e = absurd (cc e)

self_same : (a b : Option (List ℕ)) → a ≡ b → is_same a b ≡ true
self_same None None e = refl
self_same (Some a) (Some b) e = let f : a ≡ b = cc e in subst (λ w. is_text a w ≡ true) f (text_self a)
self_same None (Some b) e = absurd (cc e)
self_same (Some a) None e = absurd (cc e)

pub right_guess : (theirs ours : Proposal) → theirs.follows ≡ true → is_wrong_guess theirs ours ≡ false → IsRightGuess (lists_of theirs) (lists_of ours)
right_guess theirs ours f e =
    let both = not_false _ (second_false theirs.follows _ f e) in
    record { kex = same_is _ _ (and_left _ _ both); host = same_is _ _ (and_right _ _ both) }

pub wrong_guess : (theirs ours : Proposal) → is_wrong_guess theirs ours ≡ true → IsRightGuess (lists_of theirs) (lists_of ours) → ⊥
wrong_guess theirs ours e r =
    let kex = self_same _ _ r.kex in
    let host = self_same _ _ r.host in
    let n = and_right theirs.follows _ e in
    contradicts _ _ kex host n
  where
    contradicts : (a b : Bool) → a ≡ true → b ≡ true → not (a && b) ≡ true → ⊥
    contradicts true true f g h = cc h
    contradicts true false f g h = cc g
    contradicts false b f g h = cc f

pub no_guess : (theirs ours : Proposal) → theirs.follows ≡ false → is_wrong_guess theirs ours ≡ false
no_guess theirs ours f = go theirs.follows _ f
  where
    go : (a b : Bool) → a ≡ false → (a && b) ≡ false
    go false b e = refl
    go true b e = absurd (cc e)
