-- The tests of lists and limits, and what they tell.
use Rattle.std.proofs.Common.{◌≡◌, ◌<◌, ℕ, Bool, true, false, ◌&&◌, leb, ◌||◌, List, [], ◌∷◌, ◌++◌, length, Some, None, refl, sym, ap, ◌∙◌, inl, inr}
use Rattle.std.specs.Prelude.{Option, is_none, not, codes, get_or, map}
use Rattle.std.specs.Option.{option_or}
use Rattle.std.specs.List.{AllByRecursion, IsDistinct, list_all, list_any}
use Rattle.std.proofs.lemmas.Bool.{and_parts, cases_Bool, leb-true, le-leb}
use Rattle.ssh_model.specs.Protocol.Wire.DataTypes.{is_name}
use Rattle.std.proofs.lemmas.List.Folds.{list_all-map, list_all_at}
use denote.Ref.{Bor}
use Rattle.ssh_model.specs.Protocol.Wire.Message.{Extension}
use Rattle.ssh_model.specs.Protocol.Wire.Sealing.{Crypto}
use Rattle.ssh_config.specs.declared.error.ConfigList.{ConfigList}
use Rattle.ssh_config.specs.declared.error.ConfigList.TheVariants.{Kex, Host, Encryption, Mac, Methods}
use Rattle.ssh_config.specs.declared.error.ListFault.{ListFault}
use Rattle.ssh_config.specs.declared.error.ListFault.TheVariants.{Empty, TooMany, NotName, Unknown, UnknownPair}
use Rattle.ssh_config.specs.declared.error.ExtensionFault.{ExtensionFault}
use Rattle.ssh_config.specs.declared.error.ExtensionFault.TheVariants.{NotTaken, TooMany as TooManyExtensions, NotName as NotExtensionName, LongValue, NameTwice}
use Rattle.ssh_config.specs.Config.{AreExtensions, AreGood, AreLists, Given, IsBadExtension, IsBadList, IsEpochLimit, IsKexMethod, IsList, IsTries, IsUserMethod, extension_names, is_same, is_short_value, version_text}
use Rattle.ssh_model.specs.Protocol.Wire.Line.{line_end}
use Rattle.ssh_config.specs.Checks.{are_distinct, are_good, each_fault, extension_fault, has_line, is_empty, is_epoch_limit, is_kex_method, is_tries, is_user_method, name_fault, number_fault, pair_fault, knows, knows_each, knows_pairs, lists_fault, texts_fault, told_unless}
use Rattle.ssh_config.proofs.Booleans.{all_pass, both, either, first_of, neither, no_one, not_both, not_true, passes, same_text, second_of, text_same}
use Rattle.ssh_config.proofs.Lines.{good_line, passes_line}

-- ---- faults

abbrev Fault : Type 0
Fault = Option (ConfigList × ListFault)

-- where neither has a fault, none has
or_none : {A : Type 0} (x y : Option A) → option_or x y ≡ None → (x ≡ None) × (y ≡ None)
or_none None y h = (refl, h)
or_none (Some fault) y h = absurd cc

none_or : {A : Type 0} (x y : Option A) → x ≡ None → y ≡ None → option_or x y ≡ None
none_or None y p q = q
none_or (Some fault) y p q = absurd cc

passed : {A : Type 0} (b : Bool) (fault : A) → told_unless b fault ≡ None → b ≡ true
passed true fault h = refl
passed false fault h = absurd cc

tells_nothing : {A : Type 0} (b : Bool) (fault : A) → b ≡ true → told_unless b fault ≡ None
tells_nothing true fault h = refl
tells_nothing false fault h = absurd cc

-- ---- one list

module _ (list : ConfigList) (texts : List (List ℕ)) where
  abbrev some : Fault
  some = told_unless (leb 1 (length texts)) (list, Empty)

  abbrev most : Fault
  most = told_unless (leb (length texts) 16) (list, TooMany)

  abbrev names : Fault
  names = told_unless (list_all is_name texts) (list, NotName)

  good_list : texts_fault list texts ≡ None → IsList texts
  good_list h =
      let p = or_none (option_or some most) names h in
      let q = or_none some most p.0 in
      record {
        some = leb-true 1 (length texts) (passed (leb 1 (length texts)) (list, Empty) q.0);
        most = leb-true (length texts) 16 (passed (leb (length texts) 16) (list, TooMany) q.1);
        names = passed (list_all is_name texts) (list, NotName) p.1;
      }

  list_passes : IsList texts → texts_fault list texts ≡ None
  list_passes l =
      none_or (option_or some most) names
      (none_or some most (tells_nothing (leb 1 (length texts)) (list, Empty) (le-leb 1 (length texts) l.some)) (tells_nothing (leb (length texts) 16) (list, TooMany) (le-leb (length texts) 16 l.most)))
      (tells_nothing (list_all is_name texts) (list, NotName) l.names)

-- ---- known names

kex_method : (name : List ℕ) → is_kex_method name ≡ true → IsKexMethod name
kex_method name h =
    elim (either (is_same name (codes "curve25519-sha256")) (is_same name (codes "curve25519-sha256@libssh.org")) h) [
      | inl one ↦ inl (same_text name (codes "curve25519-sha256") one)
      | inr other ↦ inr (same_text name (codes "curve25519-sha256@libssh.org") other)
    ]

kex_passes : (name : List ℕ) → IsKexMethod name → is_kex_method name ≡ true
kex_passes name m =
    elim m [
      | inl one ↦ first_of (is_same name (codes "curve25519-sha256")) (is_same name (codes "curve25519-sha256@libssh.org")) (text_same name (codes "curve25519-sha256") one)
      | inr other ↦ second_of (is_same name (codes "curve25519-sha256")) (is_same name (codes "curve25519-sha256@libssh.org")) (text_same name (codes "curve25519-sha256@libssh.org") other)
    ]

user_method : (name : List ℕ) → is_user_method name ≡ true → IsUserMethod name
user_method name h =
    elim (either (is_same name (codes "publickey")) (is_same name (codes "password")) h) [
      | inl one ↦ inl (same_text name (codes "publickey") one)
      | inr other ↦ inr (same_text name (codes "password") other)
    ]

user_passes : (name : List ℕ) → IsUserMethod name → is_user_method name ≡ true
user_passes name m =
    elim m [
      | inl one ↦ first_of (is_same name (codes "publickey")) (is_same name (codes "password")) (text_same name (codes "publickey") one)
      | inr other ↦ second_of (is_same name (codes "publickey")) (is_same name (codes "password")) (text_same name (codes "password") other)
    ]

-- ---- all lists

module _ {K : Type 0} (c : Crypto K) (g : Given) where
  abbrev kex : Fault
  kex = texts_fault Kex g.kex

  abbrev host : Fault
  host = texts_fault Host g.host

  abbrev encryption : Fault
  encryption = texts_fault Encryption g.encryption

  abbrev mac : Fault
  mac = texts_fault Mac g.mac

  abbrev methods : Fault
  methods = texts_fault Methods g.methods

  abbrev known_kex : Fault
  known_kex = told_unless (list_all is_kex_method g.kex) (Kex, Unknown)

  abbrev known_methods : Fault
  known_methods = told_unless (list_all is_user_method g.methods) (Methods, Unknown)

  pub good_lists : lists_fault c g ≡ None → AreLists c g
  good_lists h =
      let all = or_none (option_or (each_fault g) (name_fault g)) (pair_fault c g) h in
      let p = or_none (each_fault g) (name_fault g) all.0 in
      let five = or_none (option_or kex host) (option_or (option_or encryption mac) methods) p.0 in
      let two = or_none kex host five.0 in
      let three = or_none (option_or encryption mac) methods five.1 in
      let others = or_none encryption mac three.0 in
      let named = or_none known_kex known_methods p.1 in
      let kex_known = passed (list_all is_kex_method g.kex) (Kex, Unknown) named.0 in
      let methods_known = passed (list_all is_user_method g.methods) (Methods, Unknown) named.1 in
      let pairs_known = passed (knows_pairs c g.encryption g.mac) (Encryption, UnknownPair) all.1 in
      record {
        kex = good_list Kex g.kex two.0;
        host = good_list Host g.host two.1;
        encryption = good_list Encryption g.encryption others.0;
        mac = good_list Mac g.mac others.1;
        methods = good_list Methods g.methods three.1;
        known_kex = λ name here. kex_method name (passes is_kex_method g.kex name kex_known here);
        known_pair = λ enc mac of_enc of_mac. passes (knows c enc) g.mac mac (passes (knows_each c g.mac) g.encryption enc pairs_known of_enc) of_mac;
        known_method = λ name here. user_method name (passes is_user_method g.methods name methods_known here);
      }

  lists_pass : AreLists c g → lists_fault c g ≡ None
  lists_pass l =
      none_or (option_or (each_fault g) (name_fault g)) (pair_fault c g)
      (none_or (each_fault g) (name_fault g)
      (none_or (option_or kex host) (option_or (option_or encryption mac) methods)
      (none_or kex host (list_passes Kex g.kex l.kex) (list_passes Host g.host l.host))
      (none_or (option_or encryption mac) methods
      (none_or encryption mac (list_passes Encryption g.encryption l.encryption) (list_passes Mac g.mac l.mac))
      (list_passes Methods g.methods l.methods)))
      (none_or known_kex known_methods
      (tells_nothing (list_all is_kex_method g.kex) (Kex, Unknown) (all_pass is_kex_method g.kex (λ name here. kex_passes name (l.known_kex name here))))
      (tells_nothing (list_all is_user_method g.methods) (Methods, Unknown) (all_pass is_user_method g.methods (λ name here. user_passes name (l.known_method name here))))))
      (tells_nothing (knows_pairs c g.encryption g.mac) (Encryption, UnknownPair) (all_pass (knows_each c g.mac) g.encryption (λ enc of_enc. all_pass (knows c enc) g.mac (λ mac of_mac. l.known_pair enc mac of_enc of_mac))))

  pub bad_lists : (fault : ConfigList × ListFault) → lists_fault c g ≡ Some fault → IsBadList c g
  bad_lists fault h l = let e : Some fault ≡ None = sym h ∙ lists_pass l in cc

-- ---- the limits

pub good_epoch_limit : (packets : ℕ) → is_epoch_limit packets ≡ true → IsEpochLimit packets
good_epoch_limit packets h =
    let p = and_parts (leb 64 packets) (leb packets 2147483648) h in
    record { some = leb-true 64 packets p.0; most = leb-true packets 2147483648 p.1 }

epoch_limit_passes : (packets : ℕ) → IsEpochLimit packets → is_epoch_limit packets ≡ true
epoch_limit_passes packets l = both (leb 64 packets) (leb packets 2147483648) (le-leb 64 packets l.some) (le-leb packets 2147483648 l.most)

pub bad_epoch_limit : (packets : ℕ) → is_epoch_limit packets ≡ false → IsEpochLimit packets → ⊥
bad_epoch_limit packets h l = not_both (is_epoch_limit packets) h (epoch_limit_passes packets l)

pub good_tries : (tries : ℕ) → is_tries tries ≡ true → IsTries tries
good_tries tries h =
    let p = and_parts (leb 1 tries) (leb tries 20) h in
    record { some = leb-true 1 tries p.0; most = leb-true tries 20 p.1 }

tries_pass : (tries : ℕ) → IsTries tries → is_tries tries ≡ true
tries_pass tries l = both (leb 1 tries) (leb tries 20) (le-leb 1 tries l.some) (le-leb tries 20 l.most)

pub bad_tries : (tries : ℕ) → is_tries tries ≡ false → IsTries tries → ⊥
bad_tries tries h l = not_both (is_tries tries) h (tries_pass tries l)

-- ---- the extensions

-- a name that no later one is the same as
not_among : (name : List ℕ) (names : List (List ℕ)) → list_any (is_same name) names ≡ false → AllByRecursion (λ other. is_same name other ≡ false) names
not_among name [] h = tt
not_among name (other ∷ names) h =
    let p = neither (is_same name other) (list_any (is_same name) names) h in
    (p.0, not_among name names p.1)

among_none : (name : List ℕ) (names : List (List ℕ)) → AllByRecursion (λ other. is_same name other ≡ false) names → list_any (is_same name) names ≡ false
among_none name [] h = refl
among_none name (other ∷ names) h = no_one (is_same name other) (list_any (is_same name) names) h.0 (among_none name names h.1)

distinct : (names : List (List ℕ)) → are_distinct names ≡ true → IsDistinct is_same names
unfolding IsDistinct
distinct [] h = tt
distinct (name ∷ names) h =
    let p = and_parts (not (list_any (is_same name) names)) (are_distinct names) h in
    (not_among name names (not_true (list_any (is_same name) names) p.0), distinct names p.1)

distinct_pass : (names : List (List ℕ)) → IsDistinct is_same names → are_distinct names ≡ true
unfolding IsDistinct
distinct_pass [] h = refl
distinct_pass (name ∷ names) h =
    both (not (list_any (is_same name) names)) (are_distinct names)
    (ap not (among_none name names h.0)) (distinct_pass names h.1)

none_taken : (taken : Bool) (extensions : List Extension) → (taken || is_empty extensions) ≡ true → taken ≡ false → extensions ≡ []
none_taken taken [] h f = refl
none_taken false (x ∷ extensions) h f = absurd cc
none_taken true (x ∷ extensions) h f = absurd cc

taken_pass : (taken : Bool) (extensions : List Extension) → (taken ≡ false → extensions ≡ []) → (taken || is_empty extensions) ≡ true
taken_pass true extensions f = refl
taken_pass false extensions f = ap is_empty (f refl)

module _ (g : Given) where
  abbrev some_fault : Option ExtensionFault
  some_fault = told_unless (g.takes_extensions || is_empty g.extensions) NotTaken

  abbrev most_fault : Option ExtensionFault
  most_fault = told_unless (leb (length g.extensions) 16) TooManyExtensions

  abbrev named_fault : Option ExtensionFault
  named_fault = told_unless (list_all is_name (extension_names g.extensions)) NotExtensionName

  abbrev value_fault : Option ExtensionFault
  value_fault = told_unless (list_all is_short_value g.extensions) LongValue

  abbrev twice_fault : Option ExtensionFault
  twice_fault = told_unless (are_distinct (extension_names g.extensions)) NameTwice

  pub good_extensions : extension_fault g.takes_extensions g.extensions ≡ None → AreExtensions g
  good_extensions h =
      let p = or_none (option_or (number_fault g.takes_extensions g.extensions) named_fault) (option_or value_fault twice_fault) h in
      let q = or_none (number_fault g.takes_extensions g.extensions) named_fault p.0 in
      let r = or_none some_fault most_fault q.0 in
      let t = or_none value_fault twice_fault p.1 in
      record {
        taken = none_taken g.takes_extensions g.extensions (passed (g.takes_extensions || is_empty g.extensions) NotTaken r.0);
        most = leb-true (length g.extensions) 16 (passed (leb (length g.extensions) 16) TooManyExtensions r.1);
        names = passed (list_all is_name (extension_names g.extensions)) NotExtensionName q.1;
        values = passed (list_all is_short_value g.extensions) LongValue t.0;
        once = distinct (extension_names g.extensions) (passed (are_distinct (extension_names g.extensions)) NameTwice t.1);
      }

  extensions_pass : AreExtensions g → extension_fault g.takes_extensions g.extensions ≡ None
  extensions_pass x =
      none_or (option_or (number_fault g.takes_extensions g.extensions) named_fault) (option_or value_fault twice_fault)
      (none_or (number_fault g.takes_extensions g.extensions) named_fault
      (none_or some_fault most_fault
      (tells_nothing (g.takes_extensions || is_empty g.extensions) NotTaken (taken_pass g.takes_extensions g.extensions x.taken))
      (tells_nothing (leb (length g.extensions) 16) TooManyExtensions (le-leb (length g.extensions) 16 x.most)))
      (tells_nothing (list_all is_name (extension_names g.extensions)) NotExtensionName x.names))
      (none_or value_fault twice_fault
      (tells_nothing (list_all is_short_value g.extensions) LongValue x.values)
      (tells_nothing (are_distinct (extension_names g.extensions)) NameTwice (distinct_pass (extension_names g.extensions) x.once)))

  pub bad_extensions : (fault : ExtensionFault) → extension_fault g.takes_extensions g.extensions ≡ Some fault → IsBadExtension g
  bad_extensions fault h x = let e : Some fault ≡ None = sym h ∙ extensions_pass x in cc

-- ---- all of it

none_of : {A : Type 0} (x : Option A) → is_none x ≡ true → x ≡ None
none_of None h = refl
none_of (Some fault) h = absurd cc

pub good_settings : {K : Type 0} (c : Crypto K) (g : Given) → are_good c g ≡ true → AreGood c g
good_settings c g h =
    let o = and_parts ((has_line g.software g.comments && is_none (lists_fault c g)) && (is_epoch_limit g.epoch_limit && is_tries g.tries)) (is_none (extension_fault g.takes_extensions g.extensions)) h in
    let p = and_parts (has_line g.software g.comments && is_none (lists_fault c g)) (is_epoch_limit g.epoch_limit && is_tries g.tries) o.0 in
    let q = and_parts (has_line g.software g.comments) (is_none (lists_fault c g)) p.0 in
    let r = and_parts (is_epoch_limit g.epoch_limit) (is_tries g.tries) p.1 in
    record {
      line = good_line g q.0;
      lists = good_lists c g (none_of (lists_fault c g) q.1);
      epoch_limit = good_epoch_limit g.epoch_limit r.0;
      tries = good_tries g.tries r.1;
      extensions = good_extensions g (none_of (extension_fault g.takes_extensions g.extensions) o.1);
    }

pub good_pass : {K : Type 0} (c : Crypto K) (g : Given) → AreGood c g → are_good c g ≡ true
good_pass c g good =
    both ((has_line g.software g.comments && is_none (lists_fault c g)) && (is_epoch_limit g.epoch_limit && is_tries g.tries)) (is_none (extension_fault g.takes_extensions g.extensions))
    (both (has_line g.software g.comments && is_none (lists_fault c g)) (is_epoch_limit g.epoch_limit && is_tries g.tries)
    (both (has_line g.software g.comments) (is_none (lists_fault c g)) (passes_line g (version_text g.software g.comments ++ line_end) good.line) (ap (λ (x : Fault). is_none x) (lists_pass c g good.lists)))
    (both (is_epoch_limit g.epoch_limit) (is_tries g.tries) (epoch_limit_passes g.epoch_limit good.epoch_limit) (tries_pass g.tries good.tries)))
    (ap (λ (x : Option ExtensionFault). is_none x) (extensions_pass g good.extensions))

-- ---- texts that are names

-- each of them is one
pub each_is_name : (texts : List (Bor (List ℕ))) (i : ℕ) (d : Bor (List ℕ)) → i < length texts → list_all is_name (map (λ name. name.now) texts) ≡ true → is_name (get_or texts i d).now ≡ true
each_is_name texts i d lt h =
    let all : list_all (λ (text : Bor (List ℕ)). is_name text.now) texts ≡ true = sym (list_all-map is_name (λ (text : Bor (List ℕ)). text.now) texts) ∙ h in
    elim (cases_Bool (is_name (get_or texts i d).now)) [
      | inl t ↦ t
      | inr f ↦ absurd (let e : true ≡ false = sym all ∙ list_all_at (λ (text : Bor (List ℕ)). is_name text.now) texts i d lt f in cc)
    ]
