-- The users of a server that were made of entries that C passes, and the code of setting them.
use Rattle.std.proofs.Common.{◌≡◌, ◌∙◌, ℕ, ℤ, Bool, Err, Ok, Result, ap, false, pos, refl, true, List, [], ◌∷◌, All, map, subst, sym}
use Rattle.std.proofs.lemmas.Cmp.{nat_list_eq_equiv}
use Rattle.std.proofs.lemmas.List.Elements.{All-cons, All-head, All-map, All-nil, All-tail, All-weaker}
use Rattle.std.proofs.lemmas.List.Sums.{AllPass-from_list_all}
use Rattle.std.specs.Cmp.Lexicographic.{same_text}
use Rattle.std.specs.List.{list_all}
use Rattle.ssh_model.specs.Protocol.Wire.DataTypes.{is_text}
use Rattle.divrelca_c.specs.Embedded.Users.{entry_of}
use Rattle.divrelca_c.specs.declared.embedded.users.Login.{Login}
use Rattle.divrelca_c.specs.declared.embedded.users.User.{User}
use Rattle.ssh_types.specs.declared.call_error.CallError.{CallError}
use Rattle.divrelca_c.specs.declared.embedded.server.UserRefusal.{UserRefusal}
use Rattle.divrelca_c.specs.Codes.{user_code}
use Rattle.divrelca_c.specs.Making.{entry_by}
use Rattle.divrelca_c.specs.Users.{AreOf}
use Rattle.divrelca_c.specs.declared.bytes.DvUser.{DvUser}

-- what holds of the images holds of what they are images of
unmapped : {X Y : Type 0} (P : X → Type 0) (f : Y → X) (ys : List Y) → All P (map f ys) → All (λ y. P (f y)) ys
unmapped P f [] all = All-nil (λ y. P (f y))
unmapped P f (y ∷ ys) all =
    All-cons (λ it. P (f it)) y ys (All-head P (f y) (map f ys) all) (unmapped P f ys (All-tail P (f y) (map f ys) all))

-- Where the users have this name, the entries have it.
pub entries_named : (name : List ℕ) (users : List User) (given : List DvUser) → map entry_of users ≡ map entry_by given →
    list_all (λ user. is_text user.name.items name) users ≡ true → AreOf name given
entries_named name users given made named =
    let IsNamed : List ℕ × Login → Type 0 = λ entry. entry.0 ≡ name in
    let are = All-weaker (λ (user : User). is_text user.name.items name ≡ true) (λ user. user.name.items ≡ name)
    (λ user is. same_text user.name.items name (sym is)) users
    (AllPass-from_list_all (λ user. is_text user.name.items name) users named) in
    unmapped IsNamed entry_by given (subst (All IsNamed) made (All-map IsNamed entry_of users are))

-- Where the entries have this name, the users have it.
pub users_named : (name : List ℕ) (users : List User) (given : List DvUser) → map entry_of users ≡ map entry_by given →
    AreOf name given → list_all (λ user. is_text user.name.items name) users ≡ true
users_named name users given made named =
    let IsNamed : List ℕ × Login → Type 0 = λ entry. entry.0 ≡ name in
    let are = unmapped IsNamed entry_of users (subst (All IsNamed) (sym made) (All-map IsNamed entry_by given named)) in
    by users are
  where
    by : (users : List User) → All (λ user. user.name.items ≡ name) users → list_all (λ user. is_text user.name.items name) users ≡ true
    by [] are = refl
    by (user ∷ users) are =
        let Is : User → Type 0 = λ user. user.name.items ≡ name in
        rw (All-head Is user users are, nat_list_eq_equiv.refl name) (by users (All-tail Is user users are))

-- Where not all entries have it, not all users have it.
pub users_of_another : (name : List ℕ) (users : List User) (given : List DvUser) → map entry_of users ≡ map entry_by given →
    (AreOf name given → ⊥) → list_all (λ user. is_text user.name.items name) users ≡ false
users_of_another name users given made other = by (list_all (λ user. is_text user.name.items name) users) refl
  where
    by : (b : Bool) → list_all (λ user. is_text user.name.items name) users ≡ b → b ≡ false
    by false is = refl
    by true is = absurd (other (entries_named name users given made is))

-- the code of what came of setting a user
abbrev set_code : {A : Type 0} → Result A (CallError UserRefusal) → ℤ
set_code (Ok done) = pos 0
set_code (Err fault) = user_code fault

-- Where the fault is known, so is the code.
pub coded : {A : Type 0} (fault known : CallError UserRefusal) → ◌≡◌ {A = Result A (CallError UserRefusal)} (Err fault) (Err known) → (code : ℤ) →
    code ≡ user_code fault → code ≡ user_code known
coded fault known same code is = is ∙ ap set_code same
