-- The first fault of a list of users.
use Rattle.std.proofs.Common.{◌≡◌, ◌≢◌, ◌∙◌, ◌+◌, ◌<◌, ℕ, ℤ, All, Bool, List, [], ◌∷◌, ◌++◌, None, Option, Some, ap, arith, false, length, nat_eq, nat_lt, negsuc}
use Rattle.std.proofs.Common.{refl, slice_index_or, subst, suc, sym, take, true, zero}
use Rattle.std.proofs.lemmas.Bool.Decides.{nat_tests}
use Rattle.std.proofs.lemmas.List.Elements.{All-head, All-tail}
use Rattle.std.specs.Option.{option_or}
use Rattle.divrelca_c.specs.Making.{IsLogin, IsTaken, code_at, entry_fault, is_some_text, login_fault, users_fault}
use Rattle.divrelca_c.specs.declared.bytes.DvUser.{DvUser}
use Rattle.divrelca_c.proofs.UpTo.{up_to}

-- two of which the first counts
both_none : {A : Type 0} (first second : Option A) → first ≡ None → second ≡ None → option_or first second ≡ None
both_none None second is also = also
both_none (Some x) second is also = is

first_none : {A : Type 0} (first second : Option A) → option_or first second ≡ None → first ≡ None
first_none None second is = refl
first_none (Some x) second is = is

second_none : {A : Type 0} (first second : Option A) → option_or first second ≡ None → second ≡ None
second_none None second is = is
second_none (Some x) second is = absurd (cc is)

-- one more entry, after those without a fault
one_more : (users : List DvUser) (user : DvUser) → users_fault users ≡ None → entry_fault user ≡ None → users_fault (users ++ user ∷ []) ≡ None
one_more [] user none fault = both_none (entry_fault user) None fault refl
one_more (first ∷ users) user none fault = both_none (entry_fault first) (users_fault (users ++ user ∷ []))
    (first_none (entry_fault first) (users_fault users) none)
    (one_more users user (second_none (entry_fault first) (users_fault users) none) fault)

pub faultless_up_to : (users : List DvUser) (j : ℕ) (d : DvUser) → j < length users → users_fault (take j users) ≡ None →
    entry_fault (slice_index_or users j d) ≡ None → users_fault (take (j + 1) users) ≡ None
faultless_up_to users j d below none fault =
    subst (λ front. users_fault front ≡ None) (sym (up_to users j d below)) (one_more (take j users) (slice_index_or users j d) none fault)

-- an entry whose fault is the first
first_there : (users : List DvUser) (j : ℕ) (d : DvUser) (number : ℕ) → j < length users → users_fault (take j users) ≡ None →
    entry_fault (slice_index_or users j d) ≡ Some number → users_fault users ≡ Some number
first_there [] j d number below none fault = absurd (omega (arith, below))
first_there (user ∷ users) zero d number below none fault = rw fault refl
first_there (user ∷ users) (suc j) d number below none fault =
    rw (first_none (entry_fault user) (users_fault (take j users)) none)
    (first_there users j d number (omega arith) (second_none (entry_fault user) (users_fault (take j users)) none) fault)

pub first_code : (users : List DvUser) (j : ℕ) (d : DvUser) (code : ℤ) → j < length users → users_fault (take j users) ≡ None →
    code ≡ code_at (entry_fault (slice_index_or users j d)) → (code ≡ negsuc 0 → ⊥) → code ≡ code_at (users_fault users)
first_code users j d code below none is memory = by (entry_fault (slice_index_or users j d)) refl
  where
    by : (fault : Option ℕ) → entry_fault (slice_index_or users j d) ≡ fault → code ≡ code_at (users_fault users)
    by None fault = absurd (memory (subst (λ it. code ≡ code_at it) fault is))
    by (Some number) fault = subst (λ it. code ≡ code_at it) (sym (first_there users j d number below none fault))
        (subst (λ it. code ≡ code_at it) fault is)

-- ---- entries that are taken

some_text : (bytes : List ℕ) → (bytes ≡ [] → ⊥) → is_some_text bytes ≡ true
some_text [] some = absurd (some refl)
some_text (byte ∷ bytes) some = by (length (byte ∷ bytes)) (omega arith)
  where
    by : (n : ℕ) → 0 < n → nat_lt 0 n ≡ true
    by n above = grind (arith, nat_tests)

login_none : (user : DvUser) → IsLogin user → login_fault user ≡ None
login_none user is = by (nat_eq user.kind 1) refl
  where
    by : (b : Bool) → nat_eq user.kind 1 ≡ b → login_fault user ≡ None
    by true one = rw (one, is.key (grind (arith, nat_tests))) refl
    by false other =
        let not_one : user.kind ≢ 1 = grind (arith, nat_tests) in
        let two : user.kind ≡ 2 = omega (arith, is.entry) in
        rw (other, two, some_text user.login.now (is.password two)) refl

taken_none : (user : DvUser) → IsTaken user → entry_fault user ≡ None
taken_none user is = both_none (login_fault user) _ (login_none user is.login) (rw (some_text user.name.now is.named, is.strong) refl)

pub all_taken : (users : List DvUser) → All IsTaken users → users_fault users ≡ None
all_taken [] are = refl
all_taken (user ∷ users) are = both_none (entry_fault user) (users_fault users) (taken_none user (All-head IsTaken user users are))
    (all_taken users (All-tail IsTaken user users are))

-- where each is taken the code is that of memory
pub taken_code : (users : List DvUser) (code : ℤ) → ((code ≡ negsuc 0 → ⊥) → code ≡ code_at (users_fault users)) → All IsTaken users →
    (code ≡ negsuc 0 → ⊥) → ⊥
taken_code users code is are memory = memory (is memory ∙ ap code_at (all_taken users are))
