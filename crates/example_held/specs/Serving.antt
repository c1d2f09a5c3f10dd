-- What the loop of a server promises whose program says who may log in.
use Rattle.std.specs.Prelude.{◌++◌, ℕ, Bool, true, false, Option, Some, List, Result, Ok, Err, take}
use Rattle.ssh_kex.specs.Parts.{HostKeys}
use Rattle.ssh_model.specs.Protocol.Lists.{IsIn}
use Rattle.ssh_model.specs.Protocol.Sessions.Items.{Credential, Fact, Fact.Accepted, Item, Item.Told}
use Rattle.ssh_model.specs.Protocol.Sessions.Parties.{Agreement, Parties}
use Rattle.ssh_model.specs.Protocol.Wire.Sealing.{Crypto}
use Rattle.ssh_model.specs.declared.side.Side.TheVariants.{Server}
use Rattle.ssh_transport_machine.specs.State.{buffered_of}
use Rattle.ssh_end_machine.specs.Ends.{EndValue}
use Rattle.ssh_end_machine.specs.Parts.{ServerRole}
use Rattle.ssh_end_machine.specs.declared.asking.outcome.Fault.{Fault}
use Rattle.ssh_end_machine.specs.declared.told.Told.{Told as Tells}
use Rattle.ssh_end_machine.specs.declared.told.Told.TheVariants as tells
use Rattle.ssh_held.specs.Book.{LetInByVerdict, Signatures}
use Rattle.ssh_held.specs.Held.{AsksNext, HeldAt, judged_by_book}
use Rattle.ssh_held.specs.Places.{WentOn}
use Rattle.ssh_held.specs.declared.book.Verdict.{Verdict}
use Rattle.ssh_held.specs.declared.book.Verdicts.{Verdicts}
use Rattle.example_held.specs.Turning.{SaysWhether, WentBy}
use Rattle.example_held.specs.declared.server.Served.{Served}

-- ---- who is let in

-- A user is told as accepted.
abbrev pub is_accepted_in : Option Tells → Bool
is_accepted_in (Some (tells.Accepted user by)) = true
is_accepted_in other = false

-- a user, and the credential by which the user is let in
pub record Who : Type 0 where
  pub user : List ℕ
  pub by : Credential

abbrev pub let_in : Who → Fact
let_in who = Accepted who.user who.by

-- ---- what is asked

-- The verdict is on the question that the request of this payload asks next, in the session of this id.
abbrev pub IsOnRequest : (knows : List ℕ → Bool) → (said_so_far : List Verdict) → (session payload : List ℕ) → Verdict → Type 0
IsOnRequest knows said_so_far session payload verdict = AsksNext knows said_so_far session payload verdict.asked

-- ---- the loop

-- The server used these bytes, with these items, after which it stands. It says whether a user is told as let in among them. Whoever is
-- told so in its history sent a request that it accepted, with the credential that is told, and the program had said yes to this very
-- request, and to its signature if the server's judge does not know the algorithm.
pub record ServedTo {P S X F A H K : Type 0} (c : Crypto K) (does : A → Agreement) (keys : H → HostKeys) (signatures : S → Signatures)
    (p : Parties K)
    (history : List Item) (old : EndValue K (ServerRole P (Verdicts S) X F A H K) F) (bytes : List ℕ) (is_in : Bool)
    (new : EndValue K (ServerRole P (Verdicts S) X F A H K) F) : Type 0 where
  pub items : List Item
  pub place : HeldAt c does keys signatures p new (items ++ history)
  pub went : WentBy (λ (book : Verdicts S). judged_by_book signatures book p) (λ (book : Verdicts S). book.list.items) Server history
      (buffered_of old.machine) old.role.own.judge.list.items bytes items (buffered_of new.machine) new.role.own.judge.list.items
  pub says : SaysWhether let_in items is_in
  pub by_verdict : (user : List ℕ) (by : Credential) → IsIn (Told (Accepted user by)) (items ++ history) →
      LetInByVerdict (judged_by_book signatures new.role.own.judge p) (items ++ history)
      (signatures new.role.own.judge.signatures).knows new.role.own.judge.list.items user by

-- Where bytes took a server from a place at which it stood. If it failed, it stands at a later place.
abbrev pub ServesTo : {P S X F A H K : Type 0} → Crypto K → (does : A → Agreement) → (keys : H → HostKeys) → (signatures : S → Signatures) →
    Parties K → List Item → EndValue K (ServerRole P (Verdicts S) X F A H K) F → (bytes : List ℕ) → Result Served Fault →
    EndValue K (ServerRole P (Verdicts S) X F A H K) F → Type 0
ServesTo c does keys signatures p history old bytes (Ok served) new =
    ServedTo c does keys signatures p history old (take served.used bytes) served.is_in new
ServesTo c does keys signatures p history old bytes (Err why) new = WentOn (HeldAt c does keys signatures p new) history
