-- What the loop of a server promises.
use Rattle.std.specs.Prelude.{◌≡◌, ◌++◌, ℕ, Bool, true, false, Option, Some, List}
use Rattle.ssh_kex.specs.Parts.{HostKeys}
use Rattle.ssh_model.specs.Protocol.Authentication.Requests.{Judge}
use Rattle.ssh_model.specs.State.End.Reading.{end_reading}
use Rattle.ssh_model.specs.State.End.State.{EndState}
use Rattle.ssh_model.specs.Protocol.Lists.{IsIn}
use Rattle.ssh_model.specs.Protocol.Sessions.AnyPeer.{IsToldOf}
use Rattle.ssh_model.specs.Protocol.Sessions.Items.{Credential, Fact.Accepted, Item, Item.Told}
use Rattle.ssh_model.specs.Protocol.Sessions.Parties.{Agreement, Parties}
use Rattle.ssh_model.specs.declared.side.Side.TheVariants.{Server}
use Rattle.ssh_model.specs.Protocol.Wire.Delivery.{Delivered}
use Rattle.ssh_model.specs.Protocol.Wire.Sealing.{Crypto}
use Rattle.ssh_end_machine.specs.Sessions.{AreOf, end_of}
use Rattle.ssh_transport.specs.OfServer.Parts.{exchange_parts}
use Rattle.ssh_transport_machine.specs.State.{State, buffered_of}
use Rattle.ssh_end_machine.specs.Ends.{EndValue}
use Rattle.ssh_end_machine.specs.Parts.{IsServer, ServerRole}
use Rattle.ssh_end_machine.specs.Places.{StandsAfter}
use Rattle.ssh_end_machine.specs.declared.told.Told.{Told as Tells}
use Rattle.ssh_end_machine.specs.declared.told.Told.TheVariants as tells

-- A user is told as accepted.
abbrev pub is_told_in : Option Tells → Bool
is_told_in (Some (tells.Accepted user by)) = true
is_told_in other = false

-- A user was let in: who was told, and by what, is the user of a request that the judge accepts, at its place of the history, and
-- what that request shows.
pub record LetIn {K : Type 0} (p : Parties K) (history : List Item) : Type 0 where
  pub user : List ℕ
  pub by : Credential
  pub told : IsIn (Told (Accepted user by)) history
  pub accepted : IsToldOf p history user by

-- The server went on by these bytes, with these items, after which it stands. Where it says that a user was let in, one was, and
-- elsewhere none is told among the items. It used the bytes: whatever comes after them is read as after all that it had kept and these.
pub record ServedTo {K : Type 0} (p : Parties K) (parts layers : Type 0) (history : List Item) (kept bytes : List ℕ)
    (is_in : Bool) (machine : State K) (e : EndState K) : Type 0 where
  pub items : List Item
  pub place : StandsAfter p Server parts layers (items ++ history) machine e
  pub let_in : is_in ≡ true → LetIn p (items ++ history)
  pub kept_out : is_in ≡ false → (user : List ℕ) (by : Credential) → IsIn (Told (Accepted user by)) items → ⊥
  pub reads : (following : List ℕ) (last : List Item) (rest : List ℕ) →
      Delivered (end_reading p Server) (items ++ history) (buffered_of machine ++ following) last rest →
      Delivered (end_reading p Server) history (kept ++ (bytes ++ following)) last rest

-- the parts of a server, as those of parties
abbrev pub PartsOf : {P U S F A H K : Type 0} → Crypto K → (does : A → Agreement) → (keys : H → HostKeys) →
    (verdicts : U → Judge) → Parties K → ServerRole P U S F A H K → Type 0
PartsOf c does keys verdicts p role = IsServer p c (exchange_parts does keys role.exchange) (verdicts role.own.judge)

-- From a place at which a server stands it went on so by these bytes.
abbrev pub Serves : {P U S F A H K : Type 0} → Crypto K → (does : A → Agreement) → (keys : H → HostKeys) →
    (verdicts : U → Judge) → Parties K → List Item → EndValue K (ServerRole P U S F A H K) F → (bytes : List ℕ) → Bool →
    EndValue K (ServerRole P U S F A H K) F → Type 0
Serves c does keys verdicts p history old bytes is_in new =
    StandsAfter p Server (PartsOf c does keys verdicts p old.role) (AreOf p old.layers) history old.machine
    (end_of old.machine.kept old.layers) →
    ServedTo p (PartsOf c does keys verdicts p new.role) (AreOf p new.layers) history (buffered_of old.machine) bytes
    is_in new.machine (end_of new.machine.kept new.layers)
