-- What the loop of a client promises whose program says which hosts are trusted.
use Rattle.std.specs.Prelude.{◌≡◌, ◌++◌, ℕ, Bool, true, false, Option, Some, List, Result, Ok, Err, take}
use Rattle.ssh_model.specs.Protocol.Sessions.Items.{Fact, Fact.Completed, Item}
use Rattle.ssh_model.specs.Protocol.Sessions.Parties.{Agreement, Parties}
use Rattle.ssh_model.specs.Protocol.Wire.Sealing.{Crypto}
use Rattle.ssh_model.specs.declared.side.Side.TheVariants.{Client}
use Rattle.ssh_transport_machine.specs.Replies.{Trusts}
use Rattle.ssh_transport_machine.specs.State.{buffered_of}
use Rattle.ssh_end_machine.specs.Asking.{UserSignatures}
use Rattle.ssh_end_machine.specs.Ends.{EndValue}
use Rattle.ssh_end_machine.specs.Parts.{ClientRole}
use Rattle.ssh_end_machine.specs.declared.asking.outcome.Fault.{Fault}
use Rattle.ssh_end_machine.specs.declared.told.Told.{Told as Tells}
use Rattle.ssh_end_machine.specs.declared.told.Told.TheVariants as tells
use Rattle.ssh_held.specs.HeldHosts.{ClientHeldAt, HasReply, NextHost, signed_with, trusting_book}
use Rattle.ssh_held.specs.Hosts.{TrustsEachByVerdict, is_on_host}
use Rattle.ssh_held.specs.Places.{WentOn}
use Rattle.ssh_held.specs.declared.host_book.HostVerdict.{HostVerdict}
use Rattle.ssh_held.specs.declared.host_book.HostVerdicts.{HostVerdicts}
use Rattle.example_held.specs.Turning.{SaysWhether, WentBy}
use Rattle.example_held.specs.declared.client.Met.{Met}

-- An exchange of keys is told as completed.
abbrev pub is_completed_in : Option Tells → Bool
is_completed_in (Some (tells.Completed position)) = true
is_completed_in other = false

-- that the exchange at this position is completed
abbrev pub completed : (position : ℕ) → Fact
completed position = Completed position

-- The verdict is on the host key of the reply that is looked at, under the algorithm of the exchange, or on its signature of the hash that is
-- shown.
abbrev pub IsOnHost : NextHost → HostVerdict → Type 0
IsOnHost next verdict =
    (algorithm key signature : List ℕ) → next.algorithm ≡ Some algorithm → HasReply next.payload key signature →
    is_on_host algorithm key (signed_with next.hash signature) verdict.asked ≡ true

-- The client used these bytes, with these items, after which it stands. It says whether an exchange of keys is told as completed among
-- them. In each exchange that it completed in its history, the program had said yes to the very host key, and to its signature if another
-- does not know the algorithm.
pub record MetBy {P U S X F A K : Type 0} (c : Crypto K) (does : A → Agreement) (knows : S → List ℕ → Bool)
    (judged : S → Trusts) (signature : U → UserSignatures)
    (p : Parties K) (history : List Item) (old : EndValue K (ClientRole P U X F A (HostVerdicts S) K) F) (bytes : List ℕ)
    (is_complete : Bool)
    (new : EndValue K (ClientRole P U X F A (HostVerdicts S) K) F) : Type 0 where
  pub items : List Item
  pub place : ClientHeldAt c does knows judged signature p new (items ++ history)
  pub went : WentBy (λ (book : HostVerdicts S). trusting_book knows judged book p) (λ (book : HostVerdicts S). book.list.items) Client history
      (buffered_of old.machine) old.role.exchange.host_trust.list.items bytes items (buffered_of new.machine)
      new.role.exchange.host_trust.list.items
  pub says : SaysWhether completed items is_complete
  pub by_verdict : TrustsEachByVerdict (trusting_book knows judged new.role.exchange.host_trust p)
      (knows new.role.exchange.host_trust.signatures) new.role.exchange.host_trust.list.items (items ++ history)

-- Where bytes took a client from a place at which it stood. If it failed, it stands at a later place.
abbrev pub MeetsBy : {P U S X F A K : Type 0} → Crypto K → (does : A → Agreement) → (knows : S → List ℕ → Bool) →
    (judged : S → Trusts) → (signature : U → UserSignatures) →
    Parties K → List Item → EndValue K (ClientRole P U X F A (HostVerdicts S) K) F → (bytes : List ℕ) → Result Met Fault →
    EndValue K (ClientRole P U X F A (HostVerdicts S) K) F → Type 0
MeetsBy c does knows judged signature p history old bytes (Ok met) new =
    MetBy c does knows judged signature p history old (take met.used bytes) met.is_complete new
MeetsBy c does knows judged signature p history old bytes (Err why) new = WentOn (ClientHeldAt c does knows judged signature p new) history
