-- A client goes on from one place to the next.
use Rattle.std.proofs.Common.{◌≡◌, ℕ, Bool, false, true, List, [], ◌∷◌, ◌++◌, Result, take, ap, refl, sym, subst, ◌∙◌}
use Rattle.ssh_model.specs.Laws.Supplied.{AgreeOnAnswered, supplied_of}
use Rattle.ssh_model.specs.Protocol.Sessions.Items as session
use Rattle.ssh_model.specs.Protocol.Sessions.Items.{Item, Item.Died, has_died}
use Rattle.ssh_model.specs.Protocol.Sessions.Parties.{Agreement, Parties}
use Rattle.ssh_model.specs.Protocol.Sessions.Turns.{EndRun}
use Rattle.ssh_model.specs.Protocol.Wire.Sealing.{Crypto}
use Rattle.ssh_model.specs.State.End.State.{EndState}
use Rattle.ssh_model.specs.declared.side.Side.TheVariants.{Client}
use Rattle.ssh_transport_machine.specs.Puts.{Outs}
use Rattle.ssh_transport_machine.specs.Replies.{Trusts}
use Rattle.ssh_transport_machine.specs.State.{State, buffered_of}
use Rattle.ssh_end_machine.specs.Asking.{UserSignatures}
use Rattle.ssh_end_machine.specs.Ends.{EndValue}
use Rattle.ssh_end_machine.specs.Layers.{Layers}
use Rattle.ssh_end_machine.specs.Parts.{ClientRole, IsClient}
use Rattle.ssh_end_machine.specs.Places.{AskedTo, FedTo, StandsAfter, TookUnit, TurnedTo, added, fed_items}
use Rattle.ssh_end_machine.specs.Sessions.{AreOf, end_of}
use Rattle.ssh_end_machine.specs.Stands.{state_of}
use Rattle.ssh_end_machine.specs.Supplying.{ClientStandsAt}
use Rattle.ssh_end_machine.specs.declared.asking.outcome.AskStep.{AskStep}
use Rattle.ssh_end_machine.specs.declared.asking.outcome.Fault.{Fault}
use Rattle.ssh_end_machine.specs.declared.asking.outcome.Fault.TheVariants as fault
use Rattle.ssh_end_machine.specs.declared.step.Step.{Step}
use Rattle.ssh_end_machine.specs.declared.step.Step.TheVariants as step
use Rattle.ssh_held.specs.HeldHosts.{ClientHeldAt, trusting_book, trusts_of_book}
use Rattle.ssh_held.specs.Hosts.{trust_by, trusting}
use Rattle.ssh_held.specs.Places.{AskedOn, FedOn, TurnedOn, TurnedOn.turns, TurnedOn.waits, WentOn}
use Rattle.ssh_held.specs.declared.host_book.HostVerdict.{HostVerdict}
use Rattle.ssh_held.specs.declared.host_book.HostVerdicts.{HostVerdicts}
use Rattle.ssh_held.proofs.Going.{FailedTo}

module _ {K : Type 0} (q : Parties K) (parts layers : Type 0) (history : List Item) (bytes : List ℕ) (At : List Item → Type 0) (new : State K)
    (e : EndState K) (o : Outs) (stands : (items : List Item) → StandsAfter q Client parts layers items new e → At items) where
  by_unit : (done : Step) → TookUnit q Client parts layers history bytes done new e o → TurnedOn At q Client history bytes done new e o
  by_unit done x = turns x.turned x.buffered (stands (x.turned.items ++ history) x.place)

  goes : (done : Step) → TurnedTo q Client parts layers history bytes done new e o → TurnedOn At q Client history bytes done new e o
  goes step.More x = waits refl x.waits x.quiet x.buffered (stands history x.place)
  goes step.OtherLine x = by_unit step.OtherLine x
  goes step.VersionLine x = by_unit step.VersionLine x
  goes step.Skipped x = by_unit step.Skipped x
  goes (step.Took took) x = by_unit (step.Took took) x
  goes (step.Refused why) x = by_unit (step.Refused why) x

module _ {P U S X F A K : Type 0} (c : Crypto K) (does : A → Agreement) (knows : S → List ℕ → Bool) (judged : S → Trusts) (signature : U → UserSignatures) (p : Parties K)
    (history : List Item) where
  -- the parts of a client with this role, as those of these parties
  abbrev Parts : Parties K → ClientRole P U X F A (HostVerdicts S) K → Type 0
  Parts q r = IsClient q c (does r.exchange.agreement) (trusts_of_book knows judged r.exchange.host_trust) (signature r.own.signer)

  -- where a client stands that kept its role
  held_by : (old new : EndValue K (ClientRole P U X F A (HostVerdicts S) K) F) → new.role ≡ old.role → (items : List Item) →
      StandsAfter (trusting_book knows judged old.role.exchange.host_trust p) Client
      (Parts (trusting_book knows judged old.role.exchange.host_trust p) new.role)
      (AreOf (trusting_book knows judged old.role.exchange.host_trust p) new.layers) items new.machine (end_of new.machine.kept new.layers) →
      ClientHeldAt c does knows judged signature p new items
  held_by old new same items place =
      let q = trusting_book knows judged old.role.exchange.host_trust p in
      subst (λ (r : ClientRole P U X F A (HostVerdicts S) K). ClientHeldAt c does knows judged signature p (record new { role = r }) items) (sym same)
      (subst (λ (r : ClientRole P U X F A (HostVerdicts S) K). StandsAfter q Client (Parts q r) (AreOf q new.layers) items new.machine
      (end_of new.machine.kept new.layers)) same place)

  pub host_went_on : (old new : EndValue K (ClientRole P U X F A (HostVerdicts S) K) F) (bytes : List ℕ) (used : ℕ) → new.role ≡ old.role →
      (o : Outs) → TurnedTo (trusting_book knows judged old.role.exchange.host_trust p) Client
      (Parts (trusting_book knows judged old.role.exchange.host_trust p) new.role)
      (AreOf (trusting_book knows judged old.role.exchange.host_trust p) new.layers) history (buffered_of old.machine ++ take used bytes) new.step
      new.machine (state_of new) o → TurnedOn (ClientHeldAt c does knows judged signature p new) (trusting_book knows judged old.role.exchange.host_trust p)
      Client history (buffered_of old.machine ++ take used bytes) new.step new.machine (state_of new) o
  host_went_on old new bytes used same o x =
      let q = trusting_book knows judged old.role.exchange.host_trust p in
      goes q (Parts q new.role) (AreOf q new.layers) history (buffered_of old.machine ++ take used bytes) (ClientHeldAt c does knows judged signature p new)
      new.machine (state_of new) o (held_by old new same) new.step x

  -- where memory was refused, or it was over before
  pub host_failed : (old new : EndValue K (ClientRole P U X F A (HostVerdicts S) K) F) (bytes : List ℕ) → new.role ≡ old.role →
      (why : Fault) → FailedTo (trusting_book knows judged old.role.exchange.host_trust p) Client
      (Parts (trusting_book knows judged old.role.exchange.host_trust p)) history old bytes why new →
      WentOn (ClientHeldAt c does knows judged signature p new) history
  host_failed old new bytes same fault.Memory x =
      record { items = Died ∷ []; place = held_by old new same (Died ∷ history) x.needs_memory.place }
  host_failed old new bytes same fault.Dead x = record { items = []; place = held_by old new same history x }
  host_failed old new bytes same (fault.Ask why) x = absurd x

  pub host_asked_on : (old new : EndValue K (ClientRole P U X F A (HostVerdicts S) K) F) → new.role ≡ old.role → (asked : session.Ask)
      (given : Result AskStep Fault) (o : Outs) → AskedTo (trusting_book knows judged old.role.exchange.host_trust p) Client
      (Parts (trusting_book knows judged old.role.exchange.host_trust p) new.role)
      (AreOf (trusting_book knows judged old.role.exchange.host_trust p) new.layers) history (state_of old) asked given new.machine (state_of new) o →
      AskedOn (ClientHeldAt c does knows judged signature p new) (trusting_book knows judged old.role.exchange.host_trust p) Client history (state_of old)
      asked given (state_of new) o
  host_asked_on old new same asked given o x =
      let q = trusting_book knows judged old.role.exchange.host_trust p in
      record {
        done = x.done;
        place = held_by old new same (added q Client history (state_of old) asked given (state_of new) o x.done ++ history) x.place;
      }

  pub host_fed_on : (old new : EndValue K (ClientRole P U X F A (HostVerdicts S) K) F) → new.role ≡ old.role → (cookie secret : List ℕ)
      (answer : Bool) → FedTo (trusting_book knows judged old.role.exchange.host_trust p) Client
      (Parts (trusting_book knows judged old.role.exchange.host_trust p) new.role)
      (AreOf (trusting_book knows judged old.role.exchange.host_trust p) new.layers) history cookie secret answer new.machine (state_of new) →
      FedOn (ClientHeldAt c does knows judged signature p new) Client history cookie secret answer
  host_fed_on old new same cookie secret answer x = record {
    turn = x.turn;
    place = held_by old new same (fed_items cookie secret answer ++ history) x.place;
  }

  -- ---- what the program says

  pub host_given : ((q : Parties K) (agreement : Agreement) (one other : Trusts) (signing : UserSignatures) (h : List Item) (machine : State K)
      (layers : Layers) → ClientStandsAt q c agreement one signing h machine layers → machine.kept.dead ≡ false →
      AgreeOnAnswered q (record (supplied_of q) { trusts = other }) h →
      ClientStandsAt (record q { trusts = other }) c agreement other signing h machine layers) →
      ((q : Parties K) (other : Trusts) → ((algorithm key hash mark : List ℕ) → q.trusts algorithm key hash mark ≡ true →
      other algorithm key hash mark ≡ true) → EndRun q Client history → has_died history ≡ false →
      AgreeOnAnswered q (record (supplied_of q) { trusts = other }) history) →
      ((known : List ℕ → Bool) (marks : Trusts) (one more : List HostVerdict) (algorithm key hash mark : List ℕ) →
      trust_by known marks one algorithm key hash mark ≡ true → trust_by known marks (one ++ more) algorithm key hash mark ≡ true) →
      (client : EndValue K (ClientRole P U X F A (HostVerdicts S) K) F) (book : HostVerdicts S) (more : List HostVerdict) →
      client.machine.kept.dead ≡ false → book.signatures ≡ client.role.exchange.host_trust.signatures →
      book.list.items ≡ client.role.exchange.host_trust.list.items ++ more → ClientHeldAt c does knows judged signature p client history →
      ClientHeldAt c does knows judged signature p
      (record client { role = record client.role { exchange = record client.role.exchange { host_trust = book } } }) history
  host_given law wider more_trusted client book more alive same added at =
      let old = client.role.exchange.host_trust in
      let q = trusting_book knows judged old p in
      let other = trust_by (knows old.signatures) (judged old.signatures) (old.list.items ++ more) in
      let agree = wider q other (more_trusted (knows old.signatures) (judged old.signatures) old.list.items more) at.run (sym at.sums.transport.dead_is ∙ alive) in
      let place = law q (does client.role.exchange.agreement) (trusts_of_book knows judged old) other (signature client.role.own.signer) history
      client.machine client.layers at alive agree in
      subst (λ (t : Trusts). ClientStandsAt (trusting t p) c (does client.role.exchange.agreement) t (signature client.role.own.signer) history
      client.machine client.layers)
      (ap (λ (s : S). trust_by (knows s) (judged s) (old.list.items ++ more)) (sym same)
      ∙ ap (λ (l : List HostVerdict). trust_by (knows book.signatures) (judged book.signatures) l) (sym added)) place
