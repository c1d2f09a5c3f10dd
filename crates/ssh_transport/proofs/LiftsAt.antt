-- The law of a role, one message at a time.
use Rattle.std.proofs.Common.{◌≡◌, false, List, refl, true, sym, subst}
use Rattle.std.specs.Global.{Box}
use Rattle.ssh_kex.specs.declared.owned_choice.OwnedChoice.{OwnedChoice}
use Rattle.ssh_model.specs.declared.side.Side.{Side}
use Rattle.ssh_model.specs.Protocol.KeyExchange.Choice.{Chosen}
use Rattle.ssh_model.specs.Protocol.Sessions.Items.{Item}
use Rattle.ssh_model.specs.Protocol.Sessions.Parties.{Parties}
use Rattle.ssh_model.specs.Protocol.Wire.Sealing.{Crypto, IsSealing}
use Rattle.ssh_model.specs.State.TransportLayer.Kept.{Transport, after_taken}
use Rattle.ssh_model.specs.State.TransportLayer.Summary.{SumsUp}
use Rattle.ssh_transport_machine.specs.Classifying.{PayloadIs}
use Rattle.ssh_transport_machine.specs.Puts.{Outs}
use Rattle.ssh_transport.specs.Shown.{classified_by}
use Rattle.ssh_transport.specs.Standing.{IsStanding, Stands}
use Rattle.ssh_transport_machine.specs.State.{State, before_taken}
use Rattle.ssh_transport.specs.declared.outcome.TransportTurn.{TransportTurn}
use Rattle.ssh_transport.specs.declared.outcome.TransportTurn.TheVariants as outcome
use Rattle.ssh_transport.specs.Roles.{AreForAll, IsCompleted, IsOwnShown, KeepsUser, Leaves, Lifts, OwnTurn, OwnWould, Still}
use Rattle.ssh_model.specs.declared.refusal.Refusal.TheVariants.{NumberSpent}
use Rattle.ssh_transport_machine.specs.declared.machine.classifying.Classified.TheVariants as classified
use Rattle.ssh_transport_machine.specs.declared.machine.kexinit.KexinitFacts.{KexinitFacts}
use Rattle.ssh_transport_machine.specs.declared.machine.sending.SendOutcome.{SendOutcome}
use Rattle.ssh_transport_machine.specs.declared.machine.sending.SendOutcome.TheVariants as answered
use Rattle.ssh_transport.specs.Outcomes.{IsAnswered, answer_outcome}
use Rattle.ssh_transport.specs.declared.outcome.Handled.TheVariants as handled
use Rattle.ssh_transport.proofs.Exchanging.{over, still_by, user_by}
use Rattle.ssh_transport.proofs.Becoming.{Became, became_due, became_leaves, became_shown, became_stands, became_users}
use Rattle.ssh_transport.specs.Own.{Own}

-- ---- what is answered to a KEXINIT

-- What is shown and the user stay as they were.
pub record KeptSo {K : Type 0} (old new : State K) : Type 0 where
  pub still : Still old new
  pub user : KeepsUser old.kept new.kept

-- that, where the answer was sent, and else the end is over
abbrev pub KeptOrOver : {K : Type 0} → State K → SendOutcome → State K → Type 0
KeptOrOver old answered.Done new = KeptSo old new
KeptOrOver old answered.Spent new = new.kept.dead ≡ true

pub kept_by : {K : Type 0} (old new : State K) (k : Transport K) → new ≡ record old { kept = k } → k.lines ≡ old.kept.lines → KeepsUser old.kept k → KeptSo old new
kept_by old new k e lines user = record { still = still_by old new k e lines; user = user_by old new k e user }

no_answer : (answer : SendOutcome) (choice : Box OwnedChoice) → outcome.Completed choice ≡ answer_outcome answer handled.Kexinit → ⊥
no_answer answered.Done choice e = cc e
no_answer answered.Spent choice e = cc e

module _ {K : Type 0} (old new : State K) where
  answer_shown : (o : Outs) (answer : SendOutcome) → IsOwnShown old (answer_outcome answer handled.Kexinit) new o
  answer_shown o answered.Done = tt
  answer_shown o answered.Spent = tt

  answer_leaves : (answer : SendOutcome) (given : TransportTurn) → given ≡ answer_outcome answer handled.Kexinit → KeptOrOver old answer new → Leaves old given new
  answer_leaves answered.Done given e x = Leaves.stays x.still
  answer_leaves answered.Spent given e x = Leaves.over NumberSpent e x

  answer_users : (answer : SendOutcome) → KeptOrOver old answer new → new.kept.dead ≡ false → KeepsUser old.kept new.kept
  answer_users answered.Done x alive = x.user
  answer_users answered.Spent x alive = over new.kept.dead x alive

-- ---- the law at each message

module _ {K R : Type 0} (side : Side) (is_of : R → Parties K → Type 0) where
  -- What `Lifts` says, where the message is this one.
  pub record LiftsAt (message : Own) (does : R → State K → TransportTurn → State K → Outs → Type 0) (needs_memory : R → State K → Type 0) : Type 0 where
    pub taken : (p : Parties K) (history : List Item) (s : Transport K) (role : R) → is_of role p → SumsUp p side history s → s.dead ≡ false → (old new : State K) (o : Outs) → old.kept ≡ after_taken s → PayloadIs s old.receiver.payload (classified_by message) →
        (given : TransportTurn) → does role old given new o → OwnTurn p side history s old.receiver.payload given new.kept o
    pub died : (p : Parties K) (history : List Item) (s : Transport K) (role : R) → is_of role p → SumsUp p side history s → s.dead ≡ false → (old : State K) → old.kept ≡ after_taken s → PayloadIs s old.receiver.payload (classified_by message) →
        needs_memory role old → OwnWould p side s old.receiver.payload
    pub stands : (role : R) (old new : State K) (o : Outs) → IsStanding side old → PayloadIs (before_taken old.kept) old.receiver.payload (classified_by message) → (given : TransportTurn) → does role old given new o → Stands side new
    pub shown : (role : R) (old new : State K) (o : Outs) (given : TransportTurn) → does role old given new o → IsOwnShown old given new o
    pub due : (role : R) (old new : State K) (o : Outs) (choice : Box OwnedChoice) → does role old (outcome.Completed choice) new o → needs_memory role old
    pub leaves : (role : R) (old new : State K) (o : Outs) (given : TransportTurn) → does role old given new o → Leaves old given new
    pub users : (role : R) (old new : State K) (o : Outs) (given : TransportTurn) → does role old given new o → new.kept.dead ≡ false → KeepsUser old.kept new.kept

  -- The law holds where it holds at each message.
  pub lifts_each : (c : Crypto K) (does : R → State K → Own → TransportTurn → State K → Outs → Type 0) (needs_memory : R → State K → Own → Type 0) →
      (IsSealing c → (role : R) → AreForAll is_of role) → ((role : R) (p : Parties K) → is_of role p → p.crypto ≡ c) →
      ((message : Own) → LiftsAt message (λ role old given new o. does role old message given new o) (λ role old. needs_memory role old message)) → Lifts side c is_of does needs_memory
  lifts_each c does needs_memory exists crypto at = record {
    exists = exists;
    crypto = crypto;
    taken = λ p history s role fits sums alive old new o kept message is given x. (at message).taken p history s role fits sums alive old new o kept is given x;
    died = λ p history s role fits sums alive old kept message is x. (at message).died p history s role fits sums alive old kept is x;
    stands = λ role old new o stands message is given x. (at message).stands role old new o stands is given x;
    shown = λ role old new o message given x. (at message).shown role old new o given x;
    due = λ role old new o message choice x. (at message).due role old new o choice x;
    leaves = λ role old new o message given x. (at message).leaves role old new o given x;
    users = λ role old new o message given x. (at message).users role old new o given x;
  }

  -- at a message with which the role has nothing to do
  pub lifts_nothing : (message : Own) → LiftsAt message (λ role old given new o. ⊥) (λ role old. ⊥)
  lifts_nothing message = record {
    taken = λ p history s role fits sums alive old new o kept is given x. absurd x;
    died = λ p history s role fits sums alive old kept is x. absurd x;
    stands = λ role old new o stands is given x. absurd x;
    shown = λ role old new o given x. absurd x;
    due = λ role old new o choice x. absurd x;
    leaves = λ role old new o given x. absurd x;
    users = λ role old new o given x. absurd x;
  }

  -- at the message that ends the exchange: by what becomes of it, and what holds where the exchange is completed
  pub lifts_ending : (message : Own) (does : R → State K → TransportTurn → State K → Outs → Type 0) (needs_memory : R → State K → Type 0) (completes : R → State K → Chosen → State K → Outs → Type 0) →
      ((p : Parties K) (history : List Item) (s : Transport K) (role : R) → is_of role p → SumsUp p side history s → s.dead ≡ false → (old new : State K) (o : Outs) → old.kept ≡ after_taken s → PayloadIs s old.receiver.payload (classified_by message) →
      (given : TransportTurn) → does role old given new o → OwnTurn p side history s old.receiver.payload given new.kept o) →
      ((p : Parties K) (history : List Item) (s : Transport K) (role : R) → is_of role p → SumsUp p side history s → s.dead ≡ false → (old : State K) → old.kept ≡ after_taken s → PayloadIs s old.receiver.payload (classified_by message) →
      needs_memory role old → OwnWould p side s old.receiver.payload) →
      ((role : R) (old new : State K) (o : Outs) (given : TransportTurn) → does role old given new o → Became (λ chosen. completes role old chosen new o) given new) →
      ((role : R) (old new : State K) (o : Outs) → IsStanding side old → PayloadIs (before_taken old.kept) old.receiver.payload (classified_by message) → (chosen : Chosen) → completes role old chosen new o → IsStanding side new) →
      ((role : R) (old new : State K) (o : Outs) (chosen : Chosen) → completes role old chosen new o → old.kept.dead ≡ false → IsCompleted old new o) →
      ((role : R) (old new : State K) (o : Outs) (chosen : Chosen) → completes role old chosen new o → needs_memory role old) →
      ((role : R) (old new : State K) (o : Outs) (chosen : Chosen) → completes role old chosen new o → Still old new) →
      ((role : R) (old new : State K) (o : Outs) (chosen : Chosen) → completes role old chosen new o → KeepsUser old.kept new.kept) → LiftsAt message does needs_memory
  lifts_ending message does needs_memory completes taken died became stands completed due still users = record {
    taken = taken;
    died = died;
    stands = λ role old new o standing is given x. became_stands _ old new given (became role old new o given x) side (stands role old new o standing is);
    shown = λ role old new o given x. became_shown _ old new given (became role old new o given x) o (completed role old new o);
    due = λ role old new o choice x. became_due _ old new _ (became role old new o _ x) choice refl (due role old new o);
    leaves = λ role old new o given x. became_leaves _ old new given (became role old new o given x) (still role old new o);
    users = λ role old new o given x alive. became_users _ old new given (became role old new o given x) alive (users role old new o);
  }

  -- at a KEXINIT that nothing refuses: by what is done with it, and what holds then
  pub lifts_answering : (facts : KexinitFacts) (done : R → State K → SendOutcome → State K → Outs → Type 0) (needs_memory : R → State K → Type 0) →
      ((p : Parties K) (history : List Item) (s : Transport K) (role : R) → is_of role p → SumsUp p side history s → s.dead ≡ false → (old new : State K) (o : Outs) → old.kept ≡ after_taken s → PayloadIs s old.receiver.payload (classified.Kexinit facts) →
      (given : TransportTurn) → IsAnswered handled.Kexinit (done role old) given new o → OwnTurn p side history s old.receiver.payload given new.kept o) →
      ((p : Parties K) (history : List Item) (s : Transport K) (role : R) → is_of role p → SumsUp p side history s → s.dead ≡ false → (old : State K) → old.kept ≡ after_taken s → PayloadIs s old.receiver.payload (classified.Kexinit facts) →
      needs_memory role old → OwnWould p side s old.receiver.payload) →
      ((role : R) (old new : State K) (o : Outs) → IsStanding side old → PayloadIs (before_taken old.kept) old.receiver.payload (classified.Kexinit facts) → (answer : SendOutcome) → done role old answer new o → Stands side new) →
      ((role : R) (old new : State K) (o : Outs) (answer : SendOutcome) → done role old answer new o → KeptOrOver old answer new) → LiftsAt (Own.Kexinit facts) (λ role old given new o. IsAnswered handled.Kexinit (done role old) given new o) needs_memory
  lifts_answering facts done needs_memory taken died stands kept = record {
    taken = taken;
    died = died;
    stands = λ role old new o standing is given x. stands role old new o standing is x.answer x.does;
    shown = λ role old new o given x. subst (λ (t : TransportTurn). IsOwnShown old t new o) (sym x.given_is) (answer_shown old new o x.answer);
    due = λ role old new o choice x. absurd (no_answer x.answer choice x.given_is);
    leaves = λ role old new o given x. answer_leaves old new x.answer given x.given_is (kept role old new o x.answer x.does);
    users = λ role old new o given x alive. answer_users old new x.answer (kept role old new o x.answer x.does) alive;
  }
