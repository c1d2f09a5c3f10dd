-- What becomes of the message that ends an exchange, whichever role took it.
use Rattle.std.proofs.Common.{◌≡◌, ℕ, ◌+◌, ◌≤◌, ◌++◌, false, true, Option, List, refl, ap, sym, ◌∙◌, subst}
use Rattle.std.specs.Global.{Box}
use Rattle.ssh_model.specs.declared.side.Side.{Side}
use Rattle.ssh_model.specs.declared.refusal.Refusal.{Refusal}
use Rattle.ssh_model.specs.Protocol.KeyExchange.Choice.{Chosen}
use Rattle.ssh_model.specs.State.TransportLayer.Kept.{Transport}
use Rattle.ssh_kex.specs.Values.{owned_chosen}
use Rattle.ssh_kex.specs.declared.owned_choice.OwnedChoice.{OwnedChoice}
use Rattle.ssh_transport_machine.specs.Finishing.{after_announced, forgotten, keyed}
use Rattle.ssh_transport_machine.specs.Puts.{Outs}
use Rattle.ssh_transport.specs.Standing.{IsStanding, Stands}
use Rattle.ssh_transport_machine.specs.State.{State}
use Rattle.ssh_transport.specs.declared.outcome.TransportTurn.{TransportTurn}
use Rattle.ssh_transport.specs.declared.outcome.TransportTurn.TheVariants as outcome
use Rattle.ssh_transport.specs.Roles as roles
use Rattle.ssh_transport.specs.Roles.{IsCompleted, IsOwnShown, KeepsUser, Leaves, Still}
use Rattle.ssh_transport.proofs.Exchanging.{alive_after, epoch_after, few_after, free_after, over}

-- The peer was refused and the end is over, or the exchange of these algorithms is completed.
pub data Became {K : Type 0} (Completes : Chosen → Type 0) (given : TransportTurn) (new : State K) : Type 0 where
  refused : (why : Refusal) → given ≡ outcome.Refused why → new.kept.dead ≡ true → Became Completes given new
  completed : (choice : Box OwnedChoice) → given ≡ outcome.Completed choice → Completes (owned_chosen choice.value) → Became Completes given new

-- What is kept once NEWKEYS was sent, and what is announced after it.
abbrev pub IsKeyed : {K : Type 0} → (old new : State K) → (before : Transport K) → (own theirs : K) → (session : List ℕ) → Option (List ℕ) → Type 0
IsKeyed old new before own theirs session announcement = new ≡ record old { kept = after_announced announcement (forgotten (keyed own theirs session before)) }

-- The exchange is completed then.
pub completed_by : {K : Type 0} (old new : State K) (before : Transport K) (own theirs : K) (session : List ℕ) (announcement : Option (List ℕ)) (o : Outs) → IsKeyed old new before own theirs session announcement →
    before.dead ≡ false → before.sending.epoch ≡ old.kept.sending.epoch → ((more : List ℕ) × (o.after ≡ o.before ++ more)) → ((more : List (List ℕ)) × (o.payloads_after ≡ o.payloads_before ++ more)) → IsCompleted old new o
completed_by {K = K} old new before own theirs session announcement o after alive epoch out lists = record {
  alive = ap (λ (w : State K). w.kept.dead) after ∙ alive_after announcement _ alive;
  free = ap (λ (w : State K). w.kept.blocked) after ∙ free_after announcement _ refl;
  epoch = ap (λ (w : State K). w.kept.sending.epoch) after ∙ epoch_after announcement _ (old.kept.sending.epoch + 1) (ap (λ (n : ℕ). n + 1) epoch);
  few = subst (λ (w : State K). w.kept.sending.count ≤ 1) (sym after) (few_after announcement _ refl);
  out = out;
  lists = lists;
}

module _ {K : Type 0} (Completes : Chosen → Type 0) (old new : State K) (given : TransportTurn) (became : Became Completes given new) where
  pub became_shown : (o : Outs) → ((chosen : Chosen) → Completes chosen → old.kept.dead ≡ false → IsCompleted old new o) → IsOwnShown old given new o
  became_shown o by = go became
    where
      go : Became Completes given new → IsOwnShown old given new o
      go (Became.refused why e dead) = subst (λ (t : TransportTurn). IsOwnShown old t new o) (sym e) tt
      go (Became.completed choice e x) = subst (λ (t : TransportTurn). IsOwnShown old t new o) (sym e) (by (owned_chosen choice.value) x)

  pub became_leaves : ((chosen : Chosen) → Completes chosen → Still old new) → Leaves old given new
  became_leaves by = go became
    where
      go : Became Completes given new → Leaves old given new
      go (Became.refused why e dead) = roles.Leaves.over why e dead
      go (Became.completed choice e x) = roles.Leaves.stays (by (owned_chosen choice.value) x)

  pub became_users : new.kept.dead ≡ false → ((chosen : Chosen) → Completes chosen → KeepsUser old.kept new.kept) → KeepsUser old.kept new.kept
  became_users alive by = go became
    where
      go : Became Completes given new → KeepsUser old.kept new.kept
      go (Became.refused why e dead) = over new.kept.dead dead alive
      go (Became.completed choice e x) = by (owned_chosen choice.value) x

  pub became_stands : (side : Side) → ((chosen : Chosen) → Completes chosen → IsStanding side new) → Stands side new
  became_stands side by = go became
    where
      go : Became Completes given new → Stands side new
      go (Became.refused why e dead) = λ lives. over new.kept.dead dead lives
      go (Became.completed choice e x) = λ lives. by (owned_chosen choice.value) x

  -- memory might have been refused where it is completed
  pub became_due : {NeedsMemory : Type 0} (choice : Box OwnedChoice) → given ≡ outcome.Completed choice → ((chosen : Chosen) → Completes chosen → NeedsMemory) → NeedsMemory
  became_due {NeedsMemory = NeedsMemory} choice is by = go became
    where
      go : Became Completes given new → NeedsMemory
      go (Became.refused why e dead) = absurd (cc (sym is ∙ e))
      go (Became.completed one e x) = by (owned_chosen one.value) x
