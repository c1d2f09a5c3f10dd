-- What is left to be done with an answer of the transport.
use Rattle.std.proofs.Common.{◌≡◌, ℕ, false, List, [], ◌∷◌, ◌++◌, append-nil, refl, ap, sym, ◌∙◌, true}
use Rattle.std.specs.Global.{Box}
use Rattle.ssh_kex.specs.declared.owned_choice.OwnedChoice.{OwnedChoice}
use Rattle.ssh_transport_machine.specs.Puts.{Outs}
use Rattle.ssh_transport_machine.specs.State.{State}
use Rattle.ssh_transport.specs.declared.outcome.TransportTurn.{TransportTurn}
use Rattle.ssh_transport.specs.declared.outcome.TransportTurn.TheVariants as outcome
use Rattle.ssh_transport.specs.Roles as transport
use Rattle.ssh_transport.specs.declared.outcome.Handled.TheVariants as effect
use Rattle.ssh_end_machine.specs.Outcomes.{IsReady, is_whole}
use Rattle.ssh_end_machine.specs.Owed.{Extends}

-- What the transport says of both: a payload that was left, and an exchange that was completed.
module _ {K : Type 0} (old m : State K) (o : Outs) (Took : TransportTurn → Type 0)
    (up : (number : ℕ) → Took (outcome.Up number) → transport.IsUp m o) (completed : (choice : Box OwnedChoice) → Took (outcome.Completed choice) → transport.IsCompleted old m o)
    (granted : Took (outcome.Done effect.ServiceAccepted) → m.kept.dead ≡ false → m.kept.accepted ≡ true) where
  pub ready : (given : TransportTurn) → Took given → IsReady m given
  ready (outcome.Up number) x = let y = up number x in record { above = y.above; alive = y.alive; let_in = y.let_in }
  ready (outcome.Completed choice) x = let y = completed choice x in record { alive = y.alive; free = y.free }
  ready outcome.More x = tt
  ready (outcome.Done effect.ServiceAccepted) x = granted x
  ready (outcome.Done effect.OtherLine) x = tt
  ready (outcome.Done effect.VersionLine) x = tt
  ready (outcome.Done effect.Skipped) x = tt
  ready (outcome.Done effect.Disconnected) x = tt
  ready (outcome.Done effect.Told) x = tt
  ready (outcome.Done effect.Unknown) x = tt
  ready (outcome.Done effect.ServiceRequested) x = tt
  ready (outcome.Done effect.Kexinit) x = tt
  ready (outcome.Done effect.NewKeys) x = tt
  ready (outcome.Refused why) x = tt

  pub out_extends : (given : TransportTurn) → Took given → is_whole given ≡ false → Extends o.before o.after
  out_extends (outcome.Up number) x e = record { more = []; parts = (up number x).quiet.out ∙ sym (append-nil o.before) }
  out_extends (outcome.Completed choice) x e = let y = (completed choice x).out in record { more = y.0; parts = y.1 }
  out_extends outcome.More x e = absurd (cc e)
  out_extends (outcome.Done done) x e = absurd (cc e)
  out_extends (outcome.Refused why) x e = absurd (cc e)

append_assoc : {A : Type 0} (a b c : List A) → (a ++ b) ++ c ≡ a ++ (b ++ c)
append_assoc [] b c = refl
append_assoc (x ∷ a) b c = ap (λ t. x ∷ t) (append_assoc a b c)

pub extends_both : {A : Type 0} (a b c : List A) → Extends a b → Extends b c → Extends a c
extends_both a b c x y = record { more = x.more ++ y.more; parts = y.parts ∙ (ap (λ t. t ++ y.more) x.parts ∙ append_assoc a x.more y.more) }
