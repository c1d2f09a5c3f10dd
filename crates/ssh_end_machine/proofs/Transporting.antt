-- What a transport makes of a unit alone is what an end of a session makes of it.
use Rattle.std.proofs.Common.{◌≡◌, ℕ, true, false, List, [], ◌∷◌, ◌++◌, refl, ap, sym, ◌∙◌, subst, Some, None}
use Rattle.ssh_model.specs.declared.side.Side.{Side}
use Rattle.ssh_model.specs.Protocol.Wire.Message.{Msg, Msg.ServiceAccept, Msg.ServiceRequest, Msg.Unimplemented, Msg.Unknown, IsPayload}
use Rattle.ssh_model.specs.State.End.Below.{AreBelow, opened_by_all}
use Rattle.ssh_model.specs.State.End.State.{Authentication, Authentication.OfClient, Authentication.OfServer, EndState}
use Rattle.ssh_model.specs.State.End.Summary.{EndTurned}
use Rattle.ssh_model.specs.Protocol.Sessions.Items.{Fact, Item, Item.Sent, Item.Took, Encoded, Encoded.EncodedBy, messages_sent}
use Rattle.ssh_model.specs.Protocol.Sessions.Parties.{Parties}
use Rattle.ssh_model.specs.Protocol.Sessions.Turns.{OnUnit}
use Rattle.ssh_model.specs.State.TransportLayer.Kept.{Transport}
use Rattle.ssh_model.specs.State.TransportLayer.Turns.{Turned, refusal_items}
use Rattle.ssh_transport_machine.specs.Puts.{Outs, payloads_of}
use Rattle.ssh_transport.specs.Shown as shown
use Rattle.ssh_transport.specs.Shown.{IsTold}
use Rattle.ssh_transport.specs.declared.outcome.Handled.TheVariants as effect
use Rattle.ssh_transport.specs.declared.outcome.TransportTurn.{TransportTurn}
use Rattle.ssh_transport.specs.declared.outcome.TransportTurn.TheVariants as outcome
use Rattle.ssh_model.specs.declared.refusal.Refusal as code
use Rattle.ssh_end_machine.specs.Outcomes.{opened_where, step_given}
use Rattle.ssh_end_machine.specs.Steps as steps
use Rattle.ssh_end_machine.specs.Steps.{SendsOn, Shows, UnitTurned}
use Rattle.ssh_end_machine.specs.declared.step.Step.TheVariants as step
use Rattle.ssh_end_machine.specs.declared.step.EventKind.TheVariants as event_kind
use Rattle.ssh_end_machine.proofs.Finishing.{refusal_sends}
use Rattle.ssh_end_machine.proofs.SendingOn.{refusal_on}

-- ---- SERVICE_ACCEPT

requested : (a : Authentication) (service reply : List ℕ) → opened_by_all (Sent None (ServiceAccept service) reply ∷ []) a ≡ opened_where (outcome.Done effect.ServiceRequested) a
requested (OfServer server) service reply = refl
requested (OfClient client) service reply = refl

accepted : (a : Authentication) (service payload : List ℕ) → opened_by_all (Took None (ServiceAccept service) payload ∷ []) a ≡ opened_where (outcome.Done effect.ServiceAccepted) a
accepted (OfServer server) service payload = refl
accepted (OfClient client) service payload = refl

-- ---- the turn

module _ {K : Type 0} (p : Parties K) (side : Side) (history : List Item) (e : EndState K) (unit payload : List ℕ)
    (live_turn : (items : List Item) (more : List ℕ) (new : Transport K) → AreBelow items → Turned p side history payload items more new →
    EndTurned p side history (OnUnit p side history unit) items more (record e { transport = new; authentication = opened_by_all items e.authentication }))
    (over_turn : (items : List Item) (more : List ℕ) (new : EndState K) → Turned p side history payload items more new.transport → new.transport.dead ≡ true → EndTurned p side history (OnUnit p side history unit) items more new) where
  -- what is kept after an answer
  abbrev kept_after : TransportTurn → Transport K → EndState K
  kept_after given new = record { transport = new; authentication = opened_where given e.authentication; channels = e.channels }

  module _ (items : List Item) (more : List ℕ) (new : Transport K) (turned : Turned p side history payload items more new) (o : Outs) (said : List Encoded) (parts : o.after ≡ o.before ++ more) (lists : o.payloads_after ≡ o.payloads_before ++ payloads_of said) where
    made : (given : TransportTurn) → Shows payload (step_given given) items → SendsOn p side history items (step_given given) → messages_sent items ≡ said → EndTurned p side history (OnUnit p side history unit) items more (kept_after given new) →
        UnitTurned p side history unit payload (step_given given) (kept_after given new) o
    made given shows on sent x = record {
      items = items;
      more = more;
      shows = shows;
      sends_on = on;
      turned = x;
      parts = parts;
      lists = lists ∙ ap (λ (l : List Encoded). o.payloads_before ++ payloads_of l) (sym sent);
    }

    live : (given : TransportTurn) → AreBelow items → opened_by_all items e.authentication ≡ opened_where given e.authentication → EndTurned p side history (OnUnit p side history unit) items more (kept_after given new)
    live given below same = subst (λ (a : Authentication). EndTurned p side history (OnUnit p side history unit) items more (record { transport = new; authentication = a; channels = e.channels })) same (live_turn items more new below turned)

    over : (given : TransportTurn) → new.dead ≡ true → EndTurned p side history (OnUnit p side history unit) items more (kept_after given new)
    over given dead = over_turn items more (kept_after given new) turned dead

  told_of : (s : Transport K) (message : Msg) (fact : Fact) (is : IsPayload false message payload) (more : List ℕ) (new : Transport K) (o : Outs) → IsTold message fact → shown.Shows s payload (outcome.Done effect.Told) [] (Item.Told fact ∷ Took None message payload ∷ []) → Turned p side history payload (Item.Told fact ∷ Took None message payload ∷ []) more new →
      o.after ≡ o.before ++ more → o.payloads_after ≡ o.payloads_before ++ [] → UnitTurned p side history unit payload (step_given (outcome.Done effect.Told)) (kept_after (outcome.Done effect.Told) new) o
  told_of s message fact is more new o (IsTold.ignore body) x turned parts lists = made _ more new turned o [] parts lists (outcome.Done effect.Told) (steps.Shows.took None false event_kind.Message message [] is tt) (λ old older live. refl) refl (live _ more new turned o [] parts lists (outcome.Done effect.Told) (tt, (tt, tt)) refl)
  told_of s message fact is more new o (IsTold.unimplemented number) x turned parts lists = made _ more new turned o [] parts lists (outcome.Done effect.Told) (steps.Shows.took None false event_kind.Message message [] is tt) (λ old older live. refl) refl (live _ more new turned o [] parts lists (outcome.Done effect.Told) (tt, (tt, tt)) refl)
  told_of s message fact is more new o (IsTold.debug display text language) x turned parts lists = made _ more new turned o [] parts lists (outcome.Done effect.Told) (steps.Shows.took None false event_kind.Message message [] is tt) (λ old older live. refl) refl (live _ more new turned o [] parts lists (outcome.Done effect.Told) (tt, (tt, tt)) refl)
  told_of s message fact is more new o (IsTold.extensions announced) x turned parts lists = made _ more new turned o [] parts lists (outcome.Done effect.Told) (steps.Shows.took None false event_kind.Message message [] is tt) (λ old older live. refl) refl (live _ more new turned o [] parts lists (outcome.Done effect.Told) (tt, (tt, tt)) refl)

  -- what both roles do alike with a payload
  pub shared : (s : Transport K) (given : TransportTurn) (said : List Encoded) (items : List Item) (more : List ℕ) (new : Transport K) (o : Outs) → shown.Shows s payload given said items → Turned p side history payload items more new →
      o.after ≡ o.before ++ more → o.payloads_after ≡ o.payloads_before ++ payloads_of said →
      UnitTurned p side history unit payload (step_given given) (kept_after given new) o
  shared s given said items more new o (shown.Shows.refused why) turned parts lists =
      made _ more new turned o said parts lists (outcome.Refused why) (steps.Shows.refused why (Some payload) said) (λ old older live. refusal_on said why (Some payload)) (refusal_sends said why (Some payload)) (over _ more new turned o said parts lists (outcome.Refused why) turned.sums.dead_is)
  shared s given said items more new o shown.Shows.skipped turned parts lists =
      made _ more new turned o [] parts lists (outcome.Done effect.Skipped) steps.Shows.skipped (λ old older live. refl) refl (live _ more new turned o [] parts lists (outcome.Done effect.Skipped) (tt, (tt, tt)) refl)
  shared s given said items more new o (shown.Shows.disconnected reason description language is) turned parts lists =
      made _ more new turned o [] parts lists (outcome.Done effect.Disconnected) (steps.Shows.disconnected reason description language is) (λ old older live. refl) refl (over _ more new turned o [] parts lists (outcome.Done effect.Disconnected) turned.sums.dead_is)
  shared s given said items more new o (shown.Shows.told message fact is x) turned parts lists = told_of s message fact is more new o x (shown.Shows.told message fact is x) turned parts lists
  shared s given said items more new o (shown.Shows.unknown n reply is) turned parts lists =
      made _ more new turned o (EncodedBy (Unimplemented s.taking.number) reply ∷ []) parts lists (outcome.Done effect.Unknown) (steps.Shows.took None false event_kind.Message (Unknown n) (Sent None (Unimplemented s.taking.number) reply ∷ []) is tt) (λ old older live. refl) refl (live _ more new turned o (EncodedBy (Unimplemented s.taking.number) reply ∷ []) parts lists (outcome.Done effect.Unknown) (tt, (tt, tt)) refl)
  shared s given said items more new o (shown.Shows.service_requested service reply is) turned parts lists =
      made _ more new turned o (EncodedBy (ServiceAccept service) reply ∷ []) parts lists (outcome.Done effect.ServiceRequested) (steps.Shows.took None false event_kind.Message (ServiceRequest service) (Sent None (ServiceAccept service) reply ∷ []) is tt) (λ old older live. refl) refl
      (live _ more new turned o (EncodedBy (ServiceAccept service) reply ∷ []) parts lists (outcome.Done effect.ServiceRequested) (tt, (tt, tt)) (requested e.authentication service reply))
  shared s given said items more new o (shown.Shows.service_accepted service is) turned parts lists =
      made _ more new turned o [] parts lists (outcome.Done effect.ServiceAccepted) (steps.Shows.took None false event_kind.Message _ [] is tt) (λ old older live. refl) refl
      (live _ more new turned o [] parts lists (outcome.Done effect.ServiceAccepted) (tt, (tt, tt)) (accepted e.authentication service payload))
  shared s given said items more new o (shown.Shows.newkeys is) turned parts lists =
      made _ more new turned o [] parts lists (outcome.Done effect.NewKeys) (steps.Shows.took None false event_kind.Message _ [] is tt) (λ old older live. refl) refl (live _ more new turned o [] parts lists (outcome.Done effect.NewKeys) (tt, tt) refl)

  -- a payload that is refused by a role
  pub refused : (why : code.Refusal) (said : List Encoded) (more : List ℕ) (new : Transport K) (o : Outs) → Turned p side history payload (refusal_items why (Some payload) said) more new → o.after ≡ o.before ++ more → o.payloads_after ≡ o.payloads_before ++ payloads_of said →
      UnitTurned p side history unit payload (step.Refused why) (kept_after (outcome.Refused why) new) o
  refused why said more new o turned parts lists =
      made _ more new turned o said parts lists (outcome.Refused why) (steps.Shows.refused why (Some payload) said) (λ old older live. refusal_on said why (Some payload)) (refusal_sends said why (Some payload)) (over _ more new turned o said parts lists (outcome.Refused why) turned.sums.dead_is)
