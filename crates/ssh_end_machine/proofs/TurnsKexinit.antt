-- What an end does where its transport answered a KEXINIT as its role does is what an end of a session does.
use Rattle.std.proofs.Common.{◌≡◌, ℕ, ◌++◌, false, List, [], ◌∷◌, refl, ap, sym, ◌∙◌, subst, Option, Some, None, take}
use Rattle.ssh_model.specs.declared.side.Side.{Side}
use Rattle.ssh_model.specs.declared.side.Side.TheVariants.{Client, Server}
use Rattle.ssh_model.specs.Protocol.Wire.Message.{Msg, Msg.KexEcdhInit, Msg.KexInit, IsPayload, Proposal}
use Rattle.ssh_model.specs.Protocol.Wire.Outcome.{Outcome.Opens}
use Rattle.ssh_model.specs.Protocol.Wire.Unit.{IsUnit}
use Rattle.ssh_model.specs.State.Channels.Summary.{told}
use Rattle.ssh_model.specs.State.End.Below.{AreBelow, opened_by_all}
use Rattle.ssh_model.specs.State.End.State.{Authentication, EndState}
use Rattle.ssh_model.specs.State.End.Summary.{EndSumsUp, EndTurned}
use Rattle.ssh_model.specs.Protocol.Sessions.Items.{Fact, Item, Item.Took, Encoded, Encoded.EncodedBy, messages_sent}
use Rattle.ssh_model.specs.Protocol.Sessions.Parties.{Agreement, Parties, agreement_of, offer_of}
use Rattle.ssh_model.specs.Protocol.Sessions.Turns.{OnUnit, stage}
use Rattle.ssh_model.specs.State.TransportLayer.Kept.{Transport, own_point}
use Rattle.ssh_model.specs.State.TransportLayer.Summary.{items_sent}
use Rattle.ssh_model.specs.State.TransportLayer.Turns.{Turned, refusal_items}
use Rattle.ssh_transport.specs.Outcomes.{answer_outcome}
use Rattle.ssh_transport_machine.specs.Puts.{Outs, payloads_of}
use Rattle.ssh_transport_machine.specs.State.{State}
use Rattle.ssh_transport_machine.specs.declared.machine.sending.SendOutcome.{SendOutcome}
use Rattle.ssh_transport.specs.declared.outcome.Handled.TheVariants as effect
use Rattle.ssh_transport.specs.declared.outcome.TransportTurn.TheVariants as outcome
use Rattle.ssh_transport.specs.Kexinits.{KexinitShows, KexinitTurn, Says}
use Rattle.ssh_transport.specs.OfClient.Kexinits.{ClientSays}
use Rattle.ssh_transport.specs.OfServer.Kexinits.{ServerSays}
use Rattle.ssh_model.specs.declared.refusal.Refusal.{Refusal}
use Rattle.ssh_model.specs.declared.refusal.Refusal.TheVariants as code
use Rattle.ssh_end_machine.specs.Outcomes.{step_given}
use Rattle.ssh_end_machine.specs.Layers.{Layers}
use Rattle.ssh_end_machine.specs.Sessions.{end_of}
use Rattle.ssh_end_machine.specs.Steps as steps
use Rattle.ssh_end_machine.specs.Steps.{AreSent, UnitTurned, fact_by}
use Rattle.ssh_end_machine.specs.declared.step.Step.TheVariants as step
use Rattle.ssh_end_machine.specs.declared.step.EventKind.TheVariants as event_kind
use Rattle.ssh_end_machine.proofs.SendingOn.{transport_on}
use Rattle.ssh_end_machine.proofs.TurnsWhole.{kept_after}
use Rattle.ssh_end_machine.proofs.Transporting.{refused}
use Rattle.ssh_end_machine.proofs.TurningLaws.{TurningLaws}

module _ {K : Type 0} (laws : TurningLaws K) (p : Parties K) (side : Side) (history : List Item) (old : State K) (layers : Layers) (sums : EndSumsUp p side history (end_of old.kept layers)) (alive : old.kept.dead ≡ false) (bytes payload : List ℕ) (unit : IsUnit p.crypto (stage p side history) bytes (Opens payload)) where
  abbrev e : EndState K
  e = end_of old.kept layers

  -- ---- what is refused

  refuses : (why : Refusal) (said : List Encoded) (more : List ℕ) (new : Transport K) (o : Outs) → Turned p side history payload (refusal_items why (Some payload) said) more new → o.after ≡ o.before ++ more → o.payloads_after ≡ o.payloads_before ++ payloads_of said →
      UnitTurned p side history bytes payload (step.Refused why) (kept_after layers (outcome.Refused why) new) o
  refuses =
      refused p side history e bytes payload
      (λ items more next below turned. laws.opened p side history e sums alive bytes payload items more _ unit (laws.layered p side history e sums alive payload items more next below turned))
      (λ items more next turned dead. laws.opened p side history e sums alive bytes payload items more next unit (laws.over p side history e sums alive payload items more next turned dead))

  -- ---- a KEXINIT

  -- it was answered by these messages
  answered_kexinit : (message : Msg) (said : List Encoded) (more : List ℕ) (new : Transport K) (o : Outs) → fact_by message None ≡ None → AreSent (items_sent said) → AreBelow (items_sent said ++ Took None message payload ∷ []) →
      messages_sent (items_sent said ++ Took None message payload ∷ []) ≡ said → opened_by_all (items_sent said ++ Took None message payload ∷ []) e.authentication ≡ e.authentication → IsPayload false message payload → Turned p side history payload (items_sent said ++ Took None message payload ∷ []) more new →
      o.after ≡ o.before ++ more → o.payloads_after ≡ o.payloads_before ++ payloads_of said → UnitTurned p side history bytes payload (step_given (outcome.Done effect.Kexinit)) (kept_after layers (outcome.Done effect.Kexinit) new) o
  answered_kexinit message said more new o silent sent below says same is turned parts lists =
      let items : List Item = items_sent said ++ Took None message payload ∷ [] in
      record {
        items = items;
        more = more;
        shows = subst (λ (f : Option Fact). steps.Shows payload (step_given (outcome.Done effect.Kexinit)) (told f (items_sent said) ++ Took None message payload ∷ [])) silent (steps.Shows.took None false event_kind.Message message (items_sent said) is sent);
        sends_on = λ old older live. transport_on said (Took None message payload ∷ []) refl refl;
        turned = subst (λ (a : Authentication). EndTurned p side history (OnUnit p side history bytes) items more (record { transport = new; authentication = a; channels = layers.channels })) same
            (laws.opened p side history e sums alive bytes payload items more _ unit (laws.layered p side history e sums alive payload items more new below turned));
        parts = parts;
        lists = lists ∙ ap (λ (l : List Encoded). o.payloads_before ++ payloads_of l) (sym says);
      }

  -- the same by what each role says
  said_kexinit : (agreement : Agreement) (at : Side) (s between : Transport K) (theirs : Proposal) (said : List Encoded) (more : List ℕ) (new : Transport K) (o : Outs) → Says agreement at s said between → IsPayload false (KexInit theirs) payload → Turned p side history payload (items_sent said ++ Took None (KexInit theirs) payload ∷ []) more new → o.after ≡ o.before ++ more → o.payloads_after ≡ o.payloads_before ++ payloads_of said →
      UnitTurned p side history bytes payload (step_given (outcome.Done effect.Kexinit)) (kept_after layers (outcome.Done effect.Kexinit) new) o
  said_kexinit agreement Server s between theirs said more new o (ServerSays.nothing shut) is = answered_kexinit (KexInit theirs) [] more new o refl tt (tt, tt) refl refl is
  said_kexinit agreement Server s between theirs said more new o (ServerSays.own material own free has) is =
      answered_kexinit (KexInit theirs) (EncodedBy (KexInit (offer_of s.settings s.side false material.cookie)) own ∷ []) more new o refl tt (tt, (tt, tt)) refl refl is
  said_kexinit agreement Client s between theirs said more new o (ClientSays.point init shut) is =
      answered_kexinit (KexInit theirs) (EncodedBy (KexEcdhInit (own_point agreement s)) init ∷ []) more new o refl tt (tt, (tt, tt)) refl refl is
  said_kexinit agreement Client s between theirs said more new o (ClientSays.both material own init free has) is =
      answered_kexinit (KexInit theirs) (EncodedBy (KexEcdhInit (take 32 (agreement.point material.secret))) init ∷ EncodedBy (KexInit (offer_of s.settings s.side false material.cookie)) own ∷ []) more new o refl tt (tt, (tt, (tt, tt))) refl refl is

  kexinit_shown : (s : Transport K) (answer : SendOutcome) (said : List Encoded) (items : List Item) (more : List ℕ) (new : Transport K) (o : Outs) → KexinitShows (agreement_of p side) side s payload answer said items → Turned p side history payload items more new → o.after ≡ o.before ++ more → o.payloads_after ≡ o.payloads_before ++ payloads_of said →
      UnitTurned p side history bytes payload (step_given (answer_outcome answer effect.Kexinit)) (kept_after layers (answer_outcome answer effect.Kexinit) new) o
  kexinit_shown s answer said items more new o (KexinitShows.answered theirs w between is says) turned parts lists = said_kexinit (agreement_of p side) side s between theirs w more new o says is turned parts lists
  kexinit_shown s answer said items more new o KexinitShows.spent turned parts lists = refuses code.NumberSpent [] more new o turned parts lists

  pub kexinit_answered : (answer : SendOutcome) (new : Transport K) (o : Outs) → KexinitTurn p side history old.kept payload answer new o → UnitTurned p side history bytes payload (step_given (answer_outcome answer effect.Kexinit)) (kept_after layers (answer_outcome answer effect.Kexinit) new) o
  kexinit_answered answer new o x = kexinit_shown _ answer x.said x.items x.more new o x.shows x.turned x.parts x.lists
