-- Where the peer's next message of an exchange is awaited, there is a choice by its KEXINIT: this goes on holding.
use Rattle.std.proofs.Common.{◌≡◌, ℕ, List, [], ◌∷◌, refl, ap, sym, ◌∙◌, subst, Bool, true, false, not, None}
use Rattle.std.proofs.lemmas.Bool.{false≢true}
use Rattle.ssh_model.specs.declared.side.Side.{Side}
use Rattle.ssh_model.specs.Protocol.Wire.Message.{Msg, Msg.KexInit, IsPayload, Proposal}
use Rattle.ssh_model.specs.Protocol.Wire.Sealing.{Crypto}
use Rattle.ssh_model.specs.Protocol.Sessions.Items.{Ask}
use Rattle.ssh_model.specs.Protocol.Sessions.Parties.{Settings, lists_of}
use Rattle.ssh_model.specs.Protocol.Sessions.Phases as model
use Rattle.ssh_model.specs.declared.refusal.Refusal.{Refusal}
use Rattle.ssh_model.specs.declared.refusal.Refusal.TheVariants.{NotStrict, Unexpected, NoCommon}
use Rattle.ssh_model.specs.Protocol.Sessions.Refusals.{Check.RefusedWhere, first_refusal}
use Rattle.ssh_model.specs.State.TransportLayer.Kept as kept
use Rattle.ssh_model.specs.State.TransportLayer.Kept.{Asks, Transport, after_sent, has_choice_with, own_offer}
use Rattle.ssh_model.specs.State.TransportLayer.Summary.{is_agreeing}
use Rattle.ssh_packet.specs.declared.step.PacketStep.{PacketStep}
use Rattle.ssh_packet.specs.declared.step.PacketStep.TheVariants as step
use Rattle.ssh_transport.specs.Asking.{AskDone}
use Rattle.ssh_transport.specs.Choices.{IsChoosing}
use Rattle.ssh_transport_machine.specs.Finishing.{HasChoice}
use Rattle.ssh_transport_machine.specs.Classifying as classifying
use Rattle.ssh_transport_machine.specs.Classifying.{MessageIs, PayloadIs}
use Rattle.ssh_transport_machine.specs.Kexinits.{IsFine}
use Rattle.ssh_transport_machine.specs.LineTurns.{LineTaken}
use Rattle.ssh_transport_machine.specs.Opening.{IsOpened}
use Rattle.ssh_transport_machine.specs.Puts.{Outs}
use Rattle.ssh_transport_machine.specs.State.{State, before_taken}
use Rattle.ssh_transport_machine.specs.Answering.{Answers}
use Rattle.ssh_transport.specs.Dispatching.{Does, PacketDone, PacketTaken}
use Rattle.ssh_transport_machine.specs.declared.machine.classifying.Classified.{Classified}
use Rattle.ssh_transport_machine.specs.declared.machine.classifying.Classified.TheVariants as classified
use Rattle.ssh_transport_machine.specs.declared.machine.kexinit.KexinitFacts.{KexinitFacts}
use Rattle.ssh_transport_machine.specs.declared.machine.LineTurn.{LineTurn}
use Rattle.ssh_transport_machine.specs.declared.machine.LineTurn.TheVariants as line
use Rattle.ssh_transport_machine.specs.declared.machine.sending.SendOutcome.{SendOutcome}
use Rattle.ssh_transport_machine.specs.declared.machine.sending.SendOutcome.TheVariants.{Done, Spent}
use Rattle.ssh_transport.specs.declared.outcome.AskTurn.{AskTurn}
use Rattle.ssh_transport.specs.declared.outcome.AskTurn.TheVariants as ask_turn
use Rattle.ssh_transport.specs.Own.{Share, Share.OfRole, Share.Shared}

over : {A : Type 0} (b : Bool) → b ≡ true → b ≡ false → A
over b e f = absurd (false≢true (sym f ∙ e))

-- ---- a KEXINIT that nothing refuses has a choice

chooses : (needs_memory late can wants : Bool) → first_refusal (RefusedWhere needs_memory NotStrict ∷ RefusedWhere late Unexpected ∷ RefusedWhere (not can) NoCommon ∷ RefusedWhere wants Refusal.NoMaterial ∷ []) ≡ None → can ≡ true
chooses true late can wants e = absurd (cc e)
chooses false true can wants e = absurd (cc e)
chooses false false true wants e = refl
chooses false false false wants e = absurd (cc e)

module _ {K : Type 0} where
  fine_choice : (s : Transport K) (theirs : Proposal) (facts : KexinitFacts) → IsFine s theirs facts → has_choice_with s.side (lists_of (own_offer s.settings s.side)) (lists_of theirs) ≡ true
  fine_choice s theirs facts fine = chooses _ _ (has_choice_with s.side (lists_of (own_offer s.settings s.side)) (lists_of theirs)) _ fine.fine

  choice_on : (s t : Transport K) → t.side ≡ s.side → t.settings ≡ s.settings → t.underway.theirs ≡ s.underway.theirs → HasChoice s → HasChoice t
  choice_on s t side settings theirs h = record {
    theirs = h.theirs;
    read = subst (λ (l : List ℕ). IsPayload false (KexInit h.theirs) l) (sym theirs) h.read;
    chooses = (λ i. has_choice_with (side i) (lists_of (own_offer (settings i) (side i))) (lists_of h.theirs)) ∙ h.chooses;
  }

  pub goes_on : (s t : Transport K) → t.phase ≡ s.phase → t.side ≡ s.side → t.settings ≡ s.settings → t.underway.theirs ≡ s.underway.theirs → IsChoosing s → IsChoosing t
  goes_on s t phase side settings theirs x = record { choice = λ e. choice_on s t side settings theirs (x.choice (ap is_agreeing (sym phase) ∙ e)) }

  -- the KEXINIT that nothing refuses, as it is kept
  pub noted_choice : (s : Transport K) (payload : List ℕ) (facts : KexinitFacts) (t : Transport K) → t.side ≡ s.side → t.settings ≡ s.settings → t.underway.theirs ≡ payload → PayloadIs s payload (classified.Kexinit facts) → HasChoice t
  noted_choice s payload facts t side settings theirs (classifying.PayloadIs.read message below taken no_guess is so) = go message is so
    where
      go : (message : Msg) → IsPayload false message payload → MessageIs s message (classified.Kexinit facts) → HasChoice t
      go message is (classifying.MessageIs.requested service given) = absurd given
      go message is (classifying.MessageIs.accepted service given) = absurd given
      go message is (classifying.MessageIs.kexinit offer f fine) = record {
        theirs = offer;
        read = subst (λ (l : List ℕ). IsPayload false (KexInit offer) l) (sym theirs) is;
        chooses = (λ i. has_choice_with (side i) (lists_of (own_offer (settings i) (side i))) (lists_of offer)) ∙ fine_choice s offer f fine;
      }

  guessed : (s : Transport K) (payload : List ℕ) → PayloadIs s payload classified.Skipped → s.phase ≡ model.Phase.Guessed
  guessed s payload (classifying.PayloadIs.skipped below taken here) = here
  guessed s payload (classifying.PayloadIs.read message below taken no_guess is (classifying.MessageIs.requested service given)) = absurd given
  guessed s payload (classifying.PayloadIs.read message below taken no_guess is (classifying.MessageIs.accepted service given)) = absurd given

  moved : (old new : State K) (k : Transport K) → new ≡ record old { kept = k } → IsChoosing k → IsChoosing new.kept
  moved old new k e x = subst (λ (w : State K). IsChoosing w.kept) (sym e) x

  module _ (c : Crypto K) (old new : State K) (o : Outs) (x : IsChoosing old.kept) (alive : new.kept.dead ≡ false) where
    same : (k : Transport K) → new ≡ record old { kept = k } → k.phase ≡ old.kept.phase → k.side ≡ old.kept.side → k.settings ≡ old.kept.settings → k.underway.theirs ≡ old.kept.underway.theirs → IsChoosing new.kept
    same k e phase side settings theirs = moved old new k e (goes_on old.kept k phase side settings theirs x)

    sent : (m : Msg) (k : Transport K) → k.phase ≡ old.kept.phase → k.side ≡ old.kept.side → k.settings ≡ old.kept.settings → k.underway.theirs ≡ old.kept.underway.theirs → (answer : SendOutcome) → Answers c old m k answer new o → IsChoosing new.kept
    sent m k phase side settings theirs Done y = same k y.after phase side settings theirs
    sent m k phase side settings theirs Spent y = over new.kept.dead (ap (λ (t : State K). t.kept.dead) y.after) alive

    does_choosing : (what : Classified) (done : Share) → PayloadIs (before_taken old.kept) old.receiver.payload what → Does c old what done new o → IsChoosing new.kept
    does_choosing (classified.Refused why) (Shared given) is y = over new.kept.dead (ap (λ (t : Transport K). t.dead) y.refuses.after) alive
    does_choosing classified.Skipped (Shared given) is y =
        moved old new _ y.becomes.after (record { choice = λ e. choice_on old.kept (record old.kept { phase = model.Phase.Exchanging }) refl refl refl (x.choice (ap is_agreeing (guessed _ _ is))) })
    does_choosing classified.Disconnected (Shared given) is y = over new.kept.dead (ap (λ (t : State K). t.kept.dead) y.becomes.after) alive
    does_choosing classified.Told (Shared given) is y = same _ y.becomes.after refl refl refl refl
    does_choosing classified.Unknown (Shared given) is y = sent _ _ refl refl refl refl y.answer y.answers
    does_choosing classified.ServiceRequested (Shared given) is y = sent _ _ refl refl refl refl y.answer y.answers
    does_choosing classified.ServiceAccepted (Shared given) is y = same _ y.becomes.after refl refl refl refl
    does_choosing (classified.Kexinit facts) (OfRole left) is y = subst (λ (w : State K). IsChoosing w.kept) (sym y.after) x
    does_choosing classified.NewKeys (Shared given) is y = subst (λ (w : State K). IsChoosing w.kept) (sym y.taken.after) (record { choice = λ e. absurd (false≢true e) })
    does_choosing classified.EcdhInit (OfRole left) is y = subst (λ (w : State K). IsChoosing w.kept) (sym y.after) x
    does_choosing classified.Reply (OfRole left) is y = subst (λ (w : State K). IsChoosing w.kept) (sym y.after) x
    does_choosing classified.Above (Shared given) is y = subst (λ (w : State K). IsChoosing w.kept) (sym y.becomes.after) x
    does_choosing _ _ is y = absurd y

  pub received : (old between : State K) → IsChoosing old.kept → between ≡ record old { receiver = between.receiver; kept = record old.kept { taking = between.receiver.direction } } → IsChoosing between.kept
  received old between x e = subst (λ (w : State K). IsChoosing w.kept) (sym e) (goes_on old.kept (record old.kept { taking = between.receiver.direction }) refl refl refl refl x)

  packet_done : (c : Crypto K) (between new : State K) (o : Outs) → IsChoosing between.kept → new.kept.dead ≡ false → (found : PacketStep Refusal) (done : Share) → PacketDone c between found done new o → IsChoosing new.kept
  packet_done c between new o x alive step.More (Shared given) y = moved between new between.kept y.becomes.after x
  packet_done c between new o x alive (step.Refused why) (Shared given) y = over new.kept.dead (ap (λ (t : Transport K). t.dead) y.refuses.after) alive
  packet_done c between new o x alive step.Payload done y = does_choosing c between new o x alive y.what done y.payload_is y.does
  packet_done c between new o x alive _ _ y = absurd y

  pub packet_choosing : (c : Crypto K) (old : State K) (bytes : List ℕ) (done : Share) (new : State K) (o : Outs) → IsChoosing old.kept → PacketTaken c old bytes done new o → new.kept.dead ≡ false → IsChoosing new.kept
  packet_choosing c old bytes done new o x y alive = packet_done c y.between new o (received old y.between x y.rest) alive y.found done y.does

  pub line_choosing : (old : State K) (bytes : List ℕ) (done : LineTurn) (new : State K) → IsChoosing old.kept → LineTaken old bytes done new → new.kept.dead ≡ false → IsChoosing new.kept
  line_choosing old bytes line.More new x y alive = subst (λ (w : State K). IsChoosing w.kept) (sym y.after) x
  line_choosing old bytes line.Other new x y alive = subst (λ (w : State K). IsChoosing w.kept) (sym y.after) (goes_on old.kept _ refl refl refl refl x)
  line_choosing old bytes line.Version new x y alive = subst (λ (w : State K). IsChoosing w.kept) (sym y.after) (goes_on old.kept _ refl refl refl refl x)
  line_choosing old bytes (line.Refused why) new x y alive = over new.kept.dead (ap (λ (t : State K). t.kept.dead) y.after) alive

  pub answer_choosing : (c : Crypto K) (old : State K) (m : Msg) (answer : SendOutcome) (new : State K) (o : Outs) → IsChoosing old.kept → Answers c old m (after_sent old.kept) answer new o → new.kept.dead ≡ false → IsChoosing new.kept
  answer_choosing c old m Done new o x y alive = same c old new o x alive _ y.after refl refl refl refl
  answer_choosing c old m Spent new o x y alive = over new.kept.dead (ap (λ (t : State K). t.kept.dead) y.after) alive

  asked : (old new : State K) (next : Transport K) (ask : Ask) (m : Msg) (payload : List ℕ) → Asks old.kept ask m payload next → new ≡ record old { kept = next } → IsChoosing old.kept → IsChoosing new.kept
  asked old new next ask m payload (kept.Asks.service p side) e x = moved old new _ e (goes_on old.kept _ refl refl refl refl x)
  asked old new next ask m payload (kept.Asks.rekey material p free has) e x = moved old new _ e (goes_on old.kept _ refl refl refl refl x)

  pub ask_choosing : (c : Crypto K) (old : State K) (ask : Ask) (done : AskTurn) (new : State K) (o : Outs) → IsChoosing old.kept → AskDone c old ask done new o → new.kept.dead ≡ false → IsChoosing new.kept
  ask_choosing c old ask (ask_turn.Refused why) new o x y alive = subst (λ (w : State K). IsChoosing w.kept) (sym y.after) x
  ask_choosing c old ask (ask_turn.Answered Done) new o x y alive = asked old new y.kept ask y.message y.payload y.asks y.after x
  ask_choosing c old ask (ask_turn.Answered Spent) new o x y alive = over new.kept.dead (ap (λ (t : State K). t.kept.dead) y.spent.after) alive

  pub opened_choosing : (c : Crypto K) (settings : Settings) (side : Side) (cookie secret : List ℕ) (new : State K) (o : Outs) → IsOpened c settings side cookie secret new o → IsChoosing new.kept
  opened_choosing c settings side cookie secret new o y = subst (λ (w : State K). IsChoosing w.kept) (sym y.state_is) (record { choice = λ e. absurd (false≢true e) })
