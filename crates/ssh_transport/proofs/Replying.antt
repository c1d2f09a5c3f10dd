-- What the rows of a machine do, from what its calls do.
use Rattle.std.proofs.Common.{◌≡◌, ℕ, ◌+◌, ◌^◌, ◌<◌, ◌≤◌, List, [], ◌∷◌, refl, ap, subst, arith, Bool, true, false, not, ◌&&◌, ◌||◌, ◌==◌, ◌-◌, Option, Some, None, is_some}
use Rattle.std.specs.Prelude.{Result, Ok, Err, IfOk, OnErr, codes}
use Rattle.ssh_model.specs.declared.side.Side.{Side}
use Rattle.ssh_model.specs.declared.side.Side.TheVariants.{Client, Server}
use Rattle.ssh_model.specs.Protocol.Wire.Message.{Msg, Msg.KexInit, Msg.ServiceRequest}
use Rattle.ssh_model.specs.Protocol.Wire.Sealing.{Crypto}
use Rattle.ssh_model.specs.Protocol.KeyExchange.Exchanges.{Material}
use Rattle.ssh_model.specs.Protocol.Sessions.Items.{Ask.AskRekey, Ask.AskService}
use Rattle.ssh_model.specs.Protocol.Sessions.Parties.{offer_of}
use Rattle.ssh_model.specs.Protocol.Sessions.Phases as model
use Rattle.ssh_model.specs.Protocol.Sessions.Phases.{is_client, is_normal}
use Rattle.ssh_model.specs.declared.ask_refusal.AskRefusal.TheVariants as ask_refusals
use Rattle.ssh_model.specs.declared.refusal.Refusal.TheVariants as refusals
use Rattle.ssh_model.specs.Protocol.Sessions.Refusals.{Check.RefusedWhere, first_refusal}
use Rattle.ssh_model.specs.State.TransportLayer.Directions.{Direction, renewed}
use Rattle.ssh_model.specs.Protocol.Sessions.TurnClaims.{HasEncoding}
use Rattle.ssh_model.specs.Laws.Written.{service_request_encoded}
use Rattle.ssh_model.specs.State.TransportLayer.Kept as kept
use Rattle.ssh_model.specs.State.TransportLayer.Kept.{Transport, after_sent, message_ask_checks, offer_checks}
use Rattle.ssh_model.specs.State.TransportLayer.Summary.{bit, is_keying}
use Rattle.ssh_model.specs.Protocol.Wire.Message.{Proposal}
use Rattle.ssh_transport.specs.Asking.{AskDone, AskNeedsMemory, OfferDone, OfferNeedsMemory}
use Rattle.ssh_transport_machine.specs.Classifying.{MessageIs, PayloadIs}
use Rattle.ssh_transport_machine.specs.Classifying as classifying
use Rattle.ssh_transport.specs.Outcomes.{answer_outcome}
use Rattle.ssh_transport_machine.specs.Puts.{Outs}
use Rattle.ssh_transport_machine.specs.State.{State, before_taken}
use Rattle.ssh_transport.specs.Living.{IsLive}
use Rattle.ssh_transport_machine.specs.Answering.{Answers, HasRoom}
use Rattle.ssh_transport.specs.Dispatching.{Does, NewkeysTaken}
use Rattle.ssh_transport_machine.specs.declared.machine.classifying.Classified.{Classified}
use Rattle.ssh_transport_machine.specs.declared.machine.classifying.Classified.TheVariants as classified
use Rattle.ssh_transport_machine.specs.declared.machine.kexinit.KexinitFacts.{KexinitFacts}
use Rattle.ssh_transport_machine.specs.declared.machine.sending.SendOutcome.{SendOutcome}
use Rattle.ssh_transport_machine.specs.declared.machine.sending.SendOutcome.TheVariants.{Done, Spent}
use Rattle.ssh_transport.specs.declared.outcome.AskTurn.TheVariants as turn
use Rattle.ssh_transport.specs.declared.outcome.Handled.{Handled}
use Rattle.ssh_transport.specs.declared.outcome.TransportTurn.TheVariants as outcome
use Rattle.ssh_transport.specs.Own.{Share, Share.Shared}

pub if_ok : {A E : Type 0} (r : Result A E) (P Q : A → Type 0) → ((x : A) → P x → Q x) → IfOk r P → IfOk r Q
if_ok (Ok x) P Q f p = f x p
if_ok (Err e) P Q f p = tt

pub on_err : {A E P : Type 0} (r : Result A E) → P → OnErr r P
on_err (Ok x) p = tt
on_err (Err e) p = p

-- ---- what is answered

answered_more : (answer : SendOutcome) (handled : Handled) → outcome.More ≡ answer_outcome answer handled → ⊥
answered_more Done handled e = cc e
answered_more Spent handled e = cc e

module _ {K : Type 0} (c : Crypto K) (old new : State K) (o : Outs) where
  does_more : (what : Classified) → Does c old what (Shared outcome.More) new o → ⊥
  does_more (classified.Refused why) y = cc y.told
  does_more classified.Skipped y = cc y.told
  does_more classified.Disconnected y = cc y.told
  does_more classified.Told y = cc y.told
  does_more classified.Unknown y = answered_more y.answer _ y.told
  does_more classified.ServiceRequested y = answered_more y.answer _ y.told
  does_more classified.ServiceAccepted y = cc y.told
  does_more classified.NewKeys y = cc y.told
  does_more classified.Above y = cc y.told
  does_more _ y = y

  -- a payload is a whole packet
  pub never_more : (what : Classified) (done : Share) → Does c old what done new o → done ≡ Shared outcome.More → ⊥
  never_more what done y e = does_more what (subst (λ (d : Share). Does c old what d new o) e y)

-- ---- asks

client_of : (side : Side) (b d : Bool) → first_refusal (RefusedWhere (not (is_client side)) ask_refusals.WrongSide ∷ RefusedWhere b ask_refusals.NotYet ∷ RefusedWhere d ask_refusals.Busy ∷ []) ≡ None → side ≡ Client
client_of Client b d e = refl
client_of Server b d e = absurd (cc e)

request_encoded : HasEncoding (ServiceRequest (codes "ssh-userauth"))
request_encoded = service_request_encoded (codes "ssh-userauth") (omega arith)

pub service_asked : {K : Type 0} (c : Crypto K) (old new : State K) (o : Outs) (answer : SendOutcome) → first_refusal (message_ask_checks old.kept AskService) ≡ None →
    Answers c old (ServiceRequest (codes "ssh-userauth")) (record (after_sent old.kept) { requested = true }) answer new o → AskDone c old AskService (turn.Answered answer) new o
service_asked c old new o Done fine x = record {
  fine = fine;
  message = ServiceRequest (codes "ssh-userauth");
  payload = x.sends.payload;
  kept = record (after_sent old.kept) { requested = true };
  asks = kept.Asks.service x.sends.payload (client_of old.kept.side (old.kept.taking.epoch == 0) old.kept.requested fine);
  puts = x.sends.puts;
  after = x.after;
}
service_asked c old new o Spent fine x = record {
  fine = fine;
  message = ServiceRequest (codes "ssh-userauth");
  encoding = request_encoded;
  kept = record (after_sent old.kept) { requested = true };
  asks = kept.Asks.service request_encoded.payload (client_of old.kept.side (old.kept.taking.epoch == 0) old.kept.requested fine);
  spent = x;
}

pub service_lacks : {K : Type 0} (old : State K) → first_refusal (message_ask_checks old.kept AskService) ≡ None → HasRoom old → AskNeedsMemory old AskService
service_lacks old fine room = record {
  fine = fine;
  message = ServiceRequest (codes "ssh-userauth");
  encoding = request_encoded;
  kept = record (after_sent old.kept) { requested = true };
  asks = kept.Asks.service request_encoded.payload (client_of old.kept.side (old.kept.taking.epoch == 0) old.kept.requested fine);
  room = room;
}

free_of : (early shut odd needs_memory : Bool) → first_refusal (RefusedWhere early ask_refusals.NotYet ∷ RefusedWhere (shut || odd) ask_refusals.Busy ∷ RefusedWhere needs_memory ask_refusals.NoMaterial ∷ []) ≡ None → shut ≡ false
free_of true shut odd needs_memory e = absurd (cc e)
free_of false true odd needs_memory e = absurd (cc e)
free_of false false odd needs_memory e = refl

pub rekey_asked : {K : Type 0} (c : Crypto K) (old new : State K) (o : Outs) (m : Material) (answer : SendOutcome) → first_refusal (message_ask_checks old.kept AskRekey) ≡ None → old.kept.material ≡ Some m → OfferDone c old m answer new o → AskDone c old AskRekey (turn.Answered answer) new o
rekey_asked c old new o m Done fine has x = record {
  fine = fine;
  message = KexInit (offer_of old.kept.settings old.kept.side false m.cookie);
  payload = x.payload;
  kept = kept.after_own_kexinit m x.payload old.kept;
  asks = kept.Asks.rekey m x.payload (free_of (not old.kept.authenticated) old.kept.blocked (not (is_normal old.kept.phase)) (not (is_some old.kept.material)) fine) has;
  puts = x.puts;
  after = x.after;
}
rekey_asked c old new o m Spent fine has x = record {
  fine = fine;
  message = KexInit (offer_of old.kept.settings old.kept.side false m.cookie);
  encoding = x.encoding;
  kept = kept.after_own_kexinit m x.encoding.payload old.kept;
  asks = kept.Asks.rekey m x.encoding.payload (free_of (not old.kept.authenticated) old.kept.blocked (not (is_normal old.kept.phase)) (not (is_some old.kept.material)) fine) has;
  spent = x.spent;
}

pub rekey_lacks : {K : Type 0} (old : State K) (m : Material) → first_refusal (message_ask_checks old.kept AskRekey) ≡ None → old.kept.material ≡ Some m → OfferNeedsMemory old m → AskNeedsMemory old AskRekey
rekey_lacks old m fine has x = record {
  fine = fine;
  message = KexInit (offer_of old.kept.settings old.kept.side false m.cookie);
  encoding = x.encoding;
  kept = kept.after_own_kexinit m x.encoding.payload old.kept;
  asks = kept.Asks.rekey m x.encoding.payload (free_of (not old.kept.authenticated) old.kept.blocked (not (is_normal old.kept.phase)) (not (is_some old.kept.material)) fine) has;
  room = x.room;
}

-- ---- a KEXINIT that nothing refuses

lacks_pair : (b d e shut has : Bool) → shut ≡ false → has ≡ false → first_refusal (RefusedWhere b refusals.NotStrict ∷ RefusedWhere d refusals.Unexpected ∷ RefusedWhere e refusals.NoCommon ∷ RefusedWhere (not shut && not has) refusals.NoMaterial ∷ []) ≡ None → ⊥
lacks_pair true d e shut has f g x = cc x
lacks_pair false true e shut has f g x = cc x
lacks_pair false false true shut has f g x = cc x
lacks_pair false false false true has f g x = cc f
lacks_pair false false false false true f g x = cc g
lacks_pair false false false false false f g x = cc x

fine_pair : {K : Type 0} (s : Transport K) (theirs : Proposal) → first_refusal (offer_checks s theirs) ≡ None → s.blocked ≡ false → s.material ≡ None → ⊥
fine_pair s theirs e free none = lacks_pair _ _ _ s.blocked (is_some s.material) free (ap is_some none) e

pub kexinit_pair : {K : Type 0} (s : Transport K) (payload : List ℕ) (what : Classified) (facts : KexinitFacts) → what ≡ classified.Kexinit facts → PayloadIs (before_taken s) payload what → s.blocked ≡ false → s.material ≡ None → ⊥
kexinit_pair {K} s payload what facts e is free none = go (subst (λ (j : Classified). PayloadIs (before_taken s) payload j) e is)
  where
    of_message : (message : Msg) → MessageIs (before_taken s) message (classified.Kexinit facts) → ⊥
    of_message message (classifying.MessageIs.requested service given) = given
    of_message message (classifying.MessageIs.accepted service given) = given
    of_message message (classifying.MessageIs.kexinit theirs f fine) = fine_pair (before_taken s) theirs fine.fine free none

    go : PayloadIs (before_taken s) payload (classified.Kexinit facts) → ⊥
    go (classifying.PayloadIs.read message below taken no_guess is so) = of_message message so

-- ---- NEWKEYS

few_epochs : (come gone fed : ℕ) (b d e : ℕ) → b ≡ 1 → come + b ≤ gone → gone + (d + e) ≤ fed → fed ≤ 2 ^ 32 - 1 → come < 2 ^ 32 - 1
few_epochs come gone fed b d e one x y z = omega (arith, one, x, y, z)

pub epoch_left : {K : Type 0} (s : State K) → IsLive s → s.kept.phase ≡ model.Phase.Keying → s.receiver.direction.epoch < 2 ^ 32 - 1
epoch_left {K} s live here =
    subst (λ (d : Direction K). d.epoch < 2 ^ 32 - 1) live.taking
    (few_epochs _ _ _ _ _ _ (ap (λ (ph : model.Phase). bit (is_keying ph)) here) live.kept.taken_epochs live.kept.sent_epochs live.kept.fed)

pub newkeys_taken : {K : Type 0} (old new : State K) → (old.kept.pending ≡ None → ⊥) →
    ((key : K) → old.kept.pending ≡ Some key → new ≡ record old { receiver = record old.receiver { direction = renewed old.kept.strict key old.receiver.direction }; kept = record old.kept { taking = renewed old.kept.strict key old.receiver.direction; phase = model.Phase.Normal; pending = None } }) → NewkeysTaken old new
newkeys_taken {K} old new some f = go old.kept.pending refl
  where
    go : (pending : Option K) → old.kept.pending ≡ pending → NewkeysTaken old new
    go None e = absurd (some e)
    go (Some key) e = record { key = key; pending = e; after = f key e }
