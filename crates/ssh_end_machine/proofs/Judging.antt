-- What the layers above a transport make of a payload, by what the transport says to them.
use Rattle.std.proofs.Common.{◌≡◌, ℕ, ◌≤◌, Bool, List, [], length, refl, ap, sym, ◌∙◌, subst, Option, Some, None}
use Rattle.std.specs.Option.{option_map}
use Rattle.std.specs.Prelude.{Result, Ok, Err, IfErr, IfOk, IsSome, OnErr, unwrap_or}
use Rattle.ssh_model.specs.Protocol.Wire.Message.{IsPayload, Msg}
use Rattle.ssh_model.specs.State.Authentication.Kept as kept
use Rattle.ssh_model.specs.State.Authentication.Kept.{ServerTakes}
use Rattle.ssh_model.specs.Protocol.Authentication.Requests.{Judge}
use Rattle.ssh_model.specs.State.Authentication.Summary.{sent_with, told_over}
use Rattle.ssh_model.specs.State.Channels.Kept.{DueReply}
use Rattle.ssh_model.specs.State.Channels.Summary.{reply_sent, told}
use Rattle.ssh_model.specs.State.End.Payloads.{reply_items}
use Rattle.ssh_model.specs.Protocol.Sessions.Items.{Fact, Item}
use Rattle.ssh_model.specs.State.TransportLayer.Kept.{Transport}
use Rattle.ssh_auth.specs.Serving as serving
use Rattle.ssh_auth.specs.Serving.{NeedsText, answered}
use Rattle.ssh_model.specs.Protocol.Bounds.{largest_packet}
use Rattle.ssh_auth.specs.declared.answer.ServerAnswer.{ServerAnswer}
use Rattle.ssh_model.specs.declared.refusal.Refusal.{Refusal}
use Rattle.ssh_transport_machine.specs.State.{State, last_number}
use Rattle.ssh_end_machine.specs.Above.{Awaits, IsAnswer, IsBeneath, IsReplied, NoAnswer, OnJudged, OnMemory, EncodesReply}
use Rattle.ssh_end_machine.specs.Judging.{IsTaken, JudgeNeedsMemory, JudgesPayload, RefusesPeer, succeeds, took_by}
use Rattle.ssh_end_machine.specs.Layers.{Layers, LayersFail, LayersNeedMemory, message_of}
use Rattle.ssh_end_machine.specs.Login.{NeedsSignedText, probes}
use Rattle.ssh_end_machine.specs.declared.layers.login.Login.{Login}
use Rattle.ssh_end_machine.specs.declared.layers.login.Login.TheVariants as login
use Rattle.ssh_end_machine.specs.declared.replying.ServiceReply.{ServiceReply}
use Rattle.ssh_end_machine.specs.declared.layers.answer.LayerAnswer.{LayerAnswer}
use Rattle.ssh_types.specs.declared.call_error.CallError.{CallError}
use Rattle.ssh_types.specs.declared.call_error.CallError.TheVariants as fault
use Rattle.ssh_end_machine.specs.declared.step.TakenMessage.{TakenMessage}
use Rattle.ssh_end_machine.specs.Layer.{Beneath}
use Rattle.ssh_end_machine.specs.Told.{event_kind_of}
use Rattle.ssh_end_machine.specs.Sessions.{beneath}
use Rattle.ssh_end_machine.specs.Steps.{AreSent, fact_told}

pub on_err : {A E : Type 0} {P Q : Type 0} (r : Result A E) → (P → Q) → OnErr r P → OnErr r Q
on_err (Ok a) f x = tt
on_err (Err e) f x = f x

-- ---- what the transport says

pub beneath_is : {K : Type 0} (s : Transport K) (m : State K) → Awaits s m → (below : Beneath) → IsBeneath m below → below ≡ beneath s
beneath_is {K} s m awaits below x =
    let session : below.session ≡ unwrap_or s.session [] = go s.session refl in
    let blocked : below.is_blocked ≡ s.blocked = x.blocked ∙ ap (λ (t : Transport K). t.blocked) awaits.kept in
    let user : below.is_authenticated ≡ s.authenticated = x.authenticated ∙ ap (λ (t : Transport K). t.authenticated) awaits.kept in
    λ i. record { session = session i; is_blocked = blocked i; is_authenticated = user i }
  where
    go : (o : Option (List ℕ)) → s.session ≡ o → below.session ≡ unwrap_or o []
    go None e = absurd (awaits.identified e)
    go (Some id) e = x.session id (ap (λ (t : Transport K). t.session) awaits.kept ∙ e)

-- ---- what is told

abbrev pub ServerFacts : Type 0
ServerFacts = (judge : Judge) (methods : List (List ℕ)) (session : List ℕ) (server : kept.Server) (message : Msg) (given : ServerAnswer) (new : kept.Server) →
    ServerTakes judge methods session server message (answered methods message given) new → (answered methods message given).fact ≡ fact_told (event_kind_of given) message None

-- ---- what is sent at once

-- the payload of it
abbrev pub payload_in : Option (List ℕ) → List ℕ
payload_in None = []
payload_in (Some l) = l

pub is_told : (fact : Option Fact) (items : List Item) → told_over fact items ≡ told fact items
is_told None items = refl
is_told (Some fact) items = refl

pub are_sent : (payload : List ℕ) (message : Option Msg) → AreSent (sent_with payload message)
are_sent payload None = tt
are_sent payload (Some message) = tt

pub reply_is_sent : (payload : List ℕ) (reply : Option DueReply) → AreSent (reply_items reply payload)
reply_is_sent payload None = tt
reply_is_sent payload (Some reply) = tt

pub are_replied : {K : Type 0} (m : State K) (message : Option Msg) (reply : Option (List ℕ)) → EncodesReply m message reply → IsReplied reply (sent_with (payload_in reply) message)
are_replied m None None x = refl
are_replied m (Some message) (Some l) x = record { message = message; messages = refl; encoded = x.0 }
are_replied m None (Some l) x = absurd x
are_replied m (Some message) None x = absurd x

pub reply_replied : {K : Type 0} (m : State K) (due : Option DueReply) (reply : Option (List ℕ)) → EncodesReply m (option_map reply_sent due) reply → IsReplied reply (reply_items due (payload_in reply))
reply_replied m None None x = refl
reply_replied m (Some due) (Some l) x = record { message = reply_sent due; messages = refl; encoded = x.0 }
reply_replied m None (Some l) x = absurd x
reply_replied m (Some due) None x = absurd x

-- ---- what was judged, and where memory was refused

-- a request that comes in one packet is signed over a text for which there is room
abbrev pub TextsFit : Type 0
TextsFit = (judge : Judge) (session : List ℕ) (server : serving.Server) (probing : Bool) (message : Msg) (payload : List ℕ) → length session ≡ 32 →
    IsPayload probing message payload → length payload ≤ largest_packet → NeedsText judge session server message → ⊥

pub if_ok : {A E : Type 0} {P Q : A → Type 0} (r : Result A E) → ((a : A) → P a → Q a) → IfOk r P → IfOk r Q
if_ok (Ok a) f x = f a x
if_ok (Err e) f x = tt

pub refused_in : (P : Result ServiceReply Refusal → Type 0) (f : CallError Refusal) (why : Refusal) → f ≡ fault.Refused why → OnJudged (Err f) P → P (Err why)
refused_in P f why e x = subst (λ (w : CallError Refusal). OnJudged (Err w) P) e x

pub memory_in : (P : Type 0) (f : CallError Refusal) → f ≡ fault.Memory → OnMemory (Err f) P → P
memory_in P f e x = subst (λ (w : CallError Refusal). OnMemory (Err w) P) e x

module _ {K : Type 0} (judge : Judge) (m : State K) (old new : Layers) where
  -- the layers took nothing
  pub failed_so : (below : Beneath) → IsBeneath m below → (f : CallError Refusal) → LayersFail judge below old m.receiver.payload f → new ≡ old → OnJudged (Err f) (λ given. JudgesPayload judge m old given new)
  failed_so below is (fault.Refused why) x same = RefusesPeer.by_layers why new (record { below = below; is_beneath = is; refuses = x; same = same })
  failed_so below is fault.Memory x same = tt

  -- The text that a signature covers asks for none, since the payload came in one packet.
  pub lacks_so : TextsFit → (below : Beneath) → IsBeneath m below → length below.session ≡ 32 → length m.receiver.payload ≤ largest_packet → (f : CallError Refusal) → LayersFail judge below old m.receiver.payload f → OnMemory (Err f) (JudgeNeedsMemory judge m old)
  lacks_so fit below is id most (fault.Refused why) x = tt
  lacks_so fit below is id most fault.Memory (LayersNeedMemory.for_text message reads needs) = absurd (no_text old.authentication reads.message_is needs)
    where
      no_text : (l : Login) → IsPayload (probes l) message m.receiver.payload → NeedsSignedText judge below.session l message → ⊥
      no_text (login.Server server) read x = fit judge below.session server _ message m.receiver.payload id read most x
      no_text (login.Client client) read x = x
  lacks_so fit below is id most fault.Memory (LayersNeedMemory.for_channel message reads opens) = JudgeNeedsMemory.for_channel below is message reads opens

  -- they took the message, and what is sent for it was to be encoded
  module _ (given : LayerAnswer) (taken : IsTaken judge m old given new) (message : Option Msg) (same : message ≡ message_of new given (last_number m.kept.taking)) where
    pub answered_by : (step : TakenMessage) (success : Bool) → step ≡ took_by given (probes old.authentication) → success ≡ succeeds given → (r : Result ServiceReply (CallError Refusal)) →
        IfOk r (λ above. IsAnswer m step message success above) → IfErr r (λ f. NoAnswer m message f) → OnJudged r (λ judged. JudgesPayload judge m old judged new)
    answered_by step success step_is success_is (Ok above) x y = record {
      given = given;
      taken = taken;
      made = record {
        step_is = x.step_is ∙ step_is;
        reply_is = subst (λ (o : Option Msg). EncodesReply m o (option_map (λ v. v.items) above.reply)) same x.reply_is;
        success_is = x.success_is ∙ success_is;
      };
    }
    answered_by step success step_is success_is (Err (fault.Refused why)) x y =
        subst (λ (w : Refusal). RefusesPeer judge m old w new) (sym y.0) (RefusesPeer.spent given new taken (record { some = subst (λ (o : Option Msg). IsSome o) same y.1.some; none_left = y.1.none_left }))
    answered_by step success step_is success_is (Err fault.Memory) x y = tt

    pub unencoded_by : (r : Result ServiceReply (CallError Refusal)) → IfErr r (λ f. NoAnswer m message f) → OnMemory r (JudgeNeedsMemory judge m old)
    unencoded_by (Ok above) y = tt
    unencoded_by (Err (fault.Refused why)) y = tt
    unencoded_by (Err fault.Memory) y = JudgeNeedsMemory.unencoded given new taken (subst (λ (o : Option Msg). IsSome o) same y.some) y.room
