-- Where a machine answers that memory was refused, something would be sent in a session.
use Rattle.std.proofs.Common.{◌≡◌, ℕ, ◌^◌, ◌<◌, ◌≤◌, List, [], ◌∷◌, refl, ap, sym, ◌∙◌, subst, arith, true, false, None}
use Rattle.std.specs.Prelude.{IsSome}
use Rattle.ssh_model.specs.declared.side.Side.{Side}
use Rattle.ssh_model.specs.Protocol.Wire.Message.{Msg, Msg.ServiceAccept, Msg.Unimplemented, IsPayload}
use Rattle.ssh_model.specs.Protocol.KeyExchange.Exchanges.{none_chosen}
use Rattle.ssh_model.specs.Protocol.Sessions.Items.{Item, Encoded.EncodedBy}
use Rattle.ssh_model.specs.Protocol.Sessions.Parties.{Parties, agreement_of}
use Rattle.ssh_model.specs.declared.refusal.Refusal.TheVariants as refusals
use Rattle.ssh_model.specs.Protocol.Sessions.Refusals.{first_refusal, refusal_reason}
use Rattle.ssh_model.specs.Protocol.Sessions.TurnClaims.{HasEncoding}
use Rattle.ssh_model.specs.Protocol.Sessions.Turns.{number_of}
use Rattle.ssh_model.specs.State.TransportLayer.Kept.{Answered, Takes, Transport, after_taken, message_checks, sends, takes, takes_in}
use Rattle.ssh_model.specs.State.TransportLayer.Summary.{IsAwaited, SumsUp}
use Rattle.ssh_model.specs.State.TransportLayer.Turns.{Reads}
use Rattle.ssh_model.specs.Laws.Farewells.{farewell_of}
use Rattle.ssh_model.specs.Laws.Written.{unimplemented_encoded}
use Rattle.ssh_model.specs.declared.refusal.Refusal.{Refusal}
use Rattle.ssh_transport_machine.specs.Classifying.{MessageIs, PayloadIs}
use Rattle.ssh_transport_machine.specs.Classifying as classifying
use Rattle.ssh_transport.specs.Shown.{WouldAnswer, WouldSay}
use Rattle.ssh_transport_machine.specs.State.{State, before_taken}
use Rattle.ssh_transport.specs.Dispatching.{TurnNeedsMemory, WouldSend}
use Rattle.ssh_transport_machine.specs.declared.machine.classifying.Classified.{Classified}
use Rattle.ssh_transport_machine.specs.declared.machine.classifying.Classified.TheVariants as classified
use Rattle.ssh_transport.proofs.Lifting.{PayloadLaws, accept_encoded, before, below_all, checked, few_taken, reads, refused_by, requested_of}

-- ---- what is said of a refusal

pub said_so : {K : Type 0} (s : Transport K) (why : Refusal) → s.sending.count < 2 ^ 32 → IsSome (refusal_reason why) → WouldSay s why
said_so s why room x =
    let say = farewell_of why x in
    record { reason = say.reason; reason_is = say.reason_is; encoding = say.encoding; room = room }

-- ---- what is answered

module _ {K : Type 0} (laws : PayloadLaws K) (p : Parties K) (side : Side) (h : List Item) (s : Transport K) (payload : List ℕ) where
  one : (message answer : Msg) (given : Answered) (new : Transport K) (said : HasEncoding answer) → given ≡ sends (EncodedBy answer said.payload ∷ []) → Reads s message payload → IsAwaited s none_chosen message →
      first_refusal (message_checks (agreement_of p side) p.trusts none_chosen s message) ≡ None → Takes (agreement_of p side) s payload message given new → s.sending.count < 2 ^ 32 → WouldAnswer p side s payload
  one message answer given new said e r w fine t room =
      WouldAnswer.answered none_chosen message (sends (EncodedBy answer said.payload ∷ [])) new r w fine
      (subst (λ (a : Answered). Takes (agreement_of p side) s payload message a new) e t) (said.encodes, tt) (omega arith) (omega (arith, room))

  at_number : (n : ℕ) (message : Msg) → IsPayload false message payload → number_of payload ≡ n → takes s (number_of payload) ≡ true → takes_in s.phase s n ≡ true
  at_number n message is e taken = subst (λ (m : ℕ). takes_in s.phase s m ≡ true) e taken

  unknown_lacks : s.taking.number < 2 ^ 32 → s.taking.count < 2 ^ 32 → s.sending.count < 2 ^ 32 → PayloadIs s payload classified.Unknown → WouldAnswer p side s payload
  unknown_lacks small few room (classifying.PayloadIs.read message below taken no_guess is so) = go message is so
    where
      said : HasEncoding (Unimplemented s.taking.number)
      said = unimplemented_encoded s.taking.number small

      go : (message : Msg) → IsPayload false message payload → MessageIs s message classified.Unknown → WouldAnswer p side s payload
      go message is (classifying.MessageIs.unknown number) =
          one message (Unimplemented s.taking.number) _ _ said refl (reads (agreement_of p side) p.trusts s payload message below taken no_guess is tt) tt refl (Takes.unknown number said.payload few) room
      go message is (classifying.MessageIs.requested service given) = absurd given
      go message is (classifying.MessageIs.accepted service given) = absurd given

  requested_lacks : s.sending.count < 2 ^ 32 → PayloadIs s payload classified.ServiceRequested → WouldAnswer p side s payload
  requested_lacks room (classifying.PayloadIs.read message below taken no_guess is so) = go message is so
    where
      go : (message : Msg) → IsPayload false message payload → MessageIs s message classified.ServiceRequested → WouldAnswer p side s payload
      go message is (classifying.MessageIs.accepted service given) = absurd given
      go message is (classifying.MessageIs.requested service given) =
          let said = accept_encoded service given in
          one message (ServiceAccept service) _ _ said refl (reads (agreement_of p side) p.trusts s payload message below taken no_guess is tt) tt (checked service true refusals.NoService given)
          (Takes.service_request service said.payload (requested_of s s.phase no_guess (at_number 5 message is (laws.numbers false message payload is) taken))) room

pub turn_lacks : {K : Type 0} → PayloadLaws K → (p : Parties K) (side : Side) (h : List Item) (s : Transport K) → SumsUp p side h s → s.dead ≡ false → (old : State K) → old.kept ≡ after_taken s → TurnNeedsMemory old → WouldAnswer p side s old.receiver.payload
turn_lacks {K} laws p side h s sums alive old same x = go x.what judged_so x.would
  where
    small : s.taking.number < 2 ^ 32
    small = subst (λ (n : ℕ). n < 2 ^ 32) (sym (sums.live alive).taking.number_is) (below_all _)

    few : s.taking.count < 2 ^ 32
    few = few_taken s.taking.count (subst (λ (t : Transport K). t.taking.count ≤ 2 ^ 32) same x.numbered)

    judged_so : PayloadIs s old.receiver.payload x.what
    judged_so = subst (λ (t : Transport K). PayloadIs t old.receiver.payload x.what) (ap before_taken same ∙ before s small) x.payload_is

    room_at : old.kept.sending.count < 2 ^ 32 → s.sending.count < 2 ^ 32
    room_at l = subst (λ (t : Transport K). t.sending.count < 2 ^ 32) same l

    go : (what : Classified) → PayloadIs s old.receiver.payload what → WouldSend old what → WouldAnswer p side s old.receiver.payload
    go (classified.Refused why) is y = WouldAnswer.refused why (refused_by (agreement_of p side) p.trusts s old.receiver.payload why is) (said_so s why (room_at y.room) y.reason)
    go classified.Unknown is y = unknown_lacks laws p side h s old.receiver.payload small few (room_at y) is
    go classified.ServiceRequested is y = requested_lacks laws p side h s old.receiver.payload (room_at y) is
    go _ is y = absurd y
