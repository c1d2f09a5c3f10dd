-- What a machine does with a payload is a turn of a session.
use Rattle.std.proofs.Common.{◌≡◌, ℕ, zero, suc, ◌+◌, ◌-◌, ◌%◌, ◌^◌, ◌<◌, ◌≤◌, List, [], ◌∷◌, ◌++◌, length, refl, ap, sym, ◌∙◌, subst, arith, Bool, true, false, not, ◌&&◌, ◌||◌, ◌==◌, nat_eq, eqb-true, Some, None, append-nil}
use Rattle.std.specs.Prelude.{codes}
use Rattle.ssh_model.specs.declared.side.Side.{Side}
use Rattle.ssh_model.specs.declared.side.Side.TheVariants.{Client, Server}
use Rattle.ssh_model.specs.Protocol.Wire.DataTypes.{is_text}
use Rattle.ssh_model.specs.Protocol.Wire.Message.{Msg, Msg.Disconnect, Msg.ServiceAccept, Msg.Unimplemented, IsPayload, message_number}
use Rattle.ssh_model.specs.Protocol.Wire.Sealing.{Crypto}
use Rattle.ssh_model.specs.Protocol.KeyExchange.Choice.{Chosen}
use Rattle.ssh_model.specs.Protocol.KeyExchange.Exchanges.{none_chosen}
use Rattle.ssh_model.specs.Protocol.Sessions.Items.{Fact.Disconnected, Fact.Ignored, Item, Item.Died, Item.Told, Item.Took, Item.TookGuess, Encoded, Encoded.EncodedBy}
use Rattle.ssh_model.specs.Protocol.Sessions.Parties.{Agreement, Parties, agreement_of, is_required}
use Rattle.ssh_model.specs.Protocol.Sessions.Phases as model
use Rattle.ssh_model.specs.Protocol.Sessions.Phases.{is_allowed_at_first, is_allowed_during_exchange, is_generic_transport, is_unassigned}
use Rattle.ssh_model.specs.Protocol.Sessions.TurnClaims.{HasEncoding}
use Rattle.ssh_model.specs.Laws.Written.{service_accept_encoded, unimplemented_encoded}
use Rattle.ssh_model.specs.declared.refusal.Refusal.{Refusal}
use Rattle.ssh_model.specs.declared.refusal.Refusal.TheVariants.{NoService, NumberSpent, Unexpected}
use Rattle.ssh_model.specs.Protocol.Sessions.Refusals.{Check.RefusedWhere, first_refusal}
use Rattle.ssh_model.specs.Protocol.Sessions.Turns.{AreEncoded, IsEncoded, number_of}
use Rattle.ssh_model.specs.State.TransportLayer.Kept.{Answered, Takes, Transport, after_guess, after_sent, after_taken, is_between, message_checks, sends, takes, takes_announced, takes_in, takes_service}
use Rattle.ssh_model.specs.State.TransportLayer.Directions.{Direction, renewed}
use Rattle.ssh_model.specs.State.TransportLayer.Summary.{IsAwaited, IsTransportMessage, SumsUp, answer_items, items_sent}
use Rattle.ssh_model.specs.State.TransportLayer.Turns as turns
use Rattle.ssh_model.specs.State.TransportLayer.Turns.{IsRefused, PutsPackets, Reads, SaysWhy, Turned, refusal_items}
use Rattle.ssh_model.specs.declared.refusal.Refusal as types
use Rattle.ssh_transport_machine.specs.Classifying.{MessageIs, PayloadIs}
use Rattle.ssh_transport_machine.specs.Classifying as classifying
use Rattle.ssh_transport.specs.Outcomes.{answer_outcome}
use Rattle.ssh_transport_machine.specs.Puts.{Outs, Puts, Refuses}
use Rattle.ssh_transport.specs.Shown.{IsTurn, Shows, TurnOf, classified_by}
use Rattle.ssh_transport.specs.Shown as shown
use Rattle.ssh_transport_machine.specs.State.{State, before_taken, last_number}
use Rattle.ssh_transport_machine.specs.Answering.{Answers, IsQuiet}
use Rattle.ssh_transport.specs.Dispatching.{Does, NewkeysDone, Turns}
use Rattle.ssh_transport.specs.Dispatching as dispatching
use Rattle.ssh_transport_machine.specs.declared.machine.classifying.Classified.{Classified}
use Rattle.ssh_transport_machine.specs.declared.machine.classifying.Classified.TheVariants as classified
use Rattle.ssh_transport.specs.Own as own
use Rattle.ssh_transport_machine.specs.declared.machine.sending.SendOutcome.{SendOutcome}
use Rattle.ssh_transport_machine.specs.declared.machine.sending.SendOutcome.TheVariants.{Done, Spent}
use Rattle.ssh_transport.specs.declared.outcome.Handled.TheVariants as handled
use Rattle.ssh_transport.specs.declared.outcome.TransportTurn.{TransportTurn}
use Rattle.ssh_transport.specs.declared.outcome.TransportTurn.TheVariants as outcome
use Rattle.ssh_transport.specs.Own.{Own, Share, Share.OfRole, Share.Shared}

-- ---- the laws of the model

pub record PayloadLaws (K : Type 0) : Type 0 where
  pub answered : (p : Parties K) (side : Side) (history : List Item) (s : Transport K) → SumsUp p side history s → s.dead ≡ false → (chosen : Chosen) (message : Msg) (payload : List ℕ) (answered : Answered) (new : Transport K) (more : List ℕ) → Reads s message payload → IsAwaited s chosen message → first_refusal (message_checks (agreement_of p side) p.trusts chosen s message) ≡ None → Takes (agreement_of p side) s payload message answered new → PutsPackets p.crypto s.sending answered.sent more → Turned p side history payload (answer_items answered ++ Took None message payload ∷ []) more new
  pub skipped : (p : Parties K) (side : Side) (history : List Item) (s : Transport K) → SumsUp p side history s → s.dead ≡ false → (payload : List ℕ) → number_of payload < 50 → takes s (number_of payload) ≡ true → s.phase ≡ model.Phase.Guessed → Turned p side history payload (Told Ignored ∷ TookGuess payload ∷ []) [] (after_guess s)
  pub disconnected : (p : Parties K) (side : Side) (history : List Item) (s : Transport K) → SumsUp p side history s → s.dead ≡ false → (reason : ℕ) (description language payload : List ℕ) (new : Transport K) → Reads s (Disconnect reason description language) payload → new.dead ≡ true → Turned p side history payload (Died ∷ Told (Disconnected reason description) ∷ Took None (Disconnect reason description language) payload ∷ []) [] new
  pub refused : (p : Parties K) (side : Side) (history : List Item) (s : Transport K) → SumsUp p side history s → s.dead ≡ false → (payload : List ℕ) (refusal : Refusal) (sent : List Encoded) (more : List ℕ) (new : Transport K) → IsRefused (agreement_of p side) p.trusts s payload refusal → SaysWhy p.crypto s refusal sent more → new.dead ≡ true → Turned p side history payload (refusal_items refusal (Some payload) sent) more new
  pub spent : (p : Parties K) (side : Side) (history : List Item) (s : Transport K) → SumsUp p side history s → s.dead ≡ false → (chosen : Chosen) (message : Msg) (payload : List ℕ) (answered : Answered) (new dead : Transport K) → Reads s message payload → IsAwaited s chosen message → first_refusal (message_checks (agreement_of p side) p.trusts chosen s message) ≡ None → Takes (agreement_of p side) s payload message answered new → AreEncoded (items_sent answered.sent) → 1 ≤ length answered.sent → 2 ^ 32 < s.sending.count + length answered.sent → dead.dead ≡ true → Turned p side history payload (Died ∷ Item.Refused NumberSpent (Some payload) ∷ []) [] dead
  pub numbers : (probing : Bool) (m : Msg) (payload : List ℕ) → IsPayload probing m payload → number_of payload ≡ message_number m

-- ---- what was kept before a packet

last_of : (n : ℕ) → n < 2 ^ 32 → ((n + 1) % 2 ^ 32 + (2 ^ 32 - 1)) % 2 ^ 32 ≡ n
last_of n l = omega (arith, l)

pub few_taken : (n : ℕ) → n + 1 ≤ 2 ^ 32 → n < 2 ^ 32
few_taken n l = omega (arith, l)

less_one : (n : ℕ) → n + 1 - 1 ≡ n
less_one n = omega arith

pub before : {K : Type 0} (s : Transport K) → s.taking.number < 2 ^ 32 → before_taken (after_taken s) ≡ s
before s l = λ i. record s { taking = record s.taking { number = last_of s.taking.number l i; count = less_one s.taking.count i } }

-- ---- texts

and_left : (a b : Bool) → (a && b) ≡ true → a ≡ true
and_left true b e = refl
and_left false b e = absurd (cc e)

and_right : (a b : Bool) → (a && b) ≡ true → b ≡ true
and_right true b e = e
and_right false b e = absurd (cc e)

text_same : (a b : List ℕ) → is_text a b ≡ true → a ≡ b
text_same [] [] e = refl
text_same [] (y ∷ b) e = absurd (cc e)
text_same (x ∷ a) [] e = absurd (cc e)
text_same (x ∷ a) (y ∷ b) e =
    let head : x ≡ y = eqb-true x y (and_left (nat_eq x y) (is_text a b) e) in
    let tail = text_same a b (and_right (nat_eq x y) (is_text a b) e) in
    cc (head, tail)

pub accept_encoded : (service : List ℕ) → is_text service (codes "ssh-userauth") ≡ true → HasEncoding (ServiceAccept service)
accept_encoded service e = service_accept_encoded service (subst (λ (l : List ℕ). length l ≤ 100) (sym (text_same service (codes "ssh-userauth") e)) (omega arith))

-- ---- what a number says of the phase

module _ {K : Type 0} (s : Transport K) where
  never : (strict : Bool) (epoch : ℕ) (n : ℕ) → is_allowed_at_first true n ≡ false → is_allowed_at_first false n ≡ false → is_allowed_during_exchange strict (suc epoch) n ≡ false → (e : ℕ) → is_allowed_during_exchange strict e n ≡ false
  never true epoch n a b c zero = a
  never false epoch n a b c zero = b
  never strict epoch n a b c (suc e) = c

  at_first_off : (strict : Bool) (n : ℕ) → is_allowed_at_first true n ≡ false → is_allowed_at_first false n ≡ false → is_allowed_at_first strict n ≡ false
  at_first_off true n a b = a
  at_first_off false n a b = b

  pub awaits : (side : Side) (n : ℕ) → (n == 30) ≡ false → (n == 31) ≡ false → (n == model.awaited side) ≡ false
  awaits Server n a b = a
  awaits Client n a b = b

  pub during_off : (n : ℕ) → is_allowed_at_first true n ≡ false → is_allowed_at_first false n ≡ false → is_allowed_during_exchange s.strict 1 n ≡ false → (other : Bool) → other ≡ false → (is_allowed_during_exchange s.strict s.taking.epoch n || other) ≡ false
  during_off n a b c other d = λ i. never s.strict 0 n a b c s.taking.epoch i || d i

  service_off : (side : Side) → takes_service side s.requested s.accepted 21 ≡ false
  service_off Server = refl
  service_off Client = refl

  pub first_off : (n : ℕ) → is_allowed_at_first true n ≡ false → is_allowed_at_first false n ≡ false → (n == 20) ≡ false → takes_in model.Phase.Start s n ≡ false
  first_off n a b c = λ i. at_first_off (is_required s.settings.strictness) n a b i || c i

  pub newkeys_awaited : (phase : model.Phase) → (phase ≡ model.Phase.Guessed → ⊥) → takes_in phase s 21 ≡ true → phase ≡ model.Phase.Keying
  newkeys_awaited model.Phase.Start d e = absurd (cc (e, first_off 21 refl refl refl))
  newkeys_awaited model.Phase.Guessed d e = absurd (d refl)
  newkeys_awaited model.Phase.Exchanging d e = absurd (cc (e, during_off 21 refl refl refl _ (awaits s.side 21 refl refl)))
  newkeys_awaited model.Phase.Keying d e = refl
  newkeys_awaited model.Phase.Normal d e = absurd (cc (e, service_off s.side))

  pub between_exchanges : (phase : model.Phase) → (phase ≡ model.Phase.Guessed → ⊥) → takes_in phase s 20 ≡ true → is_between phase ≡ true
  between_exchanges model.Phase.Start d e = refl
  between_exchanges model.Phase.Guessed d e = absurd (d refl)
  between_exchanges model.Phase.Exchanging d e = absurd (cc (e, during_off 20 refl refl refl _ (awaits s.side 20 refl refl)))
  between_exchanges model.Phase.Keying d e = absurd (cc (e, during_off 20 refl refl refl _ refl))
  between_exchanges model.Phase.Normal d e = refl

  pub served : (n : ℕ) (side : Side) → s.side ≡ side → takes_in model.Phase.Normal s n ≡ true → (is_generic_transport n || takes_service side s.requested s.accepted n || (n == 7 && takes_announced s) || (n == 20 && s.authenticated) || is_unassigned n) ≡ true
  served n side same e = subst (λ (t : Side). (is_generic_transport n || takes_service t s.requested s.accepted n || (n == 7 && takes_announced s) || (n == 20 && s.authenticated) || is_unassigned n) ≡ true) same e

  request_in : (side : Side) → s.side ≡ side → takes_in model.Phase.Normal s 5 ≡ true → side ≡ Server
  request_in Server same e = refl
  request_in Client same e = absurd (cc (served 5 Client same e))

  pub requested_of : (phase : model.Phase) → (phase ≡ model.Phase.Guessed → ⊥) → takes_in phase s 5 ≡ true → s.side ≡ Server
  requested_of model.Phase.Start d e = absurd (cc (e, first_off 5 refl refl refl))
  requested_of model.Phase.Guessed d e = absurd (d refl)
  requested_of model.Phase.Exchanging d e = absurd (cc (e, during_off 5 refl refl refl _ (awaits s.side 5 refl refl)))
  requested_of model.Phase.Keying d e = absurd (cc (e, during_off 5 refl refl refl _ refl))
  requested_of model.Phase.Normal d e = request_in s.side refl e

  accept_in : (side : Side) → s.side ≡ side → takes_in model.Phase.Normal s 6 ≡ true → side ≡ Client
  accept_in Client same e = refl
  accept_in Server same e = absurd (cc (served 6 Server same e))

  pub accepted_of : (phase : model.Phase) → (phase ≡ model.Phase.Guessed → ⊥) → takes_in phase s 6 ≡ true → s.side ≡ Client
  accepted_of model.Phase.Start d e = absurd (cc (e, first_off 6 refl refl refl))
  accepted_of model.Phase.Guessed d e = absurd (d refl)
  accepted_of model.Phase.Exchanging d e = absurd (cc (e, during_off 6 refl refl refl _ (awaits s.side 6 refl refl)))
  accepted_of model.Phase.Keying d e = absurd (cc (e, during_off 6 refl refl refl _ refl))
  accepted_of model.Phase.Normal d e = accept_in s.side refl e

-- ---- what a payload is refused for

pub checked : (service : List ℕ) (good : Bool) (why : Refusal) → is_text service (codes "ssh-userauth") ≡ good → first_refusal (RefusedWhere (not (is_text service (codes "ssh-userauth"))) why ∷ []) ≡ first_refusal (RefusedWhere (not good) why ∷ [])
checked service good why e = ap (λ (b : Bool). first_refusal (RefusedWhere (not b) why ∷ [])) e

module _ {K : Type 0} (agreement : Agreement) (trusts : List ℕ → List ℕ → List ℕ → List ℕ → Bool) (s : Transport K) (payload : List ℕ) where
  pub reads : (message : Msg) → number_of payload < 50 → takes s (number_of payload) ≡ true → (s.phase ≡ model.Phase.Guessed → ⊥) → IsPayload false message payload → IsTransportMessage message → Reads s message payload
  reads message below taken no_guess is of = record { below = below; taken = taken; no_guess = no_guess; message_is = is; of_transport = of }

  because : (message : Msg) (why : types.Refusal) → number_of payload < 50 → takes s (number_of payload) ≡ true → (s.phase ≡ model.Phase.Guessed → ⊥) → IsPayload false message payload → MessageIs s message (classified.Refused why) →
      IsRefused agreement trusts s payload why
  because message why below taken no_guess is (classifying.MessageIs.requested service given) =
      turns.IsRefused.refused message none_chosen why (reads message below taken no_guess is tt) tt (checked service false NoService given.0 ∙ ap (λ (r : types.Refusal). Some r) (sym given.1))
  because message why below taken no_guess is (classifying.MessageIs.accepted service given) =
      turns.IsRefused.refused message none_chosen why (reads message below taken no_guess is tt) tt (checked service false Unexpected given.0 ∙ ap (λ (r : types.Refusal). Some r) (sym given.1))
  because message why below taken no_guess is (classifying.MessageIs.kexinit_refused theirs r first) =
      turns.IsRefused.refused message none_chosen why (reads message below taken no_guess is tt) tt first

  pub refused_by : (why : types.Refusal) → PayloadIs s payload (classified.Refused why) → IsRefused agreement trusts s payload why
  refused_by why (classifying.PayloadIs.out_of_place from off) = turns.IsRefused.out_of_place from off
  refused_by why (classifying.PayloadIs.unexpected below off) = turns.IsRefused.unexpected below off
  refused_by why (classifying.PayloadIs.bad_message below other taken no_guess none) = turns.IsRefused.bad_message below taken no_guess none
  refused_by why (classifying.PayloadIs.read message below taken no_guess is so) = because message why below taken no_guess is so

says_before : {K : Type 0} (c : Crypto K) (s : Transport K) (why : Refusal) (said : List Encoded) (more : List ℕ) → SaysWhy c (after_taken s) why said more → SaysWhy c s why said more
says_before c s why said more (turns.SaysWhy.silently e) = turns.SaysWhy.silently e
says_before c s why said more (turns.SaysWhy.spent e) = turns.SaysWhy.spent e
says_before c s why said more (turns.SaysWhy.said reason payload e x) = turns.SaysWhy.said reason payload e x

-- ---- the rows

abbrev buffered : {K : Type 0} → Transport K → K → Direction K → Transport K
buffered t key direction = record t { taking = renewed t.strict key direction; phase = model.Phase.Normal; pending = None }

abbrev granted : {K : Type 0} → Transport K → Transport K
granted t = record (after_sent t) { requested = true }

module _ {K : Type 0} (laws : PayloadLaws K) (p : Parties K) (side : Side) (h : List Item) (s : Transport K) (sums : SumsUp p side h s) (alive : s.dead ≡ false) (payload : List ℕ) where
  abbrev agreement : Agreement
  agreement = agreement_of p side

  quiet_turn : (done : TransportTurn) (items : List Item) (t new : Transport K) (o : Outs) → new ≡ t → IsQuiet o → Shows s payload done [] items → Turned p side h payload items [] t → IsTurn p side h s payload done new o
  quiet_turn done items t new o e quiet shows turned = record {
    said = [];
    items = items;
    more = [];
    shows = shows;
    turned = subst (λ (u : Transport K). Turned p side h payload items [] u) (sym e) turned;
    parts = quiet.out ∙ sym (append-nil o.before);
    lists = quiet.sent ∙ sym (append-nil o.payloads_before);
  }

  sent_turn : (done : TransportTurn) (said : List Encoded) (items : List Item) (t new : Transport K) (o : Outs) → new ≡ t → (x : Puts p.crypto s.sending said o) → Shows s payload done said items → Turned p side h payload items x.more t → IsTurn p side h s payload done new o
  sent_turn done said items t new o e x shows turned = record {
    said = said;
    items = items;
    more = x.more;
    shows = shows;
    turned = subst (λ (u : Transport K). Turned p side h payload items x.more u) (sym e) turned;
    parts = x.parts;
    lists = x.lists;
  }

  refused_row : (why : types.Refusal) (new : Transport K) (o : Outs) → PayloadIs s payload (classified.Refused why) → Refuses p.crypto (after_taken s) why new o → IsTurn p side h s payload (outcome.Refused why) new o
  refused_row why new o is x = record {
    said = x.said;
    items = refusal_items why (Some payload) x.said;
    more = x.more;
    shows = shown.Shows.refused why;
    turned = laws.refused p side h s sums alive payload why x.said x.more new (refused_by agreement p.trusts s payload why is) (says_before p.crypto s why x.said x.more x.says) (ap (λ (t : Transport K). t.dead) x.after);
    parts = x.parts;
    lists = x.lists;
  }

  skipped_row : (new : Transport K) (o : Outs) → PayloadIs s payload classified.Skipped → new ≡ after_guess s → IsQuiet o → IsTurn p side h s payload (outcome.Done handled.Skipped) new o
  skipped_row new o (classifying.PayloadIs.skipped below taken here) e quiet =
      quiet_turn (outcome.Done handled.Skipped) _ (after_guess s) new o e quiet shown.Shows.skipped (laws.skipped p side h s sums alive payload below taken here)
  skipped_row new o (classifying.PayloadIs.read message below taken no_guess is (classifying.MessageIs.requested service given)) e quiet = absurd given
  skipped_row new o (classifying.PayloadIs.read message below taken no_guess is (classifying.MessageIs.accepted service given)) e quiet = absurd given

  answered : (message : Msg) (given : Answered) (new : Transport K) (more : List ℕ) → Reads s message payload → IsAwaited s none_chosen message → first_refusal (message_checks agreement p.trusts none_chosen s message) ≡ None → Takes agreement s payload message given new → PutsPackets p.crypto s.sending given.sent more →
      Turned p side h payload (answer_items given ++ Took None message payload ∷ []) more new
  answered message given new more = laws.answered p side h s sums alive none_chosen message payload given new more

  number_at : (n : ℕ) (message : Msg) → IsPayload false message payload → message_number message ≡ n → takes s (number_of payload) ≡ true → takes_in s.phase s n ≡ true
  number_at n message is e taken = subst (λ (m : ℕ). takes_in s.phase s m ≡ true) (laws.numbers false message payload is ∙ e) taken

  told_row : (new : Transport K) (o : Outs) → PayloadIs s payload classified.Told → new ≡ after_taken s → IsQuiet o → IsTurn p side h s payload (outcome.Done handled.Told) new o
  told_row new o (classifying.PayloadIs.read message below taken no_guess is so) e quiet = go message is so
    where
      go : (message : Msg) → IsPayload false message payload → MessageIs s message classified.Told → IsTurn p side h s payload (outcome.Done handled.Told) new o
      go message is (classifying.MessageIs.ignored body) =
          quiet_turn (outcome.Done handled.Told) _ (after_taken s) new o e quiet (shown.Shows.told message _ is (shown.IsTold.ignore body))
          (answered message _ _ [] (reads agreement p.trusts s payload message below taken no_guess is tt) tt refl (Takes.ignore body) turns.PutsPackets.nothing)
      go message is (classifying.MessageIs.unimplemented number) =
          quiet_turn (outcome.Done handled.Told) _ (after_taken s) new o e quiet (shown.Shows.told message _ is (shown.IsTold.unimplemented number))
          (answered message _ _ [] (reads agreement p.trusts s payload message below taken no_guess is tt) tt refl (Takes.unimplemented number) turns.PutsPackets.nothing)
      go message is (classifying.MessageIs.debug display text language) =
          quiet_turn (outcome.Done handled.Told) _ (after_taken s) new o e quiet (shown.Shows.told message _ is (shown.IsTold.debug display text language))
          (answered message _ _ [] (reads agreement p.trusts s payload message below taken no_guess is tt) tt refl (Takes.debug display text language) turns.PutsPackets.nothing)
      go message is (classifying.MessageIs.extensions announced) =
          quiet_turn (outcome.Done handled.Told) _ (after_taken s) new o e quiet (shown.Shows.told message _ is (shown.IsTold.extensions announced))
          (answered message _ _ [] (reads agreement p.trusts s payload message below taken no_guess is tt) tt refl (Takes.extensions announced) turns.PutsPackets.nothing)
      go message is (classifying.MessageIs.requested service given) = absurd given
      go message is (classifying.MessageIs.accepted service given) = absurd given

  disconnected_row : (new : Transport K) (o : Outs) → PayloadIs s payload classified.Disconnected → new.dead ≡ true → IsQuiet o → IsTurn p side h s payload (outcome.Done handled.Disconnected) new o
  disconnected_row new o (classifying.PayloadIs.read message below taken no_guess is so) dead quiet = go message is so
    where
      go : (message : Msg) → IsPayload false message payload → MessageIs s message classified.Disconnected → IsTurn p side h s payload (outcome.Done handled.Disconnected) new o
      go message is (classifying.MessageIs.disconnected reason description language) =
          quiet_turn (outcome.Done handled.Disconnected) _ new new o refl quiet (shown.Shows.disconnected reason description language is)
          (laws.disconnected p side h s sums alive reason description language payload new (reads agreement p.trusts s payload message below taken no_guess is tt) dead)
      go message is (classifying.MessageIs.requested service given) = absurd given
      go message is (classifying.MessageIs.accepted service given) = absurd given

  accepted_row : (new : Transport K) (o : Outs) → PayloadIs s payload classified.ServiceAccepted → new ≡ record (after_taken s) { accepted = true } → IsQuiet o → IsTurn p side h s payload (outcome.Done handled.ServiceAccepted) new o
  accepted_row new o (classifying.PayloadIs.read message below taken no_guess is so) e quiet = go message is so
    where
      go : (message : Msg) → IsPayload false message payload → MessageIs s message classified.ServiceAccepted → IsTurn p side h s payload (outcome.Done handled.ServiceAccepted) new o
      go message is (classifying.MessageIs.requested service given) = absurd given
      go message is (classifying.MessageIs.accepted service given) =
          quiet_turn (outcome.Done handled.ServiceAccepted) _ _ new o e quiet (shown.Shows.service_accepted service is)
          (answered message _ _ [] (reads agreement p.trusts s payload message below taken no_guess is tt) tt (checked service true Unexpected given)
          (Takes.service_accept service (accepted_of s s.phase no_guess (number_at 6 message is refl taken))) turns.PutsPackets.nothing)

  newkeys_row : (given : TransportTurn) (old new : State K) (o : Outs) → old.kept ≡ after_taken s → old.receiver.direction ≡ old.kept.taking → PayloadIs s payload classified.NewKeys → NewkeysDone old given new o → IsTurn p side h s payload (outcome.Done handled.NewKeys) new.kept o
  newkeys_row given old new o same directions (classifying.PayloadIs.read message below taken no_guess is so) x = go message is so
    where
      go : (message : Msg) → IsPayload false message payload → MessageIs s message classified.NewKeys → IsTurn p side h s payload (outcome.Done handled.NewKeys) new.kept o
      go message is classifying.MessageIs.newkeys =
          quiet_turn (outcome.Done handled.NewKeys) _ _ new.kept o
          (ap (λ (t : State K). t.kept) x.taken.after ∙ ap (buffered old.kept x.taken.key) directions ∙ ap (λ (t : Transport K). buffered t x.taken.key t.taking) same)
          x.quiet (shown.Shows.newkeys is)
          (answered message _ _ [] (reads agreement p.trusts s payload message below taken no_guess is tt) tt refl
          (Takes.newkeys x.taken.key (newkeys_awaited s s.phase no_guess (number_at 21 message is refl taken)) (sym (ap (λ (t : Transport K). t.pending) same) ∙ x.taken.pending)) turns.PutsPackets.nothing)
      go message is (classifying.MessageIs.requested service given) = absurd given
      go message is (classifying.MessageIs.accepted service given) = absurd given

  -- ---- what is sent

  spent_turn : (message answer : Msg) (given : Answered) (reply : List ℕ) (next new : Transport K) (o : Outs) → Reads s message payload → IsAwaited s none_chosen message → first_refusal (message_checks agreement p.trusts none_chosen s message) ≡ None → given.sent ≡ EncodedBy answer reply ∷ [] → Takes agreement s payload message given next → IsEncoded answer reply →
      s.sending.count ≡ 2 ^ 32 → new.dead ≡ true → IsQuiet o → IsTurn p side h s payload (outcome.Refused NumberSpent) new o
  spent_turn message answer given reply next new o r w fine one t encoded none_left dead quiet =
      quiet_turn (outcome.Refused NumberSpent) _ new new o refl quiet (shown.Shows.refused NumberSpent)
      (laws.spent p side h s sums alive none_chosen message payload given next new r w fine t
      (subst (λ (l : List Encoded). AreEncoded (items_sent l)) (sym one) (encoded, tt))
      (subst (λ (l : List Encoded). 1 ≤ length l) (sym one) (omega arith))
      (subst (λ (l : List Encoded). 2 ^ 32 < s.sending.count + length l) (sym one) (omega (arith, none_left))) dead)

  unknown_row : (answer : SendOutcome) (old new : State K) (o : Outs) → old.kept ≡ after_taken s → s.taking.number < 2 ^ 32 → s.taking.count < 2 ^ 32 → PayloadIs s payload classified.Unknown →
      Answers p.crypto old (Unimplemented (last_number old.kept.taking)) (after_sent old.kept) answer new o → IsTurn p side h s payload (answer_outcome answer handled.Unknown) new.kept o
  unknown_row answer old new o same small room (classifying.PayloadIs.read message below taken no_guess is so) x = go message is so answer x
    where
      number_is : last_number old.kept.taking ≡ s.taking.number
      number_is = ap (λ (t : Transport K). last_number t.taking) same ∙ last_of s.taking.number small

      go : (message : Msg) → IsPayload false message payload → MessageIs s message classified.Unknown → (answer : SendOutcome) → Answers p.crypto old (Unimplemented (last_number old.kept.taking)) (after_sent old.kept) answer new o → IsTurn p side h s payload (answer_outcome answer handled.Unknown) new.kept o
      go message is (classifying.MessageIs.unknown number) Done x =
          let y : Puts p.crypto s.sending (EncodedBy (Unimplemented s.taking.number) x.sends.payload ∷ []) o =
          subst (λ (t : Transport K). Puts p.crypto t.sending (EncodedBy (Unimplemented s.taking.number) x.sends.payload ∷ []) o) same (subst (λ (n : ℕ). Puts p.crypto old.kept.sending (EncodedBy (Unimplemented n) x.sends.payload ∷ []) o) number_is x.sends.puts) in
          sent_turn (outcome.Done handled.Unknown) _ _ _ new.kept o (ap (λ (t : State K). t.kept) x.after ∙ ap after_sent same) y (shown.Shows.unknown number x.sends.payload is)
          (answered message _ _ y.more (reads agreement p.trusts s payload message below taken no_guess is tt) tt refl (Takes.unknown number x.sends.payload room) y.packets)
      go message is (classifying.MessageIs.unknown number) Spent x =
          let said = unimplemented_encoded s.taking.number small in
          spent_turn message (Unimplemented s.taking.number) (sends (EncodedBy (Unimplemented s.taking.number) said.payload ∷ [])) said.payload _ new.kept o (reads agreement p.trusts s payload message below taken no_guess is tt) tt refl refl (Takes.unknown number said.payload room)
          said.encodes (sym (ap (λ (t : Transport K). t.sending.count) same) ∙ x.none_left) (ap (λ (t : State K). t.kept.dead) x.after) x.quiet
      go message is (classifying.MessageIs.requested service given) answer x = absurd given
      go message is (classifying.MessageIs.accepted service given) answer x = absurd given

  requested_row : (answer : SendOutcome) (old new : State K) (o : Outs) → old.kept ≡ after_taken s → PayloadIs s payload classified.ServiceRequested →
      Answers p.crypto old (ServiceAccept (codes "ssh-userauth")) (record (after_sent old.kept) { requested = true }) answer new o → IsTurn p side h s payload (answer_outcome answer handled.ServiceRequested) new.kept o
  requested_row answer old new o same (classifying.PayloadIs.read message below taken no_guess is so) x = go message is so answer x
    where
      go : (message : Msg) → IsPayload false message payload → MessageIs s message classified.ServiceRequested → (answer : SendOutcome) → Answers p.crypto old (ServiceAccept (codes "ssh-userauth")) (record (after_sent old.kept) { requested = true }) answer new o → IsTurn p side h s payload (answer_outcome answer handled.ServiceRequested) new.kept o
      go message is (classifying.MessageIs.accepted service given) answer x = absurd given
      go message is (classifying.MessageIs.requested service given) Done x =
          let name : codes "ssh-userauth" ≡ service = sym (text_same service (codes "ssh-userauth") given) in
          let y : Puts p.crypto s.sending (EncodedBy (ServiceAccept service) x.sends.payload ∷ []) o =
          subst (λ (t : Transport K). Puts p.crypto t.sending (EncodedBy (ServiceAccept service) x.sends.payload ∷ []) o) same (subst (λ (n : List ℕ). Puts p.crypto old.kept.sending (EncodedBy (ServiceAccept n) x.sends.payload ∷ []) o) name x.sends.puts) in
          sent_turn (outcome.Done handled.ServiceRequested) _ _ _ new.kept o (ap (λ (t : State K). t.kept) x.after ∙ ap granted same) y (shown.Shows.service_requested service x.sends.payload is)
          (answered message _ _ y.more (reads agreement p.trusts s payload message below taken no_guess is tt) tt (checked service true NoService given)
          (Takes.service_request service x.sends.payload (requested_of s s.phase no_guess (number_at 5 message is refl taken))) y.packets)
      go message is (classifying.MessageIs.requested service given) Spent x =
          let said = accept_encoded service given in
          spent_turn message (ServiceAccept service) (sends (EncodedBy (ServiceAccept service) said.payload ∷ [])) said.payload _ new.kept o (reads agreement p.trusts s payload message below taken no_guess is tt) tt (checked service true NoService given) refl
          (Takes.service_request service said.payload (requested_of s s.phase no_guess (number_at 5 message is refl taken)))
          said.encodes (sym (ap (λ (t : Transport K). t.sending.count) same) ∙ x.none_left) (ap (λ (t : State K). t.kept.dead) x.after) x.quiet

-- ---- all rows

pub below_all : (n : ℕ) → n % 2 ^ 32 < 2 ^ 32
below_all n = omega arith

pub turns_lifted : {K : Type 0} → PayloadLaws K → (p : Parties K) (side : Side) (h : List Item) (s : Transport K) → SumsUp p side h s → s.dead ≡ false → (old : State K) (done : Share) (new : State K) (o : Outs) → old.kept ≡ after_taken s → Turns p.crypto old done new o → TurnOf p side h s old done new o
turns_lifted {K} laws p side h s sums alive old done new o same x = go x.what done judged_so x.does
  where
    small : s.taking.number < 2 ^ 32
    small = subst (λ (n : ℕ). n < 2 ^ 32) (sym (sums.live alive).taking.number_is) (below_all _)

    room : s.taking.count < 2 ^ 32
    room = few_taken s.taking.count (subst (λ (t : Transport K). t.taking.count ≤ 2 ^ 32) same x.numbered)

    judged_so : PayloadIs s old.receiver.payload x.what
    judged_so = subst (λ (t : Transport K). PayloadIs t old.receiver.payload x.what) (ap before_taken same ∙ before s small) x.payload_is

    turned : (given turn : TransportTurn) → given ≡ turn → IsTurn p side h s old.receiver.payload turn new.kept o → TurnOf p side h s old (Shared given) new o
    turned given turn e y = TurnOf.turned (subst (λ (t : TransportTurn). IsTurn p side h s old.receiver.payload t new.kept o) (sym e) y)

    left_here : (what left : Own) → PayloadIs s old.receiver.payload (classified_by what) → dispatching.IsLeft old what left new o → TurnOf p side h s old (OfRole left) new o
    left_here what left is y =
        TurnOf.of_role left (record { payload_is = subst (λ (w : Own). PayloadIs s old.receiver.payload (classified_by w)) (sym y.same) is; after = y.after; quiet = y.quiet })

    kept_after : (f : Transport K → Transport K) → new ≡ record old { kept = f old.kept } → new.kept ≡ f (after_taken s)
    kept_after f e = ap (λ (t : State K). t.kept) e ∙ ap f same

    go : (what : Classified) (done : Share) → PayloadIs s old.receiver.payload what → Does p.crypto old what done new o → TurnOf p side h s old done new o
    go (classified.Refused why) (Shared given) is y = turned given _ y.told (refused_row laws p side h s sums alive old.receiver.payload why new.kept o is (subst (λ (t : Transport K). Refuses p.crypto t why new.kept o) same y.refuses))
    go classified.Skipped (Shared given) is y = turned given _ y.told (skipped_row laws p side h s sums alive old.receiver.payload new.kept o is (kept_after (λ t. record t { phase = model.Phase.Exchanging }) y.becomes.after) y.becomes.quiet)
    go classified.Disconnected (Shared given) is y = turned given _ y.told (disconnected_row laws p side h s sums alive old.receiver.payload new.kept o is (ap (λ (t : State K). t.kept.dead) y.becomes.after) y.becomes.quiet)
    go classified.Told (Shared given) is y = turned given _ y.told (told_row laws p side h s sums alive old.receiver.payload new.kept o is (kept_after (λ t. t) y.becomes.after) y.becomes.quiet)
    go classified.Unknown (Shared given) is y = turned given _ y.told (unknown_row laws p side h s sums alive old.receiver.payload y.answer old new o same small room is y.answers)
    go classified.ServiceRequested (Shared given) is y = turned given _ y.told (requested_row laws p side h s sums alive old.receiver.payload y.answer old new o same is y.answers)
    go classified.ServiceAccepted (Shared given) is y = turned given _ y.told (accepted_row laws p side h s sums alive old.receiver.payload new.kept o is (kept_after (λ t. record t { accepted = true }) y.becomes.after) y.becomes.quiet)
    go (classified.Kexinit facts) (OfRole left) is y = left_here (own.Own.Kexinit facts) left is y
    go classified.NewKeys (Shared given) is y = turned given _ y.told (newkeys_row laws p side h s sums alive old.receiver.payload given old new o same (sym x.directed) is y)
    go classified.EcdhInit (OfRole left) is y = left_here own.Own.EcdhInit left is y
    go classified.Reply (OfRole left) is y = left_here own.Own.Reply left is y
    go classified.Above (Shared given) is y = TurnOf.above y.told (record { payload_is = is; after = y.becomes.after; quiet = y.becomes.quiet })
    go _ _ is y = absurd y
