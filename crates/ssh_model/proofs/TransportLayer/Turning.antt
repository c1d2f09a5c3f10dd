-- What a transport does with a payload, by what it keeps, is a turn of a session.
use Rattle.std.proofs.Common.{◌≡◌, ℕ, suc, ◌+◌, ◌^◌, ◌<◌, ◌≤◌, List, [], ◌∷◌, ◌++◌, length, refl, ap, sym, ◌∙◌, subst, arith, Bool, true, false, not, ◌==◌, if◌then◌else◌, IsTrue, Some, None, Option, append-nil, append_assoc}
use Rattle.ssh_model.specs.declared.side.Side.{Side}
use Rattle.ssh_model.specs.Protocol.Wire.Message.{Msg, Msg.Disconnect, Msg.NewKeys, Msg.UserauthPkOk, Msg.Unknown, IsPayload, FitsContext, is_known, message_number}
use Rattle.ssh_model.specs.Protocol.KeyExchange.Choice.{Chosen}
use Rattle.ssh_model.specs.Protocol.KeyExchange.Exchanges.{offers}
use Rattle.ssh_model.specs.declared.refusal.Refusal.{Refusal}
use Rattle.ssh_model.specs.declared.refusal.Refusal.TheVariants.{NumberSpent}
use Rattle.ssh_model.specs.Protocol.Sessions.Refusals.{first_refusal, refusal_name}
use Rattle.ssh_model.specs.Protocol.Sessions.Parties.{Parties, agreement_of}
use Rattle.ssh_model.specs.Protocol.Sessions.Items.{Fact, Fact.Disconnected, Fact.Ignored, Item, Item.Sent, Item.Took, Item.TookGuess, Item.Told, Item.Refused, Item.Died, Encoded, Encoded.EncodedBy, sent, messages_sent}
use Rattle.ssh_model.specs.Protocol.Sessions.Epochs.{count}
use Rattle.ssh_model.specs.Protocol.Sessions.Events.{PutsOut, PutsOut.other as put_other}
use Rattle.ssh_model.specs.Protocol.Sessions.Phases.{Phase.Guessed, is_normal, probing}
use Rattle.ssh_model.specs.Protocol.Sessions.Transport as row
use Rattle.ssh_model.specs.Protocol.Sessions.Turns as session
use Rattle.ssh_model.specs.Protocol.Sessions.Turns.{AreNumbered, AreEncoded, IsEncoded, OnPayload, IsAcceptable, answer_checks, number_of}
use Rattle.ssh_model.specs.State.TransportLayer.Kept.{Answered, Completes, Takes, Transport, is_between, message_checks, takes}
use Rattle.ssh_model.specs.State.TransportLayer.Kept as kept
use Rattle.ssh_model.specs.State.TransportLayer.Summary.{IsAwaited, SumsUp, answer_items, items_sent, told_over}
use Rattle.ssh_model.specs.State.TransportLayer.Turns as turns
use Rattle.ssh_model.specs.State.TransportLayer.Turns.{EndedBy, IsRefused, PutOut, PutsPackets, Reads, SaysWhy, Turned, UnitRefused, counted_by, refusal_items}
use Rattle.ssh_model.proofs.TransportLayer.Checks.{messages_same}
use Rattle.ssh_model.proofs.Items as items
use Rattle.ssh_model.proofs.TransportLayer.Numbers.{above_in_exchange, not_number, numbers_are}
use Rattle.ssh_model.proofs.TransportLayer.Packets.{AreOther, IsOther, Stands, packets_out, stands_by, stands_live, stands_offer, stands_taken}
use Rattle.ssh_model.proofs.TransportLayer.Rows.{accepted, guess_taken}
use Rattle.ssh_model.proofs.Wire.Payloads.{payload_number}

-- ---- below 50 the context of a payload says nothing

context_by : (one other : Bool) (m : Msg) → message_number m < 50 → FitsContext one m → FitsContext other m
context_by one other (UserauthPkOk algorithm key) l c = absurd (omega (arith, l))
context_by one other (Unknown n) l c =
    let off : (n == 60) ≡ false = not_number n 60 (λ e. omega (arith, e, l)) in
    subst (λ (b : Bool). IsTrue (if b then not other else not (is_known n))) (sym off) (subst (λ (b : Bool). IsTrue (if b then not one else not (is_known n))) off c)
context_by one other m l c = tt

pub payload_by : (one other : Bool) (m : Msg) (payload : List ℕ) → number_of payload < 50 → IsPayload one m payload → IsPayload other m payload
payload_by one other m payload l x = record { context = context_by one other m (subst (λ (n : ℕ). n < 50) (payload_number one m payload x) l) x.context; row = x.row }

one_more : (g : List Item) (m : Msg) (b : List ℕ) (l : List Encoded) → IsOther m → count (sent (items_sent l ++ g)) ≡ count (sent g) + length l → count (sent (Sent None m b ∷ items_sent l ++ g)) ≡ count (sent g) + suc (length l)
one_more g NewKeys b l n e = elim n [ ]
one_more g m b l n e = omega (arith, e)

module _ {K : Type 0} (p : Parties K) (side : Side) (h : List Item) (s : Transport K) (sums : SumsUp p side h s) (alive : s.dead ≡ false) where
  pub welcomed : (c : Chosen) (m : Msg) (payload : List ℕ) → Reads s m payload → IsAwaited s c m → first_refusal (message_checks (agreement_of p side) p.trusts c s m) ≡ None → IsAcceptable p side h m payload
  welcomed c m payload r w fine = record {
    read = numbers_are p side h s sums alive (number_of payload) r.below ∙ r.taken;
    no_guess = λ e. r.no_guess ((sums.live alive).phase_is ∙ e);
    message_is = payload_by false (probing h) m payload r.below r.message_is;
    not_refused = messages_same p h s side sums alive m c r.of_transport w ∙ fine;
  }

  -- ---- a message that ends no exchange

  opened : 1 ≤ length (offers (messages_sent h))
  opened = (sums.live alive).counts.opened

  pub stands_row : (payload : List ℕ) (m : Msg) (answered : Answered) (new : Transport K) → Takes (agreement_of p side) s payload m answered new → Stands p side (Took None m payload ∷ h) s.sending × AreOther answered.sent
  stands_row payload m answered new (kept.Takes.ignore body) = (stands_taken p side h None _ payload s.sending tt (stands_live p side h s (sums.live alive)), tt)
  stands_row payload m answered new (kept.Takes.unimplemented n) = (stands_taken p side h None _ payload s.sending tt (stands_live p side h s (sums.live alive)), tt)
  stands_row payload m answered new (kept.Takes.debug display text language) = (stands_taken p side h None _ payload s.sending tt (stands_live p side h s (sums.live alive)), tt)
  stands_row payload m answered new (kept.Takes.extensions announced) = (stands_taken p side h None _ payload s.sending tt (stands_live p side h s (sums.live alive)), tt)
  stands_row payload m answered new (kept.Takes.unknown n reply few) = (stands_taken p side h None _ payload s.sending tt (stands_live p side h s (sums.live alive)), (tt, tt))
  stands_row payload m answered new (kept.Takes.service_request service reply e) = (stands_taken p side h None _ payload s.sending tt (stands_live p side h s (sums.live alive)), (tt, tt))
  stands_row payload m answered new (kept.Takes.service_accept service e) = (stands_taken p side h None _ payload s.sending tt (stands_live p side h s (sums.live alive)), tt)
  stands_row payload m answered new (kept.Takes.kexinit_at_server theirs e between read shut) =
      let a = sums.live alive in (stands_offer p side h s a None theirs payload (ap is_between (sym a.phase_is) ∙ between), tt)
  stands_row payload m answered new (kept.Takes.kexinit_at_client theirs init e between read shut) =
      let a = sums.live alive in (stands_offer p side h s a None theirs payload (ap is_between (sym a.phase_is) ∙ between), (tt, tt))
  stands_row payload m answered new (kept.Takes.answered_at_server theirs own material e between read free has) =
      let a = sums.live alive in (stands_offer p side h s a None theirs payload (ap is_between (sym a.phase_is) ∙ between), (tt, tt))
  stands_row payload m answered new (kept.Takes.answered_at_client theirs own init material e between read free has) =
      let a = sums.live alive in (stands_offer p side h s a None theirs payload (ap is_between (sym a.phase_is) ∙ between), (tt, (tt, tt)))
  stands_row payload m answered new (kept.Takes.newkeys key here has) = (stands_taken p side h None _ payload s.sending tt (stands_live p side h s (sums.live alive)), tt)

  told_out : (g items : List Item) (fact : Option Fact) (more : List ℕ) → PutOut p side g items more → PutOut p side g (told_over fact items) more
  told_out g items None more out = out
  told_out g items (Some fact) more out = record { encoded = out.encoded; numbered = out.numbered; puts = λ bytes x. put_other (Told fact) tt (out.puts bytes x) }

  following : (l : List Item) (i : Item) → (l ++ i ∷ []) ++ h ≡ l ++ (i ∷ h)
  following l i = append_assoc l (i ∷ []) h

  pub turned : (c : Chosen) (m : Msg) (payload : List ℕ) (answered : Answered) (new : Transport K) (more : List ℕ) → Reads s m payload → IsAwaited s c m →
      first_refusal (message_checks (agreement_of p side) p.trusts c s m) ≡ None → Takes (agreement_of p side) s payload m answered new → PutsPackets p.crypto s.sending answered.sent more →
      Turned p side h payload (answer_items answered ++ Took None m payload ∷ []) more new
  turned c m payload answered new more r w fine t x =
      let row = accepted p side h s sums alive payload m answered new t in
      let y = stands_row payload m answered new t in
      let o = packets_out p side (Took None m payload ∷ h) s.sending y.0 opened answered.sent more y.1 x in
      let out = told_out (Took None m payload ∷ h) (items_sent answered.sent) answered.fact more o.out in
      record {
        turn = session.OnPayload.takes None m (welcomed c m payload r w fine) (session.Answer.of_transport row.answer) out.encoded out.numbered;
        sums = subst (λ (l : List Item). SumsUp p side l new) (sym (following (answer_items answered) (Took None m payload))) row.sums;
        puts = λ bytes z. subst (λ (l : List Item). PutsOut p side l (bytes ++ more)) (sym (following (answer_items answered) (Took None m payload))) (out.puts bytes (put_other (Took None m payload) tt z));
      }

  -- ---- the packet after a wrong guess

  pub skipped : (payload : List ℕ) → number_of payload < 50 → takes s (number_of payload) ≡ true → s.phase ≡ Guessed → Turned p side h payload (Told Ignored ∷ TookGuess payload ∷ []) [] (kept.after_guess s)
  skipped payload below taken here = record {
    turn = session.OnPayload.skips (sym (sums.live alive).phase_is ∙ here) (numbers_are p side h s sums alive (number_of payload) below ∙ taken);
    sums = items.left p side (TookGuess payload ∷ h) (kept.after_guess s) (Told Ignored) tt (guess_taken p side h s payload here sums);
    puts = λ bytes z. subst (λ (t : List ℕ). PutsOut p side (Told Ignored ∷ TookGuess payload ∷ h) t) (sym (append-nil bytes)) (put_other (Told Ignored) tt (put_other (TookGuess payload) tt z));
  }

  -- ---- DISCONNECT

  pub disconnected : (reason : ℕ) (text language payload : List ℕ) (new : Transport K) → Reads s (Disconnect reason text language) payload → new.dead ≡ true →
      Turned p side h payload (Died ∷ Told (Disconnected reason text) ∷ Took None (Disconnect reason text language) payload ∷ []) [] new
  disconnected reason text language payload new r d = record {
    turn = session.OnPayload.takes None (Disconnect reason text language)
        (record {
          read = numbers_are p side h s sums alive (number_of payload) r.below ∙ r.taken;
          no_guess = λ e. r.no_guess ((sums.live alive).phase_is ∙ e);
          message_is = payload_by false (probing h) (Disconnect reason text language) payload r.below r.message_is;
          not_refused = refl;
        })
        (session.Answer.of_transport (row.TransportAnswer.disconnect reason text language)) tt tt;
    sums = record { dead_is = d; live = λ z. absurd (cc (z, d)) };
    puts = λ bytes z. subst (λ (t : List ℕ). PutsOut p side (Died ∷ Told (Disconnected reason text) ∷ Took None (Disconnect reason text language) payload ∷ h) t) (sym (append-nil bytes))
        (put_other Died tt (put_other (Told (Disconnected reason text)) tt (put_other (Took None (Disconnect reason text language) payload) tt z)));
  }

  -- ---- refusals

  stands_refused : (why : Refusal) (payload : Option (List ℕ)) → Stands p side (Refused why payload ∷ h) s.sending
  stands_refused why payload = stands_by p side (Refused why payload ∷ h) h s.sending refl refl refl refl (stands_live p side h s (sums.live alive))

  pub said_so : (why : Refusal) (payload : Option (List ℕ)) (l : List Encoded) (more : List ℕ) → SaysWhy p.crypto s why l more → session.Refuses h why payload (refusal_items why payload l)
  said_so why payload l more (turns.SaysWhy.silently e) = session.Refuses.silently e
  said_so why payload l more (turns.SaysWhy.spent e) = session.Refuses.spent (sym (sums.live alive).sending.count_is ∙ e)
  said_so why payload l more (turns.SaysWhy.said reason b e (turns.PutsPackets.packet m b2 wire x encoded few sealed)) =
      session.Refuses.said reason b e (omega (arith, (sums.live alive).sending.count_is, none_before x few)) encoded
    where
      none_before : {before : List ℕ} → PutsPackets p.crypto s.sending [] before → (counted_by {A = Encoded} [] s.sending).count < 2 ^ 32 → s.sending.count < 2 ^ 32
      none_before y f = f

  pub said_out : (why : Refusal) (payload : Option (List ℕ)) (l : List Encoded) (more : List ℕ) → SaysWhy p.crypto s why l more → (bytes : List ℕ) → PutsOut p side h bytes → PutsOut p side (refusal_items why payload l ++ h) (bytes ++ more)
  said_out why payload l more (turns.SaysWhy.silently e) bytes z =
      subst (λ (t : List ℕ). PutsOut p side (Died ∷ Refused why payload ∷ h) t) (sym (append-nil bytes)) (put_other Died tt (put_other (Refused why payload) tt z))
  said_out why payload l more (turns.SaysWhy.spent e) bytes z =
      subst (λ (t : List ℕ). PutsOut p side (Died ∷ Refused why payload ∷ h) t) (sym (append-nil bytes)) (put_other Died tt (put_other (Refused why payload) tt z))
  said_out why payload l more (turns.SaysWhy.said reason b e x) bytes z =
      let o = packets_out p side (Refused why payload ∷ h) s.sending (stands_refused why payload) opened (EncodedBy (Disconnect reason (refusal_name why) []) b ∷ []) more (tt, tt) x in
      put_other Died tt (o.out.puts bytes (put_other (Refused why payload) tt z))

  pub refused_so : (payload : List ℕ) (why : Refusal) (said : List Item) → IsRefused (agreement_of p side) p.trusts s payload why → session.Refuses h why (Some payload) said → OnPayload p side h payload said
  refused_so payload why l (turns.IsRefused.unexpected below off) x = session.OnPayload.unexpected (numbers_are p side h s sums alive (number_of payload) below ∙ off) x
  refused_so payload why l (turns.IsRefused.out_of_place above busy) x = session.OnPayload.unexpected (above_in_exchange p side h (number_of payload) above (ap is_normal (sym (sums.live alive).phase_is) ∙ busy)) x
  refused_so payload why l (turns.IsRefused.bad_message below on no_guess none) x =
      session.OnPayload.bad_message (numbers_are p side h s sums alive (number_of payload) below ∙ on) (λ e. no_guess ((sums.live alive).phase_is ∙ e)) (λ m y. none m (payload_by (probing h) false m payload below y)) x
  refused_so payload why l (turns.IsRefused.refused m c why2 r w e) x =
      session.OnPayload.refuses m why2 (numbers_are p side h s sums alive (number_of payload) r.below ∙ r.taken) (λ f. r.no_guess ((sums.live alive).phase_is ∙ f))
      (payload_by false (probing h) m payload r.below r.message_is) (messages_same p h s side sums alive m c r.of_transport w ∙ e) x

  pub refused : (payload : List ℕ) (why : Refusal) (l : List Encoded) (more : List ℕ) (new : Transport K) → IsRefused (agreement_of p side) p.trusts s payload why → SaysWhy p.crypto s why l more → new.dead ≡ true →
      Turned p side h payload (refusal_items why (Some payload) l) more new
  refused payload why l more new r x d = record {
    turn = refused_so payload why (refusal_items why (Some payload) l) r (said_so why (Some payload) l more x);
    sums = record { dead_is = d; live = λ z. absurd (cc (z, d)) };
    puts = said_out why (Some payload) l more x;
  }

  pub unit_refused : (why : Refusal) (l : List Encoded) (more : List ℕ) (new : Transport K) → SaysWhy p.crypto s why l more → new.dead ≡ true → UnitRefused p side h (refusal_items why None l) why more new
  unit_refused why l more new x d = record {
    refuses = said_so why None l more x;
    sums = record { dead_is = d; live = λ z. absurd (cc (z, d)) };
    puts = said_out why None l more x;
  }

  -- ---- numbers that are spent

  counts_on : (g : List Item) (l : List Encoded) → AreOther l → count (sent (items_sent l ++ g)) ≡ count (sent g) + length l
  counts_on g [] n = omega arith
  counts_on g (EncodedBy m b ∷ l) n = one_more g m b l n.0 (counts_on g l n.1)

  not_left : (g : List Item) (m : Msg) (b : List ℕ) (l : List Encoded) → AreOther l → 2 ^ 32 < count (sent g) + length (EncodedBy m b ∷ l) → AreNumbered (items_sent (EncodedBy m b ∷ l)) g → ⊥
  not_left g m b l n few x = omega (arith, x.0, counts_on g l n, few)

  fact_encoded : (fact : Option Fact) (items : List Item) → AreEncoded items → AreEncoded (told_over fact items)
  fact_encoded None items x = x
  fact_encoded (Some fact) items x = x

  fact_numbered : (fact : Option Fact) (items g : List Item) → AreNumbered (told_over fact items) g → AreNumbered items g
  fact_numbered None items g x = x
  fact_numbered (Some fact) items g x = x

  silent_out : (why : Refusal) (payload : Option (List ℕ)) (bytes : List ℕ) → PutsOut p side h bytes → PutsOut p side (Died ∷ Refused why payload ∷ h) (bytes ++ [])
  silent_out why payload bytes z = subst (λ (t : List ℕ). PutsOut p side (Died ∷ Refused why payload ∷ h) t) (sym (append-nil bytes)) (put_other Died tt (put_other (Refused why payload) tt z))

  pub spent : (c : Chosen) (m : Msg) (payload : List ℕ) (answered : Answered) (new dead : Transport K) → Reads s m payload → IsAwaited s c m →
      first_refusal (message_checks (agreement_of p side) p.trusts c s m) ≡ None → Takes (agreement_of p side) s payload m answered new →
      AreEncoded (items_sent answered.sent) → 1 ≤ length answered.sent → 2 ^ 32 < s.sending.count + length answered.sent → dead.dead ≡ true →
      Turned p side h payload (Died ∷ Refused NumberSpent (Some payload) ∷ []) [] dead
  spent c m payload answered new dead r w fine t encoded some few d = record {
    turn = session.OnPayload.spends None m (welcomed c m payload r w fine) (session.Answer.of_transport (accepted p side h s sums alive payload m answered new t).answer)
        (fact_encoded answered.fact (items_sent answered.sent) encoded)
        (λ n. none answered.sent (stands_row payload m answered new t).1 some few (fact_numbered answered.fact (items_sent answered.sent) (Took None m payload ∷ h) n));
    sums = record { dead_is = d; live = λ z. absurd (cc (z, d)) };
    puts = silent_out NumberSpent (Some payload);
  }
    where
      counted_here : count (sent (Took None m payload ∷ h)) ≡ s.sending.count
      counted_here = sym (stands_row payload m answered new t).0.sums.count_is

      none : (l : List Encoded) → AreOther l → 1 ≤ length l → 2 ^ 32 < s.sending.count + length l → AreNumbered (items_sent l) (Took None m payload ∷ h) → ⊥
      none [] n one few x = absurd (omega (arith, one))
      none (EncodedBy m b ∷ l) n one few x = not_left (Took None _ payload ∷ h) m b l n.1 (omega (arith, few, counted_here)) x
