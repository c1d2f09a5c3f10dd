-- Where memory fails an end dies as in a session.
use Rattle.std.proofs.Common.{◌≡◌, ℕ, suc, ◌+◌, ◌^◌, ◌≤◌, List, [], ◌∷◌, ◌++◌, length, refl, ap, arith, false, Option, Some, None}
use Rattle.ssh_model.specs.declared.side.Side.{Side}
use Rattle.ssh_model.specs.Protocol.Wire.Message.{Msg}
use Rattle.ssh_model.specs.Protocol.KeyExchange.Choice.{Chosen}
use Rattle.ssh_model.specs.declared.refusal.Refusal.{Refusal}
use Rattle.ssh_model.specs.Protocol.Sessions.Parties.{Parties, agreement_of}
use Rattle.ssh_model.specs.Protocol.Sessions.Items.{Fact, Fact.Completed, Item, Item.Took, Item.Told, Encoded, Encoded.EncodedBy, sent, messages_sent}
use Rattle.ssh_model.specs.Protocol.Sessions.Epochs.{count}
use Rattle.ssh_model.specs.Protocol.Sessions.Turns as session
use Rattle.ssh_model.specs.Protocol.Sessions.Turns.{AreNumbered, AreEncoded, OnPayload, Refuses}
use Rattle.ssh_model.specs.Protocol.Channels.Connection.{owed_replies}
use Rattle.ssh_model.specs.State.Channels.Kept.{Channels}
use Rattle.ssh_model.specs.State.TransportLayer.Kept.{Answered, Completes, Takes, Transport}
use Rattle.ssh_model.specs.State.TransportLayer.Kept as kept
use Rattle.ssh_model.specs.State.TransportLayer.Summary.{Live, answer_items, items_sent, parts_of, told_over}
use Rattle.ssh_model.specs.State.TransportLayer.View.{view}
use Rattle.ssh_model.specs.State.End.State.{EndState}
use Rattle.ssh_model.specs.State.End.Summary.{EndSumsUp}
use Rattle.ssh_model.specs.State.End.Payloads.{Admits, GivesOwed}
use Rattle.ssh_model.specs.State.End.Deaths.{CanSay, WouldTake, said_items}
use Rattle.ssh_model.specs.State.End.Deaths as end
use Rattle.ssh_model.proofs.TransportLayer.Ending.{both_numbered, both_encoded}
use Rattle.ssh_model.proofs.TransportLayer.Packets.{AreOther, stands_live, stands_taken}
use Rattle.ssh_model.proofs.TransportLayer.Rows.{accepted, ends_row}
use Rattle.ssh_model.proofs.TransportLayer.Turning.{refused_so, stands_row, welcomed}
use Rattle.ssh_model.proofs.WholeEnd.Above.{welcomed_above}
use Rattle.ssh_model.proofs.WholeEnd.Answers.{answered_above}
use Rattle.ssh_model.proofs.WholeEnd.Ending.{all_given}
use Rattle.ssh_model.proofs.WholeEnd.Out.{AreAnswers, all_numbered}
use Rattle.ssh_model.proofs.WholeEnd.Owed.{given, gives_length}
use Rattle.ssh_model.proofs.WholeEnd.Payloads as payloads

-- ---- items of messages

answers_sent : (l : List Encoded) → AreOther l → AreAnswers (items_sent l)
answers_sent [] n = tt
answers_sent (EncodedBy m b ∷ l) n = (n.0, answers_sent l n.1)

sent_length : (l : List Encoded) → length (messages_sent (items_sent l)) ≡ length l
sent_length [] = refl
sent_length (EncodedBy m b ∷ l) = ap suc (sent_length l)

fact_answers : (fact : Option Fact) (l : List Item) → AreAnswers l → AreAnswers (told_over fact l)
fact_answers None l n = n
fact_answers (Some fact) l n = n

fact_length : (fact : Option Fact) (l : List Item) → length (messages_sent (told_over fact l)) ≡ length (messages_sent l)
fact_length None l = refl
fact_length (Some fact) l = refl

fact_encoded : (fact : Option Fact) (l : List Item) → AreEncoded l → AreEncoded (told_over fact l)
fact_encoded None l x = x
fact_encoded (Some fact) l x = x

-- ---- the end of an exchange: its numbers

-- after NEWKEYS the numbers begin anew
ended_numbered : {K : Type 0} (p : Parties K) (side : Side) (h : List Item) (s : Transport K) (c : Chosen) (payload : List ℕ) (m : Msg) (last announced : List Encoded) (completed new : Transport K) → s.sending.count ≡ count (sent h) →
    Completes p.crypto (parts_of p side) c s m last announced completed new → s.sending.count + length last ≤ 2 ^ 32 →
    AreNumbered (items_sent (announced ++ last)) (Took None m payload ∷ h) × (count (sent (items_sent (announced ++ last) ++ (Took None m payload ∷ h))) ≡ length announced)
ended_numbered p side h s c payload m last announced completed new is (kept.Completes.reply k_s q_s signature newkeys e here chosen (kept.Announces.extensions ext f)) few = ((omega arith, (omega (arith, few, is), tt)), refl)
ended_numbered p side h s c payload m last announced completed new is (kept.Completes.reply k_s q_s signature newkeys e here chosen (kept.Announces.nothing f)) few = ((omega (arith, few, is), tt), refl)
ended_numbered p side h s c payload m last announced completed new is (kept.Completes.init q_c reply newkeys e here chosen (kept.Announces.extensions ext f)) few = ((omega arith, (omega (arith, few, is), (omega (arith, few, is), tt))), refl)
ended_numbered p side h s c payload m last announced completed new is (kept.Completes.init q_c reply newkeys e here chosen (kept.Announces.nothing f)) few = ((omega (arith, few, is), (omega (arith, few, is), tt)), refl)

announced_few : {K : Type 0} (p : Parties K) (side : Side) (s : Transport K) (c : Chosen) (m : Msg) (last announced : List Encoded) (completed new : Transport K) → Completes p.crypto (parts_of p side) c s m last announced completed new → length announced ≤ 1
announced_few p side s c m last announced completed new (kept.Completes.reply k_s q_s signature newkeys e here is (kept.Announces.extensions ext f)) = omega arith
announced_few p side s c m last announced completed new (kept.Completes.reply k_s q_s signature newkeys e here is (kept.Announces.nothing f)) = omega arith
announced_few p side s c m last announced completed new (kept.Completes.init q_c reply newkeys e here is (kept.Announces.extensions ext f)) = omega arith
announced_few p side s c m last announced completed new (kept.Completes.init q_c reply newkeys e here is (kept.Announces.nothing f)) = omega arith

module _ {K : Type 0} (p : Parties K) (side : Side) (h : List Item) (e : EndState K) (sums : EndSumsUp p side h e) (alive : e.transport.dead ≡ false) where
  live : Live p side (view p side h) e.transport
  live = sums.transport.live alive

  -- a refusal that can be said
  pub said : (why : Refusal) (payload : Option (List ℕ)) (reason : ℕ) (b : List ℕ) → CanSay e.transport why reason b → Refuses h why payload (said_items why payload reason b)
  said why payload reason b x = session.Refuses.said reason b x.reason_is (omega (arith, x.few, live.sending.count_is)) x.encoded

  would_answer : (c : Chosen) (m : Msg) (payload : List ℕ) (answered : Answered) (s : Transport K) → Admits p side e.transport c m payload → Takes (agreement_of p side) e.transport payload m answered s → AreEncoded (items_sent answered.sent) →
      e.transport.sending.count + length answered.sent ≤ 2 ^ 32 → OnPayload p side h payload (answer_items answered ++ Took None m payload ∷ [])
  would_answer c m payload answered s a x encoded few =
      let y = stands_row p side h e.transport sums.transport alive payload m answered s x in
      let l = items_sent answered.sent in
      session.OnPayload.takes None m (welcomed p side h e.transport sums.transport alive c m payload a.reads a.awaited a.unrefused)
      (session.Answer.of_transport (accepted p side h e.transport sums.transport alive payload m answered s x).answer) (fact_encoded answered.fact l encoded)
      (all_numbered (Took None m payload ∷ h) (told_over answered.fact l) (fact_answers answered.fact l (answers_sent answered.sent y.1))
      (omega (arith, y.0.sums.count_is, few, fact_length answered.fact l, sent_length answered.sent)))

  would_end : (c : Chosen) (m : Msg) (payload : List ℕ) (last announced : List Encoded) (completed s : Transport K) (owed : List Item) (n : Channels) → Admits p side e.transport c m payload →
      Completes p.crypto (parts_of p side) c e.transport m last announced completed s → AreEncoded (items_sent (announced ++ last)) → e.transport.sending.count + length last ≤ 2 ^ 32 → GivesOwed e.channels owed n → n.owed ≡ [] → AreEncoded owed → OnPayload p side h payload ((Told (Completed (e.transport.sending.epoch + 1)) ∷ (owed ++ items_sent (announced ++ last))) ++ Took None m payload ∷ [])
  would_end c m payload last announced completed s owed n a x encoded few o none owed_encoded =
      let above = sums.above alive in
      let row = ends_row p h e.transport alive c side sums.transport payload m last announced completed s x in
      let v = given side h (owed_replies side h) e.authentication e.channels above.channels_sum above.authentication_sums owed n o in
      let replies = all_given side h (owed_replies side h) e.authentication owed n v none in
      let numbered = ended_numbered p side h e.transport c payload m last announced completed s live.sending.count_is x few in
      session.OnPayload.takes None m (welcomed p side h e.transport sums.transport alive c m payload a.reads a.awaited a.unrefused) (session.Answer.of_completion replies (row.answer owed))
      (both_encoded owed (items_sent (announced ++ last)) owed_encoded encoded)
      (both_numbered owed (items_sent (announced ++ last)) (Took None m payload ∷ h) (all_numbered (items_sent (announced ++ last) ++ (Took None m payload ∷ h)) owed v.answers (omega (arith, numbered.1, announced_few p side e.transport c m last announced completed s x, above.few_owed, gives_length e.channels owed n o))) numbered.0)

  pub would : (payload : List ℕ) (items : List Item) → WouldTake p side e payload items → OnPayload p side h payload items
  would payload items (end.WouldTake.answered c m answered s a x encoded few) = would_answer c m payload answered s a x encoded few
  would payload items (end.WouldTake.ended {owed = owed} {channels = n} c m last announced completed s a x encoded few o none owed_encoded) = would_end c m payload last announced completed s owed n a x encoded few o none owed_encoded
  would payload items (end.WouldTake.above {items = l} {authentication = a} {channels = n} m c r fine x encoded few) =
      let v = answered_above p side h e sums alive m payload c l a n r fine x in
      let st = stands_taken p side h c m payload e.transport.sending v.no_offer (stands_live p side h e.transport live) in
      session.OnPayload.takes c m (welcomed_above p side h e sums alive m payload r fine) v.answer encoded (all_numbered (Took c m payload ∷ h) l v.answers (omega (arith, st.sums.count_is, few)))
  would payload items (end.WouldTake.refused_below why reason b r x) = refused_so p side h e.transport sums.transport alive payload why items r (said why (Some payload) reason b x)
  would payload items (end.WouldTake.refused_above why reason b r x) = payloads.refused_so p side h e sums alive payload why items r (said why (Some payload) reason b x)
