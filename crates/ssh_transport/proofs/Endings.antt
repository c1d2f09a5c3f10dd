-- How an exchange of keys ends, as a turn of a session of either side: over the message that ends it.
use Rattle.std.proofs.Common.{◌≡◌, ℕ, ◌+◌, ◌<◌, ◌≤◌, ◌^◌, true, false, List, [], ◌∷◌, ◌++◌, length, refl, ap, sym, ◌∙◌, subst, Option, Some, None}
use Rattle.ssh_model.specs.declared.side.Side.{Side}
use Rattle.ssh_model.specs.Protocol.Wire.Message.{Msg, Msg.Disconnect, Msg.NewKeys}
use Rattle.ssh_message.specs.Meaning.{NoMessage}
use Rattle.ssh_model.specs.Protocol.KeyExchange.Choice.{Chosen}
use Rattle.ssh_model.specs.Protocol.Channels.Connection.{AreReplies, owed_replies}
use Rattle.ssh_model.specs.Protocol.Sessions.Items.{Item, Item.Died, Item.Refused, Item.Took, Encoded, Encoded.EncodedBy}
use Rattle.ssh_model.specs.Protocol.Sessions.Parties.{Parties, agreement_of}
use Rattle.ssh_model.specs.Protocol.Sessions.Phases.{Phase}
use Rattle.ssh_model.specs.declared.refusal.Refusal.{Refusal}
use Rattle.ssh_model.specs.declared.refusal.Refusal.TheVariants.{BadMessage, NumberSpent}
use Rattle.ssh_model.specs.Protocol.Sessions.Refusals.{first_refusal, refusal_name}
use Rattle.ssh_model.specs.Protocol.Sessions.TurnClaims.{HasEncoding}
use Rattle.ssh_model.specs.Protocol.Sessions.Turns.{AreEncoded}
use Rattle.ssh_model.specs.State.TransportLayer.Kept.{Completes, IsChosen, Transport, after_taken, message_checks}
use Rattle.ssh_model.specs.State.TransportLayer.Summary.{IsAwaited, SumsUp, items_sent, parts_of}
use Rattle.ssh_model.specs.State.TransportLayer.Turns.{IsRefused, PutsPackets, Reads, Turned, counted_by}
use Rattle.ssh_transport.specs.Endings.{ExchangeEnds, MessageRefused, PayloadRefused, WouldEnd}
use Rattle.ssh_transport.specs.Shown.{WouldAnswer}
use Rattle.ssh_transport_machine.specs.Finishing.{Finishes, IsAnnouncement, after_announced, announced_by, forgotten}
use Rattle.ssh_transport_machine.specs.Puts.{Outs, Refuses, payloads_of}
use Rattle.ssh_transport_machine.specs.Replies.{IsRead}
use Rattle.ssh_transport_machine.specs.State.{State}
use Rattle.ssh_transport.specs.Laws.{ChoiceLaw, EndedLaw, ForgetsLaw, RefusedLaw, SpentLaw}
use Rattle.ssh_model.specs.State.TransportLayer.Directions.{Direction, counted, renewed}
use Rattle.ssh_transport.proofs.Exchanging.{blocked_no_more, forgotten_late, payloads_before, says_before}

pub chosen_before : {K : Type 0} (s : Transport K) (chosen : Chosen) → IsChosen (after_taken s) chosen → IsChosen s chosen
chosen_before s chosen x = record { theirs = x.theirs; read = x.read; chosen_is = x.chosen_is }

-- what is announced after it is encoded, too
pub all_encoded : {K : Type 0} (s : Transport K) (announcement : Option (List ℕ)) (last : List Encoded) → IsAnnouncement s announcement → AreEncoded (items_sent last) → AreEncoded (items_sent (announced_by s.settings.extensions announcement ++ last))
all_encoded s (Some payload) last a x = (a.encoded, x)
all_encoded s None last a x = x

-- what would be said where a payload that may be read is no message
pub would_refuse_message : {K : Type 0} (p : Parties K) (side : Side) (s : Transport K) (payload : List ℕ) → IsRead s payload → NoMessage false payload → HasEncoding (Disconnect 2 (refusal_name BadMessage) []) → s.sending.count < 2 ^ 32 → WouldAnswer p side s payload
would_refuse_message p side s payload read none says room =
    WouldAnswer.refused BadMessage (IsRefused.bad_message read.below read.taken read.no_guess none.none) (record { reason = 2; reason_is = refl; encoding = says; room = room })

-- The message that is shown ends an exchange of these algorithms: this is sent up to NEWKEYS, and kept then, and this is announced after it.
pub record EndsBy {K : Type 0} (p : Parties K) (side : Side) (s : Transport K) (payload : List ℕ) (chosen : Chosen) (message : Msg) (last : List Encoded) (announcement : Option (List ℕ)) (completed : Transport K) : Type 0 where
  pub phase_is : s.phase ≡ Phase.Exchanging
  pub chosen_is : IsChosen s chosen
  pub reads : Reads s message payload
  pub awaited : IsAwaited s chosen message
  pub unrefused : first_refusal (message_checks (agreement_of p side) p.trusts chosen s message) ≡ None
  pub completes : Completes p.crypto (parts_of p side) chosen s message last (announced_by s.settings.extensions announcement) completed (after_announced announcement completed)

module _ {K : Type 0} (p : Parties K) (side : Side) (history : List Item) (s : Transport K) where
  -- the peer is refused for it
  pub refused_by : RefusedLaw p side history s → (payload : List ℕ) (refusal : Refusal) → IsRefused (agreement_of p side) p.trusts s payload refusal → (new : Transport K) (o : Outs) → Refuses p.crypto (after_taken s) refusal new o → PayloadRefused p side history payload refusal new o
  refused_by law payload refusal why new o x = record {
    said = x.said;
    more = x.more;
    turned = law payload refusal x.said x.more new why (says_before p.crypto s refusal x.said x.more x.says) (ap (λ (t : Transport K). t.dead) x.after);
    parts = x.parts;
    lists = x.lists;
  }

  -- so it is for a payload that is no message
  pub message_refused : (old new : State K) (o : Outs) → old.kept ≡ after_taken s → IsRead s old.receiver.payload → RefusedLaw p side history s → MessageRefused p.crypto old new o → PayloadRefused p side history old.receiver.payload BadMessage new.kept o
  message_refused old new o is_taken read law x =
      refused_by law old.receiver.payload BadMessage (IsRefused.bad_message read.below read.taken read.no_guess x.unread.none) new.kept o (subst (λ (w : Transport K). Refuses p.crypto w BadMessage new.kept o) is_taken x.refuses)

  module _ (payload : List ℕ) (chosen : Chosen) (message : Msg) (last : List Encoded) (announcement : Option (List ℕ)) (completed : Transport K) (by : EndsBy p side s payload chosen message last announcement completed) where
    abbrev announced : List Encoded
    announced = announced_by s.settings.extensions announcement

    -- all of it was put out
    pub ended_by : EndedLaw p side history s → ChoiceLaw p side history s → ForgetsLaw K → completed.blocked ≡ false → (new : Transport K) (o : Outs) (early late : List ℕ) → PutsPackets p.crypto s.sending last early → PutsPackets p.crypto completed.sending announced late →
        after_announced announcement (forgotten completed) ≡ new → o.after ≡ o.before ++ (early ++ late) → o.payloads_after ≡ o.payloads_before ++ (payloads_of last ++ payloads_of announced) →
        ExchangeEnds p side history payload (s.sending.epoch + 1) chosen new o
    ended_by law choose forget unblocked new o early late first second same parts lists =
        let e = law chosen message payload last announced completed (after_announced announcement completed) early late by.reads by.awaited by.unrefused by.completes first second in
        record {
          message = message;
          sent = announced ++ last;
          more = early ++ late;
          chosen_is = choose chosen by.phase_is by.chosen_is;
          ended = record {
            welcomes = e.welcomes;
            answer = e.answer;
            sums = subst (λ (w : Transport K). SumsUp p side (items_sent (announced ++ last) ++ (Took None message payload ∷ history)) w) (forgotten_late completed announcement ∙ same)
                (forget p side _ (after_announced announcement completed) (blocked_no_more completed announcement unblocked) e.sums);
            out = e.out;
          };
          parts = parts;
          lists = lists ∙ ap (λ (t : List (List ℕ)). o.payloads_before ++ t) (sym (payloads_before s.settings.extensions announcement last));
        }

    -- too few numbers are left for it
    pub spent_by : SpentLaw p side history s → AreEncoded (items_sent (announced ++ last)) → (owed : List Item) → AreReplies (owed_replies side history) owed → AreEncoded owed → 2 ^ 32 < s.sending.count + length last → (dead : Transport K) → dead.dead ≡ true →
        Turned p side history payload (Died ∷ Refused NumberSpent (Some payload) ∷ []) [] dead
    spent_by law encoded owed replies said few dead is = law chosen message payload last announced completed (after_announced announcement completed) dead owed by.reads by.awaited by.unrefused by.completes encoded replies said few is

    -- memory is asked for
    pub would_end_by : AreEncoded (items_sent (announced ++ last)) → s.sending.count + length last ≤ 2 ^ 32 → WouldEnd p side s payload
    would_end_by encoded room = record {
      chosen = chosen;
      message = message;
      last = last;
      announced = announced;
      completed = completed;
      new = after_announced announcement completed;
      reads = by.reads;
      awaited = by.awaited;
      unrefused = by.unrefused;
      completes = by.completes;
      encoded = encoded;
      room = room;
    }

  -- the same by what is put out where an exchange is finished, and the state with its keys
  pub finished_by : (payload : List ℕ) (chosen : Chosen) (message : Msg) (announcement : Option (List ℕ)) (completed between : Transport K) (before : List Encoded) (own : K) (new : Transport K) (o : Outs) → EndedLaw p side history s → ChoiceLaw p side history s → ForgetsLaw K → completed.blocked ≡ false →
      (x : Finishes p.crypto (after_taken s) before own (announced_by s.settings.extensions announcement) o) → EndsBy p side s payload chosen message (EncodedBy NewKeys x.newkeys ∷ before) announcement completed → between ≡ completed → between.sending ≡ renewed s.strict own (counted (counted_by before s.sending)) →
      new ≡ after_announced announcement (forgotten between) → ExchangeEnds p side history payload (s.sending.epoch + 1) chosen new o
  finished_by payload chosen message announcement completed between before own new o law choose forget free x by is sending_is after =
      ended_by payload chosen message (EncodedBy NewKeys x.newkeys ∷ before) announcement completed by law choose forget free new o x.early x.late x.first
      (subst (λ (d : Direction K). PutsPackets p.crypto d (announced_by s.settings.extensions announcement) x.late) (sym sending_is ∙ ap (λ (w : Transport K). w.sending) is) x.second)
      (ap (λ (w : Transport K). after_announced announcement (forgotten w)) (sym is) ∙ sym after) x.parts x.lists
