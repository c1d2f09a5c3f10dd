-- What an end does with a payload from 50 on is what an end of a session does with it.
use Rattle.std.proofs.Common.{◌≡◌, ℕ, Bool, true, false, List, [], ◌∷◌, ◌++◌, append-nil, arith, refl, ap, sym, ◌∙◌, subst, Option, Some, None}
use Rattle.std.specs.Prelude.{Result, Ok, Err}
use Rattle.std.specs.Option.{option_map}
use Rattle.ssh_model.specs.declared.side.Side.{Side}
use Rattle.ssh_model.specs.Protocol.Wire.Message.{Msg, IsPayload}
use Rattle.ssh_model.specs.Protocol.Wire.Outcome.{Outcome.Opens}
use Rattle.ssh_model.specs.Protocol.Wire.Sealing.{Crypto}
use Rattle.ssh_model.specs.Protocol.Wire.Unit.{IsUnit}
use Rattle.ssh_model.specs.State.Channels.Kept.{Channels}
use Rattle.ssh_model.specs.State.Channels.Summary.{told}
use Rattle.ssh_model.specs.State.End.Payloads as payloads
use Rattle.ssh_model.specs.State.End.Payloads.{RefusesAbove, TakesPayload}
use Rattle.ssh_model.specs.State.End.State.{Authentication, EndState, after_above, after_items}
use Rattle.ssh_model.specs.State.End.Summary.{EndSumsUp, EndTurned}
use Rattle.ssh_model.specs.Protocol.Sessions.Items.{Fact, Item, Item.Sent, Item.Took, Item.Refused, Encoded, Encoded.EncodedBy, messages_sent}
use Rattle.ssh_model.specs.Protocol.Sessions.Parties.{Parties}
use Rattle.ssh_model.specs.declared.refusal.Refusal.{Refusal}
use Rattle.ssh_model.specs.declared.refusal.Refusal.TheVariants.{NumberSpent}
use Rattle.ssh_model.specs.Protocol.Bounds.{numbers_of_epoch}
use Rattle.ssh_model.specs.Protocol.Sessions.Turns.{OnPayload, OnUnit, stage}
use Rattle.ssh_model.specs.State.TransportLayer.Directions.{Direction}
use Rattle.ssh_model.specs.State.TransportLayer.Kept.{Transport, after_taken}
use Rattle.ssh_model.specs.State.TransportLayer.Summary.{items_sent}
use Rattle.ssh_model.specs.State.TransportLayer.Turns as turns
use Rattle.ssh_model.specs.State.TransportLayer.Turns.{PutsPackets, SaysWhy, refusal_items}
use Rattle.ssh_transport_machine.specs.Puts.{Outs, payloads_of}
use Rattle.ssh_transport_machine.specs.State.{State}
use Rattle.ssh_model.specs.declared.refusal.Refusal as code
use Rattle.ssh_end_machine.specs.Above.{AnsweredAbove, Awaits, Finished, FinishedAnswer, FinishedRefusal, IsReplied, Judged, PutsReply, RefusedAbove, SpentAbove, after_reply, after_success_where}
use Rattle.ssh_end_machine.specs.WithChannels.{channels_with, last_channels}
use Rattle.ssh_end_machine.specs.Steps as steps
use Rattle.ssh_end_machine.specs.Steps.{AreSent, UnitTurned, fact_told}
use Rattle.ssh_end_machine.specs.declared.replying.ServiceReply.{ServiceReply}
use Rattle.ssh_end_machine.specs.declared.step.Step.{Step}
use Rattle.ssh_end_machine.specs.declared.step.Step.TheVariants as step
use Rattle.ssh_end_machine.specs.declared.step.TakenMessage.{TakenMessage}
use Rattle.ssh_end_machine.proofs.SendingOn.{refusal_on, turn_on}

-- ---- items

pub told_sends : (fact : Option Fact) (items : List Item) → messages_sent (told fact items) ≡ messages_sent items
told_sends None items = refl
told_sends (Some fact) items = refl

pub sent_then_took : (sent : List Item) → AreSent sent → (channel : Option ℕ) (message : Msg) (payload : List ℕ) → messages_sent (sent ++ Took channel message payload ∷ []) ≡ messages_sent sent
sent_then_took [] x channel message payload = refl
sent_then_took (Sent c m l ∷ sent) x channel message payload = ap (λ (w : List Encoded). EncodedBy m l ∷ w) (sent_then_took sent x channel message payload)
sent_then_took (_ ∷ sent) x channel message payload = absurd x

pub turn_sends : (fact : Option Fact) (sent : List Item) → AreSent sent → (channel : Option ℕ) (message : Msg) (payload : List ℕ) → messages_sent (told fact sent ++ Took channel message payload ∷ []) ≡ messages_sent sent
turn_sends None sent x channel message payload = sent_then_took sent x channel message payload
turn_sends (Some fact) sent x channel message payload = sent_then_took sent x channel message payload

pub refusal_sends : (l : List Encoded) (why : Refusal) (payload : Option (List ℕ)) → messages_sent (items_sent l ++ Refused why payload ∷ []) ≡ l
refusal_sends [] why payload = refl
refusal_sends (EncodedBy m x ∷ l) why payload = ap (λ (w : List Encoded). EncodedBy m x ∷ w) (refusal_sends l why payload)

-- what is done for an answer by which the user is not authenticated
pub no_success : {K : Type 0} (c : Crypto K) (old new : State K) (given : TakenMessage) (reply : Option (List ℕ)) (success : Bool) (o : Outs) → success ≡ false → PutsReply c old reply new o → FinishedAnswer c old given reply success (step.Took given) new o
no_success c old new given reply true o e puts = absurd (cc e)
no_success c old new given reply false o e puts = record { between = new; shown = refl; puts = puts; after = refl }

-- ---- why a peer is refused, whatever was taken

pub says_before : {K : Type 0} (c : Crypto K) (s : Transport K) (why : Refusal) (l : List Encoded) (more : List ℕ) → SaysWhy c (after_taken s) why l more → SaysWhy c s why l more
says_before c s why l more (turns.SaysWhy.silently e) = turns.SaysWhy.silently e
says_before c s why l more (turns.SaysWhy.spent e) = turns.SaysWhy.spent e
says_before c s why l more (turns.SaysWhy.said reason payload e puts) = turns.SaysWhy.said reason payload e puts

-- where no number is left, nothing is said of a refusal
silent : {K : Type 0} (c : Crypto K) (s : Transport K) (why : Refusal) (l : List Encoded) (more : List ℕ) → s.sending.count ≡ numbers_of_epoch → SaysWhy c s why l more → (l ≡ []) × (more ≡ [])
silent c s why l more full (turns.SaysWhy.silently e) = (refl, refl)
silent c s why l more full (turns.SaysWhy.spent e) = (refl, refl)
silent c s why l more full (turns.SaysWhy.said reason payload e (turns.PutsPackets.packet message _ wire turns.PutsPackets.nothing encoded left sealed)) = absurd (omega (arith, full, left))

-- ---- what is put out

-- the bytes of what is sent at once
pub record PutsSent {K : Type 0} (c : Crypto K) (s : Transport K) (sent : List Item) (reply : Option (List ℕ)) (m between : State K) (o : Outs) : Type 0 where
  pub more : List ℕ
  pub puts : PutsPackets c s.sending (messages_sent sent) more
  pub kept : between.kept ≡ after_reply reply m.kept
  pub parts : o.after ≡ o.before ++ more
  pub lists : o.payloads_after ≡ o.payloads_before ++ payloads_of (messages_sent sent)

pub puts_sent : {K : Type 0} (c : Crypto K) (s : Transport K) (m between : State K) (o : Outs) → m.kept ≡ after_taken s → (sent : List Item) (reply : Option (List ℕ)) → IsReplied reply sent → PutsReply c m reply between o → PutsSent c s sent reply m between o
puts_sent c s m between o kept sent None none x = record {
  more = [];
  puts = subst (λ (l : List Encoded). PutsPackets c s.sending l []) (sym none) turns.PutsPackets.nothing;
  kept = ap (λ (w : State _). w.kept) x.0;
  parts = x.1.out ∙ sym (append-nil o.before);
  lists = x.1.sent ∙ (sym (append-nil o.payloads_before) ∙ ap (λ (l : List Encoded). o.payloads_before ++ payloads_of l) (sym none));
}
puts_sent {K} c s m between o kept sent (Some payload) by x =
    let sending : m.kept.sending ≡ s.sending = ap (λ (t : Transport K). t.sending) kept in
    record {
      more = [] ++ x.puts.wire;
      puts = subst (λ (l : List Encoded). PutsPackets c s.sending l ([] ++ x.puts.wire)) (sym by.messages)
          (subst (λ (d : Direction K). PutsPackets c d (EncodedBy by.message payload ∷ []) ([] ++ x.puts.wire)) sending
          (turns.PutsPackets.packet by.message payload x.puts.wire turns.PutsPackets.nothing by.encoded x.puts.left x.puts.sealed));
      kept = ap (λ (w : State K). w.kept) x.after;
      parts = x.puts.parts;
      lists = x.puts.lists ∙ ap (λ (l : List Encoded). o.payloads_before ++ payloads_of l) (sym by.messages);
    }

-- ---- the turn

module _ {K : Type 0} (p : Parties K) (side : Side) (history : List Item) (e : EndState K) (sums : EndSumsUp p side history e) (alive : e.transport.dead ≡ false) (m : State K) (awaits : Awaits e.transport m)
    (unit : List ℕ) (is_unit : IsUnit p.crypto (stage p side history) unit (Opens m.receiver.payload))
    (taken : (items : List Item) (more : List ℕ) (new : EndState K) → TakesPayload p side e m.receiver.payload items more new → EndTurned p side history (OnPayload p side history m.receiver.payload) items more new)
    (opened : (items : List Item) (more : List ℕ) (new : EndState K) → EndTurned p side history (OnPayload p side history m.receiver.payload) items more new → EndTurned p side history (OnUnit p side history unit) items more new) where
  abbrev payload : List ℕ
  payload = m.receiver.payload

  answer : (given : TakenMessage) (reply : Option (List ℕ)) (success : Bool) (authentication : Authentication) (channels : Channels) → AnsweredAbove p side e payload given reply success authentication channels →
      (new : State K) (o : Outs) → FinishedAnswer p.crypto m given reply success (step.Took given) new o → UnitTurned p side history unit payload (step.Took given) (record { transport = new.kept; authentication = authentication; channels = channels }) o
  answer given reply success authentication channels x new o y =
      let fact : Option Fact = fact_told given.event_kind x.message given.channel in
      let z : PutsSent p.crypto e.transport x.sent reply m y.between o = puts_sent p.crypto e.transport m y.between o awaits.kept x.sent reply x.replied y.puts in
      let kept : after_items side (told fact x.sent) (after_above side x.message e.transport) ≡ new.kept =
      x.kept ∙ sym (ap (λ (w : State K). w.kept) y.after ∙ ap (after_success_where success) (z.kept ∙ ap (after_reply reply) awaits.kept)) in
      record {
        items = told fact x.sent ++ Took given.channel x.message payload ∷ [];
        more = z.more;
        shows = steps.Shows.took given.channel given.probing given.event_kind x.message x.sent (subst (λ (b : Bool). IsPayload b x.message payload) (sym x.probing) x.reads.message_is) x.are_sent;
        sends_on = λ old older live. turn_on fact x.sent x.are_sent given.channel x.message payload
            ∙ (x.on
            ∙ (ap (λ (l : List Encoded). channels_with (payloads_of l) (given.channel ∷ [])) (sym (turn_sends fact x.sent x.are_sent given.channel x.message payload))
            ∙ ap (λ (l : List (Option ℕ)). channels_with (payloads_of (messages_sent (told fact x.sent ++ Took given.channel x.message payload ∷ []))) (last_channels (given.channel ∷ []) l)) (sym (x.later old.channels.owed))));
        turned = subst (λ (t : Transport K). EndTurned p side history (OnUnit p side history unit) (told fact x.sent ++ Took given.channel x.message payload ∷ []) z.more (record { transport = t; authentication = authentication; channels = channels })) kept
            (opened _ _ _ (taken _ _ _ (payloads.TakesPayload.above x.message given.channel x.reads x.unrefused x.answers
            (subst (λ (l : List Encoded). PutsPackets p.crypto e.transport.sending l z.more) (sym (told_sends fact x.sent)) z.puts))));
        parts = z.parts;
        lists = z.lists ∙ ap (λ (l : List Encoded). o.payloads_before ++ payloads_of l) (sym (turn_sends fact x.sent x.are_sent given.channel x.message payload));
      }

  refuse : (why : code.Refusal) (authentication : Authentication) (channels : Channels) → RefusesAbove p e payload why → (new : State K) (o : Outs) → FinishedRefusal p.crypto m why (step.Refused why) new o →
      UnitTurned p side history unit payload (step.Refused why) (record { transport = new.kept; authentication = authentication; channels = channels }) o
  refuse why authentication channels x new o y =
      let r = y.refused.refuses in
      record {
        items = refusal_items why (Some payload) r.said;
        more = r.more;
        shows = steps.Shows.refused why (Some payload) r.said;
        sends_on = λ old older live. refusal_on r.said why (Some payload);
        turned = opened _ _ _ (taken _ _ _ (payloads.TakesPayload.refused_above why (record { transport = new.kept; authentication = authentication; channels = channels }) x
            (says_before p.crypto e.transport why r.said r.more (subst (λ (t : Transport K). SaysWhy p.crypto t why r.said r.more) awaits.kept r.says)) (ap (λ (t : Transport K). t.dead) r.after)));
        parts = r.parts;
        lists = r.lists ∙ ap (λ (l : List Encoded). o.payloads_before ++ payloads_of l) (sym (refusal_sends r.said why (Some payload)));
      }

  spend : (authentication : Authentication) (channels : Channels) → SpentAbove p e payload → (new : State K) (o : Outs) → FinishedRefusal p.crypto m NumberSpent (step.Refused NumberSpent) new o →
      UnitTurned p side history unit payload (step.Refused NumberSpent) (record { transport = new.kept; authentication = authentication; channels = channels }) o
  spend authentication channels x new o y =
      let r = y.refused.refuses in
      let none : (r.said ≡ []) × (r.more ≡ []) = silent p.crypto m.kept NumberSpent r.said r.more (ap (λ (t : Transport K). t.sending.count) awaits.kept ∙ x.none_left) r.says in
      record {
        items = refusal_items NumberSpent (Some payload) [];
        more = [];
        shows = steps.Shows.refused NumberSpent (Some payload) [];
        sends_on = λ old older live. refl;
        turned = opened _ _ _ (taken _ _ _ (payloads.TakesPayload.above_spent x.message x.channel (record { transport = new.kept; authentication = authentication; channels = channels }) x.reads x.unrefused x.answers x.encoded x.some x.none_left (ap (λ (t : Transport K). t.dead) r.after)));
        parts = r.parts ∙ ap (λ (l : List ℕ). o.before ++ l) none.1;
        lists = r.lists ∙ ap (λ (l : List Encoded). o.payloads_before ++ payloads_of l) none.0;
      }

  refused_by : (why : code.Refusal) (authentication : Authentication) (channels : Channels) → RefusedAbove p e payload why → (new : State K) (o : Outs) → FinishedRefusal p.crypto m why (step.Refused why) new o →
      UnitTurned p side history unit payload (step.Refused why) (record { transport = new.kept; authentication = authentication; channels = channels }) o
  refused_by why authentication channels (RefusedAbove.refused _ x) new o y = refuse why authentication channels x new o y
  refused_by _ authentication channels (RefusedAbove.spent x) new o y = spend authentication channels x new o y

  -- the done step is that of what was done
  pub finished : (given : Result ServiceReply Refusal) (authentication : Authentication) (channels : Channels) → Judged p side e payload given authentication channels → (done : Step) (new : State K) (o : Outs) → Finished p.crypto m given done new o →
      UnitTurned p side history unit payload done (record { transport = new.kept; authentication = authentication; channels = channels }) o
  finished (Ok above) authentication channels x done new o y =
      subst (λ (d : Step). UnitTurned p side history unit payload d (record { transport = new.kept; authentication = authentication; channels = channels }) o) (sym y.shown)
      (answer above.step (option_map (λ v. v.items) above.reply) above.success authentication channels x new o (record { between = y.between; shown = refl; puts = y.puts; after = y.after }))
  finished (Err why) authentication channels x done new o y =
      subst (λ (d : Step). UnitTurned p side history unit payload d (record { transport = new.kept; authentication = authentication; channels = channels }) o) (sym y.shown)
      (refused_by why authentication channels x new o (record { shown = refl; refused = y.refused }))
