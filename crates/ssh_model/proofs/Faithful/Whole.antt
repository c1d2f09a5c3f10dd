-- A faithful network kills nobody, payload by payload.
use Rattle.std.proofs.Common.{◌≡◌, ℕ, List, [], ◌∷◌, ◌++◌, ap, sym, ◌∙◌, subst, append-nil, true, Some, None}
use Rattle.ssh_model.specs.declared.side.Side.{Side}
use Rattle.ssh_model.specs.declared.side.Side.TheVariants.{Client, Server}
use Rattle.ssh_model.specs.Protocol.Side.{peer, done_by, part}
use Rattle.ssh_model.specs.Protocol.Lists.{IsOlder}
use Rattle.ssh_model.specs.Protocol.Wire.Message.{Msg, IsPayload, message_number}
use Rattle.ssh_model.specs.declared.refusal.Refusal.{Refusal}
use Rattle.ssh_model.specs.declared.refusal.Refusal.TheVariants.{NumberSpent}
use Rattle.ssh_model.specs.Protocol.Sessions.Refusals.{first_refusal}
use Rattle.ssh_model.specs.Protocol.Sessions.Parties.{Parties, AreLawful}
use Rattle.ssh_model.specs.Protocol.Sessions.Items.{Item, Item.Asked, Item.Took, Done, Encoded, Encoded.EncodedBy, messages_sent, messages_taken}
use Rattle.ssh_model.specs.Protocol.Sessions.Phases.{Phase.Guessed, phase, may_take, probing}
use Rattle.ssh_model.specs.Protocol.Sessions.Faithful.{IsFaithful, IsNext, KillsNobody, LiesInEnds}
use Rattle.ssh_model.specs.Protocol.Channels.Connection.{channel_items}
use Rattle.ssh_model.specs.Protocol.Sessions.Turns.{answer_checks, Refuses, Refuses.silently, Refuses.spent, Refuses.said as said_aloud, OnPayload, OnPayload.takes, OnPayload.skips, OnPayload.unexpected, OnPayload.bad_message, OnOutcome, OnOutcome.other_line, OnOutcome.version_line, OnOutcome.refused_line, OnOutcome.refused_packet, FeedsTurn, AsksTurn, OnUnit, OnUnit.reads, Turn, Turn.asks, Turn.reads, number_of, Run, Run.start as run_starts, Run.then_turn as run_goes_on, IsOpening}
use Rattle.ssh_model.proofs.Wire.OneMessage.{same_message}
use Rattle.ssh_model.proofs.Sessions.Encoding.{encoded_is_read, sent_number}
use Rattle.ssh_model.proofs.Sessions.EndRuns.{end_run}
use Rattle.ssh_model.proofs.Sessions.Older.{older_tail, older_trans}
use Rattle.ssh_model.proofs.Sessions.Serving.{both_ways}
use Rattle.ssh_model.proofs.Channels.Pair.{Ends, next_noted, played}
use Rattle.ssh_model.proofs.Channels.Run.{channel_run, part_seen, seen}
use Rattle.ssh_model.proofs.Channels.Whole.{both}
use Rattle.ssh_model.proofs.Faithful.Sends.{end_sends}
use Rattle.ssh_model.proofs.Faithful.Rows.{now}
use Rattle.ssh_model.proofs.Faithful.Next.{NoGuess, next, sent_older, taken_older}
use Rattle.ssh_model.proofs.Faithful.Meets.{Meets, not_guessed}
use Rattle.ssh_model.proofs.Faithful.Waiting.{timely}
use Rattle.ssh_model.proofs.Faithful.Channels.{on_channel_lies}
use Rattle.ssh_model.proofs.Faithful.Welcome.{Welcome, first_lies, welcome}
use Rattle.ssh_model.proofs.Faithful.Plain.{answer_plain, ask_plain}
use Rattle.ssh_model.proofs.Faithful.Follow.{AreSilent, plain_silent, Reached, add_refused, add_silent, add_taken, all_silent, faithful_items, faithful_last, follows, next_on_channel, ordered, silent_after, silent_following}

-- what was not opened is refused
refuses_silent : (h items : List Item) (why : Refusal) → Refuses h why None items → AreSilent items
refuses_silent h items why (silently e) = (tt, (tt, tt))
refuses_silent h items why (spent e) = (tt, (tt, tt))
refuses_silent h items why (said_aloud r x e f s) = (tt, (tt, (tt, tt)))

-- and what was opened, for a reason that lies in the ends
refuses_reached : (side : Side) (h items : List Item) (why : Refusal) (b : List ℕ) (run : List Done) → Refuses h why (Some b) items → LiesInEnds why → Reached run → Reached (done_by side items ++ run)
refuses_reached side h items why b run (silently e) l v = add_silent side _ _ tt (add_refused side why b run l v)
refuses_reached side h items why b run (spent e) l v = add_silent side _ _ tt (add_refused side why b run l v)
refuses_reached side h items why b run (said_aloud r x e f s) l v = add_silent side _ _ tt (add_silent side _ _ tt (add_refused side why b run l v))

refused_next : (side : Side) (h items : List Item) (why : Refusal) (b : List ℕ) (run : List Done) → Refuses h why (Some b) items → IsFaithful (done_by side items ++ run) → IsNext side b run
refused_next side h items why b run (silently e) f = f.0
refused_next side h items why b run (spent e) f = f.0
refused_next side h items why b run (said_aloud r x e t s) f = f.0

-- ---- the next message comes

module _ {K : Type 0} (p : Parties K) (laws : AreLawful p) where
  -- what is known of a message when it comes
  record Comes (side : Side) (run : List Done) (b : List ℕ) : Type 0 where
    message : Msg
    read : IsPayload (probing (part side run)) message b
    number : number_of b ≡ message_number message
    older : IsOlder (EncodedBy message b ∷ messages_taken (part side run)) (messages_sent (part (peer side) run))
    unguessed : phase p side (part side run) ≡ Guessed → ⊥
    welcomed : Welcome p side (part side run) message

  pub back_and_forth : (side : Side) (run : List Done) → Reached run → IsOlder (messages_taken (part (peer side) run)) (messages_sent (part side run))
  back_and_forth Client run v = follows run v.follow Server
  back_and_forth Server run v = follows run v.follow Client

  channels_of : (side : Side) (run : List Done) → Run p run → Reached run → Ends side (channel_items (part side run)) (channel_items (part (peer side) run))
  channels_of side run r v =
      let q = played (channel_run run) (seen p laws run r) (ordered run v.follow) side in
      subst (λ a. Ends side a (channel_items (part (peer side) run))) (part_seen side run) (subst (λ b. Ends side (part side (channel_run run)) b) (part_seen (peer side) run) q)

  comes : (side : Side) (run : List Done) (b : List ℕ) → Run p run → Reached run → IsNext side b run → Comes side run b
  comes side run b r v i =
      let h = part side run in
      let g = part (peer side) run in
      let rh = end_run p run r side in
      let rg = end_run p run r (peer side) in
      let kh = now p laws side h rh in
      let kg = now p laws (peer side) g rg in
      let n = next p (peer side) g h b i.0 (end_sends p laws (peer side) g rg) kg.sound.formed kg.known.grounds (v.no_guess side) (follows run v.follow side) i.1 in
      let before = older_trans (messages_taken n.before) (messages_taken g) (messages_sent h) (taken_older n.before g (older_tail _ _ _ n.older)) (back_and_forth side run v) in
      let meets : Meets p side h n.before = record { now = kh; no_guess = v.no_guess side; own = end_sends p laws side h rh; known = kh.known.grounds; same = sym n.same; back = before; sends = n.sends; grounds = n.grounds } in
      let P : List Encoded → Type 0 = λ l. IsOlder (EncodedBy n.message b ∷ l) (messages_sent g) in
      let o : IsOlder (EncodedBy n.message b ∷ messages_taken h) (messages_sent g) = subst P n.same (sent_older _ g n.older) in
      let q = channels_of side run r v in
      let w = welcome p side h n.before n.channel n.message meets
      (on_channel_lies side h g (both side _ _ q.run) (timely (peer side) g (end_sends p laws (peer side) g rg)) n.message (λ x e. next_noted side (peer side) (channel_items h) (channel_items g) x q.here q.there (next_on_channel h g n.message b x e o)))
      n.sendable in
      record {
        message = n.message;
        read = record { context = w.fits; row = (encoded_is_read n.message b n.encoded).row };
        number = sent_number n.message b n.encoded;
        older = o;
        unguessed = not_guessed p side h n.before meets;
        welcomed = w;
      }

  may_come : (side : Side) (run : List Done) (b : List ℕ) → Comes side run b → may_take p side (part side run) (number_of b) ≡ true
  may_come side run b c = ap (may_take p side (part side run)) c.number ∙ c.welcomed.may

  -- ---- the turns

  payload_reached : (side : Side) (run : List Done) (items : List Item) (b : List ℕ) → OnPayload p side (part side run) b items → Run p run → IsFaithful (done_by side items ++ run) → Reached run → Reached (done_by side items ++ run)
  payload_reached side run items b (takes {items = l} c m w a s k) r f v =
      let q = comes side run b r v (faithful_last side l (Took c m b ∷ []) run f).0 in
      let same : q.message ≡ m = same_message q.message m b q.read w.message_is in
      let P : Msg → Type 0 = λ x. IsOlder (EncodedBy x b ∷ messages_taken (part side run)) (messages_sent (part (peer side) run)) in
      silent_after side l (Took c m b ∷ []) run (plain_silent l (answer_plain p side _ c m l a)) (add_taken side c m b run (subst P same q.older) v)
  payload_reached side run items b (skips e m) r f v = absurd ((comes side run b r v f.0).unguessed e)
  payload_reached side run items b (unexpected m z) r f v =
      absurd (both_ways _ (may_come side run b (comes side run b r v (refused_next side _ items _ b run z f))) m)
  payload_reached side run items b (bad_message m e t z) r f v =
      let q = comes side run b r v (refused_next side _ items _ b run z f) in absurd (t q.message q.read)
  payload_reached side run items b (OnPayload.refuses m why a e t c z) r f v =
      let q = comes side run b r v (refused_next side _ items why b run z f) in
      let same : q.message ≡ m = same_message q.message m b q.read t in
      let P : Msg → Type 0 = λ x. first_refusal (answer_checks p side (part side run) x) ≡ Some why in
      refuses_reached side _ items why b run z (first_lies _ why q.welcomed.lie (subst P (sym same) c)) v
  payload_reached side run items b (OnPayload.spends c m w a s k) r f v = add_silent side _ _ tt (add_refused side NumberSpent b run tt v)

  turn_reached : (side : Side) (run : List Done) (items : List Item) → Turn p side (part side run) items → Run p run → IsFaithful (done_by side items ++ run) → Reached run → Reached (done_by side items ++ run)
  turn_reached side run items (Turn.feeds c s (FeedsTurn.feeds k m)) r f v = all_silent side items run (tt, tt) v
  turn_reached side run items (Turn.feeds c s (FeedsTurn.answers_false e)) r f v = v
  turn_reached side run items (asks a (AsksTurn.refuses k alive e)) r f v = all_silent side items run (tt, (tt, tt)) v
  turn_reached side run items (asks a (AsksTurn.answers {items = l} alive c o s k)) r f v = all_silent side items run (silent_following l (Asked a ∷ []) (plain_silent l (ask_plain p side _ l a o)) (tt, tt)) v
  turn_reached side run items (asks a (AsksTurn.spends alive c o s k)) r f v = all_silent side items run (tt, (tt, (tt, tt))) v
  turn_reached side run items (asks a (AsksTurn.dies alive c o s k)) r f v = all_silent side items run (tt, tt) v
  turn_reached side run items (asks a (AsksTurn.is_dead e)) r f v = v
  turn_reached side run items (reads unit alive (OnUnit.reads o u (other_line text))) r f v = all_silent side items run (tt, tt) v
  turn_reached side run items (reads unit alive (OnUnit.reads o u (version_line text))) r f v = all_silent side items run (tt, tt) v
  turn_reached side run items (reads unit alive (OnUnit.reads o u (refused_line k z))) r f v = all_silent side items run (refuses_silent _ items k z) v
  turn_reached side run items (reads unit alive (OnUnit.reads o u (OnOutcome.opened b x))) r f v = payload_reached side run items b x r f v
  turn_reached side run items (reads unit alive (OnUnit.reads o u (refused_packet k z))) r f v = all_silent side items run (refuses_silent _ items k z) v
  turn_reached side run items (reads unit alive (OnUnit.dies o u x k)) r f v = all_silent side items run (tt, tt) v

  opening_silent : (side : Side) (items : List Item) → IsOpening p side items → AreSilent items
  opening_silent side items o = let P : List Item → Type 0 = λ l. AreSilent l in subst P (sym o.items_are) (tt, (tt, (tt, tt)))

  pub reached : (run : List Done) → Run p run → IsFaithful run → Reached run
  reached run (run_starts client server a b) f =
      let nothing : Reached [] = record { follow = tt; no_guess = no_guess; kills = tt } in
      let one : Reached (done_by Client client ++ []) = all_silent Client client [] (opening_silent Client client a) nothing in
      all_silent Server server (done_by Client client) (opening_silent Server server b) (subst Reached (append-nil (done_by Client client)) one)
    where
      no_guess : (side : Side) → NoGuess (part side [])
      no_guess Client = tt
      no_guess Server = tt
  reached run (run_goes_on {run = r} {items = items} side before turn) f =
      turn_reached side r items turn before f (reached r before (faithful_items side items r f))

  pub kills_nobody : (run : List Done) → Run p run → IsFaithful run → KillsNobody run
  kills_nobody run r f = (reached run r f).kills
