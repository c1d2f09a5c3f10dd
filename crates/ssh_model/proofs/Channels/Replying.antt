-- Each message taken that makes a reply due, over what is kept, is one that a session takes; and so is every message.
use Rattle.std.proofs.Common.{◌≡◌, ℕ, List, [], ◌∷◌, ◌++◌, refl, ap, sym, ◌∙◌, subst, Option, None, Some, option_map, slice_set, length-set, cond, Bool, true, false}
use Rattle.ssh_model.specs.declared.side.Side.{Side}
use Rattle.ssh_model.specs.Protocol.Wire.Message.{Msg, Msg.ChannelOpen, Msg.ChannelOpenFailure, Msg.ChannelClose}
use Rattle.ssh_model.specs.Protocol.Sessions.Refusals.{first_refusal}
use Rattle.ssh_model.specs.Protocol.Sessions.Items as session
use Rattle.ssh_model.specs.Protocol.Sessions.Items.{Fact.Closed, Item, Item.Told}
use Rattle.ssh_model.specs.Protocol.Sessions.Phases.{blocked}
use Rattle.ssh_model.specs.Protocol.Channels.Message.{Message.Open, Message.OpenFailure, Message.Close, closed, stage}
use Rattle.ssh_model.specs.Protocol.Channels.Notes.{Note, Note.Said, Note.Took, channel_at}
use Rattle.ssh_model.specs.Protocol.Channels.Numbers.{took_at, is_held, is_confirmed, has_closed, peer_number}
use Rattle.ssh_model.specs.State.Channels.Rules.{EndRun, EndRun.refuse_open}
use Rattle.ssh_model.specs.Protocol.Channels.History as channel
use Rattle.ssh_model.specs.Protocol.Channels.History.{is_owed}
use Rattle.ssh_model.specs.State.Channels.Places.{Place, place_at, place_of, place, AreOwed, at}
use Rattle.ssh_model.specs.Protocol.Channels.Connection.{connection_checks, notes, owed_replies, channel_items, is_full, AreReplies, AreReplies.none, ConnectionAnswer, ConnectionAnswer.not_opened}
use Rattle.ssh_model.specs.Protocol.Channels.Connection as connection
use Rattle.ssh_model.specs.State.Channels.Kept.{DueReply.RefusesOpen, DueReply.AnswersClose, Channels, Taken, Takes, Takes.global_request, Takes.request_success, Takes.request_failure, Takes.open_taken, Takes.open_refused, Takes.confirmation, Takes.failure, Takes.adjust, Takes.got_data, Takes.got_extended, Takes.eof, Takes.close, Takes.request, Takes.success, Takes.no_success, take_checks, has_said_close, peer_of, put, owe, sent_at_once, owed_where, close_reply, close_taken, is_table_full}
use Rattle.ssh_model.specs.State.Channels.Summary.{SumsUp, Accepts}
use Rattle.ssh_model.specs.Laws.Checks.{all_passed}
use Rattle.ssh_model.proofs.Sessions.Stages.{not_false}
use Rattle.ssh_model.proofs.Channels.PlaceRows.{close_taken_last, close_answered}
use Rattle.ssh_model.proofs.Channels.PlaceQueue.{apart_number, same_number, place_owed, place_other, owed_kept, held_unowed, refused_place, refused_owed}
use Rattle.ssh_model.proofs.Channels.Summing.{within, written, cond_same, queue_more, on_owed, owed_after, held_there, kept_is, freed_sums, full_here}
use Rattle.ssh_model.proofs.Channels.Checking.{checked}
use Rattle.ssh_model.proofs.Channels.Accepting.{nothing_sent, one_sent, plain, data_accepted, extended_accepted, adjust_accepted, eof_accepted, request_accepted, success_accepted, no_success_accepted, confirmation_accepted, failure_accepted, open_accepted, global_accepted, request_success_accepted, request_failure_accepted}

-- ---- CLOSE

shut_is : (s : Side) (x : ℕ) (n : List Note) → closed (stage (took_at x n)) ≡ (place_at s x n).close_taken
unfolding place_at place_of
shut_is s x n = refl

module _ (s : Side) (h : List Item) (c : Channels) (has : SumsUp s h (owed_replies s h) c) (x : ℕ) (confirmed : is_confirmed x (notes s h) ≡ true) where
  held : is_held x (notes s h) ≡ true
  held = held_there s h (owed_replies s h) c has x confirmed

  -- the peer's CLOSE, after this end's
  closed_last : (payload : List ℕ) → has_closed x (notes s h) ≡ true
      → let later = Told (Closed x) ∷ session.Item.Took (Some x) (ChannelClose x) payload ∷ h in SumsUp s later (owed_replies s later) (put x None c)
  closed_last payload shut =
      let later = Told (Closed x) ∷ session.Item.Took (Some x) (ChannelClose x) payload ∷ h in
      let i = channel_at x (notes s h) in
      let t = peer_number x (notes s h) in
      let n : notes s later ≡ Took x i (Close x) ∷ notes s h =
      ap (λ b. cond b (Took x i (Close x) ∷ notes s h) (Said x i (Close t) ∷ Took x i (Close x) ∷ notes s h)) shut in
      let w : owed_replies s later ≡ owed_replies s h =
      ap (λ b. cond (channel.blocked (channel_items h)) (cond b [] (channel.Item.Sent (Some x) (Close t) ∷ []) ++ owed_replies s h) (owed_replies s h)) shut
      ∙ cond_same (channel.blocked (channel_items h)) (owed_replies s h) in
      on_owed s later (owed_replies s h) (put x None c) w
      (freed_sums s h (owed_replies s h) c has x _ _ later held (close_taken_last s (notes s h) has.run x confirmed shut) n has.here has.there)

  -- the peer's CLOSE, answered at once
  closed_answered : (payload more : List ℕ) → has_closed x (notes s h) ≡ false → blocked h ≡ false
      → let later = Told (Closed x) ∷ session.Item.Sent (Some x) (ChannelClose (peer_number x (notes s h))) more ∷ session.Item.Took (Some x) (ChannelClose x) payload ∷ h in
      SumsUp s later (owed_replies s later) (put x None c)
  closed_answered payload more lives sends =
      let i = channel_at x (notes s h) in
      let t = peer_number x (notes s h) in
      let later = Told (Closed x) ∷ session.Item.Sent (Some x) (ChannelClose t) more ∷ session.Item.Took (Some x) (ChannelClose x) payload ∷ h in
      let r = Said x i (Close t) ∷ Took x i (Close x) ∷ notes s h in
      let st = close_answered s (notes s h) has.run x confirmed lives in
      let first : notes s (session.Item.Took (Some x) (ChannelClose x) payload ∷ h) ≡ r = ap (λ b. cond b (Took x i (Close x) ∷ notes s h) r) lives in
      let n : notes s later ≡ r = ap (λ q. cond (has_closed x q) q (Said x (channel_at x q) (Close t) ∷ q)) first ∙ ap (λ b. cond b r (Said x (channel_at x r) (Close t) ∷ r)) st.close_said in
      on_owed s later (owed_replies s h) (put x None c) (owed_after s h (channel.due (Some x) (Close x) (notes s h)) false sends)
      (freed_sums s h (owed_replies s h) c has x _ _ later held st n has.here has.there)

  -- the peer's CLOSE, whose answer is owed
  closed_owed : (payload : List ℕ) → has_closed x (notes s h) ≡ false → blocked h ≡ true
      → let later = Told (Closed x) ∷ session.Item.Took (Some x) (ChannelClose x) payload ∷ h in
      SumsUp s later (owed_replies s later) (close_taken false true x (peer_number x (notes s h)) c)
  closed_owed payload lives waits =
      let later = Told (Closed x) ∷ session.Item.Took (Some x) (ChannelClose x) payload ∷ h in
      let i = channel_at x (notes s h) in
      let o = owed_replies s h in
      let t = peer_number x (notes s h) in
      let r = Said x i (Close t) ∷ Took x i (Close x) ∷ notes s h in
      let q = channel.Item.Sent (Some x) (Close t) ∷ o in
      let st = close_answered s (notes s h) has.run x confirmed lives in
      let p = kept_is s h o c has x held in
      let u = held_unowed x (notes s h) o has.settled held in
      let owes : is_owed x q ≡ true = ap (λ b. cond b true (is_owed x o)) (same_number x) in
      let n : notes s later ≡ r = ap (λ b. cond b (Took x i (Close x) ∷ notes s h) r) lives in
      let w : owed_replies s later ≡ q =
      owed_after s h (channel.due (Some x) (Close x) (notes s h)) true waits ∙ ap (λ b. cond b [] (channel.Item.Sent (Some x) (Close t) ∷ []) ++ o) lives in
      let shut = λ (v : Place). record v { close_said = true; close_owed = true; close_taken = true } in
      let P : List Note → Type 0 = λ m. (y : ℕ) → at (slice_set c.places x (option_map shut (at c.places x))) y ≡ place s m q y in
      let Q : List Note → Type 0 = λ m. AreOwed q m in
      on_owed s later q (close_taken false true x t c) w (record {
        run = subst (λ m. EndRun s m) (sym n) st.run;
        places = subst P (sym n) (written s (notes s h) r o q c.places x (option_map shut (at c.places x)) has.places (within c.places x _ p)
            (ap (option_map shut) p ∙ sym (place_owed s x r q st.held owes ∙ ap (λ (v : Place). Some (record v { close_owed = true })) st.place))
            (λ y d. place_other s x (notes s h) r o q st.moves has.settled y d
            (ap (λ b. cond b true (is_owed y o)) (apart_number x y (λ g. d (sym g))))));
        size = length-set c.places x (option_map shut (at c.places x)) ∙ has.size;
        queue = queue_more c.owed (AnswersClose x t) ∙ ap (λ l. channel.Item.Sent (Some x) (Close t) ∷ l) has.queue;
        settled = subst Q (sym n) (
          record { opened = st.opened; held = st.held; close_taken = taken_is r st.place; close_said = st.close_said },
          (u, owed_kept s x (notes s h) r st.moves o u has.settled),
        );
        here = has.here;
        there = has.there;
      })
    where
      taken_is : (r : List Note) → place_at s x r ≡ record (place_at s x (notes s h)) { close_said = true; close_taken = true } → closed (stage (took_at x r)) ≡ true
      taken_is r e = shut_is s x r ∙ ap (λ (v : Place). v.close_taken) e

  close_by : (d b : Bool) → first_refusal (connection_checks s h (ChannelClose x)) ≡ None → has_closed x (notes s h) ≡ d → blocked h ≡ b
      → Accepts s h (ChannelClose x) (record { channel = Some x; reply = close_reply d b x (peer_number x (notes s h)); fact = Some (Closed x) }) (close_taken d b x (peer_number x (notes s h)) c)
  close_by true b passed shut waits =
      plain s h c has (Closed x) (Some x) (ChannelClose x) (put x None c) passed (connection.ConnectionAnswer.close x (subst (λ l. AreReplies l []) (sym none_due) none))
      (λ payload. closed_last payload shut)
    where
      none_due : channel.at_once (blocked h) (channel.due (Some x) (Close x) (notes s h)) ≡ []
      none_due = ap (λ d. channel.at_once (blocked h) (cond d [] (channel.Item.Sent (Some x) (Close (peer_number x (notes s h))) ∷ []))) shut ∙ cond_same (blocked h) []
  close_by false true passed shut waits =
      plain s h c has (Closed x) (Some x) (ChannelClose x) (close_taken false true x (peer_number x (notes s h)) c) passed
      (connection.ConnectionAnswer.close x (subst (λ l. AreReplies l []) (sym none_due) none)) (λ payload. closed_owed payload shut waits)
    where
      none_due : channel.at_once (blocked h) (channel.due (Some x) (Close x) (notes s h)) ≡ []
      none_due = ap (λ d. channel.at_once d (channel.due (Some x) (Close x) (notes s h))) waits
  close_by false false passed shut waits = record {
    passed = passed;
    answer = λ replies r. connection.ConnectionAnswer.close x (subst (λ l. AreReplies l replies) (sym one_due) r);
    sums = λ payload replies r.
        let P : List Item → Type 0 = λ l. let later = (Told (Closed x) ∷ l) ++ (session.Item.Took (Some x) (ChannelClose x) payload ∷ h) in SumsUp s later (owed_replies s later) (put x None c) in
        let o = one_sent (Some x) (Close (peer_number x (notes s h))) replies r in
        subst P o.is (closed_answered payload o.payload shut waits);
  }
    where
      one_due : channel.at_once (blocked h) (channel.due (Some x) (Close x) (notes s h)) ≡ channel.Item.Sent (Some x) (Close (peer_number x (notes s h))) ∷ []
      one_due =
          ap (λ d. channel.at_once d (channel.due (Some x) (Close x) (notes s h))) waits
          ∙ ap (λ d. cond d [] (channel.Item.Sent (Some x) (Close (peer_number x (notes s h))) ∷ [])) shut

close_accepted : (s : Side) (h : List Item) (c : Channels) → SumsUp s h (owed_replies s h) c → (x : ℕ) (b : Bool) → blocked h ≡ b → first_refusal (connection_checks s h (ChannelClose x)) ≡ None
    → Accepts s h (ChannelClose x) (record { channel = Some x; reply = close_reply (has_said_close (at c.places x)) b x (peer_of (at c.places x)); fact = Some (Closed x) })
    (close_taken (has_said_close (at c.places x)) b x (peer_of (at c.places x)) c)
unfolding place_at place_of
close_accepted s h c has x b e passed =
    let q = all_passed (connection_checks s h (ChannelClose x)) passed in
    let confirmed = not_false _ q.0 in
    let p = kept_is s h (owed_replies s h) c has x (held_there s h (owed_replies s h) c has x confirmed) in
    let P : Option Place → Type 0 = λ o.
    Accepts s h (ChannelClose x) (record { channel = Some x; reply = close_reply (has_said_close o) b x (peer_of o); fact = Some (Closed x) }) (close_taken (has_said_close o) b x (peer_of o) c) in
    subst P (sym p) (close_by s h c has x confirmed (has_closed x (notes s h)) b passed refl e)

-- ---- an OPEN where the table is full

module _ (s : Side) (h : List Item) (c : Channels) (has : SumsUp s h (owed_replies s h) c) (kind : List ℕ) (f w k : ℕ) (rest : List ℕ) where
  refused_sums : blocked h ≡ false → (payload more : List ℕ)
      → let later = session.Item.Sent None (ChannelOpenFailure f 4 [] []) more ∷ session.Item.Took None (ChannelOpen kind f w k rest) payload ∷ h in SumsUp s later (owed_replies s later) c
  refused_sums sends payload more =
      let later = session.Item.Sent None (ChannelOpenFailure f 4 [] []) more ∷ session.Item.Took None (ChannelOpen kind f w k rest) payload ∷ h in
      let n = notes s h in
      let o = owed_replies s h in
      on_owed s later o c (owed_after s h (channel.due None (Open f w k) n) false sends) (record {
        run = refuse_open f w k has.run;
        places = λ y. has.places y ∙ sym (refused_place s n has.run f w k o o has.settled y refl);
        size = has.size;
        queue = has.queue;
        settled = refused_owed s n has.run f w k o has.settled;
        here = has.here;
        there = has.there;
      })

  refused_owes : blocked h ≡ true → (payload : List ℕ)
      → let later = session.Item.Took None (ChannelOpen kind f w k rest) payload ∷ h in SumsUp s later (owed_replies s later) (owe (RefusesOpen f) c)
  refused_owes waits payload =
      let later = session.Item.Took None (ChannelOpen kind f w k rest) payload ∷ h in
      let n = notes s h in
      let o = owed_replies s h in
      let q = channel.Item.Sent None (OpenFailure f) ∷ o in
      on_owed s later q (owe (RefusesOpen f) c) (owed_after s h (channel.due None (Open f w k) n) true waits) (record {
        run = refuse_open f w k has.run;
        places = λ y. has.places y ∙ sym (refused_place s n has.run f w k o q has.settled y refl);
        size = has.size;
        queue = queue_more c.owed (RefusesOpen f) ∙ ap (λ l. channel.Item.Sent None (OpenFailure f) ∷ l) has.queue;
        settled = refused_owed s n has.run f w k o has.settled;
        here = has.here;
        there = has.there;
      })

  open_declined : (b : Bool) → blocked h ≡ b → first_refusal (connection_checks s h (ChannelOpen kind f w k rest)) ≡ None → is_table_full c.places ≡ true
      → Accepts s h (ChannelOpen kind f w k rest) (record { channel = None; reply = sent_at_once b (RefusesOpen f); fact = None }) (owed_where b (RefusesOpen f) c)
  open_declined true e passed full = record {
    passed = passed;
    answer = λ replies r. not_opened kind f w k rest (full_here s h c has ∙ full) (subst (λ d. AreReplies (channel.at_once d (channel.Item.Sent None (OpenFailure f) ∷ [])) replies) (sym e) r);
    sums = λ payload replies r.
        let P : List Item → Type 0 = λ l. let later = l ++ (session.Item.Took None (ChannelOpen kind f w k rest) payload ∷ h) in SumsUp s later (owed_replies s later) (owe (RefusesOpen f) c) in
        subst P (nothing_sent replies r) (refused_owes e payload);
  }
  open_declined false e passed full = record {
    passed = passed;
    answer = λ replies r. not_opened kind f w k rest (full_here s h c has ∙ full) (subst (λ d. AreReplies (channel.at_once d (channel.Item.Sent None (OpenFailure f) ∷ [])) replies) (sym e) r);
    sums = λ payload replies r.
        let P : List Item → Type 0 = λ l. let later = l ++ (session.Item.Took None (ChannelOpen kind f w k rest) payload ∷ h) in SumsUp s later (owed_replies s later) c in
        let o = one_sent None (OpenFailure f) replies r in
        subst P o.is (refused_sums e payload o.payload);
  }

-- ---- every message

pub accepted : (s : Side) (h : List Item) (c : Channels) → SumsUp s h (owed_replies s h) c → (b : Bool) → blocked h ≡ b → (m : Msg) (t : Taken) (new : Channels)
    → first_refusal (take_checks b c m) ≡ None → Takes b c m t new → Accepts s h m t new
accepted s h c has b e m t new clear row = go m t new (checked s h c has m ∙ (ap (λ d. first_refusal (take_checks d c m)) e ∙ clear)) row
  where
    go : (m : Msg) (t : Taken) (new : Channels) → first_refusal (connection_checks s h m) ≡ None → Takes b c m t new → Accepts s h m t new
    go m t new passed (global_request name want rest) = global_accepted s h c has name want rest passed
    go m t new passed (request_success rest) = request_success_accepted s h c has rest passed
    go m t new passed request_failure = request_failure_accepted s h c has passed
    go m t new passed (open_taken x kind f w k rest free) = open_accepted s h c has x kind f w k rest passed free
    go m t new passed (open_refused kind f w k rest full) = open_declined s h c has kind f w k rest b e passed full
    go m t new passed (confirmation x f w k rest) = confirmation_accepted s h c has x f w k rest passed
    go m t new passed (failure x reason description language) = failure_accepted s h c has x reason description language passed
    go m t new passed (adjust x bytes) = adjust_accepted s h c has x bytes passed
    go m t new passed (got_data x body) = data_accepted s h c has x body passed
    go m t new passed (got_extended x kind body) = extended_accepted s h c has x kind body passed
    go m t new passed (eof x) = eof_accepted s h c has x passed
    go m t new passed (close x) = close_accepted s h c has x b e passed
    go m t new passed (request x name want rest) = request_accepted s h c has x name want rest passed
    go m t new passed (success x) = success_accepted s h c has x passed
    go m t new passed (no_success x) = no_success_accepted s h c has x passed
