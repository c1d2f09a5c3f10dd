-- Each message taken, over what is kept, is one that a session takes.
use Rattle.std.proofs.Common.{◌≡◌, ℕ, ◌+◌, ◌-◌, List, [], ◌∷◌, ◌++◌, length, refl, ap, sym, ◌∙◌, arith, subst, Option, None, Some, ltb, ltb-false, not, ◌&&◌, Bool, true, false}
use Rattle.ssh_model.specs.declared.side.Side.{Side}
use Rattle.ssh_model.specs.Protocol.Wire.Message.{Msg, Msg.GlobalRequest, Msg.RequestSuccess, Msg.RequestFailure, Msg.ChannelOpen, Msg.ChannelOpenConfirmation, Msg.ChannelOpenFailure, Msg.ChannelWindowAdjust, Msg.ChannelData, Msg.ChannelExtendedData, Msg.ChannelEof, Msg.ChannelRequest, Msg.ChannelSuccess, Msg.ChannelFailure}
use Rattle.ssh_model.specs.Protocol.Sessions.Refusals.{first_refusal}
use Rattle.ssh_model.specs.Protocol.Sessions.Items as session
use Rattle.ssh_model.specs.Protocol.Sessions.Items.{Fact, Fact.Global, Fact.GlobalDone, Fact.Opened, Fact.Confirmed, Fact.OpenFailed, Fact.GotData, Fact.Adjusted, Fact.Ended, Fact.Closed, Fact.Requested, Fact.RequestDone, Item, Item.Told}
use Rattle.ssh_model.specs.Protocol.Channels.Message.{Message}
use Rattle.ssh_model.specs.Protocol.Channels.Notes.{Note}
use Rattle.ssh_model.specs.Protocol.Channels.Numbers.{is_held, is_confirmed, is_offered, receive_window, max_packet_here}
use Rattle.ssh_model.specs.State.Channels.Rules.{EndRun}
use Rattle.ssh_model.specs.ChannelLayer.Rows as row
use Rattle.ssh_model.specs.Protocol.Channels.History as channel
use Rattle.ssh_model.specs.Protocol.Channels.History.{is_owed}
use Rattle.ssh_model.specs.State.Channels.Places.{Place, place_at, place_of, place, AreOwed, at}
use Rattle.ssh_model.specs.Protocol.Channels.Connection.{connection_checks, notes, owed_replies, channel_items, globals_here, globals_there, is_full, reply_message, AreReplies, AreReplies.none, AreReplies.reply, ConnectionAnswer, ConnectionAnswer.global, ConnectionAnswer.global_success, ConnectionAnswer.global_failure, ConnectionAnswer.opened, ConnectionAnswer.not_opened, ConnectionAnswer.adjust, ConnectionAnswer.got_data, ConnectionAnswer.got_extended, ConnectionAnswer.no_success}
use Rattle.ssh_model.specs.Protocol.Channels.Connection as connection
use Rattle.ssh_model.specs.State.Channels.Kept.{Channels, tells, Takes.adjust, Takes.got_data, Takes.got_extended, Takes.no_success, IsUnused, put, change, waiting_place, count_where}
use Rattle.ssh_model.specs.State.Channels.Summary.{SumsUp, Accepts}
use Rattle.ssh_model.proofs.Channels.State.{and_is}
use Rattle.ssh_model.proofs.Channels.Steps.{Steps}
use Rattle.ssh_model.specs.Laws.Checks.{all_passed}
use Rattle.ssh_model.proofs.Sessions.Stages.{or_false, not_false}
use Rattle.ssh_model.proofs.Channels.PlaceRows.{data_taken, adjust_taken, eof_taken, request_taken, reply_taken}
use Rattle.ssh_model.proofs.Channels.PlaceOpens.{confirm_taken, failure_taken, theirs_opened}
use Rattle.ssh_model.proofs.Channels.Summing.{on_owed, nothing_due, held_there, changed_sums, freed_sums, opened_sums, unused_here, free_here}

pub nothing_sent : (items : List Item) → AreReplies [] items → [] ≡ items
nothing_sent items none = refl

pub record OneSent (at : Option ℕ) (m : Message) (items : List Item) : Type 0 where
  pub payload : List ℕ
  pub is : session.Item.Sent at (reply_message m) payload ∷ [] ≡ items

pub one_sent : (at : Option ℕ) (m : Message) (items : List Item) → AreReplies (channel.Item.Sent at m ∷ []) items → OneSent at m items
one_sent at m items (reply {items = more} a b payload r) = record { payload = payload; is = ap (λ l. session.Item.Sent at (reply_message m) payload ∷ l) (nothing_sent more r) }

-- other counts of global requests, where nothing else changed
pub globals_sums : (s : Side) (h later : List Item) (o : List channel.Item) (c : Channels) (here there : ℕ) → SumsUp s h o c → notes s later ≡ notes s h
    → here ≡ globals_here later → there ≡ globals_there later → SumsUp s later o (record c { globals_here = here; globals_there = there })
globals_sums s h later o c here there has e a b =
    let R : List Note → Type 0 = λ n. EndRun s n in
    let P : List Note → Type 0 = λ n. (y : ℕ) → at c.places y ≡ place s n o y in
    let Q : List Note → Type 0 = λ n. AreOwed o n in
    record {
      run = subst R (sym e) has.run;
      places = subst P (sym e) has.places;
      size = has.size;
      queue = has.queue;
      settled = subst Q (sym e) has.settled;
      here = a;
      there = b;
    }

module _ (s : Side) (h : List Item) (c : Channels) (has : SumsUp s h (owed_replies s h) c) where
  -- a message that is told, and not replied to
  pub plain : (f : Fact) (x : Option ℕ) (m : Msg) (new : Channels) → first_refusal (connection_checks s h m) ≡ None → ConnectionAnswer s h x m (Told f ∷ [])
      → ((payload : List ℕ) → let later = Told f ∷ session.Item.Took x m payload ∷ h in SumsUp s later (owed_replies s later) new)
      → Accepts s h m (tells x f) new
  plain f x m new passed answer sums = record {
    passed = passed;
    answer = λ replies r. subst (λ l. ConnectionAnswer s h x m (Told f ∷ l)) (nothing_sent replies r) answer;
    sums = λ payload replies r.
        let P : List Item → Type 0 = λ l. let later = (Told f ∷ l) ++ (session.Item.Took x m payload ∷ h) in SumsUp s later (owed_replies s later) new in
        subst P (nothing_sent replies r) (sums payload);
  }

  -- a message that leaves its channel held, and changes what is kept of it
  changed_row : (f : Fact) (x : ℕ) (m : Msg) (g : Place → Place) (r : List Note) (v : Place) → first_refusal (connection_checks s h m) ≡ None
      → ConnectionAnswer s h (Some x) m (Told f ∷ []) → is_held x (notes s h) ≡ true → Steps s x (notes s h) r true v → g (place_at s x (notes s h)) ≡ v
      → ((payload : List ℕ) → let later = Told f ∷ session.Item.Took (Some x) m payload ∷ h in
      (notes s later ≡ r) × (owed_replies s later ≡ owed_replies s h) × (globals_here later ≡ globals_here h) × (globals_there later ≡ globals_there h))
      → Accepts s h m (tells (Some x) f) (change x g c)
  changed_row f x m g r v passed answer e st k same =
      plain f (Some x) m (change x g c) passed answer
      (λ payload.
      let later = Told f ∷ session.Item.Took (Some x) m payload ∷ h in
      let z = same payload in
      on_owed s later (owed_replies s h) (change x g c) z.1
      (changed_sums s h (owed_replies s h) c has x r v g later e st k z.0 (has.here ∙ sym z.2) (has.there ∙ sym z.3)))

  -- a message after which the channel is over
  freed_row : (f : Fact) (x : ℕ) (m : Msg) (r : List Note) (v : Place) → first_refusal (connection_checks s h m) ≡ None
      → ConnectionAnswer s h (Some x) m (Told f ∷ []) → is_held x (notes s h) ≡ true → Steps s x (notes s h) r false v
      → ((payload : List ℕ) → let later = Told f ∷ session.Item.Took (Some x) m payload ∷ h in
      (notes s later ≡ r) × (owed_replies s later ≡ owed_replies s h) × (globals_here later ≡ globals_here h) × (globals_there later ≡ globals_there h))
      → Accepts s h m (tells (Some x) f) (put x None c)
  freed_row f x m r v passed answer e st same =
      plain f (Some x) m (put x None c) passed answer
      (λ payload.
      let later = Told f ∷ session.Item.Took (Some x) m payload ∷ h in
      let z = same payload in
      on_owed s later (owed_replies s h) (put x None c) z.1
      (freed_sums s h (owed_replies s h) c has x r v later e st z.0 (has.here ∙ sym z.2) (has.there ∙ sym z.3)))

  -- ---- messages on a channel that make nothing due
  module _ (x : ℕ) where
    held_open : is_confirmed x (notes s h) ≡ true → is_held x (notes s h) ≡ true
    held_open e = held_there s h (owed_replies s h) c has x e

    held_offered : is_offered s x (notes s h) ≡ true → is_held x (notes s h) ≡ true
    held_offered e = (and_is (is_held x (notes s h)) _ e).0

    pub data_accepted : (body : List ℕ) → first_refusal (connection_checks s h (ChannelData x body)) ≡ None
        → Accepts s h (ChannelData x body) (tells (Some x) (GotData x None body)) (change x (λ (p : Place). record p { receive_window = p.receive_window - length body }) c)
    data_accepted body passed =
        let q = all_passed (connection_checks s h (ChannelData x body)) passed in
        let e = not_false _ q.0 in
        let over = or_false (ltb (receive_window x (notes s h)) (length body)) (ltb (max_packet_here x (notes s h)) (length body)) q.1.1.0 in
        changed_row (GotData x None body) x (ChannelData x body) (λ (p : Place). record p { receive_window = p.receive_window - length body }) _ _ passed
        (got_data x body) (held_open e)
        (data_taken s (notes s h) has.run x None body (row.Take.got_data None body e q.1.0 (ltb-false _ _ over.1) (ltb-false _ _ over.0))) refl
        (λ payload. (refl, nothing_due s h, refl, refl))

    pub extended_accepted : (k : ℕ) (body : List ℕ) → first_refusal (connection_checks s h (ChannelExtendedData x k body)) ≡ None
        → Accepts s h (ChannelExtendedData x k body) (tells (Some x) (GotData x (Some k) body)) (change x (λ (p : Place). record p { receive_window = p.receive_window - length body }) c)
    extended_accepted k body passed =
        let q = all_passed (connection_checks s h (ChannelExtendedData x k body)) passed in
        let e = not_false _ q.0 in
        let over = or_false (ltb (receive_window x (notes s h)) (length body)) (ltb (max_packet_here x (notes s h)) (length body)) q.1.1.0 in
        changed_row (GotData x (Some k) body) x (ChannelExtendedData x k body) (λ (p : Place). record p { receive_window = p.receive_window - length body }) _ _ passed
        (got_extended x k body) (held_open e)
        (data_taken s (notes s h) has.run x (Some k) body (row.Take.got_data (Some k) body e q.1.0 (ltb-false _ _ over.1) (ltb-false _ _ over.0))) refl
        (λ payload. (refl, nothing_due s h, refl, refl))

    pub adjust_accepted : (bytes : ℕ) → first_refusal (connection_checks s h (ChannelWindowAdjust x bytes)) ≡ None
        → Accepts s h (ChannelWindowAdjust x bytes) (tells (Some x) (Adjusted x bytes)) (change x (λ (p : Place). record p { send_window = p.send_window + bytes }) c)
    adjust_accepted bytes passed =
        let q = all_passed (connection_checks s h (ChannelWindowAdjust x bytes)) passed in
        let e = not_false _ q.0 in
        changed_row (Adjusted x bytes) x (ChannelWindowAdjust x bytes) (λ (p : Place). record p { send_window = p.send_window + bytes }) _ _ passed
        (adjust x bytes) (held_open e) (adjust_taken s (notes s h) has.run x bytes (row.Take.adjusted bytes e (ltb-false _ _ q.1.0))) refl
        (λ payload. (refl, nothing_due s h, refl, refl))

    pub eof_accepted : first_refusal (connection_checks s h (ChannelEof x)) ≡ None
        → Accepts s h (ChannelEof x) (tells (Some x) (Ended x)) (change x (λ (p : Place). record p { eof_taken = true }) c)
    eof_accepted passed =
        let q = all_passed (connection_checks s h (ChannelEof x)) passed in
        let e = not_false _ q.0 in
        changed_row (Ended x) x (ChannelEof x) (λ (p : Place). record p { eof_taken = true }) _ _ passed
        (connection.ConnectionAnswer.eof x) (held_open e) (eof_taken s (notes s h) has.run x e q.1.0) refl
        (λ payload. (refl, nothing_due s h, refl, refl))

    pub request_accepted : (name : List ℕ) (want : Bool) (rest : List ℕ) → first_refusal (connection_checks s h (ChannelRequest x name want rest)) ≡ None
        → Accepts s h (ChannelRequest x name want rest) (tells (Some x) (Requested x name want rest))
        (change x (λ (p : Place). record p { waiting_here = count_where (want && not p.close_said) p.waiting_here }) c)
    unfolding place_at place_of
    request_accepted name want rest passed =
        let q = all_passed (connection_checks s h (ChannelRequest x name want rest)) passed in
        let e = not_false _ q.0 in
        changed_row (Requested x name want rest) x (ChannelRequest x name want rest)
        (λ (p : Place). record p { waiting_here = count_where (want && not p.close_said) p.waiting_here }) _ _ passed
        (connection.ConnectionAnswer.request x name want rest) (held_open e) (request_taken s (notes s h) has.run x want (row.Take.requested want e)) refl
        (λ payload. (refl, nothing_due s h, refl, refl))

    pub success_accepted : first_refusal (connection_checks s h (ChannelSuccess x)) ≡ None
        → Accepts s h (ChannelSuccess x) (tells (Some x) (RequestDone x true)) (change x (λ (p : Place). record p { waiting_there = p.waiting_there - 1 }) c)
    unfolding place_at place_of
    success_accepted passed =
        let q = all_passed (connection_checks s h (ChannelSuccess x)) passed in
        let e = not_false _ q.0 in
        changed_row (RequestDone x true) x (ChannelSuccess x) (λ (p : Place). record p { waiting_there = p.waiting_there - 1 }) _ _ passed
        (connection.ConnectionAnswer.success x) (held_open e) (reply_taken s (notes s h) has.run x true (row.Take.replied true e)) refl
        (λ payload. (refl, nothing_due s h, refl, refl))

    pub no_success_accepted : first_refusal (connection_checks s h (ChannelFailure x)) ≡ None
        → Accepts s h (ChannelFailure x) (tells (Some x) (RequestDone x false)) (change x (λ (p : Place). record p { waiting_there = p.waiting_there - 1 }) c)
    unfolding place_at place_of
    no_success_accepted passed =
        let q = all_passed (connection_checks s h (ChannelFailure x)) passed in
        let e = not_false _ q.0 in
        changed_row (RequestDone x false) x (ChannelFailure x) (λ (p : Place). record p { waiting_there = p.waiting_there - 1 }) _ _ passed
        (no_success x) (held_open e) (reply_taken s (notes s h) has.run x false (row.Take.replied false e)) refl
        (λ payload. (refl, nothing_due s h, refl, refl))

    pub confirmation_accepted : (f w k : ℕ) (rest : List ℕ) → first_refusal (connection_checks s h (ChannelOpenConfirmation x f w k rest)) ≡ None
        → Accepts s h (ChannelOpenConfirmation x f w k rest) (tells (Some x) (Confirmed x w k rest))
        (change x (λ (p : Place). record p { is_answered = true; peer_number = f; send_window = w; max_packet_there = k }) c)
    confirmation_accepted f w k rest passed =
        let q = all_passed (connection_checks s h (ChannelOpenConfirmation x f w k rest)) passed in
        let e = not_false _ q.1.0 in
        changed_row (Confirmed x w k rest) x (ChannelOpenConfirmation x f w k rest)
        (λ (p : Place). record p { is_answered = true; peer_number = f; send_window = w; max_packet_there = k }) _ _ passed
        (connection.ConnectionAnswer.confirmation x f w k rest) (held_offered e) (confirm_taken s (notes s h) has.run x f w k e) refl
        (λ payload. (refl, nothing_due s h, refl, refl))

    pub failure_accepted : (reason : ℕ) (description language : List ℕ) → first_refusal (connection_checks s h (ChannelOpenFailure x reason description language)) ≡ None
        → Accepts s h (ChannelOpenFailure x reason description language) (tells (Some x) (OpenFailed x reason description)) (put x None c)
    failure_accepted reason description language passed =
        let q = all_passed (connection_checks s h (ChannelOpenFailure x reason description language)) passed in
        let e = not_false _ q.1.0 in
        freed_row (OpenFailed x reason description) x (ChannelOpenFailure x reason description language) _ _ passed
        (connection.ConnectionAnswer.failure x reason description language) (held_offered e) (failure_taken s (notes s h) has.run x e)
        (λ payload. (refl, nothing_due s h, refl, refl))

    -- an OPEN at a number that is not used
    pub open_accepted : (kind : List ℕ) (f w k : ℕ) (rest : List ℕ) → first_refusal (connection_checks s h (ChannelOpen kind f w k rest)) ≡ None → IsUnused c.places x
        → Accepts s h (ChannelOpen kind f w k rest) (tells (Some x) (Opened x kind w k rest)) (put x (Some (waiting_place f w k)) c)
    open_accepted kind f w k rest passed free =
        plain (Opened x kind w k rest) (Some x) (ChannelOpen kind f w k rest) (put x (Some (waiting_place f w k)) c) passed
        (opened x kind f w k rest (free_here s h c has x free))
        (λ payload.
        let later = Told (Opened x kind w k rest) ∷ session.Item.Took (Some x) (ChannelOpen kind f w k rest) payload ∷ h in
        on_owed s later (owed_replies s h) (put x (Some (waiting_place f w k)) c) (nothing_due s h)
        (opened_sums s h (owed_replies s h) c has x _ _ later free
        (theirs_opened s (notes s h) has.run x (unused_here s h (owed_replies s h) c has x free).0 f w k) refl has.here has.there))

  -- ---- global requests

  pub global_accepted : (name : List ℕ) (want : Bool) (rest : List ℕ) → first_refusal (connection_checks s h (GlobalRequest name want rest)) ≡ None
      → Accepts s h (GlobalRequest name want rest) (tells None (Global name want rest)) (record c { globals_here = count_where want c.globals_here })
  global_accepted name want rest passed =
      plain (Global name want rest) None (GlobalRequest name want rest) (record c { globals_here = count_where want c.globals_here }) passed (global name want rest)
      (λ payload.
      globals_sums s h (Told (Global name want rest) ∷ session.Item.Took None (GlobalRequest name want rest) payload ∷ h) (owed_replies s h) c
      (count_where want c.globals_here) c.globals_there has refl (counted want payload) has.there)
    where
      counted : (want : Bool) (payload : List ℕ) → count_where want c.globals_here ≡ globals_here (session.Item.Took None (GlobalRequest name want rest) payload ∷ h)
      counted true payload = ap (λ (n : ℕ). n + 1) has.here ∙ omega arith
      counted false payload = has.here

  pub request_success_accepted : (rest : List ℕ) → first_refusal (connection_checks s h (RequestSuccess rest)) ≡ None
      → Accepts s h (RequestSuccess rest) (tells None (GlobalDone true rest)) (record c { globals_there = c.globals_there - 1 })
  request_success_accepted rest passed =
      plain (GlobalDone true rest) None (RequestSuccess rest) (record c { globals_there = c.globals_there - 1 }) passed (global_success rest)
      (λ payload.
      globals_sums s h (Told (GlobalDone true rest) ∷ session.Item.Took None (RequestSuccess rest) payload ∷ h) (owed_replies s h) c
      c.globals_here (c.globals_there - 1) has refl has.here (ap (λ (n : ℕ). n - 1) has.there))

  pub request_failure_accepted : first_refusal (connection_checks s h RequestFailure) ≡ None
      → Accepts s h RequestFailure (tells None (GlobalDone false [])) (record c { globals_there = c.globals_there - 1 })
  request_failure_accepted passed =
      plain (GlobalDone false []) None RequestFailure (record c { globals_there = c.globals_there - 1 }) passed global_failure
      (λ payload.
      globals_sums s h (Told (GlobalDone false []) ∷ session.Item.Took None RequestFailure payload ∷ h) (owed_replies s h) c
      c.globals_here (c.globals_there - 1) has refl has.here (ap (λ (n : ℕ). n - 1) has.there))
