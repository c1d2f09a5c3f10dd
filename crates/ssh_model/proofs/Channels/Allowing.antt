-- Each ask on a channel, over what is kept, sends what a session sends.
use Rattle.std.proofs.Common.{◌≡◌, ℕ, ◌+◌, ◌-◌, ◌≤◌, List, [], ◌∷◌, length, refl, ap, sym, ◌∙◌, arith, subst, None, Some, ltb, ltb-false, cond, Bool, true, false}
use Rattle.ssh_model.specs.Protocol.Bounds.{largest_data, largest_window}
use Rattle.ssh_model.specs.declared.side.Side.{Side}
use Rattle.ssh_model.specs.Protocol.Wire.Message.{Msg, Msg.GlobalRequest, Msg.RequestSuccess, Msg.RequestFailure, Msg.ChannelOpen, Msg.ChannelOpenConfirmation, Msg.ChannelOpenFailure, Msg.ChannelWindowAdjust, Msg.ChannelData, Msg.ChannelExtendedData, Msg.ChannelEof, Msg.ChannelClose, Msg.ChannelRequest, Msg.ChannelSuccess, Msg.ChannelFailure}
use Rattle.ssh_model.specs.Protocol.Sessions.Refusals.{first_refusal}
use Rattle.ssh_model.specs.Protocol.Sessions.Items as session
use Rattle.ssh_model.specs.Protocol.Sessions.Items.{Ask, Ask.AskOpen, Ask.AskConfirm, Ask.AskRefuse, Ask.AskData, Ask.AskAdjust, Ask.AskEof, Ask.AskClose, Ask.AskRequest, Ask.AskReply, Ask.AskGlobal, Ask.AskGlobalReply, Fact.Opening, Item, Item.Told, Item.Asked}
use Rattle.ssh_model.specs.Protocol.Sessions.Phases.{blocked}
use Rattle.ssh_model.specs.Protocol.Channels.Message.{Message.Close}
use Rattle.ssh_model.specs.Protocol.Channels.Notes.{Note, Note.Said, channel_at}
use Rattle.ssh_model.specs.Protocol.Channels.Numbers.{is_held, is_confirmed, is_waiting, peer_number, max_packet_there}
use Rattle.ssh_model.specs.ChannelLayer.Rows as row
use Rattle.ssh_model.specs.Protocol.Channels.History as channel
use Rattle.ssh_model.specs.State.Channels.Places.{Place, place_at, place_of, at}
use Rattle.ssh_model.specs.Protocol.Channels.Connection.{channel_ask_checks, notes, owed_replies, globals_here, globals_there, ConnectionAsk, ConnectionAsk.opens, ConnectionAsk.confirm, ConnectionAsk.refuse, ConnectionAsk.sends, ConnectionAsk.sends_extended, ConnectionAsk.reply_yes, ConnectionAsk.reply_no, ConnectionAsk.global_yes, ConnectionAsk.global_no}
use Rattle.ssh_model.specs.Protocol.Channels.Connection as connection
use Rattle.ssh_model.specs.State.Channels.Kept.{Channels, Sent, sends_on, sends_globally, Sends, Sends.opens, Sends.gives_data, Sends.gives_extended, Sends.reply_yes, Sends.reply_no, Sends.global_yes, Sends.global_no, send_checks, IsUnused, peer_of, put, change, opening_place, count_where}
use Rattle.ssh_model.specs.State.Channels.Summary.{SumsUp, Allows}
use Rattle.ssh_model.specs.Laws.Checks.{all_passed}
use Rattle.ssh_model.proofs.Sessions.Stages.{or_false, not_false}
use Rattle.ssh_model.proofs.Channels.State.{and_is}
use Rattle.ssh_model.proofs.Channels.Steps.{Steps}
use Rattle.ssh_model.proofs.Channels.PlaceRows.{data_said, adjust_said, eof_said, request_said, reply_said, close_said}
use Rattle.ssh_model.proofs.Channels.PlaceOpens.{confirm_said, failure_said, own_opened}
use Rattle.ssh_model.proofs.Channels.Summing.{held_there, kept_is, changed_sums, freed_sums, opened_sums, unused_here, free_here}
use Rattle.ssh_model.proofs.Channels.Checking.{ask_checked}
use Rattle.ssh_model.proofs.Channels.Accepting.{globals_sums}

peer_there : (s : Side) (x : ℕ) (n : List Note) → peer_of (Some (place_at s x n)) ≡ peer_number x n
unfolding place_at place_of
peer_there s x n = refl

module _ (s : Side) (h : List Item) (c : Channels) (has : SumsUp s h (owed_replies s h) c) (due : Bool) where
  -- an ask that leaves its channel held, and changes what is kept of it
  changed_ask : (a : Ask) (x : ℕ) (message : ℕ → Msg) (g : Place → Place) (r : List Note) (v : Place)
      → ((payload : List ℕ) → ConnectionAsk s h a (session.Item.Sent (Some x) (message (peer_number x (notes s h))) payload ∷ []))
      → is_held x (notes s h) ≡ true → Steps s x (notes s h) r true v → g (place_at s x (notes s h)) ≡ v
      → ((payload : List ℕ) → let later = session.Item.Sent (Some x) (message (peer_number x (notes s h))) payload ∷ Asked a ∷ h in
      (notes s later ≡ r) × (owed_replies s later ≡ owed_replies s h) × (globals_here later ≡ globals_here h) × (globals_there later ≡ globals_there h))
      → Allows s h due a (sends_on x (message (peer_of (at c.places x)))) (change x g c)
  changed_ask a x message g r v gives e st k same =
      let p = ap peer_of (kept_is s h (owed_replies s h) c has x e) ∙ peer_there s x (notes s h) in
      let P : ℕ → Type 0 = λ t. Allows s h due a (sends_on x (message t)) (change x g c) in
      subst P (sym p) (record {
        row = gives;
        sums = λ payload.
            let later = session.Item.Sent (Some x) (message (peer_number x (notes s h))) payload ∷ Asked a ∷ h in
            let z = same payload in
            let Q : List channel.Item → Type 0 = λ q. SumsUp s later q (change x g c) in
            subst Q (sym z.1) (changed_sums s h (owed_replies s h) c has x r v g later e st k z.0 (has.here ∙ sym z.2) (has.there ∙ sym z.3));
      })

  module _ (x : ℕ) where
    held_open : is_confirmed x (notes s h) ≡ true → is_held x (notes s h) ≡ true
    held_open e = held_there s h (owed_replies s h) c has x e

    held_waiting : is_waiting s x (notes s h) ≡ true → is_held x (notes s h) ≡ true
    held_waiting e = (and_is (is_held x (notes s h)) _ e).0

    data_allowed : (body : List ℕ) → first_refusal (channel_ask_checks (blocked h) due s h (AskData x None body)) ≡ None
        → Allows s h due (AskData x None body) (sends_on x (ChannelData (peer_of (at c.places x)) body)) (change x (λ (p : Place). record p { send_window = p.send_window - length body }) c)
    data_allowed body passed =
        let q = all_passed (channel_ask_checks (blocked h) due s h (AskData x None body)) passed in
        let e = not_false _ q.1.1.0 in
        let long = or_false (ltb largest_data (length body)) (ltb (max_packet_there x (notes s h)) (length body)) q.1.1.1.1.0 in
        let a = row.Ask.give_data None body e q.1.1.1.0 (ltb-false _ _ long.0) (ltb-false _ _ long.1) (ltb-false _ _ q.1.1.1.1.1.0) in
        changed_ask (AskData x None body) x (λ t. ChannelData t body) (λ (p : Place). record p { send_window = p.send_window - length body }) _ _
        (λ payload. sends x body payload) (held_open e) (data_said s (notes s h) has.run x None body (peer_number x (notes s h)) a) refl (λ payload. (refl, refl, refl, refl))

    extended_allowed : (kind : ℕ) (body : List ℕ) → first_refusal (channel_ask_checks (blocked h) due s h (AskData x (Some kind) body)) ≡ None
        → Allows s h due (AskData x (Some kind) body) (sends_on x (ChannelExtendedData (peer_of (at c.places x)) kind body)) (change x (λ (p : Place). record p { send_window = p.send_window - length body }) c)
    extended_allowed kind body passed =
        let q = all_passed (channel_ask_checks (blocked h) due s h (AskData x (Some kind) body)) passed in
        let e = not_false _ q.1.1.0 in
        let long = or_false (ltb largest_data (length body)) (ltb (max_packet_there x (notes s h)) (length body)) q.1.1.1.1.0 in
        let a = row.Ask.give_data (Some kind) body e q.1.1.1.0 (ltb-false _ _ long.0) (ltb-false _ _ long.1) (ltb-false _ _ q.1.1.1.1.1.0) in
        changed_ask (AskData x (Some kind) body) x (λ t. ChannelExtendedData t kind body) (λ (p : Place). record p { send_window = p.send_window - length body }) _ _
        (λ payload. sends_extended x kind body payload) (held_open e) (data_said s (notes s h) has.run x (Some kind) body (peer_number x (notes s h)) a) refl (λ payload. (refl, refl, refl, refl))

    adjust_allowed : (bytes : ℕ) → first_refusal (channel_ask_checks (blocked h) due s h (AskAdjust x bytes)) ≡ None
        → Allows s h due (AskAdjust x bytes) (sends_on x (ChannelWindowAdjust (peer_of (at c.places x)) bytes)) (change x (λ (p : Place). record p { receive_window = p.receive_window + bytes }) c)
    adjust_allowed bytes passed =
        let q = all_passed (channel_ask_checks (blocked h) due s h (AskAdjust x bytes)) passed in
        let e = not_false _ q.1.1.0 in
        changed_ask (AskAdjust x bytes) x (λ t. ChannelWindowAdjust t bytes) (λ (p : Place). record p { receive_window = p.receive_window + bytes }) _ _
        (λ payload. connection.ConnectionAsk.adjust x bytes payload) (held_open e)
        (adjust_said s (notes s h) has.run x bytes (peer_number x (notes s h)) (row.Ask.adjust bytes e q.1.1.1.0 (ltb-false _ _ q.1.1.1.1.0))) refl (λ payload. (refl, refl, refl, refl))

    eof_allowed : first_refusal (channel_ask_checks (blocked h) due s h (AskEof x)) ≡ None
        → Allows s h due (AskEof x) (sends_on x (ChannelEof (peer_of (at c.places x)))) (change x (λ (p : Place). record p { eof_sent = true }) c)
    eof_allowed passed =
        let q = all_passed (channel_ask_checks (blocked h) due s h (AskEof x)) passed in
        let e = not_false _ q.1.1.0 in
        changed_ask (AskEof x) x (λ t. ChannelEof t) (λ (p : Place). record p { eof_sent = true }) _ _
        (λ payload. connection.ConnectionAsk.eof x payload) (held_open e)
        (eof_said s (notes s h) has.run x (peer_number x (notes s h)) (row.Ask.eof e q.1.1.1.0) e q.1.1.1.0) refl (λ payload. (refl, refl, refl, refl))

    close_allowed : first_refusal (channel_ask_checks (blocked h) due s h (AskClose x)) ≡ None
        → Allows s h due (AskClose x) (sends_on x (ChannelClose (peer_of (at c.places x)))) (change x (λ (p : Place). record p { close_said = true }) c)
    close_allowed passed =
        let q = all_passed (channel_ask_checks (blocked h) due s h (AskClose x)) passed in
        let e = not_false _ q.1.1.0 in
        let t = peer_number x (notes s h) in
        changed_ask (AskClose x) x (λ t. ChannelClose t) (λ (p : Place). record p { close_said = true }) _ _
        (λ payload. connection.ConnectionAsk.close x payload) (held_open e)
        (close_said s (notes s h) has.run x t (row.Ask.close e q.1.1.1.0) e) refl
        (λ payload. (ap (λ b. cond b (notes s h) (Said x (channel_at x (notes s h)) (Close t) ∷ notes s h)) q.1.1.1.0, refl, refl, refl))

    request_allowed : (name : List ℕ) (want : Bool) (rest : List ℕ) → first_refusal (channel_ask_checks (blocked h) due s h (AskRequest x name want rest)) ≡ None
        → Allows s h due (AskRequest x name want rest) (sends_on x (ChannelRequest (peer_of (at c.places x)) name want rest))
        (change x (λ (p : Place). record p { waiting_there = count_where want p.waiting_there }) c)
    unfolding place_at place_of
    request_allowed name want rest passed =
        let q = all_passed (channel_ask_checks (blocked h) due s h (AskRequest x name want rest)) passed in
        let e = not_false _ q.1.1.0 in
        changed_ask (AskRequest x name want rest) x (λ t. ChannelRequest t name want rest) (λ (p : Place). record p { waiting_there = count_where want p.waiting_there }) _ _
        (λ payload. connection.ConnectionAsk.request x name want rest payload) (held_open e)
        (request_said s (notes s h) has.run x want (peer_number x (notes s h)) (row.Ask.request want e q.1.1.1.0)) refl (λ payload. (refl, refl, refl, refl))

    yes_allowed : first_refusal (channel_ask_checks (blocked h) due s h (AskReply x true)) ≡ None
        → Allows s h due (AskReply x true) (sends_on x (ChannelSuccess (peer_of (at c.places x)))) (change x (λ (p : Place). record p { waiting_here = p.waiting_here - 1 }) c)
    unfolding place_at place_of
    yes_allowed passed =
        let q = all_passed (channel_ask_checks (blocked h) due s h (AskReply x true)) passed in
        let e = not_false _ q.1.1.0 in
        changed_ask (AskReply x true) x (λ t. ChannelSuccess t) (λ (p : Place). record p { waiting_here = p.waiting_here - 1 }) _ _
        (λ payload. reply_yes x payload) (held_open e)
        (reply_said s (notes s h) has.run x true (peer_number x (notes s h)) (row.Ask.reply true e q.1.1.1.0)) refl (λ payload. (refl, refl, refl, refl))

    no_allowed : first_refusal (channel_ask_checks (blocked h) due s h (AskReply x false)) ≡ None
        → Allows s h due (AskReply x false) (sends_on x (ChannelFailure (peer_of (at c.places x)))) (change x (λ (p : Place). record p { waiting_here = p.waiting_here - 1 }) c)
    unfolding place_at place_of
    no_allowed passed =
        let q = all_passed (channel_ask_checks (blocked h) due s h (AskReply x false)) passed in
        let e = not_false _ q.1.1.0 in
        changed_ask (AskReply x false) x (λ t. ChannelFailure t) (λ (p : Place). record p { waiting_here = p.waiting_here - 1 }) _ _
        (λ payload. reply_no x payload) (held_open e)
        (reply_said s (notes s h) has.run x false (peer_number x (notes s h)) (row.Ask.reply false e q.1.1.1.0)) refl (λ payload. (refl, refl, refl, refl))

    -- ---- the peer's OPEN

    confirm_allowed : (w k : ℕ) (rest : List ℕ) → w ≤ largest_window → first_refusal (channel_ask_checks (blocked h) due s h (AskConfirm x w k rest)) ≡ None
        → Allows s h due (AskConfirm x w k rest) (sends_on x (ChannelOpenConfirmation (peer_of (at c.places x)) x w k rest))
        (change x (λ (p : Place). record p { is_answered = true; receive_window = w; max_packet_here = k }) c)
    confirm_allowed w k rest small passed =
        let q = all_passed (channel_ask_checks (blocked h) due s h (AskConfirm x w k rest)) passed in
        let e = not_false _ q.1.1.0 in
        changed_ask (AskConfirm x w k rest) x (λ t. ChannelOpenConfirmation t x w k rest) (λ (p : Place). record p { is_answered = true; receive_window = w; max_packet_here = k }) _ _
        (λ payload. ConnectionAsk.confirm x w k rest payload) (held_waiting e) (confirm_said s (notes s h) has.run x w k e small) refl (λ payload. (refl, refl, refl, refl))

    refuse_allowed : (reason : ℕ) → first_refusal (channel_ask_checks (blocked h) due s h (AskRefuse x reason)) ≡ None
        → Allows s h due (AskRefuse x reason) (sends_on x (ChannelOpenFailure (peer_of (at c.places x)) reason [] [])) (put x None c)
    refuse_allowed reason passed =
        let q = all_passed (channel_ask_checks (blocked h) due s h (AskRefuse x reason)) passed in
        let e = not_false _ q.1.1.0 in
        let p = ap peer_of (kept_is s h (owed_replies s h) c has x (held_waiting e)) ∙ peer_there s x (notes s h) in
        let P : ℕ → Type 0 = λ t. Allows s h due (AskRefuse x reason) (sends_on x (ChannelOpenFailure t reason [] [])) (put x None c) in
        subst P (sym p) (record {
          row = λ payload. ConnectionAsk.refuse x reason payload;
          sums = λ payload.
              freed_sums s h (owed_replies s h) c has x _ _
              (session.Item.Sent (Some x) (ChannelOpenFailure (peer_number x (notes s h)) reason [] []) payload ∷ Asked (AskRefuse x reason) ∷ h) (held_waiting e)
              (failure_said s (notes s h) has.run x e) refl has.here has.there;
        })

    -- ---- an OPEN of this end

    open_allowed : (kind : List ℕ) (w k : ℕ) (rest : List ℕ) → IsUnused c.places x → w ≤ largest_window
        → Allows s h due (AskOpen kind w k rest) (record { channel = Some x; message = ChannelOpen kind x w k rest; fact = Some (Opening x) }) (put x (Some (opening_place w k)) c)
    open_allowed kind w k rest free small = record {
      row = λ payload. opens x kind w k rest payload (free_here s h c has x free);
      sums = λ payload.
          opened_sums s h (owed_replies s h) c has x _ _
          (Told (Opening x) ∷ session.Item.Sent (Some x) (ChannelOpen kind x w k rest) payload ∷ Asked (AskOpen kind w k rest) ∷ h) free
          (own_opened s (notes s h) has.run x (unused_here s h (owed_replies s h) c has x free).0 w k small) refl has.here has.there;
    }

  -- ---- global requests

  global_allowed : (name : List ℕ) (want : Bool) (rest : List ℕ)
      → Allows s h due (AskGlobal name want rest) (sends_globally (GlobalRequest name want rest)) (record c { globals_there = count_where want c.globals_there })
  global_allowed name want rest = record {
    row = λ payload. connection.ConnectionAsk.global name want rest payload;
    sums = λ payload.
        globals_sums s h (session.Item.Sent None (GlobalRequest name want rest) payload ∷ Asked (AskGlobal name want rest) ∷ h) (owed_replies s h) c
        c.globals_here (count_where want c.globals_there) has refl has.here (counted want payload);
  }
    where
      counted : (asks : Bool) (payload : List ℕ) → count_where asks c.globals_there ≡ globals_there (session.Item.Sent None (GlobalRequest name asks rest) payload ∷ Asked (AskGlobal name want rest) ∷ h)
      counted true payload = ap (λ (n : ℕ). n + 1) has.there ∙ omega arith
      counted false payload = has.there

  global_yes_allowed : (rest : List ℕ) → Allows s h due (AskGlobalReply true rest) (sends_globally (RequestSuccess rest)) (record c { globals_here = c.globals_here - 1 })
  global_yes_allowed rest = record {
    row = λ payload. global_yes rest payload;
    sums = λ payload.
        globals_sums s h (session.Item.Sent None (RequestSuccess rest) payload ∷ Asked (AskGlobalReply true rest) ∷ h) (owed_replies s h) c
        (c.globals_here - 1) c.globals_there has refl (ap (λ (n : ℕ). n - 1) has.here) has.there;
  }

  global_no_allowed : (rest : List ℕ) → Allows s h due (AskGlobalReply false rest) (sends_globally RequestFailure) (record c { globals_here = c.globals_here - 1 })
  global_no_allowed rest = record {
    row = λ payload. global_no rest payload;
    sums = λ payload.
        globals_sums s h (session.Item.Sent None RequestFailure payload ∷ Asked (AskGlobalReply false rest) ∷ h) (owed_replies s h) c
        (c.globals_here - 1) c.globals_there has refl (ap (λ (n : ℕ). n - 1) has.here) has.there;
  }

  -- ---- every ask

  pub allowed : (b : Bool) → blocked h ≡ b → (a : Ask) (sent : Sent) (new : Channels) → first_refusal (send_checks b due c a) ≡ None → Sends c a sent new → Allows s h due a sent new
  allowed b e a sent new clear gives = go a sent new (ask_checked s h c has due a ∙ (ap (λ d. first_refusal (send_checks d due c a)) e ∙ clear)) gives
    where
      go : (a : Ask) (sent : Sent) (new : Channels) → first_refusal (channel_ask_checks (blocked h) due s h a) ≡ None → Sends c a sent new → Allows s h due a sent new
      go a sent new passed (Sends.opens x kind w k rest free small) = open_allowed x kind w k rest free small
      go a sent new passed (Sends.confirm x w k rest small) = confirm_allowed x w k rest small passed
      go a sent new passed (Sends.refuse x reason) = refuse_allowed x reason passed
      go a sent new passed (gives_data x body) = data_allowed x body passed
      go a sent new passed (gives_extended x kind body) = extended_allowed x kind body passed
      go a sent new passed (Sends.adjust x bytes) = adjust_allowed x bytes passed
      go a sent new passed (Sends.eof x) = eof_allowed x passed
      go a sent new passed (Sends.close x) = close_allowed x passed
      go a sent new passed (Sends.request x name want rest) = request_allowed x name want rest passed
      go a sent new passed (Sends.reply_yes x) = yes_allowed x passed
      go a sent new passed (Sends.reply_no x) = no_allowed x passed
      go a sent new passed (Sends.global name want rest) = global_allowed name want rest
      go a sent new passed (Sends.global_yes rest) = global_yes_allowed rest
      go a sent new passed (Sends.global_no rest) = global_no_allowed rest
