-- Each turn of an end keeps what holds of it between its turns, and its opening begins with it. What the layers above its
-- transport have that do keeps it too.
use Rattle.std.proofs.Common.{◌≡◌, ℕ, ◌+◌, ◌<◌, ◌≤◌, ◌^◌, List, [], ◌∷◌, ◌++◌, length, inl, refl, ap, sym, ◌∙◌, arith, subst, append_assoc, length-append, Bool, true, false, not, nat_le, max, ◌%◌, ◌&&◌, ◌==◌, Option, None}
use Rattle.ssh_model.specs.Protocol.Bounds.{largest_packet}
use Rattle.ssh_model.specs.declared.side.Side.{Side}
use Rattle.ssh_model.specs.declared.side.Side.TheVariants.{Client, Server}
use Rattle.ssh_model.specs.Protocol.Wire.Message.{Msg, Msg.KexInit}
use Rattle.std.proofs.lemmas.Bool.{leb-true}
use Rattle.ssh_model.specs.Protocol.Wire.Packet.{Blocks, IsPacket, counted, least_size}
use Rattle.ssh_model.specs.Protocol.Wire.Sealing.{IsWire}
use Rattle.ssh_model.specs.Protocol.Sessions.Parties.{Parties, AreLawful, settings_of, offer, is_required}
use Rattle.ssh_model.specs.Protocol.Sessions.Items.{Ask, Ask.AskRekey, Item, Item.Asked, Item.Sent, Item.Took, Item.TookGuess, Item.Died}
use Rattle.ssh_model.specs.Protocol.Sessions.Phases.{Phase.Guessed, phase, blocked, has_material, may_take, may_take_in, is_normal}
use Rattle.ssh_model.specs.Protocol.Wire.Outcome.{Outcome, Outcome.VersionLine, Outcome.Opens}
use Rattle.ssh_model.specs.Protocol.Wire.Line.{line_end, LineUnit.line, LineIs.version}
use Rattle.ssh_model.specs.Protocol.Wire.Unit.{Stage, Stage.Lines, Stage.Packets, IsUnit, PacketUnit.opens}
use Rattle.ssh_model.specs.Protocol.Sessions.Transport.{TransportAsk.service, TransportAsk.rekey, TransportAsk.disconnect, next_cookie}
use Rattle.ssh_model.specs.Protocol.Authentication.Rows.{AuthenticationAsk.none, AuthenticationAsk.password, AuthenticationAsk.probe, AuthenticationAsk.sign}
use Rattle.ssh_model.specs.Protocol.Channels.Connection.{ConnectionAsk.opens, ConnectionAsk.confirm, ConnectionAsk.refuse, ConnectionAsk.sends, ConnectionAsk.sends_extended, ConnectionAsk.adjust, ConnectionAsk.eof, ConnectionAsk.close, ConnectionAsk.request, ConnectionAsk.reply_yes, ConnectionAsk.reply_no, ConnectionAsk.global, ConnectionAsk.global_yes, ConnectionAsk.global_no}
use Rattle.ssh_model.specs.declared.refusal.Refusal.{Refusal}
use Rattle.ssh_model.specs.declared.refusal.Refusal.TheVariants.{BadMessage, Unexpected}
use Rattle.ssh_model.specs.Protocol.Sessions.Refusals.{first_refusal}
use Rattle.ssh_model.specs.Protocol.Sessions.Turns.{IsEncoded, AreEncoded, Refuses, Refuses.silently, Refuses.spent, Refuses.said, IsAcceptable, number_of, Answer, Answer.of_transport, Answer.of_completion, Answer.of_authentication, Answer.of_connection, OnAsk.of_authentication, OnPayload, OnPayload.takes, OnPayload.skips, OnPayload.unexpected, OnPayload.bad_message, OnPayload.refuses, OnPayload.spends, OnOutcome, OnOutcome.other_line, OnOutcome.version_line, OnOutcome.refused_line, OnOutcome.opened, OnOutcome.refused_packet, stage, ask_checks, OnAsk, OnAsk.of_transport, OnAsk.of_connection, FeedsTurn, AsksTurn, AsksTurn.refuses, AsksTurn.spends, OnUnit, OnUnit.reads, Turn, Turn.asks, Turn.reads, IsOpening, EndRun}
use Rattle.ssh_model.proofs.Sessions.Encoding.{other_tagged, sent_other_tag, sent_number, encoded_cookie, sent_fits}
use Rattle.ssh_model.specs.Protocol.Sessions.AnyLayers.{TransportTurn, TransportTurn.of_end, TransportTurn.completes, TransportRun}
use Rattle.ssh_model.proofs.Sessions.TransportRuns.{transport_run}
use Rattle.ssh_model.proofs.Sessions.EndKeeps.{End, ArePlain, add_quiet, add_fed, add_line, add_plain, add_sent_above, add_taken_above}
use Rattle.ssh_model.proofs.Sessions.EndAnswers.{replies_plain, uses_next, transport_keeps, completion_keeps, authentication_keeps, connection_keeps}
use Rattle.ssh_model.specs.Laws.Checks.{all_passed}
use Rattle.ssh_model.proofs.Sessions.Stages.{heard_at_guess, or_false, not_false, level_when_normal}

-- ---- sizes of what is taken

right : (a b : Bool) → (a && b) ≡ true → b ≡ true
right true b e = e
right false b e = absurd (cc e)

packet_short : (blocks : Blocks) (tag : ℕ) (payload bytes : List ℕ) → IsPacket blocks tag payload bytes → length payload ≤ largest_packet
packet_short blocks tag payload bytes k =
    let room : length bytes + tag ≤ largest_packet = leb-true (length bytes + tag) largest_packet (right (nat_le (least_size blocks) (length bytes)) (nat_le (length bytes + tag) largest_packet) (right (counted blocks (length bytes) % max blocks.size 8 == 0) (nat_le (least_size blocks) (length bytes) && nat_le (length bytes + tag) largest_packet) k.size)) in
    omega (arith, room, ap length k.is_body.parts, length-append payload k.is_body.padding, ap length k.string.parts, length-append k.string.front k.body)

pub wire_short : {K : Type 0} (p : Parties K) (key : Option K) (n : ℕ) (payload unit : List ℕ) → IsWire p.crypto key n payload unit → length payload ≤ largest_packet
wire_short p key n payload unit w = packet_short _ _ payload _ w.packet

pub opened_short : {K : Type 0} (p : Parties K) (st : Stage K) (unit payload : List ℕ) → IsUnit p.crypto st unit (Opens payload) → length payload ≤ largest_packet
opened_short p (Lines from n) unit payload (line text l i) = elim i [ ]
opened_short p (Packets key n k) unit payload (opens q a b w) = wire_short p key n payload unit w

pub line_short : {K : Type 0} (p : Parties K) (st : Stage K) (unit text : List ℕ) → IsUnit p.crypto st unit (VersionLine text) → length text ≤ 255
line_short p (Lines from n) unit text (line other l (version a b c d e)) = omega (arith, l.size, ap length l.parts, length-append text line_end)
line_short p (Packets key n k) unit text u = elim u [ ]

-- ---- refusals

refuses_plain : (h items : List Item) (why : Refusal) (b : Option (List ℕ)) → Refuses h why b items → ArePlain items × AreEncoded items
refuses_plain h items n b (silently e) = ((tt, (tt, tt)), tt)
refuses_plain h items n b (spent e) = ((tt, (tt, tt)), tt)
refuses_plain h items n b (said r x e f s) = ((tt, (tt, (tt, tt))), (s, tt))

refuses_keeps : {K : Type 0} (p : Parties K) (side : Side) (h items : List Item) (why : Refusal) (b : Option (List ℕ)) → Refuses h why b items → End p side h → End p side (items ++ h)
refuses_keeps p side h items n b r v = let q = refuses_plain h items n b r in add_plain p side items h q.0 q.1 v

-- ---- the packet after a wrong guess

not_21 : (b rest : List ℕ) → b ≡ 21 ∷ rest → may_take_in Guessed true Client [] (number_of b) ≡ true → ⊥
not_21 b rest e m = let q = sym (ap (λ x. may_take_in Guessed true Client [] (number_of x)) e) ∙ m in cc q

skipped : {K : Type 0} (p : Parties K) (side : Side) (h : List Item) (b : List ℕ) → phase p side h ≡ Guessed → may_take p side h (number_of b) ≡ true → End p side h → End p side (TookGuess b ∷ h)
skipped p side h b e m v = record {
  in_step = rw e at v.in_step;
  offered = v.offered;
  heard = heard_at_guess (phase p side h) _ e v.heard;
  offers_sent = v.offers_sent;
  cookies_used = v.cookies_used;
  fit_sent = v.fit_sent;
  fit_taken = v.fit_taken;
  line_sent = v.line_sent;
  line_taken = v.line_taken;
  rules = (other_tagged b (λ rest f. not_21 b rest f (sym (ap (λ x. may_take_in x (is_required (settings_of p side).strictness) side h (number_of b)) e) ∙ m)), v.rules);
  numbered = (tt, v.numbered);
  signed_is = v.signed_is;
}

-- ---- asks

sends_kexinit : {K : Type 0} (p : Parties K) (side : Side) (h : List Item) (b : List ℕ) → first_refusal (ask_checks p side h AskRekey) ≡ None
    → IsEncoded (KexInit (offer p side false (next_cookie h))) b → End p side h → End p side (Sent None (KexInit (offer p side false (next_cookie h))) b ∷ Asked AskRekey ∷ h)
sends_kexinit p side h b c s v =
    let checks = all_passed (ask_checks p side h AskRekey) c in
    let two = or_false (blocked h) (not (is_normal (phase p side h))) checks.1.0 in
    let e = level_when_normal (phase p side h) _ _ _ (not_false _ two.1) v.in_step in
    record {
      in_step = rw e (rw e at v.in_step);
      offered = omega arith;
      heard = v.heard;
      offers_sent = omega (arith, rw two.0 at v.offers_sent);
      cookies_used = uses_next _ h (not_false (has_material h) checks.1.1.0) (encoded_cookie _ b s) v.cookies_used;
      fit_sent = (sent_fits _ b s, v.fit_sent);
      fit_taken = v.fit_taken;
      line_sent = v.line_sent;
      line_taken = v.line_taken;
      rules = ((sent_other_tag _ b tt s, λ z. absurd (omega (arith, z, v.offered))), (tt, v.rules));
      numbered = (sent_number _ b s, (tt, v.numbered));
      signed_is = v.signed_is;
    }

module _ {K : Type 0} (p : Parties K) (laws : AreLawful p) where
  plain_ask : (side : Side) (h items : List Item) (a : Ask) → ArePlain items → AreEncoded items → End p side h → End p side (items ++ (Asked a ∷ h))
  plain_ask side h items a q s v = add_plain p side items (Asked a ∷ h) q s (add_quiet p side (Asked a) h tt v)

  ask_keeps : (side : Side) (h items : List Item) (a : Ask) → OnAsk p side h a items → first_refusal (ask_checks p side h a) ≡ None → AreEncoded items → End p side h
      → End p side (items ++ (Asked a ∷ h))
  ask_keeps side h items a (of_transport (service x)) c s v = plain_ask side h items a (tt, tt) s v
  ask_keeps side h items a (OnAsk.of_authentication (none x y)) c s v = plain_ask side h items a (tt, tt) s v
  ask_keeps side h items a (OnAsk.of_authentication (password x y z)) c s v = plain_ask side h items a (tt, tt) s v
  ask_keeps side h items a (OnAsk.of_authentication (probe x y z b)) c s v = plain_ask side h items a (tt, tt) s v
  ask_keeps side h items a (OnAsk.of_authentication (sign x y z b)) c s v = plain_ask side h items a (tt, tt) s v
  ask_keeps side h items a (of_transport (rekey b)) c s v = sends_kexinit p side h b c s.0 v
  ask_keeps side h items a (of_transport (disconnect x b)) c s v = plain_ask side h items a (tt, (tt, tt)) s v
  ask_keeps side h items a (of_connection (opens x k w m r b f)) c s v = plain_ask side h items a (tt, (tt, tt)) s v
  ask_keeps side h items a (of_connection (confirm x w m r b)) c s v = plain_ask side h items a (tt, tt) s v
  ask_keeps side h items a (of_connection (refuse x r b)) c s v = plain_ask side h items a (tt, tt) s v
  ask_keeps side h items a (of_connection (sends x y b)) c s v = plain_ask side h items a (tt, tt) s v
  ask_keeps side h items a (of_connection (sends_extended x k y b)) c s v = plain_ask side h items a (tt, tt) s v
  ask_keeps side h items a (of_connection (adjust x n b)) c s v = plain_ask side h items a (tt, tt) s v
  ask_keeps side h items a (of_connection (eof x b)) c s v = plain_ask side h items a (tt, tt) s v
  ask_keeps side h items a (of_connection (close x b)) c s v = plain_ask side h items a (tt, tt) s v
  ask_keeps side h items a (of_connection (request x n w r b)) c s v = plain_ask side h items a (tt, tt) s v
  ask_keeps side h items a (of_connection (reply_yes x b)) c s v = plain_ask side h items a (tt, tt) s v
  ask_keeps side h items a (of_connection (reply_no x b)) c s v = plain_ask side h items a (tt, tt) s v
  ask_keeps side h items a (of_connection (global n w r b)) c s v = plain_ask side h items a (tt, tt) s v
  ask_keeps side h items a (of_connection (global_yes r b)) c s v = plain_ask side h items a (tt, tt) s v
  ask_keeps side h items a (of_connection (global_no r b)) c s v = plain_ask side h items a (tt, tt) s v

  -- ---- turns

  answer_keeps : (side : Side) (h items : List Item) (c : Option ℕ) (m : Msg) (b : List ℕ) → Answer p side h c m items → length b ≤ largest_packet → IsAcceptable p side h m b
      → AreEncoded items → End p side h → End p side (items ++ (Took c m b ∷ h))
  answer_keeps side h items c m b (of_transport a) n w s v = transport_keeps p side h items m b a n w s v
  answer_keeps side h items c m b (of_completion r a) n w s v = completion_keeps p side h _ items m b a (replies_plain _ _ r) w s v
  answer_keeps side h items c m b (of_authentication a) n w s v = authentication_keeps p side h items m b a n w s v
  answer_keeps side h items c m b (of_connection a) n w s v = connection_keeps p side h items c m b a n w s v

  payload_keeps : (side : Side) (h items : List Item) (b : List ℕ) → length b ≤ largest_packet → OnPayload p side h b items → End p side h → End p side (items ++ h)
  payload_keeps side h items b n (takes {items = l} c m w a s k) v = rw append_assoc (answer_keeps side h l c m b a n w s v)
  payload_keeps side h items b n (skips e m) v = add_quiet p side _ _ tt (skipped p side h b e m v)
  payload_keeps side h items b n (unexpected m r) v = refuses_keeps p side h items Unexpected _ r v
  payload_keeps side h items b n (bad_message m e f r) v = refuses_keeps p side h items BadMessage _ r v
  payload_keeps side h items b n (refuses m k a e f c r) v = refuses_keeps p side h items k _ r v
  payload_keeps side h items b n (spends c m w a s k) v = add_quiet p side _ _ tt (add_quiet p side _ _ tt v)

  outcome_keeps : (side : Side) (h items : List Item) (unit : List ℕ) (o : Outcome) → IsUnit p.crypto (stage p side h) unit o → OnOutcome p side h o items → End p side h → End p side (items ++ h)
  outcome_keeps side h items unit o u (other_line text) v = add_quiet p side _ _ tt v
  outcome_keeps side h items unit o u (version_line text) v = add_line p side text h (omega (arith, line_short p (stage p side h) unit text u)) v
  outcome_keeps side h items unit o u (refused_line k r) v = refuses_keeps p side h items k _ r v
  outcome_keeps side h items unit o u (opened b x) v = payload_keeps side h items b (opened_short p (stage p side h) unit b u) x v
  outcome_keeps side h items unit o u (refused_packet k r) v = refuses_keeps p side h items k _ r v

  pub turn_keeps : (side : Side) (h items : List Item) → Turn p side h items → End p side h → End p side (items ++ h)
  turn_keeps side h items (Turn.feeds c s (FeedsTurn.feeds k m)) v = add_fed p side c s h v
  turn_keeps side h items (asks a (AsksTurn.refuses k alive e)) v = add_quiet p side _ _ tt (add_quiet p side _ _ tt v)
  turn_keeps side h items (asks a (AsksTurn.answers {items = l} alive c o s k)) v = rw append_assoc (ask_keeps side h l a o c s v)
  turn_keeps side h items (asks a (AsksTurn.spends alive c o s k)) v = add_quiet p side _ _ tt (add_quiet p side _ _ tt (add_quiet p side _ _ tt v))
  turn_keeps side h items (reads unit alive (OnUnit.reads o u x)) v = outcome_keeps side h items unit o u x v
  turn_keeps side h items (reads unit alive (OnUnit.dies o u x k)) v = add_quiet p side _ _ tt v
  turn_keeps side h items (asks a (AsksTurn.dies alive c o s k)) v = add_quiet p side _ _ tt v
  turn_keeps side h items (asks a (AsksTurn.is_dead e)) v = v
  turn_keeps side h items (Turn.feeds c s (FeedsTurn.answers_false e)) v = v

  own_line : (side : Side) → length (settings_of p side).line < 2 ^ 32
  own_line Client = omega (arith, laws.client_line)
  own_line Server = omega (arith, laws.server_line)

  pub opening_keeps : (side : Side) (items : List Item) → IsOpening p side items → End p side items
  opening_keeps side items o = subst (λ l. End p side l) (sym o.items_are) (record {
    in_step = (refl, refl);
    offered = omega arith;
    heard = tt;
    offers_sent = refl;
    cookies_used = inl (ap (λ c. c ∷ []) (encoded_cookie _ o.payload o.is_encoded));
    fit_sent = (sent_fits _ o.payload o.is_encoded, tt);
    fit_taken = tt;
    line_sent = own_line side;
    line_taken = omega arith;
    rules = ((sent_other_tag _ o.payload tt o.is_encoded, λ z. refl), (tt, (tt, tt)));
    numbered = (sent_number _ o.payload o.is_encoded, (tt, (tt, tt)));
    signed_is = λ e. refl;
  })

  above_keeps : (side : Side) (h items : List Item) → TransportTurn p side h items → End p side h → End p side (items ++ h)
  above_keeps side h items (of_end turn) v = turn_keeps side h items turn v
  above_keeps side h items (TransportTurn.sends c m b a) v = add_sent_above p side c m b h a.number a.theirs v
  above_keeps side h items (TransportTurn.takes c m b a) v = add_taken_above p side c m b h a.number a.above v
  above_keeps side h items (completes {items = l} m b alive w a s k) v = rw append_assoc (completion_keeps p side h [] l m b a tt w s v)
  above_keeps side h items (TransportTurn.refuses why b alive r) v = refuses_keeps p side h items why b r v
  above_keeps side h items (TransportTurn.dies alive) v = add_quiet p side Died h tt v

  pub run_keeps : (side : Side) (h : List Item) → TransportRun p side h → End p side h
  run_keeps side h (TransportRun.start o) = opening_keeps side h o
  run_keeps side h (TransportRun.then_turn {h = b} {items = items} before turn) = above_keeps side b items turn (run_keeps side b before)

  pub end_keeps : (side : Side) (h : List Item) → EndRun p side h → End p side h
  end_keeps side h r = run_keeps side h (transport_run p side h r)
