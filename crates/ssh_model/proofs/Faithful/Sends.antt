-- Each message that an end sends is one that it may send where it stands.
use Rattle.std.proofs.Common.{◌≡◌, ℕ, List, [], ◌∷◌, ◌++◌, refl, sym, arith, subst, append_assoc, Bool, true, false, not, ◌||◌, Option, Some, None}
use Rattle.std.specs.Prelude.{codes}
use Rattle.ssh_model.specs.declared.side.Side.{Side}
use Rattle.ssh_model.specs.declared.side.Side.TheVariants.{Client, Server}
use Rattle.ssh_model.specs.Protocol.Wire.Message.{Msg, Msg.ServiceRequest, Msg.UserauthRequest, Method, Method.NoMethod, Method.Password, Method.Publickey}
use Rattle.ssh_model.specs.Protocol.Sessions.Refusals.{first_refusal}
use Rattle.ssh_model.specs.Protocol.Sessions.Parties.{Parties, AreLawful}
use Rattle.ssh_model.specs.Protocol.Sessions.Items.{Ask, Ask.AskService, Ask.AskRekey, Ask.AskReply, Ask.AskGlobalReply, Item, Item.Asked, Item.Sent, Item.Took, took}
use Rattle.ssh_model.specs.Protocol.Sessions.Epochs.{epoch}
use Rattle.ssh_model.specs.Protocol.Sessions.Phases.{blocked, authenticated, took_service_accept}
use Rattle.ssh_model.specs.Protocol.Channels.Numbers.{waiting_here}
use Rattle.ssh_model.specs.Protocol.Channels.Connection.{notes, globals_here}
use Rattle.ssh_model.specs.Laws.Checks.{all_passed}
use Rattle.ssh_model.specs.Protocol.Sessions.Transport.{TransportAsk.service, TransportAsk.rekey, TransportAsk.disconnect as asked_to_disconnect}
use Rattle.ssh_model.specs.Protocol.Authentication.Rows.{AuthenticationAsk.none as asked_none, AuthenticationAsk.password, AuthenticationAsk.probe, AuthenticationAsk.sign}
use Rattle.ssh_model.specs.Protocol.Channels.Connection.{ConnectionAnswer.global, ConnectionAnswer.adjust, ConnectionAnswer.eof, ConnectionAnswer.close, ConnectionAnswer.request, ConnectionAsk.opens, ConnectionAsk.confirm, ConnectionAsk.refuse, ConnectionAsk.sends, ConnectionAsk.sends_extended, ConnectionAsk.adjust, ConnectionAsk.eof, ConnectionAsk.close, ConnectionAsk.request, ConnectionAsk.reply_yes, ConnectionAsk.reply_no, ConnectionAsk.global, ConnectionAsk.global_yes, ConnectionAsk.global_no}
use Rattle.ssh_model.specs.Protocol.Sessions.Turns.{Refuses, Refuses.silently, Refuses.spent, Refuses.said as said_aloud, IsAcceptable, Answer, Answer.of_completion, OnPayload, OnPayload.takes, OnPayload.skips, OnPayload.unexpected, OnPayload.bad_message, OnOutcome, OnOutcome.other_line, OnOutcome.version_line, OnOutcome.refused_line, OnOutcome.refused_packet, ask_checks, OnAsk, FeedsTurn, AsksTurn, OnUnit, OnUnit.reads, Turn, Turn.asks, Turn.reads, EndRun, EndRun.start as begins, EndRun.then_turn as goes_on}
use Rattle.ssh_model.specs.Protocol.Sessions.TurnClaims.{KeepsToExchange}
use Rattle.ssh_model.specs.Protocol.Wire.Outcome.{Outcome}
use Rattle.ssh_model.specs.declared.refusal.Refusal.{Refusal}
use Rattle.ssh_model.specs.declared.refusal.Refusal.TheVariants.{BadMessage, Unexpected}
use Rattle.ssh_model.specs.Laws.Checks.{AllPassed}
use Rattle.ssh_model.proofs.Sessions.Stages.{not_false, or_false}
use Rattle.ssh_model.proofs.Sessions.Serving.{both_ways}
use Rattle.ssh_model.proofs.Sessions.Blocked.{keeps_to_exchange}
use Rattle.ssh_model.proofs.AnyPeer.Keeps.{Grounds}
use Rattle.ssh_model.proofs.AnyPeer.Rows.{end_known}
use Rattle.ssh_model.proofs.Faithful.Sendable.{Above, AllSends, OffersAt, Stands}
use Rattle.ssh_model.proofs.Faithful.Rows.{Now, now, above, asked_above, asked_normally, asked_stands, authentication_sends, completion_sends, connection_sends, normally, offers_again, positive, transport_sends}
use Rattle.ssh_model.specs.Protocol.Authentication.Rows.{checks_of_request, user_signature_now}

module _ {K : Type 0} (p : Parties K) where
  -- ---- asks

  service_asked : (side : Side) (h : List Item) (b : List ℕ) → first_refusal (ask_checks p side h AskService) ≡ None → KeepsToExchange (Sent None (ServiceRequest (codes "ssh-userauth")) b ∷ Asked AskService ∷ h) → Now p side h
      → AllSends side h → AllSends side (Sent None (ServiceRequest (codes "ssh-userauth")) b ∷ Asked AskService ∷ h)
  service_asked Server h b c k v s = absurd (cc c)
  service_asked Client h b c k v s =
      let checks = all_passed (ask_checks p Client h AskService) c in (
        record {
          side_is = refl;
          normally = asked_normally Client AskService h (normally p Client h (λ e. absurd (cc (k.0 e))) (positive (epoch (took h)) checks.1.0) v);
          named = refl;
          first = checks.1.1.0;
        },
        s,
      )

  user_asked : (side : Side) (h : List Item) (a : Ask) (user service b : List ℕ) (method : Method) (size : ℕ) → AllPassed (checks_of_request side h size) → KeepsToExchange (Sent None (UserauthRequest user service method) b ∷ Asked a ∷ h)
      → Now p side h → AllSends side h → AllSends side (Sent None (UserauthRequest user service method) b ∷ Asked a ∷ h)
  user_asked Server h a u t b m size c k v s = absurd (cc c.0)
  user_asked Client h a u t b m size c k v s =
      let accepted = not_false (took_service_accept h) c.1.0 in
      (record { side_is = refl; normally = asked_normally Client a h (normally p Client h (λ e. absurd (cc (k.0 e))) (v.serves.accepted accepted) v); accepted = accepted }, s)

  rekey_asked : (side : Side) (h : List Item) → first_refusal (ask_checks p side h AskRekey) ≡ None → Now p side h → OffersAt side (Asked AskRekey ∷ h)
  rekey_asked side h c v =
      let checks = all_passed (ask_checks p side h AskRekey) c in
      let o = offers_again p side h (or_false (blocked h) _ checks.1.0).0 (not_false (authenticated side h) checks.0) v in
      record { stands = asked_stands side 0 0 AskRekey h o.stands; let_in = o.let_in; first = o.first }

  bold : (side : Side) (h : List Item) (a : Ask) (busy : Bool) → not (authenticated side h) ≡ false → (blocked h || busy) ≡ false → Now p side h → Above side (Asked a ∷ h)
  bold side h a busy e f v = asked_above side a h (above p side h (λ t. both_ways (blocked h) t (or_false (blocked h) busy f).0) (not_false (authenticated side h) e) v)

  ask_sends : (side : Side) (h items : List Item) (a : Ask) → OnAsk p side h a items → first_refusal (ask_checks p side h a) ≡ None → KeepsToExchange (items ++ (Asked a ∷ h)) → Now p side h → AllSends side h
      → AllSends side (items ++ (Asked a ∷ h))
  ask_sends side h items a (OnAsk.of_transport (service x)) c k v s = service_asked side h x c k v s
  ask_sends side h items a (OnAsk.of_transport (rekey b)) c k v s = (rekey_asked side h c v, s)
  ask_sends side h items a (OnAsk.of_transport (asked_to_disconnect x b)) c k v s = (tt, s)
  ask_sends side h items a (OnAsk.of_authentication (asked_none x y)) c k v s = user_asked side h a x (codes "ssh-connection") y NoMethod _ (all_passed (ask_checks p side h a) c) k v s
  ask_sends side h items a (OnAsk.of_authentication (password x y z)) c k v s = user_asked side h a x (codes "ssh-connection") z (Password y None) _ (all_passed (ask_checks p side h a) c) k v s
  ask_sends side h items a (OnAsk.of_authentication (probe x y z b)) c k v s = user_asked side h a x (codes "ssh-connection") b (Publickey y z None) _ (all_passed (ask_checks p side h a) c) k v s
  ask_sends side h items a (OnAsk.of_authentication (sign x y z b)) c k v s = user_asked side h a x (codes "ssh-connection") b (Publickey y z (Some (user_signature_now p h x y z))) _ (all_passed (ask_checks p side h a) c) k v s
  ask_sends side h items a (OnAsk.of_connection (opens x n d m r b f)) c k v s = let q = all_passed (ask_checks p side h a) c in (bold side h a _ q.0 q.1.0 v, s)
  ask_sends side h items a (OnAsk.of_connection (confirm x d m r b)) c k v s = let q = all_passed (ask_checks p side h a) c in (bold side h a _ q.0 q.1.0 v, s)
  ask_sends side h items a (OnAsk.of_connection (refuse x r b)) c k v s = let q = all_passed (ask_checks p side h a) c in (bold side h a _ q.0 q.1.0 v, s)
  ask_sends side h items a (OnAsk.of_connection (sends x y b)) c k v s = let q = all_passed (ask_checks p side h a) c in (bold side h a _ q.0 q.1.0 v, s)
  ask_sends side h items a (OnAsk.of_connection (sends_extended x n y b)) c k v s = let q = all_passed (ask_checks p side h a) c in (bold side h a _ q.0 q.1.0 v, s)
  ask_sends side h items a (OnAsk.of_connection (adjust x n b)) c k v s = let q = all_passed (ask_checks p side h a) c in (bold side h a _ q.0 q.1.0 v, s)
  ask_sends side h items a (OnAsk.of_connection (eof x b)) c k v s = let q = all_passed (ask_checks p side h a) c in (bold side h a _ q.0 q.1.0 v, s)
  ask_sends side h items a (OnAsk.of_connection (close x b)) c k v s = let q = all_passed (ask_checks p side h a) c in (bold side h a _ q.0 q.1.0 v, s)
  ask_sends side h items a (OnAsk.of_connection (request x n d r b)) c k v s = let q = all_passed (ask_checks p side h a) c in (bold side h a _ q.0 q.1.0 v, s)
  ask_sends side h items a (OnAsk.of_connection (reply_yes x b)) c k v s =
      let q = all_passed (ask_checks p side h (AskReply x true)) c in
      ((bold side h a _ q.0 q.1.0 v, positive (waiting_here x (notes side h)) q.1.1.1.1.1.0), s)
  ask_sends side h items a (OnAsk.of_connection (reply_no x b)) c k v s =
      let q = all_passed (ask_checks p side h (AskReply x false)) c in
      ((bold side h a _ q.0 q.1.0 v, positive (waiting_here x (notes side h)) q.1.1.1.1.1.0), s)
  ask_sends side h items a (OnAsk.of_connection (global n d r b)) c k v s = let q = all_passed (ask_checks p side h a) c in (bold side h a _ q.0 q.1.0 v, s)
  ask_sends side h items a (OnAsk.of_connection (global_yes r b)) c k v s =
      let q = all_passed (ask_checks p side h (AskGlobalReply true r)) c in
      ((bold side h a _ q.0 q.1.0 v, positive (globals_here h) q.1.1.1.0), s)
  ask_sends side h items a (OnAsk.of_connection (global_no r b)) c k v s =
      let q = all_passed (ask_checks p side h (AskGlobalReply false r)) c in
      ((bold side h a _ q.0 q.1.0 v, positive (globals_here h) q.1.1.1.0), s)

  -- ---- turns

  refuses_sends : (side : Side) (h items : List Item) (why : Refusal) (b : Option (List ℕ)) → Refuses h why b items → AllSends side h → AllSends side (items ++ h)
  refuses_sends side h items n b (silently e) s = s
  refuses_sends side h items n b (spent e) s = s
  refuses_sends side h items n b (said_aloud r x e f t) s = (tt, s)

  answer_sends : (side : Side) (h items : List Item) (c : Option ℕ) (m : Msg) (b : List ℕ) → Answer p side h c m items → IsAcceptable p side h m b → Grounds true p side (items ++ (Took c m b ∷ h)) → KeepsToExchange (items ++ (Took c m b ∷ h))
      → Now p side h → AllSends side h → AllSends side (items ++ (Took c m b ∷ h))
  answer_sends side h items c m b (Answer.of_transport a) w g k v s = transport_sends p side h items m b a w g k v s
  answer_sends side h items c m b (of_completion r a) w g k v s = completion_sends p side h _ items m b a r w v s
  answer_sends side h items c m b (Answer.of_authentication a) w g k v s = authentication_sends p side h items m b a w k v s
  answer_sends side h items c m b (Answer.of_connection a) w g k v s = connection_sends p side h items c m b a w v s

  payload_sends : (side : Side) (h items : List Item) (b : List ℕ) → OnPayload p side h b items → Grounds true p side (items ++ h) → KeepsToExchange (items ++ h) → Now p side h → AllSends side h → AllSends side (items ++ h)
  payload_sends side h items b (takes {items = l} c m w a t n) g k v s =
      rw append_assoc (answer_sends side h l c m b a w (rw append_assoc at g) (rw append_assoc at k) v s)
  payload_sends side h items b (skips e m) g k v s = s
  payload_sends side h items b (unexpected m r) g k v s = refuses_sends side h items Unexpected _ r s
  payload_sends side h items b (bad_message m e f r) g k v s = refuses_sends side h items BadMessage _ r s
  payload_sends side h items b (OnPayload.refuses m why a e f c r) g k v s = refuses_sends side h items why _ r s
  payload_sends side h items b (OnPayload.spends c m w a t n) g k v s = s

  outcome_sends : (side : Side) (h items : List Item) (o : Outcome) → OnOutcome p side h o items → Grounds true p side (items ++ h) → KeepsToExchange (items ++ h) → Now p side h → AllSends side h → AllSends side (items ++ h)
  outcome_sends side h items o (other_line text) g k v s = s
  outcome_sends side h items o (version_line text) g k v s = s
  outcome_sends side h items o (refused_line why r) g k v s = refuses_sends side h items why _ r s
  outcome_sends side h items o (OnOutcome.opened b x) g k v s = payload_sends side h items b x g k v s
  outcome_sends side h items o (refused_packet why r) g k v s = refuses_sends side h items why _ r s

  turn_sends : (side : Side) (h items : List Item) → Turn p side h items → Grounds true p side (items ++ h) → KeepsToExchange (items ++ h) → Now p side h → AllSends side h → AllSends side (items ++ h)
  turn_sends side h items (Turn.feeds c t (FeedsTurn.feeds e m)) g k v s = s
  turn_sends side h items (Turn.feeds c t (FeedsTurn.answers_false e)) g k v s = s
  turn_sends side h items (asks a (AsksTurn.refuses why alive e)) g k v s = s
  turn_sends side h items (asks a (AsksTurn.answers {items = l} alive c o t n)) g k v s = rw append_assoc (ask_sends side h l a o c (rw append_assoc at k) v s)
  turn_sends side h items (asks a (AsksTurn.spends alive c o t n)) g k v s = s
  turn_sends side h items (asks a (AsksTurn.dies alive c o t n)) g k v s = s
  turn_sends side h items (asks a (AsksTurn.is_dead e)) g k v s = s
  turn_sends side h items (reads unit alive (OnUnit.reads o u x)) g k v s = outcome_sends side h items o x g k v s
  turn_sends side h items (reads unit alive (OnUnit.dies o u x n)) g k v s = s

module _ {K : Type 0} (p : Parties K) (laws : AreLawful p) where
  pub end_sends : (side : Side) (h : List Item) → EndRun p side h → AllSends side h
  end_sends side h (begins o) =
      let level : Stands side 0 0 (Item.SentLine _ ∷ Item.Fed o.cookie o.secret ∷ []) = record { offers = refl; points = λ e. refl; replies = λ e. refl } in
      subst (λ l. AllSends side l) (sym o.items_are) (record { stands = level; let_in = λ n. absurd (omega (arith, n)); first = λ e. refl }, tt)
  end_sends side h (goes_on {h = b} {items = items} before turn) =
      let after = goes_on before turn in
      turn_sends p side b items turn (end_known p laws side (items ++ b) after).grounds (keeps_to_exchange p laws side (items ++ b) after) (now p laws side b before) (end_sends side b before)
