-- Every ask has an answer.
use Rattle.std.proofs.Common.{◌≡◌, ℕ, ◌<◌, ◌+◌, ◌^◌, true, false, not, nat_lt, nat_le, List, [], ◌∷◌, ◌++◌, length, ◌⊎◌, inl, inr, refl, arith, Option, None, Some}
use Rattle.std.specs.Prelude.{codes}
use Rattle.std.proofs.lemmas.Bool.{leb-true, ltb-true, ltb-false}
use Rattle.ssh_model.specs.Protocol.Bounds.{largest_data, largest_window, longest_description, longest_payload, most_channels}
use Rattle.ssh_model.specs.declared.side.Side.{Side}
use Rattle.ssh_model.specs.Protocol.Channels.History as channel
use Rattle.ssh_model.specs.Protocol.Channels.History.{is_free, has_place}
use Rattle.ssh_model.specs.Protocol.Channels.Numbers.{peer_number, receive_window}
use Rattle.ssh_model.specs.Protocol.Channels.Connection.{channel_items, notes, is_max_packet, ConnectionAsk, ConnectionAsk.opens as asks_opens, ConnectionAsk.confirm as asks_confirm, ConnectionAsk.refuse as asks_refuse, ConnectionAsk.sends as asks_data, ConnectionAsk.sends_extended as asks_extended, ConnectionAsk.adjust as asks_adjust, ConnectionAsk.eof as asks_eof, ConnectionAsk.close as asks_close, ConnectionAsk.request as asks_request, ConnectionAsk.reply_yes as asks_yes, ConnectionAsk.reply_no as asks_no, ConnectionAsk.global as asks_global, ConnectionAsk.global_yes as asks_global_yes, ConnectionAsk.global_no as asks_global_no}
use Rattle.ssh_model.specs.Protocol.Authentication.Rows.{AuthenticationAsk, AuthenticationAsk.none as asks_none, AuthenticationAsk.password as asks_password, AuthenticationAsk.probe as asks_probe, AuthenticationAsk.sign as asks_sign, password_size, probe_size, sign_size, user_signature_now}
use Rattle.ssh_model.specs.Protocol.Sessions.Sizes.{string_size, request_size}
use Rattle.ssh_model.specs.Protocol.Sessions.Transport.{TransportAsk, TransportAsk.service as asks_service, TransportAsk.rekey as asks_rekey, TransportAsk.disconnect as asks_disconnect, next_cookie}
use Rattle.ssh_model.specs.Protocol.Sessions.Parties.{Parties, AreLawful}
use Rattle.ssh_model.specs.Protocol.Sessions.Phases.{has_material}
use Rattle.ssh_model.specs.declared.ask_refusal.AskRefusal.{AskRefusal}
use Rattle.ssh_model.specs.declared.refusal.Refusal.TheVariants.{NumberSpent}
use Rattle.ssh_model.specs.Protocol.Sessions.Refusals.{first_refusal}
use Rattle.ssh_model.specs.Protocol.Sessions.Items.{Ask, Ask.AskService, Ask.AskNone, Ask.AskPassword, Ask.AskProbe, Ask.AskSign, Ask.AskRekey, Ask.AskOpen, Ask.AskConfirm, Ask.AskRefuse, Ask.AskData, Ask.AskAdjust, Ask.AskEof, Ask.AskClose, Ask.AskRequest, Ask.AskReply, Ask.AskGlobal, Ask.AskGlobalReply, Ask.AskDisconnect, Item, Item.Asked, Item.AskRefused, Item.Refused, Item.Died, has_died}
use Rattle.ssh_model.specs.Protocol.Sessions.Turns.{AreNumbered, AreEncoded, ask_checks, OnAsk, OnAsk.of_transport, OnAsk.of_authentication, OnAsk.of_connection, AsksTurn, AsksTurn.answers, EndRun}
use Rattle.ssh_model.specs.Laws.Turns.{AreGood, HasUint32s}
use Rattle.ssh_model.specs.Laws.Written.{disconnect_encoded, service_request_encoded, no_method_encoded, password_encoded, probe_encoded, sign_encoded, open_encoded, confirmation_encoded, open_failure_encoded, data_message_encoded, extended_data_encoded, adjust_encoded, eof_encoded, close_encoded, request_encoded, channel_success_encoded, channel_failure_encoded, global_request_encoded, request_success_encoded, request_failure_encoded}
use Rattle.ssh_model.proofs.Sessions.Answered.{Stands, stands, kept_cookie, numbered, place_found, short}
use Rattle.ssh_model.proofs.Sessions.Deaths.{two_or_more}
use Rattle.ssh_model.proofs.Sessions.PeerNumbers.{peer_number_below}
use Rattle.ssh_model.specs.Laws.Checks.{all_passed}
use Rattle.ssh_model.proofs.Sessions.Stages.{and_left, and_right, not_false, or_false}

-- ---- numbers of an ask

free_small : (side : Side) (items : List channel.Item) (x : ℕ) → is_free side items x ≡ true → x < 2 ^ 32
free_small side items x e = let n = ltb-true x most_channels (and_left (nat_lt x most_channels) _ e) in omega (arith, n)

packet_small : (max : ℕ) → not (is_max_packet max) ≡ false → max < 2 ^ 32
packet_small max e = let n = leb-true max largest_data (and_right (nat_le 1 max) _ (not_false (is_max_packet max) e)) in omega (arith, n)

window_small : (bytes window : ℕ) → nat_lt largest_window (bytes + window) ≡ false → bytes < 2 ^ 32
window_small bytes window e = let n = ltb-false largest_window (bytes + window) e in omega (arith, n)

-- ---- each ask

record Asking {K : Type 0} (p : Parties K) (side : Side) (h : List Item) (ask : Ask) : Type 0 where
  items : List Item
  on_ask : OnAsk p side h ask items
  encoded : AreEncoded items

module _ {K : Type 0} (p : Parties K) where
  by_transport_ask : (side : Side) (h items : List Item) (ask : Ask) → TransportAsk p side h ask items → AreEncoded items → Asking p side h ask
  by_transport_ask side h items ask a s = record { items = items; on_ask = of_transport a; encoded = s }

  by_authentication_ask : (side : Side) (h items : List Item) (ask : Ask) → AuthenticationAsk p side h ask items → AreEncoded items → Asking p side h ask
  by_authentication_ask side h items ask a s = record { items = items; on_ask = of_authentication a; encoded = s }

  by_connection_ask : (side : Side) (h items : List Item) (ask : Ask) → ConnectionAsk side h ask items → AreEncoded items → Asking p side h ask
  by_connection_ask side h items ask a s = record { items = items; on_ask = of_connection a; encoded = s }

  given : (side : Side) (h : List Item) (ask : Ask) → first_refusal (ask_checks p side h ask) ≡ None → Stands p side h → HasUint32s ask → Asking p side h ask
  given side h AskService e v u = let s = service_request_encoded (codes "ssh-userauth") (omega arith) in by_transport_ask side h _ _ (asks_service s.payload) (s.encodes, tt)
  given side h AskRekey e v u = let c = all_passed (ask_checks p side h AskRekey) e in let s = v.good.offers false (next_cookie h) (kept_cookie h v.serves.fed_is (not_false (has_material h) c.1.1.0)) in by_transport_ask side h _ _ (asks_rekey s.payload) (s.encodes, tt)
  given side h (AskDisconnect d) e v u = let c = all_passed (ask_checks p side h (AskDisconnect d)) e in let s = disconnect_encoded 11 d (omega arith) (ltb-false longest_description (length d) c.0) in by_transport_ask side h _ _ (asks_disconnect d s.payload) (s.encodes, tt)
  given side h (AskNone x) e v u = let c = all_passed (ask_checks p side h (AskNone x)) e in let n = ltb-false longest_payload (request_size x (codes "none")) c.1.1.1.1.0 in let s = no_method_encoded x (omega (arith, n)) in by_authentication_ask side h _ _ (asks_none x s.payload) (s.encodes, tt)
  given side h (AskPassword x y) e v u = let c = all_passed (ask_checks p side h (AskPassword x y)) e in let n = ltb-false longest_payload (password_size x y) c.1.1.1.1.0 in let s = password_encoded x y (omega (arith, n)) in by_authentication_ask side h _ _ (asks_password x y s.payload) (s.encodes, tt)
  given side h (AskProbe x y z) e v u = let c = all_passed (ask_checks p side h (AskProbe x y z)) e in let n = ltb-false longest_payload (probe_size x y z) c.1.1.1.1.0 in let s = probe_encoded x y z (omega (arith, n)) in by_authentication_ask side h _ _ (asks_probe x y z s.payload) (s.encodes, tt)
  given side h (AskSign x y z) e v u = let c = all_passed (ask_checks p side h (AskSign x y z)) e in let n = ltb-false longest_payload (sign_size x y z) c.1.1.1.1.0 in let s = sign_encoded x y z (user_signature_now p h x y z) (omega (arith, n)) (short 4096 _) in by_authentication_ask side h _ _ (asks_sign x y z s.payload) (s.encodes, tt)
  given side h (AskOpen kind window max rest) e v u = let c = all_passed (ask_checks p side h (AskOpen kind window max rest)) e in
      let x = place_found side (channel_items h) (not_false (has_place side (channel_items h)) c.1.1.1.0) in
      let m = packet_small max c.1.1.1.1.0 in
      let n = ltb-false longest_payload (13 + string_size kind + length rest) c.1.1.1.1.1.0 in
      let s = open_encoded kind (x.0) window max rest (free_small side (channel_items h) (x.0) (x.1)) u m (omega (arith, n)) in
      by_connection_ask side h _ _ (asks_opens (x.0) kind window max rest s.payload (x.1)) (s.encodes, tt)
  given side h (AskConfirm x window max rest) e v u = let c = all_passed (ask_checks p side h (AskConfirm x window max rest)) e in
      let m = packet_small max c.1.1.1.1.0 in
      let n = ltb-false longest_payload (17 + length rest) c.1.1.1.1.1.0 in
      let s = confirmation_encoded (peer_number x (notes side h)) x window max rest (peer_number_below p side h x v.formed) u.0 u.1 m n in
      by_connection_ask side h _ _ (asks_confirm x window max rest s.payload) (s.encodes, tt)
  given side h (AskRefuse x reason) e v u = let s = open_failure_encoded (peer_number x (notes side h)) reason (peer_number_below p side h x v.formed) u in by_connection_ask side h _ _ (asks_refuse x reason s.payload) (s.encodes, tt)
  given side h (AskData x None body) e v u = let c = all_passed (ask_checks p side h (AskData x None body)) e in
      let n = ltb-false largest_data (length body) (or_false (nat_lt largest_data (length body)) _ c.1.1.1.1.1.0).0 in
      let s = data_message_encoded (peer_number x (notes side h)) body (peer_number_below p side h x v.formed) n in by_connection_ask side h _ _ (asks_data x body s.payload) (s.encodes, tt)
  given side h (AskData x (Some kind) body) e v u = let c = all_passed (ask_checks p side h (AskData x (Some kind) body)) e in
      let n = ltb-false largest_data (length body) (or_false (nat_lt largest_data (length body)) _ c.1.1.1.1.1.0).0 in
      let s = extended_data_encoded (peer_number x (notes side h)) kind body (peer_number_below p side h x v.formed) u n in by_connection_ask side h _ _ (asks_extended x kind body s.payload) (s.encodes, tt)
  given side h (AskAdjust x bytes) e v u = let c = all_passed (ask_checks p side h (AskAdjust x bytes)) e in
      let s = adjust_encoded (peer_number x (notes side h)) bytes (peer_number_below p side h x v.formed) (window_small bytes (receive_window x (notes side h)) c.1.1.1.1.1.0) in by_connection_ask side h _ _ (asks_adjust x bytes s.payload) (s.encodes, tt)
  given side h (AskEof x) e v u = let s = eof_encoded (peer_number x (notes side h)) (peer_number_below p side h x v.formed) in by_connection_ask side h _ _ (asks_eof x s.payload) (s.encodes, tt)
  given side h (AskClose x) e v u = let s = close_encoded (peer_number x (notes side h)) (peer_number_below p side h x v.formed) in by_connection_ask side h _ _ (asks_close x s.payload) (s.encodes, tt)
  given side h (AskRequest x name want rest) e v u = let c = all_passed (ask_checks p side h (AskRequest x name want rest)) e in
      let n = ltb-false longest_payload (6 + string_size name + length rest) c.1.1.1.1.1.0 in
      let s = request_encoded (peer_number x (notes side h)) name want rest (peer_number_below p side h x v.formed) (omega (arith, n)) in by_connection_ask side h _ _ (asks_request x name want rest s.payload) (s.encodes, tt)
  given side h (AskReply x true) e v u = let s = channel_success_encoded (peer_number x (notes side h)) (peer_number_below p side h x v.formed) in by_connection_ask side h _ _ (asks_yes x s.payload) (s.encodes, tt)
  given side h (AskReply x false) e v u = let s = channel_failure_encoded (peer_number x (notes side h)) (peer_number_below p side h x v.formed) in by_connection_ask side h _ _ (asks_no x s.payload) (s.encodes, tt)
  given side h (AskGlobal name want rest) e v u = let c = all_passed (ask_checks p side h (AskGlobal name want rest)) e in
      let n = ltb-false longest_payload (2 + string_size name + length rest) c.1.1.1.0 in
      let s = global_request_encoded name want rest (omega (arith, n)) in by_connection_ask side h _ _ (asks_global name want rest s.payload) (s.encodes, tt)
  given side h (AskGlobalReply true rest) e v u = let c = all_passed (ask_checks p side h (AskGlobalReply true rest)) e in let s = request_success_encoded rest (ltb-false longest_payload (1 + length rest) c.1.1.1.1.0) in by_connection_ask side h _ _ (asks_global_yes rest s.payload) (s.encodes, tt)
  given side h (AskGlobalReply false rest) e v u = let s = request_failure_encoded in by_connection_ask side h _ _ (asks_global_no rest s.payload) (s.encodes, tt)

  asked : (side : Side) (h : List Item) (ask : Ask) → has_died h ≡ false → Stands p side h → HasUint32s ask → (r : Option AskRefusal) → first_refusal (ask_checks p side h ask) ≡ r
      → (items : List Item) × AsksTurn p side h ask items × (items ≡ Died ∷ [] → ⊥)
  asked side h ask live v u (Some r) e = (AskRefused r ∷ Asked ask ∷ [], AsksTurn.refuses r live e, λ f. cc f)
  asked side h ask live v u None e = let a = given side h ask e v u in go a (numbered a.items (Asked ask ∷ h))
    where
      go : (a : Asking p side h ask) → AreNumbered a.items (Asked ask ∷ h) ⊎ (AreNumbered a.items (Asked ask ∷ h) → ⊥) → (items : List Item) × AsksTurn p side h ask items × (items ≡ Died ∷ [] → ⊥)
      go a (inl k) = (a.items ++ Asked ask ∷ [], answers live e a.on_ask a.encoded k, λ f. let g = two_or_more a.items (Asked ask) f in cc g)
      go a (inr k) = (Died ∷ Refused NumberSpent None ∷ Asked ask ∷ [], AsksTurn.spends live e a.on_ask a.encoded k, λ f. cc f)

  pub asks_answered : AreLawful p → (side : Side) → AreGood p side → (h : List Item) → EndRun p side h → has_died h ≡ false → (ask : Ask) → HasUint32s ask
      → (items : List Item) × AsksTurn p side h ask items × (items ≡ Died ∷ [] → ⊥)
  asks_answered laws side good h run live ask u = asked side h ask live (stands p laws side h good run) u (first_refusal (ask_checks p side h ask)) refl
