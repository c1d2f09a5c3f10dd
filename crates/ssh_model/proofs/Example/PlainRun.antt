-- The toy session without strict key exchange is an honest run, and what the client took is no prefix of what was sent.
use Rattle.std.proofs.Common.{◌≡◌, ℕ, ◌<◌, true, List, [], ◌∷◌, inl, inr, refl, sym, ◌∙◌, arith, None, ap}
use Rattle.std.specs.Prelude.{codes}
use Rattle.ssh_model.specs.declared.side.Side.{Side}
use Rattle.ssh_model.specs.declared.side.Side.TheVariants.{Client, Server}
use Rattle.ssh_model.specs.Protocol.Side.{part}
use Rattle.ssh_model.specs.Example.Toys.{plain, toy_key, cookie, secret}
use Rattle.ssh_model.specs.Example.PlainRun.{farewell, plain_reply, plain_session, plain0, plain1, plain2, plain3, plain4, plain5, plain6, plain7, plain8, plain9, plain10, plain11, plain12}
use Rattle.ssh_model.specs.Example.Run.{payload_of, sends, takes, offer_message_by, start_by}
use Rattle.ssh_model.proofs.Example.Messages.{IsGood, good_farewell, good_ignore, good_init_1, good_newkeys, good_plain_offer, good_reply, good_service_accept, good_service_request, reply_with}
use Rattle.ssh_model.proofs.Example.Run.{material, signs_itself}
use Rattle.ssh_model.proofs.Example.Turns.{takes_message, takes_line}
use Rattle.std.specs.Prelude.{take}
use Rattle.ssh_model.specs.Protocol.Wire.Message.{Msg.Ignore, Msg.NewKeys, Msg.KexEcdhInit, Msg.ServiceRequest, Msg.ServiceAccept}
use Rattle.ssh_model.specs.Protocol.KeyExchange.Choice.{methods}
use Rattle.ssh_model.specs.Protocol.KeyExchange.Exchange.{Inputs, exchange_text}
use Rattle.ssh_model.specs.Protocol.Sessions.Refusals.{first_refusal}
use Rattle.ssh_model.specs.Protocol.Sessions.Parties.{AreLawful}
use Rattle.ssh_model.specs.Protocol.Sessions.Items.{Ask.AskService, Ask.AskDisconnect, Fact.Completed, Fact.Ignored, Fact.Disconnected, Item.Told, Item.Died}
use Rattle.ssh_model.specs.Protocol.KeyExchange.Exchanges.{nth, no_exchange, exchange, exchanges}
use Rattle.ssh_model.specs.Protocol.Channels.History.{has_place, some_free}
use Rattle.ssh_model.specs.Protocol.Sessions.Transport.{hash_to_sign, TransportAnswer.disconnect, TransportAnswer.ignore, TransportAnswer.service_request, IsAnnounced.nothing, TransportAnswer.kexinit_at_server, TransportAnswer.kexinit_at_client, CompletingAnswer.init, CompletingAnswer.reply as answers_reply, TransportAnswer.newkeys, TransportAsk.service, TransportAsk.disconnect as asked_to_disconnect}
use Rattle.ssh_model.specs.Protocol.Channels.Connection.{AreReplies.none as no_replies}
use Rattle.ssh_model.specs.Protocol.Sessions.Turns.{answer_checks, Answer.of_transport, Answer.of_completion, OnAsk.of_transport as asks_transport, AsksTurn.answers, Turn.asks as asking_turn, Run, Run.start, Run.then_turn}
use Rattle.ssh_model.specs.Protocol.Sessions.Honest.{AreDistinct, TagsHold, SignaturesHold, IsCompleted, cookies, IsHonest}
use Rattle.ssh_model.specs.Protocol.Sessions.Claims.{Beginning}
use Rattle.ssh_model.specs.Example.Histories.{offer_by, userauth}
use Rattle.ssh_model.specs.Laws.MacOnly.{mac_only_laws}

pub plain_is_lawful : AreLawful plain
plain_is_lawful = record { sealing = mac_only_laws; client_line = omega arith; server_line = omega arith }

-- ---- the reply

good_plain_reply : IsGood plain_reply
unfolding methods
good_plain_reply = good_reply 2 (exchange_text (exchange plain Server 0 (sends (reply_with 2 []) ∷ takes (KexEcdhInit (secret 1)) ∷ part Server plain5))) (omega arith)

plain_reply_is_trusted : first_refusal (answer_checks plain Client (part Client plain6) plain_reply) ≡ None
unfolding methods
plain_reply_is_trusted = rw (signs_itself (exchange_text (exchange plain Client 0 (takes plain_reply ∷ part Client plain6)))) refl

-- ---- the turns

run0 : Run plain plain0
run0 = start (start_by plain Client) (start_by plain Server) (record {
  cookie = cookie 193;
  secret = secret 1;
  payload = payload_of (offer_message_by plain Client true);
  is_material = material 193 1 (omega arith) (omega arith);
  is_encoded = (good_plain_offer Client).encoded;
  items_are = refl;
}) (record {
  cookie = cookie 209;
  secret = secret 2;
  payload = payload_of (offer_message_by plain Server true);
  is_material = material 209 2 (omega arith) (omega arith);
  is_encoded = (good_plain_offer Server).encoded;
  items_are = refl;
})

run1 : Run plain plain1
run1 = then_turn Server run0 (takes_line plain Server Client (part Server plain0) refl refl)

run2 : Run plain plain2
run2 = then_turn Client run1 (takes_line plain Client Server (part Client plain1) refl refl)

run3 : Run plain plain3
unfolding methods has_place some_free
run3 = then_turn Client run2 (takes_message plain Client (part Client plain2) (Told Ignored ∷ []) None (Ignore []) good_ignore (record { sealing = refl; live = refl; past = refl; number = (omega arith, omega arith); read = refl; no_guess = refl; context = tt; welcome = refl }) (of_transport (ignore [])) tt tt)

run4 : Run plain plain4
unfolding methods has_place some_free
run4 = then_turn Server run3 (takes_message plain Server (part Server plain3) [] None (offer_message_by plain Client true) (good_plain_offer Client) (record { sealing = refl; live = refl; past = refl; number = (omega arith, omega arith); read = refl; no_guess = refl; context = tt; welcome = refl }) (of_transport (kexinit_at_server (offer_by plain Client true) refl)) tt tt)

run5 : Run plain plain5
unfolding methods has_place some_free
run5 = then_turn Client run4 (takes_message plain Client (part Client plain4) (sends (KexEcdhInit (secret 1)) ∷ []) None (offer_message_by plain Server true) (good_plain_offer Server) (record { sealing = refl; live = refl; past = refl; number = (omega arith, omega arith); read = refl; no_guess = refl; context = tt; welcome = refl }) (of_transport (kexinit_at_client (offer_by plain Server true) (payload_of (KexEcdhInit (secret 1))) refl)) (good_init_1.encoded, tt) (omega arith, tt))

run6 : Run plain plain6
unfolding methods has_place some_free
run6 = then_turn Server run5 (takes_message plain Server (part Server plain5) (Told (Completed 1) ∷ sends NewKeys ∷ sends plain_reply ∷ []) None (KexEcdhInit (secret 1)) good_init_1 (record { sealing = refl; live = refl; past = refl; number = (omega arith, omega arith); read = refl; no_guess = refl; context = tt; welcome = refl }) (of_completion no_replies (init (secret 1) (payload_of plain_reply) (payload_of NewKeys) (nothing refl))) (good_newkeys.encoded, (good_plain_reply.encoded, tt)) (omega arith, (omega arith, tt)))

run7 : Run plain plain7
unfolding methods has_place some_free
run7 = then_turn Client run6 (takes_message plain Client (part Client plain6) (Told (Completed 1) ∷ sends NewKeys ∷ []) None plain_reply good_plain_reply (record { sealing = refl; live = refl; past = refl; number = (omega arith, omega arith); read = refl; no_guess = refl; context = tt; welcome = plain_reply_is_trusted }) (of_completion no_replies (answers_reply toy_key (secret 2) (take 4096 (hash_to_sign plain (part Server plain5) (secret 1))) (payload_of NewKeys) (nothing refl))) (good_newkeys.encoded, tt) (omega arith, tt))

run8 : Run plain plain8
unfolding methods has_place some_free
run8 = then_turn Client run7 (takes_message plain Client (part Client plain7) [] None NewKeys good_newkeys (record { sealing = refl; live = refl; past = refl; number = (omega arith, omega arith); read = refl; no_guess = refl; context = tt; welcome = refl }) (of_transport newkeys) tt tt)

run9 : Run plain plain9
unfolding methods has_place some_free
run9 = then_turn Server run8 (takes_message plain Server (part Server plain8) [] None NewKeys good_newkeys (record { sealing = refl; live = refl; past = refl; number = (omega arith, omega arith); read = refl; no_guess = refl; context = tt; welcome = refl }) (of_transport newkeys) tt tt)

run10 : Run plain plain10
unfolding methods has_place some_free
run10 = then_turn Client run9 (asking_turn AskService (answers refl refl (asks_transport (service (payload_of (ServiceRequest userauth)))) (good_service_request.encoded, tt) (omega arith, tt)))

run11 : Run plain plain11
unfolding methods has_place some_free
run11 = then_turn Server run10 (takes_message plain Server (part Server plain10) (sends (ServiceAccept userauth) ∷ []) None (ServiceRequest userauth) good_service_request (record { sealing = refl; live = refl; past = refl; number = (omega arith, omega arith); read = refl; no_guess = refl; context = tt; welcome = refl }) (of_transport (service_request userauth (payload_of (ServiceAccept userauth)))) (good_service_accept.encoded, tt) (omega arith, tt))

run12 : Run plain plain12
unfolding methods has_place some_free
run12 = then_turn Server run11 (asking_turn (AskDisconnect (codes "bye")) (answers refl refl (asks_transport (asked_to_disconnect (codes "bye") (payload_of farewell))) (good_farewell.encoded, tt) (omega arith, tt)))

run13 : Run plain plain_session
unfolding methods has_place some_free
run13 = then_turn Client run12 (takes_message plain Client (part Client plain12) (Died ∷ Told (Disconnected 11 (codes "bye")) ∷ []) None farewell good_farewell (record { sealing = refl; live = refl; past = refl; number = (omega arith, omega arith); read = refl; no_guess = refl; context = tt; welcome = refl }) (of_transport (disconnect 11 (codes "bye") [])) tt tt)

pub plain_session_runs : Run plain plain_session
plain_session_runs = run13

-- ---- it is honest

-- before there are keys, nothing is assumed
early : {A : Type 0} → 0 < 0 → A
early z = absurd (omega (arith, z))

tags_hold : TagsHold plain plain_session
unfolding methods
tags_hold = ((λ z. inl (refl, refl, refl)), ((λ z. inl (refl, refl, refl)), (early, (early, (early, (early, (early, (early, (early, tt)))))))))

signatures_hold : SignaturesHold plain plain_session
unfolding methods
signatures_hold = ((_, inl refl, refl), tt)

abbrev inputs : Inputs
inputs = nth no_exchange 0 (exchanges plain Client (part Client plain_session))

only : (x : Inputs) → IsCompleted plain x plain_session → x ≡ inputs
unfolding methods
only x (inl (inl e)) = e
only x (inl (inr u)) = elim u [ ]
only x (inr (inl e)) = e
only x (inr (inr u)) = elim u [ ]

one_cookie : (side : Side) → AreDistinct (cookies (part side plain_session))
one_cookie Client = ((λ u. elim u [ ]), tt)
one_cookie Server = ((λ u. elim u [ ]), tt)

pub plain_session_is_honest : IsHonest plain plain_session
plain_session_is_honest = record {
  tags = tags_hold;
  signatures = signatures_hold;
  hashes = λ x y a b e. ap exchange_text (only x a ∙ sym (only y b));
  cookies_differ = one_cookie;
}

-- ---- a prefix is lost

abbrev first_byte : List (List ℕ) → ℕ
first_byte ((b ∷ payload) ∷ l) = b
first_byte _ = 0

-- The client took DISCONNECT as the first payload under the keys, where the server had sent SERVICE_ACCEPT before.
pub prefix_is_lost : Beginning plain_session → ⊥
prefix_is_lost begins = let e = begins Client in let same : 1 ≡ 6 = ap first_byte e.1 in omega (arith, same)
