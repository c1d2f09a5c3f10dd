-- The toy session is a run.
use Rattle.std.proofs.Common.{◌≡◌, ℕ, ◌<◌, true, false, List, [], ◌∷◌, refl, arith, Some, None}
use Rattle.std.specs.Prelude.{take, codes}
use Rattle.std.proofs.lemmas.Cmp.{nat_list_eq_equiv}
use Rattle.std.proofs.lemmas.List.{take_all}
use Rattle.sha2.specs.Sha256.{sha256}
use Rattle.sha2.proofs.Facts256.{length-sha256}
use Rattle.ssh_model.specs.declared.side.Side.TheVariants.{Client, Server}
use Rattle.ssh_model.specs.declared.request_kind.RequestKind.TheVariants as kind
use Rattle.ssh_model.specs.Protocol.Side.{part}
use Rattle.ssh_model.specs.Protocol.Wire.Message.{Msg.NewKeys, Msg.KexEcdhInit, Msg.ServiceRequest, Msg.ServiceAccept, Msg.UserauthSuccess, Msg.ChannelClose, Method.Password}
use Rattle.ssh_model.specs.Protocol.Wire.DataTypes.{is_text}
use Rattle.ssh_model.specs.Protocol.KeyExchange.Choice.{methods}
use Rattle.ssh_model.specs.Protocol.KeyExchange.Exchange.{exchange_text}
use Rattle.ssh_model.specs.Protocol.Sessions.Refusals.{first_refusal}
use Rattle.ssh_model.specs.Protocol.Sessions.Items.{Ask.AskService, Ask.AskPassword, Ask.AskRekey, Ask.AskOpen, Ask.AskConfirm, Ask.AskData, Ask.AskClose, Fact.Completed, Fact.Service, Fact.Accepted, Fact.Authenticated, Fact.Opened, Fact.Confirmed, Fact.GotData, Fact.Closed, Item.Told}
use Rattle.ssh_model.specs.Protocol.Sessions.Items.{Credential.ByPassword}
use Rattle.ssh_model.specs.Protocol.KeyExchange.Exchanges.{exchange}
use Rattle.ssh_model.specs.Protocol.Channels.Message.{Message.Close}
use Rattle.ssh_model.specs.Protocol.Channels.History.{has_place, some_free}
use Rattle.ssh_model.specs.Protocol.Sessions.Transport.{hash_to_sign, TransportAnswer.service_request, IsAnnounced.nothing, TransportAnswer.service_accept, TransportAnswer.kexinit_at_server, TransportAnswer.kexinit_at_client, TransportAnswer.answered_at_server, CompletingAnswer.init, CompletingAnswer.reply as answers_reply, TransportAnswer.newkeys, TransportAsk.service, TransportAsk.rekey}
use Rattle.ssh_model.specs.Protocol.Authentication.Rows.{AuthenticationAnswer.request_accepted, AuthenticationAnswer.success, AuthenticationAsk.password}
use Rattle.ssh_model.specs.Protocol.Channels.Connection.{AreReplies.none as no_replies, AreReplies.reply as one_reply, ConnectionAnswer.opened as opened_at, ConnectionAnswer.confirmation, ConnectionAnswer.got_data, ConnectionAnswer.close, ConnectionAsk.opens, ConnectionAsk.confirm, ConnectionAsk.sends as gives_data, ConnectionAsk.close as says_close}
use Rattle.ssh_model.specs.Protocol.Sessions.Turns.{answer_checks, Answer.of_transport, Answer.of_completion, Answer.of_authentication, Answer.of_connection, OnAsk.of_transport as asks_transport, OnAsk.of_authentication as asks_authentication, OnAsk.of_connection as asks_connection, FeedsTurn.feeds as fed_now, AsksTurn.answers, Turn.feeds as feeding_turn, Turn.asks as asking_turn, IsMaterial, Run, Run.start, Run.then_turn}
use Rattle.ssh_model.specs.Example.Toys.{toy, toy_key, cookie, secret}
use Rattle.ssh_model.specs.Example.Histories.{userauth, connection, right_request, open_message, confirm_message, offer_of}
use Rattle.ssh_model.specs.Example.Run.{payload_of, sends, takes, sends_on, offer_message, start_of, data_message, first_reply_message, second_reply_message, session, d0, d1, d2, d3, d4, d5, d6, d7, d8, d9, d10, d11, d12, d13, d14, d15, d16, d17, d18, d19, d20, d21, d22, d23, d24, d25, d26, d27, d28, d29, d30, d31, d32}
use Rattle.ssh_model.proofs.Example.Messages.{IsGood, good_close_3, good_close_5, good_confirm, good_data, good_init_1, good_init_4, good_newkeys, good_offer, good_open, good_request, good_service_accept, good_service_request, good_success, good_reply, reply_with, secret_bytes}
use Rattle.ssh_model.proofs.Example.Turns.{takes_message, takes_line}

pub material : (b c : ℕ) → b < 256 → c < 256 → IsMaterial (cookie b) (secret c)
material b c m n = record {
  cookie_bytes = (m, (m, (m, (m, (m, (m, (m, (m, (m, (m, (m, (m, (m, (m, (m, (m, tt))))))))))))))));
  cookie_size = refl;
  secret_bytes = secret_bytes c n;
  secret_size = refl;
}

-- ---- the replies

abbrev first_signature : List ℕ
first_signature = take 4096 (hash_to_sign toy (part Server d4) (secret 1))

abbrev second_signature : List ℕ
second_signature = take 4096 (hash_to_sign toy (part Server d27) (secret 4))

good_first_reply : IsGood first_reply_message
unfolding methods
good_first_reply = good_reply 2 (exchange_text (exchange toy Server 0 (sends (reply_with 2 []) ∷ takes (KexEcdhInit (secret 1)) ∷ part Server d4))) (omega arith)

good_second_reply : IsGood second_reply_message
unfolding methods
good_second_reply = good_reply 8 (exchange_text (exchange toy Server 1 (sends (reply_with 8 []) ∷ takes (KexEcdhInit (secret 4)) ∷ part Server d27))) (omega arith)

-- A signature of a hash is the hash.
pub signs_itself : (text : List ℕ) → is_text (take 4096 (sha256 text)) (sha256 text) ≡ true
signs_itself text =
    let e : take 4096 (sha256 text) ≡ sha256 text = take_all 4096 (sha256 text) (omega (arith, length-sha256 text)) in rw e (nat_list_eq_equiv.refl (sha256 text))

first_is_trusted : first_refusal (answer_checks toy Client (part Client d5) first_reply_message) ≡ None
unfolding methods
first_is_trusted = rw (signs_itself (exchange_text (exchange toy Client 0 (takes first_reply_message ∷ part Client d5)))) refl

second_is_trusted : first_refusal (answer_checks toy Client (part Client d28) second_reply_message) ≡ None
unfolding methods
second_is_trusted = rw (signs_itself (exchange_text (exchange toy Client 1 (takes second_reply_message ∷ part Client d28)))) refl

-- ---- the turns

r0 : Run toy d0
r0 = start (start_of Client) (start_of Server) (record {
  cookie = cookie 193;
  secret = secret 1;
  payload = payload_of (offer_message Client true);
  is_material = material 193 1 (omega arith) (omega arith);
  is_encoded = (good_offer Client true).encoded;
  items_are = refl;
}) (record {
  cookie = cookie 209;
  secret = secret 2;
  payload = payload_of (offer_message Server true);
  is_material = material 209 2 (omega arith) (omega arith);
  is_encoded = (good_offer Server true).encoded;
  items_are = refl;
})

r1 : Run toy d1
r1 = then_turn Server r0 (takes_line toy Server Client (part Server d0) refl refl)

r2 : Run toy d2
r2 = then_turn Client r1 (takes_line toy Client Server (part Client d1) refl refl)

r3 : Run toy d3
unfolding methods has_place some_free
r3 = then_turn Server r2 (takes_message toy Server (part Server d2) [] None (offer_message Client true) (good_offer Client true) (record { sealing = refl; live = refl; past = refl; number = (omega arith, omega arith); read = refl; no_guess = refl; context = tt; welcome = refl }) (of_transport (kexinit_at_server (offer_of Client true) refl)) tt tt)

r4 : Run toy d4
unfolding methods has_place some_free
r4 = then_turn Client r3 (takes_message toy Client (part Client d3) (sends (KexEcdhInit (secret 1)) ∷ []) None (offer_message Server true) (good_offer Server true) (record { sealing = refl; live = refl; past = refl; number = (omega arith, omega arith); read = refl; no_guess = refl; context = tt; welcome = refl }) (of_transport (kexinit_at_client (offer_of Server true) (payload_of (KexEcdhInit (secret 1))) refl)) (good_init_1.encoded, tt) (omega arith, tt))

r5 : Run toy d5
unfolding methods has_place some_free
r5 = then_turn Server r4 (takes_message toy Server (part Server d4) (Told (Completed 1) ∷ sends NewKeys ∷ sends first_reply_message ∷ []) None (KexEcdhInit (secret 1)) good_init_1 (record { sealing = refl; live = refl; past = refl; number = (omega arith, omega arith); read = refl; no_guess = refl; context = tt; welcome = refl }) (of_completion no_replies (init (secret 1) (payload_of first_reply_message) (payload_of NewKeys) (nothing refl))) (good_newkeys.encoded, (good_first_reply.encoded, tt)) (omega arith, (omega arith, tt)))

r6 : Run toy d6
unfolding methods has_place some_free
r6 = then_turn Client r5 (takes_message toy Client (part Client d5) (Told (Completed 1) ∷ sends NewKeys ∷ []) None first_reply_message good_first_reply (record { sealing = refl; live = refl; past = refl; number = (omega arith, omega arith); read = refl; no_guess = refl; context = tt; welcome = first_is_trusted }) (of_completion no_replies (answers_reply toy_key (secret 2) first_signature (payload_of NewKeys) (nothing refl))) (good_newkeys.encoded, tt) (omega arith, tt))

r7 : Run toy d7
unfolding methods has_place some_free
r7 = then_turn Client r6 (takes_message toy Client (part Client d6) [] None NewKeys good_newkeys (record { sealing = refl; live = refl; past = refl; number = (omega arith, omega arith); read = refl; no_guess = refl; context = tt; welcome = refl }) (of_transport newkeys) tt tt)

r8 : Run toy d8
unfolding methods has_place some_free
r8 = then_turn Server r7 (takes_message toy Server (part Server d7) [] None NewKeys good_newkeys (record { sealing = refl; live = refl; past = refl; number = (omega arith, omega arith); read = refl; no_guess = refl; context = tt; welcome = refl }) (of_transport newkeys) tt tt)

r9 : Run toy d9
unfolding methods has_place some_free
r9 = then_turn Client r8 (asking_turn AskService (answers refl refl (asks_transport (service (payload_of (ServiceRequest userauth)))) (good_service_request.encoded, tt) (omega arith, tt)))

r10 : Run toy d10
unfolding methods has_place some_free
r10 = then_turn Server r9 (takes_message toy Server (part Server d9) (sends (ServiceAccept userauth) ∷ []) None (ServiceRequest userauth) good_service_request (record { sealing = refl; live = refl; past = refl; number = (omega arith, omega arith); read = refl; no_guess = refl; context = tt; welcome = refl }) (of_transport (service_request userauth (payload_of (ServiceAccept userauth)))) (good_service_accept.encoded, tt) (omega arith, tt))

pub r11 : Run toy d11
unfolding methods has_place some_free
r11 = then_turn Client r10 (takes_message toy Client (part Client d10) (Told Service ∷ []) None (ServiceAccept userauth) good_service_accept (record { sealing = refl; live = refl; past = refl; number = (omega arith, omega arith); read = refl; no_guess = refl; context = tt; welcome = refl }) (of_transport (service_accept userauth)) tt tt)

r12 : Run toy d12
unfolding methods has_place some_free
r12 = then_turn Client r11 (asking_turn (AskPassword (codes "u") (codes "p")) (answers refl refl (asks_authentication (password (codes "u") (codes "p") (payload_of right_request))) (good_request.encoded, tt) (omega arith, tt)))

r13 : Run toy d13
unfolding methods has_place some_free
r13 = then_turn Server r12 (takes_message toy Server (part Server d12) (Told (Accepted (codes "u") ByPassword) ∷ sends UserauthSuccess ∷ []) None right_request good_request (record { sealing = refl; live = refl; past = refl; number = (omega arith, omega arith); read = refl; no_guess = refl; context = tt; welcome = refl }) (of_authentication (request_accepted (codes "u") connection (Password (codes "p") None) (payload_of UserauthSuccess) refl refl)) (good_success.encoded, tt) (omega arith, tt))

r14 : Run toy d14
unfolding methods has_place some_free
r14 = then_turn Client r13 (takes_message toy Client (part Client d13) (Told (Authenticated kind.Password) ∷ []) None UserauthSuccess good_success (record { sealing = refl; live = refl; past = refl; number = (omega arith, omega arith); read = refl; no_guess = refl; context = tt; welcome = refl }) (of_authentication (success (Password (codes "p") None) refl)) tt tt)

r15 : Run toy d15
unfolding methods has_place some_free
r15 = then_turn Client r14 (asking_turn (AskOpen (codes "session") 10 8 []) (answers refl refl (asks_connection (opens 3 (codes "session") 10 8 [] (payload_of open_message) refl)) (good_open.encoded, tt) (omega arith, tt)))

r16 : Run toy d16
unfolding methods has_place some_free
r16 = then_turn Server r15 (takes_message toy Server (part Server d15) (Told (Opened 5 (codes "session") 10 8 []) ∷ []) (Some 5) open_message good_open (record { sealing = refl; live = refl; past = refl; number = (omega arith, omega arith); read = refl; no_guess = refl; context = tt; welcome = refl }) (of_connection (opened_at 5 (codes "session") 3 10 8 [] refl)) tt tt)

r17 : Run toy d17
unfolding methods has_place some_free
r17 = then_turn Server r16 (asking_turn (AskConfirm 5 20 16 []) (answers refl refl (asks_connection (confirm 5 20 16 [] (payload_of confirm_message))) (good_confirm.encoded, tt) (omega arith, tt)))

r18 : Run toy d18
unfolding methods has_place some_free
r18 = then_turn Client r17 (takes_message toy Client (part Client d17) (Told (Confirmed 3 20 16 []) ∷ []) (Some 3) confirm_message good_confirm (record { sealing = refl; live = refl; past = refl; number = (omega arith, omega arith); read = refl; no_guess = refl; context = tt; welcome = refl }) (of_connection (confirmation 3 5 20 16 [])) tt tt)

r19 : Run toy d19
unfolding methods has_place some_free
r19 = then_turn Client r18 (asking_turn (AskData 3 None (codes "hi")) (answers refl refl (asks_connection (gives_data 3 (codes "hi") (payload_of data_message))) (good_data.encoded, tt) (omega arith, tt)))

r20 : Run toy d20
unfolding methods has_place some_free
r20 = then_turn Server r19 (takes_message toy Server (part Server d19) (Told (GotData 5 None (codes "hi")) ∷ []) (Some 5) data_message good_data (record { sealing = refl; live = refl; past = refl; number = (omega arith, omega arith); read = refl; no_guess = refl; context = tt; welcome = refl }) (of_connection (got_data 5 (codes "hi"))) tt tt)

r21 : Run toy d21
r21 = then_turn Client r20 (feeding_turn (cookie 162) (secret 4) (fed_now refl (material 162 4 (omega arith) (omega arith))))

r22 : Run toy d22
r22 = then_turn Server r21 (feeding_turn (cookie 178) (secret 8) (fed_now refl (material 178 8 (omega arith) (omega arith))))

r23 : Run toy d23
unfolding methods has_place some_free
r23 = then_turn Client r22 (asking_turn AskRekey (answers refl refl (asks_transport (rekey (payload_of (offer_message Client false)))) ((good_offer Client false).encoded, tt) (omega arith, tt)))

r24 : Run toy d24
unfolding methods has_place some_free
r24 = then_turn Server r23 (asking_turn (AskClose 5) (answers refl refl (asks_connection (says_close 5 (payload_of (ChannelClose 3)))) (good_close_3.encoded, tt) (omega arith, tt)))

r25 : Run toy d25
unfolding methods has_place some_free
r25 = then_turn Client r24 (takes_message toy Client (part Client d24) (Told (Closed 3) ∷ []) (Some 3) (ChannelClose 3) good_close_3 (record { sealing = refl; live = refl; past = refl; number = (omega arith, omega arith); read = refl; no_guess = refl; context = tt; welcome = refl }) (of_connection (close 3 no_replies)) tt tt)

r26 : Run toy d26
unfolding methods has_place some_free
r26 = then_turn Server r25 (takes_message toy Server (part Server d25) (sends (offer_message Server false) ∷ []) None (offer_message Client false) (good_offer Client false) (record { sealing = refl; live = refl; past = refl; number = (omega arith, omega arith); read = refl; no_guess = refl; context = tt; welcome = refl }) (of_transport (answered_at_server (offer_of Client false) (payload_of (offer_message Server false)) refl)) ((good_offer Server false).encoded, tt) (omega arith, tt))

r27 : Run toy d27
unfolding methods has_place some_free
r27 = then_turn Client r26 (takes_message toy Client (part Client d26) (sends (KexEcdhInit (secret 4)) ∷ []) None (offer_message Server false) (good_offer Server false) (record { sealing = refl; live = refl; past = refl; number = (omega arith, omega arith); read = refl; no_guess = refl; context = tt; welcome = refl }) (of_transport (kexinit_at_client (offer_of Server false) (payload_of (KexEcdhInit (secret 4))) refl)) (good_init_4.encoded, tt) (omega arith, tt))

r28 : Run toy d28
unfolding methods has_place some_free
r28 = then_turn Server r27 (takes_message toy Server (part Server d27) (Told (Completed 2) ∷ sends NewKeys ∷ sends second_reply_message ∷ []) None (KexEcdhInit (secret 4)) good_init_4 (record { sealing = refl; live = refl; past = refl; number = (omega arith, omega arith); read = refl; no_guess = refl; context = tt; welcome = refl }) (of_completion no_replies (init (secret 4) (payload_of second_reply_message) (payload_of NewKeys) (nothing refl))) (good_newkeys.encoded, (good_second_reply.encoded, tt)) (omega arith, (omega arith, tt)))

r29 : Run toy d29
unfolding methods has_place some_free
r29 = then_turn Client r28 (takes_message toy Client (part Client d28) (Told (Completed 2) ∷ sends_on 3 (ChannelClose 5) ∷ sends NewKeys ∷ []) None second_reply_message good_second_reply (record { sealing = refl; live = refl; past = refl; number = (omega arith, omega arith); read = refl; no_guess = refl; context = tt; welcome = second_is_trusted }) (of_completion (one_reply (Some 3) (Close 5) (payload_of (ChannelClose 5)) no_replies) (answers_reply toy_key (secret 8) second_signature (payload_of NewKeys) (nothing refl))) (good_close_5.encoded, (good_newkeys.encoded, tt)) (omega arith, (omega arith, tt)))

r30 : Run toy d30
unfolding methods has_place some_free
r30 = then_turn Client r29 (takes_message toy Client (part Client d29) [] None NewKeys good_newkeys (record { sealing = refl; live = refl; past = refl; number = (omega arith, omega arith); read = refl; no_guess = refl; context = tt; welcome = refl }) (of_transport newkeys) tt tt)

r31 : Run toy d31
unfolding methods has_place some_free
r31 = then_turn Server r30 (takes_message toy Server (part Server d30) [] None NewKeys good_newkeys (record { sealing = refl; live = refl; past = refl; number = (omega arith, omega arith); read = refl; no_guess = refl; context = tt; welcome = refl }) (of_transport newkeys) tt tt)

r32 : Run toy d32
unfolding methods has_place some_free
r32 = then_turn Server r31 (takes_message toy Server (part Server d31) (Told (Closed 5) ∷ []) (Some 5) (ChannelClose 5) good_close_5 (record { sealing = refl; live = refl; past = refl; number = (omega arith, omega arith); read = refl; no_guess = refl; context = tt; welcome = refl }) (of_connection (close 5 no_replies)) tt tt)

pub session_runs : Run toy session
session_runs = r32
