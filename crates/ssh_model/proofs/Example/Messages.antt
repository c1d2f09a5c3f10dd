-- The payloads of the toy run encode its messages.
use Rattle.std.proofs.Common.{◌≡◌, ℕ, ◌<◌, ◌≤◌, Bool, true, false, List, [], ◌∷◌, ◌++◌, length, refl, arith, length-append}
use Rattle.std.specs.Prelude.{take, replicate, nat_le, ◌&&◌, codes}
use Rattle.std.specs.List.{list_all}
use Rattle.std.proofs.lemmas.Bool.{leb-true, and_parts}
use Rattle.std.proofs.lemmas.List.{take_all}
use Rattle.sha2.specs.Sha256.{sha256}
use Rattle.sha2.proofs.Facts256.{length-sha256}
use Rattle.ssh_model.specs.Protocol.Bounds.{longest_payload}
use Rattle.ssh_model.specs.declared.side.Side.{Side}
use Rattle.ssh_model.specs.declared.side.Side.TheVariants.{Client, Server}
use Rattle.ssh_model.specs.Protocol.Wire.DataTypes.{AreBytes}
use Rattle.ssh_model.specs.Protocol.Wire.Message.{Msg, Msg.Ignore, Msg.NewKeys, Msg.KexEcdhInit, Msg.KexEcdhReply, Msg.ServiceRequest, Msg.ServiceAccept, Msg.UserauthSuccess, Msg.ChannelClose, ◌▸◌, IsCookie, FitsContext, IsWrittenPayload}
use Rattle.ssh_model.specs.Protocol.KeyExchange.Exchange.{string_of}
use Rattle.ssh_model.specs.Protocol.Sessions.Turns.{IsEncoded}
use Rattle.ssh_model.specs.Example.Toys.{plain, toy_key, secret}
use Rattle.ssh_model.specs.Example.Histories.{offer_of, offer_by, userauth, connection, right_request, open_message, confirm_message}
use Rattle.ssh_model.specs.Example.Run.{payload_of, offer_message, offer_message_by, data_message}
use Rattle.ssh_model.specs.Example.PlainRun.{farewell}
use Rattle.ssh_model.specs.Protocol.Sessions.Parties.{is_byte}
use Rattle.ssh_model.proofs.Sessions.Parts.{are_bytes}
use Rattle.ssh_model.proofs.Example.Bytes.{byte_then, string_then, truth_then, word_then, names_then, string_bytes, string_size}
use Rattle.ssh_model.specs.Laws.MacOnly.{append_bytes, hash_bytes}

-- The message has a payload that fits into a packet.
pub record IsGood (m : Msg) : Type 0 where
  pub encoded : IsEncoded m (payload_of m)
  pub bytes : AreBytes (payload_of m)
  pub some : 1 ≤ length (payload_of m)

good : (m : Msg) → FitsContext true m → IsWrittenPayload m (payload_of m) → list_all is_byte (payload_of m) ≡ true → (nat_le 1 (length (payload_of m)) && nat_le (length (payload_of m)) longest_payload) ≡ true → IsGood m
good m suits row bytes sizes =
    let p = and_parts (nat_le 1 (length (payload_of m))) (nat_le (length (payload_of m)) longest_payload) sizes in
    record { encoded = record { context = suits; row = row; size = leb-true (length (payload_of m)) longest_payload p.1 }; bytes = are_bytes (payload_of m) bytes; some = leb-true 1 (length (payload_of m)) p.0 }

cookie_then : {G : List ℕ → Type 0} (cookie rest : List ℕ) → length cookie ≡ 16 → G rest → (IsCookie cookie ▸ G) (cookie ++ rest)
cookie_then cookie rest n g = record { front = cookie; back = rest; first = record { same = refl; count = n }; second = g; parts = refl }

pub good_offer : (side : Side) (first : Bool) → IsGood (offer_message side first)
unfolding string_of
good_offer Client true = good (offer_message Client true) tt (byte_then 20 _ (cookie_then (offer_of Client true).cookie _ refl (names_then (offer_of Client true).kex _ refl (omega arith) (names_then (offer_of Client true).host _ refl (omega arith) (names_then (offer_of Client true).enc_cs _ refl (omega arith) (names_then (offer_of Client true).enc_sc _ refl (omega arith) (names_then (offer_of Client true).mac_cs _ refl (omega arith) (names_then (offer_of Client true).mac_sc _ refl (omega arith) (names_then (offer_of Client true).comp_cs _ refl (omega arith) (names_then (offer_of Client true).comp_sc _ refl (omega arith) (names_then (offer_of Client true).lang_cs _ refl (omega arith) (names_then (offer_of Client true).lang_sc _ refl (omega arith) (truth_then false _ (word_then 0 _ (omega arith) refl)))))))))))))) refl refl
good_offer Client false = good (offer_message Client false) tt (byte_then 20 _ (cookie_then (offer_of Client false).cookie _ refl (names_then (offer_of Client false).kex _ refl (omega arith) (names_then (offer_of Client false).host _ refl (omega arith) (names_then (offer_of Client false).enc_cs _ refl (omega arith) (names_then (offer_of Client false).enc_sc _ refl (omega arith) (names_then (offer_of Client false).mac_cs _ refl (omega arith) (names_then (offer_of Client false).mac_sc _ refl (omega arith) (names_then (offer_of Client false).comp_cs _ refl (omega arith) (names_then (offer_of Client false).comp_sc _ refl (omega arith) (names_then (offer_of Client false).lang_cs _ refl (omega arith) (names_then (offer_of Client false).lang_sc _ refl (omega arith) (truth_then false _ (word_then 0 _ (omega arith) refl)))))))))))))) refl refl
good_offer Server true = good (offer_message Server true) tt (byte_then 20 _ (cookie_then (offer_of Server true).cookie _ refl (names_then (offer_of Server true).kex _ refl (omega arith) (names_then (offer_of Server true).host _ refl (omega arith) (names_then (offer_of Server true).enc_cs _ refl (omega arith) (names_then (offer_of Server true).enc_sc _ refl (omega arith) (names_then (offer_of Server true).mac_cs _ refl (omega arith) (names_then (offer_of Server true).mac_sc _ refl (omega arith) (names_then (offer_of Server true).comp_cs _ refl (omega arith) (names_then (offer_of Server true).comp_sc _ refl (omega arith) (names_then (offer_of Server true).lang_cs _ refl (omega arith) (names_then (offer_of Server true).lang_sc _ refl (omega arith) (truth_then false _ (word_then 0 _ (omega arith) refl)))))))))))))) refl refl
good_offer Server false = good (offer_message Server false) tt (byte_then 20 _ (cookie_then (offer_of Server false).cookie _ refl (names_then (offer_of Server false).kex _ refl (omega arith) (names_then (offer_of Server false).host _ refl (omega arith) (names_then (offer_of Server false).enc_cs _ refl (omega arith) (names_then (offer_of Server false).enc_sc _ refl (omega arith) (names_then (offer_of Server false).mac_cs _ refl (omega arith) (names_then (offer_of Server false).mac_sc _ refl (omega arith) (names_then (offer_of Server false).comp_cs _ refl (omega arith) (names_then (offer_of Server false).comp_sc _ refl (omega arith) (names_then (offer_of Server false).lang_cs _ refl (omega arith) (names_then (offer_of Server false).lang_sc _ refl (omega arith) (truth_then false _ (word_then 0 _ (omega arith) refl)))))))))))))) refl refl

-- the first KEXINIT without markers
pub good_plain_offer : (side : Side) → IsGood (offer_message_by plain side true)
unfolding string_of
good_plain_offer Client = good (offer_message_by plain Client true) tt (byte_then 20 _ (cookie_then (offer_by plain Client true).cookie _ refl (names_then (offer_by plain Client true).kex _ refl (omega arith) (names_then (offer_by plain Client true).host _ refl (omega arith) (names_then (offer_by plain Client true).enc_cs _ refl (omega arith) (names_then (offer_by plain Client true).enc_sc _ refl (omega arith) (names_then (offer_by plain Client true).mac_cs _ refl (omega arith) (names_then (offer_by plain Client true).mac_sc _ refl (omega arith) (names_then (offer_by plain Client true).comp_cs _ refl (omega arith) (names_then (offer_by plain Client true).comp_sc _ refl (omega arith) (names_then (offer_by plain Client true).lang_cs _ refl (omega arith) (names_then (offer_by plain Client true).lang_sc _ refl (omega arith) (truth_then false _ (word_then 0 _ (omega arith) refl)))))))))))))) refl refl
good_plain_offer Server = good (offer_message_by plain Server true) tt (byte_then 20 _ (cookie_then (offer_by plain Server true).cookie _ refl (names_then (offer_by plain Server true).kex _ refl (omega arith) (names_then (offer_by plain Server true).host _ refl (omega arith) (names_then (offer_by plain Server true).enc_cs _ refl (omega arith) (names_then (offer_by plain Server true).enc_sc _ refl (omega arith) (names_then (offer_by plain Server true).mac_cs _ refl (omega arith) (names_then (offer_by plain Server true).mac_sc _ refl (omega arith) (names_then (offer_by plain Server true).comp_cs _ refl (omega arith) (names_then (offer_by plain Server true).comp_sc _ refl (omega arith) (names_then (offer_by plain Server true).lang_cs _ refl (omega arith) (names_then (offer_by plain Server true).lang_sc _ refl (omega arith) (truth_then false _ (word_then 0 _ (omega arith) refl)))))))))))))) refl refl

pub good_newkeys : IsGood NewKeys
unfolding string_of
good_newkeys = good NewKeys tt (byte_then 21 _ refl) refl refl

pub good_init_1 : IsGood (KexEcdhInit (secret 1))
unfolding string_of
good_init_1 = good (KexEcdhInit (secret 1)) tt (byte_then 30 _ (string_then (secret 1) _ (omega arith) refl)) refl refl

pub good_init_4 : IsGood (KexEcdhInit (secret 4))
unfolding string_of
good_init_4 = good (KexEcdhInit (secret 4)) tt (byte_then 30 _ (string_then (secret 4) _ (omega arith) refl)) refl refl

pub good_service_request : IsGood (ServiceRequest userauth)
unfolding string_of
good_service_request = good (ServiceRequest userauth) tt (byte_then 5 _ (string_then userauth _ (omega arith) refl)) refl refl

pub good_service_accept : IsGood (ServiceAccept userauth)
unfolding string_of
good_service_accept = good (ServiceAccept userauth) tt (byte_then 6 _ (string_then userauth _ (omega arith) refl)) refl refl

pub good_request : IsGood right_request
unfolding string_of
good_request = good right_request tt (byte_then 50 _ (string_then (codes "u") _ (omega arith) (string_then connection _ (omega arith) (string_then (codes "password") _ (omega arith) (truth_then false _ (string_then (codes "p") _ (omega arith) refl)))))) refl refl

pub good_ignore : IsGood (Ignore [])
unfolding string_of
good_ignore = good (Ignore []) tt (byte_then 2 _ (string_then [] _ (omega arith) refl)) refl refl

pub good_farewell : IsGood farewell
unfolding string_of
good_farewell = good farewell tt (byte_then 1 _ (word_then 11 _ (omega arith) (string_then (codes "bye") _ (omega arith) (string_then [] _ (omega arith) refl)))) refl refl

pub good_success : IsGood UserauthSuccess
unfolding string_of
good_success = good UserauthSuccess tt (byte_then 52 _ refl) refl refl

pub good_open : IsGood open_message
unfolding string_of
good_open = good open_message tt (byte_then 90 _ (string_then (codes "session") _ (omega arith) (word_then 3 _ (omega arith) (word_then 10 _ (omega arith) (word_then 8 _ (omega arith) refl))))) refl refl

pub good_confirm : IsGood confirm_message
unfolding string_of
good_confirm = good confirm_message tt (byte_then 91 _ (word_then 3 _ (omega arith) (word_then 5 _ (omega arith) (word_then 20 _ (omega arith) (word_then 16 _ (omega arith) refl))))) refl refl

pub good_data : IsGood data_message
unfolding string_of
good_data = good data_message tt (byte_then 94 _ (word_then 5 _ (omega arith) (string_then (codes "hi") _ (omega arith) refl))) refl refl

pub good_close_3 : IsGood (ChannelClose 3)
unfolding string_of
good_close_3 = good (ChannelClose 3) tt (byte_then 97 _ (word_then 3 _ (omega arith) refl)) refl refl

pub good_close_5 : IsGood (ChannelClose 5)
unfolding string_of
good_close_5 = good (ChannelClose 5) tt (byte_then 97 _ (word_then 5 _ (omega arith) refl)) refl refl

-- ---- a reply with any hash as its signature

abbrev pub reply_with : (b : ℕ) (signature : List ℕ) → Msg
reply_with b signature = KexEcdhReply toy_key (secret b) signature

pub secret_bytes : (b : ℕ) → b < 256 → AreBytes (secret b)
secret_bytes b small = append_bytes (replicate 31 7) (b ∷ []) (are_bytes (replicate 31 7) refl) (small, tt)

good_hash : (b : ℕ) (hash : List ℕ) → b < 256 → AreBytes hash → length hash ≡ 32 → IsGood (reply_with b hash)
good_hash b hash small are n =
    let front : List ℕ = string_of toy_key in
    let middle : List ℕ = string_of (secret b) in
    let last : List ℕ = string_of hash in
    let whole : length (payload_of (reply_with b hash)) ≡ 85 = omega (arith, n, string_size toy_key, string_size (secret b), string_size hash, length-append front (middle ++ (last ++ [])), length-append middle (last ++ []), length-append last []) in
    record {
      encoded = record { context = tt; row = byte_then 31 _ (string_then toy_key _ (omega arith) (string_then (secret b) _ (omega arith) (string_then hash _ (omega (arith, n)) refl))); size = omega (arith, whole) };
      bytes = (omega arith, append_bytes front (middle ++ (last ++ [])) (string_bytes toy_key (are_bytes toy_key refl)) (append_bytes middle (last ++ []) (string_bytes (secret b) (secret_bytes b small)) (append_bytes last [] (string_bytes hash are) tt)));
      some = omega (arith, whole);
    }

pub good_reply : (b : ℕ) (text : List ℕ) → b < 256 → IsGood (reply_with b (take 4096 (sha256 text)))
good_reply b text small =
    let e : take 4096 (sha256 text) ≡ sha256 text = take_all 4096 (sha256 text) (omega (arith, length-sha256 text)) in
    rw e (good_hash b (sha256 text) small (hash_bytes text) (length-sha256 text))
