-- The words in which tools/second_reading writes the histories that it draws, and the tables of their values.
use Rattle.std.specs.Prelude.{◌≡◌, ℕ, zero, suc, Bool, true, false, cond, ◌&&◌, bit_xor, Option, Some, None, List, [], ◌∷◌, ◌++◌, map}
use Rattle.std.specs.Prelude.{codes}
use Rattle.std.specs.List.{filter}
use Rattle.ssh_model.specs.declared.side.Side.{Side}
use Rattle.ssh_model.specs.declared.side.Side.TheVariants.{Client, Server}
use Rattle.ssh_model.specs.declared.refusal.Refusal.{Refusal}
use Rattle.ssh_model.specs.declared.ask_refusal.AskRefusal.{AskRefusal}
use Rattle.ssh_model.specs.declared.strictness.Strictness.TheVariants.{Offer}
use Rattle.ssh_model.specs.Protocol.Wire.Message.{Msg, Method, Method.NoMethod, Method.Password, Method.Publickey, Method.Other, Proposal}
use Rattle.ssh_model.specs.Protocol.Wire.Message.{message_number, Msg.UserauthRequest}
use Rattle.ssh_model.specs.Protocol.Wire.DataTypes.{is_text}
use Rattle.ssh_model.specs.Laws.MacOnly.{mac_only}
use Rattle.ssh_model.specs.Protocol.KeyExchange.Choice.{Chosen}
use Rattle.ssh_model.specs.Protocol.KeyExchange.Exchanges.{KeyName, chosen, has_choice}
use Rattle.ssh_model.specs.Protocol.Sessions.Parties.{Settings, Agreement, Parties, lists_of}
use Rattle.ssh_model.specs.Protocol.Authentication.Requests.{is_accepted, is_good_probe, is_failing}
use Rattle.ssh_model.specs.Protocol.Sessions.Items.{Ask, Item, Item.Sent, Item.Took, Item.Asked, Item.AskRefused}
use Rattle.ssh_model.specs.Protocol.Sessions.Phases.{Phase, Phase.Guessed, phase, may_take, blocked, is_wrong_guess}
use Rattle.ssh_model.specs.Protocol.Sessions.Claims.{holds}
use Rattle.ssh_model.specs.Protocol.Sessions.Refusals.{first_refusal, refusal_number, ask_refusal_number}
use Rattle.ssh_model.specs.Protocol.Sessions.Turns.{answer_checks, ask_checks, Answer, OnAsk}
use Rattle.ssh_model.specs.Protocol.Channels.Message.{Message.Close}
use Rattle.ssh_model.specs.Protocol.Channels.History as channel
use Rattle.ssh_model.specs.Protocol.Channels.Notes.{Note}
use Rattle.ssh_model.specs.Protocol.Channels.Numbers.{is_confirmed, is_offered, is_waiting, has_ended, has_closed, peer_ended, send_window}
use Rattle.ssh_model.specs.Protocol.Channels.Numbers.{receive_window, max_packet_here, max_packet_there, peer_number, waiting_here}
use Rattle.ssh_model.specs.Protocol.Channels.Numbers.{waiting_there}
use Rattle.ssh_model.specs.Protocol.Channels.Connection.{channel_items, notes, owed_replies, globals_here, globals_there}

-- ---- histories, given as turns, each with its oldest item first

-- the history with the items of a turn on top
abbrev pub with_turn : List Item → List Item → List Item
with_turn h [] = h
with_turn h (x ∷ turn) = with_turn (x ∷ h) turn

-- the histories after each of these turns, done after this history
abbrev pub moments_after : List Item → List (List Item) → List (List Item)
moments_after h [] = []
moments_after h (turn ∷ turns) = let next = with_turn h turn in next ∷ moments_after next turns

-- the histories after each turn of a session
abbrev pub moments : List (List Item) → List (List Item)
moments turns = moments_after [] turns

-- the history after all of these turns, done after this history
abbrev pub done_after : List Item → List (List Item) → List Item
done_after h [] = h
done_after h (turn ∷ turns) = done_after (with_turn h turn) turns

-- the history after all turns of a session
abbrev pub whole : List (List Item) → List Item
whole turns = done_after [] turns

-- ---- items; payloads are left empty but for those of KEXINITs

-- the end sent this message
abbrev pub says : Msg → Item
says message = Sent None message []

-- the end took this message
abbrev pub hears : Msg → Item
hears message = Took None message []

-- the end sent this message on its channel of this number
abbrev pub says_on : ℕ → Msg → Item
says_on x message = Sent (Some x) message []

-- the end took this message on its channel of this number
abbrev pub hears_on : ℕ → Msg → Item
hears_on x message = Took (Some x) message []

-- a KEXINIT with these lists, without compression and without languages
abbrev pub proposing : (kex host enc_cs enc_sc mac_cs mac_sc : List (List ℕ)) → Proposal
proposing kex host enc_cs enc_sc mac_cs mac_sc = record {
  cookie = [];
  kex = kex;
  host = host;
  enc_cs = enc_cs;
  enc_sc = enc_sc;
  mac_cs = mac_cs;
  mac_sc = mac_sc;
  comp_cs = codes "none" ∷ [];
  comp_sc = codes "none" ∷ [];
  lang_cs = [];
  lang_sc = [];
  follows = false;
}

-- the same with a guess
abbrev pub guessing : (kex host enc_cs enc_sc mac_cs mac_sc : List (List ℕ)) → Proposal
guessing kex host enc_cs enc_sc mac_cs mac_sc = record (proposing kex host enc_cs enc_sc mac_cs mac_sc) { follows = true }

-- the same with a cookie
abbrev pub with_cookie : List ℕ → Proposal → Proposal
with_cookie cookie proposal = record proposal { cookie = cookie }

-- ---- parts

-- the bytes of two texts of one length, one xor the other
abbrev pub mixed : List ℕ → List ℕ → List ℕ
mixed (a ∷ l) (b ∷ m) = bit_xor a b ∷ mixed l m
mixed _ _ = []

-- the point of a secret is the secret
abbrev pub mixing : Agreement
mixing = record { point = λ secret. secret; shared = λ secret theirs. Some (mixed secret theirs) }

-- settings of an end that no session is about: a value that depends on them shows
abbrev pub strange : Settings
strange = record {
  line = codes "SSH-2.0-strange";
  kex = codes "k9" ∷ [];
  host = codes "h9" ∷ [];
  encryption = codes "e9" ∷ [];
  mac = codes "m9" ∷ [];
  epoch_limit = 1;
  tries = 0;
  methods = [];
  strictness = Offer;
  takes_extensions = false;
  extensions = [];
}

-- ends with these settings: a key is the names of its encryption and MAC, a host key names its algorithm, and the signature
-- that is right is the word
abbrev pub parties : (client server : Settings) → Parties (List ℕ)
parties client server = record {
  client = client;
  server = server;
  crypto = record mac_only { made = λ enc mac iv cipher key. enc ++ mac };
  client_agreement = mixing;
  server_agreement = mixing;
  host_key = λ algorithm. codes "key of " ++ algorithm;
  host_signature = λ algorithm hash. codes "right";
  trusts = λ algorithm key hash signature. is_text key (codes "key of " ++ algorithm) && is_text signature (codes "right");
  user_signature = λ user algorithm key text. codes "right";
  admits = λ user. is_text user (codes "guest");
  password_is_right = λ user password. is_text user (codes "u") && is_text password (codes "p");
  knows_key = λ user algorithm key. is_text user (codes "u") && is_text key (codes "k");
  signature_is_right = λ algorithm key text signature. is_text signature (codes "right");
}

-- ends of which the one of this side has these settings
abbrev pub ends_of : Side → Settings → Parties (List ℕ)
ends_of Client settings = parties settings strange
ends_of Server settings = parties strange settings

-- ---- tables

-- those of these numbers that the end may take next
abbrev pub allowed : Parties (List ℕ) → Side → List ℕ → List Item → List ℕ
allowed p side numbers h = filter (λ n. may_take p side h n) numbers

-- this many numbers, from a first one on
abbrev pub numbers_from : (first count : ℕ) → List ℕ
numbers_from first zero = []
numbers_from first (suc n) = first ∷ numbers_from (suc first) n

-- After a wrong guess the next packet is not read.
abbrev pub is_guessed : Phase → Bool
is_guessed Guessed = true
is_guessed _ = false

-- the number of a refusal, or 0
abbrev pub refused_as : Option Refusal → ℕ
refused_as None = 0
refused_as (Some refusal) = refusal_number refusal

-- the number of the refusal of this message, which comes next, or 0 if the end takes it
abbrev pub verdict : Parties (List ℕ) → Side → List Item → Msg → ℕ
verdict p side h message =
    cond (may_take p side h (message_number message))
    (cond (is_guessed (phase p side h)) 0 (refused_as (first_refusal (answer_checks p side h message)))) 7

-- the same of each of these messages
abbrev pub verdicts : Parties (List ℕ) → Side → List Msg → List Item → List ℕ
verdicts p side messages h = map (verdict p side h) messages

-- the number of a refusal of an ask, or 0
abbrev pub ask_refused_as : Option AskRefusal → ℕ
ask_refused_as None = 0
ask_refused_as (Some refusal) = ask_refusal_number refusal

-- the number of the refusal of each of these asks, which come next, or 0 if the end does it
abbrev pub ask_verdicts : Parties (List ℕ) → Side → List Ask → List Item → List ℕ
ask_verdicts p side asks h = map (λ ask. ask_refused_as (first_refusal (ask_checks p side h ask))) asks

-- the request that is outstanding: none, without a credential, with a password, a probe, with a signature, or another
abbrev pub request_number : Option Method → ℕ
request_number None = 0
request_number (Some NoMethod) = 1
request_number (Some (Password password new)) = 2
request_number (Some (Publickey algorithm key None)) = 3
request_number (Some (Publickey algorithm key (Some signature))) = 4
request_number (Some (Other name rest)) = 5

-- 1 for true
abbrev pub bit : Bool → ℕ
bit false = 0
bit true = 1

-- a channel that is open: what may be sent and taken, the peer's number, the ends that were said, and the requests that wait
abbrev pub open_channel : ℕ → List Note → List ℕ
open_channel x notes =
    send_window x notes ∷ max_packet_there x notes ∷ receive_window x notes ∷ max_packet_here x notes ∷ peer_number x notes
    ∷ bit (has_ended x notes) ∷ bit (has_closed x notes) ∷ bit (peer_ended x notes) ∷ waiting_here x notes ∷ waiting_there x notes ∷ []

-- the channel of this number: none, opened by this end, opened by the peer, confirmed, or one that the peer closed
abbrev pub channel_state : Side → ℕ → List Item → List ℕ
channel_state side x h =
    let said = notes side h in
    cond (channel.is_free side (channel_items h) x) []
    (cond (is_offered side x said) (1 ∷ receive_window x said ∷ max_packet_here x said ∷ [])
    (cond (is_waiting side x said) (2 ∷ send_window x said ∷ max_packet_there x said ∷ peer_number x said ∷ [])
    (cond (is_confirmed x said) (3 ∷ open_channel x said) (4 ∷ []))))

-- the channel and the recipient of a CLOSE that is owed
abbrev pub owed_close : channel.Item → List ℕ
owed_close (channel.Item.Sent (Some x) (Close to)) = x ∷ to ∷ []
owed_close _ = []

-- the replies that are owed, the newest first
abbrev pub owed_closes : Side → List Item → List (List ℕ)
owed_closes side h = map owed_close (owed_replies side h)

-- the replies that would be sent at once if the peer said CLOSE on the channel of this number, which is open
abbrev pub replies_at : Side → List Item → ℕ → List (List ℕ)
replies_at side h x =
    let said = notes side h in
    cond (is_confirmed x said) (map owed_close (channel.at_once (blocked h) (channel.due (Some x) (Close x) said))) []

-- the same on each of these channels
abbrev pub replies : Side → List ℕ → List Item → List (List (List ℕ))
replies side xs h = map (replies_at side h) xs

-- Each of these numbers is in use by a channel.
abbrev pub held : Side → List ℕ → List Item → List Bool
held side xs h = map (holds side h) xs

-- the name of a key of a direction
abbrev pub named : Side → (hash session : List ℕ) → Option KeyName
named side hash session = Some (record { from = side; hash = hash; session = session })

-- the global requests that wait for this end, and for the peer
abbrev pub waiting_globals : List Item → List ℕ
waiting_globals h = globals_here h ∷ globals_there h ∷ []

-- the names that were chosen, in the order of their kinds
abbrev pub names_of : Chosen → List (List ℕ)
names_of c = c.kex ∷ c.host ∷ c.enc_cs ∷ c.enc_sc ∷ c.mac_cs ∷ c.mac_sc ∷ c.comp_cs ∷ c.comp_sc ∷ []

-- ---- values besides histories

-- the KEXINITs of a client and of a server
pub record Pair : Type 0 where
  pub client : Proposal
  pub server : Proposal

-- both as one value
abbrev pub pair : (client server : Proposal) → Pair
pair client server = record { client = client; server = server }

-- the names chosen by a pair
abbrev pub chosen_by : Pair → List (List ℕ)
chosen_by offers = names_of (chosen (lists_of offers.client) (lists_of offers.server))

-- Each kind has a common name.
abbrev pub can_choose_by : Pair → Bool
can_choose_by offers = has_choice (lists_of offers.client) (lists_of offers.server)

-- The client guessed wrong, and the server guessed wrong.
abbrev pub wrong_guesses : Pair → List Bool
wrong_guesses offers = is_wrong_guess offers.client offers.server ∷ is_wrong_guess offers.server offers.client ∷ []

-- a server that names these methods
abbrev pub naming_methods : List (List ℕ) → Parties (List ℕ)
naming_methods methods = parties strange (record strange { methods = methods })

-- whether the request is accepted, is a good probe, or fails
abbrev pub judged : List (List ℕ) → Msg → List Bool
judged methods (UserauthRequest user service method) =
    is_accepted (naming_methods methods) [] user service method ∷ is_good_probe (naming_methods methods) user service method
    ∷ is_failing (naming_methods methods) [] user service method ∷ []
judged methods _ = []

-- ---- answers

-- The turn begins with a message that was taken and read, or with an ask.
abbrev pub is_answer : List Item → Bool
is_answer (Took at message payload ∷ items) = true
is_answer (Asked ask ∷ items) = true
is_answer _ = false

-- In these turns, done after the history, the end takes messages that the definitions do not refuse, and adds to each what they say. It
-- refuses the asks that they refuse, as they do, and adds to each of the others what they say.
pub data Answered (p : Parties (List ℕ)) (side : Side) : List Item → List (List Item) → Type 0 where
  ends : {h : List Item} → Answered p side h []
  takes : {h items : List Item} {turns : List (List Item)} {at : Option ℕ} {message : Msg} {payload : List ℕ} →
      verdict p side h message ≡ 0 → Answer p side h at message (with_turn [] items) →
      Answered p side (with_turn h (Took at message payload ∷ items)) turns →
      Answered p side h ((Took at message payload ∷ items) ∷ turns)
  asks : {h items : List Item} {turns : List (List Item)} {ask : Ask} → first_refusal (ask_checks p side h ask) ≡ None →
      OnAsk p side h ask (with_turn [] items) →
      Answered p side (with_turn h (Asked ask ∷ items)) turns → Answered p side h ((Asked ask ∷ items) ∷ turns)
  refused : {h : List Item} {turns : List (List Item)} {ask : Ask} {refusal : AskRefusal} →
      first_refusal (ask_checks p side h ask) ≡ Some refusal →
      Answered p side (with_turn h (Asked ask ∷ AskRefused refusal ∷ [])) turns →
      Answered p side h ((Asked ask ∷ AskRefused refusal ∷ []) ∷ turns)
  other : {h turn : List Item} {turns : List (List Item)} → is_answer turn ≡ false →
      Answered p side (with_turn h turn) turns → Answered p side h (turn ∷ turns)
