-- When the state of a transport sums up a history, and how its rows are rows of a session (own).
use Rattle.std.specs.Prelude.{◌≡◌, ℕ, zero, suc, ◌+◌, ◌≤◌, Bool, true, false, cond, ◌&&◌, nat_lt, Option}
use Rattle.std.specs.Prelude.{Some, None, List, [], ◌∷◌, ◌++◌, length}
use Rattle.ssh_model.specs.declared.side.Side.{Side}
use Rattle.ssh_model.specs.declared.side.Side.TheVariants.{Client, Server}
use Rattle.ssh_model.specs.Protocol.Side.{peer}
use Rattle.ssh_model.specs.Protocol.Wire.Message.{Msg, Msg.Disconnect, Msg.Ignore, Msg.Unimplemented, Msg.Debug, Msg.ExtInfo}
use Rattle.ssh_model.specs.Protocol.Wire.Message.{Msg.Unknown, Msg.KexInit, Msg.NewKeys, Msg.KexEcdhInit, Msg.KexEcdhReply}
use Rattle.ssh_model.specs.Protocol.Wire.Message.{Msg.ServiceRequest, Msg.ServiceAccept, Msg.UserauthSuccess, Proposal}
use Rattle.ssh_model.specs.Protocol.Wire.Message.{IsPayload}
use Rattle.ssh_model.specs.Protocol.Wire.Sealing.{Crypto}
use Rattle.ssh_model.specs.Protocol.KeyExchange.Choice.{Chosen}
use Rattle.ssh_model.specs.Protocol.KeyExchange.Exchange.{Inputs}
use Rattle.ssh_model.specs.Protocol.KeyExchange.Exchanges.{Material, Offer, Reply, nth, no_material, no_offer, has_marker}
use Rattle.ssh_model.specs.Protocol.KeyExchange.Exchanges.{session_id}
use Rattle.ssh_model.specs.Protocol.Sessions.Parties.{Parties, Settings, agreement_of, settings_of, point_by, marker_of}
use Rattle.ssh_model.specs.Protocol.Sessions.Parties.{extension_marker_of, offer_of}
use Rattle.ssh_model.specs.Protocol.Sessions.Items.{Ask, Fact, Fact.Completed, Item, Item.Sent, Item.Took, Item.Told}
use Rattle.ssh_model.specs.Protocol.Sessions.Items.{Item.Asked, Item.AskRefused, Encoded, Encoded.EncodedBy, has_died}
use Rattle.ssh_model.specs.Protocol.Sessions.Epochs.{epoch}
use Rattle.ssh_model.specs.Protocol.Sessions.Phases.{Phase, Phase.Start, Phase.Guessed, Phase.Exchanging, Phase.Keying}
use Rattle.ssh_model.specs.Protocol.Sessions.Transport.{TransportAnswer, CompletingAnswer, TransportAsk}
use Rattle.ssh_model.specs.State.TransportLayer.Directions.{SumsUp as DirectionSumsUp}
use Rattle.ssh_model.specs.State.TransportLayer.Kept.{Answered, ExchangeParts, Lines, Underway, Transport, IsChosen}
use Rattle.ssh_model.specs.State.TransportLayer.Kept.{first_kex}
use Rattle.ssh_model.specs.State.TransportLayer.View.{View, view, key_from}

-- ---- the parts of the summary. Each is about values of a history, so it still holds when they stay the same.

-- 1 for true, 0 for false
abbrev pub bit : Bool → ℕ
bit true = 1
bit false = 0

-- In this phase the peer's KEXINIT of the exchange under way was taken, but not its next message of the exchange.
abbrev pub is_agreeing : Phase → Bool
is_agreeing Guessed = true
is_agreeing Exchanging = true
is_agreeing _ = false

-- The peer's NEWKEYS is awaited.
abbrev pub is_keying : Phase → Bool
is_keying Keying = true
is_keying _ = false

-- No KEXINIT of the peer was taken.
abbrev pub is_start : Phase → Bool
is_start Start = true
is_start _ = false

-- The peer's lines are as in the history. The count of other lines matters only until the version line.
pub record LinesSumUp (found : Bool) (others : ℕ) (line : List ℕ) (lines : Lines) : Type 0 where
  pub found_is : lines.found ≡ found
  pub line_is : lines.line ≡ line
  pub others_are : found ≡ false → lines.others ≡ others

-- the keys, after so many NEWKEYS were sent and taken
pub record KeysSumUp {K : Type 0} (c : Crypto K) (side : Side) (gone come : ℕ) (phase : Phase) (xs : List Inputs)
    (choices : List Chosen) (sending taking pending : Option K) : Type 0 where
  pub sending_is : sending ≡ key_from c side gone xs choices
  pub taking_is : taking ≡ key_from c (peer side) come xs choices
  pub pending_is : is_keying phase ≡ true → pending ≡ key_from c (peer side) (suc come) xs choices

-- the values that the first KEXINITs settle
pub record FirstsSumUp (settings : Settings) (side : Side) (own theirs : List Offer)
    (strict peer_takes_extensions : Bool) : Type 0 where
  pub own_is : (nth no_offer 0 own).proposal.kex ≡ first_kex settings side
  pub strict_is : strict
      ≡ (has_marker (marker_of side) (first_kex settings side)
      && has_marker (marker_of (peer side)) (nth no_offer 0 theirs).proposal.kex)
  pub extensions_are : peer_takes_extensions
      ≡ has_marker (extension_marker_of (peer side)) (nth no_offer 0 theirs).proposal.kex

-- the session id, after an exchange was completed
abbrev pub session_after : (gone : ℕ) → List Inputs → Option (List ℕ)
session_after zero xs = None
session_after (suc e) xs = Some (session_id xs)

-- the pair that is kept after this number of KEXINITs of this end
abbrev pub kept_after : ℕ → List Material → Option Material
kept_after used fed = cond (nat_lt used (length fed)) (Some (nth no_material used fed)) None

-- the pairs of cookie and secret that were fed; at most one of them is unused
pub record MaterialSumsUp (used : ℕ) (pairs : List Material) (material : Option Material) (fed : ℕ) : Type 0 where
  pub material_is : material ≡ kept_after used pairs
  pub fed_is : fed ≡ length pairs
  pub least : used ≤ length pairs
  pub most : length pairs ≤ suc used

-- Each completed exchange has a KEXINIT of each end, and a NEWKEYS of the peer unless that is awaited. One more KEXINIT of an
-- end is that of the exchange under way. The end is blocked at the start, and from the peer's KEXINIT to its next message.
pub record Counts (gone come : ℕ) (phase : Phase) (blocked : Bool) (own theirs exchanges choices : ℕ) : Type 0 where
  pub own_count : own ≡ gone + bit blocked
  pub opened : 1 ≤ own
  pub their_count : theirs ≡ gone + bit (is_agreeing phase)
  pub epochs : gone ≡ come + bit (is_keying phase)
  pub exchange_count : exchanges ≡ gone
  pub choice_count : choices ≡ gone
  pub blocked_first : is_start phase ≡ true → blocked ≡ true
  pub blocked_then : is_agreeing phase ≡ true → blocked ≡ true

-- The KEXINIT is an offer of an end with these settings.
pub record IsOffered (settings : Settings) (side : Side) (theirs : Proposal) : Type 0 where
  pub first : Bool
  pub cookie : List ℕ
  pub offer_is : theirs ≡ offer_of settings side first cookie

-- The exchange under way. The parts that this end sent are kept while it is blocked, and those that it took while the peer's
-- answer is awaited.
pub record UnderwaySumsUp (settings : Settings) (side : Side) (gone : ℕ) (phase : Phase) (blocked : Bool)
    (own theirs : List Offer) (fed : List Material) (underway : Underway) : Type 0 where
  pub own_is : blocked ≡ true → underway.own ≡ (nth no_offer gone own).payload
  pub own_offer_is : blocked ≡ true → IsOffered settings side (nth no_offer gone own).proposal
  pub secret_is : blocked ≡ true → underway.secret ≡ (nth no_material gone fed).secret
  pub theirs_is : is_agreeing phase ≡ true → underway.theirs ≡ (nth no_offer gone theirs).payload
  pub read : is_agreeing phase ≡ true → IsPayload false (KexInit (nth no_offer gone theirs).proposal) underway.theirs

-- A client sent a point for each KEXINIT that it took, and took a reply for each exchange that it completed.
pub record ClientPoints (gone : ℕ) (phase : Phase) (points : List (List ℕ)) (replies : List Reply)
    (point : List ℕ) : Type 0 where
  pub point_count : length points ≡ gone + bit (is_agreeing phase)
  pub reply_count : length replies ≡ gone
  pub point_is : is_agreeing phase ≡ true → nth [] gone points ≡ point

-- A server took a point and sent a reply for each exchange that it completed.
pub record ServerPoints (gone : ℕ) (points : List (List ℕ)) (replies : List Reply) : Type 0 where
  pub point_count : length points ≡ gone
  pub reply_count : length replies ≡ gone

-- the points and replies of the end of this side, which has this secret
abbrev pub PointsSumUp : {K : Type 0} → Parties K → Side → (gone : ℕ) → Phase →
    (own_points their_points : List (List ℕ)) → (own_replies their_replies : List Reply) → (secret : List ℕ) → Type 0
PointsSumUp p Client gone phase own_points their_points own_replies their_replies secret =
    ClientPoints gone phase own_points their_replies (point_by p Client secret)
PointsSumUp p Server gone phase own_points their_points own_replies their_replies secret =
    ServerPoints gone their_points own_replies

-- ---- the summary

-- The state of a live transport sums up a view.
pub record Live {K : Type 0} (p : Parties K) (side : Side) (v : View) (s : Transport K) : Type 0 where
  pub side_is : s.side ≡ side
  pub settings_are : s.settings ≡ settings_of p side
  pub own_line : v.sent_line ≡ (settings_of p side).line
  pub lines : LinesSumUp v.has_line v.other_lines v.took_line s.lines
  pub sending : DirectionSumsUp s.strict v.sent s.sending
  pub taking : DirectionSumsUp s.strict v.took s.taking
  pub keys : KeysSumUp p.crypto side (epoch v.sent)
      (epoch v.took) v.phase v.exchanges v.choices s.sending.key s.taking.key s.pending
  pub phase_is : s.phase ≡ v.phase
  pub blocked_is : s.blocked ≡ v.blocked
  pub firsts : FirstsSumUp (settings_of p side) side v.own_offers v.their_offers s.strict s.peer_takes_extensions
  pub session_is : s.session ≡ session_after (epoch v.sent) v.exchanges
  pub requested_is : s.requested ≡ v.requested
  pub accepted_is : s.accepted ≡ v.accepted
  pub authenticated_is : s.authenticated ≡ v.authenticated
  pub material : MaterialSumsUp (length v.own_offers) v.fed s.material s.fed
  pub counts : Counts (epoch v.sent) (epoch v.took) v.phase v.blocked (length v.own_offers) (length v.their_offers)
      (length v.exchanges) (length v.choices)
  pub underway : UnderwaySumsUp (settings_of p side) side
      (epoch v.sent) v.phase v.blocked v.own_offers v.their_offers v.fed s.underway
  pub points : PointsSumUp p side
      (epoch v.sent) v.phase v.own_points v.their_points v.own_replies v.their_replies s.underway.secret

-- The state of a transport sums up the history of the end of this side. Nothing more is said of a dead end.
pub record SumsUp {K : Type 0} (p : Parties K) (side : Side) (history : List Item) (s : Transport K) : Type 0 where
  pub dead_is : s.dead ≡ has_died history
  pub live : s.dead ≡ false → Live p side (view p side history) s

-- ---- items of other layers

-- an item that changes nothing in the state of a transport
abbrev pub LeavesTransport : Item → Type 0
LeavesTransport (Asked ask) = Unit {0}
LeavesTransport (AskRefused refusal) = Unit {0}
LeavesTransport (Told fact) = Unit {0}
LeavesTransport _ = ⊥

-- A message of which a transport keeps only that a packet went: a message of the layers above except USERAUTH_SUCCESS,
-- or one of its own that changes nothing.
abbrev pub IsPlain : Msg → Type 0
IsPlain (ServiceRequest service) = ⊥
IsPlain (ServiceAccept service) = ⊥
IsPlain (KexInit proposal) = ⊥
IsPlain NewKeys = ⊥
IsPlain (KexEcdhInit q_c) = ⊥
IsPlain (KexEcdhReply k_s q_s signature) = ⊥
IsPlain UserauthSuccess = ⊥
IsPlain _ = Unit {0}

-- ---- rows

-- a message that a transport judges
abbrev pub IsTransportMessage : Msg → Type 0
IsTransportMessage (Disconnect reason description language) = Unit {0}
IsTransportMessage (Ignore body) = Unit {0}
IsTransportMessage (Unimplemented number) = Unit {0}
IsTransportMessage (Debug display message language) = Unit {0}
IsTransportMessage (ServiceRequest service) = Unit {0}
IsTransportMessage (ServiceAccept service) = Unit {0}
IsTransportMessage (ExtInfo extensions) = Unit {0}
IsTransportMessage (KexInit proposal) = Unit {0}
IsTransportMessage NewKeys = Unit {0}
IsTransportMessage (KexEcdhInit q_c) = Unit {0}
IsTransportMessage (KexEcdhReply k_s q_s signature) = Unit {0}
IsTransportMessage (Unknown number) = Unit {0}
IsTransportMessage _ = ⊥

-- The server awaits a client's point: its exchange is under way.
pub record IsInitAwaited {K : Type 0} (s : Transport K) : Type 0 where
  pub side_is : s.side ≡ Server
  pub phase_is : s.phase ≡ Exchanging

-- The client awaits a server's reply, in an exchange under way with these algorithms.
pub record IsReplyAwaited {K : Type 0} (s : Transport K) (c : Chosen) : Type 0 where
  pub side_is : s.side ≡ Client
  pub phase_is : s.phase ≡ Exchanging
  pub chosen : IsChosen s c

-- If the message is a point or a reply, that is awaited. Nothing is said of other messages.
abbrev pub IsAwaited : {K : Type 0} → Transport K → Chosen → Msg → Type 0
IsAwaited s c (KexEcdhInit q_c) = IsInitAwaited s
IsAwaited s c (KexEcdhReply k_s q_s signature) = IsReplyAwaited s c
IsAwaited s c _ = Unit {0}

-- the items that send these messages
abbrev pub items_sent : List Encoded → List Item
items_sent [] = []
items_sent (EncodedBy message payload ∷ l) = Sent None message payload ∷ items_sent l

-- these items, and on top the fact that is told, if there is one
abbrev pub told_over : Option Fact → List Item → List Item
told_over None items = items
told_over (Some fact) items = Told fact ∷ items

-- the items of an answer
abbrev pub answer_items : Answered → List Item
answer_items answered = told_over answered.fact (items_sent answered.sent)

-- The answer to a message is an answer of a session, and the new state sums up the history with it.
pub record Accepts {K : Type 0} (p : Parties K) (side : Side) (history : List Item) (message : Msg) (payload : List ℕ)
    (answered : Answered) (new : Transport K) : Type 0 where
  pub answer : TransportAnswer p side history message (answer_items answered)
  pub sums : SumsUp p side (answer_items answered ++ (Took None message payload ∷ history)) new

-- The message ends an exchange. Up to the announcement the transport does as a session does, whatever it owes after that.
-- The new state sums up the history so far.
pub record Ends {K : Type 0} (p : Parties K) (side : Side) (history : List Item) (message : Msg) (payload : List ℕ)
    (sent : List Encoded) (position : ℕ) (new : Transport K) : Type 0 where
  pub answer : (owed : List Item) →
      CompletingAnswer p owed side history message (Told (Completed position) ∷ (owed ++ items_sent sent))
  pub sums : SumsUp p side (items_sent sent ++ (Took None message payload ∷ history)) new

-- The transport sends what a session sends on the ask, and the new state sums up the history with it.
pub record Allows {K : Type 0} (p : Parties K) (side : Side) (history : List Item) (ask : Ask) (message : Msg)
    (payload : List ℕ) (new : Transport K) : Type 0 where
  pub row : TransportAsk p side history ask (Sent None message payload ∷ [])
  pub sums : SumsUp p side (Sent None message payload ∷ Asked ask ∷ history) new

-- the supplied parts of the end of this side that an exchange uses
abbrev pub parts_of : {K : Type 0} → Parties K → Side → ExchangeParts
parts_of p side = record { agreement = agreement_of p side; host_key = p.host_key; host_signature = p.host_signature }
