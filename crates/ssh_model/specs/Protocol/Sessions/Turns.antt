-- The turns of an end, and the runs of two ends: the messages taken and sent, the reports and the refusals, by the tables of the
-- transport, of authentication and of the connection (own, if nothing else is said).
use Rattle.std.specs.Prelude.{◌≡◌, ℕ, ◌<◌, ◌≤◌, Bool, true, false, not, ◌&&◌, nat_lt, Option, Some, None}
use Rattle.std.specs.Prelude.{List, [], ◌∷◌, ◌++◌, length}
use Rattle.ssh_model.specs.Protocol.Bounds.{longest_payload, most_exchanges, numbers_of_epoch}
use Rattle.ssh_model.specs.Protocol.Wire.DataTypes.{AreBytes}
use Rattle.ssh_model.specs.declared.side.Side.{Side}
use Rattle.ssh_model.specs.declared.side.Side.TheVariants.{Client, Server}
use Rattle.ssh_model.specs.Protocol.Side.{done_by, part}
use Rattle.ssh_model.specs.Protocol.Wire.Message.{Msg, Msg.KexInit, Msg.Disconnect, FitsContext, IsPayload, IsWrittenPayload}
use Rattle.ssh_model.specs.declared.refusal.Refusal.{Refusal}
use Rattle.ssh_model.specs.declared.refusal.Refusal.TheVariants.{BadMessage, Unexpected}
use Rattle.ssh_model.specs.Protocol.Sessions.Refusals.{Check, first_refusal}
use Rattle.ssh_model.specs.declared.refusal.Refusal.TheVariants.{NumberSpent}
use Rattle.ssh_model.specs.declared.ask_refusal.AskRefusal.{AskRefusal}
use Rattle.ssh_model.specs.Protocol.Sessions.Refusals.{refusal_name, refusal_reason}
use Rattle.ssh_model.specs.Protocol.Sessions.Parties.{Parties, settings_of, offer}
use Rattle.ssh_model.specs.Protocol.Sessions.Items.{Ask, Fact.Ignored, Fact.Opened, Item, Item.Fed, Item.Asked, Item.AskRefused}
use Rattle.ssh_model.specs.Protocol.Sessions.Items.{Item.SentLine, Item.TookLine, Item.TookOtherLine, Item.Sent, Item.Took}
use Rattle.ssh_model.specs.Protocol.Sessions.Items.{Item.TookGuess, Item.Told, Item.Refused, Item.Died, Done}
use Rattle.ssh_model.specs.Protocol.Sessions.Items.{has_died, sent, took}
use Rattle.ssh_model.specs.Protocol.Sessions.Epochs.{count}
use Rattle.ssh_model.specs.Protocol.KeyExchange.Exchanges.{fed, taking_key, taking_number}
use Rattle.ssh_model.specs.Protocol.Sessions.Phases.{Phase.Guessed, phase, has_line, other_lines, has_material, probing}
use Rattle.ssh_model.specs.Protocol.Sessions.Phases.{is_client, may_take}
use Rattle.ssh_model.specs.Protocol.Sessions.Transport.{TransportAnswer, CompletingAnswer, TransportAsk, transport_checks}
use Rattle.ssh_model.specs.Protocol.Sessions.Transport.{transport_ask_checks}
use Rattle.ssh_model.specs.Protocol.Authentication.Rows.{AuthenticationAnswer, AuthenticationAsk, authentication_checks}
use Rattle.ssh_model.specs.Protocol.Authentication.Rows.{authentication_ask_checks}
use Rattle.ssh_model.specs.Protocol.Channels.Connection.{ConnectionAnswer, ConnectionAsk, connection_checks}
use Rattle.ssh_model.specs.Protocol.Channels.Connection.{connection_ask_checks, owed_replies, AreReplies}
use Rattle.ssh_model.specs.Protocol.Wire.Outcome.{Outcome, Outcome.OtherLine, Outcome.VersionLine, Outcome.RefusedLine}
use Rattle.ssh_model.specs.Protocol.Wire.Outcome.{Outcome.Opens, Outcome.RefusedPacket}
use Rattle.ssh_model.specs.Protocol.Wire.Unit.{Stage, Stage.Lines, Stage.Packets, IsUnit}

-- ---- payloads and numbers of sent messages

-- The payload is the message as it is written, and short enough for a packet.
pub record IsEncoded (message : Msg) (payload : List ℕ) : Type 0 where
  pub context : FitsContext true message
  pub row : IsWrittenPayload message payload
  pub size : length payload ≤ longest_payload

-- Each payload that is sent among these items encodes its message.
abbrev pub AreEncoded : List Item → Type 0
AreEncoded [] = Unit {0}
AreEncoded (Sent channel message payload ∷ items) = IsEncoded message payload × AreEncoded items
AreEncoded (_ ∷ items) = AreEncoded items

-- Each payload among these items, done after the history, has a number of its own in its epoch: fewer than 2^32 payloads
-- came before it there (RFC 4253 section 6.4, RFC 4344 section 3.1).
abbrev pub AreNumbered : List Item → List Item → Type 0
AreNumbered [] h = Unit {0}
AreNumbered (Sent channel message payload ∷ items) h = (count (sent (items ++ h)) < numbers_of_epoch) × AreNumbered items h
AreNumbered (_ ∷ items) h = AreNumbered items h

-- ---- refusals

-- The items by which an end refuses its peer. The end sends nothing if there is no reason code, or no number left in the epoch
-- (RFC 4253 section 11.1).
pub data Refuses (h : List Item) (refusal : Refusal) (payload : Option (List ℕ)) : List Item → Type 0 where
  silently : refusal_reason refusal ≡ None → Refuses h refusal payload (Died ∷ Refused refusal payload ∷ [])
  spent : count (sent h) ≡ numbers_of_epoch → Refuses h refusal payload (Died ∷ Refused refusal payload ∷ [])
  said : (reason : ℕ) (said : List ℕ) → refusal_reason refusal ≡ Some reason → count (sent h) < numbers_of_epoch →
      IsEncoded (Disconnect reason (refusal_name refusal) []) said →
      Refuses h refusal payload
      (Died ∷ Sent None (Disconnect reason (refusal_name refusal) []) said ∷ Refused refusal payload ∷ [])

-- ---- the turn on a payload

-- The message number of a payload is its first byte; an empty payload has 0.
abbrev pub number_of : List ℕ → ℕ
number_of [] = 0
number_of (n ∷ rest) = n

-- the checks on a message that an end may take, in order, each with its refusal
abbrev pub answer_checks : {K : Type 0} → Parties K → Side → List Item → Msg → List (Check Refusal)
answer_checks p side h message =
    transport_checks p side h message ++ (authentication_checks p side h message ++ connection_checks side h message)

-- The items that the end of this side, with the history h, adds to a message that it took, the newest first. `channel` is
-- the end's own number for the channel of the message.
pub data Answer {K : Type 0} (p : Parties K) : Side → List Item → Option ℕ → Msg → List Item → Type 0 where
  of_transport : {side : Side} {h items : List Item} {message : Msg} → TransportAnswer p side h message items →
      Answer p side h None message items
  -- with the replies that are owed
  of_completion : {side : Side} {h owed items : List Item} {message : Msg} → AreReplies (owed_replies side h) owed →
      CompletingAnswer p owed side h message items → Answer p side h None message items
  of_authentication : {side : Side} {h items : List Item} {message : Msg} →
      AuthenticationAnswer p side h message items → Answer p side h None message items
  of_connection : {side : Side} {h items : List Item} {channel : Option ℕ} {message : Msg} →
      ConnectionAnswer side h channel message items → Answer p side h channel message items

-- The message may be taken, and nothing refuses it.
pub record IsAcceptable {K : Type 0} (p : Parties K) (side : Side) (h : List Item) (message : Msg) (payload : List ℕ) :
    Type 0 where
  pub read : may_take p side h (number_of payload) ≡ true
  pub no_guess : phase p side h ≡ Guessed → ⊥
  pub message_is : IsPayload (probing h) message payload
  pub not_refused : first_refusal (answer_checks p side h message) ≡ None

-- The turn of an end on a payload. The refusals are tested in this order: Unexpected by the number, BadMessage, those of
-- the answer, and NumberSpent if the answer needs more numbers than the epoch has left. The packet after a wrong guess is
-- not read.
pub data OnPayload {K : Type 0} (p : Parties K) (side : Side) (h : List Item) (payload : List ℕ) : List Item →
    Type 0 where
  takes : {items : List Item} (channel : Option ℕ) (message : Msg) → IsAcceptable p side h message payload →
      Answer p side h channel message items → AreEncoded items → AreNumbered items (Took channel message payload ∷ h) →
      OnPayload p side h payload (items ++ Took channel message payload ∷ [])
  skips : phase p side h ≡ Guessed → may_take p side h (number_of payload) ≡ true →
      OnPayload p side h payload (Told Ignored ∷ TookGuess payload ∷ [])
  unexpected : {items : List Item} → may_take p side h (number_of payload) ≡ false →
      Refuses h Unexpected (Some payload) items → OnPayload p side h payload items
  bad_message : {items : List Item} → may_take p side h (number_of payload) ≡ true → (phase p side h ≡ Guessed → ⊥) →
      ((message : Msg) → IsPayload (probing h) message payload → ⊥) → Refuses h BadMessage (Some payload) items →
      OnPayload p side h payload items
  refuses : {items : List Item} (message : Msg) (refusal : Refusal) → may_take p side h (number_of payload) ≡ true →
      (phase p side h ≡ Guessed → ⊥) →
      IsPayload (probing h) message payload → first_refusal (answer_checks p side h message) ≡ Some refusal →
      Refuses h refusal (Some payload) items → OnPayload p side h payload items
  spends : {items : List Item} (channel : Option ℕ) (message : Msg) → IsAcceptable p side h message payload →
      Answer p side h channel message items → AreEncoded items →
      (AreNumbered items (Took channel message payload ∷ h) → ⊥) →
      OnPayload p side h payload (Died ∷ Refused NumberSpent (Some payload) ∷ [])

-- ---- the turn on a unit

-- the next thing that an end reads, given whether it took the version line
abbrev pub stage_after : {K : Type 0} → Parties K → Side → List Item → (line_taken : Bool) → Stage K
stage_after p side h true = Packets (taking_key p side h) (taking_number side h) (count (took h))
stage_after p side h false = Lines (is_client side) (other_lines h)

-- the next thing that an end reads
abbrev pub stage : {K : Type 0} → Parties K → Side → List Item → Stage K
stage p side h = stage_after p side h (has_line h)

-- the turn of an end on the next unit, by its outcome
pub data OnOutcome {K : Type 0} (p : Parties K) (side : Side) (h : List Item) : Outcome → List Item → Type 0 where
  other_line : (line : List ℕ) → OnOutcome p side h (OtherLine line) (TookOtherLine line ∷ [])
  version_line : (line : List ℕ) → OnOutcome p side h (VersionLine line) (TookLine line ∷ [])
  refused_line : {items : List Item} (refusal : Refusal) → Refuses h refusal None items →
      OnOutcome p side h (RefusedLine refusal) items
  opened : {items : List Item} (payload : List ℕ) → OnPayload p side h payload items →
      OnOutcome p side h (Opens payload) items
  refused_packet : {items : List Item} (refusal : Refusal) → Refuses h refusal None items →
      OnOutcome p side h (RefusedPacket refusal) items

-- The turn takes memory: it sends something, which also covers each turn that makes keys, or it makes a channel.
abbrev pub take_memory : List Item → Bool
take_memory [] = false
take_memory (Sent channel message payload ∷ items) = true
take_memory (Told (Opened channel kind window max rest) ∷ items) = true
take_memory (_ ∷ items) = take_memory items

-- The turn of a live end on the next unit of its stream. If that takes memory, the end may die of a failed allocation instead.
pub data OnUnit {K : Type 0} (p : Parties K) (side : Side) (h : List Item) (unit : List ℕ) : List Item → Type 0 where
  reads : {items : List Item} (outcome : Outcome) → IsUnit p.crypto (stage p side h) unit outcome →
      OnOutcome p side h outcome items →
      OnUnit p side h unit items
  dies : {items : List Item} (outcome : Outcome) → IsUnit p.crypto (stage p side h) unit outcome →
      OnOutcome p side h outcome items →
      take_memory items ≡ true → OnUnit p side h unit (Died ∷ [])

-- ---- asks

-- the checks on an ask, in order, each with its refusal
abbrev pub ask_checks : {K : Type 0} → Parties K → Side → List Item → Ask → List (Check AskRefusal)
ask_checks p side h ask =
    transport_ask_checks p side h ask ++ (authentication_ask_checks side h ask ++ connection_ask_checks p side h ask)

-- the items that an end adds for an ask that it does not refuse
pub data OnAsk {K : Type 0} (p : Parties K) : Side → List Item → Ask → List Item → Type 0 where
  of_transport : {side : Side} {h items : List Item} {ask : Ask} → TransportAsk p side h ask items →
      OnAsk p side h ask items
  of_authentication : {side : Side} {h items : List Item} {ask : Ask} → AuthenticationAsk p side h ask items →
      OnAsk p side h ask items
  of_connection : {side : Side} {h items : List Item} {ask : Ask} → ConnectionAsk side h ask items →
      OnAsk p side h ask items

-- ---- turns and runs

-- a cookie and a secret
pub record IsMaterial (cookie secret : List ℕ) : Type 0 where
  pub cookie_bytes : AreBytes cookie
  pub cookie_size : length cookie ≡ 16
  pub secret_bytes : AreBytes secret
  pub secret_size : length secret ≡ 32

-- An end keeps one pair at a time, and is fed at most 2^32 - 1 pairs. If it keeps a pair, was fed so many, or is dead, it
-- can't be fed. It then answers false and does nothing.
abbrev pub can_feed : List Item → Bool
can_feed h = not (has_died h) && not (has_material h) && nat_lt (length (fed h)) most_exchanges

-- The turn of an end that is fed a pair of cookie and secret.
pub data FeedsTurn (side : Side) (h : List Item) (cookie secret : List ℕ) : List Item → Type 0 where
  feeds : can_feed h ≡ true → IsMaterial cookie secret → FeedsTurn side h cookie secret (Fed cookie secret ∷ [])
  answers_false : can_feed h ≡ false → FeedsTurn side h cookie secret []

-- The turn of an end on an ask. A dead end does nothing. An end that would send may die of a failed allocation instead.
pub data AsksTurn {K : Type 0} (p : Parties K) (side : Side) (h : List Item) (ask : Ask) : List Item → Type 0 where
  refuses : (refusal : AskRefusal) → has_died h ≡ false → first_refusal (ask_checks p side h ask) ≡ Some refusal →
      AsksTurn p side h ask (AskRefused refusal ∷ Asked ask ∷ [])
  answers : {items : List Item} → has_died h ≡ false → first_refusal (ask_checks p side h ask) ≡ None →
      OnAsk p side h ask items →
      AreEncoded items → AreNumbered items (Asked ask ∷ h) → AsksTurn p side h ask (items ++ Asked ask ∷ [])
  spends : {items : List Item} → has_died h ≡ false → first_refusal (ask_checks p side h ask) ≡ None →
      OnAsk p side h ask items →
      AreEncoded items → (AreNumbered items (Asked ask ∷ h) → ⊥) →
      AsksTurn p side h ask (Died ∷ Refused NumberSpent None ∷ Asked ask ∷ [])
  dies : {items : List Item} → has_died h ≡ false → first_refusal (ask_checks p side h ask) ≡ None →
      OnAsk p side h ask items →
      AreEncoded items → AreNumbered items (Asked ask ∷ h) → AsksTurn p side h ask (Died ∷ [])
  is_dead : has_died h ≡ true → AsksTurn p side h ask []

-- The items that an end of this side, with the history h, may add in one turn, the newest first.
pub data Turn {K : Type 0} (p : Parties K) (side : Side) (h : List Item) : List Item → Type 0 where
  feeds : {items : List Item} (cookie secret : List ℕ) → FeedsTurn side h cookie secret items → Turn p side h items
  asks : {items : List Item} (ask : Ask) → AsksTurn p side h ask items → Turn p side h items
  reads : {items : List Item} (unit : List ℕ) → has_died h ≡ false → OnUnit p side h unit items → Turn p side h items

-- The first turn of an end: it is fed a pair, and sends its version line and its first KEXINIT (RFC 4253 sections 4.2 and 7.1).
pub record IsOpening {K : Type 0} (p : Parties K) (side : Side) (items : List Item) : Type 0 where
  pub cookie : List ℕ
  pub secret : List ℕ
  pub payload : List ℕ
  pub is_material : IsMaterial cookie secret
  pub is_encoded : IsEncoded (KexInit (offer p side true cookie)) payload
  pub items_are : items ≡ Sent None (KexInit (offer p side true cookie)) payload ∷ SentLine (settings_of p side).line
      ∷ Fed cookie secret ∷ []

-- The runs of one end: its opening, and then turns, whatever comes to it.
pub data EndRun {K : Type 0} (p : Parties K) (side : Side) : List Item → Type 0 where
  start : {items : List Item} → IsOpening p side items → EndRun p side items
  then_turn : {h items : List Item} → EndRun p side h → Turn p side h items → EndRun p side (items ++ h)

-- The runs of two ends: both openings, and then turns.
pub data Run {K : Type 0} (p : Parties K) : List Done → Type 0 where
  start : (client server : List Item) → IsOpening p Client client → IsOpening p Server server →
      Run p (done_by Server server ++ done_by Client client)
  then_turn : {run : List Done} {items : List Item} (side : Side) → Run p run → Turn p side (part side run) items →
      Run p (done_by side items ++ run)
