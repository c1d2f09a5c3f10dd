-- The turns of a session that those of a machine are, and what each answer of a machine shows of them.
use Rattle.std.specs.Prelude.{◌≡◌, ℕ, ◌+◌, ◌<◌, ◌≤◌, Bool, true, false, None, Some, List, [], ◌∷◌, ◌++◌}
use Rattle.std.specs.Prelude.{length}
use Rattle.ssh_model.specs.declared.side.Side.{Side}
use Rattle.ssh_model.specs.Protocol.Wire.Message.{Msg, Msg.Debug, Msg.Disconnect, Msg.ExtInfo, Msg.Ignore, Msg.KexInit}
use Rattle.ssh_model.specs.Protocol.Wire.Message.{Msg.NewKeys, Msg.ServiceAccept, Msg.ServiceRequest, Msg.Unimplemented}
use Rattle.ssh_model.specs.Protocol.Wire.Message.{Msg.Unknown, Extension, IsPayload}
use Rattle.ssh_model.specs.Protocol.Sessions.Items.{Fact, Fact.Debugged, Fact.Disconnected, Fact.GotExtensions, Fact.Ignored}
use Rattle.ssh_model.specs.Protocol.Sessions.Items.{Fact.NotImplemented, Fact.Service, Item, Item.Died, Item.Refused, Item.Told}
use Rattle.ssh_model.specs.Protocol.Sessions.Items.{Ask, Ask.AskDisconnect, Item.Asked, Item.Fed, Item.Sent, Item.Took}
use Rattle.ssh_model.specs.Protocol.Sessions.Items.{Item.SentLine, Item.TookLine, Item.TookOtherLine}
use Rattle.ssh_model.specs.Protocol.Sessions.Items.{Item.TookGuess, Encoded, Encoded.EncodedBy}
use Rattle.ssh_model.specs.Protocol.Sessions.Parties.{Parties, agreement_of, offer, settings_of}
use Rattle.ssh_model.specs.Protocol.Sessions.Events.{PutsOut}
use Rattle.ssh_model.specs.Protocol.Sessions.Turns.{AreEncoded, IsEncoded, stage}
use Rattle.ssh_model.specs.Protocol.Wire.Outcome.{Outcome, Outcome.OtherLine, Outcome.VersionLine, Outcome.RefusedLine}
use Rattle.ssh_model.specs.Protocol.Wire.Outcome.{Outcome.Opens, Outcome.RefusedPacket}
use Rattle.ssh_model.specs.Protocol.Wire.Unit.{IsUnit, PacketUnit}
use Rattle.ssh_model.specs.Laws.Units.{IsPartialPacket}
use Rattle.ssh_model.specs.Protocol.KeyExchange.Choice.{Chosen}
use Rattle.ssh_model.specs.Protocol.Sessions.Phases.{is_client}
use Rattle.ssh_model.specs.declared.refusal.Refusal.TheVariants as refusals
use Rattle.ssh_model.specs.Protocol.Sessions.Refusals.{first_refusal, refusal_name, refusal_reason}
use Rattle.ssh_model.specs.Protocol.Sessions.TurnClaims.{HasEncoding}
use Rattle.ssh_model.specs.Protocol.Wire.Line.{LineUnit}
use Rattle.ssh_model.specs.State.TransportLayer.Kept.{Answered, Takes, Transport, after_taken, message_checks}
use Rattle.ssh_model.specs.State.TransportLayer.Summary.{IsAwaited, SumsUp, items_sent}
use Rattle.ssh_model.specs.State.TransportLayer.Turns.{AskTurned, IsRefused, Reads, Turned, UnitRefused, refusal_items}
use Rattle.ssh_packet.specs.Refusals.{line_refusal}
use Rattle.ssh_model.specs.declared.ask_refusal.AskRefusal.{AskRefusal}
use Rattle.ssh_model.specs.declared.refusal.Refusal.{Refusal}
use Rattle.ssh_transport_machine.specs.Classifying.{PayloadIs}
use Rattle.ssh_transport_machine.specs.Puts.{Outs, payloads_of}
use Rattle.ssh_transport_machine.specs.State.{State, last_number}
use Rattle.ssh_transport_machine.specs.Answering.{IsQuiet}
use Rattle.ssh_transport_machine.specs.declared.machine.classifying.Classified.{Classified}
use Rattle.ssh_transport_machine.specs.declared.machine.classifying.Classified.TheVariants as classified
use Rattle.ssh_transport_machine.specs.declared.machine.LineTurn.{LineTurn}
use Rattle.ssh_transport_machine.specs.declared.machine.LineTurn.TheVariants as line_turn
use Rattle.ssh_transport.specs.Own as own
use Rattle.ssh_transport_machine.specs.declared.machine.sending.SendOutcome.TheVariants.{Done, Spent}
use Rattle.ssh_transport.specs.declared.outcome.AskTurn.{AskTurn}
use Rattle.ssh_transport.specs.declared.outcome.AskTurn.TheVariants as ask_turn
use Rattle.ssh_transport.specs.declared.outcome.Handled.TheVariants as handled
use Rattle.ssh_transport.specs.declared.outcome.TransportTurn.{TransportTurn}
use Rattle.ssh_transport.specs.declared.outcome.TransportTurn.TheVariants as turn
use Rattle.ssh_model.specs.Protocol.Bounds.{numbers_of_epoch}
use Rattle.ssh_transport.specs.Own.{Own, Share, Share.OfRole, Share.Shared}

-- what is told of a message that is not answered
pub data IsTold : Msg → Fact → Type 0 where
  ignore : (body : List ℕ) → IsTold (Ignore body) Ignored
  unimplemented : (number : ℕ) → IsTold (Unimplemented number) (NotImplemented number)
  debug : (display : Bool) (message language : List ℕ) →
      IsTold (Debug display message language) (Debugged display message)
  extensions : (announced : List Extension) → IsTold (ExtInfo announced) (GotExtensions announced)

-- The messages that were sent in a turn, the newest first, and all its items, by what is told of the payload: one
-- constructor a row. Where no number was left for an answer nothing was sent, and the refusal is that.
pub data Shows {K : Type 0} (s : Transport K) (payload : List ℕ) : TransportTurn → List Encoded → List Item → Type 0
  where
    refused : {said : List Encoded} (why : Refusal) →
        Shows s payload (turn.Refused why) said (refusal_items why (Some payload) said)
    skipped : Shows s payload (turn.Done handled.Skipped) [] (Told Ignored ∷ TookGuess payload ∷ [])
    disconnected : (reason : ℕ) (description language : List ℕ) →
        IsPayload false (Disconnect reason description language) payload →
        Shows s payload (turn.Done handled.Disconnected) []
        (Died ∷ Told (Disconnected reason description) ∷ Took None (Disconnect reason description language) payload ∷ [])
    told : (message : Msg) (fact : Fact) → IsPayload false message payload → IsTold message fact →
        Shows s payload (turn.Done handled.Told) [] (Told fact ∷ Took None message payload ∷ [])
    unknown : (number : ℕ) (reply : List ℕ) → IsPayload false (Unknown number) payload →
        Shows s payload (turn.Done handled.Unknown) (EncodedBy (Unimplemented s.taking.number) reply ∷ [])
        (items_sent (EncodedBy (Unimplemented s.taking.number) reply ∷ []) ++ Took None (Unknown number) payload ∷ [])
    service_requested : (service reply : List ℕ) → IsPayload false (ServiceRequest service) payload →
        Shows s payload (turn.Done handled.ServiceRequested) (EncodedBy (ServiceAccept service) reply ∷ [])
        (items_sent (EncodedBy (ServiceAccept service) reply ∷ []) ++ Took None (ServiceRequest service) payload ∷ [])
    service_accepted : (service : List ℕ) → IsPayload false (ServiceAccept service) payload →
        Shows s payload (turn.Done handled.ServiceAccepted) [] (Told Service ∷ Took None (ServiceAccept service) payload ∷ [])
    newkeys : IsPayload false NewKeys payload → Shows s payload (turn.Done handled.NewKeys) [] (Took None NewKeys payload ∷ [])

-- What was done with a payload is a turn of a session, with these items, bytes and payloads listed.
pub record IsTurn {K : Type 0} (p : Parties K) (side : Side) (history : List Item) (s : Transport K)
    (payload : List ℕ) (given : TransportTurn) (new : Transport K) (o : Outs) : Type 0 where
  pub said : List Encoded
  pub items : List Item
  pub more : List ℕ
  pub shows : Shows s payload given said items
  pub turned : Turned p side history payload items more new
  pub parts : o.after ≡ o.before ++ more
  pub lists : o.payloads_after ≡ o.payloads_before ++ payloads_of said

-- Nothing was done yet with a payload that is this.
pub record IsLeftSo {K : Type 0} (s : Transport K) (payload : List ℕ) (what : Classified) (old new : State K) (o : Outs) :
    Type 0 where
  pub payload_is : PayloadIs s payload what
  pub after : new ≡ old
  pub quiet : IsQuiet o

-- what a payload is that is left to the role
abbrev pub classified_by : Own → Classified
classified_by (own.Own.Kexinit facts) = classified.Kexinit facts
classified_by own.Own.EcdhInit = classified.EcdhInit
classified_by own.Own.Reply = classified.Reply

-- What was done with a payload is a turn; or nothing was done yet, and it is for the layers above, with the number of its
-- packet, or for the role.
pub data TurnOf {K : Type 0} (p : Parties K) (side : Side) (history : List Item) (s : Transport K) (old : State K) :
    Share → State K → Outs → Type 0 where
  turned : {given : TransportTurn} {new : State K} {o : Outs} →
      IsTurn p side history s old.receiver.payload given new.kept o → TurnOf p side history s old (Shared given) new o
  above : {given : TransportTurn} {new : State K} {o : Outs} → given ≡ turn.Up (last_number old.kept.taking) →
      IsLeftSo s old.receiver.payload classified.Above old new o → TurnOf p side history s old (Shared given) new o
  of_role : (left : Own) {new : State K} {o : Outs} → IsLeftSo s old.receiver.payload (classified_by left) old new o →
      TurnOf p side history s old (OfRole left) new o

-- ---- asks

-- The messages that were sent on an ask, and all items of its turn: one constructor a row.
pub data AskShows : Ask → AskTurn → List Encoded → List Item → Type 0 where
  refused : (ask : Ask) (why : AskRefusal) →
      AskShows ask (ask_turn.Refused why) [] (Item.AskRefused why ∷ Asked ask ∷ [])
  sent : (ask : Ask) (message : Msg) (payload : List ℕ) →
      AskShows ask (ask_turn.Answered Done) (EncodedBy message payload ∷ [])
      (Sent None message payload ∷ Asked ask ∷ [])
  disconnected : (description payload : List ℕ) →
      AskShows (AskDisconnect description) (ask_turn.Answered Done)
      (EncodedBy (Disconnect 11 description []) payload ∷ [])
      (Died ∷ Sent None (Disconnect 11 description []) payload ∷ Asked (AskDisconnect description) ∷ [])
  spent : (ask : Ask) → AskShows ask (ask_turn.Answered Spent) []
      (Died ∷ Refused refusals.NumberSpent None ∷ Asked ask ∷ [])

-- What was done on an ask is a turn of a session, with these items, bytes and payloads listed.
pub record IsAskTurn {K : Type 0} (p : Parties K) (side : Side) (history : List Item) (ask : Ask) (done : AskTurn)
    (new : Transport K) (o : Outs) : Type 0 where
  pub said : List Encoded
  pub items : List Item
  pub more : List ℕ
  pub shows : AskShows ask done said items
  pub turned : AskTurned p side history ask items more new
  pub parts : o.after ≡ o.before ++ more
  pub lists : o.payloads_after ≡ o.payloads_before ++ payloads_of said

-- ---- the opening

-- the history of an end that put out its version line and its first KEXINIT
abbrev pub opening : {K : Type 0} → Parties K → Side → (cookie secret payload : List ℕ) → List Item
opening p side cookie secret payload =
    Sent None (KexInit (offer p side true cookie)) payload ∷ SentLine (settings_of p side).line ∷ Fed cookie secret ∷ []

-- What is kept sums up that history, and this was put out and listed.
pub record IsOpening {K : Type 0} (p : Parties K) (side : Side) (cookie secret : List ℕ) (new : Transport K)
    (o : Outs) : Type 0 where
  pub payload : List ℕ
  pub encoded : IsEncoded (KexInit (offer p side true cookie)) payload
  pub sums : SumsUp p side (opening p side cookie secret payload) new
  pub more : List ℕ
  pub puts : PutsOut p side (opening p side cookie secret payload) more
  pub parts : o.after ≡ o.before ++ more
  pub lists : o.payloads_after ≡ o.payloads_before ++ payload ∷ []

-- ---- lines and packets

-- The unit is a line of this text, and what is kept sums up the history with it.
pub record IsLineItem {K : Type 0} (p : Parties K) (side : Side) (history : List Item) (s : Transport K)
    (bytes : List ℕ) (outcome : List ℕ → Outcome) (item : List ℕ → Item) (text : List ℕ) (new : Transport K) : Type 0
  where
    pub line : LineUnit (is_client s.side) s.lines.others bytes (outcome text)
    pub unit : IsUnit p.crypto (stage p side history) bytes (outcome text)
    pub sums : SumsUp p side (item text ∷ history) new

-- The line is refused, and nothing is said.
pub record IsLineRefusal {K : Type 0} (p : Parties K) (side : Side) (history : List Item) (s : Transport K)
    (bytes : List ℕ) (why : Refusal) (new : Transport K) : Type 0 where
  pub line : LineUnit (is_client s.side) s.lines.others bytes (RefusedLine why)
  pub unit : IsUnit p.crypto (stage p side history) bytes (RefusedLine why)
  pub turned : UnitRefused p side history (refusal_items why None []) why [] new

-- what a call made of the buffered bytes of a line followed by those that it used, whose text is shown
abbrev pub LineTurnOf : {K : Type 0} → Parties K → Side → (history : List Item) → Transport K → List ℕ → LineTurn →
    State K → Type 0
LineTurnOf p side history s bytes line_turn.More new = SumsUp p side history new.kept
LineTurnOf p side history s bytes line_turn.Other new =
    IsLineItem p side history s bytes OtherLine TookOtherLine new.reading.text new.kept
LineTurnOf p side history s bytes line_turn.Version new =
    IsLineItem p side history s bytes VersionLine TookLine new.kept.lines.line new.kept
LineTurnOf p side history s bytes (line_turn.Refused why) new =
    IsLineRefusal p side history s bytes (line_refusal why) new.kept

-- The unit is a packet of this payload, and what was done with that is a turn of a session, or it is left.
pub record IsPayloadTurn {K : Type 0} (p : Parties K) (side : Side) (history : List Item) (s : Transport K)
    (bytes : List ℕ) (done : Share) (new : State K) (o : Outs) : Type 0 where
  pub between : State K
  pub packet : PacketUnit p.crypto s.taking.key s.taking.number s.taking.count bytes (Opens between.receiver.payload)
  pub unit : IsUnit p.crypto (stage p side history) bytes (Opens between.receiver.payload)
  pub kept : between.kept ≡ after_taken s
  pub turn : TurnOf p side history s between done new o

-- Nothing but bytes of a packet was taken.
pub record IsPartialPacketBy {K : Type 0} (p : Parties K) (s : Transport K) (bytes : List ℕ) (new : Transport K)
    (o : Outs) : Type 0 where
  pub buffered : IsPartialPacket p.crypto s.taking.key s.taking.count bytes
  pub after : new ≡ s
  pub quiet : IsQuiet o

-- The packet was refused.
pub record IsPacketRefusal {K : Type 0} (p : Parties K) (side : Side) (history : List Item) (s : Transport K)
    (bytes : List ℕ) (why : Refusal) (new : Transport K) (o : Outs) : Type 0 where
  pub packet : PacketUnit p.crypto s.taking.key s.taking.number s.taking.count bytes (RefusedPacket why)
  pub unit : IsUnit p.crypto (stage p side history) bytes (RefusedPacket why)
  pub said : List Encoded
  pub more : List ℕ
  pub turned : UnitRefused p side history (refusal_items why None said) why more new
  pub parts : o.after ≡ o.before ++ more
  pub lists : o.payloads_after ≡ o.payloads_before ++ payloads_of said

-- What a call made of the buffered bytes of a packet followed by those that it used.
pub data PacketTurnOf {K : Type 0} (p : Parties K) (side : Side) (history : List Item) (s : Transport K)
    (bytes : List ℕ) : Share → State K → Outs → Type 0 where
  buffered : {new : State K} {o : Outs} → IsPartialPacketBy p s bytes new.kept o →
      PacketTurnOf p side history s bytes (Shared turn.More) new o
  refused : {why : Refusal} {new : State K} {o : Outs} → IsPacketRefusal p side history s bytes why new.kept o →
      PacketTurnOf p side history s bytes (Shared (turn.Refused why)) new o
  payload : {done : Share} {new : State K} {o : Outs} →
      IsPayloadTurn p side history s bytes done new o → PacketTurnOf p side history s bytes done new o

-- ---- where memory fails

-- The refusal would be said: it has a reason code, the DISCONNECT that says so a payload, and a number is left for it.
pub record WouldSay {K : Type 0} (s : Transport K) (why : Refusal) : Type 0 where
  pub reason : ℕ
  pub reason_is : refusal_reason why ≡ Some reason
  pub encoding : HasEncoding (Disconnect reason (refusal_name why) [])
  pub room : s.sending.count < numbers_of_epoch

-- Something would be sent on the payload, which has an encoding and a number of its own: an answer, or why it is
-- refused.
pub data WouldAnswer {K : Type 0} (p : Parties K) (side : Side) (s : Transport K) (payload : List ℕ) : Type 0 where
  answered : (chosen : Chosen) (message : Msg) (answered : Answered) (new : Transport K) → Reads s message payload →
      IsAwaited s chosen message →
      first_refusal (message_checks (agreement_of p side) p.trusts chosen s message) ≡ None →
      Takes (agreement_of p side) s payload message answered new → AreEncoded (items_sent answered.sent) →
      1 ≤ length answered.sent → s.sending.count + length answered.sent ≤ numbers_of_epoch → WouldAnswer p side s payload
  refused : (why : Refusal) → IsRefused (agreement_of p side) p.trusts s payload why → WouldSay s why →
      WouldAnswer p side s payload

-- Something would be sent on the packet.
pub data WouldAnswerPacket {K : Type 0} (p : Parties K) (side : Side) (s : Transport K) (bytes : List ℕ) : Type 0 where
  opened : (payload : List ℕ) →
      PacketUnit p.crypto s.taking.key s.taking.number s.taking.count bytes (Opens payload) →
      WouldAnswer p side s payload → WouldAnswerPacket p side s bytes
  refused : (why : Refusal) →
      PacketUnit p.crypto s.taking.key s.taking.number s.taking.count bytes (RefusedPacket why) → WouldSay s why →
      WouldAnswerPacket p side s bytes
