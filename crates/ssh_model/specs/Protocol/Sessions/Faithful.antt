-- A faithful network kills nobody (own, if nothing else is said).
use Rattle.std.specs.Prelude.{◌≡◌, ℕ, List, [], ◌∷◌, ◌++◌, map, Option, Some}
use Rattle.ssh_model.specs.declared.side.Side.{Side}
use Rattle.ssh_model.specs.declared.side.Side.TheVariants.{Client, Server}
use Rattle.ssh_model.specs.Protocol.Side.{peer, DoneBy.By, part}
use Rattle.ssh_model.specs.Protocol.Wire.Line.{IsAccepted, IsText, IsVersionText, line_end}
use Rattle.ssh_model.specs.Protocol.Wire.Message.{Msg}
use Rattle.ssh_model.specs.Protocol.Wire.Sealing.{IsSealed}
use Rattle.ssh_model.specs.declared.refusal.Refusal.{Refusal}
use Rattle.ssh_model.specs.declared.refusal.Refusal.TheVariants.{NoCommon, NotStrict, BadPoint, BadHost, NoMaterial, NumberSpent}
use Rattle.ssh_model.specs.declared.refusal.Refusal.TheVariants.{TooManyTries, OwedFull}
use Rattle.ssh_model.specs.Protocol.KeyExchange.Exchanges.{sending_key, sending_number}
use Rattle.ssh_model.specs.Protocol.Sessions.Parties.{Parties, settings_of}
use Rattle.ssh_model.specs.Protocol.Sessions.Phases.{is_client}
use Rattle.ssh_model.specs.Protocol.Sessions.Items.{Ask, Item, Item.SentLine, Item.Sent, Item.Took, Item.TookGuess, Item.Refused, Done}
use Rattle.ssh_model.specs.Protocol.Sessions.Items.{bytes_of, sent, took}
use Rattle.ssh_model.specs.Protocol.Sessions.Events.{Event, Event.Asks, Event.Feeds, Event.Delivers, OnEvent, PutsNothing, PutsOut, World}

-- ---- payload by payload

-- The payload is the next of those that the peer sent: before it the peer sent exactly the payloads that this end took, in the same
-- order.
abbrev pub IsNext : Side → List ℕ → List Done → Type 0
IsNext side payload run =
    (newer : List (List ℕ))
    × (map bytes_of (sent (part (peer side) run)) ≡ newer ++ (payload ∷ map bytes_of (took (part side run))))

-- Each payload that an end opened was the next that the other end had sent by then, whether it was taken or refused. So nothing was
-- lost, repeated, moved, changed or injected. Either direction may be cut off at any place, and then nothing more comes.
abbrev pub IsFaithful : List Done → Type 0
IsFaithful [] = Unit {0}
IsFaithful (By side (Took channel message payload) ∷ run) = IsNext side payload run × IsFaithful run
IsFaithful (By side (TookGuess payload) ∷ run) = IsNext side payload run × IsFaithful run
IsFaithful (By side (Refused refusal (Some payload)) ∷ run) = IsNext side payload run × IsFaithful run
IsFaithful (_ ∷ run) = IsFaithful run

-- The reason of the refusal lies in the two ends, and not between them. Their settings have no common algorithm (NoCommon), or one end
-- requires strict key exchange and the other does not offer it (NotStrict). A supplied part gives a point that leads to no shared result
-- (BadPoint), or does not trust the host (BadHost). The user of an end did not feed it (NoMaterial), tried too often to log in
-- (TooManyTries), or made its peer owe too many replies (OwedFull). As many packets were sent under a key as it can seal (NumberSpent).
-- Refused memory is no refusal of the peer: the end dies of it.
abbrev pub LiesInEnds : Refusal → Type 0
LiesInEnds NoCommon = Unit {0}
LiesInEnds NotStrict = Unit {0}
LiesInEnds BadPoint = Unit {0}
LiesInEnds BadHost = Unit {0}
LiesInEnds NoMaterial = Unit {0}
LiesInEnds NumberSpent = Unit {0}
LiesInEnds TooManyTries = Unit {0}
LiesInEnds OwedFull = Unit {0}
LiesInEnds _ = ⊥

-- Each refusal of an opened payload has its reason in the ends. So no end refuses a payload as no message (BadMessage), as unexpected
-- where it comes (Unexpected), for the name of a service (NoService), or for a channel or a window (UnknownChannel, WindowOverrun,
-- WindowTooLarge).
abbrev pub KillsNobody : List Done → Type 0
KillsNobody [] = Unit {0}
KillsNobody (By side (Refused refusal (Some payload)) ∷ run) = LiesInEnds refusal × KillsNobody run
KillsNobody (_ ∷ run) = KillsNobody run

-- ---- byte by byte

-- What an end put out since this history, in the order of time. It is defined as all that it put out (`PutsOut`), from there on.
pub data PutsSince {K : Type 0} (p : Parties K) (side : Side) (since : List Item) : List Item → List ℕ → Type 0 where
  nothing : PutsSince p side since since []
  version : {h : List Item} {bytes : List ℕ} (line : List ℕ) → PutsSince p side since h bytes →
      PutsSince p side since (SentLine line ∷ h) (bytes ++ (line ++ line_end))
  packet : {h : List Item} {bytes : List ℕ} (channel : Option ℕ) (message : Msg) (payload wire : List ℕ) →
      IsSealed p.crypto (sending_key p side h) (sending_number side h) payload wire → PutsSince p side since h bytes →
      PutsSince p side since (Sent channel message payload ∷ h) (bytes ++ wire)
  other : {h : List Item} {bytes : List ℕ} (item : Item) → PutsNothing item → PutsSince p side since h bytes →
      PutsSince p side since (item ∷ h) bytes

-- the bytes that are under way to each end: its peer put them out, and they were not delivered yet
pub record Network : Type 0 where
  pub to_client : List ℕ
  pub to_server : List ℕ

-- All that two ends put out is under way.
pub record IsUnderWay {K : Type 0} (p : Parties K) (w : World) (network : Network) : Type 0 where
  pub to_client : PutsOut p Server (part Server w.run) network.to_client
  pub to_server : PutsOut p Client (part Client w.run) network.to_server

-- A delivery takes the first of the bytes that are under way to its end, and no others. Another event takes none.
pub data TakesOff (network : Network) : Event → Network → Type 0 where
  asks : (side : Side) (ask : Ask) → TakesOff network (Asks side ask) network
  feeds : (side : Side) (cookie secret : List ℕ) → TakesOff network (Feeds side cookie secret) network
  to_client : (bytes rest : List ℕ) → network.to_client ≡ bytes ++ rest →
      TakesOff network (Delivers Client bytes) (record { to_client = rest; to_server = network.to_server })
  to_server : (bytes rest : List ℕ) → network.to_server ≡ bytes ++ rest →
      TakesOff network (Delivers Server bytes) (record { to_client = network.to_client; to_server = rest })

-- One event over a faithful network. What it takes off the network was the first there, and what the ends put out comes last.
pub record IsCarried {K : Type 0} (p : Parties K) (w : World) (network : Network) (event : Event) (next : World)
    (after : Network) : Type 0 where
  pub on_event : OnEvent p w event next
  pub left : Network
  pub takes : TakesOff network event left
  pub by_client : List ℕ
  pub by_server : List ℕ
  pub client_puts : PutsSince p Client (part Client w.run) (part Client next.run) by_client
  pub server_puts : PutsSince p Server (part Server w.run) (part Server next.run) by_server
  pub to_client : after.to_client ≡ left.to_client ++ by_server
  pub to_server : after.to_server ≡ left.to_server ++ by_client

-- These events lead from one world to the other over a faithful network. It loses, repeats, moves, changes and adds no byte. It may
-- cut the stream anywhere, be slow, and end at any place.
pub data Carries {K : Type 0} (p : Parties K) : World → Network → List Event → World → Network → Type 0 where
  ends : {w : World} {network : Network} → Carries p w network [] w network
  goes : {w between end : World} {network left after : Network} {event : Event} {events : List Event} →
      IsCarried p w network event between left → Carries p between left events end after →
      Carries p w network (event ∷ events) end after

-- The version line of the end of this side is one that its peer takes (RFC 4253 section 4.2).
pub record HasVersion {K : Type 0} (p : Parties K) (side : Side) : Type 0 where
  pub text : IsText (settings_of p side).line
  pub protoversion : List ℕ
  pub software : List ℕ
  pub comments : Option (List ℕ)
  pub version : IsVersionText protoversion software comments (settings_of p side).line
  pub accepted : IsAccepted (is_client (peer side)) protoversion

-- Each refusal has its reason in the ends, also that of a line, or of a packet for its length, its padding or its tag (BadLine,
-- BadVersion, BadLength, BadPadding, BadTag).
abbrev pub SparesAll : List Done → Type 0
SparesAll [] = Unit {0}
SparesAll (By side (Refused refusal payload) ∷ run) = LiesInEnds refusal × SparesAll run
SparesAll (_ ∷ run) = SparesAll run
