-- The events of two ends, and the runs that they give: asks, pairs of cookie and secret, and delivered bytes. Losses,
-- repeats, changes of order and injections are choices of these bytes (own).
use Rattle.std.specs.Prelude.{◌≡◌, ℕ, Option, cond, List, [], ◌∷◌, ◌++◌}
use Rattle.ssh_model.specs.declared.side.Side.{Side}
use Rattle.ssh_model.specs.declared.side.Side.TheVariants.{Client, Server}
use Rattle.ssh_model.specs.Protocol.Side.{done_by, part}
use Rattle.ssh_model.specs.Protocol.Wire.Message.{Msg}
use Rattle.ssh_model.specs.Protocol.Wire.Sealing.{IsSealed}
use Rattle.ssh_model.specs.Protocol.Wire.Line.{line_end}
use Rattle.ssh_model.specs.Protocol.Wire.Unit.{reading}
use Rattle.ssh_model.specs.Protocol.Wire.Delivery.{Rules, Delivered}
use Rattle.ssh_model.specs.Protocol.Sessions.Parties.{Parties}
use Rattle.ssh_model.specs.Protocol.Sessions.Items.{Ask, Item, Item.SentLine, Item.Sent, Done, has_died}
use Rattle.ssh_model.specs.Protocol.KeyExchange.Exchanges.{sending_key, sending_number}
use Rattle.ssh_model.specs.Protocol.Sessions.Turns.{OnUnit, AsksTurn, FeedsTurn, IsOpening, stage}

-- an event of one end: an ask of its user, a pair of cookie and secret, or a piece of its stream
pub data Event : Type 0 where
  Asks : Side → Ask → Event
  Feeds : Side → (cookie secret : List ℕ) → Event
  Delivers : Side → List ℕ → Event

-- The end of this side uses this unit after one run, and the run after it is the next.
pub record Uses {K : Type 0} (p : Parties K) (side : Side) (run : List Done) (unit : List ℕ) (next : List Done) :
    Type 0 where
  pub items : List Item
  pub on_unit : OnUnit p side (part side run) unit items
  pub next_is : next ≡ done_by side items ++ run

-- how the end of this side reads the bytes that come to it
abbrev pub reading_of : {K : Type 0} → Parties K → Side → Rules (List Done)
reading_of p side =
    reading p.crypto (λ run. stage p side (part side run)) (Uses p side) (λ run. has_died (part side run))

-- The state of two ends: all that was done, and the bytes that each end was given and has not used.
pub record World : Type 0 where
  pub run : List Done
  pub client_rest : List ℕ
  pub server_rest : List ℕ

-- The state of two ends that have opened, and to which nothing has come.
pub record IsFirst {K : Type 0} (p : Parties K) (w : World) : Type 0 where
  pub client : List Item
  pub server : List Item
  pub client_opens : IsOpening p Client client
  pub server_opens : IsOpening p Server server
  pub run_is : w.run ≡ done_by Server server ++ done_by Client client
  pub client_rest_is : w.client_rest ≡ []
  pub server_rest_is : w.server_rest ≡ []

-- the bytes that the end of this side has not used
abbrev pub rest_of : World → Side → List ℕ
rest_of w Client = w.client_rest
rest_of w Server = w.server_rest

-- the same world with another run, and with other bytes that the end of this side has not used
abbrev pub next_world : World → Side → List Done → List ℕ → World
next_world w Client run rest = record { run = run; client_rest = rest; server_rest = w.server_rest }
next_world w Server run rest = record { run = run; client_rest = w.client_rest; server_rest = rest }

-- the bytes that an end keeps: a dead end keeps none
abbrev pub kept_rest : List Item → List ℕ → List ℕ
kept_rest h rest = cond (has_died h) [] rest

-- One event. A dead end takes no part in it.
pub data OnEvent {K : Type 0} (p : Parties K) (w : World) : Event → World → Type 0 where
  asks : {items : List Item} (side : Side) (ask : Ask) → AsksTurn p side (part side w.run) ask items →
      OnEvent p w (Asks side ask) (next_world w side (done_by side items
      ++ w.run) (kept_rest (items ++ part side w.run) (rest_of w side)))
  feeds : {items : List Item} (side : Side) (cookie secret : List ℕ) →
      FeedsTurn side (part side w.run) cookie secret items →
      OnEvent p w (Feeds side cookie secret) (next_world w side (done_by side items ++ w.run) (rest_of w side))
  delivers : {run : List Done} {rest : List ℕ} (side : Side) (bytes : List ℕ) →
      Delivered (reading_of p side) w.run (rest_of w side ++ bytes) run rest →
      OnEvent p w (Delivers side bytes) (next_world w side run rest)

-- These events lead from one world to the other.
pub data Plays {K : Type 0} (p : Parties K) : World → List Event → World → Type 0 where
  ends : {w : World} → Plays p w [] w
  goes : {w between end : World} {event : Event} {events : List Event} → OnEvent p w event between →
      Plays p between events end → Plays p w (event ∷ events) end

-- The item sends neither a line nor a payload.
abbrev pub PutsNothing : Item → Type 0
PutsNothing (SentLine line) = ⊥
PutsNothing (Sent channel message payload) = ⊥
PutsNothing _ = Unit {0}

-- The bytes that an end put out: its version line with CR LF, and for each payload a packet, sealed under the key and the
-- number of its place.
pub data PutsOut {K : Type 0} (p : Parties K) (side : Side) : List Item → List ℕ → Type 0 where
  nothing : PutsOut p side [] []
  version : {h : List Item} {bytes : List ℕ} (line : List ℕ) → PutsOut p side h bytes →
      PutsOut p side (SentLine line ∷ h) (bytes ++ line ++ line_end)
  packet : {h : List Item} {bytes : List ℕ} (channel : Option ℕ) (message : Msg) (payload wire : List ℕ) →
      IsSealed p.crypto (sending_key p side h) (sending_number side h) payload wire → PutsOut p side h bytes →
      PutsOut p side (Sent channel message payload ∷ h) (bytes ++ wire)
  other : {h : List Item} {bytes : List ℕ} (item : Item) → PutsNothing item → PutsOut p side h bytes →
      PutsOut p side (item ∷ h) bytes
