-- The place of an end in a run of its own, and the place to which each call takes it. A history has the newest item first.
use Rattle.std.specs.Prelude.{◌≡◌, ◌≤◌, ◌++◌, ℕ, Bool, true, false, List, [], ◌∷◌, length, Result, Ok, Err}
use Rattle.ssh_model.specs.Protocol.Authentication.Requests.{Judge, judge_of}
use Rattle.ssh_model.specs.State.End.Reading.{end_reading}
use Rattle.ssh_model.specs.State.End.State.{EndState}
use Rattle.ssh_model.specs.State.End.Summary.{EndSumsUp}
use Rattle.ssh_model.specs.Protocol.Sessions.AnyPeer.{IsGuarded}
use Rattle.ssh_model.specs.Protocol.Sessions.Items as session
use Rattle.ssh_model.specs.Protocol.Sessions.Items.{Item, Item.Asked, Item.AskRefused, Item.Died, Item.Fed}
use Rattle.ssh_model.specs.Protocol.Sessions.Parties.{AreLawful, Parties, Settings}
use Rattle.ssh_model.specs.Protocol.Sessions.Turns.{EndRun, FeedsTurn, OnUnit}
use Rattle.ssh_model.specs.declared.side.Side.{Side}
use Rattle.ssh_model.specs.declared.side.Side.TheVariants.{Client, Server}
use Rattle.ssh_model.specs.Protocol.Wire.Delivery.{Waits}
use Rattle.ssh_model.specs.Protocol.Wire.Sealing.{Crypto}
use Rattle.ssh_transport.specs.Roles.{IsOfSome}
use Rattle.ssh_transport.specs.Units.{RoleDoes, RoleNeedsMemory}
use Rattle.ssh_transport_machine.specs.Puts.{Outs}
use Rattle.ssh_transport_machine.specs.State.{State, buffered_of}
use Rattle.ssh_transport_machine.specs.Answering.{IsQuiet}
use Rattle.ssh_end_machine.specs.Asking.{Asks, DoneInSession, UserSignatures}
use Rattle.ssh_end_machine.specs.Layers.{Layers}
use Rattle.ssh_end_machine.specs.Reading.{IsReading, SameReading}
use Rattle.ssh_end_machine.specs.Sessions.{AreOf, end_of}
use Rattle.ssh_end_machine.specs.Steps.{UnitTurned, shown_by}
use Rattle.ssh_end_machine.specs.Units.{UnitHandled, UnitNeedsMemory}
use Rattle.ssh_end_machine.specs.declared.asking.outcome.AskStep.{AskStep}
use Rattle.ssh_end_machine.specs.declared.asking.outcome.Fault.{Fault}
use Rattle.ssh_end_machine.specs.declared.asking.outcome.Fault.TheVariants as fault
use Rattle.ssh_end_machine.specs.declared.step.Step.{Step}
use Rattle.ssh_end_machine.specs.declared.step.Step.TheVariants as step

-- ---- a place

-- The end of this side of lawful parties stands after this history of a run of its own. Its parts are those that the
-- parties have for it. Its state sums up the history, and the bytes that it buffers are a partial line or packet. Whoever
-- its peer is, it is guarded. Nothing is said of the state that a dead end keeps above its transport.
pub record StandsAfter {K : Type 0} (p : Parties K) (side : Side) (parts layers : Type 0) (history : List Item)
    (machine : State K) (e : EndState K) : Type 0 where
  pub lawful : AreLawful p
  pub parts_are : parts
  pub layers_are : machine.kept.dead ≡ false → layers
  pub sums : EndSumsUp p side history e
  pub run : EndRun p side history
  pub reading : machine.kept.dead ≡ false → IsReading p.crypto machine
  pub guarded : IsGuarded p side history

-- ---- bytes of the peer

-- The bytes are no whole line or packet yet. They are buffered, nothing is put out, and the end stands where it stood.
pub record Waited {K : Type 0} (p : Parties K) (side : Side) (parts layers : Type 0) (history : List Item)
    (bytes : List ℕ) (new : State K) (e : EndState K) (o : Outs) : Type 0 where
  pub waits : Waits (end_reading p side) history bytes
  pub quiet : IsQuiet o
  pub alive : new.kept.dead ≡ false
  pub buffered : buffered_of new ≡ bytes
  pub place : StandsAfter p side parts layers history new e

-- The bytes are one line or one packet. The step is a turn of a session, and the end stands after it. No byte
-- is held. The layers have the settings of the parties, even if the end is over by it.
pub record TookUnit {K : Type 0} (p : Parties K) (side : Side) (parts layers : Type 0) (history : List Item)
    (bytes : List ℕ) (done : Step) (new : State K) (e : EndState K) (o : Outs) : Type 0 where
  pub turned : UnitTurned p side history bytes (shown_by done new) done e o
  pub buffered : new.kept.dead ≡ false → buffered_of new ≡ []
  pub layers_are : layers
  pub place : StandsAfter p side parts layers (turned.items ++ history) new e

-- one or the other, by the step
abbrev pub TurnedTo : {K : Type 0} → Parties K → Side → (parts layers : Type 0) → List Item → (bytes : List ℕ) → Step →
    State K → EndState K → Outs → Type 0
TurnedTo p side parts layers history bytes step.More new e o = Waited p side parts layers history bytes new e o
TurnedTo p side parts layers history bytes done new e o = TookUnit p side parts layers history bytes done new e o

-- Memory was refused for the bytes of one line or one packet, and the end is over. An end of a session may die there.
pub record DiedOn {K : Type 0} (p : Parties K) (side : Side) (parts layers : Type 0) (history : List Item) (new : State K)
    (e : EndState K) (bytes : List ℕ) : Type 0 where
  pub died : OnUnit p side history bytes (Died ∷ [])
  pub place : StandsAfter p side parts layers (Died ∷ history) new e

-- ---- asks

-- the items that an ask adds to the history, by its result
abbrev pub added : {K : Type 0} → (p : Parties K) → (side : Side) → (history : List Item) → (old : EndState K) →
    (asked : session.Ask) → (given : Result AskStep Fault) → (new : EndState K) → (o : Outs) →
    DoneInSession p side history old asked given new o → List Item
added p side history old asked (Ok step) new o done = done.items
added p side history old asked (Err (fault.Ask why)) new o done = AskRefused why ∷ Asked asked ∷ []
added p side history old asked (Err fault.Memory) new o done = Died ∷ []
added p side history old asked (Err fault.Dead) new o done = []

-- The result of an ask is a turn of a session, and the end stands after it.
pub record AskedTo {K : Type 0} (p : Parties K) (side : Side) (parts layers : Type 0) (history : List Item)
    (old : EndState K) (asked : session.Ask) (given : Result AskStep Fault) (new : State K) (e : EndState K) (o : Outs) :
    Type 0 where
  pub done : DoneInSession p side history old asked given e o
  pub place : StandsAfter p side parts layers (added p side history old asked given e o done ++ history) new e

-- ---- pairs of cookie and secret

-- the items that such a pair adds, by the answer
abbrev pub fed_items : (cookie secret : List ℕ) → (answer : Bool) → List Item
fed_items cookie secret true = Fed cookie secret ∷ []
fed_items cookie secret false = []

-- The end was fed if it could be. That is a turn of a session, and the end stands after it.
pub record FedTo {K : Type 0} (p : Parties K) (side : Side) (parts layers : Type 0) (history : List Item)
    (cookie secret : List ℕ) (answer : Bool) (new : State K) (e : EndState K) : Type 0 where
  pub turn : FeedsTurn side history cookie secret (fed_items cookie secret answer)
  pub place : StandsAfter p side parts layers (fed_items cookie secret answer ++ history) new e

-- ---- the law of a role

-- A role has the parts of an end of some lawful parties, whatever their settings. If it has the parts of an end of parties,
-- it has that end's part in an exchange of keys, a server's verdicts on users, and a client's signatures.
pub record HasParts {K R : Type 0} (side : Side) (is_of exchange : R → Parties K → Type 0) (judging : R → Judge)
    (signing : R → UserSignatures) : Type 0 where
  pub exists : (role : R) (client server : Settings) → length client.line ≤ 253 → length server.line ≤ 253 →
      IsOfSome is_of role client server (judging role) (signing role)
  pub exchanges : (role : R) (p : Parties K) → is_of role p → exchange role p
  pub judges : (role : R) (p : Parties K) → is_of role p → side ≡ Server → judge_of p ≡ judging role
  pub signs : (role : R) (p : Parties K) → is_of role p → side ≡ Client → p.user_signature ≡ signing role

-- What an end does is what an end of its side does in a session whose parts it has: with bytes, where memory is refused for
-- them, and on asks.
pub record EndLifts {K R : Type 0} (side : Side) (c : Crypto K) (is_of : R → Parties K → Type 0)
    (does : R → RoleDoes K) (own : R → RoleNeedsMemory K) (judging : R → Judge) (signing : R → UserSignatures) : Type 0 where
  pub turned : (role : R) (p : Parties K) (history : List Item) (old : State K) (layers : Layers) →
      StandsAfter p side (is_of role p) (AreOf p layers) history old (end_of old.kept layers) →
      (bytes : List ℕ) (done : Step) (new : State K) (later : Layers) (o : Outs) →
      UnitHandled c side (does role) (judging role) old layers bytes done new later o →
      TurnedTo p side (is_of role p) (AreOf p later) history bytes done new (end_of new.kept later) o
  pub died : (role : R) (p : Parties K) (history : List Item) (old : State K) (layers : Layers) →
      StandsAfter p side (is_of role p) (AreOf p layers) history old (end_of old.kept layers) →
      (new : State K) (later : Layers) → new.kept.dead ≡ true → (bytes : List ℕ) →
      UnitNeedsMemory c side (does role) (own role) (judging role) old layers bytes →
      DiedOn p side (is_of role p) (AreOf p later) history new (end_of new.kept later) bytes
  pub asked : (role : R) (p : Parties K) (history : List Item) (old : State K) (layers : Layers) →
      StandsAfter p side (is_of role p) (AreOf p layers) history old (end_of old.kept layers) →
      (asked : session.Ask) (given : Result AskStep Fault) (new : State K) (later : Layers) (o : Outs) →
      Asks c (signing role) old layers asked given new later o → (new.kept.dead ≡ false → SameReading old new) →
      AskedTo p side (is_of role p) (AreOf p later) history (end_of old.kept layers) asked given new (end_of new.kept later) o
