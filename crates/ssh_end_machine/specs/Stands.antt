-- The place of an end of either role in a run of its own, and the place to which each call takes it.
use Rattle.std.specs.Prelude.{◌≡◌, ◌++◌, ℕ, Bool, List, [], ◌∷◌, Result, take}
use Rattle.ssh_model.specs.Protocol.Authentication.Requests.{Judge}
use Rattle.ssh_model.specs.State.End.State.{EndState}
use Rattle.ssh_model.specs.State.End.Summary.{HasOpened}
use Rattle.ssh_model.specs.Protocol.KeyExchange.Exchanges.{Material, fed}
use Rattle.ssh_model.specs.Protocol.Sessions.Items as session
use Rattle.ssh_model.specs.Protocol.Sessions.Items.{Item, messages_sent}
use Rattle.ssh_model.specs.Protocol.Sessions.Parties.{AreLawful, Parties, Settings, settings_of}
use Rattle.ssh_model.specs.declared.side.Side.{Side}
use Rattle.ssh_model.specs.declared.side.Side.TheVariants.{Server}
use Rattle.ssh_model.specs.Protocol.Wire.Sealing.{Crypto}
use Rattle.ssh_model.specs.State.TransportLayer.Kept.{ExchangeParts}
use Rattle.ssh_end_machine.specs.Layers.{Layers}
use Rattle.ssh_end_machine.specs.Sessions.{AreOf, end_of}
use Rattle.ssh_transport.specs.declared.role.Role as exchange
use Rattle.ssh_transport_machine.specs.Puts.{payloads_of}
use Rattle.ssh_transport_machine.specs.State.{State, buffered_of}
use Rattle.ssh_end_machine.specs.Ends.{EndValue, IsOf}
use Rattle.ssh_end_machine.specs.RoleValues.{RoleValue}
use Rattle.ssh_end_machine.specs.Parts.{IsServer}
use Rattle.ssh_end_machine.specs.Places.{AskedTo, DiedOn, FedTo, StandsAfter, TurnedTo}
use Rattle.ssh_end_machine.specs.Units.{FrontNeedsMemory}
use Rattle.ssh_end_machine.specs.declared.asking.outcome.AskStep.{AskStep}
use Rattle.ssh_end_machine.specs.declared.asking.outcome.Fault.{Fault}
use Rattle.ssh_end_machine.specs.declared.asking.outcome.Fault.TheVariants as fault
use Rattle.ssh_end_machine.specs.declared.role.EndRole as role

-- the state of an end, as the model has it
abbrev pub state_of : {K R F : Type 0} → EndValue K R F → EndState K
state_of end = end_of end.machine.kept end.layers

-- The end stands after this history.
abbrev pub StandsAt : {R X S F K : Type 0} → role.Ghosts R X S F K → exchange.Ghosts X S F K → Parties K →
    List Item → EndValue K (RoleValue X R) F → Type 0
StandsAt ends exchanges p history end =
    StandsAfter p exchanges.SIDE (IsOf ends end.role p) (AreOf p end.layers) history end.machine
    (state_of end)

-- The server with these parts and this judge of its users stands after this history.
abbrev pub ServerStandsAt : {K : Type 0} → Parties K → Crypto K → ExchangeParts → Judge → List Item → State K → Layers → Type 0
ServerStandsAt p c parts judge history machine layers =
    StandsAfter p Server (IsServer p c parts judge) (AreOf p layers) history machine (end_of machine.kept layers)

-- the place to which bytes of the peer took an end, which used this many of them
abbrev pub TakesTo : {R X S F K : Type 0} → role.Ghosts R X S F K → exchange.Ghosts X S F K → Parties K →
    List Item → EndValue K (RoleValue X R) F → (bytes : List ℕ) → (used : ℕ) → (before after : List ℕ) →
    EndValue K (RoleValue X R) F → Type 0
TakesTo ends exchanges p history old bytes used before after new =
    TurnedTo p exchanges.SIDE (IsOf ends new.role p) (AreOf p new.layers) history
    (buffered_of old.machine ++ take used bytes) new.step new.machine (state_of new)
    (record { before = before; after = after; payloads_before = []; payloads_after = new.sent })

-- the place at which they left it if nothing was done: it is over by some of them, or was over before
abbrev pub FailsTo : {R X S F K : Type 0} → role.Ghosts R X S F K → exchange.Ghosts X S F K → Parties K →
    List Item → EndValue K (RoleValue X R) F → (bytes : List ℕ) → Fault → EndValue K (RoleValue X R) F → Type 0
FailsTo ends exchanges p history old bytes fault.Memory new =
    FrontNeedsMemory (DiedOn p exchanges.SIDE (IsOf ends new.role p) (AreOf p new.layers) history new.machine (state_of new))
    (buffered_of old.machine) bytes
FailsTo ends exchanges p history old bytes fault.Dead new = StandsAt ends exchanges p history new
FailsTo ends exchanges p history old bytes (fault.Ask why) new = ⊥

-- the place to which an ask took it
abbrev pub AsksTo : {R X S F K : Type 0} → role.Ghosts R X S F K → exchange.Ghosts X S F K → Parties K →
    List Item → EndValue K (RoleValue X R) F → session.Ask → Result AskStep Fault → (before after : List ℕ) →
    EndValue K (RoleValue X R) F → Type 0
AsksTo ends exchanges p history old asked given before after new =
    AskedTo p exchanges.SIDE (IsOf ends new.role p) (AreOf p new.layers) history (state_of old)
    asked given new.machine (state_of new)
    (record { before = before; after = after; payloads_before = []; payloads_after = new.sent })

-- the place to which a pair of cookie and secret took it, by the answer
abbrev pub FeedsTo : {R X S F K : Type 0} → role.Ghosts R X S F K → exchange.Ghosts X S F K → Parties K → List Item →
    (cookie secret : List ℕ) → Bool → EndValue K (RoleValue X R) F → Type 0
FeedsTo ends exchanges p history cookie secret answer new =
    FedTo p exchanges.SIDE (IsOf ends new.role p) (AreOf p new.layers) history cookie secret answer
    new.machine (state_of new)

-- An end that was made stands after its opening: it was fed this pair, put out its version line and its first KEXINIT, and
-- shows the payload of that as sent.
pub record MadeAt {K : Type 0} (p : Parties K) (side : Side) (parts layers : Type 0) (material : Material)
    (machine : State K) (e : EndState K) (before after : List ℕ) (sent : List (List ℕ)) : Type 0 where
  pub items : List Item
  pub bytes : List ℕ
  pub opened : HasOpened p side items bytes e
  pub material_is : fed items ≡ material ∷ []
  pub out : after ≡ before ++ bytes
  pub lists : sent ≡ payloads_of (messages_sent items)
  pub place : StandsAfter p side parts layers items machine e

-- An end was made with these settings, of whichever lawful parties they and its parts are.
abbrev pub MadeOf : {K : Type 0} → Side → Settings → (is_of are_of : Parties K → Type 0) → Material → State K → EndState K →
    (before after : List ℕ) → (sent : List (List ℕ)) → Type 0
MadeOf {K} side given is_of are_of material machine e before after sent =
    (p : Parties K) → AreLawful p → settings_of p side ≡ given → is_of p →
    MadeAt p side (is_of p) (are_of p) material machine e before after sent
