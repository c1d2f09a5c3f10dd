-- The ends: their states, how they begin, and how they change.
use Rattle.std.specs.Prelude.{◌≡◌, ℕ, List, [], ◌++◌, Option}
use Rattle.ssh_model.specs.State.Channels.Kept.{no_channels}
use Rattle.ssh_model.specs.declared.side.Side.{Side}
use Rattle.ssh_model.specs.Protocol.Sessions.Parties.{Parties, Settings}
use Rattle.ssh_model.specs.Protocol.Wire.Line.{line_end}
use Rattle.ssh_model.specs.Protocol.Wire.Sealing.{Crypto}
use Rattle.ssh_end_machine.specs.Layers.{Layers}
use Rattle.ssh_end_machine.specs.Login.{new_login}
use Rattle.ssh_transport.specs.declared.role.Role as exchange
use Rattle.ssh_packet.specs.Directions.{new_direction}
use Rattle.ssh_transport.specs.Asks.{WasDead}
use Rattle.ssh_transport_machine.specs.Opening.{IsOpened}
use Rattle.ssh_transport_machine.specs.Padding.{Sending}
use Rattle.ssh_transport_machine.specs.State.{State, buffered_of}
use Rattle.ssh_end_machine.specs.Outcomes.{DiesOf}
use Rattle.ssh_end_machine.specs.RoleValues.{RoleValue}
use Rattle.ssh_end_machine.specs.Units.{FrontNeedsMemory, UnitNeedsMemory}
use Rattle.ssh_end_machine.specs.declared.asking.outcome.Fault.{Fault}
use Rattle.ssh_end_machine.specs.declared.asking.outcome.Fault.TheVariants as fault
use Rattle.ssh_end_machine.specs.declared.role.EndRole as role
use Rattle.ssh_end_machine.specs.declared.step.Step.{Step}

-- An end's machine, its role, its layers, what gives its padding, and its last turn, with the channel of each payload that was
-- sent in it.
pub record EndValue (K R F : Type 0) : Type 0 where
  pub machine : State K
  pub role : R
  pub layers : Layers
  pub filler : F
  pub step : Step
  pub used : ℕ
  pub sent : List (List ℕ)
  pub channels : List (Option ℕ)

-- What an end sends by, where these bytes are put out: at first nothing is listed, and then what it lists.
abbrev pub sending_from : {K R F : Type 0} → EndValue K R F → (bytes : List ℕ) → Sending K F
sending_from e bytes = record { direction = e.machine.kept.sending; filler = e.filler; bytes = bytes; payloads = [] }

abbrev pub sending_to : {K R F : Type 0} → EndValue K R F → (bytes : List ℕ) → Sending K F
sending_to e bytes = record { direction = e.machine.kept.sending; filler = e.filler; bytes = bytes; payloads = e.sent }

-- the means by which a new end sends, after its version line was put out
abbrev pub sending_from_line : {K F : Type 0} → Settings → F → (bytes : List ℕ) → Sending K F
sending_from_line settings filler bytes = record {
  direction = new_direction;
  filler = filler;
  bytes = bytes ++ (settings.line ++ line_end);
  payloads = [];
}

-- whose parts these are
abbrev pub IsOf : {R X S F K : Type 0} → role.Ghosts R X S F K → RoleValue X R → Parties K → Type 0
IsOf ends role p = ends.is_of role.exchange role.own p

-- It put out its version line and its first KEXINIT, with these settings, this cookie and this secret, and its layers are new.
pub record IsNew {K : Type 0} (c : Crypto K) (side : Side) (settings : Settings) (cookie secret : List ℕ) (machine : State K)
    (layers : Layers) (before after : List ℕ) (sent : List (List ℕ)) : Type 0 where
  pub opened : IsOpened c settings side cookie secret machine
      (record { before = before; after = after; payloads_before = []; payloads_after = sent })
  pub authentication : layers.authentication ≡ new_login side settings.tries settings.methods
  pub channels : layers.channels ≡ no_channels

-- Memory was refused, and the end is over, or it was over before and is as it was.
abbrev pub IsFault : {K : Type 0} → State K → Fault → State K → Type 0
IsFault old fault.Memory new = DiesOf old new
IsFault old fault.Dead new = WasDead old new
IsFault old (fault.Ask why) new = ⊥

-- the need for memory of the buffered bytes followed by some of those that came
abbrev pub EndNeedsMemory : {R X S F K : Type 0} → role.Ghosts R X S F K → exchange.Ghosts X S F K → Crypto K →
    EndValue K (RoleValue X R) F → (bytes : List ℕ) → Type 0
EndNeedsMemory ends exchanges c old bytes =
    FrontNeedsMemory (UnitNeedsMemory c exchanges.SIDE (exchanges.does old.role.exchange)
    (exchanges.needs_memory old.role.exchange) (ends.judging old.role.own) old.machine old.layers) (buffered_of old.machine) bytes
