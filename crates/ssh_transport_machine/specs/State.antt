-- What a machine holds: what a transport keeps, and the partial line or packet of its stream.
use Rattle.std.specs.Prelude.{◌≡◌, ℕ, ◌+◌, ◌-◌, ◌%◌, ◌^◌, Bool, true, false, cond, Option, Some}
use Rattle.std.specs.Prelude.{None, List, []}
use Rattle.ssh_model.specs.Protocol.KeyExchange.Exchanges as session
use Rattle.ssh_model.specs.Protocol.Sessions.Phases as model
use Rattle.ssh_model.specs.State.TransportLayer.Directions.{Direction}
use Rattle.ssh_model.specs.State.TransportLayer.Kept as kept
use Rattle.ssh_model.specs.State.TransportLayer.Kept.{Transport}
use Rattle.ssh_packet.specs.Lines.{Ended, Ended.WithVersion, LineReading}
use Rattle.ssh_packet.specs.Directions.{Receiver}
use Rattle.ssh_transport_machine.specs.declared.machine.material.Material.{Material}
use Rattle.ssh_transport_machine.specs.declared.machine.Phase.{Phase}
use Rattle.ssh_transport_machine.specs.declared.machine.Phase.TheVariants as at

-- where an end stands
abbrev pub phase_of : Phase → model.Phase
phase_of at.Start = model.Phase.Start
phase_of at.Guessed = model.Phase.Guessed
phase_of at.Exchanging = model.Phase.Exchanging
phase_of at.Keying = model.Phase.Keying
phase_of at.Normal = model.Phase.Normal

-- a pair of cookie and secret, where one is kept
abbrev pub material_of : Option Material → Option session.Material
material_of None = None
material_of (Some material) = Some (record { cookie = material.cookie; secret = material.secret })

-- the version line was taken
abbrev pub found_by : Option Ended → Bool
found_by (Some (WithVersion text protoversion software)) = true
found_by _ = false

-- that line
abbrev pub line_by : Option Ended → List ℕ
line_by (Some (WithVersion text protoversion software)) = text
line_by _ = []

-- what a reader of lines took
abbrev pub lines_of : LineReading → kept.Lines
lines_of reading = record { found = found_by reading.ended; line = line_by reading.ended; others = reading.others }

-- the version line of the peer, once it was taken
abbrev pub line_taken : kept.Lines → Option (List ℕ)
line_taken lines = cond lines.found (Some lines.line) None

-- The reader of lines, the receiver of packets, and what the transport keeps: its lines and its direction of taking are
-- those of the readers.
pub record State (K : Type 0) : Type 0 where
  pub reading : LineReading
  pub receiver : Receiver K
  pub kept : Transport K

-- the bytes of the partial line or packet
abbrev pub buffered_of : {K : Type 0} → State K → List ℕ
buffered_of s = cond s.kept.lines.found s.receiver.buffered s.reading.buffered

-- In these phases the peer's part of an exchange is awaited that this end began, or answered.
abbrev pub awaits_exchange : model.Phase → Bool
awaits_exchange model.Phase.Keying = false
awaits_exchange model.Phase.Normal = false
awaits_exchange _ = true

-- a state that is dead
abbrev pub dead_state : {K : Type 0} → State K → State K
dead_state s = record s { kept = record s.kept { dead = true } }

-- the number of the packet that was the last one of a direction
abbrev pub last_number : {K : Type 0} → Direction K → ℕ
last_number direction = (direction.number + (2 ^ 32 - 1)) % 2 ^ 32

-- What was kept before the packet was taken whose payload is shown: a payload is classified by that.
abbrev pub before_taken : {K : Type 0} → Transport K → Transport K
before_taken s = record s { taking = record s.taking { number = last_number s.taking; count = s.taking.count - 1 } }

-- The KEXINIT whose packet was taken is kept, with what it settles.
abbrev pub noted : {K : Type 0} → (wrong strict extensions : Bool) → (payload : List ℕ) → Transport K → Transport K
noted wrong strict extensions payload s = record s {
  phase = cond wrong model.Phase.Guessed model.Phase.Exchanging;
  underway = record s.underway { theirs = payload };
  strict = strict;
  peer_takes_extensions = extensions;
}

-- Lines of the peer are read, as many as are kept.
pub record IsReading {K : Type 0} (s : State K) : Type 0 where
  pub from_peer : s.reading.from_server ≡ model.is_client s.kept.side
  pub others : s.kept.lines.others ≡ s.reading.others
  pub going : s.reading.ended ≡ None
