-- A machine of one side, as the role keeps it.
use Rattle.std.specs.Prelude.{◌≡◌, false}
use Rattle.ssh_model.specs.declared.side.Side.{Side}
use Rattle.ssh_transport.specs.Choices.{IsChoosing}
use Rattle.ssh_transport_machine.specs.State.{State}
use Rattle.ssh_transport.specs.Living.{IsLive}

-- It is of this side, and live; and where the peer's next message of an exchange is awaited, there is a choice.
pub record IsStanding {K : Type 0} (side : Side) (s : State K) : Type 0 where
  pub side_is : s.kept.side ≡ side
  pub live : IsLive s
  pub choosing : IsChoosing s.kept

-- That holds until the end is over.
abbrev pub Stands : {K : Type 0} → Side → State K → Type 0
Stands side s = s.kept.dead ≡ false → IsStanding side s
