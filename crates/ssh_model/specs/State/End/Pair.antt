-- Two ends, their states, and the world that these sum up (own).
use Rattle.ssh_model.specs.declared.side.Side.{Side}
use Rattle.ssh_model.specs.declared.side.Side.TheVariants.{Client, Server}
use Rattle.ssh_model.specs.Protocol.Side.{part}
use Rattle.ssh_model.specs.Protocol.Sessions.Parties.{Parties}
use Rattle.ssh_model.specs.Protocol.Sessions.Turns.{Run}
use Rattle.ssh_model.specs.Protocol.Sessions.Events.{Event, IsFirst, OnEvent, World}
use Rattle.ssh_model.specs.State.End.State.{EndState}
use Rattle.ssh_model.specs.State.End.Summary.{EndSumsUp}

-- the states of both ends
pub record PairState (K : Type 0) : Type 0 where
  pub client : EndState K
  pub server : EndState K

-- the state of the end of this side
abbrev pub state_of : {K : Type 0} → Side → PairState K → EndState K
state_of Client pair = pair.client
state_of Server pair = pair.server

-- the states of both ends, with this state for the end of this side
abbrev pub with_state : {K : Type 0} → Side → EndState K → PairState K → PairState K
with_state Client e pair = record pair { client = e }
with_state Server e pair = record pair { server = e }

-- The states of both ends sum up this world, to which a run led.
pub record PairSumsUp {K : Type 0} (p : Parties K) (w : World) (pair : PairState K) : Type 0 where
  pub run : Run p w.run
  pub ends : (side : Side) → EndSumsUp p side (part side w.run) (state_of side pair)

-- One event leads to another world, and the states of both ends then sum it up.
pub record PairTurned {K : Type 0} (p : Parties K) (w : World) (event : Event) (next : World)
    (new : PairState K) : Type 0 where
  pub on_event : OnEvent p w event next
  pub sums : PairSumsUp p next new

-- Two ends have opened, nothing has come to them, and their states sum this up.
pub record PairOpened {K : Type 0} (p : Parties K) (w : World) (pair : PairState K) : Type 0 where
  pub first : IsFirst p w
  pub sums : PairSumsUp p w pair
