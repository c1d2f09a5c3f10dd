-- The two ends of a pair: their states, and their places in a run.
use Rattle.std.specs.Prelude.{◌≡◌, ℕ, Bool, cond, List, []}
use Rattle.ssh_model.specs.State.Channels.Kept.{Channels}
use Rattle.ssh_model.specs.State.End.State.{Authentication, EndState}
use Rattle.ssh_model.specs.Protocol.Sessions.Events.{World, rest_of}
use Rattle.ssh_model.specs.Protocol.Sessions.Items.{Done}
use Rattle.ssh_model.specs.Protocol.Sessions.Parties.{Parties}
use Rattle.ssh_model.specs.Protocol.Sessions.Turns.{Run}
use Rattle.ssh_model.specs.declared.side.Side.{Side}
use Rattle.ssh_model.specs.declared.side.Side.TheVariants.{Client, Server}
use Rattle.ssh_model.specs.Protocol.Side.{part}
use Rattle.ssh_transport_machine.specs.State.{State, buffered_of}
use Rattle.ssh_end_machine.specs.Ends.{EndValue, IsOf}
use Rattle.ssh_end_machine.specs.RoleValues.{RoleValue}
use Rattle.ssh_end_machine.specs.Login.{authentication_of}
use Rattle.ssh_end_machine.specs.Places.{StandsAfter}
use Rattle.ssh_end_machine.specs.Sessions.{AreOf}
use Rattle.ssh_end_machine.specs.declared.role.EndRole as role

-- ---- an end

-- The bytes that the end was given and has not used: a dead end keeps none.
abbrev pub kept_bytes : {K : Type 0} → State K → List ℕ
kept_bytes s = cond s.kept.dead [] (buffered_of s)

-- An end of a pair whatever its role is: when its supplied parts are those of parties, and what it keeps above its
-- transport; its transport; and what it keeps above, as an end of a session.
pub record Standing (K : Type 0) : Type 1 where
  pub parts : Parties K → Type 0
  pub layers : Parties K → Type 0
  pub machine : State K
  pub authentication : Authentication
  pub channels : Channels

-- an end of a role, by the ghost members of the role
abbrev pub standing_of : {R X S F K : Type 0} → role.Ghosts R X S F K → EndValue K (RoleValue X R) F → Standing K
standing_of ends end = record {
  parts = IsOf ends end.role;
  layers = λ p. AreOf p end.layers;
  machine = end.machine;
  authentication = authentication_of end.layers.authentication;
  channels = end.layers.channels;
}

-- the state of an end, as the model has it
abbrev pub state_in : {K : Type 0} → Standing K → EndState K
state_in v = record { transport = v.machine.kept; authentication = v.authentication; channels = v.channels }

-- It stands after its part of a run.
abbrev pub EndStands : {K : Type 0} → Parties K → Side → Standing K → List Done → Type 0
EndStands p side v run = StandsAfter p side (v.parts p) (v.layers p) (part side run) v.machine (state_in v)

-- ---- a pair

-- both ends
pub record Both (K : Type 0) : Type 1 where
  pub client : Standing K
  pub server : Standing K

-- the end of this side
abbrev pub on : {K : Type 0} → Side → Both K → Standing K
on Client pair = pair.client
on Server pair = pair.server

-- both ends, with another one of this side
abbrev pub with_end : {K : Type 0} → Side → Standing K → Both K → Both K
with_end Client v pair = record pair { client = v }
with_end Server v pair = record pair { server = v }

-- Both ends stand in a run of two, with the bytes that each was given and has not used.
pub record PairStands {K : Type 0} (p : Parties K) (w : World) (pair : Both K) : Type 0 where
  pub run : Run p w.run
  pub ends : (side : Side) → EndStands p side (on side pair) w.run
  pub rest : (side : Side) → rest_of w side ≡ kept_bytes (on side pair).machine

-- both ends, and whether a call found no memory
pub record PairState (C S : Type 0) : Type 0 where
  pub client : C
  pub server : S
  pub failed : Bool

-- both ends, by the ghost members of their roles
abbrev pub both : {R X S F Q Y T G K : Type 0} → role.Ghosts R X S F K → role.Ghosts Q Y T G K →
    PairState (EndValue K (RoleValue X R) F) (EndValue K (RoleValue Y Q) G) → Both K
both clients servers pair = record {
  client = standing_of clients pair.client;
  server = standing_of servers pair.server;
}

-- The supplied parts are as before.
pub record SameParts {K R F Q G : Type 0} (old new : PairState (EndValue K R F) (EndValue K Q G)) : Type 0 where
  pub client : new.client.role ≡ old.client.role
  pub server : new.server.role ≡ old.server.role
