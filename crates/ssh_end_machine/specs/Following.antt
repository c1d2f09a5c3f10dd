-- The state of an end's user besides that of its transport, and the messages that the end may send now.
use Rattle.std.specs.Prelude.{◌≡◌, true, false, Result, Ok, Err}
use Rattle.ssh_model.specs.Protocol.Sessions.AnyLayers.{is_own_number}
use Rattle.ssh_model.specs.Protocol.Wire.Message.{Msg, message_number}
use Rattle.ssh_model.specs.State.Authentication.Kept as authentication
use Rattle.ssh_model.specs.State.TransportLayer.Kept.{Transport}
use Rattle.ssh_model.specs.declared.refusal.Refusal.{Refusal}
use Rattle.ssh_model.specs.declared.side.Side.{Side}
use Rattle.ssh_transport_machine.specs.State.{State}
use Rattle.ssh_end_machine.specs.Above.{after_success_where}
use Rattle.ssh_end_machine.specs.Login.{side_of}
use Rattle.ssh_end_machine.specs.declared.replying.ServiceReply.{ServiceReply}
use Rattle.ssh_end_machine.specs.declared.layers.login.Login.{Login}
use Rattle.ssh_end_machine.specs.declared.layers.login.Login.TheVariants as login

-- The client's user is let in if its transport says so, and authentication is open only if the service was granted.
pub record ClientFollows {K : Type 0} (s : Transport K) (client : authentication.Client) : Type 0 where
  pub let_in : s.authenticated ≡ true → client.authenticated ≡ true
  pub granted : client.opened ≡ true → s.accepted ≡ true

-- Authentication follows its transport.
abbrev pub Follows : {K : Type 0} → Transport K → Login → Type 0
Follows s (login.Server server) = s.authenticated ≡ true → server.kept.authenticated ≡ true
Follows s (login.Client client) = ClientFollows s client

-- It does so until the end is over.
abbrev pub FollowsOn : {K : Type 0} → State K → Login → Type 0
FollowsOn m kept = m.kept.dead ≡ false → Follows m.kept kept

-- The state of an end's user is that of its side, and follows its transport.
pub record HasLogin {K : Type 0} (side : Side) (m : State K) (kept : Login) : Type 0 where
  pub side_is : side_of kept ≡ side
  pub follows : FollowsOn m kept

-- Authentication will follow its transport after the judged answer is sent.
abbrev pub FollowsThen : {K : Type 0} → State K → Result ServiceReply Refusal → Login → Type 0
FollowsThen m (Ok above) kept = Follows (after_success_where above.success m.kept) kept
FollowsThen m (Err why) kept = Unit {0}

-- Where the end is blocked its user is authenticated. It holds of a transport that handed a payload to the layers above it.
abbrev pub LetsIn : {K : Type 0} → State K → Type 0
LetsIn m = m.kept.blocked ≡ true → m.kept.authenticated ≡ true

-- A message of a layer above may go: a transport does not send it by itself, and while the end is blocked it is UNIMPLEMENTED.
pub record MayGo {K : Type 0} (s : Transport K) (message : Msg) : Type 0 where
  pub number : is_own_number (message_number message) ≡ false
  pub unblocked : s.dead ≡ false → s.blocked ≡ true → message_number message ≡ 3
