-- What holds of a machine until it is over.
use Rattle.std.specs.Prelude.{◌≡◌, ◌+◌, ◌≤◌, true, false, None, is_some}
use Rattle.ssh_model.specs.Protocol.Bounds.{most_exchanges}
use Rattle.ssh_model.specs.Protocol.Sessions.Phases as model
use Rattle.ssh_model.specs.State.TransportLayer.Kept.{Transport}
use Rattle.ssh_model.specs.State.TransportLayer.Summary.{bit, is_keying}
use Rattle.ssh_transport_machine.specs.State.{IsReading, State, awaits_exchange}

-- The key with which the epoch after NEWKEYS begins is there, an exchange is under way where the peer's part of it is
-- awaited, and no epoch is beyond the pairs of cookie and secret that were fed. After the first one this end begins an exchange
-- only once the user is authenticated: outside an exchange, and where the service was granted.
pub record IsKeptLive {K : Type 0} (s : Transport K) : Type 0 where
  pub pending : s.phase ≡ model.Phase.Keying → s.pending ≡ None → ⊥
  pub blocked : awaits_exchange s.phase ≡ true → s.blocked ≡ true
  pub taken_epochs : s.taking.epoch + bit (is_keying s.phase) ≤ s.sending.epoch
  pub sent_epochs : s.sending.epoch + (bit s.blocked + bit (is_some s.material)) ≤ s.fed
  pub fed : s.fed ≤ most_exchanges
  pub begun : awaits_exchange s.phase ≡ false → s.blocked ≡ true → s.authenticated ≡ true
  pub granted : s.accepted ≡ true → s.blocked ≡ true → s.authenticated ≡ true

-- What holds of a machine that is not over: its readers go on, and are those of what it keeps.
pub record IsLive {K : Type 0} (s : State K) : Type 0 where
  pub lines : s.kept.lines.found ≡ false → IsReading s
  pub taking : s.kept.taking ≡ s.receiver.direction
  pub receiving : s.receiver.ended ≡ None
  pub kept : IsKeptLive s.kept
