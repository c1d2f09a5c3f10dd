-- Which payloads a transport sends for the layers above it.
use Rattle.std.specs.Prelude.{◌≡◌, ℕ, ◌≤◌, true, false, List, length}
use Rattle.ssh_model.specs.Protocol.Bounds.{longest_payload}
use Rattle.ssh_model.specs.Protocol.Sessions.AnyLayers.{is_own_number}
use Rattle.ssh_model.specs.Protocol.Sessions.Turns.{number_of}
use Rattle.ssh_model.specs.State.TransportLayer.Kept.{Transport}

-- The payload fits a packet, and its number is none of those of the messages that a transport alone sends. From this end's KEXINIT to its
-- NEWKEYS it is that of UNIMPLEMENTED (RFC 4253 section 7.1).
pub record CanSend {K : Type 0} (s : Transport K) (payload : List ℕ) : Type 0 where
  pub some : 1 ≤ length payload
  pub most : length payload ≤ longest_payload
  pub number : is_own_number (number_of payload) ≡ false
  pub unblocked : s.dead ≡ false → s.blocked ≡ true → number_of payload ≡ 3
