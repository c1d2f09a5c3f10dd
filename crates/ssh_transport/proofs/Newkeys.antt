-- NEWKEYS is awaited where it is taken.
use Rattle.std.proofs.Common.{◌≡◌, ℕ, List, ◌++◌, ap, ◌∙◌, subst, true, false}
use Rattle.ssh_model.specs.Protocol.Wire.Message.{Msg, Msg.NewKeys, IsPayload}
use Rattle.ssh_model.specs.Protocol.Sessions.Phases as model
use Rattle.ssh_model.specs.Protocol.Sessions.Turns.{number_of}
use Rattle.ssh_model.specs.State.TransportLayer.Kept.{Transport, takes_in}
use Rattle.ssh_packet.specs.Directions.{newkeys}
use Rattle.ssh_transport_machine.specs.Classifying.{MessageIs, PayloadIs}
use Rattle.ssh_transport_machine.specs.Classifying as classifying
use Rattle.ssh_transport_machine.specs.State.{before_taken}
use Rattle.ssh_transport_machine.specs.declared.machine.classifying.Classified.TheVariants as classified
use Rattle.ssh_transport.proofs.Lifting.{newkeys_awaited}

-- where it is awaited, and its payload
pub record NewkeysShown {K : Type 0} (s : Transport K) (payload : List ℕ) : Type 0 where
  pub phase : s.phase ≡ model.Phase.Keying
  pub payload_is : payload ≡ newkeys

newkeys_payload : (payload : List ℕ) → IsPayload false NewKeys payload → payload ≡ newkeys
newkeys_payload payload x = x.row.parts ∙ (λ i. x.row.first i ++ x.row.second i)

pub newkeys_shown : {K : Type 0} (s : Transport K) (payload : List ℕ) → PayloadIs (before_taken s) payload classified.NewKeys → NewkeysShown s payload
newkeys_shown {K} s payload (classifying.PayloadIs.read message below taken no_guess is so) = go message is so
  where
    go : (message : Msg) → IsPayload false message payload → MessageIs (before_taken s) message classified.NewKeys → NewkeysShown s payload
    go message is (classifying.MessageIs.requested service given) = absurd given
    go message is (classifying.MessageIs.accepted service given) = absurd given
    go message is classifying.MessageIs.newkeys = record {
      phase = newkeys_awaited (before_taken s) s.phase no_guess (subst (λ (n : ℕ). takes_in s.phase (before_taken s) n ≡ true) (ap number_of (newkeys_payload payload is)) taken);
      payload_is = newkeys_payload payload is;
    }
