-- While numbers are left, the number of the next packet is the count of those that went under the key.
use Rattle.std.proofs.Common.{◌≡◌, ℕ, ◌<◌, ◌%◌, ◌^◌, List, subst, ◌∙◌}
use Rattle.std.specs.Prelude.{Some}
use Rattle.std.proofs.Math.Nat.{mod-eq_of_lt}
use Rattle.ssh_model.specs.Laws.MacOnly.{mac_only}
use Rattle.ssh_model.specs.Protocol.Wire.Outcome.{Outcome}
use Rattle.ssh_model.specs.Laws.Reading.{Writes}
use Rattle.ssh_model.specs.Protocol.Wire.Sealing.{IsBadPadding, IsBadTag, IsSealed, IsWire}
use Rattle.ssh_model.specs.Protocol.Wire.Unit.{PacketUnit, PacketUnit.opens, PacketUnit.bad_length, PacketUnit.spent, PacketUnit.bad_tag, PacketUnit.bad_padding}

next_is : (number count : ℕ) → number ≡ count % 2 ^ 32 → count < 2 ^ 32 → number ≡ count
next_is number count e left = e ∙ mod-eq_of_lt left

pub unit_of : (key : List ℕ) (number count : ℕ) (unit : List ℕ) (outcome : Outcome) → number ≡ count % 2 ^ 32 → PacketUnit mac_only (Some key) number count unit outcome → PacketUnit mac_only (Some key) count count unit outcome
unit_of key number count unit _ e (opens payload has are wire) = opens payload (has.0, has.0) are (subst (λ (n : ℕ). IsWire mac_only (Some key) n payload unit) (next_is number count e has.0) wire)
unit_of key number count unit _ e (bad_length b) = bad_length b
unit_of key number count unit _ e (spent size all four has) = spent size all four has
unit_of key number count unit _ e (bad_tag has are b) = bad_tag (has.0, has.0) are (subst (λ (n : ℕ). IsBadTag mac_only (Some key) n unit) (next_is number count e has.0) b)
unit_of key number count unit _ e (bad_padding has are b) = bad_padding (has.0, has.0) are (subst (λ (n : ℕ). IsBadPadding mac_only (Some key) n unit) (next_is number count e has.0) b)

pub sealed_as : (key payload before after : List ℕ) (number count : ℕ) → number ≡ count % 2 ^ 32 → count < 2 ^ 32 → Writes (IsSealed mac_only (Some key) number payload) before after →
    Writes (IsSealed mac_only (Some key) count payload) before after
sealed_as key payload before after number count e left w = subst (λ (n : ℕ). Writes (IsSealed mac_only (Some key) n payload) before after) (next_is number count e left) w
