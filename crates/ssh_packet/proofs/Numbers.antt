-- The number of a direction before its first NEWKEYS.
use Rattle.std.proofs.Common.{◌≡◌, ℕ, suc, ◌%◌, ◌^◌, Bool, true, false, List, [], ◌∷◌, length, refl, sym, ap, ◌∙◌}
use Rattle.std.proofs.Math.Nat.{mod-mod}
use Rattle.ssh_model.specs.Protocol.Sessions.Epochs.{count, epoch, wire_number}
use Rattle.ssh_model.specs.Protocol.Sessions.Items.{Payload, Payload.NewkeysOf, Payload.OtherOf}
use Rattle.ssh_packet.specs.Directions.{Direction, SumsUp}

all_counted : (l : List Payload) → epoch l ≡ 0 → count l ≡ length l
all_counted [] none = refl
all_counted (NewkeysOf bytes ∷ l) none = absurd (cc none)
all_counted (OtherOf bytes ∷ l) none = ap suc (all_counted l none)

one_number : (strict : Bool) (l : List Payload) → epoch l ≡ 0 → wire_number strict l % 2 ^ 32 ≡ length l % 2 ^ 32
one_number true l none = ap (λ (n : ℕ). n % 2 ^ 32) (all_counted l none)
one_number false l none = mod-mod (length l) (2 ^ 32)

pub either_way : {K : Type 0} (strict other : Bool) (l : List Payload) (d : Direction K) → epoch l ≡ 0 → SumsUp strict l d → SumsUp other l d
either_way strict other l d none s = record { number_is = s.number_is ∙ one_number strict l none ∙ sym (one_number other l none); count_is = s.count_is; epoch_is = s.epoch_is }
