-- A number that a payload encodes as a uint32 is below 2^32, and so is the number that the sender of an OPEN gives its channel.
use Rattle.std.proofs.Common.{◌≡◌, ℕ, ◌<◌, ◌^◌, Bool, List, [], ◌∷◌, length, arith}
use Rattle.ssh_model.specs.Protocol.Wire.DataTypes.{AreBytes, IsUint32, number}
use Rattle.ssh_model.specs.Protocol.Wire.Message.{Msg.ChannelOpen, IsPayload}

four_below : (n : ℕ) (bytes : List ℕ) → AreBytes bytes → length bytes ≡ 4 → number bytes ≡ n → n < 2 ^ 32
four_below n (a ∷ b ∷ c ∷ d ∷ []) are count value = omega (arith, are.0, are.1.0, are.1.1.0, are.1.1.1.0, value)
four_below n [] are count value = absurd (omega (arith, count))
four_below n (a ∷ []) are count value = absurd (omega (arith, count))
four_below n (a ∷ b ∷ []) are count value = absurd (omega (arith, count))
four_below n (a ∷ b ∷ c ∷ []) are count value = absurd (omega (arith, count))
four_below n (a ∷ b ∷ c ∷ d ∷ e ∷ bytes) are count value = absurd (omega (arith, count))

-- A number that bytes encode as a uint32 is below 2^32.
pub uint32_below : (n : ℕ) (bytes : List ℕ) → IsUint32 n bytes → n < 2 ^ 32
uint32_below n bytes u = four_below n bytes u.are_bytes u.count u.value

-- The number that the sender of an OPEN gives its channel is below 2^32.
pub open_sender_below : {probing : Bool} (kind : List ℕ) (from window max : ℕ) (rest payload : List ℕ) →
    IsPayload probing (ChannelOpen kind from window max rest) payload → from < 2 ^ 32
open_sender_below kind from window max rest payload p =
    let field = p.row.second.second in uint32_below from field.front field.first
