-- The state of a reader of packets, and the result of one call of it.
use Rattle.std.specs.Prelude.{◌≡◌, ℕ, List, [], Option, None, Some}
use Rattle.ssh_model.specs.Protocol.Wire.Sealing.{Crypto, IsWire, IsBadLength, IsBadTag, IsBadPadding, blocks_under, tag_under}
use Rattle.ssh_model.specs.Laws.Units.{IsPartial}
use Rattle.ssh_packet.specs.declared.refusal.PacketRefusal.{PacketRefusal}
use Rattle.ssh_packet.specs.declared.refusal.PacketRefusal.TheVariants.{BadLength, BadPadding, BadTag}
use Rattle.ssh_packet.specs.declared.step.PacketStep.{PacketStep}
use Rattle.ssh_packet.specs.declared.step.PacketStep.TheVariants.{Payload, More, Refused}

-- the bytes of the partial packet, the payload that is shown, and the refusal that stays
pub record Reading : Type 0 where
  pub rest : List ℕ
  pub payload : List ℕ
  pub refused : Option PacketRefusal

-- a reader that has buffered no byte and shows no payload
abbrev pub empty : Reading
empty = record { rest = []; payload = []; refused = None }

-- The bytes are refused for this reason, under the key and the number.
abbrev pub IsRefused : {K : Type 0} → Crypto K → Option K → ℕ → PacketRefusal → List ℕ → Type 0
IsRefused c key number BadLength bytes = IsBadLength (blocks_under c key) (tag_under c key) bytes
IsRefused c key number BadPadding bytes = IsBadPadding c key number bytes
IsRefused c key number BadTag bytes = IsBadTag c key number bytes

-- The result of a reader that held the beginning of these bytes, after it used them all.
abbrev pub Finds : {K : Type 0} → Crypto K → Option K → ℕ → List ℕ → PacketStep PacketRefusal → Reading → Type 0
Finds c key number bytes Payload new = IsWire c key number new.payload bytes × (new ≡ record empty { payload = new.payload })
Finds c key number bytes More new = IsPartial (blocks_under c key) (tag_under c key) bytes × (new ≡ record empty { rest = bytes })
Finds c key number bytes (Refused refusal) new = IsRefused c key number refusal bytes × (new ≡ record empty { refused = Some refusal })
