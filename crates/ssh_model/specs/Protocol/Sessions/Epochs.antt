-- Epochs and numbers of a direction, read off its payloads, the newest first (own, if nothing else is said).
use Rattle.std.specs.Prelude.{ℕ, zero, suc, ◌%◌, ◌^◌, Bool, true, false, List, [], ◌∷◌, length}
use Rattle.ssh_model.specs.Protocol.Sessions.Items.{Payload, Payload.NewkeysOf}

-- how many NEWKEYS are among these payloads
abbrev pub epoch : List Payload → ℕ
epoch [] = 0
epoch (NewkeysOf bytes ∷ l) = suc (epoch l)
epoch (_ ∷ l) = epoch l

-- how many payloads come after the last NEWKEYS, or how many there are if there is no NEWKEYS
abbrev pub count : List Payload → ℕ
count [] = 0
count (NewkeysOf bytes ∷ l) = 0
count (_ ∷ l) = suc (count l)

-- The sequence number of the next packet. It begins at zero and grows by one. With strict key exchange it is reset to zero
-- after each NEWKEYS. Without it, it goes on, modulo 2^32 (RFC 4253 section 6.4, OpenSSH's PROTOCOL section 1.9).
abbrev pub wire_number : (strict : Bool) → List Payload → ℕ
wire_number true l = count l
wire_number false l = length l % 2 ^ 32

-- these payloads with this one in front, in a later epoch than the first; nothing in the first
abbrev pub from_epoch : ℕ → Payload → List Payload → List Payload
from_epoch zero p l = []
from_epoch (suc e) p l = p ∷ l

-- the payloads after the first NEWKEYS
abbrev pub after_first : List Payload → List Payload
after_first [] = []
after_first (p ∷ l) = from_epoch (epoch l) p (after_first l)
