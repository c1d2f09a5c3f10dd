-- The packets of one direction at one end: its key, its numbers and its epochs (RFC 4253 section 6.4, and OpenSSH's
-- PROTOCOL, strict key exchange).
use Rattle.std.specs.Prelude.{◌≡◌, ◌+◌, ◌%◌, ◌^◌, ℕ, Bool, if◌then◌else◌, List, Option}
use Rattle.std.specs.Prelude.{None, Some}
use Rattle.ssh_model.specs.Protocol.Sessions.Items.{Payload}
use Rattle.ssh_model.specs.Protocol.Sessions.Epochs.{count, epoch, wire_number}

-- The key of the direction, the sequence number of its next packet, how many packets went under that key, and how many
-- NEWKEYS went before.
pub record Direction (K : Type 0) : Type 0 where
  pub key : Option K
  pub number : ℕ
  pub count : ℕ
  pub epoch : ℕ

-- Nothing has gone through the direction, and packets are in the clear.
abbrev pub new_direction : {K : Type 0} → Direction K
new_direction = record { key = None; number = 0; count = 0; epoch = 0 }

-- the direction after one more packet
abbrev pub counted : {K : Type 0} → Direction K → Direction K
counted direction = record direction { number = (direction.number + 1) % 2 ^ 32; count = direction.count + 1 }

-- The direction after a NEWKEYS. If key exchange is strict its numbers begin at zero, and otherwise they go on.
abbrev pub renewed : {K : Type 0} → (strict : Bool) → K → Direction K → Direction K
renewed strict key direction = record {
  key = Some key;
  number = if strict then 0 else direction.number;
  count = 0;
  epoch = direction.epoch + 1;
}

-- All of the direction except its key sums up the payloads that went through it, the newest first.
pub record SumsUp {K : Type 0} (strict : Bool) (l : List Payload) (direction : Direction K) : Type 0 where
  pub number_is : direction.number ≡ wire_number strict l % 2 ^ 32
  pub count_is : direction.count ≡ count l
  pub epoch_is : direction.epoch ≡ epoch l
