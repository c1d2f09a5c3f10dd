-- The bytes of a payload, by which an ask may be too long (own).
use Rattle.std.specs.Prelude.{ℕ, ◌+◌, Bool, nat_lt, List, length, codes}
use Rattle.ssh_model.specs.Protocol.Bounds.{longest_payload}

-- the bytes of a string in a payload
abbrev pub string_size : List ℕ → ℕ
string_size text = 4 + length text

-- A payload of this size is too long for a packet.
abbrev pub is_too_long : ℕ → Bool
is_too_long size = nat_lt longest_payload size

-- the bytes of a request for authentication up to its method name
abbrev pub request_size : (user method : List ℕ) → ℕ
request_size user method = 1 + string_size user + string_size (codes "ssh-connection") + string_size method
