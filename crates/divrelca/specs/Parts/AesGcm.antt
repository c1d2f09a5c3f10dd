-- The sealings aes128-gcm@openssh.com and aes256-gcm@openssh.com (RFC 5647 as OpenSSH has it).
use Rattle.std.specs.Prelude.{◌≡◌, ◌≤◌, ℕ, ◌+◌, ◌-◌, ◌%◌, ◌^◌, Bool, true, false, if◌then◌else◌, List, [], ◌∷◌, ◌++◌, length, take, drop, codes, nat_eq, slice_index, Option, Some, None}
use Rattle.std.specs.Int.{w64, from_be_bytes, to_be_bytes}
use Rattle.ciphers.specs.AesGcm.Gcm.{key_of, long_key_of, masked, stream, tag_of}
use Rattle.ciphers.specs.declared.aes_gcm.gcm.KeyParts.{KeyParts}
use Rattle.ssh_model.specs.Protocol.Wire.DataTypes.{is_text}
use Rattle.ssh_model.specs.Protocol.Wire.Packet.{without_length}
use Rattle.ssh_model.specs.Protocol.Wire.Sealing.{Crypto, Lengths, Opened}
use Rattle.divrelca.specs.declared.parts.packet_key.PacketKey.{PacketKey}

-- the last eight bytes of an IV
abbrev pub counter_of : List ℕ → ℕ
counter_of iv = from_be_bytes w64 (slice_index iv 4 ∷ slice_index iv 5 ∷ slice_index iv 6 ∷ slice_index iv 7 ∷ slice_index iv 8 ∷ slice_index iv 9 ∷ slice_index iv 10 ∷ slice_index iv 11 ∷ [])

-- a key of the cipher has 16 or 32 bytes
pub record IsKeySize (n : ℕ) : Type 0 where
  pub from : 16 ≤ n
  pub to : n ≤ 32
  pub whole : n % 16 ≡ 0

-- the key of 16 or of 32 bytes
abbrev pub gcm_key_of : List ℕ → KeyParts
gcm_key_of key = if nat_eq (length key) 32 then long_key_of key else key_of key

-- the key that an IV and a key of the cipher make
abbrev pub made_of : List ℕ → List ℕ → PacketKey
made_of iv key = record { gcm = gcm_key_of key; fixed = slice_index iv 0 ∷ slice_index iv 1 ∷ slice_index iv 2 ∷ slice_index iv 3 ∷ []; counter = counter_of iv }

-- the fixed bytes, and the counter of this packet
abbrev pub nonce : PacketKey → ℕ → List ℕ
nonce key number = slice_index key.fixed 0 ∷ slice_index key.fixed 1 ∷ slice_index key.fixed 2 ∷ slice_index key.fixed 3 ∷ to_be_bytes w64 ((key.counter + number) % 2 ^ 64)

-- a packet with the key stream added after its length
unfoldable pub masked_packet : PacketKey → ℕ → List ℕ → List ℕ
masked_packet key number packet = take 4 packet ++ masked (stream key.gcm (nonce key number)) 16 (drop 4 packet)

-- the tag of the length and the bytes after it
unfoldable pub tag_of_packet : PacketKey → ℕ → List ℕ → List ℕ
tag_of_packet key number packet = tag_of key.gcm (nonce key number) (take 4 packet) (drop 4 packet)

abbrev pub aes_gcm_lengths : ℕ → Lengths
aes_gcm_lengths size = record { iv = 12; cipher = size; mac = 0 }

-- the lengths for the one name, and for the other
abbrev pub lengths_by : Bool → Bool → Option Lengths
lengths_by short long = if short then Some (aes_gcm_lengths 16) else if long then Some (aes_gcm_lengths 32) else None

-- If the tag is bad, nothing is decrypted.
abbrev pub opened_if : Bool → List ℕ → List ℕ → Opened
opened_if good text packet = if good then record { good = true; bytes = text } else record { good = false; bytes = packet }

-- the result of opening an encrypted packet with a tag of 16 bytes
abbrev pub opened_by_tag : PacketKey → ℕ → List ℕ → List ℕ → Opened
opened_by_tag key number packet tag =
    opened_if (is_text tag (tag_of_packet key number packet)) (masked_packet key number packet) packet

abbrev pub with_tag : PacketKey → ℕ → List ℕ → List ℕ
with_tag key number packet = packet ++ tag_of_packet key number packet

abbrev pub aes_gcm : Crypto PacketKey
aes_gcm = record {
  lengths = λ enc mac. lengths_by (is_text enc (codes "aes128-gcm@openssh.com")) (is_text enc (codes "aes256-gcm@openssh.com"));
  made = λ enc mac iv cipher key. made_of iv cipher;
  blocks = λ key. without_length 16;
  tag = λ key. 16;
  sealed = λ key number packet. with_tag key number (masked_packet key number packet);
  opened = λ key number bytes. opened_by_tag key number (take (length bytes - 16) bytes) (drop (length bytes - 16) bytes);
}
