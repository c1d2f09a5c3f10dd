-- HMAC-SHA-256 (RFC 2104, RFC 6668), the sealing of encryption `none` with MAC `hmac-sha2-256`, and its laws.
use Rattle.std.specs.Prelude.{◌≡◌, ℕ, zero, suc, ◌+◌, ◌-◌, ◌≤◌, ◌%◌, ◌&&◌, ◌==◌, max, nat_le, Bool, true, false, List}
use Rattle.std.specs.Prelude.{[], ◌∷◌, ◌++◌, length, take, drop, map, replicate, bit_xor, codes, nat_lt, Some, None, IfSome}
use Rattle.std.specs.Prelude.{if◌then◌else◌, refl}
use Rattle.std.proofs.Common.{inl, ap, ◌∙◌, arith, length-append}
use Rattle.std.proofs.Math.Seq.{take-append_seam, drop-append_seam}
use Rattle.std.proofs.lemmas.List.{take-append-le, length-take-le, take-take}
use Rattle.std.proofs.lemmas.Bool.{leb-true, and_parts}
use Rattle.std.proofs.lemmas.Cmp.{nat_list_eq_equiv}
use Rattle.std.specs.Int.{w32, to_be_bytes}
use Rattle.sha2.specs.Sha256.{sha256, digest_bytes}
use Rattle.sha2.proofs.Facts256.{length-sha256}
use Rattle.ssh_model.specs.Protocol.Bounds.{largest_packet, longest_key_material}
use Rattle.ssh_model.specs.Protocol.Wire.DataTypes.{AreBytes, is_text}
use Rattle.ssh_model.specs.Protocol.Wire.Packet.{Blocks, IsBlock, counted, is_size, least_size, with_length}
use Rattle.ssh_model.specs.Protocol.Wire.Sealing.{Crypto, Lengths, Opened, IsSealing, is_wire_size}

-- ---- HMAC over blocks of 64 bytes

-- a key as one block: a longer one is hashed first, and zeros fill the rest
abbrev pub key_block : List ℕ → List ℕ
key_block key =
    let short = if nat_lt 64 (length key) then sha256 key else key in
    short ++ replicate (64 - length short) 0

-- each byte of the block xor the pad
abbrev pub padded : ℕ → List ℕ → List ℕ
padded pad block = map (λ b. bit_xor b pad) block

-- the outer hash, over the block xor 0x5c and the inner hash; the inner hash is over the block xor 0x36 and the text
abbrev pub hmac_under : List ℕ → List ℕ → List ℕ
hmac_under block text = sha256 (padded 0x5c block ++ sha256 (padded 0x36 block ++ text))

-- ---- the sealing

-- The tag of a packet covers its number as a uint32 and all of its bytes (RFC 4253 section 6.4).
abbrev pub tag_of : List ℕ → ℕ → List ℕ → List ℕ
tag_of block number packet = hmac_under block (to_be_bytes w32 number ++ packet)

-- The encryption is "none", and the MAC is "hmac-sha2-256".
abbrev pub is_mac_only : List ℕ → List ℕ → Bool
is_mac_only enc mac = is_text enc (codes "none") && is_text mac (codes "hmac-sha2-256")

-- how many bytes of key material this sealing takes: none for an IV or a cipher, 32 for the MAC
abbrev pub mac_only_lengths : Lengths
mac_only_lengths = record { iv = 0; cipher = 0; mac = 32 }

-- the result of opening a packet and a tag of 32 bytes
abbrev pub opened_by_tag : List ℕ → ℕ → List ℕ → List ℕ → Opened
opened_by_tag block number packet tag = record { good = is_text tag (tag_of block number packet); bytes = packet }

-- A key is the block of the MAC key. Packets stay in clear, and the tag stands after them.
abbrev pub mac_only : Crypto (List ℕ)
mac_only = record {
  lengths = λ enc mac. if is_mac_only enc mac then Some mac_only_lengths else None;
  made = λ enc mac iv cipher key. key_block key;
  blocks = λ key. with_length 8;
  tag = λ key. 32;
  sealed = λ key number packet. packet ++ tag_of key number packet;
  opened = λ key number bytes.
      opened_by_tag key number (take (length bytes - 32) bytes) (drop (length bytes - 32) bytes);
}

-- ---- its laws

-- a packet has at least 12 bytes, whatever the blocks
size_from : (blocks : Blocks) (tag size : ℕ) → is_size blocks tag size ≡ true → 12 ≤ size
size_from blocks tag size h =
    let p = and_parts (counted blocks size % max blocks.size 8 == 0) (nat_le (least_size blocks) size
    && nat_le (size + tag) largest_packet) h in
    let q = and_parts (nat_le (least_size blocks) size) (nat_le (size + tag) largest_packet) p.1 in
    let low : least_size blocks ≤ size = leb-true (least_size blocks) size q.0 in
    let some : 12 ≤ least_size blocks = twelve blocks.counts_length blocks.size in
    omega (arith, low, some)
  where
    twelve : (b : Bool) (n : ℕ) → 12 ≤ (if b then max 16 n else 4 + max 8 n)
    twelve true n = omega arith
    twelve false n = omega arith

-- A packet with its tag has at least 12 bytes besides the tag.
wire_from : (blocks : Blocks) (tag size : ℕ) → is_wire_size blocks tag size ≡ true → (tag ≤ size) × (12 ≤ size - tag)
wire_from blocks tag size h =
    let p = and_parts (nat_le tag size) (is_size blocks tag (size - tag)) h in
    (leb-true tag size p.0, size_from blocks tag (size - tag) p.1)

tag_length : (key : List ℕ) (number : ℕ) (packet : List ℕ) → length (tag_of key number packet) ≡ 32
tag_length key number packet = length-sha256 _

-- a packet with its tag, cut before the tag
before_tag : (packet tag : List ℕ) → length tag ≡ 32 → take (length (packet ++ tag) - 32) (packet ++ tag) ≡ packet
before_tag packet tag e =
    let n : length (packet ++ tag) - 32 ≡ length packet = omega (arith, length-append packet tag) in
    ap (λ (k : ℕ). take k (packet ++ tag)) n ∙ take-append_seam packet tag

from_tag : (packet tag : List ℕ) → length tag ≡ 32 → drop (length (packet ++ tag) - 32) (packet ++ tag) ≡ tag
from_tag packet tag e =
    let n : length (packet ++ tag) - 32 ≡ length packet = omega (arith, length-append packet tag) in
    ap (λ (k : ℕ). drop k (packet ++ tag)) n ∙ drop-append_seam packet tag

same_text : (tag : List ℕ) → is_text tag tag ≡ true
same_text tag = nat_list_eq_equiv.refl tag

opens : (key : List ℕ) (number : ℕ) (packet : List ℕ) →
    mac_only.opened key number (mac_only.sealed key number packet) ≡ record { good = true; bytes = packet }
opens key number packet =
    let tag : List ℕ = tag_of key number packet in
    let e = tag_length key number packet in
    rw (before_tag packet tag e, from_tag packet tag e, same_text tag) refl

lengths_small : (b : Bool) →
    IfSome (if b then Some mac_only_lengths else None)
    (λ n. (n.iv ≤ longest_key_material) × (n.cipher ≤ longest_key_material) × (n.mac ≤ longest_key_material))
lengths_small true = (omega arith, omega arith, omega arith)
lengths_small false = tt

-- ---- bytes

-- Bytes followed by bytes are bytes.
pub append_bytes : (a b : List ℕ) → AreBytes a → AreBytes b → AreBytes (a ++ b)
append_bytes [] b p q = q
append_bytes (x ∷ a) b p q = (p.0, append_bytes a b p.1 q)

-- the four bytes of a uint32 are below 256
pub word_bytes : (n : ℕ) → AreBytes (to_be_bytes w32 n)
word_bytes n = (omega arith, (omega arith, (omega arith, (omega arith, tt))))

digest_are : (h : List ℕ) (n : ℕ) → AreBytes (digest_bytes h n)
unfolding digest_bytes
digest_are h zero = tt
digest_are h (suc n) = append_bytes (digest_bytes h n) _ (digest_are h n) (word_bytes _)

-- The bytes of a hash are below 256.
pub hash_bytes : (text : List ℕ) → AreBytes (sha256 text)
unfolding sha256
hash_bytes text = digest_are _ 8

-- The laws hold whatever the blocks are.
pub laws_in : (blocks : Blocks) → IsBlock blocks.size → IsSealing (record mac_only { blocks = λ key. blocks })
laws_in blocks is = record {
  lengths = λ enc mac. lengths_small (is_mac_only enc mac);
  blocks = λ key. is;
  tag = λ key. omega arith;
  opens = λ key number packet n b s. opens key number packet;
  sealed_front = λ key number packet n b s.
      take-append-le 4 packet (tag_of key number packet) (let f = size_from blocks 32 (length packet) s in omega arith);
  sealed_length = λ key number packet n b s.
      length-append packet (tag_of key number packet)
      ∙ ap (λ (k : ℕ). length packet + k) (tag_length key number packet);
  sealed_bytes = λ key number packet n b s. append_bytes packet (tag_of key number packet) b (hash_bytes _);
  opened_front = λ key number bytes n b s.
      take-take 4 (length bytes - 32) bytes (let f = wire_from blocks 32 (length bytes) s in omega arith);
  opened_length = λ key number bytes n b s.
      let f = wire_from blocks 32 (length bytes) s in
      omega (arith, length-take-le (length bytes - 32) bytes (omega arith));
}

-- With blocks of 8 bytes, this sealing keeps the laws.
pub mac_only_laws : IsSealing mac_only
mac_only_laws = laws_in (with_length 8) (inl refl)
