-- The laws of the sealings aes128-gcm@openssh.com and aes256-gcm@openssh.com.
use Rattle.std.specs.Prelude.{◌≡◌, ℕ, ◌+◌, ◌-◌, ◌≤◌, Bool, true, false, List, ◌++◌, length, take, drop, codes, IfSome, refl}
use Rattle.std.proofs.Common.{inl, inr, ap, sym, ◌∙◌, arith, length-append, length-drop}
use Rattle.std.proofs.Math.Seq.{take-append_seam, drop-append_seam}
use Rattle.std.proofs.lemmas.List.{take-append-le, take-append-drop, length-take-le, take-take}
use Rattle.std.proofs.lemmas.Cmp.{nat_list_eq_equiv}
use Rattle.ssh_model.specs.Protocol.Bounds.{longest_key_material}
use Rattle.ciphers.specs.AesGcm.Gcm.{masked, stream}
use Rattle.ciphers.specs.AesGcm.Masks.{length-masked, length-tag, drop_bytes, masked_bytes, masked_twice, stream_byte, tag_bytes, take_bytes}
use Rattle.ssh_model.specs.Protocol.Wire.DataTypes.{AreBytes, is_text}
use Rattle.ssh_model.specs.Laws.MacOnly.{append_bytes}
use Rattle.ssh_model.specs.Protocol.Wire.Packet.{without_length}
use Rattle.ssh_model.specs.Protocol.Wire.Sealing.{IsSealing}
use Rattle.ssh_packet.specs.Sizes.{size_facts, wire_facts}
use Rattle.divrelca.specs.Parts.AesGcm.{aes_gcm, lengths_by, masked_packet, nonce, opened_if, tag_of_packet}
use Rattle.divrelca.specs.declared.parts.packet_key.PacketKey.{PacketKey}

tag_length : (key : PacketKey) (number : ℕ) (packet : List ℕ) → length (tag_of_packet key number packet) ≡ 16
unfolding tag_of_packet
tag_length key number packet = length-tag key.gcm (nonce key number) (take 4 packet) (drop 4 packet)

masked_length : (key : PacketKey) (number : ℕ) (packet : List ℕ) → 4 ≤ length packet → length (masked_packet key number packet) ≡ length packet
unfolding masked_packet
masked_length key number packet h =
    let f : ℕ → ℕ = stream key.gcm (nonce key number) in
    omega (arith, length-append (take 4 packet) (masked f 16 (drop 4 packet)), length-take-le 4 packet h, length-masked f 16 (drop 4 packet), length-drop 4 packet)

masked_front : (key : PacketKey) (number : ℕ) (packet : List ℕ) → 4 ≤ length packet → take 4 (masked_packet key number packet) ≡ take 4 packet
unfolding masked_packet
masked_front key number packet h =
    let f : ℕ → ℕ = stream key.gcm (nonce key number) in
    take-append-le 4 (take 4 packet) (masked f 16 (drop 4 packet)) (omega (arith, length-take-le 4 packet h)) ∙ take-take 4 4 packet (omega arith)

masked_again : (key : PacketKey) (number : ℕ) (packet : List ℕ) → 4 ≤ length packet → masked_packet key number (masked_packet key number packet) ≡ packet
unfolding masked_packet
masked_again key number packet h =
    let f : ℕ → ℕ = stream key.gcm (nonce key number) in
    let text : List ℕ = masked f 16 (drop 4 packet) in
    let four = length-take-le 4 packet h in
    let following : drop 4 (take 4 packet ++ text) ≡ text = ap (λ (n : ℕ). drop n (take 4 packet ++ text)) (sym four) ∙ drop-append_seam (take 4 packet) text in
    ap (λ (x : List ℕ). x ++ masked f 16 (drop 4 (take 4 packet ++ text))) (masked_front key number packet h)
    ∙ ap (λ (x : List ℕ). take 4 packet ++ masked f 16 x) following
    ∙ ap (λ (x : List ℕ). take 4 packet ++ x) (masked_twice f 16 (drop 4 packet))
    ∙ take-append-drop 4 packet

masked_are_bytes : (key : PacketKey) (number : ℕ) (packet : List ℕ) → AreBytes packet → AreBytes (masked_packet key number packet)
unfolding masked_packet
masked_are_bytes key number packet b =
    append_bytes (take 4 packet) _ (take_bytes 4 packet b)
    (masked_bytes (stream key.gcm (nonce key number)) 16 (drop 4 packet) (stream_byte key.gcm (nonce key number)) (drop_bytes 4 packet b))

tag_are_bytes : (key : PacketKey) (number : ℕ) (packet : List ℕ) → AreBytes (tag_of_packet key number packet)
unfolding tag_of_packet
tag_are_bytes key number packet = tag_bytes key.gcm (nonce key number) (take 4 packet) (drop 4 packet)

-- a packet with its tag, cut before the tag
before_tag : (packet tag : List ℕ) → length tag ≡ 16 → take (length (packet ++ tag) - 16) (packet ++ tag) ≡ packet
before_tag packet tag e =
    let n : length (packet ++ tag) - 16 ≡ length packet = omega (arith, length-append packet tag) in
    ap (λ (k : ℕ). take k (packet ++ tag)) n ∙ take-append_seam packet tag

from_tag : (packet tag : List ℕ) → length tag ≡ 16 → drop (length (packet ++ tag) - 16) (packet ++ tag) ≡ tag
from_tag packet tag e =
    let n : length (packet ++ tag) - 16 ≡ length packet = omega (arith, length-append packet tag) in
    ap (λ (k : ℕ). drop k (packet ++ tag)) n ∙ drop-append_seam packet tag

same_text : (tag : List ℕ) → is_text tag tag ≡ true
same_text tag = nat_list_eq_equiv.refl tag

opens : (key : PacketKey) (number : ℕ) (packet : List ℕ) → 4 ≤ length packet → aes_gcm.opened key number (aes_gcm.sealed key number packet) ≡ record { good = true; bytes = packet }
opens key number packet h =
    let text : List ℕ = masked_packet key number packet in
    let tag : List ℕ = tag_of_packet key number text in
    let e = tag_length key number text in
    rw (before_tag text tag e, from_tag text tag e, same_text tag, masked_again key number packet h) refl

lengths_small : (b c : Bool) → IfSome (lengths_by b c)
    (λ n. (n.iv ≤ longest_key_material) × (n.cipher ≤ longest_key_material) × (n.mac ≤ longest_key_material))
lengths_small true c = (omega arith, omega arith, omega arith)
lengths_small false true = (omega arith, omega arith, omega arith)
lengths_small false false = tt

-- whatever the tag says, opening leaves the length field and the size
opened_front : (b : Bool) (x y z : List ℕ) → take 4 x ≡ z → take 4 y ≡ z → take 4 (opened_if b x y).bytes ≡ z
opened_front true x y z e f = e
opened_front false x y z e f = f

opened_length : (b : Bool) (x y : List ℕ) (n : ℕ) → length x + 16 ≡ n → length y + 16 ≡ n → length (opened_if b x y).bytes + 16 ≡ n
opened_length true x y n e f = e
opened_length false x y n e f = f

pub aes_gcm_laws : IsSealing aes_gcm
aes_gcm_laws = record {
  lengths = λ enc mac. lengths_small (is_text enc (codes "aes128-gcm@openssh.com")) (is_text enc (codes "aes256-gcm@openssh.com"));
  blocks = λ key. inr (inl refl);
  tag = λ key. omega arith;
  opens = λ key number packet n b s. let f = size_facts (without_length 16) 16 (length packet) s in opens key number packet (omega (arith, f.from));
  sealed_front = λ key number packet n b s.
      let f = size_facts (without_length 16) 16 (length packet) s in
      let four : 4 ≤ length packet = omega (arith, f.from) in
      let text : List ℕ = masked_packet key number packet in
      take-append-le 4 text (tag_of_packet key number text) (omega (arith, masked_length key number packet four)) ∙ masked_front key number packet four;
  sealed_length = λ key number packet n b s.
      let f = size_facts (without_length 16) 16 (length packet) s in
      let four : 4 ≤ length packet = omega (arith, f.from) in
      let text : List ℕ = masked_packet key number packet in
      omega (arith, length-append text (tag_of_packet key number text), tag_length key number text, masked_length key number packet four);
  sealed_bytes = λ key number packet n b s.
      let text : List ℕ = masked_packet key number packet in
      append_bytes text (tag_of_packet key number text) (masked_are_bytes key number packet b) (tag_are_bytes key number text);
  opened_front = λ key number bytes n b s.
      let f = wire_facts (without_length 16) 16 (length bytes) s in
      let text : List ℕ = take (length bytes - 16) bytes in
      let size : length text ≡ length bytes - 16 = length-take-le (length bytes - 16) bytes (omega arith) in
      let front : take 4 text ≡ take 4 bytes = take-take 4 (length bytes - 16) bytes (omega (arith, f.1)) in
      opened_front (is_text (drop (length bytes - 16) bytes) (tag_of_packet key number text)) (masked_packet key number text) text (take 4 bytes) (masked_front key number text (omega (arith, size, f.1)) ∙ front) front;
  opened_length = λ key number bytes n b s.
      let f = wire_facts (without_length 16) 16 (length bytes) s in
      let text : List ℕ = take (length bytes - 16) bytes in
      let size : length text ≡ length bytes - 16 = length-take-le (length bytes - 16) bytes (omega arith) in
      opened_length (is_text (drop (length bytes - 16) bytes) (tag_of_packet key number text)) (masked_packet key number text) text (length bytes) (omega (arith, size, f.0, f.1, masked_length key number text (omega (arith, size, f.1)))) (omega (arith, size, f.0, f.1));
}
