-- A nonce belongs to one number under one IV.
use Rattle.std.proofs.Common.{◌≡◌, ℕ, ◌+◌, ◌%◌, ◌^◌, ◌<◌, List, drop, sym, ap, ◌∙◌, arith}
use Rattle.std.proofs.lemmas.Nat.{from_be_bytes-to_be_bytes_8}
use Rattle.std.specs.Int.{w64, from_be_bytes}
use Rattle.divrelca.specs.Parts.AesGcm.{nonce}
use Rattle.divrelca.specs.declared.parts.packet_key.PacketKey.{PacketKey}

pub numbers_same : (key : PacketKey) (m n : ℕ) → m < 2 ^ 32 → n < 2 ^ 32 → nonce key m ≡ nonce key n → m ≡ n
numbers_same key m n p q e =
    let a : ℕ = (key.counter + m) % 2 ^ 64 in
    let b : ℕ = (key.counter + n) % 2 ^ 64 in
    let same : a ≡ b = sym (from_be_bytes-to_be_bytes_8 a (omega arith)) ∙ ap (λ (l : List ℕ). from_be_bytes w64 (drop 4 l)) e ∙ from_be_bytes-to_be_bytes_8 b (omega arith) in
    omega (arith, p, q, same)
