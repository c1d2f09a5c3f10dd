-- How long a key is that the lengths of a sealing allow.
use Rattle.std.proofs.Common.{◌≡◌, ℕ, Bool, true, false, IsSomeAnd, arith}
use Rattle.divrelca.specs.Parts.AesGcm.{IsKeySize, lengths_by}

pub key_size : (b c : Bool) (i k m : ℕ) → IsSomeAnd (lengths_by b c) (λ n. (i ≡ n.iv) × (k ≡ n.cipher) × (m ≡ n.mac)) → (i ≡ 12) × IsKeySize k
key_size true c i k m h = (h.0, record { from = omega (arith, h.1); to = omega (arith, h.1); whole = omega (arith, h.1) })
key_size false true i k m h = (h.0, record { from = omega (arith, h.1); to = omega (arith, h.1); whole = omega (arith, h.1) })
key_size false false i k m h = absurd h
