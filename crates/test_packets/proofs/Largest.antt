-- The largest payloads, whose packets have 35,000 bytes.
use Rattle.std.proofs.Common.{◌≡◌, ℕ, ◌≤◌, refl, sym, subst}
use Rattle.std.proofs.lemmas.Bool.{leb-true}
use Rattle.ssh_model.specs.Protocol.Wire.Packet.{with_length}
use Rattle.ssh_packet.specs.Writing.{packet_size}

pub sealed_fits : (n : ℕ) → n ≡ 34959 → packet_size (with_length 8) 32 n ≤ 35000
sealed_fits n e = subst (λ (k : ℕ). packet_size (with_length 8) 32 k ≤ 35000) (sym e) (leb-true (packet_size (with_length 8) 32 34959) 35000 refl)

pub clear_fits : (n : ℕ) → n ≡ 34991 → packet_size (with_length 8) 0 n ≤ 35000
clear_fits n e = subst (λ (k : ℕ). packet_size (with_length 8) 0 k ≤ 35000) (sym e) (leb-true (packet_size (with_length 8) 0 34991) 35000 refl)
