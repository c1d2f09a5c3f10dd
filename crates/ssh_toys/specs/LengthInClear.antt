-- The sealing `none` with `hmac-sha2-256` in blocks that begin after packet_length.
use Rattle.std.specs.Prelude.{List, ℕ, refl}
use Rattle.std.proofs.Common.{inl}
use Rattle.ssh_model.specs.Protocol.Wire.Packet.{without_length}
use Rattle.ssh_model.specs.Protocol.Wire.Sealing.{Crypto, IsSealing}
use Rattle.ssh_model.specs.Laws.MacOnly.{mac_only, laws_in}

abbrev pub length_in_clear : Crypto (List ℕ)
length_in_clear = record mac_only { blocks = λ key. without_length 8 }

pub length_in_clear_laws : IsSealing length_in_clear
length_in_clear_laws = laws_in (without_length 8) (inl refl)
