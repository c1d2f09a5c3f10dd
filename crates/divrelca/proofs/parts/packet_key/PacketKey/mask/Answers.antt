use Rattle.std.proofs.Common.{refl}
use Rattle.divrelca.specs.Parts.AesGcm.{masked_packet}
use Rattle.divrelca.proofs.parts.packet_key.PacketKey.mask.Goals as goal

pub returns : goal.returns
unfolding masked_packet
returns c = rw (c.mask_after_length.ensures, c.nonce.ensures) refl
