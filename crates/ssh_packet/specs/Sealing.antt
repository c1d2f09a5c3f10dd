-- The lengths of key material as the definitions have them.
use Rattle.ssh_model.specs.Protocol.Wire.Sealing as seal
use Rattle.ssh_packet.specs.declared.sealing.Lengths.{Lengths}

abbrev pub lengths_of : Lengths → seal.Lengths
lengths_of n = record { iv = n.iv; cipher = n.cipher; mac = n.mac }
