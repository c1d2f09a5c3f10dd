-- The refusals of lines and of packets, as refusals of a session.
use Rattle.ssh_model.specs.declared.refusal.Refusal.TheVariants as refusals
use Rattle.ssh_model.specs.declared.refusal.Refusal.{Refusal}
use Rattle.ssh_packet.specs.declared.refusal.PacketRefusal.{PacketRefusal}
use Rattle.ssh_packet.specs.declared.refusal.PacketRefusal.TheVariants.{BadLength, BadPadding, BadTag}
use Rattle.ssh_packet.specs.declared.refusal.LineRefusal.{LineRefusal}
use Rattle.ssh_packet.specs.declared.refusal.LineRefusal.TheVariants.{BadLine, BadVersion}

abbrev pub packet_refusal : PacketRefusal → Refusal
packet_refusal BadLength = refusals.BadLength
packet_refusal BadPadding = refusals.BadPadding
packet_refusal BadTag = refusals.BadTag

abbrev pub line_refusal : LineRefusal → Refusal
line_refusal BadLine = refusals.BadLine
line_refusal BadVersion = refusals.BadVersion
