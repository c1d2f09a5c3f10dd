use Rattle.ssh_model.proofs.Wire.PacketGaps.{packet_found}
use Rattle.ssh_model.proofs.Wire.Packets.{packet_alone, packet_some, packet_begun}
use Rattle.ssh_model.proofs.Wire.PacketOutcomes.{packet_outcome}
use Rattle.ssh_model.proofs.laws.packet.packet_units.Goals as goal

pub returns : goal.returns
returns g c = record {
  stand_alone = λ k key n t u v w a b laws. packet_alone k key n t u v w a b laws;
  have_one_outcome = λ k key n t u a b laws. packet_outcome k key n t u laws a b;
  have_bytes = λ k key n t a laws. packet_some k key n t a laws;
  come_after_what_is_begun = λ k key n t bytes u v a laws. packet_begun k key n t bytes u v a laws;
  leave_no_gap = λ k key n t bytes laws fits are. packet_found k key n t laws fits bytes are;
}
