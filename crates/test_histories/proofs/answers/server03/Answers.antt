use Rattle.std.specs.Prelude.{refl}
use Rattle.ssh_model.specs.Protocol.Sessions.Transport.{TransportAnswer, CompletingAnswer, IsAnnounced, TransportAsk}
use Rattle.ssh_model.specs.Protocol.Authentication.Rows.{AuthenticationAnswer}
use Rattle.ssh_model.specs.Protocol.Channels.Connection.{AreReplies, ConnectionAnswer, ConnectionAsk}
use Rattle.ssh_model.specs.Protocol.Sessions.Turns.{Answer, OnAsk}
use Rattle.test_histories.specs.Words.{Answered}
use Rattle.ssh_model.specs.Protocol.Wire.Message.{Msg.ChannelExtendedData, Msg.ChannelData}
use Rattle.std.specs.Prelude.{codes}
use Rattle.ssh_model.specs.Protocol.KeyExchange.Choice.{methods}
use Rattle.ssh_model.specs.Protocol.Channels.History.{has_place, some_free}
use Rattle.test_histories.proofs.answers.server03.Goals as goal

pub returns : goal.returns
unfolding methods has_place some_free
returns c = record {
  answered =
      Answered.other refl (
      Answered.other refl (
      Answered.takes refl (Answer.of_transport (TransportAnswer.ignore _)) (
      Answered.takes refl (Answer.of_transport (TransportAnswer.ignore _)) (
      Answered.takes refl (Answer.of_transport (TransportAnswer.kexinit_at_server _ refl)) (
      Answered.takes refl (Answer.of_completion (AreReplies.none) (CompletingAnswer.init _ _ _ (IsAnnounced.extensions _ refl))) (
      Answered.takes refl (Answer.of_transport (TransportAnswer.debug _ _ _)) (
      Answered.takes refl (Answer.of_transport (TransportAnswer.newkeys)) (
      Answered.takes refl (Answer.of_transport (TransportAnswer.ignore _)) (
      Answered.takes refl (Answer.of_transport (TransportAnswer.unknown _ _)) (
      Answered.takes refl (Answer.of_transport (TransportAnswer.debug _ _ _)) (
      Answered.takes refl (Answer.of_transport (TransportAnswer.service_request _ _)) (
      Answered.takes refl (Answer.of_authentication (AuthenticationAnswer.request_failed _ _ _ _ refl refl)) (
      Answered.takes refl (Answer.of_authentication (AuthenticationAnswer.request_failed _ _ _ _ refl refl)) (
      Answered.takes refl (Answer.of_authentication (AuthenticationAnswer.request_probed _ _ _ _ _ refl refl)) (
      Answered.takes refl (Answer.of_transport (TransportAnswer.ignore _)) (
      Answered.takes refl (Answer.of_transport (TransportAnswer.ignore _)) (
      Answered.takes refl (Answer.of_authentication (AuthenticationAnswer.request_accepted _ _ _ _ refl refl)) (
      Answered.takes refl (Answer.of_connection (ConnectionAnswer.opened _ _ _ _ _ _ refl)) (
      Answered.refused refl (
      Answered.takes refl (Answer.of_connection (ConnectionAnswer.opened _ _ _ _ _ _ refl)) (
      Answered.takes refl (Answer.of_authentication (AuthenticationAnswer.request_too_late _ _ _ refl)) (
      Answered.takes refl (Answer.of_transport (TransportAnswer.unknown _ _)) (
      Answered.takes refl (Answer.of_connection (ConnectionAnswer.opened _ _ _ _ _ _ refl)) (
      Answered.takes refl (Answer.of_connection (ConnectionAnswer.global _ _ _)) (
      Answered.other refl (
      Answered.refused refl (
      Answered.takes refl (Answer.of_transport (TransportAnswer.unknown _ _)) (
      Answered.asks refl (OnAsk.of_transport (TransportAsk.rekey _)) (
      Answered.other refl (
      Answered.takes refl (Answer.of_transport (TransportAnswer.kexinit_at_server _ refl)) (
      Answered.takes refl (Answer.of_completion (AreReplies.none) (CompletingAnswer.init _ _ _ (IsAnnounced.nothing refl))) (
      Answered.asks refl (OnAsk.of_connection (ConnectionAsk.confirm _ _ _ _ _)) (
      Answered.asks refl (OnAsk.of_connection (ConnectionAsk.request _ _ _ _ _)) (
      Answered.takes refl (Answer.of_transport (TransportAnswer.ignore _)) (
      Answered.asks refl (OnAsk.of_connection (ConnectionAsk.global _ _ _ _)) (
      Answered.asks refl (OnAsk.of_connection (ConnectionAsk.sends _ _ _)) (
      Answered.takes refl (Answer.of_transport (TransportAnswer.newkeys)) (
      Answered.takes refl (Answer.of_transport (TransportAnswer.unimplemented _)) (
      Answered.refused refl (
      Answered.takes refl (Answer.of_transport (TransportAnswer.debug _ _ _)) (
      Answered.asks refl (OnAsk.of_connection (ConnectionAsk.sends_extended _ _ _ _)) (
      Answered.takes refl (Answer.of_transport (TransportAnswer.answered_at_server _ _ refl)) (
      Answered.takes refl (Answer.of_transport (TransportAnswer.unimplemented _)) (
      Answered.other refl (
      Answered.takes refl (Answer.of_transport (TransportAnswer.unimplemented _)) (
      Answered.refused refl (
      Answered.takes refl (Answer.of_transport (TransportAnswer.debug _ _ _)) (
      Answered.takes refl (Answer.of_completion (AreReplies.none) (CompletingAnswer.init _ _ _ (IsAnnounced.nothing refl))) (
      Answered.asks refl (OnAsk.of_connection (ConnectionAsk.confirm _ _ _ _ _)) (
      Answered.takes refl (Answer.of_transport (TransportAnswer.newkeys)) (
      Answered.takes {message = ChannelExtendedData 0 1 (codes "aaaaaa")} refl (Answer.of_connection (ConnectionAnswer.got_extended _ _ _)) (
      Answered.refused refl (
      Answered.takes {message = ChannelData 1 (codes "a")} refl (Answer.of_connection (ConnectionAnswer.got_data _ _)) (
      Answered.refused refl (
      Answered.takes {message = ChannelData 1 (codes "aaaa")} refl (Answer.of_connection (ConnectionAnswer.got_data _ _)) (
      Answered.ends))))))))))))))))))))))))))))))))))))))))))))))))))))))));
}
