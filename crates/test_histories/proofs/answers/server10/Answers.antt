use Rattle.std.specs.Prelude.{refl}
use Rattle.ssh_model.specs.Protocol.Sessions.Transport.{TransportAnswer, CompletingAnswer, IsAnnounced, TransportAsk}
use Rattle.ssh_model.specs.Protocol.Authentication.Rows.{AuthenticationAnswer}
use Rattle.ssh_model.specs.Protocol.Channels.Connection.{AreReplies, ConnectionAnswer, ConnectionAsk}
use Rattle.ssh_model.specs.Protocol.Sessions.Turns.{Answer, OnAsk}
use Rattle.test_histories.specs.Words.{Answered}
use Rattle.ssh_model.specs.Protocol.Wire.Message.{Msg.ChannelOpenConfirmation, Msg.ChannelEof, Msg.ChannelRequest}
use Rattle.ssh_model.specs.Protocol.Wire.Message.{Msg.ChannelClose, Msg.ChannelWindowAdjust, Msg.ChannelData}
use Rattle.std.specs.Prelude.{[], codes, false, true}
use Rattle.ssh_model.specs.Protocol.KeyExchange.Choice.{methods}
use Rattle.ssh_model.specs.Protocol.Channels.History.{has_place, some_free}
use Rattle.test_histories.proofs.answers.server10.Goals as goal

pub returns : goal.returns
unfolding methods has_place some_free
returns c = record {
  answered =
      Answered.other refl (
      Answered.other refl (
      Answered.takes refl (Answer.of_transport (TransportAnswer.kexinit_at_server _ refl)) (
      Answered.takes refl (Answer.of_completion (AreReplies.none) (CompletingAnswer.init _ _ _ (IsAnnounced.nothing refl))) (
      Answered.takes refl (Answer.of_transport (TransportAnswer.newkeys)) (
      Answered.takes refl (Answer.of_transport (TransportAnswer.extensions _)) (
      Answered.takes refl (Answer.of_transport (TransportAnswer.service_request _ _)) (
      Answered.takes refl (Answer.of_authentication (AuthenticationAnswer.request_accepted _ _ _ _ refl refl)) (
      Answered.other refl (
      Answered.takes refl (Answer.of_connection (ConnectionAnswer.global _ _ _)) (
      Answered.takes refl (Answer.of_transport (TransportAnswer.answered_at_server _ _ refl)) (
      Answered.takes refl (Answer.of_transport (TransportAnswer.debug _ _ _)) (
      Answered.takes refl (Answer.of_transport (TransportAnswer.unimplemented _)) (
      Answered.takes refl (Answer.of_transport (TransportAnswer.debug _ _ _)) (
      Answered.takes refl (Answer.of_transport (TransportAnswer.ignore _)) (
      Answered.takes refl (Answer.of_completion (AreReplies.none) (CompletingAnswer.init _ _ _ (IsAnnounced.nothing refl))) (
      Answered.asks refl (OnAsk.of_connection (ConnectionAsk.opens _ _ _ _ _ _ refl)) (
      Answered.other refl (
      Answered.asks refl (OnAsk.of_connection (ConnectionAsk.global _ _ _ _)) (
      Answered.asks refl (OnAsk.of_connection (ConnectionAsk.global _ _ _ _)) (
      Answered.takes refl (Answer.of_transport (TransportAnswer.newkeys)) (
      Answered.asks refl (OnAsk.of_connection (ConnectionAsk.opens _ _ _ _ _ _ refl)) (
      Answered.asks refl (OnAsk.of_transport (TransportAsk.rekey _)) (
      Answered.takes {message = ChannelOpenConfirmation 0 5 8 6 []} refl (Answer.of_connection (ConnectionAnswer.confirmation _ _ _ _ _)) (
      Answered.takes {message = ChannelEof 0} refl (Answer.of_connection (ConnectionAnswer.eof _)) (
      Answered.takes refl (Answer.of_transport (TransportAnswer.kexinit_at_server _ refl)) (
      Answered.takes refl (Answer.of_completion (AreReplies.none) (CompletingAnswer.init _ _ _ (IsAnnounced.nothing refl))) (
      Answered.asks refl (OnAsk.of_connection (ConnectionAsk.sends _ _ _)) (
      Answered.takes refl (Answer.of_transport (TransportAnswer.newkeys)) (
      Answered.takes refl (Answer.of_connection (ConnectionAnswer.global_failure)) (
      Answered.other refl (
      Answered.takes refl (Answer.of_transport (TransportAnswer.ignore _)) (
      Answered.takes {message = ChannelRequest 0 (codes "r") false (codes "abc")} refl (Answer.of_connection (ConnectionAnswer.request _ _ _ _)) (
      Answered.asks refl (OnAsk.of_connection (ConnectionAsk.eof _ _)) (
      Answered.takes {message = ChannelClose 0} refl (Answer.of_connection (ConnectionAnswer.close _ (AreReplies.reply _ _ _ (AreReplies.none)))) (
      Answered.asks refl (OnAsk.of_connection (ConnectionAsk.opens _ _ _ _ _ _ refl)) (
      Answered.takes refl (Answer.of_transport (TransportAnswer.answered_at_server _ _ refl)) (
      Answered.takes refl (Answer.of_completion (AreReplies.none) (CompletingAnswer.init _ _ _ (IsAnnounced.nothing refl))) (
      Answered.asks refl (OnAsk.of_connection (ConnectionAsk.global_no _ _)) (
      Answered.asks refl (OnAsk.of_connection (ConnectionAsk.global _ _ _ _)) (
      Answered.takes refl (Answer.of_transport (TransportAnswer.newkeys)) (
      Answered.takes {message = ChannelOpenConfirmation 0 4 6 8 []} refl (Answer.of_connection (ConnectionAnswer.confirmation _ _ _ _ _)) (
      Answered.takes {message = ChannelOpenConfirmation 2 8 5 4 []} refl (Answer.of_connection (ConnectionAnswer.confirmation _ _ _ _ _)) (
      Answered.takes {message = ChannelRequest 0 (codes "r") true (codes "abc")} refl (Answer.of_connection (ConnectionAnswer.request _ _ _ _)) (
      Answered.takes refl (Answer.of_connection (ConnectionAnswer.global_failure)) (
      Answered.asks refl (OnAsk.of_connection (ConnectionAsk.sends _ _ _)) (
      Answered.takes {message = ChannelWindowAdjust 0 7} refl (Answer.of_connection (ConnectionAnswer.adjust _ _)) (
      Answered.takes {message = ChannelRequest 2 (codes "r") false (codes "a")} refl (Answer.of_connection (ConnectionAnswer.request _ _ _ _)) (
      Answered.takes {message = ChannelData 0 (codes "aaaa")} refl (Answer.of_connection (ConnectionAnswer.got_data _ _)) (
      Answered.takes {message = ChannelData 0 []} refl (Answer.of_connection (ConnectionAnswer.got_data _ _)) (
      Answered.takes {message = ChannelEof 0} refl (Answer.of_connection (ConnectionAnswer.eof _)) (
      Answered.takes {message = ChannelWindowAdjust 0 0} refl (Answer.of_connection (ConnectionAnswer.adjust _ _)) (
      Answered.takes refl (Answer.of_transport (TransportAnswer.unimplemented _)) (
      Answered.other refl (
      Answered.takes refl (Answer.of_transport (TransportAnswer.unknown _ _)) (
      Answered.takes {message = ChannelRequest 2 (codes "r") true []} refl (Answer.of_connection (ConnectionAnswer.request _ _ _ _)) (
      Answered.ends))))))))))))))))))))))))))))))))))))))))))))))))))))))));
}
