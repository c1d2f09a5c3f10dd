use Rattle.std.specs.Prelude.{refl}
use Rattle.ssh_model.specs.Protocol.Sessions.Transport.{TransportAnswer, CompletingAnswer, IsAnnounced, TransportAsk}
use Rattle.ssh_model.specs.Protocol.Authentication.Rows.{AuthenticationAnswer}
use Rattle.ssh_model.specs.Protocol.Channels.Connection.{AreReplies, ConnectionAnswer, ConnectionAsk}
use Rattle.ssh_model.specs.Protocol.Sessions.Turns.{Answer, OnAsk}
use Rattle.test_histories.specs.Words.{Answered}
use Rattle.ssh_model.specs.Protocol.Wire.Message.{Msg.ChannelOpenConfirmation, Msg.ChannelRequest, Msg.ChannelWindowAdjust}
use Rattle.ssh_model.specs.Protocol.Wire.Message.{Msg.ChannelData, Msg.ChannelClose, Msg.ChannelEof}
use Rattle.std.specs.Prelude.{[], codes, false}
use Rattle.ssh_model.specs.Protocol.KeyExchange.Choice.{methods}
use Rattle.ssh_model.specs.Protocol.Channels.History.{has_place, some_free}
use Rattle.test_histories.proofs.answers.server01.Goals as goal

pub returns : goal.returns
unfolding methods has_place some_free
returns c = record {
  answered =
      Answered.other refl (
      Answered.other refl (
      Answered.takes refl (Answer.of_transport (TransportAnswer.kexinit_at_server _ refl)) (
      Answered.other refl (
      Answered.takes refl (Answer.of_completion (AreReplies.none) (CompletingAnswer.init _ _ _ (IsAnnounced.extensions _ refl))) (
      Answered.takes refl (Answer.of_transport (TransportAnswer.newkeys)) (
      Answered.takes refl (Answer.of_transport (TransportAnswer.unimplemented _)) (
      Answered.takes refl (Answer.of_transport (TransportAnswer.unknown _ _)) (
      Answered.takes refl (Answer.of_transport (TransportAnswer.service_request _ _)) (
      Answered.takes refl (Answer.of_transport (TransportAnswer.debug _ _ _)) (
      Answered.takes refl (Answer.of_authentication (AuthenticationAnswer.request_accepted _ _ _ _ refl refl)) (
      Answered.asks refl (OnAsk.of_connection (ConnectionAsk.opens _ _ _ _ _ _ refl)) (
      Answered.asks refl (OnAsk.of_connection (ConnectionAsk.opens _ _ _ _ _ _ refl)) (
      Answered.asks refl (OnAsk.of_connection (ConnectionAsk.opens _ _ _ _ _ _ refl)) (
      Answered.takes {message = ChannelOpenConfirmation 2 2 10 7 []} refl (Answer.of_connection (ConnectionAnswer.confirmation _ _ _ _ _)) (
      Answered.takes {message = ChannelRequest 2 (codes "r") false (codes "a")} refl (Answer.of_connection (ConnectionAnswer.request _ _ _ _)) (
      Answered.takes {message = ChannelOpenConfirmation 0 7 7 7 []} refl (Answer.of_connection (ConnectionAnswer.confirmation _ _ _ _ _)) (
      Answered.takes {message = ChannelWindowAdjust 0 7} refl (Answer.of_connection (ConnectionAnswer.adjust _ _)) (
      Answered.refused refl (
      Answered.takes {message = ChannelData 2 (codes "a")} refl (Answer.of_connection (ConnectionAnswer.got_data _ _)) (
      Answered.asks refl (OnAsk.of_connection (ConnectionAsk.adjust _ _ _)) (
      Answered.takes {message = ChannelClose 2} refl (Answer.of_connection (ConnectionAnswer.close _ (AreReplies.reply _ _ _ (AreReplies.none)))) (
      Answered.takes {message = ChannelRequest 0 (codes "r") false (codes "a")} refl (Answer.of_connection (ConnectionAnswer.request _ _ _ _)) (
      Answered.takes {message = ChannelClose 0} refl (Answer.of_connection (ConnectionAnswer.close _ (AreReplies.reply _ _ _ (AreReplies.none)))) (
      Answered.takes {message = ChannelOpenConfirmation 1 8 8 5 []} refl (Answer.of_connection (ConnectionAnswer.confirmation _ _ _ _ _)) (
      Answered.other refl (
      Answered.takes refl (Answer.of_connection (ConnectionAnswer.opened _ _ _ _ _ _ refl)) (
      Answered.asks refl (OnAsk.of_transport (TransportAsk.rekey _)) (
      Answered.takes refl (Answer.of_transport (TransportAnswer.debug _ _ _)) (
      Answered.refused refl (
      Answered.takes {message = ChannelWindowAdjust 1 0} refl (Answer.of_connection (ConnectionAnswer.adjust _ _)) (
      Answered.refused refl (
      Answered.takes refl (Answer.of_transport (TransportAnswer.kexinit_at_server _ refl)) (
      Answered.takes refl (Answer.of_transport (TransportAnswer.unimplemented _)) (
      Answered.takes refl (Answer.of_completion (AreReplies.none) (CompletingAnswer.init _ _ _ (IsAnnounced.nothing refl))) (
      Answered.asks refl (OnAsk.of_connection (ConnectionAsk.eof _ _)) (
      Answered.other refl (
      Answered.takes refl (Answer.of_transport (TransportAnswer.newkeys)) (
      Answered.takes {message = ChannelData 1 (codes "a")} refl (Answer.of_connection (ConnectionAnswer.got_data _ _)) (
      Answered.takes {message = ChannelEof 1} refl (Answer.of_connection (ConnectionAnswer.eof _)) (
      Answered.takes refl (Answer.of_connection (ConnectionAnswer.global _ _ _)) (
      Answered.asks refl (OnAsk.of_transport (TransportAsk.rekey _)) (
      Answered.takes refl (Answer.of_transport (TransportAnswer.kexinit_at_server _ refl)) (
      Answered.takes refl (Answer.of_transport (TransportAnswer.debug _ _ _)) (
      Answered.other refl (
      Answered.takes refl (Answer.of_completion (AreReplies.none) (CompletingAnswer.init _ _ _ (IsAnnounced.nothing refl))) (
      Answered.asks refl (OnAsk.of_connection (ConnectionAsk.request _ _ _ _ _)) (
      Answered.takes refl (Answer.of_transport (TransportAnswer.newkeys)) (
      Answered.asks refl (OnAsk.of_connection (ConnectionAsk.confirm _ _ _ _ _)) (
      Answered.takes {message = ChannelData 2 (codes "aaaa")} refl (Answer.of_connection (ConnectionAnswer.got_data _ _)) (
      Answered.takes refl (Answer.of_transport (TransportAnswer.answered_at_server _ _ refl)) (
      Answered.takes refl (Answer.of_completion (AreReplies.none) (CompletingAnswer.init _ _ _ (IsAnnounced.nothing refl))) (
      Answered.asks refl (OnAsk.of_connection (ConnectionAsk.adjust _ _ _)) (
      Answered.takes refl (Answer.of_transport (TransportAnswer.newkeys)) (
      Answered.takes {message = ChannelEof 2} refl (Answer.of_connection (ConnectionAnswer.eof _)) (
      Answered.refused refl (
      Answered.ends))))))))))))))))))))))))))))))))))))))))))))))))))))))));
}
