use Rattle.std.specs.Prelude.{refl}
use Rattle.ssh_model.specs.Protocol.Sessions.Transport.{TransportAnswer, CompletingAnswer, IsAnnounced, TransportAsk}
use Rattle.ssh_model.specs.Protocol.Authentication.Rows.{AuthenticationAnswer, AuthenticationAsk}
use Rattle.ssh_model.specs.Protocol.Channels.Connection.{AreReplies, ConnectionAnswer, ConnectionAsk}
use Rattle.ssh_model.specs.Protocol.Sessions.Turns.{Answer, OnAsk}
use Rattle.test_histories.specs.Words.{Answered}
use Rattle.ssh_model.specs.Protocol.Wire.Message.{Msg.ChannelOpenConfirmation, Msg.ChannelRequest, Msg.ChannelEof}
use Rattle.ssh_model.specs.Protocol.Wire.Message.{Msg.ChannelClose, Msg.ChannelData, Msg.ChannelWindowAdjust}
use Rattle.std.specs.Prelude.{[], codes, true}
use Rattle.ssh_model.specs.Protocol.KeyExchange.Choice.{methods}
use Rattle.ssh_model.specs.Protocol.Channels.History.{has_place, some_free}
use Rattle.test_histories.proofs.answers.client01.Goals as goal

pub returns : goal.returns
unfolding methods has_place some_free
returns c = record {
  answered =
      Answered.other refl (
      Answered.other refl (
      Answered.other refl (
      Answered.takes refl (Answer.of_transport (TransportAnswer.kexinit_at_client _ _ refl)) (
      Answered.takes refl (Answer.of_transport (TransportAnswer.unimplemented _)) (
      Answered.refused refl (
      Answered.takes refl (Answer.of_transport (TransportAnswer.unimplemented _)) (
      Answered.takes refl (Answer.of_completion (AreReplies.none) (CompletingAnswer.reply _ _ _ _ (IsAnnounced.nothing refl))) (
      Answered.takes refl (Answer.of_transport (TransportAnswer.newkeys)) (
      Answered.asks refl (OnAsk.of_transport (TransportAsk.service _)) (
      Answered.takes refl (Answer.of_transport (TransportAnswer.unimplemented _)) (
      Answered.takes refl (Answer.of_transport (TransportAnswer.service_accept _)) (
      Answered.takes refl (Answer.of_transport (TransportAnswer.ignore _)) (
      Answered.takes refl (Answer.of_transport (TransportAnswer.unimplemented _)) (
      Answered.takes refl (Answer.of_authentication (AuthenticationAnswer.banner _ _)) (
      Answered.refused refl (
      Answered.takes refl (Answer.of_transport (TransportAnswer.debug _ _ _)) (
      Answered.takes refl (Answer.of_transport (TransportAnswer.unknown _ _)) (
      Answered.takes refl (Answer.of_authentication (AuthenticationAnswer.banner _ _)) (
      Answered.refused refl (
      Answered.asks refl (OnAsk.of_authentication (AuthenticationAsk.probe _ _ _ _)) (
      Answered.takes refl (Answer.of_authentication (AuthenticationAnswer.success _ refl)) (
      Answered.asks refl (OnAsk.of_connection (ConnectionAsk.opens _ _ _ _ _ _ refl)) (
      Answered.asks refl (OnAsk.of_connection (ConnectionAsk.opens _ _ _ _ _ _ refl)) (
      Answered.takes {message = ChannelOpenConfirmation 1 8 7 7 []} refl (Answer.of_connection (ConnectionAnswer.confirmation _ _ _ _ _)) (
      Answered.takes {message = ChannelRequest 1 (codes "r") true (codes "abc")} refl (Answer.of_connection (ConnectionAnswer.request _ _ _ _)) (
      Answered.takes {message = ChannelEof 1} refl (Answer.of_connection (ConnectionAnswer.eof _)) (
      Answered.takes {message = ChannelClose 1} refl (Answer.of_connection (ConnectionAnswer.close _ (AreReplies.reply _ _ _ (AreReplies.none)))) (
      Answered.takes {message = ChannelOpenConfirmation 0 5 5 7 []} refl (Answer.of_connection (ConnectionAnswer.confirmation _ _ _ _ _)) (
      Answered.asks refl (OnAsk.of_connection (ConnectionAsk.opens _ _ _ _ _ _ refl)) (
      Answered.takes {message = ChannelRequest 0 (codes "r") true []} refl (Answer.of_connection (ConnectionAnswer.request _ _ _ _)) (
      Answered.other refl (
      Answered.takes {message = ChannelData 0 (codes "a")} refl (Answer.of_connection (ConnectionAnswer.got_data _ _)) (
      Answered.asks refl (OnAsk.of_connection (ConnectionAsk.request _ _ _ _ _)) (
      Answered.takes {message = ChannelWindowAdjust 0 7} refl (Answer.of_connection (ConnectionAnswer.adjust _ _)) (
      Answered.takes {message = ChannelOpenConfirmation 2 4 9 4 []} refl (Answer.of_connection (ConnectionAnswer.confirmation _ _ _ _ _)) (
      Answered.takes refl (Answer.of_transport (TransportAnswer.answered_at_client _ _ _ refl)) (
      Answered.takes refl (Answer.of_completion (AreReplies.none) (CompletingAnswer.reply _ _ _ _ (IsAnnounced.nothing refl))) (
      Answered.asks refl (OnAsk.of_connection (ConnectionAsk.global _ _ _ _)) (
      Answered.asks refl (OnAsk.of_connection (ConnectionAsk.sends_extended _ _ _ _)) (
      Answered.other refl (
      Answered.takes refl (Answer.of_transport (TransportAnswer.newkeys)) (
      Answered.asks refl (OnAsk.of_connection (ConnectionAsk.sends_extended _ _ _ _)) (
      Answered.takes refl (Answer.of_transport (TransportAnswer.ignore _)) (
      Answered.takes refl (Answer.of_transport (TransportAnswer.unknown _ _)) (
      Answered.takes {message = ChannelData 2 (codes "aaaa")} refl (Answer.of_connection (ConnectionAnswer.got_data _ _)) (
      Answered.asks refl (OnAsk.of_connection (ConnectionAsk.sends_extended _ _ _ _)) (
      Answered.refused refl (
      Answered.takes {message = ChannelData 2 []} refl (Answer.of_connection (ConnectionAnswer.got_data _ _)) (
      Answered.takes {message = ChannelData 2 (codes "a")} refl (Answer.of_connection (ConnectionAnswer.got_data _ _)) (
      Answered.takes {message = ChannelClose 0} refl (Answer.of_connection (ConnectionAnswer.close _ (AreReplies.reply _ _ _ (AreReplies.none)))) (
      Answered.takes {message = ChannelClose 2} refl (Answer.of_connection (ConnectionAnswer.close _ (AreReplies.reply _ _ _ (AreReplies.none)))) (
      Answered.asks refl (OnAsk.of_connection (ConnectionAsk.opens _ _ _ _ _ _ refl)) (
      Answered.asks refl (OnAsk.of_transport (TransportAsk.rekey _)) (
      Answered.takes refl (Answer.of_connection (ConnectionAnswer.global_failure)) (
      Answered.asks refl (OnAsk.of_transport (TransportAsk.disconnect _ _)) (
      Answered.ends))))))))))))))))))))))))))))))))))))))))))))))))))))))));
}
