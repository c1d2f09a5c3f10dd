use Rattle.std.specs.Prelude.{refl}
use Rattle.ssh_model.specs.Protocol.Sessions.Transport.{TransportAnswer, CompletingAnswer, IsAnnounced, TransportAsk}
use Rattle.ssh_model.specs.Protocol.Authentication.Rows.{AuthenticationAnswer, AuthenticationAsk}
use Rattle.ssh_model.specs.Protocol.Channels.Connection.{AreReplies, ConnectionAnswer, ConnectionAsk}
use Rattle.ssh_model.specs.Protocol.Sessions.Turns.{Answer, OnAsk}
use Rattle.test_histories.specs.Words.{Answered}
use Rattle.ssh_model.specs.Protocol.Wire.Message.{Msg.ChannelOpenConfirmation, Msg.ChannelRequest, Msg.ChannelData}
use Rattle.ssh_model.specs.Protocol.Wire.Message.{Msg.ChannelEof, Msg.ChannelWindowAdjust}
use Rattle.std.specs.Prelude.{[], codes, true}
use Rattle.ssh_model.specs.Protocol.KeyExchange.Choice.{methods}
use Rattle.ssh_model.specs.Protocol.Channels.History.{has_place, some_free}
use Rattle.test_histories.proofs.answers.client07.Goals as goal

pub returns : goal.returns
unfolding methods has_place some_free
returns c = record {
  answered =
      Answered.other refl (
      Answered.other refl (
      Answered.other refl (
      Answered.other refl (
      Answered.takes refl (Answer.of_transport (TransportAnswer.kexinit_at_client _ _ refl)) (
      Answered.takes refl (Answer.of_transport (TransportAnswer.debug _ _ _)) (
      Answered.takes refl (Answer.of_transport (TransportAnswer.debug _ _ _)) (
      Answered.takes refl (Answer.of_completion (AreReplies.none) (CompletingAnswer.reply _ _ _ _ (IsAnnounced.nothing refl))) (
      Answered.takes refl (Answer.of_transport (TransportAnswer.ignore _)) (
      Answered.takes refl (Answer.of_transport (TransportAnswer.newkeys)) (
      Answered.takes refl (Answer.of_transport (TransportAnswer.extensions _)) (
      Answered.takes refl (Answer.of_transport (TransportAnswer.debug _ _ _)) (
      Answered.takes refl (Answer.of_transport (TransportAnswer.unknown _ _)) (
      Answered.asks refl (OnAsk.of_transport (TransportAsk.service _)) (
      Answered.takes refl (Answer.of_transport (TransportAnswer.service_accept _)) (
      Answered.takes refl (Answer.of_transport (TransportAnswer.debug _ _ _)) (
      Answered.asks refl (OnAsk.of_authentication (AuthenticationAsk.probe _ _ _ _)) (
      Answered.refused refl (
      Answered.takes refl (Answer.of_authentication (AuthenticationAnswer.failure _ _)) (
      Answered.takes refl (Answer.of_transport (TransportAnswer.ignore _)) (
      Answered.asks refl (OnAsk.of_authentication (AuthenticationAsk.password _ _ _)) (
      Answered.takes refl (Answer.of_authentication (AuthenticationAnswer.failure _ _)) (
      Answered.takes refl (Answer.of_authentication (AuthenticationAnswer.banner _ _)) (
      Answered.takes refl (Answer.of_transport (TransportAnswer.unimplemented _)) (
      Answered.asks refl (OnAsk.of_authentication (AuthenticationAsk.sign _ _ _ _)) (
      Answered.takes refl (Answer.of_authentication (AuthenticationAnswer.success _ refl)) (
      Answered.takes refl (Answer.of_connection (ConnectionAnswer.opened _ _ _ _ _ _ refl)) (
      Answered.takes refl (Answer.of_connection (ConnectionAnswer.opened _ _ _ _ _ _ refl)) (
      Answered.refused refl (
      Answered.other refl (
      Answered.takes refl (Answer.of_transport (TransportAnswer.answered_at_client _ _ _ refl)) (
      Answered.takes refl (Answer.of_transport (TransportAnswer.debug _ _ _)) (
      Answered.other refl (
      Answered.takes refl (Answer.of_transport (TransportAnswer.debug _ _ _)) (
      Answered.takes refl (Answer.of_completion (AreReplies.none) (CompletingAnswer.reply _ _ _ _ (IsAnnounced.nothing refl))) (
      Answered.asks refl (OnAsk.of_connection (ConnectionAsk.global _ _ _ _)) (
      Answered.takes refl (Answer.of_transport (TransportAnswer.newkeys)) (
      Answered.asks refl (OnAsk.of_connection (ConnectionAsk.opens _ _ _ _ _ _ refl)) (
      Answered.asks refl (OnAsk.of_connection (ConnectionAsk.confirm _ _ _ _ _)) (
      Answered.asks refl (OnAsk.of_connection (ConnectionAsk.confirm _ _ _ _ _)) (
      Answered.takes {message = ChannelOpenConfirmation 3 5 12 5 []} refl (Answer.of_connection (ConnectionAnswer.confirmation _ _ _ _ _)) (
      Answered.asks refl (OnAsk.of_connection (ConnectionAsk.sends _ _ _)) (
      Answered.refused refl (
      Answered.refused refl (
      Answered.refused refl (
      Answered.asks refl (OnAsk.of_connection (ConnectionAsk.sends _ _ _)) (
      Answered.asks refl (OnAsk.of_connection (ConnectionAsk.adjust _ _ _)) (
      Answered.takes {message = ChannelRequest 1 (codes "r") true (codes "abc")} refl (Answer.of_connection (ConnectionAnswer.request _ _ _ _)) (
      Answered.takes {message = ChannelData 1 (codes "a")} refl (Answer.of_connection (ConnectionAnswer.got_data _ _)) (
      Answered.asks refl (OnAsk.of_connection (ConnectionAsk.eof _ _)) (
      Answered.takes {message = ChannelEof 1} refl (Answer.of_connection (ConnectionAnswer.eof _)) (
      Answered.asks refl (OnAsk.of_connection (ConnectionAsk.request _ _ _ _ _)) (
      Answered.takes {message = ChannelWindowAdjust 3 1} refl (Answer.of_connection (ConnectionAnswer.adjust _ _)) (
      Answered.asks refl (OnAsk.of_transport (TransportAsk.rekey _)) (
      Answered.other refl (
      Answered.takes {message = ChannelData 0 (codes "a")} refl (Answer.of_connection (ConnectionAnswer.got_data _ _)) (
      Answered.ends))))))))))))))))))))))))))))))))))))))))))))))))))))))));
}
