use Rattle.std.specs.Prelude.{refl}
use Rattle.ssh_model.specs.Protocol.Sessions.Transport.{TransportAnswer, CompletingAnswer, IsAnnounced, TransportAsk}
use Rattle.ssh_model.specs.Protocol.Authentication.Rows.{AuthenticationAnswer, AuthenticationAsk}
use Rattle.ssh_model.specs.Protocol.Channels.Connection.{AreReplies, ConnectionAnswer, ConnectionAsk}
use Rattle.ssh_model.specs.Protocol.Sessions.Turns.{Answer, OnAsk}
use Rattle.test_histories.specs.Words.{Answered}
use Rattle.ssh_model.specs.Protocol.Wire.Message.{Msg.ChannelOpenConfirmation, Msg.ChannelExtendedData}
use Rattle.ssh_model.specs.Protocol.Wire.Message.{Msg.ChannelWindowAdjust, Msg.ChannelSuccess, Msg.ChannelData}
use Rattle.std.specs.Prelude.{[], codes}
use Rattle.ssh_model.specs.Protocol.KeyExchange.Choice.{methods}
use Rattle.ssh_model.specs.Protocol.Channels.History.{has_place, some_free}
use Rattle.test_histories.proofs.answers.client04.Goals as goal

pub returns : goal.returns
unfolding methods has_place some_free
returns c = record {
  answered =
      Answered.other refl (
      Answered.other refl (
      Answered.other refl (
      Answered.takes refl (Answer.of_transport (TransportAnswer.kexinit_at_client _ _ refl)) (
      Answered.takes refl (Answer.of_completion (AreReplies.none) (CompletingAnswer.reply _ _ _ _ (IsAnnounced.nothing refl))) (
      Answered.takes refl (Answer.of_transport (TransportAnswer.newkeys)) (
      Answered.takes refl (Answer.of_transport (TransportAnswer.extensions _)) (
      Answered.refused refl (
      Answered.asks refl (OnAsk.of_transport (TransportAsk.service _)) (
      Answered.takes refl (Answer.of_transport (TransportAnswer.ignore _)) (
      Answered.takes refl (Answer.of_transport (TransportAnswer.service_accept _)) (
      Answered.asks refl (OnAsk.of_authentication (AuthenticationAsk.sign _ _ _ _)) (
      Answered.takes refl (Answer.of_authentication (AuthenticationAnswer.success _ refl)) (
      Answered.refused refl (
      Answered.asks refl (OnAsk.of_connection (ConnectionAsk.opens _ _ _ _ _ _ refl)) (
      Answered.asks refl (OnAsk.of_connection (ConnectionAsk.global _ _ _ _)) (
      Answered.other refl (
      Answered.takes refl (Answer.of_connection (ConnectionAnswer.global_failure)) (
      Answered.takes {message = ChannelOpenConfirmation 0 4 11 7 []} refl (Answer.of_connection (ConnectionAnswer.confirmation _ _ _ _ _)) (
      Answered.asks refl (OnAsk.of_connection (ConnectionAsk.sends _ _ _)) (
      Answered.asks refl (OnAsk.of_connection (ConnectionAsk.sends_extended _ _ _ _)) (
      Answered.takes {message = ChannelExtendedData 0 1 (codes "aaaa")} refl (Answer.of_connection (ConnectionAnswer.got_extended _ _ _)) (
      Answered.asks refl (OnAsk.of_connection (ConnectionAsk.request _ _ _ _ _)) (
      Answered.takes {message = ChannelWindowAdjust 0 0} refl (Answer.of_connection (ConnectionAnswer.adjust _ _)) (
      Answered.takes {message = ChannelSuccess 0} refl (Answer.of_connection (ConnectionAnswer.success _)) (
      Answered.asks refl (OnAsk.of_connection (ConnectionAsk.close _ _)) (
      Answered.asks refl (OnAsk.of_connection (ConnectionAsk.opens _ _ _ _ _ _ refl)) (
      Answered.takes {message = ChannelData 0 (codes "aaaa")} refl (Answer.of_connection (ConnectionAnswer.got_data _ _)) (
      Answered.asks refl (OnAsk.of_transport (TransportAsk.rekey _)) (
      Answered.refused refl (
      Answered.other refl (
      Answered.ends)))))))))))))))))))))))))))))));
}
