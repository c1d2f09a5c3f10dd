use Rattle.std.specs.Prelude.{refl}
use Rattle.ssh_model.specs.Protocol.Sessions.Transport.{TransportAnswer, CompletingAnswer, IsAnnounced, TransportAsk}
use Rattle.ssh_model.specs.Protocol.Authentication.Rows.{AuthenticationAnswer, AuthenticationAsk}
use Rattle.ssh_model.specs.Protocol.Channels.Connection.{AreReplies, ConnectionAnswer, ConnectionAsk}
use Rattle.ssh_model.specs.Protocol.Sessions.Turns.{Answer, OnAsk}
use Rattle.test_histories.specs.Words.{Answered}
use Rattle.ssh_model.specs.Protocol.Wire.Message.{Msg.ChannelData, Msg.ChannelClose}
use Rattle.std.specs.Prelude.{codes}
use Rattle.ssh_model.specs.Protocol.KeyExchange.Choice.{methods}
use Rattle.ssh_model.specs.Protocol.Channels.History.{has_place, some_free}
use Rattle.test_histories.proofs.answers.client10.Goals as goal

pub returns : goal.returns
unfolding methods has_place some_free
returns c = record {
  answered =
      Answered.other refl (
      Answered.other refl (
      Answered.takes refl (Answer.of_transport (TransportAnswer.kexinit_at_client _ _ refl)) (
      Answered.refused refl (
      Answered.takes refl (Answer.of_completion (AreReplies.none) (CompletingAnswer.reply _ _ _ _ (IsAnnounced.nothing refl))) (
      Answered.refused refl (
      Answered.refused refl (
      Answered.takes refl (Answer.of_transport (TransportAnswer.newkeys)) (
      Answered.takes refl (Answer.of_transport (TransportAnswer.debug _ _ _)) (
      Answered.takes refl (Answer.of_transport (TransportAnswer.unimplemented _)) (
      Answered.asks refl (OnAsk.of_transport (TransportAsk.service _)) (
      Answered.takes refl (Answer.of_transport (TransportAnswer.unimplemented _)) (
      Answered.takes refl (Answer.of_transport (TransportAnswer.unimplemented _)) (
      Answered.refused refl (
      Answered.takes refl (Answer.of_transport (TransportAnswer.ignore _)) (
      Answered.takes refl (Answer.of_transport (TransportAnswer.service_accept _)) (
      Answered.refused refl (
      Answered.refused refl (
      Answered.takes refl (Answer.of_transport (TransportAnswer.ignore _)) (
      Answered.refused refl (
      Answered.asks refl (OnAsk.of_authentication (AuthenticationAsk.password _ _ _)) (
      Answered.takes refl (Answer.of_authentication (AuthenticationAnswer.success _ refl)) (
      Answered.takes refl (Answer.of_transport (TransportAnswer.debug _ _ _)) (
      Answered.takes refl (Answer.of_transport (TransportAnswer.unknown _ _)) (
      Answered.takes refl (Answer.of_connection (ConnectionAnswer.opened _ _ _ _ _ _ refl)) (
      Answered.asks refl (OnAsk.of_connection (ConnectionAsk.global _ _ _ _)) (
      Answered.other refl (
      Answered.refused refl (
      Answered.takes refl (Answer.of_connection (ConnectionAnswer.global _ _ _)) (
      Answered.asks refl (OnAsk.of_transport (TransportAsk.rekey _)) (
      Answered.takes refl (Answer.of_connection (ConnectionAnswer.opened _ _ _ _ _ _ refl)) (
      Answered.takes refl (Answer.of_connection (ConnectionAnswer.opened _ _ _ _ _ _ refl)) (
      Answered.other refl (
      Answered.takes refl (Answer.of_transport (TransportAnswer.kexinit_at_client _ _ refl)) (
      Answered.takes refl (Answer.of_transport (TransportAnswer.unknown _ _)) (
      Answered.takes refl (Answer.of_transport (TransportAnswer.unimplemented _)) (
      Answered.takes refl (Answer.of_transport (TransportAnswer.unimplemented _)) (
      Answered.refused refl (
      Answered.refused refl (
      Answered.takes refl (Answer.of_completion (AreReplies.none) (CompletingAnswer.reply _ _ _ _ (IsAnnounced.nothing refl))) (
      Answered.asks refl (OnAsk.of_connection (ConnectionAsk.global _ _ _ _)) (
      Answered.takes refl (Answer.of_transport (TransportAnswer.debug _ _ _)) (
      Answered.takes refl (Answer.of_transport (TransportAnswer.newkeys)) (
      Answered.takes refl (Answer.of_transport (TransportAnswer.debug _ _ _)) (
      Answered.takes refl (Answer.of_transport (TransportAnswer.answered_at_client _ _ _ refl)) (
      Answered.takes refl (Answer.of_transport (TransportAnswer.unimplemented _)) (
      Answered.takes refl (Answer.of_completion (AreReplies.none) (CompletingAnswer.reply _ _ _ _ (IsAnnounced.nothing refl))) (
      Answered.asks refl (OnAsk.of_connection (ConnectionAsk.global_no _ _)) (
      Answered.asks refl (OnAsk.of_connection (ConnectionAsk.confirm _ _ _ _ _)) (
      Answered.asks refl (OnAsk.of_connection (ConnectionAsk.confirm _ _ _ _ _)) (
      Answered.takes refl (Answer.of_transport (TransportAnswer.newkeys)) (
      Answered.takes {message = ChannelData 3 (codes "aaaa")} refl (Answer.of_connection (ConnectionAnswer.got_data _ _)) (
      Answered.takes {message = ChannelClose 2} refl (Answer.of_connection (ConnectionAnswer.close _ (AreReplies.reply _ _ _ (AreReplies.none)))) (
      Answered.takes refl (Answer.of_transport (TransportAnswer.debug _ _ _)) (
      Answered.takes {message = ChannelData 3 (codes "aaaaaa")} refl (Answer.of_connection (ConnectionAnswer.got_data _ _)) (
      Answered.refused refl (
      Answered.ends))))))))))))))))))))))))))))))))))))))))))))))))))))))));
}
