-- What an end adds of its own by a turn: messages sent, and what is told. Of these it signs a request for authentication alone, when asked.
use Rattle.std.proofs.Common.{ℕ, codes, List, [], ◌∷◌, ◌++◌, Option}
use Rattle.ssh_model.specs.declared.side.Side.{Side}
use Rattle.ssh_model.specs.declared.side.Side.TheVariants.{Client, Server}
use Rattle.ssh_model.specs.Laws.Supplied.{IfSigned}
use Rattle.ssh_model.specs.Protocol.Wire.Message.{Msg}
use Rattle.ssh_model.specs.Protocol.Authentication.Rows as authentication
use Rattle.ssh_model.specs.Protocol.Authentication.Rows.{AuthenticationAnswer, AuthenticationAsk}
use Rattle.ssh_model.specs.Protocol.Channels.Message.{Message, Message.OpenFailure, Message.Close}
use Rattle.ssh_model.specs.Protocol.Channels.History as channel
use Rattle.ssh_model.specs.Protocol.Channels.Connection as connection
use Rattle.ssh_model.specs.Protocol.Channels.Connection.{AreReplies, ConnectionAnswer, ConnectionAsk, reply_message}
use Rattle.ssh_model.specs.Protocol.Sessions.Items.{Ask, Item, Item.Died, Item.Sent, Item.Told}
use Rattle.ssh_model.specs.Protocol.Sessions.Parties.{Parties}
use Rattle.ssh_model.specs.Protocol.Sessions.Transport as transport
use Rattle.ssh_model.specs.Protocol.Sessions.Transport.{CompletingAnswer, IsAnnounced, TransportAnswer, TransportAsk}
use Rattle.ssh_model.specs.Protocol.Sessions.Turns as turns
use Rattle.ssh_model.specs.Protocol.Sessions.Turns.{Answer, OnAsk}

-- What an end adds of its own: messages sent, and what is told. Of each request with a signature among them this holds.
unfoldable pub AreOwn : ((user service algorithm key signature : List ℕ) → Type 0) → List Item → Type 0
AreOwn P [] = Unit {0}
AreOwn P (Sent c m b ∷ items) = IfSigned P m × AreOwn P items
AreOwn P (Told fact ∷ items) = AreOwn P items
AreOwn P (Died ∷ items) = AreOwn P items
AreOwn P (_ ∷ items) = ⊥

module _ (P : (user service algorithm key signature : List ℕ) → Type 0) where
  both_own : (a b : List Item) → AreOwn P a → AreOwn P b → AreOwn P (a ++ b)
  unfolding AreOwn
  both_own [] b x y = y
  both_own (Sent c m d ∷ a) b x y = (x.0, both_own a b x.1 y)
  both_own (Told fact ∷ a) b x y = both_own a b x y
  both_own (Died ∷ a) b x y = both_own a b x y
  both_own (_ ∷ a) b x y = absurd x

  no_request : (m : Message) → IfSigned P (reply_message m)
  no_request (OpenFailure to) = tt
  no_request (Close to) = tt
  no_request m = tt

  own_replies : (l : List channel.Item) (items : List Item) → AreReplies l items → AreOwn P items
  unfolding AreOwn
  own_replies l items connection.none = tt
  own_replies l items (connection.reply at m b r) = (no_request m, own_replies _ _ r)

module _ {K : Type 0} (p : Parties K) (P : (user service algorithm key signature : List ℕ) → Type 0) where
  own_announced : (side : Side) (h items : List Item) → IsAnnounced p side h items → AreOwn P items
  unfolding AreOwn
  own_announced side h items (transport.IsAnnounced.extensions b e) = (tt, tt)
  own_announced side h items (transport.IsAnnounced.nothing e) = tt

  own_transport : (side : Side) (h : List Item) (m : Msg) (items : List Item) → TransportAnswer p side h m items → AreOwn P items
  unfolding AreOwn
  own_transport side h m items (transport.TransportAnswer.disconnect r d l) = tt
  own_transport side h m items (transport.TransportAnswer.ignore b) = tt
  own_transport side h m items (transport.TransportAnswer.unimplemented n) = tt
  own_transport side h m items (transport.TransportAnswer.debug d t l) = tt
  own_transport side h m items (transport.TransportAnswer.unknown n b) = (tt, tt)
  own_transport side h m items (transport.TransportAnswer.service_request s b) = (tt, tt)
  own_transport side h m items (transport.TransportAnswer.service_accept s) = tt
  own_transport side h m items (transport.TransportAnswer.extensions a) = tt
  own_transport side h m items (transport.TransportAnswer.kexinit_at_server t e) = tt
  own_transport side h m items (transport.TransportAnswer.kexinit_at_client t b e) = (tt, tt)
  own_transport side h m items (transport.TransportAnswer.answered_at_server t b e) = (tt, tt)
  own_transport side h m items (transport.TransportAnswer.answered_at_client t o b e) = (tt, (tt, tt))
  own_transport side h m items transport.TransportAnswer.newkeys = tt

  own_completion : (owed : List Item) (side : Side) (h : List Item) (m : Msg) (items : List Item) → AreOwn P owed →
      CompletingAnswer p owed side h m items → AreOwn P items
  unfolding AreOwn
  own_completion owed side h m items o (transport.CompletingAnswer.init {announced = l} q r n a) =
      both_own P owed _ o (both_own P l _ (own_announced Server h l a) (tt, (tt, tt)))
  own_completion owed side h m items o (transport.CompletingAnswer.reply {announced = l} k q s n a) =
      both_own P owed _ o (both_own P l _ (own_announced Client h l a) (tt, tt))

  own_authentication : (side : Side) (h : List Item) (m : Msg) (items : List Item) → AuthenticationAnswer p side h m items → AreOwn P items
  unfolding AreOwn
  own_authentication side h m items (authentication.AuthenticationAnswer.request_too_late u s how e) = tt
  own_authentication side h m items (authentication.AuthenticationAnswer.request_accepted u s how b e f) = (tt, tt)
  own_authentication side h m items (authentication.AuthenticationAnswer.request_probed u s n k b e f) = (tt, tt)
  own_authentication side h m items (authentication.AuthenticationAnswer.request_failed u s how b e f) = (tt, tt)
  own_authentication side h m items (authentication.AuthenticationAnswer.failure l b) = tt
  own_authentication side h m items (authentication.AuthenticationAnswer.success way e) = tt
  own_authentication side h m items (authentication.AuthenticationAnswer.banner t l) = tt
  own_authentication side h m items (authentication.AuthenticationAnswer.key_ok n k) = tt

  own_connection : (side : Side) (h : List Item) (c : Option ℕ) (m : Msg) (items : List Item) → ConnectionAnswer side h c m items → AreOwn P items
  unfolding AreOwn
  own_connection side h c m items (connection.ConnectionAnswer.not_opened k s w x r f due) = own_replies P _ items due
  own_connection side h c m items (connection.ConnectionAnswer.close {replies = l} x due) = own_replies P _ l due
  own_connection side h c m items (connection.ConnectionAnswer.global n w r) = tt
  own_connection side h c m items (connection.ConnectionAnswer.global_success r) = tt
  own_connection side h c m items connection.ConnectionAnswer.global_failure = tt
  own_connection side h c m items (connection.ConnectionAnswer.opened x k s w y r f) = tt
  own_connection side h c m items (connection.ConnectionAnswer.confirmation x s w y r) = tt
  own_connection side h c m items (connection.ConnectionAnswer.failure x r d l) = tt
  own_connection side h c m items (connection.ConnectionAnswer.adjust x b) = tt
  own_connection side h c m items (connection.ConnectionAnswer.got_data x b) = tt
  own_connection side h c m items (connection.ConnectionAnswer.got_extended x k b) = tt
  own_connection side h c m items (connection.ConnectionAnswer.eof x) = tt
  own_connection side h c m items (connection.ConnectionAnswer.request x n w r) = tt
  own_connection side h c m items (connection.ConnectionAnswer.success x) = tt
  own_connection side h c m items (connection.ConnectionAnswer.no_success x) = tt

  pub own_answer : (side : Side) (h : List Item) (c : Option ℕ) (m : Msg) (items : List Item) → Answer p side h c m items → AreOwn P items
  own_answer side h c m items (turns.Answer.of_transport t) = own_transport side h m items t
  own_answer side h c m items (turns.Answer.of_completion {owed = l} r t) = own_completion l side h m items (own_replies P _ l r) t
  own_answer side h c m items (turns.Answer.of_authentication t) = own_authentication side h m items t
  own_answer side h c m items (turns.Answer.of_connection t) = own_connection side h c m items t

  pub own_transport_ask : (side : Side) (h : List Item) (ask : Ask) (items : List Item) → TransportAsk p side h ask items → AreOwn P items
  unfolding AreOwn
  own_transport_ask side h ask items (transport.TransportAsk.service b) = (tt, tt)
  own_transport_ask side h ask items (transport.TransportAsk.rekey b) = (tt, tt)
  own_transport_ask side h ask items (transport.TransportAsk.disconnect d b) = (tt, tt)

  own_authentication_ask : ((user service algorithm key signature : List ℕ) → P user service algorithm key signature) → (side : Side) (h : List Item) (ask : Ask) (items : List Item) → AuthenticationAsk p side h ask items → AreOwn P items
  unfolding AreOwn
  own_authentication_ask any side h ask items (authentication.AuthenticationAsk.none u b) = (tt, tt)
  own_authentication_ask any side h ask items (authentication.AuthenticationAsk.password u w b) = (tt, tt)
  own_authentication_ask any side h ask items (authentication.AuthenticationAsk.probe u n k b) = (tt, tt)
  own_authentication_ask any side h ask items (authentication.AuthenticationAsk.sign u n k b) = (any u (codes "ssh-connection") n k _, tt)

  pub own_connection_ask : (side : Side) (h : List Item) (ask : Ask) (items : List Item) → ConnectionAsk side h ask items → AreOwn P items
  unfolding AreOwn
  own_connection_ask side h ask items (connection.ConnectionAsk.opens x k w m r b f) = (tt, tt)
  own_connection_ask side h ask items (connection.ConnectionAsk.confirm x w m r b) = (tt, tt)
  own_connection_ask side h ask items (connection.ConnectionAsk.refuse x r b) = (tt, tt)
  own_connection_ask side h ask items (connection.ConnectionAsk.sends x d b) = (tt, tt)
  own_connection_ask side h ask items (connection.ConnectionAsk.sends_extended x k d b) = (tt, tt)
  own_connection_ask side h ask items (connection.ConnectionAsk.adjust x n b) = (tt, tt)
  own_connection_ask side h ask items (connection.ConnectionAsk.eof x b) = (tt, tt)
  own_connection_ask side h ask items (connection.ConnectionAsk.close x b) = (tt, tt)
  own_connection_ask side h ask items (connection.ConnectionAsk.request x n w r b) = (tt, tt)
  own_connection_ask side h ask items (connection.ConnectionAsk.reply_yes x b) = (tt, tt)
  own_connection_ask side h ask items (connection.ConnectionAsk.reply_no x b) = (tt, tt)
  own_connection_ask side h ask items (connection.ConnectionAsk.global n w r b) = (tt, tt)
  own_connection_ask side h ask items (connection.ConnectionAsk.global_yes r b) = (tt, tt)
  own_connection_ask side h ask items (connection.ConnectionAsk.global_no r b) = (tt, tt)

  pub own_ask : ((user service algorithm key signature : List ℕ) → P user service algorithm key signature) → (side : Side) (h : List Item) (ask : Ask) (items : List Item) → OnAsk p side h ask items → AreOwn P items
  own_ask any side h ask items (turns.OnAsk.of_transport t) = own_transport_ask side h ask items t
  own_ask any side h ask items (turns.OnAsk.of_authentication t) = own_authentication_ask any side h ask items t
  own_ask any side h ask items (turns.OnAsk.of_connection t) = own_connection_ask side h ask items t
