-- No message is answered, and no ask is met, by rows of two kinds.
use Rattle.std.proofs.Common.{◌≡◌, ℕ, List, Option, refl}
use Rattle.ssh_model.specs.declared.side.Side.{Side}
use Rattle.ssh_model.specs.Protocol.Wire.Message.{Msg, Msg.Disconnect, Msg.Ignore, Msg.Unimplemented, Msg.Debug, Msg.ServiceRequest, Msg.ServiceAccept, Msg.ExtInfo, Msg.KexInit, Msg.NewKeys, Msg.KexEcdhInit, Msg.KexEcdhReply, Msg.UserauthRequest, Msg.UserauthFailure, Msg.UserauthSuccess, Msg.UserauthBanner, Msg.UserauthPkOk, Msg.Unknown}
use Rattle.ssh_model.specs.Protocol.Sessions.Parties.{Parties}
use Rattle.ssh_model.specs.Protocol.Sessions.Items.{Ask, Ask.AskService, Ask.AskNone, Ask.AskPassword, Ask.AskProbe, Ask.AskSign, Ask.AskRekey, Ask.AskDisconnect, Item}
use Rattle.ssh_model.specs.Protocol.Sessions.Transport.{TransportAnswer, TransportAnswer.disconnect, TransportAnswer.ignore, TransportAnswer.unimplemented, TransportAnswer.debug, TransportAnswer.unknown, TransportAnswer.service_request, TransportAnswer.service_accept, TransportAnswer.extensions, TransportAnswer.kexinit_at_server, TransportAnswer.kexinit_at_client, TransportAnswer.answered_at_server, TransportAnswer.answered_at_client, TransportAnswer.newkeys, CompletingAnswer, CompletingAnswer.init, CompletingAnswer.reply, TransportAsk, TransportAsk.service, TransportAsk.rekey, TransportAsk.disconnect as disconnects}
use Rattle.ssh_model.specs.Protocol.Authentication.Rows.{AuthenticationAnswer, AuthenticationAnswer.request_too_late, AuthenticationAnswer.request_accepted, AuthenticationAnswer.request_probed, AuthenticationAnswer.request_failed, AuthenticationAnswer.failure as fails, AuthenticationAnswer.success as succeeds, AuthenticationAnswer.banner, AuthenticationAnswer.key_ok, AuthenticationAsk, AuthenticationAsk.none, AuthenticationAsk.password, AuthenticationAsk.probe, AuthenticationAsk.sign}
use Rattle.ssh_model.specs.Protocol.Channels.Connection.{ConnectionAnswer, ConnectionAnswer.global, ConnectionAnswer.global_success, ConnectionAnswer.global_failure, ConnectionAnswer.opened, ConnectionAnswer.not_opened, ConnectionAnswer.confirmation, ConnectionAnswer.failure, ConnectionAnswer.adjust, ConnectionAnswer.got_data, ConnectionAnswer.got_extended, ConnectionAnswer.eof, ConnectionAnswer.close, ConnectionAnswer.request, ConnectionAnswer.success, ConnectionAnswer.no_success, ConnectionAsk, ConnectionAsk.opens, ConnectionAsk.confirm, ConnectionAsk.refuse, ConnectionAsk.sends, ConnectionAsk.sends_extended, ConnectionAsk.adjust as adjusts, ConnectionAsk.eof as ends, ConnectionAsk.close as closes, ConnectionAsk.request as requests, ConnectionAsk.reply_yes, ConnectionAsk.reply_no, ConnectionAsk.global as asks_all, ConnectionAsk.global_yes, ConnectionAsk.global_no}

data Kind : Type 0 where
  Plain Completing Authenticating Connecting : Kind

-- ---- messages

kind_of : Msg → Kind
kind_of (Disconnect r d l) = Plain
kind_of (Ignore x) = Plain
kind_of (Unimplemented x) = Plain
kind_of (Debug x y z) = Plain
kind_of (ServiceRequest x) = Plain
kind_of (ServiceAccept x) = Plain
kind_of (ExtInfo x) = Plain
kind_of (KexInit x) = Plain
kind_of NewKeys = Plain
kind_of (Unknown x) = Plain
kind_of (KexEcdhInit x) = Completing
kind_of (KexEcdhReply x y z) = Completing
kind_of (UserauthRequest x y z) = Authenticating
kind_of (UserauthFailure x y) = Authenticating
kind_of UserauthSuccess = Authenticating
kind_of (UserauthBanner x y) = Authenticating
kind_of (UserauthPkOk x y) = Authenticating
kind_of m = Connecting

is_plain : {K : Type 0} {p : Parties K} {side : Side} {h items : List Item} {m : Msg} → TransportAnswer p side h m items → kind_of m ≡ Plain
unfolding kind_of
is_plain (disconnect r d l) = refl
is_plain (ignore x) = refl
is_plain (unimplemented x) = refl
is_plain (debug x y z) = refl
is_plain (unknown x y) = refl
is_plain (service_request x y) = refl
is_plain (service_accept x) = refl
is_plain (extensions a) = refl
is_plain (kexinit_at_server o e) = refl
is_plain (kexinit_at_client o b e) = refl
is_plain (answered_at_server o b e) = refl
is_plain (answered_at_client o b c e) = refl
is_plain newkeys = refl

is_completing : {K : Type 0} {p : Parties K} {owed : List Item} {side : Side} {h items : List Item} {m : Msg} → CompletingAnswer p owed side h m items → kind_of m ≡ Completing
unfolding kind_of
is_completing (init q b c n) = refl
is_completing (reply k q g b n) = refl

is_authenticating : {K : Type 0} {p : Parties K} {side : Side} {h items : List Item} {m : Msg} → AuthenticationAnswer p side h m items → kind_of m ≡ Authenticating
unfolding kind_of
is_authenticating (request_too_late u s m e) = refl
is_authenticating (request_accepted u s m b e f) = refl
is_authenticating (request_probed u s a k b e f) = refl
is_authenticating (request_failed u s m b e f) = refl
is_authenticating (fails m x) = refl
is_authenticating (succeeds m e) = refl
is_authenticating (banner m l) = refl
is_authenticating (key_ok a k) = refl

is_connecting : {side : Side} {h items : List Item} {c : Option ℕ} {m : Msg} → ConnectionAnswer side h c m items → kind_of m ≡ Connecting
unfolding kind_of
is_connecting (global a b c) = refl
is_connecting (global_success a) = refl
is_connecting global_failure = refl
is_connecting (opened x k s w d r f) = refl
is_connecting (not_opened k s w d r g e) = refl
is_connecting (confirmation a b c d f) = refl
is_connecting (failure a b c d) = refl
is_connecting (adjust a b) = refl
is_connecting (got_data a b) = refl
is_connecting (got_extended a b c) = refl
is_connecting (eof a) = refl
is_connecting (close a b) = refl
is_connecting (request a b c d) = refl
is_connecting (success a) = refl
is_connecting (no_success a) = refl

module _ {K A : Type 0} {p : Parties K} {side : Side} {h items others : List Item} {m : Msg} where
  pub plain_completing : {owed : List Item} → TransportAnswer p side h m items → CompletingAnswer p owed side h m others → A
  plain_completing a b = let e = is_plain a in let f = is_completing b in absurd (cc (e, f))

  pub plain_authenticating : TransportAnswer p side h m items → AuthenticationAnswer p side h m others → A
  plain_authenticating a b = let e = is_plain a in let f = is_authenticating b in absurd (cc (e, f))

  pub plain_connecting : {c : Option ℕ} → TransportAnswer p side h m items → ConnectionAnswer side h c m others → A
  plain_connecting a b = let e = is_plain a in let f = is_connecting b in absurd (cc (e, f))

  pub completing_authenticating : {owed : List Item} → CompletingAnswer p owed side h m items → AuthenticationAnswer p side h m others → A
  completing_authenticating a b = let e = is_completing a in let f = is_authenticating b in absurd (cc (e, f))

  pub completing_connecting : {owed : List Item} {c : Option ℕ} → CompletingAnswer p owed side h m items → ConnectionAnswer side h c m others → A
  completing_connecting a b = let e = is_completing a in let f = is_connecting b in absurd (cc (e, f))

  pub authenticating_connecting : {c : Option ℕ} → AuthenticationAnswer p side h m items → ConnectionAnswer side h c m others → A
  authenticating_connecting a b = let e = is_authenticating a in let f = is_connecting b in absurd (cc (e, f))

-- ---- asks

kind_of_ask : Ask → Kind
kind_of_ask AskService = Plain
kind_of_ask AskRekey = Plain
kind_of_ask (AskDisconnect d) = Plain
kind_of_ask (AskNone u) = Authenticating
kind_of_ask (AskPassword u w) = Authenticating
kind_of_ask (AskProbe u a k) = Authenticating
kind_of_ask (AskSign u a k) = Authenticating
kind_of_ask a = Connecting

asks_plainly : {K : Type 0} {p : Parties K} {side : Side} {h items : List Item} {a : Ask} → TransportAsk p side h a items → kind_of_ask a ≡ Plain
unfolding kind_of_ask
asks_plainly (service b) = refl
asks_plainly (rekey b) = refl
asks_plainly (disconnects d b) = refl

asks_to_authenticate : {K : Type 0} {p : Parties K} {side : Side} {h items : List Item} {a : Ask} → AuthenticationAsk p side h a items → kind_of_ask a ≡ Authenticating
unfolding kind_of_ask
asks_to_authenticate (none u b) = refl
asks_to_authenticate (password u w b) = refl
asks_to_authenticate (probe u a k b) = refl
asks_to_authenticate (sign u a k b) = refl

asks_on_channels : {side : Side} {h items : List Item} {a : Ask} → ConnectionAsk side h a items → kind_of_ask a ≡ Connecting
unfolding kind_of_ask
asks_on_channels (opens x k w d r b f) = refl
asks_on_channels (confirm x w d r b) = refl
asks_on_channels (refuse x r b) = refl
asks_on_channels (sends x u b) = refl
asks_on_channels (sends_extended x k u b) = refl
asks_on_channels (adjusts x n b) = refl
asks_on_channels (ends x b) = refl
asks_on_channels (closes x b) = refl
asks_on_channels (requests x n w r b) = refl
asks_on_channels (reply_yes x b) = refl
asks_on_channels (reply_no x b) = refl
asks_on_channels (asks_all n w r b) = refl
asks_on_channels (global_yes r b) = refl
asks_on_channels (global_no r b) = refl

module _ {K A : Type 0} {p : Parties K} {side : Side} {h items others : List Item} {a : Ask} where
  pub plain_or_authentication : TransportAsk p side h a items → AuthenticationAsk p side h a others → A
  plain_or_authentication x y = let e = asks_plainly x in let f = asks_to_authenticate y in absurd (cc (e, f))

  pub plain_or_connection : TransportAsk p side h a items → ConnectionAsk side h a others → A
  plain_or_connection x y = let e = asks_plainly x in let f = asks_on_channels y in absurd (cc (e, f))

  pub authentication_or_connection : AuthenticationAsk p side h a items → ConnectionAsk side h a others → A
  authentication_or_connection x y = let e = asks_to_authenticate x in let f = asks_on_channels y in absurd (cc (e, f))
