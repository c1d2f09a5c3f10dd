-- What the toy ends answer to messages of the transport and of authentication.
use Rattle.std.specs.Prelude.{◌≡◌, ◌∷◌, true, false, [], Some, None, codes, take, refl}
use Rattle.ssh_model.specs.declared.side.Side.{Side}
use Rattle.ssh_model.specs.declared.side.Side.TheVariants.{Client, Server}
use Rattle.ssh_model.specs.declared.request_kind.RequestKind.TheVariants as kind
use Rattle.ssh_model.specs.Example.Histories.{says, hears, says_on, offer_of, lined, offered, first_reply, completed, keyed, userauth, connection, asking, served, right_request, wrong_request, probe, right_signature, requesting, probing_client, admitted, fed_again, rekeying, closed_by_peer, guessing}
use Rattle.ssh_model.specs.Example.Toys.{toy_key, toy, secret}
use Rattle.ssh_model.specs.Protocol.Wire.Message.{Msg.Disconnect, Msg.Ignore, Msg.Unimplemented, Msg.Debug, Msg.ServiceRequest, Msg.ServiceAccept, Msg.KexInit, Msg.NewKeys, Msg.KexEcdhInit, Msg.KexEcdhReply, Msg.UserauthRequest, Msg.UserauthFailure, Msg.UserauthSuccess, Msg.UserauthBanner, Msg.UserauthPkOk, Msg.ChannelClose, Msg.Unknown}
use Rattle.ssh_model.specs.Protocol.Sessions.Items.{Fact.Completed, Fact.Service, Fact.Accepted, Fact.Authenticated, Fact.Failed, Fact.Banner, Fact.KeyOk, Fact.Ignored, Fact.Debugged, Fact.NotImplemented, Fact.Disconnected, Item.TookGuess, Item.Told, Item.Died}
use Rattle.ssh_model.specs.Protocol.Sessions.Items.{Credential.ByPassword, Credential.ByKey}
use Rattle.ssh_model.specs.Protocol.Sessions.Transport.{hash_to_sign, reply_now}
use Rattle.ssh_model.specs.Protocol.Sessions.Turns.{Answer}
use Rattle.ssh_model.specs.Protocol.KeyExchange.Choice.{methods}
use Rattle.std.proofs.lemmas.Cmp.{nat_list_eq_equiv}
use Rattle.sha2.specs.Sha256.{sha256}
use Rattle.ssh_model.specs.Protocol.Channels.Message.{Message.Close}
use Rattle.ssh_model.specs.Protocol.Wire.Message.{Method.Password, Method.Publickey}
use Rattle.ssh_model.specs.Protocol.KeyExchange.Exchanges.{exchanges, session_id}
use Rattle.ssh_model.specs.Protocol.Authentication.Requests.{is_accepted, signed_text}
use Rattle.ssh_model.specs.Protocol.Sessions.Transport.{TransportAnswer.disconnect, TransportAnswer.ignore, TransportAnswer.unimplemented, TransportAnswer.debug, TransportAnswer.unknown, TransportAnswer.service_request, TransportAnswer.service_accept, IsAnnounced.nothing, TransportAnswer.kexinit_at_server, TransportAnswer.kexinit_at_client, TransportAnswer.answered_at_server, TransportAnswer.answered_at_client, CompletingAnswer.init, CompletingAnswer.reply, TransportAnswer.newkeys}
use Rattle.ssh_model.specs.Protocol.Authentication.Rows.{AuthenticationAnswer.request_too_late, AuthenticationAnswer.request_accepted, AuthenticationAnswer.request_probed, AuthenticationAnswer.request_failed, AuthenticationAnswer.failure, AuthenticationAnswer.success, AuthenticationAnswer.banner, AuthenticationAnswer.key_ok}
use Rattle.ssh_model.specs.Protocol.Channels.Connection.{AreReplies.none, AreReplies.reply as owed_reply}
use Rattle.ssh_model.specs.Protocol.Sessions.Turns.{Answer.of_transport, Answer.of_completion, Answer.of_authentication}

signature_is_accepted : is_accepted toy (served Server) (codes "u") connection (Publickey (codes "toy") (codes "k") (Some right_signature)) ≡ true
unfolding methods
signature_is_accepted = nat_list_eq_equiv.refl (sha256 (signed_text (session_id (exchanges toy Server (served Server))) (codes "u") connection (codes "toy") (codes "k")))

pub disconnect_row : Answer toy Client (admitted Client) None (Disconnect 11 (codes "x") []) (Died ∷ Told (Disconnected 11 (codes "x")) ∷ [])
unfolding methods
disconnect_row = of_transport (disconnect 11 (codes "x") [])

pub ignore_row : Answer toy Client (admitted Client) None (Ignore (codes "x")) (Told Ignored ∷ [])
unfolding methods
ignore_row = of_transport (ignore (codes "x"))

pub unimplemented_row : Answer toy Client (admitted Client) None (Unimplemented 5) (Told (NotImplemented 5) ∷ [])
unfolding methods
unimplemented_row = of_transport (unimplemented 5)

pub debug_row : Answer toy Client (admitted Client) None (Debug true (codes "x") []) (Told (Debugged true (codes "x")) ∷ [])
unfolding methods
debug_row = of_transport (debug true (codes "x") [])

pub first_unknown_row : Answer toy Client (keyed Client) None (Unknown 7) (says (Unimplemented 0) ∷ [])
unfolding methods
first_unknown_row = of_transport (unknown 7 [])

pub second_unknown_row : Answer toy Client (hears (Ignore []) ∷ keyed Client) None (Unknown 7) (says (Unimplemented 1) ∷ [])
unfolding methods
second_unknown_row = of_transport (unknown 7 [])

pub unknown_after_skipped_packet_row : Answer toy Server (TookGuess [] ∷ hears (KexInit (guessing Server false)) ∷ rekeying Server) None (Unknown 7) (says (Unimplemented 4) ∷ [])
unfolding methods
unknown_after_skipped_packet_row = of_transport (unknown 7 [])

pub unknown_while_blocked_row : Answer toy Client (rekeying Client) None (Unknown 200) (says (Unimplemented 2) ∷ [])
unfolding methods
unknown_while_blocked_row = of_transport (unknown 200 [])

pub service_request_row : Answer toy Server (keyed Server) None (ServiceRequest userauth) (says (ServiceAccept userauth) ∷ [])
unfolding methods
service_request_row = of_transport (service_request userauth [])

pub service_accept_row : Answer toy Client asking None (ServiceAccept userauth) (Told Service ∷ [])
unfolding methods
service_accept_row = of_transport (service_accept userauth)

pub first_kexinit_at_server_row : Answer toy Server (lined Server) None (KexInit (offer_of Client true)) []
unfolding methods
first_kexinit_at_server_row = of_transport (kexinit_at_server (offer_of Client true) refl)

pub first_kexinit_at_client_row : Answer toy Client (lined Client) None (KexInit (offer_of Server true)) (says (KexEcdhInit (secret 1)) ∷ [])
unfolding methods
first_kexinit_at_client_row = of_transport (kexinit_at_client (offer_of Server true) [] refl)

pub kexinit_answered_at_server_row : Answer toy Server (fed_again Server) None (KexInit (offer_of Client false)) (says (KexInit (offer_of Server false)) ∷ [])
unfolding methods
kexinit_answered_at_server_row = of_transport (answered_at_server (offer_of Client false) [] refl)

pub kexinit_answered_at_client_row : Answer toy Client (fed_again Client) None (KexInit (offer_of Server false)) (says (KexEcdhInit (secret 4)) ∷ says (KexInit (offer_of Client false)) ∷ [])
unfolding methods
kexinit_answered_at_client_row = of_transport (answered_at_client (offer_of Server false) [] [] refl)

pub kexinit_crossing_at_client_row : Answer toy Client (rekeying Client) None (KexInit (offer_of Server false)) (says (KexEcdhInit (secret 4)) ∷ [])
unfolding methods
kexinit_crossing_at_client_row = of_transport (kexinit_at_client (offer_of Server false) [] refl)

pub kexinit_crossing_at_server_row : Answer toy Server (rekeying Server) None (KexInit (offer_of Client false)) []
unfolding methods
kexinit_crossing_at_server_row = of_transport (kexinit_at_server (offer_of Client false) refl)

pub exchange_at_server_row : Answer toy Server (offered Server) None (KexEcdhInit (secret 1)) (Told (Completed 1) ∷ says NewKeys ∷ says first_reply ∷ [])
unfolding methods
exchange_at_server_row = of_completion none (init (secret 1) [] [] (nothing refl))

pub exchange_at_client_row : Answer toy Client (offered Client) None first_reply (Told (Completed 1) ∷ says NewKeys ∷ [])
unfolding methods
exchange_at_client_row = of_completion none (reply toy_key (secret 2) (take 4096 (hash_to_sign toy (offered Server) (secret 1))) [] (nothing refl))

pub owed_reply_of_server_row : Answer toy Server (hears (KexInit (offer_of Client false)) ∷ closed_by_peer Server) None (KexEcdhInit (secret 4)) (Told (Completed 2) ∷ says_on 5 (ChannelClose 3) ∷ says NewKeys ∷ says (reply_now toy (hears (KexInit (offer_of Client false)) ∷ closed_by_peer Server) (secret 4)) ∷ [])
unfolding methods
owed_reply_of_server_row = of_completion (owed_reply (Some 5) (Close 3) [] none) (init (secret 4) [] [] (nothing refl))

pub owed_reply_of_client_row : Answer toy Client (says (KexEcdhInit (secret 4)) ∷ hears (KexInit (offer_of Server false)) ∷ closed_by_peer Client) None (KexEcdhReply toy_key (secret 8) []) (Told (Completed 2) ∷ says_on 3 (ChannelClose 5) ∷ says NewKeys ∷ [])
unfolding methods
owed_reply_of_client_row = of_completion (owed_reply (Some 3) (Close 5) [] none) (reply toy_key (secret 8) [] [] (nothing refl))

pub newkeys_of_peer_row : (side : Side) → Answer toy side (completed side) None NewKeys []
unfolding methods
newkeys_of_peer_row Client = of_transport newkeys
newkeys_of_peer_row Server = of_transport newkeys

pub right_password_row : Answer toy Server (served Server) None right_request (Told (Accepted (codes "u") ByPassword) ∷ says UserauthSuccess ∷ [])
unfolding methods
right_password_row = of_authentication (request_accepted (codes "u") connection (Password (codes "p") None) [] refl refl)

pub right_signature_row : Answer toy Server (served Server) None (UserauthRequest (codes "u") connection (Publickey (codes "toy") (codes "k") (Some right_signature))) (Told (Accepted (codes "u") (ByKey (codes "toy") (codes "k"))) ∷ says UserauthSuccess ∷ [])
unfolding methods
right_signature_row = of_authentication (request_accepted (codes "u") connection (Publickey (codes "toy") (codes "k") (Some right_signature)) [] refl signature_is_accepted)

pub known_key_row : Answer toy Server (served Server) None (probe (codes "k")) (says (UserauthPkOk (codes "toy") (codes "k")) ∷ [])
unfolding methods
known_key_row = of_authentication (request_probed (codes "u") connection (codes "toy") (codes "k") [] refl refl)

pub wrong_password_row : Answer toy Server (served Server) None wrong_request (says (UserauthFailure (codes "publickey" ∷ codes "password" ∷ []) false) ∷ [])
unfolding methods
wrong_password_row = of_authentication (request_failed (codes "u") connection (Password (codes "q") None) [] refl refl)

pub request_after_success_row : Answer toy Server (admitted Server) None right_request (Told Ignored ∷ [])
unfolding methods
request_after_success_row = of_authentication (request_too_late (codes "u") connection (Password (codes "p") None) refl)

pub failed_request_row : Answer toy Client requesting None (UserauthFailure (codes "x" ∷ []) true) (Told (Failed (codes "x" ∷ []) true) ∷ [])
unfolding methods
failed_request_row = of_authentication (failure (codes "x" ∷ []) true)

pub accepted_request_row : Answer toy Client requesting None UserauthSuccess (Told (Authenticated kind.Password) ∷ [])
unfolding methods
accepted_request_row = of_authentication (success (Password (codes "p") None) refl)

pub shown_banner_row : Answer toy Client requesting None (UserauthBanner (codes "x") []) (Told (Banner (codes "x")) ∷ [])
unfolding methods
shown_banner_row = of_authentication (banner (codes "x") [])

pub good_key_row : Answer toy Client probing_client None (UserauthPkOk (codes "toy") (codes "k")) (Told (KeyOk (codes "toy") (codes "k")) ∷ [])
unfolding methods
good_key_row = of_authentication (key_ok (codes "toy") (codes "k"))
