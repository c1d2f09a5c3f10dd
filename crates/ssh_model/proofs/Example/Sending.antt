-- What the toy ends send on asks.
use Rattle.std.specs.Prelude.{◌∷◌, true, false, [], Some, None, codes, take, refl}
use Rattle.ssh_model.specs.declared.side.Side.{Side}
use Rattle.ssh_model.specs.declared.side.Side.TheVariants.{Client, Server}
use Rattle.ssh_model.specs.Example.Histories.{says, says_on, offer_of, opened, keyed, userauth, connection, served, right_request, probe, right_signature, admitted, fed_again, open_message, confirm_message, channel_opened, channel_confirmed}
use Rattle.ssh_model.specs.Example.Toys.{toy}
use Rattle.ssh_model.specs.Protocol.Wire.Message.{Method.NoMethod, Method.Publickey, Msg.Disconnect, Msg.ServiceRequest, Msg.KexInit, Msg.UserauthRequest, Msg.GlobalRequest, Msg.RequestSuccess, Msg.RequestFailure, Msg.ChannelOpenFailure, Msg.ChannelWindowAdjust, Msg.ChannelData, Msg.ChannelExtendedData, Msg.ChannelEof, Msg.ChannelClose, Msg.ChannelRequest, Msg.ChannelSuccess, Msg.ChannelFailure}
use Rattle.ssh_model.specs.Protocol.Sessions.Items.{Ask.AskService, Ask.AskNone, Ask.AskPassword, Ask.AskProbe, Ask.AskSign, Ask.AskRekey, Ask.AskOpen, Ask.AskConfirm, Ask.AskRefuse, Ask.AskData, Ask.AskAdjust, Ask.AskEof, Ask.AskClose, Ask.AskRequest, Ask.AskReply, Ask.AskGlobal, Ask.AskGlobalReply, Ask.AskDisconnect, Fact.Opening, Item.Told, Item.Died}
use Rattle.ssh_model.specs.Protocol.Sessions.Turns.{OnAsk}
use Rattle.ssh_model.specs.Protocol.KeyExchange.Choice.{methods}
use Rattle.ssh_model.specs.Protocol.Channels.History.{has_place, some_free}
use Rattle.ssh_model.specs.Protocol.Sessions.Transport.{TransportAsk.service, TransportAsk.rekey, TransportAsk.disconnect}
use Rattle.ssh_model.specs.Protocol.Authentication.Rows.{AuthenticationAsk.none, AuthenticationAsk.password, AuthenticationAsk.probe as probes, AuthenticationAsk.sign}
use Rattle.ssh_model.specs.Protocol.Channels.Connection.{ConnectionAsk.opens, ConnectionAsk.confirm, ConnectionAsk.refuse, ConnectionAsk.sends, ConnectionAsk.sends_extended, ConnectionAsk.adjust, ConnectionAsk.eof, ConnectionAsk.close, ConnectionAsk.request, ConnectionAsk.reply_yes, ConnectionAsk.reply_no, ConnectionAsk.global, ConnectionAsk.global_yes, ConnectionAsk.global_no}
use Rattle.ssh_model.specs.Protocol.Sessions.Turns.{OnAsk, OnAsk.of_transport, OnAsk.of_authentication, OnAsk.of_connection}

pub service_sent_row : OnAsk toy Client (keyed Client) AskService (says (ServiceRequest userauth) ∷ [])
unfolding methods has_place some_free
service_sent_row = of_transport (service [])

pub none_sent_row : OnAsk toy Client (served Client) (AskNone (codes "u")) (says (UserauthRequest (codes "u") connection NoMethod) ∷ [])
unfolding methods has_place some_free
none_sent_row = of_authentication (none (codes "u") [])

pub password_sent_row : OnAsk toy Client (served Client) (AskPassword (codes "u") (codes "p")) (says right_request ∷ [])
unfolding methods has_place some_free
password_sent_row = of_authentication (password (codes "u") (codes "p") [])

pub probe_sent_row : OnAsk toy Client (served Client) (AskProbe (codes "u") (codes "toy") (codes "k")) (says (probe (codes "k")) ∷ [])
unfolding methods has_place some_free
probe_sent_row = of_authentication (probes (codes "u") (codes "toy") (codes "k") [])

pub signature_sent_row : OnAsk toy Client (served Client) (AskSign (codes "u") (codes "toy") (codes "k")) (says (UserauthRequest (codes "u") connection (Publickey (codes "toy") (codes "k") (Some (take 4096 right_signature)))) ∷ [])
unfolding methods has_place some_free
signature_sent_row = of_authentication (sign (codes "u") (codes "toy") (codes "k") [])

pub rekey_sent_row : (side : Side) → OnAsk toy side (fed_again side) AskRekey (says (KexInit (offer_of side false)) ∷ [])
unfolding methods has_place some_free
rekey_sent_row Client = of_transport (rekey [])
rekey_sent_row Server = of_transport (rekey [])

pub disconnect_sent_row : OnAsk toy Client (opened Client) (AskDisconnect (codes "x")) (Died ∷ says (Disconnect 11 (codes "x") []) ∷ [])
unfolding methods has_place some_free
disconnect_sent_row = of_transport (disconnect (codes "x") [])

pub open_sent_row : OnAsk toy Client (admitted Client) (AskOpen (codes "session") 10 8 []) (Told (Opening 3) ∷ says_on 3 open_message ∷ [])
unfolding methods has_place some_free
open_sent_row = of_connection (opens 3 (codes "session") 10 8 [] [] refl)

pub confirm_sent_row : OnAsk toy Server (channel_opened Server) (AskConfirm 5 20 16 []) (says_on 5 confirm_message ∷ [])
unfolding methods has_place some_free
confirm_sent_row = of_connection (confirm 5 20 16 [] [])

pub refuse_sent_row : OnAsk toy Server (channel_opened Server) (AskRefuse 5 1) (says_on 5 (ChannelOpenFailure 3 1 [] []) ∷ [])
unfolding methods has_place some_free
refuse_sent_row = of_connection (refuse 5 1 [])

pub data_sent_row : OnAsk toy Client (channel_confirmed Client) (AskData 3 None (codes "x")) (says_on 3 (ChannelData 5 (codes "x")) ∷ [])
unfolding methods has_place some_free
data_sent_row = of_connection (sends 3 (codes "x") [])

pub extended_data_sent_row : OnAsk toy Client (channel_confirmed Client) (AskData 3 (Some 1) (codes "x")) (says_on 3 (ChannelExtendedData 5 1 (codes "x")) ∷ [])
unfolding methods has_place some_free
extended_data_sent_row = of_connection (sends_extended 3 1 (codes "x") [])

pub adjust_sent_row : OnAsk toy Client (channel_confirmed Client) (AskAdjust 3 7) (says_on 3 (ChannelWindowAdjust 5 7) ∷ [])
unfolding methods has_place some_free
adjust_sent_row = of_connection (adjust 3 7 [])

pub eof_sent_row : OnAsk toy Client (channel_confirmed Client) (AskEof 3) (says_on 3 (ChannelEof 5) ∷ [])
unfolding methods has_place some_free
eof_sent_row = of_connection (eof 3 [])

pub close_sent_row : OnAsk toy Client (channel_confirmed Client) (AskClose 3) (says_on 3 (ChannelClose 5) ∷ [])
unfolding methods has_place some_free
close_sent_row = of_connection (close 3 [])

pub request_sent_row : OnAsk toy Client (channel_confirmed Client) (AskRequest 3 (codes "x") true (codes "y")) (says_on 3 (ChannelRequest 5 (codes "x") true (codes "y")) ∷ [])
unfolding methods has_place some_free
request_sent_row = of_connection (request 3 (codes "x") true (codes "y") [])

pub success_sent_row : OnAsk toy Client (channel_confirmed Client) (AskReply 3 true) (says_on 3 (ChannelSuccess 5) ∷ [])
unfolding methods has_place some_free
success_sent_row = of_connection (reply_yes 3 [])

pub failure_sent_row : OnAsk toy Client (channel_confirmed Client) (AskReply 3 false) (says_on 3 (ChannelFailure 5) ∷ [])
unfolding methods has_place some_free
failure_sent_row = of_connection (reply_no 3 [])

pub global_request_sent_row : OnAsk toy Client (admitted Client) (AskGlobal (codes "x") true (codes "y")) (says (GlobalRequest (codes "x") true (codes "y")) ∷ [])
unfolding methods has_place some_free
global_request_sent_row = of_connection (global (codes "x") true (codes "y") [])

pub global_success_sent_row : OnAsk toy Client (admitted Client) (AskGlobalReply true (codes "x")) (says (RequestSuccess (codes "x")) ∷ [])
unfolding methods has_place some_free
global_success_sent_row = of_connection (global_yes (codes "x") [])

pub global_failure_sent_row : OnAsk toy Client (admitted Client) (AskGlobalReply false []) (says RequestFailure ∷ [])
unfolding methods has_place some_free
global_failure_sent_row = of_connection (global_no [] [])
