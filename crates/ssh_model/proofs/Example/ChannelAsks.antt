-- What the toy ends refuse an ask for the connection for.
use Rattle.std.specs.Prelude.{◌≡◌, ◌∷◌, ◌++◌, true, false, [], Some, None, codes, replicate, map, refl}
use Rattle.ssh_model.specs.Protocol.Bounds.{largest_data, longest_payload}
use Rattle.ssh_model.specs.declared.side.Side.TheVariants.{Client, Server}
use Rattle.ssh_model.specs.Example.Histories.{patient, ask_refusal, says, hears, says_on, hears_on, keyed, served, admitted, fed_again, rekeying, channel_opened, channel_confirmed, heard_data, heard_request, said_data, said_request, wide_channel, requests, connection_asks}
use Rattle.ssh_model.specs.Protocol.Wire.Message.{Msg.Ignore, Msg.GlobalRequest, Msg.ChannelEof, Msg.ChannelClose, Msg.ChannelFailure}
use Rattle.ssh_model.specs.Protocol.Sessions.Items.{Ask.AskService, Ask.AskRekey, Ask.AskOpen, Ask.AskConfirm, Ask.AskRefuse, Ask.AskData, Ask.AskAdjust, Ask.AskEof, Ask.AskClose, Ask.AskRequest, Ask.AskReply, Ask.AskGlobal, Ask.AskGlobalReply, Ask.AskDisconnect}
use Rattle.ssh_model.specs.Protocol.KeyExchange.Choice.{methods}
use Rattle.ssh_model.specs.Protocol.Channels.History.{has_place, some_free}
use Rattle.ssh_model.specs.Protocol.Sessions.Turns.{ask_checks}
use Rattle.ssh_model.specs.declared.ask_refusal.AskRefusal.{AskRefusal}
use Rattle.ssh_model.specs.declared.ask_refusal.AskRefusal.TheVariants.{NotYet, Busy, NoChannel, NoRoom, TooLong}
use Rattle.ssh_model.specs.declared.ask_refusal.AskRefusal.TheVariants.{NothingOwed, RekeyDue, TooMuch}
use Rattle.ssh_model.specs.Protocol.Sessions.Refusals.{first_refusal}

pub not_authenticated_row : map (ask_refusal Client (served Client)) connection_asks ≡ replicate 14 (Some NotYet)
unfolding methods has_place some_free
not_authenticated_row = refl

pub blocked_by_own_kexinit_row : map (ask_refusal Client (rekeying Client)) connection_asks ≡ replicate 14 (Some Busy)
unfolding methods has_place some_free
blocked_by_own_kexinit_row = refl

pub rekey_is_due_row : map (ask_refusal Client (replicate 62 (says (Ignore [])) ++ admitted Client)) connection_asks ≡ replicate 14 (Some RekeyDue)
unfolding methods has_place some_free
rekey_is_due_row = refl

pub blocked_before_rekey_is_due_row : ask_refusal Client (replicate 62 (says (Ignore [])) ++ rekeying Client) (AskEof 3) ≡ Some Busy
unfolding methods has_place some_free
blocked_before_rekey_is_due_row = refl

pub rekey_is_not_due_row : ask_refusal Client (replicate 61 (says (Ignore [])) ++ admitted Client) (AskOpen [] 0 1 []) ≡ None
unfolding methods has_place some_free
rekey_is_not_due_row = refl

pub rekey_though_due_row : ask_refusal Client (replicate 62 (says (Ignore [])) ++ fed_again Client) AskRekey ≡ None
unfolding methods has_place some_free
rekey_though_due_row = refl

pub service_though_due_row : ask_refusal Client (replicate 64 (says (Ignore [])) ++ keyed Client) AskService ≡ None
unfolding methods has_place some_free
service_though_due_row = refl

pub request_though_due_row : map (ask_refusal Client (replicate 64 (says (Ignore [])) ++ served Client)) requests ≡ replicate 4 None
unfolding methods has_place some_free
request_though_due_row = refl

pub disconnect_though_due_row : ask_refusal Client (replicate 62 (says (Ignore [])) ++ admitted Client) (AskDisconnect []) ≡ None
unfolding methods has_place some_free
disconnect_though_due_row = refl

pub open_by_server_row : ask_refusal Server (admitted Server) (AskOpen (codes "x") 0 1 []) ≡ None
unfolding methods has_place some_free
open_by_server_row = refl

pub open_of_largest_data_row : ask_refusal Client (admitted Client) (AskOpen [] 0 largest_data []) ≡ None
unfolding methods has_place some_free
open_of_largest_data_row = refl

pub open_of_larger_data_row : ask_refusal Client (admitted Client) (AskOpen [] 0 32769 []) ≡ Some TooMuch
unfolding methods has_place some_free
open_of_larger_data_row = refl

pub open_of_no_data_row : ask_refusal Client (admitted Client) (AskOpen [] 0 0 []) ≡ Some TooMuch
unfolding methods has_place some_free
open_of_no_data_row = refl

pub long_open_row : ask_refusal Client (admitted Client) (AskOpen (codes "session") 0 1 (replicate 33976 0)) ≡ None
unfolding methods has_place some_free
long_open_row = refl

pub too_long_open_row : ask_refusal Client (admitted Client) (AskOpen (codes "session") 0 1 (replicate 33977 0)) ≡ Some TooLong
unfolding methods has_place some_free
too_long_open_row = refl

pub too_much_before_too_long_row : ask_refusal Client (admitted Client) (AskOpen (codes "session") 0 0 (replicate 33977 0)) ≡ Some TooMuch
unfolding methods has_place some_free
too_much_before_too_long_row = refl

pub confirm_row : ask_refusal Server (channel_opened Server) (AskConfirm 5 20 16 []) ≡ None
unfolding methods has_place some_free
confirm_row = refl

pub confirm_of_no_open_row : ask_refusal Server (channel_opened Server) (AskConfirm 3 20 16 []) ≡ Some NoChannel
unfolding methods has_place some_free
confirm_of_no_open_row = refl

pub confirm_of_own_open_row : ask_refusal Client (channel_opened Client) (AskConfirm 3 20 16 []) ≡ Some NoChannel
unfolding methods has_place some_free
confirm_of_own_open_row = refl

pub second_confirm_row : ask_refusal Server (channel_confirmed Server) (AskConfirm 5 20 0 []) ≡ Some NoChannel
unfolding methods has_place some_free
second_confirm_row = refl

pub confirm_of_larger_data_row : ask_refusal Server (channel_opened Server) (AskConfirm 5 20 32769 []) ≡ Some TooMuch
unfolding methods has_place some_free
confirm_of_larger_data_row = refl

pub confirm_of_no_data_row : ask_refusal Server (channel_opened Server) (AskConfirm 5 20 0 []) ≡ Some TooMuch
unfolding methods has_place some_free
confirm_of_no_data_row = refl

pub long_confirm_row : ask_refusal Server (channel_opened Server) (AskConfirm 5 20 16 (replicate 33983 0)) ≡ None
unfolding methods has_place some_free
long_confirm_row = refl

pub too_long_confirm_row : ask_refusal Server (channel_opened Server) (AskConfirm 5 20 16 (replicate 33984 0)) ≡ Some TooLong
unfolding methods has_place some_free
too_long_confirm_row = refl

pub refuse_row : ask_refusal Server (channel_opened Server) (AskRefuse 5 1) ≡ None
unfolding methods has_place some_free
refuse_row = refl

pub refuse_of_no_open_row : ask_refusal Server (channel_confirmed Server) (AskRefuse 5 1) ≡ Some NoChannel
unfolding methods has_place some_free
refuse_of_no_open_row = refl

pub give_data_row : ask_refusal Client (channel_confirmed Client) (AskData 3 None (replicate 16 0)) ≡ None
unfolding methods has_place some_free
give_data_row = refl

pub data_on_no_channel_row : ask_refusal Client (channel_opened Client) (AskData 3 None []) ≡ Some NoChannel
unfolding methods has_place some_free
data_on_no_channel_row = refl

pub data_after_own_eof_row : ask_refusal Client (says_on 3 (ChannelEof 5) ∷ channel_confirmed Client) (AskData 3 None (replicate 17 0)) ≡ Some AskRefusal.Ended
unfolding methods has_place some_free
data_after_own_eof_row = refl

pub data_after_own_close_row : ask_refusal Client (says_on 3 (ChannelClose 5) ∷ channel_confirmed Client) (AskData 3 None []) ≡ Some AskRefusal.Ended
unfolding methods has_place some_free
data_after_own_close_row = refl

pub data_after_both_closed_row : ask_refusal Client (hears_on 3 (ChannelClose 3) ∷ says_on 3 (ChannelClose 5) ∷ channel_confirmed Client) (AskData 3 None []) ≡ Some NoChannel
unfolding methods has_place some_free
data_after_both_closed_row = refl

pub data_over_most_of_peer_row : ask_refusal Client (channel_confirmed Client) (AskData 3 None (replicate 17 0)) ≡ Some TooLong
unfolding methods has_place some_free
data_over_most_of_peer_row = refl

pub data_over_room_row : ask_refusal Client (said_data ∷ channel_confirmed Client) (AskData 3 None (replicate 5 0)) ≡ Some NoRoom
unfolding methods has_place some_free
data_over_room_row = refl

pub data_within_room_row : ask_refusal Client (said_data ∷ channel_confirmed Client) (AskData 3 None (replicate 4 0)) ≡ None
unfolding methods has_place some_free
data_within_room_row = refl

pub too_long_before_no_room_row : ask_refusal Client (said_data ∷ channel_confirmed Client) (AskData 3 None (replicate 17 0)) ≡ Some TooLong
unfolding methods has_place some_free
too_long_before_no_room_row = refl

pub largest_data_row : ask_refusal Client wide_channel (AskData 3 None (replicate largest_data 0)) ≡ None
unfolding methods has_place some_free
largest_data_row = refl

pub larger_data_row : ask_refusal Client wide_channel (AskData 3 None (replicate 32769 0)) ≡ Some TooLong
unfolding methods has_place some_free
larger_data_row = refl

pub extended_data_over_room_row : ask_refusal Client (said_data ∷ channel_confirmed Client) (AskData 3 (Some 1) (replicate 5 0)) ≡ Some NoRoom
unfolding methods has_place some_free
extended_data_over_room_row = refl

pub extended_data_over_most_row : ask_refusal Client (channel_confirmed Client) (AskData 3 (Some 1) (replicate 17 0)) ≡ Some TooLong
unfolding methods has_place some_free
extended_data_over_most_row = refl

pub grant_row : ask_refusal Client (channel_confirmed Client) (AskAdjust 3 4294967285) ≡ None
unfolding methods has_place some_free
grant_row = refl

pub grant_too_much_row : ask_refusal Client (channel_confirmed Client) (AskAdjust 3 4294967286) ≡ Some TooMuch
unfolding methods has_place some_free
grant_too_much_row = refl

pub grant_after_data_row : ask_refusal Client (heard_data ∷ channel_confirmed Client) (AskAdjust 3 4294967293) ≡ None
unfolding methods has_place some_free
grant_after_data_row = refl

pub grant_on_no_channel_row : ask_refusal Client (channel_opened Client) (AskAdjust 3 1) ≡ Some NoChannel
unfolding methods has_place some_free
grant_on_no_channel_row = refl

pub grant_after_own_close_row : ask_refusal Client (says_on 3 (ChannelClose 5) ∷ channel_confirmed Client) (AskAdjust 3 1) ≡ Some AskRefusal.Ended
unfolding methods has_place some_free
grant_after_own_close_row = refl

pub grant_after_own_eof_row : ask_refusal Client (says_on 3 (ChannelEof 5) ∷ channel_confirmed Client) (AskAdjust 3 1) ≡ None
unfolding methods has_place some_free
grant_after_own_eof_row = refl

pub end_of_data_row : ask_refusal Client (channel_confirmed Client) (AskEof 3) ≡ None
unfolding methods has_place some_free
end_of_data_row = refl

pub second_own_eof_row : ask_refusal Client (says_on 3 (ChannelEof 5) ∷ channel_confirmed Client) (AskEof 3) ≡ Some AskRefusal.Ended
unfolding methods has_place some_free
second_own_eof_row = refl

pub eof_after_own_close_row : ask_refusal Client (says_on 3 (ChannelClose 5) ∷ channel_confirmed Client) (AskEof 3) ≡ Some AskRefusal.Ended
unfolding methods has_place some_free
eof_after_own_close_row = refl

pub eof_on_no_channel_row : ask_refusal Client (channel_opened Client) (AskEof 3) ≡ Some NoChannel
unfolding methods has_place some_free
eof_on_no_channel_row = refl

pub close_after_own_eof_row : ask_refusal Client (says_on 3 (ChannelEof 5) ∷ channel_confirmed Client) (AskClose 3) ≡ None
unfolding methods has_place some_free
close_after_own_eof_row = refl

pub second_own_close_row : ask_refusal Client (says_on 3 (ChannelClose 5) ∷ channel_confirmed Client) (AskClose 3) ≡ Some AskRefusal.Ended
unfolding methods has_place some_free
second_own_close_row = refl

pub close_on_no_channel_row : ask_refusal Client (channel_opened Client) (AskClose 3) ≡ Some NoChannel
unfolding methods has_place some_free
close_on_no_channel_row = refl

pub many_own_requests_row : ask_refusal Client (replicate 255 said_request ++ channel_confirmed Client) (AskRequest 3 [] true []) ≡ Some RekeyDue
unfolding methods has_place some_free
many_own_requests_row = refl

pub too_many_own_requests_row : ask_refusal Client (replicate 256 said_request ++ channel_confirmed Client) (AskRequest 3 [] true []) ≡ Some Busy
unfolding methods has_place some_free
too_many_own_requests_row = refl

pub own_request_without_reply_row : ask_refusal Client (replicate 256 said_request ++ channel_confirmed Client) (AskRequest 3 [] false []) ≡ Some RekeyDue
unfolding methods has_place some_free
own_request_without_reply_row = refl

pub too_many_requests_on_a_channel_row : first_refusal (ask_checks patient Client (replicate 256 said_request ++ channel_confirmed Client) (AskRequest 3 [] true [])) ≡ Some Busy
too_many_requests_on_a_channel_row = refl

pub request_on_unused_number_row : first_refusal (ask_checks patient Client (replicate 256 said_request ++ channel_confirmed Client) (AskRequest 900 [] true [])) ≡ Some NoChannel
request_on_unused_number_row = refl

pub request_on_no_channel_row : ask_refusal Client (channel_opened Client) (AskRequest 3 [] true []) ≡ Some NoChannel
unfolding methods has_place some_free
request_on_no_channel_row = refl

pub request_after_own_close_row : ask_refusal Client (says_on 3 (ChannelClose 5) ∷ channel_confirmed Client) (AskRequest 3 [] true []) ≡ Some AskRefusal.Ended
unfolding methods has_place some_free
request_after_own_close_row = refl

pub long_request_row : ask_refusal Client (channel_confirmed Client) (AskRequest 3 (codes "x") true (replicate 33989 0)) ≡ None
unfolding methods has_place some_free
long_request_row = refl

pub too_long_request_row : ask_refusal Client (channel_confirmed Client) (AskRequest 3 (codes "x") true (replicate 33990 0)) ≡ Some TooLong
unfolding methods has_place some_free
too_long_request_row = refl

pub request_reply_row : ask_refusal Client (heard_request ∷ channel_confirmed Client) (AskReply 3 true) ≡ None
unfolding methods has_place some_free
request_reply_row = refl

pub reply_to_nothing_row : ask_refusal Client (channel_confirmed Client) (AskReply 3 false) ≡ Some NothingOwed
unfolding methods has_place some_free
reply_to_nothing_row = refl

pub second_reply_row : ask_refusal Client (says_on 3 (ChannelFailure 5) ∷ heard_request ∷ channel_confirmed Client) (AskReply 3 true) ≡ Some NothingOwed
unfolding methods has_place some_free
second_reply_row = refl

pub reply_on_no_channel_row : ask_refusal Client (channel_opened Client) (AskReply 3 true) ≡ Some NoChannel
unfolding methods has_place some_free
reply_on_no_channel_row = refl

pub reply_after_own_close_row : ask_refusal Client (says_on 3 (ChannelClose 5) ∷ channel_confirmed Client) (AskReply 3 true) ≡ Some AskRefusal.Ended
unfolding methods has_place some_free
reply_after_own_close_row = refl

pub global_request_row : ask_refusal Client (admitted Client) (AskGlobal (codes "x") true (replicate 33993 0)) ≡ None
unfolding methods has_place some_free
global_request_row = refl

pub too_long_global_request_row : ask_refusal Client (admitted Client) (AskGlobal (codes "x") true (replicate 33994 0)) ≡ Some TooLong
unfolding methods has_place some_free
too_long_global_request_row = refl

pub many_own_globals_row : ask_refusal Client (replicate 255 (says (GlobalRequest [] true [])) ++ admitted Client) (AskGlobal [] true []) ≡ Some RekeyDue
unfolding methods has_place some_free
many_own_globals_row = refl

pub too_many_own_globals_row : ask_refusal Client (replicate 256 (says (GlobalRequest [] true [])) ++ admitted Client) (AskGlobal [] true []) ≡ Some Busy
unfolding methods has_place some_free
too_many_own_globals_row = refl

pub own_global_without_reply_row : ask_refusal Client (replicate 256 (says (GlobalRequest [] true [])) ++ admitted Client) (AskGlobal [] false []) ≡ Some RekeyDue
unfolding methods has_place some_free
own_global_without_reply_row = refl

pub global_reply_row : ask_refusal Client (hears (GlobalRequest [] true []) ∷ admitted Client) (AskGlobalReply true (replicate 33999 0)) ≡ None
unfolding methods has_place some_free
global_reply_row = refl

pub too_long_global_reply_row : ask_refusal Client (hears (GlobalRequest [] true []) ∷ admitted Client) (AskGlobalReply true (replicate longest_payload 0)) ≡ Some TooLong
unfolding methods has_place some_free
too_long_global_reply_row = refl

pub global_reply_to_nothing_row : ask_refusal Client (hears (GlobalRequest [] false []) ∷ admitted Client) (AskGlobalReply true (replicate longest_payload 0)) ≡ Some NothingOwed
unfolding methods has_place some_free
global_reply_to_nothing_row = refl

pub global_failure_row : ask_refusal Client (hears (GlobalRequest [] true []) ∷ admitted Client) (AskGlobalReply false []) ≡ None
unfolding methods has_place some_free
global_failure_row = refl

pub global_failure_of_nothing_row : ask_refusal Client (admitted Client) (AskGlobalReply false []) ≡ Some NothingOwed
unfolding methods has_place some_free
global_failure_of_nothing_row = refl
