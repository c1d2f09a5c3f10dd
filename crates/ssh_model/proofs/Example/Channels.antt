-- What the toy ends refuse a message of the connection for.
use Rattle.std.specs.Prelude.{◌≡◌, ◌∷◌, ◌++◌, true, false, [], Some, None, codes, replicate, refl}
use Rattle.ssh_model.specs.declared.side.Side.TheVariants.{Client, Server}
use Rattle.ssh_model.specs.Example.Histories.{refusal, says, hears, says_on, hears_on, admitted, open_message, confirm_message, channel_opened, channel_confirmed, heard_data, heard_eof, heard_request, closed_by_peer}
use Rattle.ssh_model.specs.Protocol.Wire.Message.{Msg.GlobalRequest, Msg.RequestSuccess, Msg.RequestFailure, Msg.ChannelOpenConfirmation, Msg.ChannelOpenFailure, Msg.ChannelWindowAdjust, Msg.ChannelData, Msg.ChannelExtendedData, Msg.ChannelEof, Msg.ChannelClose, Msg.ChannelRequest, Msg.ChannelSuccess, Msg.ChannelFailure}
use Rattle.ssh_model.specs.Protocol.KeyExchange.Choice.{methods}
use Rattle.ssh_model.specs.Protocol.Channels.History.{has_place, some_free}
use Rattle.ssh_model.specs.declared.refusal.Refusal.TheVariants.{Unexpected, UnknownChannel, WindowOverrun}
use Rattle.ssh_model.specs.declared.refusal.Refusal.TheVariants.{WindowTooLarge, OwedFull}

pub many_global_requests_row : refusal Client (replicate 255 (hears (GlobalRequest [] true [])) ++ admitted Client) (GlobalRequest [] true []) ≡ None
unfolding methods has_place some_free
many_global_requests_row = refl

pub too_many_global_requests_row : refusal Client (replicate 256 (hears (GlobalRequest [] true [])) ++ admitted Client) (GlobalRequest [] true []) ≡ Some OwedFull
unfolding methods has_place some_free
too_many_global_requests_row = refl

pub global_request_without_reply_row : refusal Client (replicate 256 (hears (GlobalRequest [] true [])) ++ admitted Client) (GlobalRequest [] false []) ≡ None
unfolding methods has_place some_free
global_request_without_reply_row = refl

pub replied_global_request_row : refusal Client (says RequestFailure ∷ replicate 256 (hears (GlobalRequest [] true [])) ++ admitted Client) (GlobalRequest [] true []) ≡ None
unfolding methods has_place some_free
replied_global_request_row = refl

pub reply_to_no_global_request_row : refusal Client (says (GlobalRequest [] false []) ∷ admitted Client) (RequestSuccess []) ≡ Some Unexpected
unfolding methods has_place some_free
reply_to_no_global_request_row = refl

pub failure_of_no_global_request_row : refusal Client (admitted Client) RequestFailure ≡ Some Unexpected
unfolding methods has_place some_free
failure_of_no_global_request_row = refl

pub reply_to_global_request_row : refusal Client (says (GlobalRequest [] true []) ∷ admitted Client) (RequestSuccess []) ≡ None
unfolding methods has_place some_free
reply_to_global_request_row = refl

pub failure_of_global_request_row : refusal Client (says (GlobalRequest [] true []) ∷ admitted Client) RequestFailure ≡ None
unfolding methods has_place some_free
failure_of_global_request_row = refl

pub second_reply_to_global_request_row : refusal Client (hears RequestFailure ∷ says (GlobalRequest [] true []) ∷ admitted Client) RequestFailure ≡ Some Unexpected
unfolding methods has_place some_free
second_reply_to_global_request_row = refl

pub channel_open_row : refusal Server (admitted Server) open_message ≡ None
unfolding methods has_place some_free
channel_open_row = refl

pub confirmation_row : refusal Client (channel_opened Client) confirm_message ≡ None
unfolding methods has_place some_free
confirmation_row = refl

pub confirmation_of_no_channel_row : refusal Client (admitted Client) confirm_message ≡ Some UnknownChannel
unfolding methods has_place some_free
confirmation_of_no_channel_row = refl

pub second_confirmation_row : refusal Client (channel_confirmed Client) confirm_message ≡ Some Unexpected
unfolding methods has_place some_free
second_confirmation_row = refl

pub confirmation_while_close_is_owed_row : refusal Client (closed_by_peer Client) confirm_message ≡ Some Unexpected
unfolding methods has_place some_free
confirmation_while_close_is_owed_row = refl

pub confirmation_after_both_closed_row : refusal Client (hears_on 3 (ChannelClose 3) ∷ says_on 3 (ChannelClose 5) ∷ channel_confirmed Client) confirm_message ≡ Some UnknownChannel
unfolding methods has_place some_free
confirmation_after_both_closed_row = refl

pub confirmation_by_who_opened_row : refusal Server (channel_opened Server) (ChannelOpenConfirmation 5 3 10 8 []) ≡ Some Unexpected
unfolding methods has_place some_free
confirmation_by_who_opened_row = refl

pub open_failure_row : refusal Client (channel_opened Client) (ChannelOpenFailure 3 1 [] []) ≡ None
unfolding methods has_place some_free
open_failure_row = refl

pub open_failure_of_no_channel_row : refusal Client (admitted Client) (ChannelOpenFailure 3 1 [] []) ≡ Some UnknownChannel
unfolding methods has_place some_free
open_failure_of_no_channel_row = refl

pub failure_after_confirmation_row : refusal Client (channel_confirmed Client) (ChannelOpenFailure 3 1 [] []) ≡ Some Unexpected
unfolding methods has_place some_free
failure_after_confirmation_row = refl

pub failure_while_close_is_owed_row : refusal Client (closed_by_peer Client) (ChannelOpenFailure 3 1 [] []) ≡ Some Unexpected
unfolding methods has_place some_free
failure_while_close_is_owed_row = refl

pub adjust_row : refusal Client (channel_confirmed Client) (ChannelWindowAdjust 3 4294967275) ≡ None
unfolding methods has_place some_free
adjust_row = refl

pub adjust_too_far_row : refusal Client (channel_confirmed Client) (ChannelWindowAdjust 3 4294967276) ≡ Some WindowTooLarge
unfolding methods has_place some_free
adjust_too_far_row = refl

pub adjust_after_data_row : refusal Client (says_on 3 (ChannelData 5 (codes "x")) ∷ channel_confirmed Client) (ChannelWindowAdjust 3 4294967276) ≡ None
unfolding methods has_place some_free
adjust_after_data_row = refl

pub adjust_of_no_channel_row : refusal Client (channel_opened Client) (ChannelWindowAdjust 3 4294967296) ≡ Some UnknownChannel
unfolding methods has_place some_free
adjust_of_no_channel_row = refl

pub adjust_after_close_row : refusal Client (says_on 3 (ChannelClose 5) ∷ channel_confirmed Client) (ChannelWindowAdjust 3 1) ≡ None
unfolding methods has_place some_free
adjust_after_close_row = refl

pub adjust_after_close_of_peer_row : refusal Client (closed_by_peer Client) (ChannelWindowAdjust 3 1) ≡ Some UnknownChannel
unfolding methods has_place some_free
adjust_after_close_of_peer_row = refl

pub channel_data_row : refusal Client (channel_confirmed Client) (ChannelData 3 (replicate 8 0)) ≡ None
unfolding methods has_place some_free
channel_data_row = refl

pub data_of_no_channel_row : refusal Client (channel_confirmed Client) (ChannelData 5 []) ≡ Some UnknownChannel
unfolding methods has_place some_free
data_of_no_channel_row = refl

pub data_before_confirmation_row : refusal Client (channel_opened Client) (ChannelData 3 []) ≡ Some UnknownChannel
unfolding methods has_place some_free
data_before_confirmation_row = refl

pub data_to_unconfirmed_row : refusal Server (channel_opened Server) (ChannelData 5 []) ≡ Some UnknownChannel
unfolding methods has_place some_free
data_to_unconfirmed_row = refl

pub data_over_size_row : refusal Client (channel_confirmed Client) (ChannelData 3 (replicate 9 0)) ≡ Some WindowOverrun
unfolding methods has_place some_free
data_over_size_row = refl

pub data_over_window_row : refusal Client (heard_data ∷ channel_confirmed Client) (ChannelData 3 (replicate 3 0)) ≡ Some WindowOverrun
unfolding methods has_place some_free
data_over_window_row = refl

pub data_within_window_row : refusal Client (heard_data ∷ channel_confirmed Client) (ChannelData 3 (replicate 2 0)) ≡ None
unfolding methods has_place some_free
data_within_window_row = refl

pub data_after_adjust_row : refusal Client (says_on 3 (ChannelWindowAdjust 5 1) ∷ heard_data ∷ channel_confirmed Client) (ChannelData 3 (replicate 3 0)) ≡ None
unfolding methods has_place some_free
data_after_adjust_row = refl

pub data_after_eof_row : refusal Client (heard_eof ∷ channel_confirmed Client) (ChannelData 3 []) ≡ Some Unexpected
unfolding methods has_place some_free
data_after_eof_row = refl

pub data_after_eof_over_window_row : refusal Client (heard_eof ∷ channel_confirmed Client) (ChannelData 3 (replicate 9 0)) ≡ Some Unexpected
unfolding methods has_place some_free
data_after_eof_over_window_row = refl

pub data_after_close_row : refusal Client (says_on 3 (ChannelClose 5) ∷ channel_confirmed Client) (ChannelData 3 (replicate 8 0)) ≡ None
unfolding methods has_place some_free
data_after_close_row = refl

pub data_after_close_of_peer_row : refusal Client (closed_by_peer Client) (ChannelData 3 []) ≡ Some UnknownChannel
unfolding methods has_place some_free
data_after_close_of_peer_row = refl

pub extended_data_row : refusal Client (channel_confirmed Client) (ChannelExtendedData 3 1 (replicate 8 0)) ≡ None
unfolding methods has_place some_free
extended_data_row = refl

pub extended_data_over_size_row : refusal Client (channel_confirmed Client) (ChannelExtendedData 3 1 (replicate 9 0)) ≡ Some WindowOverrun
unfolding methods has_place some_free
extended_data_over_size_row = refl

pub extended_data_over_window_row : refusal Client (heard_data ∷ channel_confirmed Client) (ChannelExtendedData 3 1 (replicate 3 0)) ≡ Some WindowOverrun
unfolding methods has_place some_free
extended_data_over_window_row = refl

pub extended_data_after_eof_row : refusal Client (heard_eof ∷ channel_confirmed Client) (ChannelExtendedData 3 1 (replicate 9 0)) ≡ Some Unexpected
unfolding methods has_place some_free
extended_data_after_eof_row = refl

pub extended_data_of_no_channel_row : refusal Client (channel_confirmed Client) (ChannelExtendedData 5 1 []) ≡ Some UnknownChannel
unfolding methods has_place some_free
extended_data_of_no_channel_row = refl

pub eof_row : refusal Client (channel_confirmed Client) (ChannelEof 3) ≡ None
unfolding methods has_place some_free
eof_row = refl

pub second_eof_row : refusal Client (heard_eof ∷ channel_confirmed Client) (ChannelEof 3) ≡ Some Unexpected
unfolding methods has_place some_free
second_eof_row = refl

pub eof_of_no_channel_row : refusal Client (channel_opened Client) (ChannelEof 3) ≡ Some UnknownChannel
unfolding methods has_place some_free
eof_of_no_channel_row = refl

pub close_row : refusal Client (heard_eof ∷ channel_confirmed Client) (ChannelClose 3) ≡ None
unfolding methods has_place some_free
close_row = refl

pub close_of_no_channel_row : refusal Client (channel_opened Client) (ChannelClose 3) ≡ Some UnknownChannel
unfolding methods has_place some_free
close_of_no_channel_row = refl

pub second_close_row : refusal Client (hears_on 3 (ChannelClose 3) ∷ says_on 3 (ChannelClose 5) ∷ channel_confirmed Client) (ChannelClose 3) ≡ Some UnknownChannel
unfolding methods has_place some_free
second_close_row = refl

pub many_requests_row : refusal Client (replicate 255 heard_request ++ channel_confirmed Client) (ChannelRequest 3 [] true []) ≡ None
unfolding methods has_place some_free
many_requests_row = refl

pub too_many_requests_row : refusal Client (replicate 256 heard_request ++ channel_confirmed Client) (ChannelRequest 3 [] true []) ≡ Some OwedFull
unfolding methods has_place some_free
too_many_requests_row = refl

pub request_without_reply_row : refusal Client (replicate 256 heard_request ++ channel_confirmed Client) (ChannelRequest 3 [] false []) ≡ None
unfolding methods has_place some_free
request_without_reply_row = refl

pub request_after_close_row : refusal Client (says_on 3 (ChannelClose 5) ∷ replicate 256 heard_request ++ channel_confirmed Client) (ChannelRequest 3 [] true []) ≡ None
unfolding methods has_place some_free
request_after_close_row = refl

pub request_of_no_channel_row : refusal Client (channel_opened Client) (ChannelRequest 3 [] true []) ≡ Some UnknownChannel
unfolding methods has_place some_free
request_of_no_channel_row = refl

pub reply_to_request_row : refusal Client (says_on 3 (ChannelRequest 5 [] true []) ∷ channel_confirmed Client) (ChannelSuccess 3) ≡ None
unfolding methods has_place some_free
reply_to_request_row = refl

pub failure_of_request_row : refusal Client (says_on 3 (ChannelRequest 5 [] true []) ∷ channel_confirmed Client) (ChannelFailure 3) ≡ None
unfolding methods has_place some_free
failure_of_request_row = refl

pub reply_to_no_request_row : refusal Client (says_on 3 (ChannelRequest 5 [] false []) ∷ channel_confirmed Client) (ChannelSuccess 3) ≡ Some Unexpected
unfolding methods has_place some_free
reply_to_no_request_row = refl

pub failure_of_no_request_row : refusal Client (channel_confirmed Client) (ChannelFailure 3) ≡ Some Unexpected
unfolding methods has_place some_free
failure_of_no_request_row = refl

pub reply_of_no_channel_row : refusal Client (channel_opened Client) (ChannelSuccess 3) ≡ Some UnknownChannel
unfolding methods has_place some_free
reply_of_no_channel_row = refl

pub failure_of_no_channel_row : refusal Client (channel_opened Client) (ChannelFailure 3) ≡ Some UnknownChannel
unfolding methods has_place some_free
failure_of_no_channel_row = refl
