-- What the toy ends answer to messages of the connection.
use Rattle.std.specs.Prelude.{◌≡◌, ◌∷◌, Bool, true, false, List, [], Some, None, codes, refl}
use Rattle.ssh_model.specs.declared.side.Side.TheVariants.{Client, Server}
use Rattle.ssh_model.specs.Example.Histories.{says, says_on, offer_of, admitted, open_message, confirm_message, channel_opened, channel_confirmed}
use Rattle.ssh_model.specs.Example.Toys.{toy}
use Rattle.ssh_model.specs.Protocol.Wire.Message.{Msg.KexInit, Msg.GlobalRequest, Msg.RequestSuccess, Msg.RequestFailure, Msg.ChannelOpenFailure, Msg.ChannelWindowAdjust, Msg.ChannelData, Msg.ChannelExtendedData, Msg.ChannelEof, Msg.ChannelClose, Msg.ChannelRequest, Msg.ChannelSuccess, Msg.ChannelFailure}
use Rattle.ssh_model.specs.Protocol.Sessions.Items.{Item, Fact.Global, Fact.GlobalDone, Fact.Opened, Fact.Confirmed, Fact.OpenFailed, Fact.GotData, Fact.Adjusted, Fact.Ended, Fact.Closed, Fact.Requested, Fact.RequestDone, Item.Told}
use Rattle.ssh_model.specs.Protocol.Sessions.Phases.{blocked}
use Rattle.ssh_model.specs.Protocol.Channels.Connection.{is_full}
use Rattle.ssh_model.specs.Protocol.Sessions.Turns.{Answer}
use Rattle.ssh_model.specs.Protocol.KeyExchange.Choice.{methods}
use Rattle.ssh_model.specs.Protocol.Channels.History.{has_place, some_free}
use Rattle.ssh_model.specs.Protocol.Channels.Message.{Message.Open, Message.OpenFailure, Message.Close}
use Rattle.ssh_model.specs.Protocol.Channels.History.{due, at_once}
use Rattle.ssh_model.specs.Protocol.Channels.Connection.{AreReplies, AreReplies.none, AreReplies.reply as due_reply, ConnectionAnswer.global, ConnectionAnswer.global_success, ConnectionAnswer.global_failure, ConnectionAnswer.opened as opens_at, ConnectionAnswer.not_opened, ConnectionAnswer.confirmation, ConnectionAnswer.failure, ConnectionAnswer.adjust, ConnectionAnswer.got_data, ConnectionAnswer.got_extended, ConnectionAnswer.eof, ConnectionAnswer.close, ConnectionAnswer.request, ConnectionAnswer.success, ConnectionAnswer.no_success}
use Rattle.ssh_model.specs.Protocol.Sessions.Turns.{Answer.of_connection}

-- a refusal for want of a place is sent at once, or owed
due_now : (b : Bool) → b ≡ false → AreReplies (at_once b (due None (Open 3 10 8) [])) (says (ChannelOpenFailure 3 4 [] []) ∷ [])
due_now true e = cc e
due_now false e = due_reply None (OpenFailure 3) [] none

due_later : (b : Bool) → b ≡ true → AreReplies (at_once b (due None (Open 3 10 8) [])) []
due_later true e = none
due_later false e = cc e

pub global_request_taken_row : Answer toy Client (channel_confirmed Client) None (GlobalRequest (codes "x") true (codes "y")) (Told (Global (codes "x") true (codes "y")) ∷ [])
unfolding methods has_place some_free
global_request_taken_row = of_connection (global (codes "x") true (codes "y"))

pub global_success_taken_row : Answer toy Client (channel_confirmed Client) None (RequestSuccess (codes "x")) (Told (GlobalDone true (codes "x")) ∷ [])
unfolding methods has_place some_free
global_success_taken_row = of_connection (global_success (codes "x"))

pub global_failure_taken_row : Answer toy Client (channel_confirmed Client) None RequestFailure (Told (GlobalDone false []) ∷ [])
unfolding methods has_place some_free
global_failure_taken_row = of_connection global_failure

pub open_taken_row : Answer toy Server (admitted Server) (Some 5) open_message (Told (Opened 5 (codes "session") 10 8 []) ∷ [])
unfolding methods has_place some_free
open_taken_row = of_connection (opens_at 5 (codes "session") 3 10 8 [] refl)

pub open_taken_at_last_number_row : Answer toy Server (admitted Server) (Some 1023) open_message (Told (Opened 1023 (codes "session") 10 8 []) ∷ [])
unfolding methods has_place some_free
open_taken_at_last_number_row = of_connection (opens_at 1023 (codes "session") 3 10 8 [] refl)

pub open_without_place_row : (h : List Item) → is_full Server h ≡ true → blocked h ≡ false → Answer toy Server h None open_message (says (ChannelOpenFailure 3 4 [] []) ∷ [])
unfolding methods has_place some_free
open_without_place_row h full free = of_connection (not_opened (codes "session") 3 10 8 [] full (due_now (blocked h) free))

pub open_without_place_while_blocked_row : (h : List Item) → is_full Server h ≡ true → blocked h ≡ true → Answer toy Server h None open_message []
unfolding methods has_place some_free
open_without_place_while_blocked_row h full kept = of_connection (not_opened (codes "session") 3 10 8 [] full (due_later (blocked h) kept))

pub confirmation_taken_row : Answer toy Client (channel_opened Client) (Some 3) confirm_message (Told (Confirmed 3 20 16 []) ∷ [])
unfolding methods has_place some_free
confirmation_taken_row = of_connection (confirmation 3 5 20 16 [])

pub open_failure_taken_row : Answer toy Client (channel_opened Client) (Some 3) (ChannelOpenFailure 3 1 (codes "x") []) (Told (OpenFailed 3 1 (codes "x")) ∷ [])
unfolding methods has_place some_free
open_failure_taken_row = of_connection (failure 3 1 (codes "x") [])

pub adjust_taken_row : Answer toy Client (channel_confirmed Client) (Some 3) (ChannelWindowAdjust 3 7) (Told (Adjusted 3 7) ∷ [])
unfolding methods has_place some_free
adjust_taken_row = of_connection (adjust 3 7)

pub data_taken_row : Answer toy Client (channel_confirmed Client) (Some 3) (ChannelData 3 (codes "x")) (Told (GotData 3 None (codes "x")) ∷ [])
unfolding methods has_place some_free
data_taken_row = of_connection (got_data 3 (codes "x"))

pub extended_data_taken_row : Answer toy Client (channel_confirmed Client) (Some 3) (ChannelExtendedData 3 1 (codes "x")) (Told (GotData 3 (Some 1) (codes "x")) ∷ [])
unfolding methods has_place some_free
extended_data_taken_row = of_connection (got_extended 3 1 (codes "x"))

pub eof_taken_row : Answer toy Client (channel_confirmed Client) (Some 3) (ChannelEof 3) (Told (Ended 3) ∷ [])
unfolding methods has_place some_free
eof_taken_row = of_connection (eof 3)

pub close_answered_row : Answer toy Client (channel_confirmed Client) (Some 3) (ChannelClose 3) (Told (Closed 3) ∷ says_on 3 (ChannelClose 5) ∷ [])
unfolding methods has_place some_free
close_answered_row = of_connection (close 3 (due_reply (Some 3) (Close 5) [] none))

pub close_after_close_row : Answer toy Client (says_on 3 (ChannelClose 5) ∷ channel_confirmed Client) (Some 3) (ChannelClose 3) (Told (Closed 3) ∷ [])
unfolding methods has_place some_free
close_after_close_row = of_connection (close 3 none)

pub close_while_blocked_row : Answer toy Client (says (KexInit (offer_of Client false)) ∷ channel_confirmed Client) (Some 3) (ChannelClose 3) (Told (Closed 3) ∷ [])
unfolding methods has_place some_free
close_while_blocked_row = of_connection (close 3 none)

pub request_taken_row : Answer toy Client (channel_confirmed Client) (Some 3) (ChannelRequest 3 (codes "x") true (codes "y")) (Told (Requested 3 (codes "x") true (codes "y")) ∷ [])
unfolding methods has_place some_free
request_taken_row = of_connection (request 3 (codes "x") true (codes "y"))

pub success_taken_row : Answer toy Client (channel_confirmed Client) (Some 3) (ChannelSuccess 3) (Told (RequestDone 3 true) ∷ [])
unfolding methods has_place some_free
success_taken_row = of_connection (success 3)

pub failure_taken_row : Answer toy Client (channel_confirmed Client) (Some 3) (ChannelFailure 3) (Told (RequestDone 3 false) ∷ [])
unfolding methods has_place some_free
failure_taken_row = of_connection (no_success 3)
