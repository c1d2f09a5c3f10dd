-- What the lines of asks ask, in the words of the model.
use Rattle.std.specs.Prelude.{true, false, Some, None, []}
use Rattle.ssh_model.specs.Protocol.Sessions.Items as session
use Rattle.ssh_script.specs.declared.ask_line.AskLine.{AskLine}
use Rattle.ssh_script.specs.declared.ask_line.AskLine.TheVariants as ask
use Rattle.ssh_script.specs.declared.data_line.DataLine.{DataLine}
use Rattle.ssh_script.specs.declared.data_line.DataLine.TheVariants as data_line
use Rattle.ssh_script.specs.declared.opening_line.OpeningLine.{OpeningLine}
use Rattle.ssh_script.specs.declared.opening_line.OpeningLine.TheVariants as opening
use Rattle.ssh_script.specs.declared.request_line.RequestLine.{RequestLine}
use Rattle.ssh_script.specs.declared.request_line.RequestLine.TheVariants as request
use Rattle.ssh_script.specs.declared.user_line.UserLine.{UserLine}
use Rattle.ssh_script.specs.declared.user_line.UserLine.TheVariants as user

abbrev pub ask_of_user : UserLine → session.Ask
ask_of_user (user.None name) = session.Ask.AskNone name.items
ask_of_user (user.Password name password) = session.Ask.AskPassword name.items password.items
ask_of_user (user.Probe name algorithm key) = session.Ask.AskProbe name.items algorithm.items key.items
ask_of_user (user.Sign name algorithm key) = session.Ask.AskSign name.items algorithm.items key.items

abbrev pub ask_of_opening : OpeningLine → session.Ask
ask_of_opening (opening.Open kind window max_packet rest) = session.Ask.AskOpen kind.items window max_packet rest.items
ask_of_opening (opening.Confirm channel window max_packet rest) = session.Ask.AskConfirm channel window max_packet rest.items
ask_of_opening (opening.Refuse channel reason) = session.Ask.AskRefuse channel reason

abbrev pub ask_of_data : DataLine → session.Ask
ask_of_data (data_line.Data channel body) = session.Ask.AskData channel None body.items
ask_of_data (data_line.Extended channel kind body) = session.Ask.AskData channel (Some kind) body.items
ask_of_data (data_line.Adjust channel bytes) = session.Ask.AskAdjust channel bytes
ask_of_data (data_line.Eof channel) = session.Ask.AskEof channel
ask_of_data (data_line.Close channel) = session.Ask.AskClose channel

abbrev pub ask_of_request : RequestLine → session.Ask
ask_of_request (request.Channel channel name want rest) = session.Ask.AskRequest channel name.items want rest.items
ask_of_request (request.Reply channel success) = session.Ask.AskReply channel success
ask_of_request (request.Global name want rest) = session.Ask.AskGlobal name.items want rest.items
ask_of_request (request.GlobalSuccess rest) = session.Ask.AskGlobalReply true rest.items
ask_of_request request.GlobalFailure = session.Ask.AskGlobalReply false []

abbrev pub ask_of_line : AskLine → session.Ask
ask_of_line ask.Service = session.Ask.AskService
ask_of_line (ask.User line) = ask_of_user line
ask_of_line ask.Rekey = session.Ask.AskRekey
ask_of_line (ask.Opening line) = ask_of_opening line
ask_of_line (ask.Data line) = ask_of_data line
ask_of_line (ask.Request line) = ask_of_request line
ask_of_line (ask.Disconnect description) = session.Ask.AskDisconnect description.items
