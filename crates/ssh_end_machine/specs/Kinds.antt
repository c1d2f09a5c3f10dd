-- The kinds of asks and facts, without texts.
use Rattle.std.specs.Prelude.{Some, None, length}
use Rattle.ssh_model.specs.Protocol.Sessions.Items as session
use Rattle.ssh_end_machine.specs.declared.ask_kind.AskKind.{AskKind}
use Rattle.ssh_end_machine.specs.declared.ask_kind.AskKind.TheVariants as kind
use Rattle.ssh_end_machine.specs.declared.told_kind.ToldKind.{ToldKind}
use Rattle.ssh_end_machine.specs.declared.told_kind.ToldKind.TheVariants as fact

-- the kind of an ask, without its texts and numbers
abbrev pub kind_of : session.Ask → AskKind
kind_of session.Ask.AskService = kind.Service
kind_of (session.Ask.AskNone user) = kind.None
kind_of (session.Ask.AskPassword user password) = kind.Password
kind_of (session.Ask.AskProbe user algorithm key) = kind.Probe
kind_of (session.Ask.AskSign user algorithm key) = kind.Sign
kind_of session.Ask.AskRekey = kind.Rekey
kind_of (session.Ask.AskOpen name window most rest) = kind.Open
kind_of (session.Ask.AskConfirm channel window most rest) = kind.Confirm
kind_of (session.Ask.AskRefuse channel reason) = kind.Refuse
kind_of (session.Ask.AskData channel None body) = kind.Data
kind_of (session.Ask.AskData channel (Some type) body) = kind.Extended
kind_of (session.Ask.AskAdjust channel bytes) = kind.Adjust
kind_of (session.Ask.AskEof channel) = kind.Eof
kind_of (session.Ask.AskClose channel) = kind.Close
kind_of (session.Ask.AskRequest channel name want rest) = kind.Request
kind_of (session.Ask.AskReply channel answer) = kind.Reply
kind_of (session.Ask.AskGlobal name want rest) = kind.Global
kind_of (session.Ask.AskGlobalReply answer rest) = kind.GlobalReply
kind_of (session.Ask.AskDisconnect description) = kind.Disconnect

-- a fact without its texts
abbrev pub shown_fact : session.Fact → ToldKind
shown_fact (session.Fact.Completed position) = fact.Completed position
shown_fact session.Fact.Service = fact.Service
shown_fact (session.Fact.Accepted user by) = fact.Accepted
shown_fact (session.Fact.Authenticated request) = fact.Authenticated request
shown_fact (session.Fact.Failed methods partial) = fact.Failed
shown_fact (session.Fact.Banner message) = fact.Banner
shown_fact (session.Fact.KeyOk algorithm key) = fact.KeyOk
shown_fact session.Fact.Ignored = fact.Ignored
shown_fact (session.Fact.GotExtensions extensions) = fact.Extensions
shown_fact (session.Fact.Debugged display message) = fact.Debugged
shown_fact (session.Fact.NotImplemented number) = fact.Unimplemented number
shown_fact (session.Fact.Disconnected reason description) = fact.Disconnected reason
shown_fact (session.Fact.Global name want rest) = fact.Global
shown_fact (session.Fact.GlobalDone answer rest) = fact.GlobalDone answer
shown_fact (session.Fact.Opening channel) = fact.Opening channel
shown_fact (session.Fact.Opened channel name window most rest) = fact.Opened channel
shown_fact (session.Fact.Confirmed channel window most rest) = fact.Confirmed channel
shown_fact (session.Fact.OpenFailed channel reason description) = fact.OpenFailed channel reason
shown_fact (session.Fact.GotData channel type body) = fact.GotData channel type (length body)
shown_fact (session.Fact.Adjusted channel bytes) = fact.Adjusted channel bytes
shown_fact (session.Fact.Ended channel) = fact.Ended channel
shown_fact (session.Fact.Closed channel) = fact.Closed channel
shown_fact (session.Fact.Requested channel name want rest) = fact.Requested channel
shown_fact (session.Fact.RequestDone channel answer) = fact.RequestDone channel answer
