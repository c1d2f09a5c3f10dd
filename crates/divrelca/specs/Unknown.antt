-- The answers to requests that a program does not know.
use Rattle.std.specs.Prelude.{true, false, Option, Some, None, []}
use Rattle.ssh_model.specs.Protocol.Sessions.Items.{Ask, Ask.AskGlobalReply, Ask.AskRefuse, Ask.AskReply, Fact, Fact.Global, Fact.Opened, Fact.Requested}

-- A channel is refused as of unknown type, which is reason 3 (RFC 4254 section 5.1). A request that wants a reply fails (sections 4 and 5.4).
abbrev pub default_answer_of : Fact → Option Ask
default_answer_of (Opened channel kind window most rest) = Some (AskRefuse channel 3)
default_answer_of (Requested channel name true rest) = Some (AskReply channel false)
default_answer_of (Global name true rest) = Some (AskGlobalReply false [])
default_answer_of _ = None
