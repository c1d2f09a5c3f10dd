-- The facts that a user is told of a message of authentication (RFC 4252).
use Rattle.std.specs.Prelude.{Option, Some, None}
use Rattle.ssh_model.specs.Protocol.Wire.Message.{Msg, Msg.UserauthRequest, Msg.UserauthFailure, Msg.UserauthBanner, Msg.UserauthPkOk}
use Rattle.ssh_model.specs.Protocol.Sessions.Items.{Fact, Fact.Accepted, Fact.Failed, Fact.Banner, Fact.KeyOk, credential}

-- The fact of a message that a client took, which the message says by itself. SUCCESS does not say what it answers, and a message of
-- another layer has no fact here.
abbrev pub fact_by : Msg → Option Fact
fact_by (UserauthFailure methods partial) = Some (Failed methods partial)
fact_by (UserauthBanner message language) = Some (Banner message)
fact_by (UserauthPkOk algorithm key) = Some (KeyOk algorithm key)
fact_by message = None

-- the fact of the user whom a request lets in, and of the credential that it shows
abbrev pub accepted_by : Msg → Option Fact
accepted_by (UserauthRequest user service method) = Some (Accepted user (credential method))
accepted_by message = None
