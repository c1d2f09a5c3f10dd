-- The facts that a user is told, as facts of the model.
use Rattle.ssh_types.specs.Values.{names}
use Rattle.ssh_message.specs.Announced.{extensions_of}
use Rattle.ssh_model.specs.Protocol.Sessions.Items as session
use Rattle.ssh_auth.specs.declared.answer.ClientAnswer.{ClientAnswer}
use Rattle.ssh_auth.specs.declared.answer.ClientAnswer.TheVariants as to_client
use Rattle.ssh_auth.specs.declared.answer.ServerAnswer.{ServerAnswer}
use Rattle.ssh_auth.specs.declared.answer.ServerAnswer.TheVariants as answer
use Rattle.ssh_channels.specs.Values.{fact_of}
use Rattle.ssh_end_machine.specs.declared.step.EventKind.{EventKind}
use Rattle.ssh_end_machine.specs.declared.step.EventKind.TheVariants as event_kind
use Rattle.ssh_end_machine.specs.declared.told.Credential.{Credential}
use Rattle.ssh_end_machine.specs.declared.told.Credential.TheVariants as credential
use Rattle.ssh_end_machine.specs.declared.told.Told.{Told}
use Rattle.ssh_end_machine.specs.declared.told.Told.TheVariants as told

abbrev pub credential_of : Credential → session.Credential
credential_of credential.None = session.Credential.NoCredential
credential_of credential.Password = session.Credential.ByPassword
credential_of (credential.Key algorithm key) = session.Credential.ByKey algorithm.now key.now

abbrev pub told_of : Told → session.Fact
told_of (told.Completed position) = session.Fact.Completed position
told_of told.Service = session.Fact.Service
told_of (told.Accepted user by) = session.Fact.Accepted user.now (credential_of by)
told_of (told.Authenticated request) = session.Fact.Authenticated request
told_of (told.Failed methods partial) = session.Fact.Failed (names methods) partial
told_of (told.Banner message) = session.Fact.Banner message.now
told_of (told.KeyOk algorithm key) = session.Fact.KeyOk algorithm.now key.now
told_of told.Ignored = session.Fact.Ignored
told_of (told.Extensions extensions) = session.Fact.GotExtensions (extensions_of extensions)
told_of (told.Debugged display message) = session.Fact.Debugged display message.now
told_of (told.Unimplemented number) = session.Fact.NotImplemented number
told_of (told.Disconnected reason description) = session.Fact.Disconnected reason description.now
told_of (told.Channel fact) = fact_of fact

-- how the message is told of that a client answers so
abbrev pub client_kind_of : ClientAnswer → EventKind
client_kind_of (to_client.Authenticated request) = event_kind.Authenticated request
client_kind_of given = event_kind.Message

-- how the request is told of that a server answers so
abbrev pub event_kind_of : ServerAnswer → EventKind
event_kind_of answer.Accepted = event_kind.Accepted
event_kind_of answer.Ignored = event_kind.Ignored
event_kind_of given = event_kind.Message
