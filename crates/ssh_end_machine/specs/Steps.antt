-- The step of an end in a turn, as items of a session.
use Rattle.std.specs.Prelude.{◌≡◌, ℕ, Bool, false, Option, Some, None, List, [], ◌∷◌, ◌++◌}
use Rattle.ssh_model.specs.declared.side.Side.{Side}
use Rattle.ssh_model.specs.Protocol.Wire.Message.{Msg, Msg.Disconnect, Msg.Ignore, Msg.Unimplemented, Msg.Debug}
use Rattle.ssh_model.specs.Protocol.Wire.Message.{Msg.ServiceAccept, Msg.ExtInfo, Msg.UserauthFailure}
use Rattle.ssh_model.specs.Protocol.Wire.Message.{Msg.UserauthBanner, Msg.UserauthPkOk, IsPayload}
use Rattle.ssh_model.specs.Protocol.Sessions.Items.{Fact, Fact.Authenticated, Fact.Disconnected, Fact.Ignored, Fact.NotImplemented, Fact.Debugged}
use Rattle.ssh_model.specs.Protocol.Sessions.Items.{Fact.Service, Fact.GotExtensions}
use Rattle.ssh_model.specs.Protocol.Sessions.Items.{Fact.Completed, Item, Item.Died}
use Rattle.ssh_model.specs.Protocol.Sessions.Items.{Item.Told, Item.Took, Item.TookGuess, Item.TookLine, Item.TookOtherLine}
use Rattle.ssh_model.specs.Protocol.Sessions.Items.{Encoded, messages_sent}
use Rattle.ssh_model.specs.Protocol.Sessions.Parties.{Parties}
use Rattle.ssh_model.specs.Protocol.Sessions.Turns.{OnUnit}
use Rattle.ssh_model.specs.State.Channels.Summary.{told}
use Rattle.ssh_model.specs.State.TransportLayer.Turns.{refusal_items}
use Rattle.ssh_model.specs.State.End.State.{EndState}
use Rattle.ssh_model.specs.State.End.Summary.{EndSumsUp, EndTurned}
use Rattle.ssh_auth.specs.Facts as userauth
use Rattle.ssh_channels.specs.Facts as connection
use Rattle.ssh_transport_machine.specs.Puts.{Outs, payloads_of}
use Rattle.ssh_transport_machine.specs.State.{State}
use Rattle.ssh_end_machine.specs.WithChannels.{channels_by}
use Rattle.ssh_end_machine.specs.Owed.{channels_sent}
use Rattle.ssh_end_machine.specs.declared.step.Step.{Step}
use Rattle.ssh_end_machine.specs.declared.step.Step.TheVariants as step
use Rattle.ssh_end_machine.specs.declared.step.EventKind.{EventKind}
use Rattle.ssh_end_machine.specs.declared.step.EventKind.TheVariants as event_kind

-- ---- facts

-- what is told of a message by itself, where it belongs to this channel, or to none: of a message of authentication what that tells, and
-- of one of the connection what channels tell
abbrev pub fact_by : Msg → (channel : Option ℕ) → Option Fact
fact_by (Disconnect reason description language) channel = Some (Disconnected reason description)
fact_by (Ignore body) channel = Some Ignored
fact_by (Unimplemented number) channel = Some (NotImplemented number)
fact_by (Debug display message language) channel = Some (Debugged display message)
fact_by (ServiceAccept service) channel = Some Service
fact_by (ExtInfo announced) channel = Some (GotExtensions announced)
fact_by (UserauthFailure methods partial) channel = userauth.fact_by (UserauthFailure methods partial)
fact_by (UserauthBanner message language) channel = userauth.fact_by (UserauthBanner message language)
fact_by (UserauthPkOk algorithm key) channel = userauth.fact_by (UserauthPkOk algorithm key)
fact_by message channel = connection.fact_by message channel

-- the fact that is told of a message
abbrev pub fact_told : EventKind → Msg → (channel : Option ℕ) → Option Fact
fact_told event_kind.Message message channel = fact_by message channel
fact_told event_kind.Accepted message channel = userauth.accepted_by message
fact_told (event_kind.Authenticated request) message channel = Some (Authenticated request)
fact_told event_kind.Ignored message channel = Some Ignored
fact_told (event_kind.Completed position) message channel = Some (Completed position)

-- ---- the items of a turn

-- Nothing but messages sent.
abbrev pub AreSent : List Item → Type 0
AreSent [] = Unit {0}
AreSent (Item.Sent channel message payload ∷ items) = AreSent items
AreSent (_ ∷ items) = ⊥

-- the text of the line, without CR LF, or the payload of the packet that a step took
abbrev pub shown_by : {K : Type 0} → Step → State K → List ℕ
shown_by step.OtherLine s = s.reading.text
shown_by step.VersionLine s = s.kept.lines.line
shown_by _ s = s.receiver.payload

-- The items of a turn, the newest first, by the step. A line that was taken has this text, and a packet this payload.
pub data Shows (payload : List ℕ) : Step → List Item → Type 0 where
  other_line : Shows payload step.OtherLine (TookOtherLine payload ∷ [])
  version_line : Shows payload step.VersionLine (TookLine payload ∷ [])
  skipped : Shows payload step.Skipped (Told Ignored ∷ TookGuess payload ∷ [])
  took : (channel : Option ℕ) (probing : Bool) (event_kind : EventKind) (message : Msg) (sent : List Item) →
      IsPayload probing message payload → AreSent sent →
      Shows payload (step.Took (record { channel = channel; probing = probing; event_kind = event_kind }))
      (told (fact_told event_kind message channel) sent ++ Took channel message payload ∷ [])
  disconnected : (reason : ℕ) (description language : List ℕ) →
      IsPayload false (Disconnect reason description language) payload →
      Shows payload (step.Took (record { channel = None; probing = false; event_kind = event_kind.Message }))
      (Died ∷ Told (Disconnected reason description) ∷ Took None (Disconnect reason description language) payload ∷ [])
  -- with the payload of the refused packet, if it was opened
  refused : (why : _) (opened : Option (List ℕ)) (said : List Encoded) →
      Shows payload (step.Refused why) (refusal_items why opened said)

-- Where an end that sums up this history does this step, these items are sent on the channels of the step: what was owed after all else.
abbrev pub SendsOn : {K : Type 0} → Parties K → Side → (history items : List Item) → Step → Type 0
SendsOn {K} p side history items given =
    (old : EndState K) → EndSumsUp p side history old → old.transport.dead ≡ false →
    channels_sent items ≡ channels_by given old.channels.owed (payloads_of (messages_sent items))

-- The step of a unit is a turn of a session. Its items, bytes and payloads are listed.
pub record UnitTurned {K : Type 0} (p : Parties K) (side : Side) (history : List Item) (unit payload : List ℕ)
    (given : Step) (new : EndState K) (o : Outs) : Type 0 where
  pub items : List Item
  pub more : List ℕ
  pub shows : Shows payload given items
  pub sends_on : SendsOn p side history items given
  pub turned : EndTurned p side history (OnUnit p side history unit) items more new
  pub parts : o.after ≡ o.before ++ more
  pub lists : o.payloads_after ≡ o.payloads_before ++ payloads_of (messages_sent items)
