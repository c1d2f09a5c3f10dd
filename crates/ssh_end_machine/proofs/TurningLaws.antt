-- The laws of the model by which what an end makes of bytes is a turn of a session.
use Rattle.std.specs.Prelude.{◌≡◌, ◌<◌, ◌^◌, ◌++◌, ℕ, List, [], ◌∷◌, None, true, false}
use Rattle.ssh_model.specs.declared.side.Side.{Side}
use Rattle.ssh_model.specs.Protocol.Wire.Message.{Msg}
use Rattle.ssh_model.specs.Laws.Units.{IsPartialLine, IsPartialPacket}
use Rattle.ssh_model.specs.Protocol.Wire.Sealing.{IsSealing}
use Rattle.ssh_model.specs.Protocol.Wire.Unit.{IsUnit}
use Rattle.ssh_model.specs.Protocol.Wire.Outcome.{Outcome.OtherLine, Outcome.VersionLine, Outcome.RefusedLine, Outcome.Opens, Outcome.RefusedPacket}
use Rattle.ssh_model.specs.Protocol.Wire.Delivery.{Waits}
use Rattle.ssh_model.specs.declared.refusal.Refusal.{Refusal}
use Rattle.ssh_model.specs.Protocol.Sessions.Parties.{AreLawful, Parties}
use Rattle.ssh_model.specs.Protocol.Sessions.Items.{Item, Fact.Completed, Item.Took, Item.TookLine, Item.TookOtherLine, Item.Told, messages_sent}
use Rattle.ssh_model.specs.Protocol.Sessions.Turns.{EndRun, OnPayload, OnUnit, stage}
use Rattle.ssh_model.specs.State.TransportLayer.Kept.{Transport}
use Rattle.ssh_model.specs.State.TransportLayer.Summary.{SumsUp}
use Rattle.ssh_model.specs.State.TransportLayer.Turns.{EndedBy, PutsPackets, Turned, UnitRefused}
use Rattle.ssh_model.specs.State.End.State.{EndState, after_items}
use Rattle.ssh_model.specs.State.End.Summary.{EndSumsUp, EndTurned}
use Rattle.ssh_model.specs.State.End.Payloads.{GivesOwed, TakesPayload}
use Rattle.ssh_model.specs.State.End.Below.{AreBelow, opened_by_all}
use Rattle.ssh_model.specs.Protocol.Channels.Connection.{AreReplies, owed_replies}
use Rattle.ssh_model.specs.State.Channels.Kept.{Channels, peer_of}
use Rattle.ssh_model.specs.State.Channels.Places.{at}
use Rattle.ssh_model.specs.State.End.Deaths.{CanSettle}
use Rattle.ssh_model.specs.State.End.Reading.{end_reading}

pub record TurningLaws (K : Type 0) : Type 0 where
  pub layered : (p : Parties K) (side : Side) (history : List Item) (e : EndState K) → EndSumsUp p side history e → e.transport.dead ≡ false → (payload : List ℕ) (items : List Item) (more : List ℕ) (transport : Transport K) → AreBelow items → Turned p side history payload items more transport →
      EndTurned p side history (OnPayload p side history payload) items more (record e { transport = transport; authentication = opened_by_all items e.authentication })
  pub over : (p : Parties K) (side : Side) (history : List Item) (e : EndState K) → EndSumsUp p side history e → e.transport.dead ≡ false → (payload : List ℕ) (items : List Item) (more : List ℕ) (new : EndState K) → Turned p side history payload items more new.transport → new.transport.dead ≡ true →
      EndTurned p side history (OnPayload p side history payload) items more new
  pub version : (p : Parties K) (side : Side) (history : List Item) (e : EndState K) → EndSumsUp p side history e → e.transport.dead ≡ false → (unit line : List ℕ) (transport : Transport K) → IsUnit p.crypto (stage p side history) unit (VersionLine line) → SumsUp p side (TookLine line ∷ history) transport →
      EndTurned p side history (OnUnit p side history unit) (TookLine line ∷ []) [] (record e { transport = transport })
  pub other : (p : Parties K) (side : Side) (history : List Item) (e : EndState K) → EndSumsUp p side history e → e.transport.dead ≡ false → (unit line : List ℕ) (transport : Transport K) → IsUnit p.crypto (stage p side history) unit (OtherLine line) → SumsUp p side (TookOtherLine line ∷ history) transport →
      EndTurned p side history (OnUnit p side history unit) (TookOtherLine line ∷ []) [] (record e { transport = transport })
  pub refused_line : (p : Parties K) (side : Side) (history : List Item) (e : EndState K) → EndSumsUp p side history e → e.transport.dead ≡ false → (unit : List ℕ) (refusal : Refusal) (items : List Item) (more : List ℕ) (new : EndState K) → IsUnit p.crypto (stage p side history) unit (RefusedLine refusal) → UnitRefused p side history items refusal more new.transport → new.transport.dead ≡ true →
      EndTurned p side history (OnUnit p side history unit) items more new
  pub refused_packet : (p : Parties K) (side : Side) (history : List Item) (e : EndState K) → EndSumsUp p side history e → e.transport.dead ≡ false → (unit : List ℕ) (refusal : Refusal) (items : List Item) (more : List ℕ) (new : EndState K) → IsUnit p.crypto (stage p side history) unit (RefusedPacket refusal) → UnitRefused p side history items refusal more new.transport → new.transport.dead ≡ true →
      EndTurned p side history (OnUnit p side history unit) items more new
  pub opened : (p : Parties K) (side : Side) (history : List Item) (e : EndState K) → EndSumsUp p side history e → e.transport.dead ≡ false → (unit payload : List ℕ) (items : List Item) (more : List ℕ) (new : EndState K) → IsUnit p.crypto (stage p side history) unit (Opens payload) → EndTurned p side history (OnPayload p side history payload) items more new →
      EndTurned p side history (OnUnit p side history unit) items more new
  pub taken : (p : Parties K) (side : Side) (history : List Item) (e : EndState K) → EndSumsUp p side history e → e.transport.dead ≡ false → (payload : List ℕ) (items : List Item) (more : List ℕ) (new : EndState K) → TakesPayload p side e payload items more new → EndTurned p side history (OnPayload p side history payload) items more new
  pub ended : (p : Parties K) (side : Side) (history : List Item) (e : EndState K) → EndSumsUp p side history e → e.transport.dead ≡ false → (message : Msg) (payload : List ℕ) (position : ℕ) (items : List Item) (more later : List ℕ) (transport : Transport K) (owed : List Item) (channels : Channels) → EndedBy p side history message payload position items more transport → transport.dead ≡ false →
      GivesOwed e.channels owed channels → channels.owed ≡ [] → PutsPackets p.crypto transport.sending (messages_sent owed) later →
      EndTurned p side history (OnPayload p side history payload) ((Told (Completed position) ∷ (owed ++ items)) ++ Took None message payload ∷ []) (more ++ later) (record e { transport = after_items side owed transport; channels = channels })
  pub given : (p : Parties K) (side : Side) (history : List Item) (e : EndState K) → EndSumsUp p side history e → e.transport.dead ≡ false → (owed : List Item) (channels : Channels) → GivesOwed e.channels owed channels → channels.owed ≡ [] → AreReplies (owed_replies side history) owed
  pub settled : (p : Parties K) → AreLawful p → (side : Side) (history : List Item) (e : EndState K) → EndSumsUp p side history e → e.transport.dead ≡ false → EndRun p side history → CanSettle e.channels
  pub named : (p : Parties K) → AreLawful p → (side : Side) (history : List Item) (e : EndState K) → EndSumsUp p side history e → e.transport.dead ≡ false → EndRun p side history → (number : ℕ) → peer_of (at e.channels.places number) < 2 ^ 32
  pub packets_begun : (p : Parties K) (side : Side) (history : List Item) (s : Transport K) → SumsUp p side history s → s.dead ≡ false → IsSealing p.crypto → s.lines.found ≡ true → (bytes : List ℕ) → IsPartialPacket p.crypto s.taking.key s.taking.count bytes → Waits (end_reading p side) history bytes
  pub lines_begun : (p : Parties K) (side : Side) (history : List Item) (s : Transport K) → SumsUp p side history s → s.dead ≡ false → IsSealing p.crypto → s.lines.found ≡ false → (bytes : List ℕ) → IsPartialLine bytes → Waits (end_reading p side) history bytes
