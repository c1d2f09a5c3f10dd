-- What a transport makes of a unit, by what its role does: bytes for which an end of a session waits, and what is left of a whole one.
use Rattle.std.proofs.Common.{◌≡◌, ℕ, true, false, List, sym, subst}
use Rattle.std.proofs.lemmas.Bool.{false≢true}
use Rattle.ssh_model.specs.declared.side.Side.{Side}
use Rattle.ssh_model.specs.State.End.Reading.{end_reading}
use Rattle.ssh_model.specs.Protocol.Sessions.Items.{Item}
use Rattle.ssh_model.specs.Protocol.Sessions.Parties.{AreLawful, Parties}
use Rattle.ssh_model.specs.State.TransportLayer.Kept.{Transport}
use Rattle.ssh_model.specs.State.TransportLayer.Summary.{SumsUp}
use Rattle.ssh_model.specs.Protocol.Wire.Delivery.{Waits}
use Rattle.ssh_model.specs.Protocol.Wire.Sealing.{Crypto}
use Rattle.ssh_transport_machine.specs.LineTurns.{LineTaken}
use Rattle.ssh_transport.specs.Outcomes.{LineOutcome}
use Rattle.ssh_transport_machine.specs.Puts.{Outs}
use Rattle.ssh_transport.specs.Sessions.{IsAbove, UnitTurnOf}
use Rattle.ssh_transport.specs.Shown.{PacketTurnOf}
use Rattle.ssh_transport_machine.specs.State.{State}
use Rattle.ssh_transport_machine.specs.declared.machine.LineTurn.{LineTurn}
use Rattle.ssh_transport_machine.specs.declared.machine.LineTurn.TheVariants as line_turn
use Rattle.ssh_transport_machine.specs.declared.machine.sending.SendOutcome.TheVariants as answered
use Rattle.ssh_transport.specs.declared.outcome.TransportTurn.{TransportTurn}
use Rattle.ssh_transport.specs.declared.outcome.TransportTurn.TheVariants as outcome
use Rattle.ssh_transport.specs.Roles.{IsOwnShown, Leaves, OwnTurn}
use Rattle.ssh_transport.specs.Units.{PacketTook, RoleDoes, Took, UnitTook}
use Rattle.ssh_end_machine.specs.Reading.{IsReading}
use Rattle.ssh_end_machine.proofs.TurningDeaths.{line_whole}
use Rattle.ssh_end_machine.proofs.TurningLaws.{TurningLaws}
use Rattle.ssh_end_machine.proofs.TurningReads.{Left, ReadingLaws, line_left, own_left, packet_left}
use Rattle.ssh_end_machine.proofs.TurningWhole.{payload_waits}
use Rattle.ssh_transport.specs.Own.{Own, Share.Shared}

module _ {K : Type 0} (laws : TurningLaws K) (reads : ReadingLaws K) (p : Parties K) (lawful : AreLawful p) (side : Side) (does : RoleDoes K)
    (shown : (old new : State K) (o : Outs) (own : Own) (given : TransportTurn) → does old own given new o → IsOwnShown old given new o)
    (leaves : (old new : State K) (o : Outs) (own : Own) (given : TransportTurn) → does old own given new o → Leaves old given new)
    (history : List Item) (old : State K) (sums : SumsUp p side history old.kept) (reading : old.kept.dead ≡ false → IsReading p.crypto old) (bytes : List ℕ) where
  -- ---- bytes that are no whole unit

  line_waits : old.kept.dead ≡ false → old.kept.lines.found ≡ false → (done : LineTurn) (new : State K) → LineTaken old bytes done new → LineOutcome done outcome.More → Waits (end_reading p side) history bytes
  line_waits alive unfound line_turn.More new x e = laws.lines_begun p side history old.kept sums alive lawful.sealing unfound bytes x.buffered
  line_waits alive unfound line_turn.Other new x e = absurd (cc e)
  line_waits alive unfound line_turn.Version new x e = absurd (cc e)
  line_waits alive unfound (line_turn.Refused why) new x e = absurd e

  packet_waits : old.kept.dead ≡ false → old.kept.lines.found ≡ true → (new : State K) (o : Outs) → PacketTurnOf p side history old.kept bytes (Shared outcome.More) new o → Waits (end_reading p side) history bytes
  packet_waits alive found new o (PacketTurnOf.buffered x) = laws.packets_begun p side history old.kept sums alive lawful.sealing found bytes x.buffered
  packet_waits alive found new o (PacketTurnOf.payload x) = absurd (payload_waits p side history old.kept x.between new o x.turn)

  pub unit_waits : (new : State K) (o : Outs) → Took p.crypto side does old bytes outcome.More new o → Waits (end_reading p side) history bytes
  unit_waits new o x = go x.takes
    where
      go : UnitTook p.crypto does old bytes outcome.More new o → Waits (end_reading p side) history bytes
      go (UnitTook.line y) = line_waits x.alive y.reading y.done new y.taken y.shown
      go (UnitTook.packet found (PacketTook.shared y)) = packet_waits x.alive found new o (reads.packets p side history old sums x.alive x.stands.live found bytes (Shared outcome.More) new o y)
      go (UnitTook.packet found (PacketTook.own y)) = absurd (shown y.between new o y.own outcome.More y.done)

  -- ---- what is left of it

  pub unit_left : (given : TransportTurn) (new : State K) (o : Outs) → Took p.crypto side does old bytes given new o → Left p side history bytes given new
  unit_left given new o x = go x.takes
    where
      go : UnitTook p.crypto does old bytes given new o → Left p side history bytes given new
      go (UnitTook.line y) = line_left reads p lawful.sealing side history old sums x.alive x.stands.live (reading x.alive) bytes y.reading y.done given new y.taken y.shown
      go (UnitTook.packet found (PacketTook.shared y)) = packet_left reads p lawful.sealing side history old sums x.alive x.stands.live (reading x.alive) bytes found given new o y
      go (UnitTook.packet found (PacketTook.own y)) =
          own_left reads p lawful.sealing side history old sums x.alive x.stands.live (reading x.alive) bytes found y.own y.between given new _
          (λ e. subst (λ (t : TransportTurn). IsOwnShown y.between t new o) e (shown y.between new o y.own given y.done)) y.taken (leaves y.between new o y.own given y.done)

-- ---- a payload that is left to the layers above

pub is_above : {K : Type 0} (p : Parties K) (side : Side) (history : List Item) (s : Transport K) (bytes : List ℕ) (number : ℕ) (new : State K) (o : Outs) → UnitTurnOf p side history s bytes (outcome.Up number) new o → IsAbove p side history s bytes new o
is_above p side history s bytes number new o (UnitTurnOf.line so same quiet x) = absurd (false≢true (line_whole so (outcome.Up number) same))
is_above p side history s bytes number new o (UnitTurnOf.shared not_up x) = absurd (false≢true (sym not_up))
is_above p side history s bytes number new o (UnitTurnOf.above same x) = x
is_above p side history s bytes number new o (UnitTurnOf.own payload unit (OwnTurn.refused why same x)) = absurd (cc same)
is_above p side history s bytes number new o (UnitTurnOf.own payload unit (OwnTurn.spent same x)) = absurd (cc same)
is_above p side history s bytes number new o (UnitTurnOf.own payload unit (OwnTurn.ended choice same x)) = absurd (cc same)
is_above p side history s bytes number new o (UnitTurnOf.own payload unit (OwnTurn.kexinit answered.Done same x)) = absurd (cc same)
is_above p side history s bytes number new o (UnitTurnOf.own payload unit (OwnTurn.kexinit answered.Spent same x)) = absurd (cc same)

pub found_above : {K : Type 0} (c : Crypto K) (does : RoleDoes K) (old : State K) (bytes : List ℕ) (number : ℕ) (new : State K) (o : Outs) → UnitTook c does old bytes (outcome.Up number) new o → old.kept.lines.found ≡ true
found_above c does old bytes number new o (UnitTook.line y) = absurd (false≢true (line_whole y.done (outcome.Up number) y.shown))
found_above c does old bytes number new o (UnitTook.packet found y) = found
