-- An end of a pair that used what came waits, or is over.
use Rattle.std.proofs.Common.{◌≡◌, ℕ, Bool, true, false, cond, List, [], refl, ap, sym, ◌∙◌, subst}
use Rattle.ssh_model.specs.declared.side.Side.{Side}
use Rattle.ssh_model.specs.Protocol.Side.{part}
use Rattle.ssh_model.specs.Protocol.Wire.Delivery.{Delivered, Waits}
use Rattle.ssh_model.specs.Laws.Units.{IsPartialLine, IsPartialPacket}
use Rattle.ssh_model.specs.Protocol.Wire.Sealing.{IsSealing}
use Rattle.ssh_model.specs.State.End.Reading.{end_reading}
use Rattle.ssh_model.specs.State.End.State.{EndState}
use Rattle.ssh_model.specs.State.End.Summary.{EndSumsUp}
use Rattle.ssh_model.specs.Protocol.Sessions.Events.{reading_of}
use Rattle.ssh_model.specs.Protocol.Sessions.Items.{Done}
use Rattle.ssh_model.specs.Protocol.Sessions.Parties.{Parties}
use Rattle.ssh_model.specs.State.TransportLayer.Kept.{Transport}
use Rattle.ssh_model.specs.State.TransportLayer.Summary.{SumsUp}
use Rattle.ssh_transport.specs.Standing.{Stands}
use Rattle.ssh_transport_machine.specs.State.{State, buffered_of}
use Rattle.ssh_end_machine.specs.Reading.{IsReading}
use Rattle.ssh_end.specs.TwoEnds.Standing.{kept_bytes}

module _ {K : Type 0} (p : Parties K) (side : Side) (run : List Done) (e : EndState K) (machine : State K) (same : e.transport ≡ machine.kept) (sums : EndSumsUp p side (part side run) e) (sealing : IsSealing p.crypto)
    (reading : machine.kept.dead ≡ false → IsReading p.crypto machine) (live : Stands side machine)
    (dead : (bytes : List ℕ) → e.transport.dead ≡ true → Delivered (reading_of p side) run bytes run [])
    (waits : (bytes : List ℕ) → e.transport.dead ≡ false → Waits (end_reading p side) (part side run) bytes → Delivered (reading_of p side) run bytes run bytes)
    (packets : (s : Transport K) → SumsUp p side (part side run) s → s.dead ≡ false → IsSealing p.crypto → s.lines.found ≡ true → (bytes : List ℕ) → IsPartialPacket p.crypto s.taking.key s.taking.count bytes → Waits (end_reading p side) (part side run) bytes)
    (lines : (s : Transport K) → SumsUp p side (part side run) s → s.dead ≡ false → IsSealing p.crypto → s.lines.found ≡ false → (bytes : List ℕ) → IsPartialLine bytes → Waits (end_reading p side) (part side run) bytes) where
  kept_sums : SumsUp p side (part side run) machine.kept
  kept_sums = subst (λ (s : Transport K). SumsUp p side (part side run) s) same sums.transport

  begun_waits : machine.kept.dead ≡ false → (found : Bool) → machine.kept.lines.found ≡ found → Waits (end_reading p side) (part side run) (buffered_of machine)
  begun_waits alive true e = subst (λ (l : List ℕ). Waits (end_reading p side) (part side run) l) (sym (ap (λ (b : Bool). cond b machine.receiver.buffered machine.reading.buffered) e))
      (packets machine.kept kept_sums alive sealing e machine.receiver.buffered (subst (λ d. IsPartialPacket p.crypto d.key d.count machine.receiver.buffered) (sym (live alive).live.taking) ((reading alive).packets e)))
  begun_waits alive false e = subst (λ (l : List ℕ). Waits (end_reading p side) (part side run) l) (sym (ap (λ (b : Bool). cond b machine.receiver.buffered machine.reading.buffered) e))
      (lines machine.kept kept_sums alive sealing e machine.reading.buffered ((reading alive).lines e))

  ended : (is_dead : Bool) → machine.kept.dead ≡ is_dead → Delivered (reading_of p side) run (kept_bytes machine) run (kept_bytes machine)
  ended true e = subst (λ (l : List ℕ). Delivered (reading_of p side) run (kept_bytes machine) run l) (sym (ap (λ (b : Bool). cond b [] (buffered_of machine)) e)) (dead (kept_bytes machine) (ap (λ s. s.dead) same ∙ e))
  ended false e = subst (λ (l : List ℕ). Delivered (reading_of p side) run l run l) (sym (ap (λ (b : Bool). cond b [] (buffered_of machine)) e)) (waits (buffered_of machine) (ap (λ s. s.dead) same ∙ e) (begun_waits e machine.kept.lines.found refl))

  pub at_end : Delivered (reading_of p side) run (kept_bytes machine) run (kept_bytes machine)
  at_end = ended machine.kept.dead refl
