-- The bytes that come to one end: in any pieces, and in a run of two.
use Rattle.std.proofs.Common.{◌≡◌, ℕ, List, ◌++◌, refl, ap, sym, ◌∙◌, subst, true, false, ◌↔◌, []}
use Rattle.ssh_model.specs.declared.side.Side.{Side}
use Rattle.ssh_model.specs.Protocol.Side.{part, done_by}
use Rattle.ssh_model.specs.Protocol.Wire.Sealing.{IsSealing}
use Rattle.ssh_model.specs.Laws.Units.{IsPartialLine, IsPartialPacket, IsPartialUnit}
use Rattle.ssh_model.specs.Protocol.Wire.Delivery.{Delivered, Delivered.dead, Delivered.waits, Delivered.takes, Waits}
use Rattle.ssh_model.specs.Laws.Delivery.{InPieces}
use Rattle.ssh_model.specs.Protocol.Wire.Unit.{IsUnit, Stage}
use Rattle.ssh_model.specs.Protocol.KeyExchange.Exchanges.{taking_key}
use Rattle.ssh_model.specs.Protocol.Sessions.Parties.{Parties}
use Rattle.ssh_model.specs.Protocol.Sessions.Items.{Item, Done, has_died, took}
use Rattle.ssh_model.specs.Protocol.Sessions.Epochs.{count, epoch}
use Rattle.ssh_model.specs.Protocol.Sessions.Turns.{EndRun, EndRun.then_turn, OnUnit, Turn.reads, stage, stage_after}
use Rattle.ssh_model.specs.Protocol.Sessions.Events.{reading_of}
use Rattle.ssh_model.specs.State.TransportLayer.Kept.{Transport}
use Rattle.ssh_model.specs.State.TransportLayer.Summary.{SumsUp}
use Rattle.ssh_model.specs.State.End.Reading.{EndUses, DeliversTo, end_reading}
use Rattle.ssh_model.proofs.Sessions.EndRuns.{part_own, part_other}
use Rattle.ssh_model.proofs.TransportLayer.Views.{key_same}
use Rattle.ssh_model.proofs.Wire.Units.{reading_pieces, reading_waits}
use Rattle.ssh_model.specs.Protocol.Wire.Outcome.{Outcome}
use Rattle.ssh_model.specs.State.End.State.{EndState}
use Rattle.ssh_model.specs.State.End.Summary.{EndSumsUp, EndTurned}

module _ {K : Type 0} (p : Parties K) (side : Side) where
  pub end_pieces : IsSealing p.crypto → (history last : List Item) (one two rest : List ℕ) → Delivered (end_reading p side) history (one ++ two) last rest ↔ InPieces (end_reading p side) history one two last rest
  end_pieces sealing history last one two rest = reading_pieces p.crypto sealing (λ h. stage p side h) (EndUses p side) has_died history last one two rest

  -- what is delivered goes on with the run of the end
  pub end_delivered : (h last : List Item) (bytes rest : List ℕ) → Delivered (end_reading p side) h bytes last rest → EndRun p side h → EndRun p side last
  end_delivered h last bytes rest (dead b d) r = r
  end_delivered h last bytes rest (waits alive w) r = r
  end_delivered h last bytes rest (takes {next = next} unit more e n a d) r =
      end_delivered next last more rest d (subst (λ (l : List Item). EndRun p side l) (sym a.next_is) (then_turn r (reads unit n.0 a.on_unit)))

  -- ---- unit after unit

  has_unit : (h : List Item) (unit : List ℕ) (items : List Item) → OnUnit p side h unit items → (o : Outcome) × IsUnit p.crypto (stage p side h) unit o
  has_unit h unit items (OnUnit.reads o u x) = (o, u)
  has_unit h unit items (OnUnit.dies o u x t) = (o, u)

  module _ (h : List Item) (e : EndState K) (sums : EndSumsUp p side h e) where
    pub after_unit : e.transport.dead ≡ false → (unit : List ℕ) (items : List Item) (more : List ℕ) (new : EndState K) → EndTurned p side h (OnUnit p side h unit) items more new → (following : List ℕ) (last : List Item) (rest : List ℕ) →
        Delivered (end_reading p side) (items ++ h) following last rest → Delivered (end_reading p side) h (unit ++ following) last rest
    after_unit alive unit items more new t following last rest d =
        let u = has_unit h unit items t.turn in
        takes unit following refl (sym sums.transport.dead_is ∙ alive, u.0, u.1) (record { items = items; on_unit = t.turn; next_is = refl }) d

    pub waits_now : e.transport.dead ≡ false → (bytes : List ℕ) → Waits (end_reading p side) h bytes → Delivered (end_reading p side) h bytes h bytes
    waits_now alive bytes w = waits (λ z. cc (z, sums.transport.dead_is, alive)) w

    pub dead_now : e.transport.dead ≡ true → (bytes : List ℕ) → Delivered (end_reading p side) h bytes h []
    dead_now d bytes = dead bytes (sym sums.transport.dead_is ∙ d)

  -- ---- in a run of two

  pub delivered_to : (run : List Done) (h last : List Item) (bytes rest : List ℕ) → part side run ≡ h → Delivered (end_reading p side) h bytes last rest → DeliversTo p side run bytes last rest
  delivered_to run h last bytes rest e (dead b d) = record { next = run; delivered = dead b (ap has_died e ∙ d); here = e; there = refl }
  delivered_to run h last bytes rest e (waits alive w) = record {
    next = run;
    delivered = waits (λ z. alive (sym (ap has_died e) ∙ z)) (λ u more f n. w u more f (sym (ap has_died e) ∙ n.0, n.1, subst (λ (l : List Item). IsUnit p.crypto (stage p side l) u n.1) e n.2));
    here = e;
    there = refl;
  }
  delivered_to run h last bytes rest e (takes {next = next} unit more f n a d) =
      let g : List Done = done_by side a.items ++ run in
      let same : part side g ≡ next = part_own side a.items run ∙ (ap (λ (l : List Item). a.items ++ l) e ∙ sym a.next_is) in
      let r = delivered_to g next last more rest same d in
      let on : OnUnit p side (part side run) unit a.items = subst (λ (l : List Item). OnUnit p side l unit a.items) (sym e) a.on_unit in
      record {
        next = r.next;
        delivered = takes unit more f (ap has_died e ∙ n.0, n.1, subst (λ (l : List Item). IsUnit p.crypto (stage p side l) unit n.1) (sym e) n.2) (record { items = a.items; on_unit = on; next_is = refl }) r.delivered;
        here = r.here;
        there = r.there ∙ part_other side a.items run;
      }

  module _ (run : List Done) (e : EndState K) (sums : EndSumsUp p side (part side run) e) where
    pub run_unit : e.transport.dead ≡ false → (unit : List ℕ) (items : List Item) (more : List ℕ) (new : EndState K) → EndTurned p side (part side run) (OnUnit p side (part side run) unit) items more new →
        (following : List ℕ) (last : List Done) (rest : List ℕ) → Delivered (reading_of p side) (done_by side items ++ run) following last rest → Delivered (reading_of p side) run (unit ++ following) last rest
    run_unit alive unit items more new t following last rest d =
        let u = has_unit (part side run) unit items t.turn in
        takes unit following refl (sym sums.transport.dead_is ∙ alive, u.0, u.1) (record { items = items; on_unit = t.turn; next_is = refl }) d

    pub run_waits : e.transport.dead ≡ false → (bytes : List ℕ) → Waits (end_reading p side) (part side run) bytes → Delivered (reading_of p side) run bytes run bytes
    run_waits alive bytes w = waits (λ z. cc (z, sums.transport.dead_is, alive)) w

    pub run_dead : e.transport.dead ≡ true → (bytes : List ℕ) → Delivered (reading_of p side) run bytes run []
    run_dead d bytes = dead bytes (sym sums.transport.dead_is ∙ d)

  -- ---- what waits

  module _ (h : List Item) (s : Transport K) (sums : SumsUp p side h s) (alive : s.dead ≡ false) (sealing : IsSealing p.crypto) where
    pub packet_waits : s.lines.found ≡ true → (bytes : List ℕ) → IsPartialPacket p.crypto s.taking.key s.taking.count bytes → Waits (end_reading p side) h bytes
    packet_waits found bytes b =
        let a = sums.live alive in
        let key : s.taking.key ≡ taking_key p side h = a.keys.taking_is ∙ sym (key_same p side _ (epoch (took h)) h) in
        let c : IsPartialPacket p.crypto (taking_key p side h) (count (took h)) bytes = rw (key, a.taking.count_is) at b in
        reading_waits p.crypto sealing (λ l. stage p side l) (EndUses p side) has_died h bytes
        (subst (λ (st : Stage K). IsPartialUnit p.crypto st bytes) (sym (ap (stage_after p side h) (sym a.lines.found_is ∙ found))) c)

    pub line_waits : s.lines.found ≡ false → (bytes : List ℕ) → IsPartialLine bytes → Waits (end_reading p side) h bytes
    line_waits found bytes b =
        let a = sums.live alive in
        reading_waits p.crypto sealing (λ l. stage p side l) (EndUses p side) has_died h bytes
        (subst (λ (st : Stage K). IsPartialUnit p.crypto st bytes) (sym (ap (stage_after p side h) (sym a.lines.found_is ∙ found))) b)
