-- What an end does with a line, and with a packet that both roles take alike, is what the end of a session does.
use Rattle.std.proofs.Common.{◌≡◌, ◌++◌, ℕ, false, List, [], ◌∷◌, None, append-nil, refl, ap, sym, ◌∙◌, subst}
use Rattle.ssh_model.specs.declared.side.Side.{Side}
use Rattle.ssh_model.specs.State.End.State.{EndState}
use Rattle.ssh_model.specs.State.End.Summary.{EndSumsUp, EndTurned}
use Rattle.ssh_model.specs.Protocol.Sessions.Items.{Item}
use Rattle.ssh_model.specs.Protocol.Sessions.Parties.{Parties}
use Rattle.ssh_model.specs.declared.refusal.Refusal.{Refusal}
use Rattle.ssh_model.specs.Protocol.Sessions.Turns.{OnUnit}
use Rattle.ssh_model.specs.State.TransportLayer.Kept.{Transport}
use Rattle.ssh_model.specs.State.TransportLayer.Turns.{refusal_items}
use Rattle.ssh_transport_machine.specs.Puts.{Outs, payloads_of}
use Rattle.ssh_transport.specs.Sessions.{is_up}
use Rattle.ssh_transport.specs.Shown.{IsLineRefusal, IsPacketRefusal, IsPayloadTurn, IsTurn, LineTurnOf}
use Rattle.ssh_transport_machine.specs.State.{State}
use Rattle.ssh_transport_machine.specs.Answering.{IsQuiet}
use Rattle.ssh_transport_machine.specs.declared.machine.LineTurn.TheVariants as line_turn
use Rattle.ssh_transport.specs.declared.outcome.Handled.TheVariants as effect
use Rattle.ssh_transport.specs.declared.outcome.TransportTurn.{TransportTurn}
use Rattle.ssh_transport.specs.declared.outcome.TransportTurn.TheVariants as outcome
use Rattle.ssh_model.specs.declared.refusal.Refusal as code
use Rattle.ssh_end_machine.specs.Outcomes.{step_given}
use Rattle.ssh_end_machine.specs.Layers.{Layers}
use Rattle.ssh_end_machine.specs.Sessions.{end_of}
use Rattle.ssh_end_machine.specs.Steps as steps
use Rattle.ssh_end_machine.specs.Steps.{UnitTurned}
use Rattle.ssh_end_machine.proofs.Finishing.{refusal_sends}
use Rattle.ssh_end_machine.proofs.TurnsWhole.{kept_after}
use Rattle.ssh_end_machine.proofs.Transporting.{shared}
use Rattle.ssh_end_machine.proofs.TurningLaws.{TurningLaws}
use Rattle.ssh_end_machine.proofs.TurningWhole.{is_turn}
use Rattle.ssh_end_machine.proofs.SendingOn.{refusal_on}
use Rattle.ssh_transport.specs.Own.{Share.Shared}

module _ {K : Type 0} (laws : TurningLaws K) (p : Parties K) (side : Side) (history : List Item) (s : Transport K) (layers : Layers) (sums : EndSumsUp p side history (end_of s layers)) (alive : s.dead ≡ false) (bytes : List ℕ) where
  abbrev e : EndState K
  e = end_of s layers

  -- a turn of this answer
  abbrev Turns : TransportTurn → List ℕ → Transport K → Outs → Type 0
  Turns given payload new o = UnitTurned p side history bytes payload (step_given given) (kept_after layers given new) o

  -- ---- lines, whose text is shown

  pub other_line : (new : State K) (o : Outs) → IsQuiet o → LineTurnOf p side history s bytes line_turn.Other new → Turns (outcome.Done effect.OtherLine) new.reading.text new.kept o
  other_line new o quiet x = record {
    items = Item.TookOtherLine new.reading.text ∷ [];
    more = [];
    shows = steps.Shows.other_line;
    sends_on = λ old older live. refl;
    turned = laws.other p side history e sums alive bytes new.reading.text new.kept x.unit x.sums;
    parts = quiet.out ∙ sym (append-nil o.before);
    lists = quiet.sent ∙ sym (append-nil o.payloads_before);
  }

  pub version_line : (new : State K) (o : Outs) → IsQuiet o → LineTurnOf p side history s bytes line_turn.Version new → Turns (outcome.Done effect.VersionLine) new.kept.lines.line new.kept o
  version_line new o quiet x = record {
    items = Item.TookLine new.kept.lines.line ∷ [];
    more = [];
    shows = steps.Shows.version_line;
    sends_on = λ old older live. refl;
    turned = laws.version p side history e sums alive bytes new.kept.lines.line new.kept x.unit x.sums;
    parts = quiet.out ∙ sym (append-nil o.before);
    lists = quiet.sent ∙ sym (append-nil o.payloads_before);
  }

  pub refused_line : (why : Refusal) (given : code.Refusal) → given ≡ why → (new : Transport K) (o : Outs) → IsQuiet o → IsLineRefusal p side history s bytes why new → {payload : List ℕ} → Turns (outcome.Refused given) payload new o
  refused_line why given same new o quiet x {payload} =
      let turned : EndTurned p side history (OnUnit p side history bytes) (refusal_items why None []) [] (kept_after layers (outcome.Refused given) new) =
      laws.refused_line p side history e sums alive bytes why _ [] (kept_after layers (outcome.Refused given) new) x.unit x.turned x.turned.sums.dead_is in
      record {
        items = refusal_items given None [];
        more = [];
        shows = steps.Shows.refused given None [];
        sends_on = λ old older live. refl;
        turned = subst (λ (r : Refusal). EndTurned p side history (OnUnit p side history bytes) (refusal_items r None []) [] (kept_after layers (outcome.Refused given) new)) (sym same) turned;
        parts = quiet.out ∙ sym (append-nil o.before);
        lists = quiet.sent ∙ sym (append-nil o.payloads_before);
      }

  -- ---- packets

  pub refused_packet : (why : code.Refusal) (new : Transport K) (o : Outs) → IsPacketRefusal p side history s bytes why new o → {payload : List ℕ} → Turns (outcome.Refused why) payload new o
  refused_packet why new o x {payload} = record {
    items = refusal_items why None x.said;
    more = x.more;
    shows = steps.Shows.refused why None x.said;
    sends_on = λ old older live. refusal_on x.said why None;
    turned = laws.refused_packet p side history e sums alive bytes why _ x.more (kept_after layers (outcome.Refused why) new) x.unit x.turned x.turned.sums.dead_is;
    parts = x.parts;
    lists = x.lists ∙ ap (λ l. o.payloads_before ++ payloads_of l) (sym (refusal_sends x.said why None));
  }

  pub payload_turn : (given : TransportTurn) (new : State K) (o : Outs) → is_up given ≡ false → (x : IsPayloadTurn p side history s bytes (Shared given) new o) → Turns given x.between.receiver.payload new.kept o
  payload_turn given new o not_up x =
      let payload = x.between.receiver.payload in
      let y : IsTurn p side history s payload given new.kept o = is_turn p side history s x.between given new o not_up x.turn in
      shared p side history e bytes payload
      (λ items more next below turned. laws.opened p side history e sums alive bytes payload items more _ x.unit (laws.layered p side history e sums alive payload items more next below turned))
      (λ items more next turned dead. laws.opened p side history e sums alive bytes payload items more next x.unit (laws.over p side history e sums alive payload items more next turned dead))
      s given y.said y.items y.more new.kept o y.shows y.turned y.parts y.lists
