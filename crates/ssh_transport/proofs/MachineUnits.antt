-- What a machine makes of a line or a packet is what an end of a session does, and so is its opening.
use Rattle.std.proofs.Common.{◌≡◌, ℕ, ◌<◌, ◌^◌, List, [], ◌∷◌, ◌++◌, refl, ap, sym, ◌∙◌, subst, Bool, true, false, None}
use Rattle.ssh_model.specs.declared.side.Side.{Side}
use Rattle.ssh_model.specs.Protocol.Wire.Line.{LineUnit, line_end}
use Rattle.ssh_model.specs.Protocol.Wire.Message.{Msg.KexInit}
use Rattle.ssh_model.specs.Protocol.Wire.Outcome.{Outcome, Outcome.OtherLine, Outcome.VersionLine, Outcome.RefusedLine, Outcome.RefusedPacket}
use Rattle.ssh_model.specs.Protocol.Wire.Unit.{IsUnit, PacketUnit}
use Rattle.ssh_model.specs.Laws.Units.{IsPartialPacket}
use Rattle.ssh_model.specs.Protocol.Sessions.Events.{PutsOut}
use Rattle.ssh_model.specs.Protocol.Sessions.Items.{Item, Item.Fed, Item.Sent, Item.SentLine, Item.TookLine, Item.TookOtherLine, Encoded}
use Rattle.ssh_model.specs.Protocol.Sessions.Parties.{Parties, offer, settings_of}
use Rattle.ssh_model.specs.Protocol.Sessions.Phases.{has_line, is_client}
use Rattle.ssh_model.specs.declared.refusal.Refusal.{Refusal}
use Rattle.ssh_model.specs.Protocol.Sessions.Refusals.{refusal_reason}
use Rattle.ssh_model.specs.Protocol.Sessions.Turns.{stage}
use Rattle.ssh_model.specs.State.TransportLayer.Directions.{Direction, counted}
use Rattle.ssh_model.specs.State.TransportLayer.Kept.{Transport, after_line, after_other_line, after_taken, new_transport}
use Rattle.ssh_model.specs.State.TransportLayer.Summary.{SumsUp}
use Rattle.ssh_model.specs.State.TransportLayer.Turns as turns
use Rattle.ssh_model.specs.State.TransportLayer.Turns.{SaysWhy, UnitRefused, refusal_items}
use Rattle.ssh_packet.specs.Refusals.{line_refusal}
use Rattle.ssh_packet.specs.declared.refusal.LineRefusal.{LineRefusal}
use Rattle.ssh_packet.specs.declared.refusal.LineRefusal.TheVariants as line
use Rattle.ssh_model.specs.declared.refusal.Refusal.{Refusal as Refused}
use Rattle.ssh_packet.specs.Directions.{Receiver, Receives}
use Rattle.ssh_packet.specs.declared.step.PacketStep.{PacketStep}
use Rattle.ssh_packet.specs.declared.step.PacketStep.TheVariants as step
use Rattle.ssh_transport_machine.specs.LineTurns.{LineTaken}
use Rattle.ssh_transport_machine.specs.Opening.{IsOpened}
use Rattle.ssh_transport_machine.specs.Puts.{Outs}
use Rattle.ssh_transport.specs.Shown as shown
use Rattle.ssh_transport.specs.Shown.{IsLineItem, IsOpening, LineTurnOf, PacketTurnOf, WouldAnswerPacket, opening}
use Rattle.ssh_transport_machine.specs.State.{State}
use Rattle.ssh_transport.specs.Living.{IsLive}
use Rattle.ssh_transport.specs.Dispatching.{BecomesBy, FoundNeedsMemory, PacketDone, PacketNeedsMemory, PacketTaken, RefusalDone}
use Rattle.ssh_transport_machine.specs.declared.machine.LineTurn.{LineTurn}
use Rattle.ssh_transport_machine.specs.declared.machine.LineTurn.TheVariants as turn
use Rattle.ssh_transport.specs.declared.outcome.TransportTurn.{TransportTurn}
use Rattle.ssh_transport.specs.declared.outcome.TransportTurn.TheVariants as outcome
use Rattle.ssh_transport.proofs.Deaths.{said_so, turn_lacks}
use Rattle.ssh_transport.proofs.Lifting.{PayloadLaws, turns_lifted}
use Rattle.ssh_transport.specs.Own.{Share, Share.Shared}

-- ---- the laws of the model

pub record UnitLaws (K : Type 0) : Type 0 where
  pub packets : (p : Parties K) (side : Side) (history : List Item) (s : Transport K) → SumsUp p side history s → s.dead ≡ false → s.lines.found ≡ true → (bytes : List ℕ) (outcome : Outcome) → PacketUnit p.crypto s.taking.key s.taking.number s.taking.count bytes outcome → IsUnit p.crypto (stage p side history) bytes outcome
  pub lines : (p : Parties K) (side : Side) (history : List Item) (s : Transport K) → SumsUp p side history s → s.dead ≡ false → s.lines.found ≡ false → (bytes : List ℕ) (outcome : Outcome) → LineUnit (is_client s.side) s.lines.others bytes outcome → IsUnit p.crypto (stage p side history) bytes outcome
  pub refused : (p : Parties K) (side : Side) (history : List Item) (s : Transport K) → SumsUp p side history s → s.dead ≡ false → (refusal : Refusal) (sent : List Encoded) (more : List ℕ) (new : Transport K) → SaysWhy p.crypto s refusal sent more → new.dead ≡ true → UnitRefused p side history (refusal_items refusal None sent) refusal more new
  pub version : (p : Parties K) (side : Side) (history : List Item) (s : Transport K) (text : List ℕ) → SumsUp p side history s → SumsUp p side (TookLine text ∷ history) (after_line text s)
  pub other : (p : Parties K) (side : Side) (history : List Item) (s : Transport K) (text : List ℕ) → has_line history ≡ false → SumsUp p side history s → SumsUp p side (TookOtherLine text ∷ history) (after_other_line s)

silent_line : (why : LineRefusal) → refusal_reason (line_refusal why) ≡ None
silent_line line.BadLine = refl
silent_line line.BadVersion = refl

module _ {K : Type 0} (laws : UnitLaws K) (p : Parties K) (side : Side) (h : List Item) (old : State K) (sums : SumsUp p side h old.kept) (alive : old.kept.dead ≡ false) (live : IsLive old) where
  module _ (none_found : old.kept.lines.found ≡ false) where
    line_at : (bytes : List ℕ) (outcome : Outcome) → LineUnit old.reading.from_server old.reading.others bytes outcome → LineUnit (is_client old.kept.side) old.kept.lines.others bytes outcome
    line_at bytes outcome x =
        subst (λ (b : Bool). LineUnit b old.kept.lines.others bytes outcome) (live.lines none_found).from_peer
        (subst (λ (n : ℕ). LineUnit old.reading.from_server n bytes outcome) (sym (live.lines none_found).others) x)

    unit_by : (bytes : List ℕ) (outcome : Outcome) → LineUnit old.reading.from_server old.reading.others bytes outcome → IsUnit p.crypto (stage p side h) bytes outcome
    unit_by bytes outcome x = laws.lines p side h old.kept sums alive none_found bytes outcome (line_at bytes outcome x)

    pub line_lifted : (bytes : List ℕ) (done : LineTurn) (new : State K) → LineTaken old bytes done new → LineTurnOf p side h old.kept bytes done new
    line_lifted bytes turn.More new x = subst (λ (t : State K). SumsUp p side h t.kept) (sym x.after) sums
    line_lifted bytes turn.Other new x = record {
      line = line_at bytes (OtherLine new.reading.text) x.unit;
      unit = unit_by bytes (OtherLine new.reading.text) x.unit;
      sums = subst (λ (t : State K). SumsUp p side (TookOtherLine new.reading.text ∷ h) t.kept) (sym x.after) (laws.other p side h old.kept new.reading.text (sym ((sums.live alive).lines.found_is) ∙ none_found) sums);
    }
    line_lifted bytes turn.Version new x = subst (λ (text : List ℕ). IsLineItem p side h old.kept bytes VersionLine TookLine text new.kept) (sym (ap (λ (t : State K). t.kept.lines.line) x.after)) (record {
      line = line_at bytes (VersionLine x.text) x.unit;
      unit = unit_by bytes (VersionLine x.text) x.unit;
      sums = subst (λ (t : State K). SumsUp p side (TookLine x.text ∷ h) t.kept) (sym x.after) (laws.version p side h old.kept x.text sums);
    })
    line_lifted bytes (turn.Refused why) new x = record {
      line = line_at bytes (RefusedLine (line_refusal why)) x.unit;
      unit = unit_by bytes (RefusedLine (line_refusal why)) x.unit;
      turned = laws.refused p side h old.kept sums alive (line_refusal why) [] [] new.kept (turns.SaysWhy.silently (silent_line why)) (ap (λ (t : State K). t.kept.dead) x.after);
    }

  module _ (found : old.kept.lines.found ≡ true) where
    packet_at : (bytes : List ℕ) (outcome : Outcome) → PacketUnit p.crypto old.receiver.direction.key old.receiver.direction.number old.receiver.direction.count bytes outcome → PacketUnit p.crypto old.kept.taking.key old.kept.taking.number old.kept.taking.count bytes outcome
    packet_at bytes outcome x = subst (λ (d : Direction K). PacketUnit p.crypto d.key d.number d.count bytes outcome) (sym live.taking) x

    packet_by : (bytes : List ℕ) (outcome : Outcome) → PacketUnit p.crypto old.receiver.direction.key old.receiver.direction.number old.receiver.direction.count bytes outcome → IsUnit p.crypto (stage p side h) bytes outcome
    packet_by bytes outcome x = laws.packets p side h old.kept sums alive found bytes outcome (packet_at bytes outcome x)

    taking_by : (receiver : Receiver K) (new : State K) → new ≡ record old { receiver = receiver; kept = record old.kept { taking = receiver.direction } } → new.kept ≡ record old.kept { taking = receiver.direction }
    taking_by receiver new e = ap (λ (t : State K). t.kept) e

    same_by : (receiver : Receiver K) (new : State K) → new ≡ record old { receiver = receiver; kept = record old.kept { taking = receiver.direction } } → receiver.direction ≡ old.receiver.direction → new.kept ≡ old.kept
    same_by receiver new e d = taking_by receiver new e ∙ (λ i. record old.kept { taking = (d ∙ sym live.taking) i })

    said_by : (why : Refusal) (between : Transport K) (said : List Encoded) (more : List ℕ) → between ≡ old.kept → SaysWhy p.crypto between why said more → SaysWhy p.crypto old.kept why said more
    said_by why between said more e x = subst (λ (t : Transport K). SaysWhy p.crypto t why said more) e x

    more_lifted : (bytes : List ℕ) (given : TransportTurn) (between new : State K) (o : Outs) → Receives p.crypto bytes old.receiver step.More between.receiver → between ≡ record old { receiver = between.receiver; kept = record old.kept { taking = between.receiver.direction } } → BecomesBy between between.kept outcome.More given new o →
        PacketTurnOf p side h old.kept bytes (Shared given) new o
    more_lifted bytes given between new o x e y =
        subst (λ (t : TransportTurn). PacketTurnOf p side h old.kept bytes (Shared t) new o) (sym y.told) (shown.PacketTurnOf.buffered (record {
          buffered = subst (λ (d : Direction K). IsPartialPacket p.crypto d.key d.count bytes) (sym live.taking) x.0;
          after = ap (λ (t : State K). t.kept) y.becomes.after ∙ same_by between.receiver between e (ap (λ (r : Receiver K). r.direction) x.1);
          quiet = y.becomes.quiet;
        }))

    refusal_lifted : (bytes : List ℕ) (r : Refused) (given : TransportTurn) (between new : State K) (o : Outs) → Receives p.crypto bytes old.receiver (step.Refused r) between.receiver → between ≡ record old { receiver = between.receiver; kept = record old.kept { taking = between.receiver.direction } } → RefusalDone p.crypto between r given new o →
        PacketTurnOf p side h old.kept bytes (Shared given) new o
    refusal_lifted bytes r given between new o x e y =
        subst (λ (t : TransportTurn). PacketTurnOf p side h old.kept bytes (Shared t) new o) (sym y.told) (shown.PacketTurnOf.refused (record {
          packet = packet_at bytes (RefusedPacket r) x.0;
          unit = packet_by bytes (RefusedPacket r) x.0;
          said = y.refuses.said;
          more = y.refuses.more;
          turned = laws.refused p side h old.kept sums alive r y.refuses.said y.refuses.more new.kept (said_by r between.kept y.refuses.said y.refuses.more (same_by between.receiver between e (ap (λ (w : Receiver K). w.direction) x.1)) y.refuses.says) (ap (λ (t : Transport K). t.dead) y.refuses.after);
          parts = y.refuses.parts;
          lists = y.refuses.lists;
        }))

    found_by : (bytes : List ℕ) (between : State K) → Receives p.crypto bytes old.receiver step.Payload between.receiver → between ≡ record old { receiver = between.receiver; kept = record old.kept { taking = between.receiver.direction } } → between.kept ≡ after_taken old.kept
    found_by bytes between x e = taking_by between.receiver between e ∙ (λ i. record old.kept { taking = (ap (λ (r : Receiver K). r.direction) x.1 ∙ ap (λ (d : Direction K). counted d) (sym live.taking)) i })

    packet_done : PayloadLaws K → (bytes : List ℕ) (found : PacketStep Refusal) (done : Share) (between new : State K) (o : Outs) → Receives p.crypto bytes old.receiver found between.receiver → between ≡ record old { receiver = between.receiver; kept = record old.kept { taking = between.receiver.direction } } → PacketDone p.crypto between found done new o →
        PacketTurnOf p side h old.kept bytes done new o
    packet_done rows bytes step.More (Shared given) between new o x e y = more_lifted bytes given between new o x e y
    packet_done rows bytes (step.Refused r) (Shared given) between new o x e y = refusal_lifted bytes r given between new o x e y
    packet_done rows bytes step.Payload done between new o x e y = shown.PacketTurnOf.payload (record {
      between = between;
      packet = packet_at bytes (Outcome.Opens between.receiver.payload) x.0;
      unit = packet_by bytes (Outcome.Opens between.receiver.payload) x.0;
      kept = found_by bytes between x e;
      turn = turns_lifted rows p side h old.kept sums alive between done new o (found_by bytes between x e) y;
    })
    packet_done rows bytes _ _ between new o x e y = absurd y

    pub packet_lifted : PayloadLaws K → (bytes : List ℕ) (done : Share) (new : State K) (o : Outs) → PacketTaken p.crypto old bytes done new o → PacketTurnOf p side h old.kept bytes done new o
    packet_lifted rows bytes done new o x = packet_done rows bytes x.found done x.between new o x.receives x.rest x.does

    lacks_at : (bytes : List ℕ) (between : State K) (found : PacketStep Refusal) → Receives p.crypto bytes old.receiver found between.receiver → between ≡ record old { receiver = between.receiver; kept = record old.kept { taking = between.receiver.direction } } → FoundNeedsMemory between found → PayloadLaws K →
        WouldAnswerPacket p side old.kept bytes
    lacks_at bytes between step.More x e y rows = absurd y
    lacks_at bytes between (step.Refused why) x e y rows =
        WouldAnswerPacket.refused why (packet_at bytes (RefusedPacket why) x.0)
        (said_so old.kept why (subst (λ (t : Transport K). t.sending.count < 2 ^ 32) (same_by between.receiver between e (ap (λ (r : Receiver K). r.direction) x.1)) y.room) y.reason)
    lacks_at bytes between step.Payload x e y rows =
        WouldAnswerPacket.opened between.receiver.payload (packet_at bytes (Outcome.Opens between.receiver.payload) x.0) (turn_lacks rows p side h old.kept sums alive between (found_by bytes between x e) y)

    pub packet_lacks : PayloadLaws K → (bytes : List ℕ) → PacketNeedsMemory p.crypto old bytes → WouldAnswerPacket p side old.kept bytes
    packet_lacks rows bytes x = lacks_at bytes x.between x.found x.receives x.rest x.needs_memory rows

-- ---- the opening

abbrev Openings : (K : Type 0) → Type 0
Openings K = (p : Parties K) (side : Side) (cookie secret payload : List ℕ) → SumsUp p side (Sent None (KexInit (offer p side true cookie)) payload ∷ SentLine (settings_of p side).line ∷ Fed cookie secret ∷ []) (new_transport (settings_of p side) side secret payload)

pub opened : {K : Type 0} → Openings K → (p : Parties K) (side : Side) (cookie secret : List ℕ) (new : State K) (o : Outs) → IsOpened p.crypto (settings_of p side) side cookie secret new o → IsOpening p side cookie secret new.kept o
opened {K} law p side cookie secret new o x = record {
  payload = x.payload;
  encoded = x.encoded;
  sums = subst (λ (t : State K). SumsUp p side (opening p side cookie secret x.payload) t.kept) (sym x.state_is) (law p side cookie secret x.payload);
  more = ((settings_of p side).line ++ line_end) ++ x.wire;
  puts = PutsOut.packet None (KexInit (offer p side true cookie)) x.payload x.wire x.sealed (PutsOut.version (settings_of p side).line (PutsOut.other (Fed cookie secret) tt PutsOut.nothing));
  parts = x.parts;
  lists = x.lists;
}
