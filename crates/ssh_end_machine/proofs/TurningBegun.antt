-- The bytes that are buffered after a line or a packet, and the payload that is then shown.
use Rattle.std.proofs.Common.{◌≡◌, ℕ, Bool, true, false, cond, List, [], arith, refl, ap, sym, ◌∙◌, subst, Option}
use Rattle.std.proofs.lemmas.Bool.{false≢true}
use Rattle.ssh_model.specs.declared.side.Side.TheVariants.{Client}
use Rattle.ssh_model.specs.State.Channels.Kept.{Channels}
use Rattle.ssh_model.specs.State.End.Payloads as payloads
use Rattle.ssh_model.specs.State.End.Payloads.{GivesOwed}
use Rattle.ssh_model.specs.State.End.State.{after_items}
use Rattle.ssh_model.specs.Protocol.Sessions.Items.{Item}
use Rattle.ssh_model.specs.State.TransportLayer.Kept.{Lines, Transport}
use Rattle.ssh_model.specs.Laws.Units.{IsPartialLine, IsPartial.no_length, IsPartialPacket}
use Rattle.ssh_model.specs.Protocol.Wire.Message.{Msg}
use Rattle.ssh_model.specs.Protocol.Wire.Outcome.{Outcome.Opens}
use Rattle.ssh_model.specs.Protocol.Wire.Sealing.{Crypto}
use Rattle.ssh_model.specs.Protocol.Wire.Unit.{PacketUnit}
use Rattle.ssh_packet.specs.Directions.{Receiver, Receives}
use Rattle.ssh_packet.specs.declared.step.PacketStep.{PacketStep}
use Rattle.ssh_packet.specs.declared.step.PacketStep.TheVariants as step
use Rattle.ssh_transport_machine.specs.LineTurns.{LineTaken}
use Rattle.ssh_transport.specs.Outcomes.{answer_outcome}
use Rattle.ssh_transport_machine.specs.Puts.{Outs}
use Rattle.ssh_transport_machine.specs.State.{State, buffered_of}
use Rattle.ssh_transport_machine.specs.Answering.{Answers}
use Rattle.ssh_transport.specs.Dispatching.{Does, PacketDone, PacketTaken}
use Rattle.ssh_transport_machine.specs.declared.machine.classifying.Classified.{Classified}
use Rattle.ssh_transport_machine.specs.declared.machine.classifying.Classified.TheVariants as classified
use Rattle.ssh_transport_machine.specs.declared.machine.LineTurn.TheVariants as line
use Rattle.ssh_transport_machine.specs.declared.machine.sending.SendOutcome.{SendOutcome}
use Rattle.ssh_transport_machine.specs.declared.machine.sending.SendOutcome.TheVariants.{Done, Spent}
use Rattle.ssh_transport.specs.declared.outcome.Handled.{Handled}
use Rattle.ssh_transport.specs.declared.outcome.TransportTurn.{TransportTurn}
use Rattle.ssh_transport.specs.declared.outcome.TransportTurn.TheVariants as outcome
use Rattle.ssh_transport.specs.Roles.{Leaves, Still}
use Rattle.ssh_model.specs.declared.refusal.Refusal.{Refusal}
use Rattle.ssh_model.specs.declared.refusal.Refusal.TheVariants as refusal
use Rattle.ssh_end_machine.specs.Reading.{IsReading}
use Rattle.ssh_transport.specs.Own.{Own, Share.OfRole, Share.Shared}

-- ---- no byte is buffered

no_line : IsPartialLine []
no_line = IsPartialLine.in_text refl (omega arith)

no_packet : {K : Type 0} (c : Crypto K) (key : Option K) (count : ℕ) → IsPartialPacket c key count []
no_packet c key count = record { buffered = no_length (omega arith); unspent = λ some. absurd (omega (arith, some)) }

-- No byte is buffered, and what comes next can be read.
pub record Fresh {K : Type 0} (c : Crypto K) (s : State K) : Type 0 where
  pub buffered : buffered_of s ≡ []
  pub reading : IsReading c s

pub fresh_line : {K : Type 0} (c : Crypto K) (s : State K) → s.kept.lines.found ≡ false → s.reading.buffered ≡ [] → s.receiver.buffered ≡ [] → Fresh c s
fresh_line c s unfound none unread = record {
  buffered = ap (λ (b : Bool). cond b s.receiver.buffered s.reading.buffered) unfound ∙ none;
  reading = record {
    lines = λ f. subst IsPartialLine (sym none) no_line;
    unread = λ f. unread;
    packets = λ f. absurd (false≢true (sym unfound ∙ f));
  };
}

pub fresh_packet : {K : Type 0} (c : Crypto K) (s : State K) → s.kept.lines.found ≡ true → s.receiver.buffered ≡ [] → Fresh c s
fresh_packet c s found none = record {
  buffered = ap (λ (b : Bool). cond b s.receiver.buffered s.reading.buffered) found ∙ none;
  reading = record {
    lines = λ f. absurd (false≢true (sym f ∙ found));
    unread = λ f. none;
    packets = λ f. subst (λ (l : List ℕ). IsPartialPacket c s.receiver.direction.key s.receiver.direction.count l) (sym none) (no_packet c s.receiver.direction.key s.receiver.direction.count);
  };
}

-- ---- the bytes of a line

-- Bytes are buffered, and what comes next can be read.
pub record Begun {K : Type 0} (c : Crypto K) (bytes : List ℕ) (s : State K) : Type 0 where
  pub alive : s.kept.dead ≡ false
  pub buffered : buffered_of s ≡ bytes
  pub reading : IsReading c s

module _ {K : Type 0} (c : Crypto K) (old : State K) (bytes : List ℕ) (new : State K) (unfound : old.kept.lines.found ≡ false) (reading : IsReading c old) where
  pub line_begun : old.kept.dead ≡ false → LineTaken old bytes line.More new → Begun c bytes new
  line_begun alive x = subst (λ (s : State K). Begun c bytes s) (sym x.after) (record {
    alive = alive;
    buffered = ap (λ (b : Bool). cond b old.receiver.buffered bytes) unfound;
    reading = record {
      lines = λ f. x.buffered;
      unread = λ f. reading.unread unfound;
      packets = λ f. absurd (false≢true (sym unfound ∙ f));
    };
  })

  pub other_fresh : LineTaken old bytes line.Other new → Fresh c new
  other_fresh x = fresh_line c new (ap (λ (s : State K). s.kept.lines.found) x.after ∙ unfound) (ap (λ (s : State K). s.reading.buffered) x.after) (ap (λ (s : State K). s.receiver.buffered) x.after ∙ reading.unread unfound)

  pub version_fresh : LineTaken old bytes line.Version new → Fresh c new
  version_fresh x = fresh_packet c new (ap (λ (s : State K). s.kept.lines.found) x.after) (ap (λ (s : State K). s.receiver.buffered) x.after ∙ reading.unread unfound)

-- ---- the bytes of a packet

-- The bytes are a packet of the payload that is shown, and no byte is buffered.
pub record IsShown {K : Type 0} (c : Crypto K) (old : State K) (bytes : List ℕ) (new : State K) : Type 0 where
  pub unit : PacketUnit c old.receiver.direction.key old.receiver.direction.number old.receiver.direction.count bytes (Opens new.receiver.payload)
  pub buffered : new.receiver.buffered ≡ []
  pub found : new.kept.lines.found ≡ true

pub still_by : {K : Type 0} (old new : State K) (k : Transport K) → new ≡ record old { kept = k } → k.lines ≡ old.kept.lines → Still old new
still_by {K} old new k e lines = record {
  payload = ap (λ (s : State K). s.receiver.payload) e;
  buffered = ap (λ (s : State K). s.receiver.buffered) e;
  found = ap (λ (s : State K). s.kept.lines.found) e ∙ ap (λ (l : Lines). l.found) lines;
}

pub still_same : {K : Type 0} (old new : State K) → new ≡ old → Still old new
still_same {K} old new e = record {
  payload = ap (λ (s : State K). s.receiver.payload) e;
  buffered = ap (λ (s : State K). s.receiver.buffered) e;
  found = ap (λ (s : State K). s.kept.lines.found) e;
}

pub still_shown : {K : Type 0} (c : Crypto K) (old : State K) (bytes : List ℕ) (between new : State K) → IsShown c old bytes between → Still between new → IsShown c old bytes new
still_shown c old bytes between new x s = record {
  unit = subst (λ (l : List ℕ). PacketUnit c old.receiver.direction.key old.receiver.direction.number old.receiver.direction.count bytes (Opens l)) (sym s.payload) x.unit;
  buffered = s.buffered ∙ x.buffered;
  found = s.found ∙ x.found;
}

-- A whole packet is told so, and the payload that is shown and the buffered bytes stay as they were; or the peer was refused.
record WholeLeaves {K : Type 0} (old : State K) (given : TransportTurn) (new : State K) : Type 0 where
  whole : given ≡ outcome.More → ⊥
  leaves : Leaves old given new

module _ {K : Type 0} (c : Crypto K) (old new : State K) (o : Outs) where
  stays_told : (turn given : TransportTurn) → given ≡ turn → (turn ≡ outcome.More → ⊥) → Still old new → WholeLeaves old given new
  stays_told turn given e whole s = record { whole = λ f. whole (sym e ∙ f); leaves = Leaves.stays s }

  over_told : (why : Refusal) (given : TransportTurn) → given ≡ outcome.Refused why → new.kept.dead ≡ true → WholeLeaves old given new
  over_told why given e dead = record { whole = λ f. cc (sym e ∙ f); leaves = Leaves.over why e dead }

  stays_done : (effect : Handled) (given : TransportTurn) → given ≡ outcome.Done effect → Still old new → WholeLeaves old given new
  stays_done effect given e s = stays_told (outcome.Done effect) given e (λ f. cc f) s

  sent_leaves : (m : Msg) (k : Transport K) → k.lines ≡ old.kept.lines → (effect : Handled) (answer : SendOutcome) (given : TransportTurn) → given ≡ answer_outcome answer effect → Answers c old m k answer new o → WholeLeaves old given new
  sent_leaves m k lines effect Done given e y = stays_done effect given e (still_by old new k y.after lines)
  sent_leaves m k lines effect Spent given e y = over_told refusal.NumberSpent given e (ap (λ (t : State K). t.kept.dead) y.after)

  does_leave : (what : Classified) (given : TransportTurn) → Does c old what (Shared given) new o → WholeLeaves old given new
  does_leave (classified.Refused why) given y = over_told why given y.told (ap (λ (t : Transport K). t.dead) y.refuses.after)
  does_leave classified.Skipped given y = stays_done _ given y.told (still_by old new _ y.becomes.after refl)
  does_leave classified.Disconnected given y = stays_done _ given y.told (still_by old new _ y.becomes.after refl)
  does_leave classified.Told given y = stays_done _ given y.told (still_by old new _ y.becomes.after refl)
  does_leave classified.Unknown given y = sent_leaves _ _ refl _ y.answer given y.told y.answers
  does_leave classified.ServiceRequested given y = sent_leaves _ _ refl _ y.answer given y.told y.answers
  does_leave classified.ServiceAccepted given y = stays_done _ given y.told (still_by old new _ y.becomes.after refl)
  does_leave classified.NewKeys given y = stays_done _ given y.told (record {
    payload = ap (λ (s : State K). s.receiver.payload) y.taken.after;
    buffered = ap (λ (s : State K). s.receiver.buffered) y.taken.after;
    found = ap (λ (s : State K). s.kept.lines.found) y.taken.after;
  })
  does_leave classified.Above given y = stays_told _ given y.told (λ f. cc f) (still_by old new _ y.becomes.after refl)
  does_leave _ given y = absurd y

  own_stays : (what : Classified) (left : Own) → Does c old what (OfRole left) new o → Still old new
  own_stays (classified.Kexinit facts) left y = still_same old new y.after
  own_stays classified.EcdhInit left y = still_same old new y.after
  own_stays classified.Reply left y = still_same old new y.after
  own_stays _ left y = absurd y

-- More bytes are awaited after this answer, a payload is shown, or the peer was refused.
pub data PacketLeaves {K : Type 0} (c : Crypto K) (old : State K) (bytes : List ℕ) (given : TransportTurn) (new : State K) : Type 0 where
  waits : given ≡ outcome.More → Begun c bytes new → PacketLeaves c old bytes given new
  shows : (given ≡ outcome.More → ⊥) → IsShown c old bytes new → PacketLeaves c old bytes given new
  over : (why : Refusal) → given ≡ outcome.Refused why → new.kept.dead ≡ true → PacketLeaves c old bytes given new

module _ {K : Type 0} (c : Crypto K) (old : State K) (bytes : List ℕ) (found : old.kept.lines.found ≡ true) where
  module _ (between : State K) (rest : between ≡ record old { receiver = between.receiver; kept = record old.kept { taking = between.receiver.direction } }) where
    still_found : between.kept.lines.found ≡ true
    still_found = ap (λ (s : State K). s.kept.lines.found) rest ∙ found

    shown_first : Receives c bytes old.receiver step.Payload between.receiver → IsShown c old bytes between
    shown_first x = record {
      unit = x.0;
      buffered = ap (λ (r : Receiver K). r.buffered) x.1;
      found = still_found;
    }

    begun_packet : old.kept.dead ≡ false → Receives c bytes old.receiver step.More between.receiver → Begun c bytes between
    begun_packet alive x = record {
      alive = ap (λ (s : State K). s.kept.dead) rest ∙ alive;
      buffered = ap (λ (b : Bool). cond b between.receiver.buffered between.reading.buffered) still_found ∙ ap (λ (r : Receiver K). r.buffered) x.1;
      reading = record {
        lines = λ f. absurd (false≢true (sym f ∙ still_found));
        unread = λ f. absurd (false≢true (sym f ∙ still_found));
        packets = λ f. subst (λ (r : Receiver K). IsPartialPacket c r.direction.key r.direction.count r.buffered) (sym x.1) x.0;
      };
    }

    leaves_so : (new : State K) (given : TransportTurn) → (given ≡ outcome.More → ⊥) → IsShown c old bytes between → Leaves between given new → PacketLeaves c old bytes given new
    leaves_so new given whole x (Leaves.stays s) = PacketLeaves.shows whole (still_shown c old bytes between new x s)
    leaves_so new given whole x (Leaves.over why e dead) = PacketLeaves.over why e dead

    leaves : old.kept.dead ≡ false → (step_is : PacketStep Refusal) (given : TransportTurn) (new : State K) (o : Outs) → Receives c bytes old.receiver step_is between.receiver → PacketDone c between step_is (Shared given) new o → PacketLeaves c old bytes given new
    leaves alive step.More given new o x y = PacketLeaves.waits y.told (subst (λ (s : State K). Begun c bytes s) (sym y.becomes.after) (begun_packet alive x))
    leaves alive (step.Refused why) given new o x y = PacketLeaves.over why y.told (ap (λ (t : Transport K). t.dead) y.refuses.after)
    leaves alive step.Payload given new o x y = let z = does_leave c between new o y.what given y.does in leaves_so new given z.whole (shown_first x) z.leaves

    left_so : (step_is : PacketStep Refusal) (left : Own) (new : State K) (o : Outs) → Receives c bytes old.receiver step_is between.receiver → PacketDone c between step_is (OfRole left) new o → IsShown c old bytes new
    left_so step.Payload left new o x y = still_shown c old bytes between new (shown_first x) (own_stays c between new o y.what left y.does)
    left_so _ left new o x y = absurd y

  -- a packet that both roles take alike
  pub packet_leaves : old.kept.dead ≡ false → (given : TransportTurn) (new : State K) (o : Outs) → PacketTaken c old bytes (Shared given) new o → PacketLeaves c old bytes given new
  packet_leaves alive given new o x = leaves x.between x.rest alive x.found given new o x.receives x.does

  -- a packet that was left to the role
  pub left_shown : (left : Own) (new : State K) (o : Outs) → PacketTaken c old bytes (OfRole left) new o → IsShown c old bytes new
  left_shown left new o x = left_so x.between x.rest x.found left new o x.receives x.does

-- ---- what is given after an exchange

pub owed_lines : {K : Type 0} (before after : Channels) (owed : List Item) → GivesOwed before owed after → (s : Transport K) → (after_items Client owed s).lines ≡ s.lines
owed_lines before _ _ payloads.GivesOwed.nothing s = refl
owed_lines before after _ (payloads.GivesOwed.reply {items} {between} {new} reply payload gives u) s = owed_lines before between items gives s
