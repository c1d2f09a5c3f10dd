-- The bytes that an end holds after a line or a packet, and the payload that it then shows.
use Rattle.std.proofs.Common.{◌≡◌, ℕ, Bool, true, false, List, [], refl, ap, sym, ◌∙◌, subst, Option, None, Some}
use Rattle.std.specs.Prelude.{Result, Ok, Err}
use Rattle.std.proofs.lemmas.Bool.{false≢true}
use Rattle.std.specs.Option.{option_map}
use Rattle.std.specs.Global.{Box}
use Rattle.ssh_model.specs.declared.side.Side.{Side}
use Rattle.ssh_model.specs.declared.side.Side.TheVariants.{Client}
use Rattle.ssh_model.specs.State.Channels.Kept.{Channels}
use Rattle.ssh_model.specs.State.End.State.{EndState}
use Rattle.ssh_model.specs.Protocol.Sessions.Items.{Item}
use Rattle.ssh_model.specs.Protocol.Sessions.Parties.{Parties}
use Rattle.ssh_model.specs.Protocol.Sessions.Turns.{stage}
use Rattle.ssh_model.specs.State.TransportLayer.Kept.{Transport}
use Rattle.ssh_model.specs.State.TransportLayer.Directions.{Direction}
use Rattle.ssh_model.specs.State.TransportLayer.Summary.{SumsUp}
use Rattle.ssh_model.specs.Protocol.Wire.Outcome.{Outcome, Outcome.Opens, Outcome.OtherLine, Outcome.RefusedLine, Outcome.RefusedPacket, Outcome.VersionLine}
use Rattle.ssh_model.specs.Protocol.Wire.Sealing.{Crypto, IsSealing}
use Rattle.ssh_model.specs.Protocol.Wire.Unit.{IsUnit, PacketUnit, Stage, Stage.Packets}
use Rattle.ssh_transport_machine.specs.LineTurns.{LineTaken}
use Rattle.ssh_transport.specs.Outcomes.{LineOutcome}
use Rattle.ssh_transport_machine.specs.Puts.{Outs}
use Rattle.ssh_transport.specs.Shown.{LineTurnOf, PacketTurnOf}
use Rattle.ssh_transport.specs.Living.{IsLive}
use Rattle.ssh_transport_machine.specs.State.{State}
use Rattle.ssh_transport.specs.Dispatching.{PacketTaken}
use Rattle.ssh_transport_machine.specs.declared.machine.LineTurn.{LineTurn}
use Rattle.ssh_transport_machine.specs.declared.machine.LineTurn.TheVariants as line_turn
use Rattle.ssh_transport.specs.declared.outcome.TransportTurn.{TransportTurn}
use Rattle.ssh_transport.specs.declared.outcome.TransportTurn.TheVariants as outcome
use Rattle.ssh_kex.specs.declared.owned_choice.OwnedChoice.{OwnedChoice}
use Rattle.ssh_packet.specs.declared.refusal.LineRefusal.{LineRefusal}
use Rattle.ssh_model.specs.declared.refusal.Refusal.{Refusal}
use Rattle.ssh_model.specs.declared.refusal.Refusal.TheVariants as code
use Rattle.ssh_transport.specs.Roles.{Leaves, Still}
use Rattle.ssh_end_machine.specs.Above.{Finished, PutsReply, after_success_where}
use Rattle.ssh_end_machine.specs.OwedReplies.{OwedFlushed}
use Rattle.ssh_end_machine.specs.Outcomes.{is_whole, step_given}
use Rattle.ssh_end_machine.specs.Reading.{IsReading}
use Rattle.ssh_end_machine.specs.Steps.{Shows, UnitTurned}
use Rattle.ssh_end_machine.specs.Steps as steps
use Rattle.ssh_end_machine.specs.declared.replying.ServiceReply.{ServiceReply}
use Rattle.ssh_end_machine.specs.declared.step.Step.{Step}
use Rattle.ssh_end_machine.specs.declared.step.Step.TheVariants as step
use Rattle.ssh_end_machine.proofs.TurningBegun.{Begun, Fresh, IsShown, PacketLeaves, fresh_packet, left_shown, line_begun, other_fresh, owed_lines, packet_leaves, still_by, still_same, still_shown, version_fresh}
use Rattle.ssh_transport.specs.Own.{Own, Share, Share.OfRole, Share.Shared}

-- ---- the payload that is shown

-- A unit is of one payload at most.
one_payload : (a b : List ℕ) → Opens a ≡ Opens b → a ≡ b
one_payload a b e = ap opened e
  where
    opened : Outcome → List ℕ
    opened (Opens payload) = payload
    opened (OtherLine text) = []
    opened (VersionLine text) = []
    opened (RefusedLine why) = []
    opened (RefusedPacket why) = []

-- the law of units, and those of a machine
pub record ReadingLaws (K : Type 0) : Type 0 where
  pub one : (c : Crypto K) (stage : Stage K) (unit : List ℕ) (a b : Outcome) → IsSealing c → IsUnit c stage unit a → IsUnit c stage unit b → a ≡ b
  pub lines : (p : Parties K) (side : Side) (history : List Item) (old : State K) → SumsUp p side history old.kept → old.kept.dead ≡ false → IsLive old → old.kept.lines.found ≡ false → (bytes : List ℕ) (done : LineTurn) (new : State K) → LineTaken old bytes done new → LineTurnOf p side history old.kept bytes done new
  pub packets : (p : Parties K) (side : Side) (history : List Item) (old : State K) → SumsUp p side history old.kept → old.kept.dead ≡ false → IsLive old → old.kept.lines.found ≡ true → (bytes : List ℕ) (done : Share) (new : State K) (o : Outs) → PacketTaken p.crypto old bytes done new o → PacketTurnOf p side history old.kept bytes done new o

-- A unit of such a payload is one of the payload that is shown.
abbrev pub OpensShown : {K : Type 0} → Parties K → Side → (history : List Item) → (bytes : List ℕ) → State K → Type 0
OpensShown p side history bytes new = (payload : List ℕ) → IsUnit p.crypto (stage p side history) bytes (Opens payload) → payload ≡ new.receiver.payload

-- What a transport left of the bytes of a line or a packet, by what it answered.
pub data Left {K : Type 0} (p : Parties K) (side : Side) (history : List Item) (bytes : List ℕ) (given : TransportTurn) (new : State K) : Type 0 where
  waits : given ≡ outcome.More → Begun p.crypto bytes new → Left p side history bytes given new
  over : (why : Refusal) → given ≡ outcome.Refused why → new.kept.dead ≡ true → Left p side history bytes given new
  line : is_whole given ≡ true → (given ≡ outcome.More → ⊥) → Fresh p.crypto new → OpensShown p side history bytes new → Left p side history bytes given new
  packet : (given ≡ outcome.More → ⊥) → new.kept.lines.found ≡ true → new.receiver.buffered ≡ [] → OpensShown p side history bytes new → Left p side history bytes given new

module _ {K : Type 0} (laws : ReadingLaws K) (p : Parties K) (sealing : IsSealing p.crypto) (side : Side) (history : List Item) (old : State K) (sums : SumsUp p side history old.kept) (alive : old.kept.dead ≡ false) (live : IsLive old) (reading : IsReading p.crypto old) (bytes : List ℕ) where
  -- ---- lines

  no_payload : (text : List ℕ) (new : State K) → IsUnit p.crypto (stage p side history) bytes (OtherLine text) → OpensShown p side history bytes new
  no_payload text new x = λ payload y. absurd (cc (laws.one p.crypto (stage p side history) bytes (OtherLine text) (Opens payload) sealing x y))

  no_payload_there : (text : List ℕ) (new : State K) → IsUnit p.crypto (stage p side history) bytes (VersionLine text) → OpensShown p side history bytes new
  no_payload_there text new x = λ payload y. absurd (cc (laws.one p.crypto (stage p side history) bytes (VersionLine text) (Opens payload) sealing x y))

  is_over : (why : LineRefusal) (given : TransportTurn) (new : State K) → LineOutcome (line_turn.Refused why) given → new.kept.dead ≡ true → Left p side history bytes given new
  is_over why (outcome.Refused so) new x dead = Left.over so refl dead
  is_over why outcome.More new x dead = absurd x
  is_over why (outcome.Done so) new x dead = absurd x
  is_over why (outcome.Up number) new x dead = absurd x
  is_over why (outcome.Completed choice) new x dead = absurd x

  pub line_left : old.kept.lines.found ≡ false → (done : LineTurn) (given : TransportTurn) (new : State K) → LineTaken old bytes done new → LineOutcome done given → Left p side history bytes given new
  line_left unfound line_turn.More given new x shown = Left.waits shown (line_begun p.crypto old bytes new unfound reading alive x)
  line_left unfound line_turn.Other given new x shown =
      let y = laws.lines p side history old sums alive live unfound bytes line_turn.Other new x in
      Left.line (ap is_whole shown) (λ e. cc (sym e ∙ shown)) (other_fresh p.crypto old bytes new unfound reading x) (no_payload new.reading.text new y.unit)
  line_left unfound line_turn.Version given new x shown =
      let y = laws.lines p side history old sums alive live unfound bytes line_turn.Version new x in
      Left.line (ap is_whole shown) (λ e. cc (sym e ∙ shown)) (version_fresh p.crypto old bytes new unfound reading x) (no_payload_there new.kept.lines.line new y.unit)
  line_left unfound (line_turn.Refused why) given new x shown = is_over why given new shown (ap (λ (s : State K). s.kept.dead) x.after)

  -- ---- packets

  module _ (found : old.kept.lines.found ≡ true) where
    -- the payload of the packet is the one that is shown
    opens_shown : (mid : State K) (between : State K) → IsShown p.crypto old bytes mid → PacketUnit p.crypto old.kept.taking.key old.kept.taking.number old.kept.taking.count bytes (Opens between.receiver.payload) → IsUnit p.crypto (stage p side history) bytes (Opens between.receiver.payload) →
        OpensShown p side history bytes mid
    opens_shown mid between x sealed unit = λ payload y.
        one_payload payload between.receiver.payload (laws.one p.crypto (stage p side history) bytes (Opens payload) (Opens between.receiver.payload) sealing y unit)
        ∙ one_payload between.receiver.payload mid.receiver.payload
        (laws.one p.crypto (Packets old.receiver.direction.key old.receiver.direction.number old.receiver.direction.count) bytes (Opens between.receiver.payload) (Opens mid.receiver.payload) sealing
        (subst (λ (d : Direction K). PacketUnit p.crypto d.key d.number d.count bytes (Opens between.receiver.payload)) live.taking sealed) x.unit)

    shown_left : (given : TransportTurn) (new : State K) → (given ≡ outcome.More → ⊥) → IsShown p.crypto old bytes new → OpensShown p side history bytes new → Left p side history bytes given new
    shown_left given new more x opens = Left.packet more x.found x.buffered opens

    packet_left_so : (given : TransportTurn) (new : State K) (o : Outs) → PacketLeaves p.crypto old bytes given new → PacketTurnOf p side history old.kept bytes (Shared given) new o → Left p side history bytes given new
    packet_left_so given new o (PacketLeaves.waits e x) y = Left.waits e x
    packet_left_so given new o (PacketLeaves.over why e dead) y = Left.over why e dead
    packet_left_so given new o (PacketLeaves.shows more x) (PacketTurnOf.buffered y) = absurd (more refl)
    packet_left_so given new o (PacketLeaves.shows more x) (PacketTurnOf.refused {why} y) = Left.over why refl y.turned.sums.dead_is
    packet_left_so given new o (PacketLeaves.shows more x) (PacketTurnOf.payload y) = shown_left given new more x (opens_shown new y.between x y.packet y.unit)

    -- of a packet that both roles take alike
    pub packet_left : (given : TransportTurn) (new : State K) (o : Outs) → PacketTaken p.crypto old bytes (Shared given) new o → Left p side history bytes given new
    packet_left given new o x = packet_left_so given new o (packet_leaves p.crypto old bytes found alive given new o x) (laws.packets p side history old sums alive live found bytes (Shared given) new o x)

    -- of a packet that was left to a role, which then kept what is shown
    role_left : (left : Own) (between : State K) (given : TransportTurn) (new : State K) (o : Outs) → (given ≡ outcome.More → ⊥) → PacketTaken p.crypto old bytes (OfRole left) between o → Still between new → Left p side history bytes given new
    role_left left between given new o more x s = go (laws.packets p side history old sums alive live found bytes (OfRole left) between o x)
      where
        go : PacketTurnOf p side history old.kept bytes (OfRole left) between o → Left p side history bytes given new
        go (PacketTurnOf.payload y) =
            let shown = still_shown p.crypto old bytes between new (left_shown p.crypto old bytes found left between o x) s in
            shown_left given new more shown (opens_shown new y.between shown y.packet y.unit)

    -- or refused its peer
    pub own_left : (left : Own) (between : State K) (given : TransportTurn) (new : State K) (o : Outs) → (given ≡ outcome.More → ⊥) → PacketTaken p.crypto old bytes (OfRole left) between o → Leaves between given new → Left p side history bytes given new
    own_left left between given new o more x (Leaves.stays s) = role_left left between given new o more x s
    own_left left between given new o more x (Leaves.over why e dead) = Left.over why e dead

-- ---- what an end then shows

-- What an end left of the bytes of a line or a packet, by what it did.
pub data Reads {K : Type 0} (p : Parties K) (side : Side) (history : List Item) (bytes : List ℕ) (done : Step) (new : State K) : Type 0 where
  waits : done ≡ step.More → Reads p side history bytes done new
  over : (why : Refusal) → done ≡ step.Refused why → new.kept.dead ≡ true → Reads p side history bytes done new
  whole : Fresh p.crypto new → OpensShown p side history bytes new → Reads p side history bytes done new

module _ {K : Type 0} (p : Parties K) (side : Side) (history : List Item) (bytes : List ℕ) (between new : State K) (done : Step) where
  -- the transport did all
  pub whole_reads : (given : TransportTurn) → done ≡ step_given given → new ≡ between → Left p side history bytes given between → Reads p side history bytes done new
  whole_reads given shown same (Left.waits e x) = Reads.waits (shown ∙ ap step_given e)
  whole_reads given shown same (Left.over why e dead) = Reads.over why (shown ∙ ap step_given e) (ap (λ (s : State K). s.kept.dead) same ∙ dead)
  whole_reads given shown same (Left.line is more fresh opens) = Reads.whole (subst (λ (s : State K). Fresh p.crypto s) (sym same) fresh) (subst (λ (s : State K). OpensShown p side history bytes s) (sym same) opens)
  whole_reads given shown same (Left.packet more found none opens) =
      Reads.whole (subst (λ (s : State K). Fresh p.crypto s) (sym same) (fresh_packet p.crypto between found none)) (subst (λ (s : State K). OpensShown p side history bytes s) (sym same) opens)

  still_reads : (given : TransportTurn) → is_whole given ≡ false → (given ≡ outcome.More → ⊥) → ((why : Refusal) → given ≡ outcome.Refused why → ⊥) → Still between new → Left p side history bytes given between → Reads p side history bytes done new
  still_reads given left more unrefused s (Left.waits e x) = absurd (more e)
  still_reads given left more unrefused s (Left.over why e dead) = absurd (unrefused why e)
  still_reads given left more unrefused s (Left.line is more_so fresh opens) = absurd (false≢true (sym left ∙ is))
  still_reads given left more unrefused s (Left.packet more_so found none opens) = Reads.whole (fresh_packet p.crypto new (s.found ∙ found) (s.buffered ∙ none)) (λ payload x. opens payload x ∙ sym s.payload)

  put_still : (c : Crypto K) (reply : Option (List ℕ)) (mid : State K) (o : Outs) → PutsReply c between reply mid o → Still between mid
  put_still c None mid o x = still_same between mid x.0
  put_still c (Some payload) mid o x = still_by between mid _ x.after refl

  success_still : (success : Bool) (mid : State K) → new ≡ record mid { kept = after_success_where success mid.kept } → Still between mid → Still between new
  success_still true mid e s = let t = still_by mid new (after_success_where true mid.kept) e refl in record { payload = t.payload ∙ s.payload; buffered = t.buffered ∙ s.buffered; found = t.found ∙ s.found }
  success_still false mid e s = let t = still_by mid new (after_success_where false mid.kept) e refl in record { payload = t.payload ∙ s.payload; buffered = t.buffered ∙ s.buffered; found = t.found ∙ s.found }

  -- the layers above judged its payload
  pub above_reads : (number : ℕ) (given : Result ServiceReply Refusal) (o : Outs) → Finished p.crypto between given done new o → Left p side history bytes (outcome.Up number) between → Reads p side history bytes done new
  above_reads number (Ok above) o x y =
      still_reads (outcome.Up number) refl (λ e. cc e) (λ why e. cc e) (success_still above.success x.between x.after (put_still p.crypto (option_map (λ v. v.items) above.reply) x.between o x.puts)) y
  above_reads number (Err why) o x y = Reads.over why x.shown (ap (λ (t : Transport K). t.dead) x.refused.refuses.after)

  -- what was owed was given after an exchange
  pub ended_reads : (choice : Box OwnedChoice) (channels later : Channels) (o : Outs) → new ≡ record between { kept = new.kept } → OwedFlushed p.crypto between channels done new later o → Left p side history bytes (outcome.Completed choice) between → Reads p side history bytes done new
  ended_reads choice channels later o rest (OwedFlushed.given x shown) y =
      still_reads (outcome.Completed choice) refl (λ e. cc e) (λ why e. cc e)
      (still_by between new new.kept rest (ap (λ (t : Transport K). t.lines) (x.kept Client) ∙ owed_lines channels later x.items x.gives between.kept)) y
  ended_reads choice channels later o rest (OwedFlushed.spent many ended same quiet shown) y = Reads.over code.NumberSpent shown (ap (λ (s : State _). s.kept.dead) ended)

-- ---- a turn with the payload that is shown

module _ {K : Type 0} (p : Parties K) (side : Side) (history : List Item) (bytes : List ℕ) (done : Step) (e : EndState K) (o : Outs) where
  refused_again : (payload other : List ℕ) (why : Refusal) (items : List Item) → Shows payload (step.Refused why) items → Shows other (step.Refused why) items
  refused_again payload other why items (steps.Shows.refused _ opened said) = steps.Shows.refused why opened said

  -- a refusal is shown with any payload
  pub refused_with : (payload other : List ℕ) (why : Refusal) → done ≡ step.Refused why → UnitTurned p side history bytes payload done e o → UnitTurned p side history bytes other done e o
  refused_with payload other why refused x = record {
    items = x.items;
    more = x.more;
    shows = subst (λ (d : Step). Shows other d x.items) (sym refused) (refused_again payload other why x.items (subst (λ (d : Step). Shows payload d x.items) refused x.shows));
    turned = x.turned;
    parts = x.parts;
    sends_on = x.sends_on;
    lists = x.lists;
  }

  pub same_with : (payload other : List ℕ) → payload ≡ other → UnitTurned p side history bytes payload done e o → UnitTurned p side history bytes other done e o
  same_with payload other same x = subst (λ (l : List ℕ). UnitTurned p side history bytes l done e o) same x
