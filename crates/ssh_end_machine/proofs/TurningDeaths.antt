-- Where memory is refused an end dies as in a session.
use Rattle.std.proofs.Common.{◌≡◌, ℕ, ◌+◌, ◌≤◌, ◌^◌, true, false, List, [], ◌∷◌, ◌++◌, length, arith, refl, ap, sym, subst, Option, None, Some}
use Rattle.std.proofs.lemmas.Bool.{false≢true}
use Rattle.std.proofs.lemmas.List.{length-append}
use Rattle.ssh_model.specs.declared.side.Side.{Side}
use Rattle.ssh_model.specs.Protocol.Wire.Message.{Msg}
use Rattle.ssh_model.specs.Protocol.Wire.Outcome.{Outcome.Opens}
use Rattle.ssh_model.specs.Protocol.Wire.Unit.{PacketUnit}
use Rattle.ssh_model.specs.State.End.Deaths.{CanSettle, WouldTake}
use Rattle.ssh_model.specs.State.End.State.{EndState}
use Rattle.ssh_model.specs.State.End.Summary.{EndSumsUp, EndTurned}
use Rattle.ssh_model.specs.State.End.Units.{TakesUnit}
use Rattle.ssh_model.specs.Protocol.KeyExchange.Choice.{Chosen}
use Rattle.ssh_model.specs.Protocol.Sessions.Epochs.{count}
use Rattle.ssh_model.specs.Protocol.Sessions.Items.{Fact, Fact.Completed, Fact.Opened, Item, Item.Died, Item.Sent, Item.Told, Item.Took, Encoded, Encoded.EncodedBy, messages_sent, sent}
use Rattle.ssh_model.specs.Protocol.Sessions.Parties.{AreLawful, Parties}
use Rattle.ssh_model.specs.Protocol.Sessions.TurnClaims.{HasNumbers}
use Rattle.ssh_model.specs.Protocol.Sessions.Turns.{EndRun, OnUnit, take_memory}
use Rattle.ssh_model.specs.State.TransportLayer.Kept as kept
use Rattle.ssh_model.specs.State.TransportLayer.Kept.{Answered, Completes, Transport}
use Rattle.ssh_model.specs.State.TransportLayer.Summary.{answer_items, items_sent, parts_of, told_over}
use Rattle.ssh_transport.specs.Outcomes.{LineOutcome}
use Rattle.ssh_transport.specs.Endings.{WouldEnd}
use Rattle.ssh_transport.specs.Sessions.{WouldDie}
use Rattle.ssh_transport.specs.Shown.{WouldAnswer, WouldAnswerPacket}
use Rattle.ssh_transport_machine.specs.declared.machine.LineTurn.{LineTurn}
use Rattle.ssh_transport_machine.specs.declared.machine.LineTurn.TheVariants as line_turn
use Rattle.ssh_transport.specs.declared.outcome.TransportTurn.{TransportTurn}
use Rattle.ssh_transport.specs.declared.outcome.TransportTurn.TheVariants as outcome
use Rattle.ssh_end_machine.specs.Outcomes.{is_whole}

-- ---- items that take memory

told_memory : (fact : Fact) (items : List Item) → take_memory items ≡ true → take_memory (Told fact ∷ items) ≡ true
told_memory (Opened channel kind window max rest) items x = refl
told_memory _ items x = x

-- Something is sent, whatever is told.
pub some_memory : (items : List Item) → 1 ≤ length (messages_sent items) → take_memory items ≡ true
some_memory [] x = absurd (omega (arith, x))
some_memory (Sent channel message payload ∷ items) x = refl
some_memory (Told fact ∷ items) x = told_memory fact items (some_memory items x)
some_memory (_ ∷ items) x = some_memory items x

later_memory : (a b : List Item) → take_memory b ≡ true → take_memory (a ++ b) ≡ true
later_memory [] b x = x
later_memory (Sent channel message payload ∷ a) b x = refl
later_memory (Told fact ∷ a) b x = told_memory fact (a ++ b) (later_memory a b x)
later_memory (_ ∷ a) b x = later_memory a b x

-- What takes memory does with what stands after it.
pub front_memory : (a b : List Item) → take_memory a ≡ true → take_memory (a ++ b) ≡ true
front_memory [] b x = absurd (false≢true x)
front_memory (Sent channel message payload ∷ a) b x = refl
front_memory (Told (Opened channel kind window max rest) ∷ a) b x = refl
front_memory (_ ∷ a) b x = front_memory a b x

sent_memory : (said : List Encoded) → 1 ≤ length said → take_memory (items_sent said) ≡ true
sent_memory [] x = absurd (omega (arith, x))
sent_memory (EncodedBy message payload ∷ said) x = refl

over_memory : (fact : Option Fact) (items : List Item) → take_memory items ≡ true → take_memory (told_over fact items) ≡ true
over_memory None items x = x
over_memory (Some fact) items x = told_memory fact items x

answered_memory : (answered : Answered) (message : Msg) (payload : List ℕ) → 1 ≤ length answered.sent → take_memory (answer_items answered ++ Took None message payload ∷ []) ≡ true
answered_memory answered message payload some = front_memory (answer_items answered) _ (over_memory answered.fact (items_sent answered.sent) (sent_memory answered.sent some))

-- NEWKEYS is sent
last_some : {K : Type 0} (p : Parties K) (side : Side) (chosen : Chosen) (s : Transport K) (message : Msg) (last announced : List Encoded) (completed new : Transport K) → Completes p.crypto (parts_of p side) chosen s message last announced completed new → 1 ≤ length last
last_some p side chosen s message last announced completed new (kept.Completes.init q_c reply newkeys e here is x) = omega arith
last_some p side chosen s message last announced completed new (kept.Completes.reply k_s q_s signature newkeys e here is x) = omega arith

ended_memory : (position : ℕ) (owed : List Item) (last announced : List Encoded) (message : Msg) (payload : List ℕ) → 1 ≤ length last → take_memory ((Told (Completed position) ∷ (owed ++ items_sent (announced ++ last))) ++ Took None message payload ∷ []) ≡ true
ended_memory position owed last announced message payload some =
    front_memory (Told (Completed position) ∷ (owed ++ items_sent (announced ++ last))) _
    (later_memory owed (items_sent (announced ++ last)) (sent_memory (announced ++ last) (omega (arith, some, length-append announced last))))

-- ---- the unit

-- the laws of the model by which it is a turn
pub record DyingLaws (K : Type 0) : Type 0 where
  pub taken : (p : Parties K) (side : Side) (history : List Item) (e : EndState K) → EndSumsUp p side history e → e.transport.dead ≡ false → (unit : List ℕ) (items : List Item) (more : List ℕ) (new : EndState K) → TakesUnit p side e unit items more new → EndTurned p side history (OnUnit p side history unit) items more new
  pub settled : (p : Parties K) → AreLawful p → (side : Side) (history : List Item) (e : EndState K) → EndSumsUp p side history e → e.transport.dead ≡ false → EndRun p side history → CanSettle e.channels
  pub numbers : (p : Parties K) (side : Side) (history : List Item) → EndRun p side history → HasNumbers history

-- An epoch has no more packets than there are numbers.
few_sent : (history : List Item) → HasNumbers history → count (sent history) ≤ 2 ^ 32
few_sent [] x = omega arith
few_sent (Sent channel Msg.NewKeys payload ∷ history) x = omega arith
few_sent (Sent channel message payload ∷ history) x = omega (arith, x.0)
few_sent (_ ∷ history) x = few_sent history x

module _ {K : Type 0} (laws : DyingLaws K) (p : Parties K) (lawful : AreLawful p) (side : Side) (history : List Item) (run : EndRun p side history) (e : EndState K) (sums : EndSumsUp p side history e) (alive : e.transport.dead ≡ false) (bytes : List ℕ) (found : e.transport.lines.found ≡ true) where
  abbrev over : EndState K
  over = record e { transport = record e.transport { dead = true } }

  abbrev pub UnitOf : List ℕ → Type 0
  UnitOf payload = PacketUnit p.crypto e.transport.taking.key e.transport.taking.number e.transport.taking.count bytes (Opens payload)

  pub few_of : e.transport.sending.count ≤ 2 ^ 32
  few_of = subst (λ (n : ℕ). n ≤ 2 ^ 32) (sym (sums.transport.live alive).sending.count_is) (few_sent history (laws.numbers p side history run))

  -- of a payload, of which something would be made that takes memory
  pub dies : (payload : List ℕ) (items : List Item) → UnitOf payload → WouldTake p side e payload items → take_memory items ≡ true → OnUnit p side history bytes (Died ∷ [])
  dies payload items unit would memory = (laws.taken p side history e sums alive bytes (Died ∷ []) [] over (TakesUnit.dies payload over found unit would memory refl)).turn

  answer : (payload : List ℕ) → UnitOf payload → WouldAnswer p side e.transport payload → OnUnit p side history bytes (Died ∷ [])
  answer payload unit (WouldAnswer.answered chosen message answered new reads awaited fine takes encoded some room) =
      dies payload _ unit (WouldTake.answered chosen message answered new (record { reads = reads; awaited = awaited; unrefused = fine }) takes encoded room) (answered_memory answered message payload some)
  answer payload unit (WouldAnswer.refused why is say) =
      dies payload _ unit (WouldTake.refused_below why say.reason say.encoding.payload is (record { reason_is = say.reason_is; encoded = say.encoding.encodes; few = say.room })) refl

  packet : WouldAnswerPacket p side e.transport bytes → OnUnit p side history bytes (Died ∷ [])
  packet (WouldAnswerPacket.opened payload unit x) = answer payload unit x
  packet (WouldAnswerPacket.refused why unit say) =
      (laws.taken p side history e sums alive bytes (Died ∷ []) [] over
      (TakesUnit.refused_dies why say.reason say.encoding.payload over found unit (record { reason_is = say.reason_is; encoded = say.encoding.encodes; few = say.room }) refl)).turn

  ends : (payload : List ℕ) → UnitOf payload → WouldEnd p side e.transport payload → OnUnit p side history bytes (Died ∷ [])
  ends payload unit x =
      let can : CanSettle e.channels = laws.settled p lawful side history e sums alive run in
      dies payload _ unit
      (WouldTake.ended x.chosen x.message x.last x.announced x.completed x.new (record { reads = x.reads; awaited = x.awaited; unrefused = x.unrefused }) x.completes x.encoded x.room can.gives can.none_left can.encoded)
      (ended_memory (e.transport.sending.epoch + 1) can.items x.last x.announced x.message payload (last_some p side x.chosen e.transport x.message x.last x.announced x.completed x.new x.completes))

  -- something would be sent by its transport
  pub below_dies : WouldDie p side e.transport bytes → OnUnit p side history bytes (Died ∷ [])
  below_dies (WouldDie.answers x) = packet x
  below_dies (WouldDie.ends payload unit x) = ends payload unit x

-- ---- what was left of a unit

-- An answer by which more is to be done is of no line.
pub line_whole : (done : LineTurn) (given : TransportTurn) → LineOutcome done given → is_whole given ≡ true
line_whole line_turn.More given x = ap is_whole x
line_whole line_turn.Other given x = ap is_whole x
line_whole line_turn.Version given x = ap is_whole x
line_whole (line_turn.Refused why) (outcome.Refused so) x = refl
line_whole (line_turn.Refused why) outcome.More x = absurd x
line_whole (line_turn.Refused why) (outcome.Done so) x = absurd x
line_whole (line_turn.Refused why) (outcome.Up number) x = absurd x
line_whole (line_turn.Refused why) (outcome.Completed choice) x = absurd x
