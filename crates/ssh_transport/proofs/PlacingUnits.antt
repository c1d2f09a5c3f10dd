-- Where bytes of the peer take a transport.
use Rattle.std.proofs.Common.{◌≡◌, ℕ, ◌+◌, ◌≤◌, ◌++◌, false, List, arith, [], ◌∷◌, refl, ap, sym, ◌∙◌, subst, append_assoc, Option, None, Some}
use Rattle.std.proofs.lemmas.Bool.{false≢true}
use Rattle.ssh_model.specs.declared.side.Side.{Side}
use Rattle.ssh_model.specs.declared.side.Side.TheVariants.{Client}
use Rattle.ssh_model.specs.declared.refusal.Refusal.{Refusal}
use Rattle.ssh_model.specs.Protocol.KeyExchange.Choice.{Chosen}
use Rattle.ssh_model.specs.Protocol.Sessions.AnyLayers as layers
use Rattle.ssh_model.specs.Protocol.Sessions.Events.{PutsOut}
use Rattle.ssh_model.specs.Protocol.Sessions.Items.{Encoded, Item, Item.Died, Item.Refused, Item.Told, Item.Took, Item.TookLine, Item.TookOtherLine, Fact.Completed, messages_sent}
use Rattle.ssh_model.specs.Protocol.Sessions.Parties.{Agreement, Parties}
use Rattle.ssh_model.specs.Protocol.Sessions.Turns.{OnOutcome, OnUnit, stage}
use Rattle.ssh_model.specs.Protocol.Wire.Message.{Msg, Msg.KexEcdhInit, Msg.KexEcdhReply, Msg.KexInit, Msg.NewKeys, Msg.ServiceAccept, Msg.ServiceRequest, Msg.UserauthSuccess, message_number}
use Rattle.ssh_model.specs.Protocol.Wire.Outcome.{Outcome, Outcome.Opens}
use Rattle.ssh_model.specs.Protocol.Wire.Unit.{IsUnit}
use Rattle.ssh_model.specs.State.TransportLayer.Kept.{Transport, after_success, after_taken}
use Rattle.ssh_model.specs.State.TransportLayer.Summary.{IsPlain, LeavesTransport, SumsUp, items_sent}
use Rattle.ssh_model.specs.State.TransportLayer.Turns.{Turned, UnitRefused, refusal_items}
use Rattle.ssh_packet.specs.Refusals.{line_refusal}
use Rattle.ssh_kex.specs.Values.{owned_chosen}
use Rattle.ssh_transport_machine.specs.Answering.{IsQuiet}
use Rattle.ssh_transport_machine.specs.Puts.{Outs, payloads_of}
use Rattle.ssh_transport_machine.specs.State.{State, last_number}
use Rattle.ssh_transport_machine.specs.declared.machine.LineTurn.{LineTurn}
use Rattle.ssh_transport_machine.specs.declared.machine.LineTurn.TheVariants as line_turn
use Rattle.ssh_transport_machine.specs.declared.machine.sending.SendOutcome.{SendOutcome}
use Rattle.ssh_transport.specs.Endings.{ExchangeEnds}
use Rattle.ssh_transport.specs.Kexinits.{KexinitShows}
use Rattle.ssh_transport.specs.Outcomes.{LineOutcome, answer_outcome}
use Rattle.ssh_transport.specs.Own.{Share.Shared}
use Rattle.ssh_transport.specs.Places.{MayTake, OnBytes, TakenTo, TookBytes, TransportStandsAfter, WentOn, told_of}
use Rattle.ssh_transport.specs.Roles.{OwnTurn}
use Rattle.ssh_transport.specs.Sessions.{IsAbove, UnitTurnOf, is_up}
use Rattle.ssh_transport.specs.Shown.{LineTurnOf, PacketTurnOf, Shows, TurnOf}
use Rattle.ssh_transport.specs.declared.outcome.Handled.TheVariants as handled
use Rattle.ssh_transport.specs.declared.outcome.TransportTurn.{TransportTurn}
use Rattle.ssh_transport.specs.declared.outcome.TransportTurn.TheVariants as outcome
use Rattle.ssh_transport.proofs.Going.{Guards, goes_on, goes_quietly, lives, over, sent_before, stayed, told}
use Rattle.ssh_transport.proofs.Running.{by_bytes, took_above}

-- Of a message of a number from 50 on a transport keeps no more than that a packet went, except for USERAUTH_SUCCESS.
plain_above : (message : Msg) → 50 ≤ message_number message → (message ≡ UserauthSuccess → ⊥) → IsPlain message
plain_above (ServiceRequest service) l other = absurd (omega (arith, l))
plain_above (ServiceAccept service) l other = absurd (omega (arith, l))
plain_above (KexInit proposal) l other = absurd (omega (arith, l))
plain_above NewKeys l other = absurd (omega (arith, l))
plain_above (KexEcdhInit q_c) l other = absurd (omega (arith, l))
plain_above (KexEcdhReply k_s q_s signature) l other = absurd (omega (arith, l))
plain_above UserauthSuccess l other = absurd (other refl)
plain_above _ l other = tt

-- the laws of the model
pub record UnitLaws (K : Type 0) : Type 0 where
  pub guards : Guards K
  pub left : (p : Parties K) (side : Side) (history : List Item) (s : Transport K) (item : Item) → LeavesTransport item → SumsUp p side history s → SumsUp p side (item ∷ history) s
  pub taken : (p : Parties K) (side : Side) (history : List Item) (s : Transport K) (channel : Option ℕ) (message : Msg) (payload : List ℕ) → IsPlain message → SumsUp p side history s → SumsUp p side (Took channel message payload ∷ history) (after_taken s)
  pub success : (p : Parties K) (history : List Item) (s : Transport K) (channel : Option ℕ) (payload : List ℕ) → SumsUp p Client history s → SumsUp p Client (Took channel UserauthSuccess payload ∷ history) (after_success (after_taken s))

-- the answer is neither that more bytes are awaited nor that a payload is for the layers above
abbrev IsWhole : TransportTurn → Type 0
IsWhole outcome.More = ⊥
IsWhole (outcome.Up number) = ⊥
IsWhole _ = Unit {0}

-- what is shown of a payload is such an answer, and names what was sent
shows_whole : {K : Type 0} (s : Transport K) (payload : List ℕ) (given : TransportTurn) (said : List Encoded) (items : List Item) → Shows s payload given said items → IsWhole given × (messages_sent items ≡ said)
shows_whole s payload given said items (Shows.refused why) = (tt, sent_before said (Refused why (Some payload) ∷ []) refl)
shows_whole s payload given said items Shows.skipped = (tt, refl)
shows_whole s payload given said items (Shows.disconnected reason description language is) = (tt, refl)
shows_whole s payload given said items (Shows.told message fact is x) = (tt, refl)
shows_whole s payload given said items (Shows.unknown number reply is) = (tt, refl)
shows_whole s payload given said items (Shows.service_requested service reply is) = (tt, refl)
shows_whole s payload given said items (Shows.service_accepted service is) = (tt, refl)
shows_whole s payload given said items (Shows.newkeys is) = (tt, refl)

kexinit_whole : {K : Type 0} (agreement : Agreement) (side : Side) (s : Transport K) (payload : List ℕ) (answer : SendOutcome) (said : List Encoded) (items : List Item) → KexinitShows agreement side s payload answer said items → IsWhole (answer_outcome answer handled.Kexinit) × (messages_sent items ≡ said)
kexinit_whole agreement side s payload answer said items (KexinitShows.answered theirs w between is says) = (tt, sent_before w (Took None (KexInit theirs) payload ∷ []) refl)
kexinit_whole agreement side s payload answer said items KexinitShows.spent = (tt, refl)

module _ {K : Type 0} (laws : UnitLaws K) (p : Parties K) (side : Side) (parts : Type 0) (history : List Item) (old : Transport K) (place : TransportStandsAfter p side parts history old) (alive : old.dead ≡ false) (bytes : List ℕ) (new : State K) (o : Outs) where
  abbrev Whole : Type 0
  Whole = TookBytes p side parts history bytes new.kept o

  abbrev To : TransportTurn → Type 0
  To given = TakenTo p side parts history bytes given new o

  whole_to : (given : TransportTurn) → IsWhole given → Whole → To given
  whole_to outcome.More is x = absurd is
  whole_to (outcome.Up number) is x = absurd is
  whole_to (outcome.Done done) is x = x
  whole_to (outcome.Completed choice) is x = x
  whole_to (outcome.Refused why) is x = x

  went : (items : List Item) → OnBytes p side history bytes items → SumsUp p side (items ++ history) new.kept → (more : List ℕ) → ((before : List ℕ) → PutsOut p side history before → PutsOut p side (items ++ history) (before ++ more)) →
      o.after ≡ o.before ++ more → (said : List Encoded) → messages_sent items ≡ said → o.payloads_after ≡ o.payloads_before ++ payloads_of said → Whole
  went items on sums more puts out said is lists = record {
    items = items;
    of_bytes = on;
    went = goes_on laws.guards p side parts history old place items new.kept o (by_bytes p side history bytes (lives p side parts history old place alive) on) sums more puts out said is lists;
  }

  quietly : (items : List Item) → OnBytes p side history bytes items → SumsUp p side (items ++ history) new.kept → ((before : List ℕ) → PutsOut p side history before → PutsOut p side (items ++ history) before) → messages_sent items ≡ [] → IsQuiet o → Whole
  quietly items on sums puts none quiet = record {
    items = items;
    of_bytes = on;
    went = goes_quietly laws.guards p side parts history old place items new.kept o (by_bytes p side history bytes (lives p side parts history old place alive) on) sums puts none quiet;
  }

  -- ---- what an end makes of the unit

  refused_unit : (outcome : Outcome) → IsUnit p.crypto (stage p side history) bytes outcome → (why : Refusal) (said : List Encoded) (more : List ℕ) → UnitRefused p side history (refusal_items why None said) why more new.kept →
      OnOutcome p side history outcome (refusal_items why None said) → o.after ≡ o.before ++ more → o.payloads_after ≡ o.payloads_before ++ payloads_of said → Whole
  refused_unit outcome is why said more x on out lists =
      went (refusal_items why None said) (OnBytes.as_an_end (OnUnit.reads outcome is on)) x.sums more x.puts out said (sent_before said (Refused why None ∷ []) refl) lists

  opened_unit : (payload : List ℕ) → IsUnit p.crypto (stage p side history) bytes (Opens payload) → (items : List Item) (more : List ℕ) → Turned p side history payload items more new.kept → o.after ≡ o.before ++ more →
      (said : List Encoded) → messages_sent items ≡ said → o.payloads_after ≡ o.payloads_before ++ payloads_of said → Whole
  opened_unit payload is items more x out said sends lists =
      went items (OnBytes.as_an_end (OnUnit.reads (Opens payload) is (OnOutcome.opened payload x.turn))) x.sums more x.puts out said sends lists

  -- ---- lines

  line_to : (done : LineTurn) (given : TransportTurn) → LineOutcome done given → IsQuiet o → LineTurnOf p side history old bytes done new → To given
  line_to line_turn.More given e quiet x = subst To (sym e) (stayed p side parts history old place new.kept o x quiet)
  line_to line_turn.Other given e quiet x =
      subst To (sym e) (quietly (TookOtherLine new.reading.text ∷ []) (OnBytes.as_an_end (OnUnit.reads _ x.unit (OnOutcome.other_line new.reading.text))) x.sums (λ before y. PutsOut.other (TookOtherLine new.reading.text) tt y) refl quiet)
  line_to line_turn.Version given e quiet x =
      subst To (sym e) (quietly (TookLine new.kept.lines.line ∷ []) (OnBytes.as_an_end (OnUnit.reads _ x.unit (OnOutcome.version_line new.kept.lines.line))) x.sums (λ before y. PutsOut.other (TookLine new.kept.lines.line) tt y) refl quiet)
  line_to (line_turn.Refused why) (outcome.Refused other) e quiet x =
      quietly (refusal_items (line_refusal why) None []) (OnBytes.as_an_end (OnUnit.reads _ x.unit (OnOutcome.refused_line (line_refusal why) x.turned.refuses))) x.turned.sums (λ before y. PutsOut.other Died tt (PutsOut.other (Refused (line_refusal why) None) tt y)) refl quiet
  line_to (line_turn.Refused why) outcome.More e quiet x = absurd e
  line_to (line_turn.Refused why) (outcome.Done done) e quiet x = absurd e
  line_to (line_turn.Refused why) (outcome.Up number) e quiet x = absurd e
  line_to (line_turn.Refused why) (outcome.Completed choice) e quiet x = absurd e

  -- ---- packets

  turn_to : (between : State K) (given : TransportTurn) → is_up given ≡ false → IsUnit p.crypto (stage p side history) bytes (Opens between.receiver.payload) → TurnOf p side history old between (Shared given) new o → To given
  turn_to between given none is (TurnOf.turned x) =
      let w = shows_whole old between.receiver.payload given x.said x.items x.shows in
      whole_to given w.0 (opened_unit between.receiver.payload is x.items x.more x.turned x.parts x.said w.1 x.lists)
  turn_to between given none is (TurnOf.above e x) = absurd (false≢true (sym none ∙ ap is_up e))

  packet_to : (given : TransportTurn) → is_up given ≡ false → PacketTurnOf p side history old bytes (Shared given) new o → To given
  packet_to given none (PacketTurnOf.buffered x) = stayed p side parts history old place new.kept o (subst (λ (t : Transport K). SumsUp p side history t) (sym x.after) place.sums) x.quiet
  packet_to given none (PacketTurnOf.refused {why = why} x) = refused_unit _ x.unit why x.said x.more x.turned (OnOutcome.refused_packet why x.turned.refuses) x.parts x.lists
  packet_to given none (PacketTurnOf.payload x) = turn_to x.between given none x.unit x.turn

  -- ---- for the layers above

  above_to : (number : ℕ) → IsAbove p side history old bytes new o → To (outcome.Up number)
  above_to number x = record { unit = x.unit; taken = λ channel message may. after channel message may }
    where
      sums : (channel : Option ℕ) (message : Msg) → MayTake side new.kept message new.receiver.payload → SumsUp p side (Took channel message new.receiver.payload ∷ history) (told_of message new.kept)
      sums channel message may =
          subst (λ (k : Transport K). SumsUp p side (Took channel message new.receiver.payload ∷ history) (told_of message k)) (sym x.kept)
          (told p side (Took channel message new.receiver.payload ∷ history) message (after_taken old)
          (λ other. laws.taken p side history old channel message new.receiver.payload (plain_above message (subst (λ (n : ℕ). 50 ≤ n) (sym may.number) x.above) other) place.sums)
          (λ same. subst (λ (m : Msg). SumsUp p side (Took channel m new.receiver.payload ∷ history) (after_success (after_taken old))) (sym same)
          (subst (λ (t : Side). SumsUp p t (Took channel UserauthSuccess new.receiver.payload ∷ history) (after_success (after_taken old))) (sym (may.success same))
          (laws.success p history old channel new.receiver.payload (subst (λ (t : Side). SumsUp p t history old) (may.success same) place.sums)))))

      after : (channel : Option ℕ) (message : Msg) → MayTake side new.kept message new.receiver.payload → WentOn p side parts history (Took channel message new.receiver.payload ∷ []) (told_of message new.kept) o
      after channel message may =
          goes_quietly laws.guards p side parts history old place (Took channel message new.receiver.payload ∷ []) (told_of message new.kept) o
          (layers.TransportTurn.takes channel message new.receiver.payload (took_above p side history old (place.sums.live alive) (lives p side parts history old place alive) message new.receiver.payload (subst (λ (k : Transport K). MayTake side k message new.receiver.payload) x.kept may) x.above x.normal))
          (sums channel message may) (λ before y. PutsOut.other (Took channel message new.receiver.payload) tt y) refl x.quiet

  -- ---- what the role does

  ended_to : (payload : List ℕ) → IsUnit p.crypto (stage p side history) bytes (Opens payload) → (position : ℕ) (algorithms : Chosen) → ExchangeEnds p side history payload position algorithms new.kept o → Whole
  ended_to payload is position algorithms x =
      let said : List Item = items_sent x.sent in
      let fact : Item = Told (Completed position) in
      let taken : Item = Took None x.message payload in
      let same : (said ++ taken ∷ []) ++ history ≡ said ++ taken ∷ history = append_assoc said (taken ∷ []) history in
      went (fact ∷ (said ++ taken ∷ [])) (OnBytes.completes {items = fact ∷ said} x.message payload is x.ended.welcomes (x.ended.answer []) x.ended.out.encoded x.ended.out.numbered)
      (subst (λ (h : List Item). SumsUp p side (fact ∷ h) new.kept) (sym same) (laws.left p side (said ++ taken ∷ history) new.kept fact tt x.ended.sums)) x.more
      (λ before y. subst (λ (h : List Item). PutsOut p side (fact ∷ h) (before ++ x.more)) (sym same) (PutsOut.other fact tt (x.ended.out.puts before (PutsOut.other taken tt y))))
      x.parts x.sent (sent_before x.sent (taken ∷ []) refl) x.lists

  own_to : (payload : List ℕ) → IsUnit p.crypto (stage p side history) bytes (Opens payload) → (given : TransportTurn) → OwnTurn p side history old payload given new.kept o → To given
  own_to payload is given (OwnTurn.refused why e x) = subst To (sym e) (opened_unit payload is (refusal_items why (Some payload) x.said) x.more x.turned x.parts x.said (sent_before x.said (Refused why (Some payload) ∷ []) refl) x.lists)
  own_to payload is given (OwnTurn.spent e x) = subst To (sym e) (quietly (Died ∷ []) (OnBytes.spends payload is (λ owed replies encoded. (x.turned owed replies encoded).turn)) (over p side (Died ∷ history) new.kept refl x.dead) (λ before y. PutsOut.other Died tt y) refl x.quiet)
  own_to payload is given (OwnTurn.ended choice e x) = subst To (sym e) (ended_to payload is (old.sending.epoch + 1) (owned_chosen choice.value) x)
  own_to payload is given (OwnTurn.kexinit answer e x) =
      let w = kexinit_whole _ side _ payload answer x.said x.items x.shows in
      subst To (sym e) (whole_to (answer_outcome answer handled.Kexinit) w.0 (opened_unit payload is x.items x.more x.turned x.parts x.said w.1 x.lists))

  pub unit_to : (given : TransportTurn) → UnitTurnOf p side history old bytes given new o → To given
  unit_to given (UnitTurnOf.line done e quiet x) = line_to done given e quiet x
  unit_to given (UnitTurnOf.shared none x) = packet_to given none x
  unit_to given (UnitTurnOf.above e x) = subst To (sym e) (above_to (last_number new.kept.taking) x)
  unit_to given (UnitTurnOf.own payload is x) = own_to payload is given x
