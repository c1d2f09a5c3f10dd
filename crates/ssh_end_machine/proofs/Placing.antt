-- How an end of either role goes from one place of a run to the next.
use Rattle.std.proofs.Common.{◌≡◌, ℕ, Bool, true, false, cond, List, [], ◌∷◌, ◌++◌, refl, ap, sym, ◌∙◌, subst, None, Result, Ok, Err}
use Rattle.std.proofs.lemmas.Bool.{false≢true}
use Rattle.ssh_model.specs.State.Channels.Kept.{Channels}
use Rattle.ssh_model.specs.State.End.Reading.{end_reading}
use Rattle.ssh_model.specs.State.End.State.{Authentication, EndState}
use Rattle.ssh_model.specs.State.End.Summary.{EndSumsUp, EndTurned}
use Rattle.ssh_model.specs.State.End.Units.{TakesPair}
use Rattle.ssh_model.specs.Protocol.Sessions.AnyPeer.{IsGuarded}
use Rattle.ssh_model.specs.Protocol.Sessions.Items as session
use Rattle.ssh_model.specs.Protocol.Sessions.Items.{Item, Item.Asked, Item.AskRefused, Item.Died, has_died}
use Rattle.ssh_model.specs.Protocol.Sessions.Parties.{AreLawful, Parties}
use Rattle.ssh_model.specs.Protocol.Sessions.Phases.{Phase.Normal}
use Rattle.ssh_model.specs.Protocol.Sessions.Turns.{AsksTurn, EndRun, FeedsTurn, IsMaterial, OnUnit}
use Rattle.ssh_model.specs.declared.side.Side.{Side}
use Rattle.ssh_model.specs.State.TransportLayer.Kept.{after_fed, can_be_fed}
use Rattle.ssh_model.specs.Protocol.Wire.Delivery.{Waits}
use Rattle.ssh_model.specs.Laws.Units.{IsPartialLine, IsPartialPacket}
use Rattle.ssh_model.specs.Protocol.Wire.Sealing.{Crypto}
use Rattle.ssh_transport_machine.specs.Puts.{Outs}
use Rattle.ssh_transport_machine.specs.State.{State, buffered_of}
use Rattle.ssh_transport_machine.specs.Answering.{IsQuiet}
use Rattle.ssh_end_machine.specs.Asking.{DoneInSession, end_with}
use Rattle.ssh_end_machine.specs.Layers.{Layers}
use Rattle.ssh_end_machine.specs.Places.{AskedTo, DiedOn, FedTo, StandsAfter, TookUnit, Waited, added}
use Rattle.ssh_end_machine.specs.Reading.{IsReading, SameReading}
use Rattle.ssh_end_machine.specs.Sessions.{AreOf, end_of}
use Rattle.ssh_end_machine.specs.Steps.{UnitTurned, shown_by}
use Rattle.ssh_end_machine.specs.declared.asking.outcome.AskStep.{AskStep}
use Rattle.ssh_end_machine.specs.declared.asking.outcome.Fault.{Fault}
use Rattle.ssh_end_machine.specs.declared.asking.outcome.Fault.TheVariants as fault
use Rattle.ssh_end_machine.specs.declared.step.Step.{Step}

-- the laws of one end of a session
pub record PlaceLaws (K : Type 0) : Type 0 where
  pub guards : (p : Parties K) → AreLawful p → (side : Side) → (h : List Item) → EndRun p side h → IsGuarded p side h
  pub normal : (p : Parties K) (side : Side) (history : List Item) (e : EndState K) → EndSumsUp p side history e → EndRun p side history → e.transport.dead ≡ false → e.transport.phase ≡ Normal → e.transport.session ≡ None → ⊥
  pub goes_on : (p : Parties K) (side : Side) (history : List Item) (e : EndState K) → EndSumsUp p side history e → EndRun p side history → e.transport.dead ≡ false → (unit : List ℕ) (items : List Item) (more : List ℕ) (new : EndState K) → EndTurned p side history (OnUnit p side history unit) items more new → EndRun p side (items ++ history)
  pub dies : (p : Parties K) (side : Side) (history : List Item) (unit : List ℕ) (new : EndState K) → OnUnit p side history unit (Died ∷ []) → new.transport.dead ≡ true → EndTurned p side history (OnUnit p side history unit) (Died ∷ []) [] new
  pub asks_on : (p : Parties K) (side : Side) (history : List Item) (e : EndState K) → EndSumsUp p side history e → EndRun p side history → (ask : session.Ask) (items : List Item) (more : List ℕ) (new : EndState K) → EndTurned p side history (AsksTurn p side history ask) items more new → EndRun p side (items ++ history)

-- what a turn adds makes no dead end live
lived : (items history : List Item) → has_died (items ++ history) ≡ false → has_died history ≡ false
lived [] history e = e
lived (Item.Died ∷ items) history e = absurd (false≢true (sym e))
lived (Item.Fed cookie secret ∷ items) history e = lived items history e
lived (Item.Asked ask ∷ items) history e = lived items history e
lived (Item.AskRefused why ∷ items) history e = lived items history e
lived (Item.SentLine line ∷ items) history e = lived items history e
lived (Item.TookLine line ∷ items) history e = lived items history e
lived (Item.TookOtherLine line ∷ items) history e = lived items history e
lived (Item.Sent channel message payload ∷ items) history e = lived items history e
lived (Item.Took channel message payload ∷ items) history e = lived items history e
lived (Item.TookGuess payload ∷ items) history e = lived items history e
lived (Item.Told fact ∷ items) history e = lived items history e
lived (Item.Refused why payload ∷ items) history e = lived items history e

-- where nothing more was read, the buffered bytes are as before
reads_on : {K : Type 0} (c : Crypto K) (old new : State K) → SameReading old new → IsReading c old → IsReading c new
reads_on c old new x r = record {
  lines = λ e. subst (λ t. IsPartialLine t.buffered) (sym x.reading) (r.lines (sym (ap (λ l. l.found) x.lines) ∙ e));
  unread = λ e. ap (λ t. t.buffered) x.receiver ∙ r.unread (sym (ap (λ l. l.found) x.lines) ∙ e);
  packets = λ e. subst (λ t. IsPartialPacket c t.direction.key t.direction.count t.buffered) (sym x.receiver) (r.packets (sym (ap (λ l. l.found) x.lines) ∙ e));
}

module _ {K : Type 0} (laws : PlaceLaws K) (p : Parties K) (side : Side) (parts layers later : Type 0) (history : List Item) (old : State K) (a : Authentication) (ch : Channels) (place : StandsAfter p side parts layers history old (end_with old a ch)) (new : State K) (b : Authentication) (dh : Channels) where
  -- ---- bytes of the peer

  pub waited : (bytes : List ℕ) (o : Outs) → EndSumsUp p side history (end_with new b dh) → Waits (end_reading p side) history bytes → IsQuiet o → new.kept.dead ≡ false → buffered_of new ≡ bytes → IsReading p.crypto new → later → Waited p side parts later history bytes new (end_with new b dh) o
  waited bytes o sums waits quiet alive buffered reading are = record {
    waits = waits;
    quiet = quiet;
    alive = alive;
    buffered = buffered;
    place = record { lawful = place.lawful; parts_are = place.parts_are; layers_are = λ e. are; sums = sums; run = place.run; reading = λ e. reading; guarded = place.guarded };
  }

  pub took_unit : old.kept.dead ≡ false → (bytes : List ℕ) (done : Step) (o : Outs) (t : UnitTurned p side history bytes (shown_by done new) done (end_with new b dh) o) → (new.kept.dead ≡ false → buffered_of new ≡ []) → (new.kept.dead ≡ false → IsReading p.crypto new) → later → TookUnit p side parts later history bytes done new (end_with new b dh) o
  took_unit alive bytes done o t buffered reading are =
      let run : EndRun p side (t.items ++ history) = laws.goes_on p side history (end_with old a ch) place.sums place.run alive bytes t.items t.more (end_with new b dh) t.turned in
      record {
        turned = t;
        buffered = buffered;
        layers_are = are;
        place = record { lawful = place.lawful; parts_are = place.parts_are; layers_are = λ e. are; sums = t.turned.sums; run = run; reading = reading; guarded = laws.guards p place.lawful side (t.items ++ history) run };
      }

  pub died_on : old.kept.dead ≡ false → new.kept.dead ≡ true → (bytes : List ℕ) → OnUnit p side history bytes (Died ∷ []) → DiedOn p side parts later history new (end_with new b dh) bytes
  died_on alive dead bytes turn =
      let turned : EndTurned p side history (OnUnit p side history bytes) (Died ∷ []) [] (end_with new b dh) = laws.dies p side history bytes (end_with new b dh) turn dead in
      let run : EndRun p side (Died ∷ history) = laws.goes_on p side history (end_with old a ch) place.sums place.run alive bytes (Died ∷ []) [] (end_with new b dh) turned in
      record {
        died = turn;
        place = record { lawful = place.lawful; parts_are = place.parts_are; layers_are = λ e. absurd (false≢true (sym e ∙ dead)); sums = turned.sums; run = run; reading = λ e. absurd (false≢true (sym e ∙ dead)); guarded = laws.guards p place.lawful side (Died ∷ history) run };
      }

  -- ---- asks

  module _ (asked : session.Ask) (o : Outs) (keeps : new.kept.dead ≡ false → layers → later) (same : new.kept.dead ≡ false → SameReading old new) where
    was_alive : (items : List Item) → EndSumsUp p side (items ++ history) (end_with new b dh) → new.kept.dead ≡ false → old.kept.dead ≡ false
    was_alive items sums e = place.sums.transport.dead_is ∙ lived items history (sym sums.transport.dead_is ∙ e)

    by_turn : (items : List Item) (more : List ℕ) → EndTurned p side history (AsksTurn p side history asked) items more (end_with new b dh) → StandsAfter p side parts later (items ++ history) new (end_with new b dh)
    by_turn items more turned =
        let run : EndRun p side (items ++ history) = laws.asks_on p side history (end_with old a ch) place.sums place.run asked items more (end_with new b dh) turned in
        record {
          lawful = place.lawful;
          parts_are = place.parts_are;
          layers_are = λ e. keeps e (place.layers_are (was_alive items turned.sums e));
          sums = turned.sums;
          run = run;
          reading = λ e. reads_on p.crypto old new (same e) (place.reading (was_alive items turned.sums e));
          guarded = laws.guards p place.lawful side (items ++ history) run;
        }

    stands_so : (given : Result AskStep Fault) (d : DoneInSession p side history (end_with old a ch) asked given (end_with new b dh) o) → StandsAfter p side parts later (added p side history (end_with old a ch) asked given (end_with new b dh) o d ++ history) new (end_with new b dh)
    stands_so (Ok step) d = by_turn d.items d.more d.turned
    stands_so (Err (fault.Ask why)) d = by_turn (AskRefused why ∷ Asked asked ∷ []) [] d.turned
    stands_so (Err fault.Memory) d = by_turn (Died ∷ []) [] d.turned
    stands_so (Err fault.Dead) d =
        let dead : new.kept.dead ≡ true = ap (λ (e : EndState K). e.transport.dead) d.same ∙ d.dead in
        record {
          lawful = place.lawful;
          parts_are = place.parts_are;
          layers_are = λ e. absurd (false≢true (sym e ∙ dead));
          sums = subst (λ (e : EndState K). EndSumsUp p side history e) (sym d.same) place.sums;
          run = place.run;
          reading = λ e. absurd (false≢true (sym e ∙ dead));
          guarded = place.guarded;
        }

    pub asked_to : (given : Result AskStep Fault) → DoneInSession p side history (end_with old a ch) asked given (end_with new b dh) o → AskedTo p side parts later history (end_with old a ch) asked given new (end_with new b dh) o
    asked_to given d = record { done = d; place = stands_so given d }

-- ---- an end that did nothing

pub stays : {K : Type 0} (p : Parties K) (side : Side) (parts : Type 0) (history : List Item) (old new : State K) (layers later : Layers) → new ≡ old → later ≡ layers →
    StandsAfter p side parts (AreOf p layers) history old (end_of old.kept layers) → StandsAfter p side parts (AreOf p later) history new (end_of new.kept later)
stays {K} p side parts history old new layers later same same_layers place =
    subst (λ (m : State K). StandsAfter p side parts (AreOf p later) history m (end_of m.kept later)) (sym same)
    (subst (λ (l : Layers). StandsAfter p side parts (AreOf p l) history old (end_of old.kept l)) (sym same_layers) place)

-- ---- pairs of cookie and secret

-- the laws of them
pub record FeedLaws (K : Type 0) : Type 0 where
  pub guards : (p : Parties K) → AreLawful p → (side : Side) → (h : List Item) → EndRun p side h → IsGuarded p side h
  pub taken : (p : Parties K) (side : Side) (history : List Item) (e : EndState K) → EndSumsUp p side history e → (cookie secret : List ℕ) (items : List Item) (new : EndState K) → TakesPair e cookie secret items new → EndTurned p side history (FeedsTurn side history cookie secret) items [] new
  pub run : (p : Parties K) (side : Side) (history : List Item) (e : EndState K) → EndSumsUp p side history e → EndRun p side history → (cookie secret : List ℕ) (items : List Item) (more : List ℕ) (new : EndState K) → EndTurned p side history (FeedsTurn side history cookie secret) items more new → EndRun p side (items ++ history)

module _ {K : Type 0} (laws : FeedLaws K) (p : Parties K) (side : Side) (parts layers : Type 0) (history : List Item) (old : State K) (a : Authentication) (ch : Channels) (place : StandsAfter p side parts layers history old (end_with old a ch)) (cookie secret : List ℕ) (material : IsMaterial cookie secret) where
  was_fed : (answer : Bool) → answer ≡ can_be_fed old.kept → FedTo p side parts layers history cookie secret answer (cond answer (record old { kept = after_fed cookie secret old.kept }) old) (end_with (cond answer (record old { kept = after_fed cookie secret old.kept }) old) a ch)
  was_fed true e =
      let new : State K = record old { kept = after_fed cookie secret old.kept } in
      let turned : EndTurned p side history (FeedsTurn side history cookie secret) (Item.Fed cookie secret ∷ []) [] (end_with new a ch) = laws.taken p side history (end_with old a ch) place.sums cookie secret (Item.Fed cookie secret ∷ []) (end_with new a ch) (TakesPair.fed (sym e) material) in
      let run : EndRun p side (Item.Fed cookie secret ∷ history) = laws.run p side history (end_with old a ch) place.sums place.run cookie secret (Item.Fed cookie secret ∷ []) [] (end_with new a ch) turned in
      record {
        turn = turned.turn;
        place = record { lawful = place.lawful; parts_are = place.parts_are; layers_are = λ e. place.layers_are e; sums = turned.sums; run = run; reading = λ e. reads_on p.crypto old new (record { receiver = refl; reading = refl; lines = refl }) (place.reading e); guarded = laws.guards p place.lawful side (Item.Fed cookie secret ∷ history) run };
      }
  was_fed false e =
      let turned : EndTurned p side history (FeedsTurn side history cookie secret) [] [] (end_with old a ch) = laws.taken p side history (end_with old a ch) place.sums cookie secret [] (end_with old a ch) (TakesPair.unfed (sym e)) in
      record { turn = turned.turn; place = place }

  new_is : (answer : Bool) (new : State K) → (answer ≡ true → new ≡ record old { kept = after_fed cookie secret old.kept }) → (answer ≡ false → new ≡ old) → cond answer (record old { kept = after_fed cookie secret old.kept }) old ≡ new
  new_is true new fed same = sym (fed refl)
  new_is false new fed same = sym (same refl)

  pub fed_to : (answer : Bool) → answer ≡ can_be_fed old.kept → (new : State K) → (answer ≡ true → new ≡ record old { kept = after_fed cookie secret old.kept }) → (answer ≡ false → new ≡ old) → FedTo p side parts layers history cookie secret answer new (end_with new a ch)
  fed_to answer e new fed same = subst (λ (s : State K). FedTo p side parts layers history cookie secret answer s (end_with s a ch)) (new_is answer new fed same) (was_fed answer e)
