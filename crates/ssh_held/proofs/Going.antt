-- A server goes on from one place to the next.
use Rattle.std.proofs.Common.{◌≡◌, ◌≤◌, ℕ, Bool, false, true, List, [], ◌∷◌, ◌++◌, None, OnErr, OnOk, Result, Ok, Err, append-nil, length, take, ap, refl, sym, subst, ◌∙◌}
use Rattle.std.proofs.lemmas.Bool.{false≢true}
use Rattle.ssh_kex.specs.Parts.{HostKeys}
use Rattle.ssh_model.specs.Laws.Supplied.{AgreeOnAnswered, TakesNone, supplied_of}
use Rattle.ssh_model.specs.Laws.Verdicts.{judged_by}
use Rattle.ssh_model.specs.Protocol.Authentication.Requests.{Judge}
use Rattle.ssh_model.specs.Protocol.Sessions.Items.{Item, Item.Died, Item.Sent, has_died}
use Rattle.ssh_model.specs.Protocol.Sessions.Parties.{Agreement, AreLawful, Parties}
use Rattle.ssh_model.specs.Protocol.Sessions.Phases.{authenticated}
use Rattle.ssh_model.specs.Protocol.Sessions.Items as session
use Rattle.ssh_model.specs.Protocol.Sessions.Turns.{AsksTurn, OnUnit}
use Rattle.ssh_model.specs.Protocol.Wire.Message.{Method, Msg.UserauthSuccess}
use Rattle.ssh_model.specs.Protocol.Wire.Sealing.{Crypto}
use Rattle.ssh_model.specs.State.End.State.{EndState}
use Rattle.ssh_model.specs.State.End.Summary.{EndSumsUp}
use Rattle.ssh_model.specs.State.TransportLayer.Kept.{ExchangeParts}
use Rattle.ssh_model.specs.declared.side.Side.{Side}
use Rattle.ssh_model.specs.declared.side.Side.TheVariants.{Server}
use Rattle.ssh_transport.specs.OfServer.Parts.{exchange_parts}
use Rattle.ssh_transport_machine.specs.Peeking.{Peeks}
use Rattle.ssh_transport_machine.specs.Puts.{Outs}
use Rattle.ssh_transport_machine.specs.State.{State, buffered_of}
use Rattle.ssh_end_machine.specs.Ends.{EndValue}
use Rattle.ssh_end_machine.specs.Layers.{Layers}
use Rattle.ssh_end_machine.specs.Parts.{IsServer, ServerRole}
use Rattle.ssh_end_machine.specs.Peeking.{Foresees, TakesOnly}
use Rattle.ssh_end_machine.specs.Asking.{DoneInSession}
use Rattle.ssh_end_machine.specs.Places.{AskedTo, DiedOn, FedTo, StandsAfter, TookUnit, TurnedTo, added, fed_items}
use Rattle.ssh_end_machine.specs.Sessions.{AreOf, end_of}
use Rattle.ssh_end_machine.specs.Stands.{ServerStandsAt, state_of}
use Rattle.ssh_end_machine.specs.Steps.{UnitTurned, shown_by}
use Rattle.ssh_end_machine.specs.Units.{FrontNeedsMemory}
use Rattle.ssh_end_machine.specs.declared.asking.outcome.AskStep.{AskStep}
use Rattle.ssh_end_machine.specs.declared.asking.outcome.Fault.{Fault}
use Rattle.ssh_end_machine.specs.declared.asking.outcome.Fault.TheVariants as fault
use Rattle.ssh_end_machine.specs.declared.step.Step.{Step}
use Rattle.ssh_end_machine.specs.declared.step.Step.TheVariants as step
use Rattle.ssh_held.specs.Book.{AllDecided, AllSettled, Signatures, is_said, judge_by}
use Rattle.ssh_held.specs.Held.{HeldAt, IsAnswered, IsReceiving, IsSettled, IsSettled.foreseen, IsSettled.is_in, IsSettled.unforeseen, judge_of_book, judged_by_book}
use Rattle.ssh_held.specs.Places.{AskedOn, FedOn, TurnedOn, TurnedOn.turns, TurnedOn.waits, WentOn}
use Rattle.ssh_held.specs.declared.book.Verdict.{Verdict}
use Rattle.ssh_held.specs.declared.book.Verdicts.{Verdicts}
use Rattle.ssh_held.proofs.Deciding.{seen_settled, unseen_settled}

-- ---- what a history keeps

pub stays_alive : (items h : List Item) → has_died (items ++ h) ≡ false → has_died h ≡ false
stays_alive [] h e = e
stays_alive (Died ∷ items) h e = absurd (cc e)
stays_alive (i ∷ items) h e = stays_alive items h e

pub stays_out : (items h : List Item) → authenticated Server (items ++ h) ≡ false → authenticated Server h ≡ false
stays_out [] h e = e
stays_out (Sent c UserauthSuccess b ∷ items) h e = absurd (cc e)
stays_out (i ∷ items) h e = stays_out items h e

-- what was added to a list of verdicts
pub record MoreSaid {V : Type 0} (old new : List V) : Type 0 where
  pub verdicts : List V
  pub is : new ≡ old ++ verdicts

pub more_said : {V E : Type 0} (old new : List V) (verdict : V) (result : Result (Unit {0}) E) →
    OnOk result (new ≡ old ++ (verdict ∷ [])) → OnErr result (new ≡ old) → MoreSaid old new
more_said old new verdict (Ok done) added same = record { verdicts = verdict ∷ []; is = added }
more_said old new verdict (Err why) added same = record { verdicts = []; is = same ∙ sym (append-nil old) }

-- the laws of what is told of the next packet
pub record PeekingLaws (K : Type 0) : Type 0 where
  pub foreseen : (p : Parties K) (side : Side) (history : List Item) (machine : State K) (layers : Layers) →
      EndSumsUp p side history (end_of machine.kept layers) → (bytes payload : List ℕ) → Peeks p.crypto machine bytes payload →
      Foresees p side history (buffered_of machine) bytes payload
  pub taken : (p : Parties K) (side : Side) (history : List Item) (held bytes payload : List ℕ) → AreLawful p →
      Foresees p side history held bytes payload → (used : ℕ) (shown : List ℕ) (done : Step) (new : EndState K) (o : Outs) →
      (x : UnitTurned p side history (held ++ take used bytes) shown done new o) → TakesOnly payload x.items
  pub unforeseen : (p : Parties K) (side : Side) (history : List Item) (machine : State K) (layers : Layers) →
      EndSumsUp p side history (end_of machine.kept layers) → machine.kept.dead ≡ false → machine.kept.taking ≡ machine.receiver.direction →
      machine.receiver.ended ≡ None → (bytes : List ℕ) → ((payload : List ℕ) → Peeks p.crypto machine bytes payload → ⊥) → (used : ℕ) →
      used ≤ length bytes → (items : List Item) → OnUnit p side history (buffered_of machine ++ take used bytes) items → TakesNone items

-- where an end was left that did nothing
abbrev pub FailedTo : {R K F : Type 0} → Parties K → Side → (R → Type 0) → List Item → EndValue K R F → (bytes : List ℕ) → Fault →
    EndValue K R F → Type 0
FailedTo q side parts history old bytes fault.Memory new =
    FrontNeedsMemory (DiedOn q side (parts new.role) (AreOf q new.layers) history new.machine (end_of new.machine.kept new.layers))
    (buffered_of old.machine) bytes
FailedTo q side parts history old bytes fault.Dead new =
    StandsAfter q side (parts new.role) (AreOf q new.layers) history new.machine (end_of new.machine.kept new.layers)
FailedTo q side parts history old bytes (fault.Ask why) new = ⊥

-- No payload is taken by an ask, or when a pair of cookie and secret is fed.
pub asked_none : {K : Type 0} (p : Parties K) (side : Side) (history : List Item) (old : EndState K) (asked : session.Ask)
    (given : Result AskStep Fault) (new : EndState K) (o : Outs) →
    ((ask : session.Ask) (items : List Item) → AsksTurn p side history ask items → TakesNone items) →
    (done : DoneInSession p side history old asked given new o) → TakesNone (added p side history old asked given new o done)
asked_none p side history old asked (Ok step) new o law done = law asked done.items done.turned.turn
asked_none p side history old asked (Err (fault.Ask why)) new o law done = tt
asked_none p side history old asked (Err fault.Memory) new o law done = tt
asked_none p side history old asked (Err fault.Dead) new o law done = tt

pub fed_none : (cookie secret : List ℕ) (answer : Bool) → TakesNone (fed_items cookie secret answer)
fed_none cookie secret true = tt
fed_none cookie secret false = tt

module _ {K : Type 0} (l : PeekingLaws K) (q : Parties K) (c : Crypto K) (crypto : q.crypto ≡ c) (settled : List ℕ → Method → Bool)
    (history : List Item) (machine : State K) (layers : Layers) (lawful : AreLawful q)
    (sums : EndSumsUp q Server history (end_of machine.kept layers))
    (decided : has_died history ≡ false → authenticated Server history ≡ false → AllSettled settled history)
    (receiving : machine.kept.dead ≡ false → IsReceiving machine) (bytes : List ℕ) (used : ℕ) (most : used ≤ length bytes) where
  alive_is : has_died history ≡ false → machine.kept.dead ≡ false
  alive_is e = sums.transport.dead_is ∙ e

  pub decided_on : (shown : List ℕ) (done : Step) (e : EndState K) (o : Outs)
      (x : UnitTurned q Server history (buffered_of machine ++ take used bytes) shown done e o) → has_died history ≡ false →
      authenticated Server history ≡ false → IsSettled c machine settled bytes → AllSettled settled (x.items ++ history)
  decided_on shown done e o x alive out (is_in in_already) =
      absurd (false≢true (sym ((sums.transport.live (alive_is alive)).authenticated_is ∙ out) ∙ in_already))
  decided_on shown done e o x alive out (unforeseen none) =
      let reads = receiving (alive_is alive) in
      unseen_settled settled x.items history
      (l.unforeseen q Server history machine layers sums (alive_is alive) reads.taking reads.going bytes
      (λ payload peeks. none payload (subst (λ (k : Crypto K). Peeks k machine bytes payload) crypto peeks)) used most x.items x.turned.turn)
      (decided alive out)
  decided_on shown done e o x alive out (foreseen payload peeks asked) =
      let told = l.foreseen q Server history machine layers sums bytes payload
      (subst (λ (k : Crypto K). Peeks k machine bytes payload) (sym crypto) peeks) in
      seen_settled settled payload x.items history
      (l.taken q Server history (buffered_of machine) bytes payload lawful told used shown done e o x) asked (decided alive out)

module _ {K : Type 0} (l : PeekingLaws K) (q : Parties K) (c : Crypto K) (crypto : q.crypto ≡ c) (parts : Type 0) (settled : List ℕ → Method → Bool)
    (history : List Item) (machine : State K) (layers : Layers)
    (place : StandsAfter q Server parts (AreOf q layers) history machine (end_of machine.kept layers))
    (decided : has_died history ≡ false → authenticated Server history ≡ false → AllSettled settled history)
    (receiving : machine.kept.dead ≡ false → IsReceiving machine) (bytes : List ℕ) (used : ℕ) (most : used ≤ length bytes)
    (At : List Item → Type 0) where
  by_unit : (done : Step) (new : State K) (later : Layers) (o : Outs) → ((items : List Item) →
      StandsAfter q Server parts (AreOf q later) items new (end_of new.kept later) →
      (has_died items ≡ false → authenticated Server items ≡ false → AllSettled settled items) → At items) → IsSettled c machine settled bytes →
      TookUnit q Server parts (AreOf q later) history (buffered_of machine ++ take used bytes) done new (end_of new.kept later) o →
      TurnedOn At q Server history (buffered_of machine ++ take used bytes) done new (end_of new.kept later) o
  by_unit done new later o stands answered x = turns x.turned x.buffered (stands (x.turned.items ++ history) x.place
      (λ alive out. decided_on l q c crypto settled history machine layers place.lawful place.sums decided receiving bytes used most
      (shown_by done new) done (end_of new.kept later) o x.turned (stays_alive x.turned.items history alive)
      (stays_out x.turned.items history out) answered))

  goes : (done : Step) (new : State K) (later : Layers) (o : Outs) → ((items : List Item) →
      StandsAfter q Server parts (AreOf q later) items new (end_of new.kept later) →
      (has_died items ≡ false → authenticated Server items ≡ false → AllSettled settled items) → At items) → IsSettled c machine settled bytes →
      TurnedTo q Server parts (AreOf q later) history (buffered_of machine ++ take used bytes) done new (end_of new.kept later) o →
      TurnedOn At q Server history (buffered_of machine ++ take used bytes) done new (end_of new.kept later) o
  goes step.More new later o stands answered x = waits refl x.waits x.quiet x.buffered (stands history x.place decided)
  goes step.OtherLine new later o stands answered x = by_unit step.OtherLine new later o stands answered x
  goes step.VersionLine new later o stands answered x = by_unit step.VersionLine new later o stands answered x
  goes step.Skipped new later o stands answered x = by_unit step.Skipped new later o stands answered x
  goes (step.Took took) new later o stands answered x = by_unit (step.Took took) new later o stands answered x
  goes (step.Refused why) new later o stands answered x = by_unit (step.Refused why) new later o stands answered x

-- ---- the calls of a server

module _ {P S X F A H K : Type 0} (c : Crypto K) (does : A → Agreement) (keys : H → HostKeys) (signatures : S → Signatures) (p : Parties K)
    (history : List Item) where
  -- the parts of a server with this role, as those of these parties
  abbrev Parts : Parties K → ServerRole P (Verdicts S) X F A H K → Type 0
  Parts q r = IsServer q c (exchange_parts does keys r.exchange) (judge_of_book signatures r.own.judge)

  -- where a server stands that kept its role
  held_by : (old new : EndValue K (ServerRole P (Verdicts S) X F A H K) F) → new.role ≡ old.role → (items : List Item) →
      StandsAfter (judged_by_book signatures old.role.own.judge p) Server (Parts (judged_by_book signatures old.role.own.judge p) old.role)
      (AreOf (judged_by_book signatures old.role.own.judge p) new.layers) items new.machine (end_of new.machine.kept new.layers) →
      (has_died items ≡ false → authenticated Server items ≡ false → AllDecided (signatures old.role.own.judge.signatures).knows old.role.own.judge.list.items items) →
      HeldAt c does keys signatures p new items
  held_by old new same items place decided =
      subst (λ (r : ServerRole P (Verdicts S) X F A H K). HeldAt c does keys signatures p (record new { role = r }) items) (sym same)
      (record { place = place; decided = decided })

  pub went_on : PeekingLaws K → (old new : EndValue K (ServerRole P (Verdicts S) X F A H K) F) (bytes : List ℕ) (used : ℕ) →
      used ≤ length bytes → new.role ≡ old.role → (old.machine.kept.dead ≡ false → IsReceiving old.machine) →
      IsAnswered c old.machine (signatures old.role.own.judge.signatures).knows old.role.own.judge.list.items bytes → (o : Outs) → HeldAt c does keys signatures p old history →
      TurnedTo (judged_by_book signatures old.role.own.judge p) Server (Parts (judged_by_book signatures old.role.own.judge p) new.role)
      (AreOf (judged_by_book signatures old.role.own.judge p) new.layers) history (buffered_of old.machine ++ take used bytes) new.step
      new.machine (state_of new) o → TurnedOn (HeldAt c does keys signatures p new) (judged_by_book signatures old.role.own.judge p) Server history
      (buffered_of old.machine ++ take used bytes) new.step new.machine (state_of new) o
  went_on l old new bytes used most same receiving answered o at x =
      let q = judged_by_book signatures old.role.own.judge p in
      let turned = subst (λ (r : ServerRole P (Verdicts S) X F A H K). TurnedTo q Server (Parts q r) (AreOf q new.layers) history
      (buffered_of old.machine ++ take used bytes) new.step new.machine (state_of new) o) same x in
      goes l q c at.place.parts_are.exchange.crypto (Parts q old.role) (is_said (signatures old.role.own.judge.signatures).knows old.role.own.judge.list.items) history old.machine old.layers at.place
      at.decided receiving bytes used most (HeldAt c does keys signatures p new) new.step new.machine new.layers o (held_by old new same) answered
      turned

  -- where memory was refused, or it was over before
  pub failed : (old new : EndValue K (ServerRole P (Verdicts S) X F A H K) F) (bytes : List ℕ) → new.role ≡ old.role →
      HeldAt c does keys signatures p old history → (why : Fault) →
      FailedTo (judged_by_book signatures old.role.own.judge p) Server (Parts (judged_by_book signatures old.role.own.judge p)) history old bytes
      why new → WentOn (HeldAt c does keys signatures p new) history
  failed old new bytes same at fault.Memory x =
      let q = judged_by_book signatures old.role.own.judge p in
      let place = subst (λ (r : ServerRole P (Verdicts S) X F A H K). StandsAfter q Server (Parts q r) (AreOf q new.layers)
      (Died ∷ history) new.machine (end_of new.machine.kept new.layers)) same x.needs_memory.place in
      record { items = Died ∷ []; place = held_by old new same (Died ∷ history) place (λ alive out. absurd (cc alive)) }
  failed old new bytes same at fault.Dead x =
      let q = judged_by_book signatures old.role.own.judge p in
      let place = subst (λ (r : ServerRole P (Verdicts S) X F A H K). StandsAfter q Server (Parts q r) (AreOf q new.layers)
      history new.machine (end_of new.machine.kept new.layers)) same x in
      record { items = []; place = held_by old new same history place at.decided }
  failed old new bytes same at (fault.Ask why) x = absurd x

  -- where it was left by a turn in which nothing was taken
  untaken : (old new : EndValue K (ServerRole P (Verdicts S) X F A H K) F) → new.role ≡ old.role → HeldAt c does keys signatures p old history →
      (items : List Item) → TakesNone items → StandsAfter (judged_by_book signatures old.role.own.judge p) Server
      (Parts (judged_by_book signatures old.role.own.judge p) new.role) (AreOf (judged_by_book signatures old.role.own.judge p) new.layers)
      (items ++ history) new.machine (end_of new.machine.kept new.layers) → HeldAt c does keys signatures p new (items ++ history)
  untaken old new same at items none x =
      let q = judged_by_book signatures old.role.own.judge p in
      let place = subst (λ (r : ServerRole P (Verdicts S) X F A H K). StandsAfter q Server (Parts q r) (AreOf q new.layers)
      (items ++ history) new.machine (end_of new.machine.kept new.layers)) same x in
      held_by old new same (items ++ history) place (λ alive out. unseen_settled (is_said (signatures old.role.own.judge.signatures).knows old.role.own.judge.list.items) items history none
      (at.decided (stays_alive items history alive) (stays_out items history out)))

  pub asked_on : ((q : Parties K) (side : Side) (h : List Item) (ask : session.Ask) (items : List Item) → AsksTurn q side h ask items →
      TakesNone items) → (old new : EndValue K (ServerRole P (Verdicts S) X F A H K) F) → new.role ≡ old.role →
      HeldAt c does keys signatures p old history → (asked : session.Ask) (given : Result AskStep Fault) (o : Outs) →
      AskedTo (judged_by_book signatures old.role.own.judge p) Server (Parts (judged_by_book signatures old.role.own.judge p) new.role)
      (AreOf (judged_by_book signatures old.role.own.judge p) new.layers) history (state_of old) asked given new.machine (state_of new) o →
      AskedOn (HeldAt c does keys signatures p new) (judged_by_book signatures old.role.own.judge p) Server history (state_of old) asked given
      (state_of new) o
  asked_on law old new same at asked given o x =
      let q = judged_by_book signatures old.role.own.judge p in
      record {
        done = x.done;
        place = untaken old new same at (added q Server history (state_of old) asked given (state_of new) o x.done)
            (asked_none q Server history (state_of old) asked given (state_of new) o (law q Server history) x.done) x.place;
      }

  pub fed_on : (old new : EndValue K (ServerRole P (Verdicts S) X F A H K) F) → new.role ≡ old.role → HeldAt c does keys signatures p old history →
      (cookie secret : List ℕ) (answer : Bool) →
      FedTo (judged_by_book signatures old.role.own.judge p) Server (Parts (judged_by_book signatures old.role.own.judge p) new.role)
      (AreOf (judged_by_book signatures old.role.own.judge p) new.layers) history cookie secret answer new.machine (state_of new) →
      FedOn (HeldAt c does keys signatures p new) Server history cookie secret answer
  fed_on old new same at cookie secret answer x = record {
    turn = x.turn;
    place = untaken old new same at (fed_items cookie secret answer) (fed_none cookie secret answer) x.place;
  }

  -- ---- what the program says

  pub given : (signatures_law : (q : Parties K) (parts : ExchangeParts) (one other : Judge) (h : List Item) (machine : State K) (layers : Layers) →
      ServerStandsAt q c parts one h machine layers → machine.kept.dead ≡ false →
      AgreeOnAnswered q (record (supplied_of q) { judge = other }) h → ServerStandsAt (judged_by other q) c parts other h machine layers) →
      (agrees : (judge : Signatures) (book more : List Verdict) → AllDecided judge.knows book history →
      AgreeOnAnswered (judged_by (judge_by judge book) p)
      (record (supplied_of (judged_by (judge_by judge book) p)) { judge = judge_by judge (book ++ more) }) history) →
      (still : (knows : List ℕ → Bool) (book more : List Verdict) → AllDecided knows book history → AllDecided knows (book ++ more) history) →
      (server : EndValue K (ServerRole P (Verdicts S) X F A H K) F) (book : Verdicts S) (more : List Verdict) →
      server.machine.kept.dead ≡ false → server.machine.kept.authenticated ≡ false →
      book.signatures ≡ server.role.own.judge.signatures → book.list.items ≡ server.role.own.judge.list.items ++ more →
      HeldAt c does keys signatures p server history →
      HeldAt c does keys signatures p (record server { role = record server.role { own = record server.role.own { judge = book } } }) history
  given law agrees still server book more alive out same added at =
      let old = server.role.own.judge in
      let q = judged_by (judge_of_book signatures old) p in
      let living = sym at.place.sums.transport.dead_is ∙ alive in
      let before = sym ((at.place.sums.transport.live alive).authenticated_is) ∙ out in
      let decided = at.decided living before in
      let place = law q (exchange_parts does keys server.role.exchange) (judge_of_book signatures old)
      (judge_by (signatures old.signatures) (old.list.items ++ more)) history server.machine server.layers at.place alive
      (agrees (signatures old.signatures) old.list.items more decided) in
      record {
        place = subst (λ (j : Judge). ServerStandsAt (judged_by j p) c (exchange_parts does keys server.role.exchange) j history
            server.machine server.layers)
            (ap (λ (s : S). judge_by (signatures s) (old.list.items ++ more)) (sym same)
            ∙ ap (λ (l : List Verdict). judge_by (signatures book.signatures) l) (sym added)) place;
        decided = λ a b. subst (λ (s : S). AllDecided (signatures s).knows book.list.items history) (sym same)
            (subst (λ (l : List Verdict). AllDecided (signatures old.signatures).knows l history) (sym added)
            (still (signatures old.signatures).knows old.list.items more decided));
      }
