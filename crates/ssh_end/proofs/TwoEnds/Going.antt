-- What an end of a pair did with bytes, and on an ask: where it stands then.
use Rattle.std.proofs.Common.{◌≡◌, ℕ, Bool, true, false, cond, List, [], ◌∷◌, ◌++◌, take, refl, ap, sym, ◌∙◌, subst, Option, Err}
use Rattle.std.specs.Prelude.{IfOk, Result}
use Rattle.ssh_model.specs.State.End.State.{EndState}
use Rattle.ssh_model.specs.State.End.Summary.{EndTurned}
use Rattle.ssh_model.specs.Protocol.Sessions.Events.{reading_of}
use Rattle.ssh_model.specs.Protocol.Sessions.Items.{Ask, Done, Item, Item.Died, has_died}
use Rattle.ssh_model.specs.Protocol.Sessions.Parties.{Parties}
use Rattle.ssh_model.specs.Protocol.Sessions.Turns.{OnUnit}
use Rattle.ssh_model.specs.declared.side.Side.{Side}
use Rattle.ssh_model.specs.Protocol.Side.{done_by, part}
use Rattle.ssh_model.specs.Protocol.Wire.Delivery.{Delivered}
use Rattle.ssh_transport_machine.specs.Puts.{Outs}
use Rattle.ssh_transport_machine.specs.State.{State, buffered_of}
use Rattle.ssh_end_machine.specs.Asking.{AreAskChannels}
use Rattle.ssh_end_machine.specs.WithChannels.{channels_by}
use Rattle.ssh_end_machine.specs.Calls.{outs_of}
use Rattle.ssh_end_machine.specs.Places.{AskedTo, StandsAfter, TookUnit, TurnedTo, Waited}
use Rattle.ssh_end_machine.specs.Reading.{SameReading}
use Rattle.ssh_end_machine.specs.Steps.{Shows, shown_by}
use Rattle.ssh_end_machine.specs.Turn.{TurnShows, channels_in, payloads_in}
use Rattle.ssh_end_machine.specs.declared.asking.outcome.AskStep.{AskStep}
use Rattle.ssh_end_machine.specs.declared.asking.outcome.Fault.{Fault}
use Rattle.ssh_end_machine.specs.declared.step.Step.{Step}
use Rattle.ssh_end_machine.specs.declared.step.Step.TheVariants as step
use Rattle.ssh_end_machine.specs.declared.turn.Turn.{Turn}
use Rattle.ssh_end.specs.TwoEnds.Recording.{Adds, AddsAsk, AddsTurn}
use Rattle.ssh_end.specs.TwoEnds.Playing.{Advanced, Answered}
use Rattle.ssh_end.specs.TwoEnds.Standing.{EndStands, Standing, kept_bytes, state_in}
use Rattle.ssh_end.specs.declared.item.Done as declared
use Rattle.ssh_end.proofs.TwoEnds.Advancing.{died_of}
use Rattle.ssh_end.proofs.TwoEnds.Answering.{answered, answered_dead}
use Rattle.ssh_end.proofs.TwoEnds.Losing.{lost}
use Rattle.ssh_end.proofs.TwoEnds.Stepping.{used, waited}

-- what is kept of a live end
kept_alive : {K : Type 0} (s : State K) → s.kept.dead ≡ false → kept_bytes s ≡ buffered_of s
kept_alive s e = ap (λ (b : Bool). cond b [] (buffered_of s)) e

-- nothing is kept of a dead one
kept_dead : {K : Type 0} (s : State K) → s.kept.dead ≡ true → kept_bytes s ≡ []
kept_dead s e = ap (λ (b : Bool). cond b [] (buffered_of s)) e

-- nor where no byte is buffered
kept_none : {K : Type 0} (s : State K) (dead : Bool) → s.kept.dead ≡ dead → (s.kept.dead ≡ false → buffered_of s ≡ []) → kept_bytes s ≡ []
kept_none s true e x = kept_dead s e
kept_none s false e x = kept_alive s e ∙ x e

-- where an end stands after its part of a run that goes on
stand_on : {K : Type 0} (p : Parties K) (side : Side) (v : Standing K) (items : List Item) (run : List Done) → part side (done_by side items ++ run) ≡ items ++ part side run →
    StandsAfter p side (v.parts p) (v.layers p) (items ++ part side run) v.machine (state_in v) → EndStands p side v (done_by side items ++ run)
stand_on p side v items run here place = subst (λ (h : List Item). StandsAfter p side (v.parts p) (v.layers p) h v.machine (state_in v)) (sym here) place

module _ {K : Type 0} (p : Parties K) (side : Side) (run : List Done) (was end : Standing K) (stands : EndStands p side was run) (alive : was.machine.kept.dead ≡ false)
    (here : (side : Side) (items : List Item) (run : List Done) → part side (done_by side items ++ run) ≡ items ++ part side run) where
  was_alive : has_died (part side run) ≡ false
  was_alive = sym stands.sums.transport.dead_is ∙ alive

  -- ---- the bytes of one line or one packet

  module _ (bytes : List ℕ) (turn : Turn) (log_old log_new : List declared.Done) (out_old out_new : List ℕ) (sent : List (List ℕ))
      (recorded : AddsTurn side turn end.machine.kept.dead log_old log_new) (says : payloads_in turn.sent ≡ sent)
      (unit : (unit : List ℕ) (items : List Item) (more : List ℕ) (e : EndState K) → EndTurned p side (part side run) (OnUnit p side (part side run) unit) items more e → (following : List ℕ) (last : List Done) (rest : List ℕ) →
      Delivered (reading_of p side) (done_by side items ++ run) following last rest → Delivered (reading_of p side) run (unit ++ following) last rest) where
    abbrev outs : Outs
    outs = outs_of out_old out_new sent

    abbrev Went : Type 0
    Went = Advanced p side run bytes (kept_bytes was.machine) (kept_bytes end.machine) (EndStands p side end) log_old log_new out_old out_new

    waits : channels_in turn.sent ≡ channels_by step.More was.channels.owed sent → Waited p side (end.parts p) (end.layers p) (part side run) (buffered_of was.machine ++ bytes) end.machine (state_in end) outs → TurnShows turn [] → Went
    waits on w shows = waited p side run (buffered_of was.machine) bytes (kept_bytes was.machine) (kept_bytes end.machine) (EndStands p side end) log_old log_new out_old out_new (kept_alive was.machine alive)
        (kept_alive end.machine w.alive ∙ w.buffered)
        w.place
        (recorded.quiet shows (says ∙ w.quiet.sent) (on ∙ ap (λ (l : List (List ℕ)). channels_by step.More was.channels.owed l) w.quiet.sent) w.alive) w.quiet.out

    uses : (done : Step) → channels_in turn.sent ≡ channels_by done was.channels.owed sent → TookUnit p side (end.parts p) (end.layers p) (part side run) (buffered_of was.machine ++ bytes) done end.machine (state_in end) outs →
        ((items : List Item) → Shows (shown_by done end.machine) done items → TurnShows turn items) → Went
    uses done on w shows =
        let t = w.turned in
        let sums = t.turned.sums.transport in
        used p side run (buffered_of was.machine) bytes (kept_bytes was.machine) (kept_bytes end.machine) (EndStands p side end) log_old log_new out_old out_new (kept_alive was.machine alive) t.items
        (kept_none end.machine end.machine.kept.dead refl w.buffered)
        (unit (buffered_of was.machine ++ bytes) t.items t.more (state_in end) t.turned)
        (stand_on p side end t.items run (here side t.items run) w.place)
        (record {
          records = recorded.shown (shown_by done end.machine) done t.items t.shows (shows t.items t.shows) (says ∙ t.lists)
              (on ∙ (ap (λ (l : List (List ℕ)). channels_by done was.channels.owed l) t.lists ∙ sym (t.sends_on (state_in was) stands.sums alive))) (sums.dead_is ∙ died_of t.items (part side run) was_alive);
          puts = record { more = t.more; puts = t.turned.puts; out = t.parts };
        })

    pub went : (done : Step) → channels_in turn.sent ≡ channels_by done was.channels.owed sent → TurnedTo p side (end.parts p) (end.layers p) (part side run) (buffered_of was.machine ++ bytes) done end.machine (state_in end) outs →
        ((items : List Item) → Shows (shown_by done end.machine) done items → TurnShows turn items) → (done ≡ step.More → TurnShows turn []) → Went
    went step.More on x shows quiet = waits on x (quiet refl)
    went step.OtherLine on x shows quiet = uses step.OtherLine on x shows
    went step.VersionLine on x shows quiet = uses step.VersionLine on x shows
    went step.Skipped on x shows quiet = uses step.Skipped on x shows
    went (step.Took took) on x shows quiet = uses (step.Took took) on x shows
    went (step.Refused why) on x shows quiet = uses (step.Refused why) on x shows

  -- ---- memory that is refused

  pub fallen : end.machine.kept.dead ≡ true → (bytes : List ℕ) (log_old log_new : List declared.Done) (out_old out_new : List ℕ) (count : ℕ) →
      StandsAfter p side (end.parts p) (end.layers p) (Died ∷ part side run) end.machine (state_in end) →
      EndTurned p side (part side run) (OnUnit p side (part side run) (buffered_of was.machine ++ take count bytes)) (Died ∷ []) [] (state_in end) →
      ((following : List ℕ) (last : List Done) (rest : List ℕ) → Delivered (reading_of p side) (done_by side (Died ∷ []) ++ run) following last rest → Delivered (reading_of p side) run ((buffered_of was.machine ++ take count bytes) ++ following) last rest) →
      Adds side (Died ∷ []) log_old log_new → out_new ≡ out_old →
      Advanced p side run bytes (kept_bytes was.machine) (kept_bytes end.machine) (EndStands p side end) log_old log_new out_old out_new
  fallen dead bytes log_old log_new out_old out_new count place turned unit records out =
      lost p side here run (buffered_of was.machine) bytes (kept_bytes was.machine) (kept_bytes end.machine) (EndStands p side end) log_old log_new out_old out_new (kept_alive was.machine alive) count
      (kept_dead end.machine dead) unit
      (stand_on p side end (Died ∷ []) run (here side (Died ∷ []) run) place)
      records turned.puts out

  -- ---- asks

  begun_same : SameReading was.machine end.machine → buffered_of end.machine ≡ buffered_of was.machine
  begun_same x =
      ap (λ (b : Bool). cond b end.machine.receiver.buffered end.machine.reading.buffered) (ap (λ l. l.found) x.lines)
      ∙ (ap (λ r. cond was.machine.kept.lines.found r.buffered end.machine.reading.buffered) x.receiver ∙ ap (λ r. cond was.machine.kept.lines.found was.machine.receiver.buffered r.buffered) x.reading)

  module _ (reads : end.machine.kept.dead ≡ false → SameReading was.machine end.machine) (asked : Ask) (log_old log_new : List declared.Done)
      (out_old out_new : List ℕ) (sent payloads : List (List ℕ)) (says : payloads ≡ sent) (sent_on channels : List (Option ℕ)) (says_on : channels ≡ sent_on) where
    stand : (items : List Item) → StandsAfter p side (end.parts p) (end.layers p) (items ++ part side run) end.machine (state_in end) → EndStands p side end (done_by side items ++ run)
    stand items place = stand_on p side end items run (here side items run) place

    pub answers : (result : Result AskStep Fault) (is_over : Bool) → is_over ≡ end.machine.kept.dead → ((fault : Fault) → result ≡ Err fault → out_new ≡ out_old) →
        AskedTo p side (end.parts p) (end.layers p) (part side run) (state_in was) asked result end.machine (state_in end) (outs_of out_old out_new sent) →
        IfOk result (λ step. AreAskChannels asked step sent sent_on) → AddsAsk side asked result payloads channels is_over log_old log_new →
        Answered p side run asked (kept_bytes was.machine) (kept_bytes end.machine) (EndStands p side end) log_old log_new out_old out_new
    answers result is_over over unsent x on recorded =
        answered p side run (end.parts p) (end.layers p) asked (state_in was) end.machine (state_in end) (kept_bytes was.machine) (kept_bytes end.machine) (EndStands p side end) log_old log_new out_old out_new
        was_alive stand (λ e. kept_alive end.machine e ∙ (begun_same (reads e) ∙ sym (kept_alive was.machine alive))) (λ e. kept_dead end.machine e) result is_over sent sent_on over unsent x on
        (subst (λ (l : List (List ℕ)). AddsAsk side asked result l sent_on is_over log_old log_new) says (subst (λ (l : List (Option ℕ)). AddsAsk side asked result payloads l is_over log_old log_new) says_on recorded)) stands.sums.transport.dead_is

-- an end that is over does nothing
pub over : {K : Type 0} (p : Parties K) (side : Side) (run : List Done) (v : Standing K) (asked : Ask) (log : List declared.Done) (out : List ℕ) → EndStands p side v run → v.machine.kept.dead ≡ true →
    Answered p side run asked (kept_bytes v.machine) (kept_bytes v.machine) (EndStands p side v) log log out out
over p side run v asked log out s dead = answered_dead p side run asked (kept_bytes v.machine) (EndStands p side v) log out (sym s.sums.transport.dead_is ∙ dead) (kept_dead v.machine dead) s
