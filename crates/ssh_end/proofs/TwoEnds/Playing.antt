-- What happens to one end, as an event of a pair.
use Rattle.std.proofs.Common.{◌≡◌, ℕ, Bool, true, false, cond, List, [], ◌∷◌, ◌++◌, append-nil, refl, ap, sym, ◌∙◌, subst}
use Rattle.ssh_model.specs.State.End.Pair.{PairState, PairSumsUp, PairTurned, state_of, with_state}
use Rattle.ssh_model.specs.State.End.State.{EndState}
use Rattle.ssh_model.specs.State.End.Summary.{EndSumsUp, EndTurned}
use Rattle.ssh_model.specs.Protocol.Sessions.Events.{Event.Asks, Event.Delivers, Event.Feeds, PutsOut, PutsOut.other, World, kept_rest, next_world, reading_of, rest_of}
use Rattle.ssh_model.specs.Protocol.Sessions.Items.{Ask, Done, Item, Item.Fed, has_died}
use Rattle.ssh_model.specs.Protocol.Sessions.Parties.{AreLawful, Parties}
use Rattle.ssh_model.specs.Protocol.Sessions.Turns.{AsksTurn, FeedsTurn, Run, can_feed}
use Rattle.ssh_model.specs.declared.side.Side.{Side}
use Rattle.ssh_model.specs.declared.side.Side.TheVariants.{Client, Server}
use Rattle.ssh_model.specs.Protocol.Side.{done_by, part, peer}
use Rattle.ssh_model.specs.State.TransportLayer.Kept.{after_fed}
use Rattle.ssh_model.specs.Protocol.Wire.Delivery.{Delivered}
use Rattle.ssh_transport_machine.specs.State.{State}
use Rattle.ssh_end_machine.specs.Places.{FedTo, StandsAfter, fed_items}
use Rattle.ssh_end.specs.TwoEnds.Playing.{Advanced, Answered, Output, PairFed, PlaysOne, Promises, PutsMore, Says, SaysOf, output_of}
use Rattle.ssh_end.specs.TwoEnds.Standing.{Both, EndStands, PairStands, Standing, kept_bytes, on, state_in, with_end}
use Rattle.ssh_end.specs.declared.item.Done as declared
use Rattle.ssh_end.proofs.TwoEnds.Advancing.{puts_nothing}
use Rattle.ssh_end.proofs.TwoEnds.Feeding.{could_feed, could_not_feed}

-- ---- what both ends keep, in the words of a session

abbrev pub states : {K : Type 0} → Both K → PairState K
states pair = record { client = state_in pair.client; server = state_in pair.server }

ends_sum : {K : Type 0} (p : Parties K) (w : World) (pair : Both K) → PairStands p w pair → (side : Side) → EndSumsUp p side (part side w.run) (state_of side (states pair))
ends_sum p w pair s Client = (s.ends Client).sums
ends_sum p w pair s Server = (s.ends Server).sums

pub pair_sums : {K : Type 0} (p : Parties K) (w : World) (pair : Both K) → PairStands p w pair → PairSumsUp p w (states pair)
pair_sums p w pair s = record { run = s.run; ends = ends_sum p w pair s }

-- ---- one end goes on, and the other stays

-- the bytes that were put out, where those of this end are others
abbrev pub with_output : Side → List ℕ → Output → Output
with_output Client bytes o = record o { client = bytes }
with_output Server bytes o = record o { server = bytes }

stays : {K : Type 0} (p : Parties K) (side : Side) (v : Standing K) (old new : List Done) → part side new ≡ part side old → EndStands p side v old → EndStands p side v new
stays p side v old new e s = subst (λ (h : List Item). StandsAfter p side (v.parts p) (v.layers p) h v.machine (state_in v)) (sym e) s

ends_then : {K : Type 0} (p : Parties K) (w : World) (pair : Both K) (side : Side) (end : Standing K) (run : List Done) (rest : List ℕ) → part (peer side) run ≡ part (peer side) w.run → ((t : Side) → EndStands p t (on t pair) w.run) → EndStands p side end run →
    (t : Side) → EndStands p t (on t (with_end side end pair)) (next_world w side run rest).run
ends_then p w pair Client end run rest e was s Client = s
ends_then p w pair Client end run rest e was s Server = stays p Server pair.server w.run run e (was Server)
ends_then p w pair Server end run rest e was s Client = stays p Client pair.client w.run run e (was Client)
ends_then p w pair Server end run rest e was s Server = s

rest_then : {K : Type 0} (w : World) (pair : Both K) (side : Side) (end : Standing K) (run : List Done) (rest : List ℕ) → ((t : Side) → rest_of w t ≡ kept_bytes (on t pair).machine) → rest ≡ kept_bytes end.machine →
    (t : Side) → rest_of (next_world w side run rest) t ≡ kept_bytes (on t (with_end side end pair)).machine
rest_then w pair Client end run rest was e Client = e
rest_then w pair Client end run rest was e Server = was Server
rest_then w pair Server end run rest was e Client = was Client
rest_then w pair Server end run rest was e Server = e

puts_then : {K : Type 0} (p : Parties K) (w : World) (side : Side) (run : List Done) (rest : List ℕ) (out : Output) (new : List ℕ) → part (peer side) run ≡ part (peer side) w.run → PutsMore p side (part side w.run) (part side run) (output_of side out) new →
    (t : Side) → PutsMore p t (part t w.run) (part t (next_world w side run rest).run) (output_of t out) (output_of t (with_output side new out))
puts_then p w Client run rest out new e x Client = x
puts_then p w Client run rest out new e x Server = subst (λ (h : List Item). PutsMore p Server (part Server w.run) h out.server out.server) (sym e) (puts_nothing p Server (part Server w.run) out.server)
puts_then p w Server run rest out new e x Client = subst (λ (h : List Item). PutsMore p Client (part Client w.run) h out.client out.client) (sym e) (puts_nothing p Client (part Client w.run) out.client)
puts_then p w Server run rest out new e x Server = x

next_run : (w : World) (side : Side) (run : List Done) (rest : List ℕ) → (next_world w side run rest).run ≡ run
next_run w Client run rest = refl
next_run w Server run rest = refl

module _ {K : Type 0} (p : Parties K) (w : World) (pair : Both K) (stands : PairStands p w pair) (side : Side) (end : Standing K)
    (there : (side : Side) (items : List Item) (run : List Done) → part (peer side) (done_by side items ++ run) ≡ part (peer side) run)
    (here : (side : Side) (items : List Item) (run : List Done) → part side (done_by side items ++ run) ≡ items ++ part side run) where
  abbrev moved : Both K
  moved = with_end side end pair

  says_all : (items : List Item) (rest : List ℕ) (log_old log_new : List declared.Done) (out : Output) (new : List ℕ) → SaysOf p side w.run items log_old log_new (output_of side out) new →
      Says p w (next_world w side (done_by side items ++ w.run) rest) (done_by side items) log_old log_new out (with_output side new out)
  says_all items rest log_old log_new out new s = record {
    run_is = next_run w side (done_by side items ++ w.run) rest;
    records = s.records;
    puts = puts_then p w side (done_by side items ++ w.run) rest out new (there side items w.run)
        (subst (λ (h : List Item). PutsMore p side (part side w.run) h (output_of side out) new) (sym (here side items w.run)) s.puts);
  }

  stands_then : (items : List Item) (rest : List ℕ) → Run p (next_world w side (done_by side items ++ w.run) rest).run → EndStands p side end (done_by side items ++ w.run) → rest ≡ kept_bytes end.machine → PairStands p (next_world w side (done_by side items ++ w.run) rest) moved
  stands_then items rest run s e = record {
    run = run;
    ends = ends_then p w pair side end (done_by side items ++ w.run) rest (there side items w.run) stands.ends s;
    rest = rest_then w pair side end (done_by side items ++ w.run) rest stands.rest e;
  }

  sums_then : (items : List Item) → EndStands p side end (done_by side items ++ w.run) → EndSumsUp p side (items ++ part side w.run) (state_in end)
  sums_then items s = subst (λ (h : List Item). EndSumsUp p side h (state_in end)) (here side items w.run) s.sums

  -- ---- bytes and asks

  pub delivered : (bytes : List ℕ) (log_old log_new : List declared.Done) (out : Output) (new : List ℕ) →
      ((items : List Item) (rest : List ℕ) (e : EndState K) → Delivered (reading_of p side) w.run (rest_of w side ++ bytes) (done_by side items ++ w.run) rest → EndSumsUp p side (items ++ part side w.run) e →
      PairTurned p w (Delivers side bytes) (next_world w side (done_by side items ++ w.run) rest) (with_state side e (states pair))) →
      ((run : List Done) → EndStands p side end run → Delivered (reading_of p side) run (kept_bytes end.machine) run (kept_bytes end.machine)) →
      Advanced p side w.run bytes (kept_bytes (on side pair).machine) (kept_bytes end.machine) (EndStands p side end) log_old log_new (output_of side out) new →
      PlaysOne p w (Delivers side bytes) moved log_old log_new out (with_output side new out)
  delivered bytes log_old log_new out new law at_end x =
      let run : List Done = done_by side x.items ++ w.run in
      let kept : List ℕ = kept_bytes end.machine in
      let ended : Delivered (reading_of p side) run (kept ++ []) run kept = subst (λ (l : List ℕ). Delivered (reading_of p side) run l run kept) (sym (append-nil kept)) (at_end run x.stands) in
      let whole : Delivered (reading_of p side) w.run (rest_of w side ++ bytes) run kept =
      subst (λ (l : List ℕ). Delivered (reading_of p side) w.run l run kept) (ap (λ (l : List ℕ). kept_bytes (on side pair).machine ++ l) (append-nil bytes) ∙ ap (λ (l : List ℕ). l ++ bytes) (sym (stands.rest side))) (x.reads [] run kept ended) in
      let turned = law x.items kept (state_in end) whole (sums_then x.items x.stands) in
      record {
        next = next_world w side run kept;
        items = done_by side x.items;
        on_event = turned.on_event;
        stands = stands_then x.items kept turned.sums.run x.stands refl;
        says = says_all x.items kept log_old log_new out new x.says;
      }

  pub asked : (ask : Ask) (log_old log_new : List declared.Done) (out : Output) (new : List ℕ) →
      ((items : List Item) (more : List ℕ) (e : EndState K) → EndTurned p side (part side w.run) (AsksTurn p side (part side w.run) ask) items more e →
      PairTurned p w (Asks side ask) (next_world w side (done_by side items ++ w.run) (kept_rest (items ++ part side w.run) (rest_of w side))) (with_state side e (states pair))) →
      Answered p side w.run ask (kept_bytes (on side pair).machine) (kept_bytes end.machine) (EndStands p side end) log_old log_new (output_of side out) new →
      PlaysOne p w (Asks side ask) moved log_old log_new out (with_output side new out)
  asked ask log_old log_new out new law x =
      let rest : List ℕ = kept_rest (x.items ++ part side w.run) (rest_of w side) in
      let turned = law x.items x.says.puts.more (state_in end) (record { turn = x.turn; sums = sums_then x.items x.stands; puts = x.says.puts.puts }) in
      record {
        next = next_world w side (done_by side x.items ++ w.run) rest;
        items = done_by side x.items;
        on_event = turned.on_event;
        stands = stands_then x.items rest turned.sums.run x.stands (ap (λ (l : List ℕ). cond (has_died (x.items ++ part side w.run)) [] l) (stands.rest side) ∙ sym x.kept);
        says = says_all x.items rest log_old log_new out new x.says;
      }

  -- ---- a pair of cookie and secret

  puts_fed : (cookie secret : List ℕ) (answer : Bool) (h : List Item) (bytes : List ℕ) → PutsOut p side h bytes → PutsOut p side (fed_items cookie secret answer ++ h) (bytes ++ [])
  puts_fed cookie secret true h bytes x = subst (λ (l : List ℕ). PutsOut p side (Fed cookie secret ∷ h) l) (sym (append-nil bytes)) (other (Fed cookie secret) tt x)
  puts_fed cookie secret false h bytes x = subst (λ (l : List ℕ). PutsOut p side h l) (sym (append-nil bytes)) x

  answered_so : (cookie secret : List ℕ) (answer : Bool) → FeedsTurn side (part side w.run) cookie secret (fed_items cookie secret answer) → answer ≡ can_feed (part side w.run)
  answered_so cookie secret true turn = sym (could_feed turn)
  answered_so cookie secret false turn = sym (could_not_feed turn)

  fed_is : (cookie secret : List ℕ) (answer : Bool) → fed_items cookie secret answer ≡ cond answer (Fed cookie secret ∷ []) []
  fed_is cookie secret true = refl
  fed_is cookie secret false = refl

  pub feeds : (cookie secret : List ℕ) (answer : Bool) → FedTo p side (end.parts p) (end.layers p) (part side w.run) cookie secret answer end.machine (state_in end) →
      kept_bytes end.machine ≡ kept_bytes (on side pair).machine →
      ((items : List Item) (more : List ℕ) (e : EndState K) → EndTurned p side (part side w.run) (FeedsTurn side (part side w.run) cookie secret) items more e →
      PairTurned p w (Feeds side cookie secret) (next_world w side (done_by side items ++ w.run) (rest_of w side)) (with_state side e (states pair))) →
      ((run : List Done) → AreLawful p → Run p run → Promises p run) →
      PairFed p w side (record { cookie = cookie; secret = secret }) answer moved
  feeds cookie secret answer x same law of_runs =
      let items : List Item = fed_items cookie secret answer in
      let turned = law items [] (state_in end) (record { turn = x.turn; sums = x.place.sums; puts = λ bytes put. puts_fed cookie secret answer (part side w.run) bytes put }) in
      let s : EndStands p side end (done_by side items ++ w.run) =
      subst (λ (h : List Item). StandsAfter p side (end.parts p) (end.layers p) h end.machine (state_in end)) (sym (here side items w.run)) x.place in
      record {
        next = next_world w side (done_by side items ++ w.run) (rest_of w side);
        answer_is = answered_so cookie secret answer x.turn;
        run_is = next_run w side (done_by side items ++ w.run) (rest_of w side) ∙ ap (λ (l : List Item). done_by side l ++ w.run) (fed_is cookie secret answer);
        on_event = turned.on_event;
        stands = stands_then items (rest_of w side) turned.sums.run s (stands.rest side ∙ sym same);
        promises = of_runs _ x.place.lawful turned.sums.run;
      }

-- What is kept besides the pairs stays where an end is fed.
pub fed_same : {K : Type 0} (cookie secret : List ℕ) (answer : Bool) (old new : State K) → (answer ≡ true → new ≡ record old { kept = after_fed cookie secret old.kept }) → (answer ≡ false → new ≡ old) → kept_bytes new ≡ kept_bytes old
fed_same cookie secret true old new fed same = ap (λ s. kept_bytes s) (fed refl)
fed_same cookie secret false old new fed same = ap (λ s. kept_bytes s) (same refl)
