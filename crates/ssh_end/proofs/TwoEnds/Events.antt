-- Events one after the other.
use Rattle.std.proofs.Common.{◌≡◌, List, [], ◌∷◌, ◌++◌, append_assoc, refl, ap, sym, ◌∙◌, subst}
use Rattle.ssh_model.specs.declared.side.Side.TheVariants.{Client}
use Rattle.ssh_model.specs.Protocol.Side.{part}
use Rattle.ssh_model.specs.Protocol.Sessions.Events.{Event, OnEvent, Plays, World}
use Rattle.ssh_model.specs.Protocol.Sessions.Items.{Done}
use Rattle.ssh_model.specs.Protocol.Sessions.Parties.{AreLawful, Parties}
use Rattle.ssh_model.specs.Protocol.Sessions.Turns.{Run}
use Rattle.ssh_end.specs.TwoEnds.Items.{Records}
use Rattle.ssh_end.specs.TwoEnds.Playing.{Output, Played, PlaysOne, PlaysTo, Promises, Says, event_of, events_of, output_of}
use Rattle.ssh_end.specs.TwoEnds.Standing.{Both, PairStands}
use Rattle.ssh_end.specs.declared.event.Event as declared_event
use Rattle.ssh_end.specs.declared.item.Done as declared
use Rattle.ssh_end.proofs.TwoEnds.Advancing.{puts_more, puts_nothing}

abbrev nothing : Output
nothing = record { client = []; server = [] }

says_more : {K : Type 0} (p : Parties K) (w between next : World) (early late : List Done) (l0 l1 l2 : List declared.Done) (o0 o1 o2 : Output) → Says p w between early l0 l1 o0 o1 → Says p between next late l1 l2 o1 o2 → Says p w next (late ++ early) l0 l2 o0 o2
says_more p w between next early late l0 l1 l2 o0 o1 o2 x y = record {
  run_is = y.run_is ∙ (ap (λ (r : List Done). late ++ r) x.run_is ∙ sym (append_assoc late early w.run));
  records = λ run n. subst (λ (r : List Done). Records l2 r) (sym (append_assoc late early run)) (y.records (early ++ run) (x.records run n));
  puts = λ side. puts_more p side (part side w.run) (part side between.run) (part side next.run) (output_of side o0) (output_of side o1) (output_of side o2) (x.puts side) (y.puts side);
}

pub plays_none : {K : Type 0} (p : Parties K) (w : World) (pair : Both K) → PairStands p w pair → PlaysTo p w [] pair [] nothing
plays_none p w pair s = record { next = w; items = []; plays = Plays.ends; stands = s; says = record { run_is = refl; records = λ run x. x; puts = λ side. puts_nothing p side (part side w.run) (output_of side nothing) } }

events_more : (events : List declared_event.Event) (event : declared_event.Event) → events_of (events ++ event ∷ []) ≡ events_of events ++ event_of event ∷ []
events_more [] event = refl
events_more (one ∷ events) event = ap (λ (l : List Event). event_of one ∷ l) (events_more events event)

pub plays_more : {K : Type 0} (p : Parties K) (w : World) (events : List declared_event.Event) (event : declared_event.Event) (mid new : Both K) (l1 l2 : List declared.Done) (o1 o2 : Output) →
    ((w between next : World) (events : List Event) (event : Event) → Plays p w events between → OnEvent p between event next → Plays p w (events ++ event ∷ []) next) →
    (x : PlaysTo p w (events_of events) mid l1 o1) → PlaysOne p x.next (event_of event) new l1 l2 o1 o2 → PlaysTo p w (events_of (events ++ event ∷ [])) new l2 o2
plays_more p w events event mid new l1 l2 o1 o2 law x y = record {
  next = y.next;
  items = y.items ++ x.items;
  plays = subst (λ (l : List Event). Plays p w l y.next) (sym (events_more events event)) (law w x.next y.next (events_of events) (event_of event) x.plays y.on_event);
  stands = y.stands;
  says = says_more p w x.next y.next x.items y.items [] l1 l2 nothing o1 o2 x.says y.says;
}

-- What holds of each run of lawful parties holds of this one.
pub played : {K : Type 0} (p : Parties K) (w : World) (events : List Event) (new : Both K) (log : List declared.Done) (out : Output) →
    ((run : List Done) → AreLawful p → Run p run → Promises p run) → PlaysTo p w events new log out → Played p w events new log out
played p w events new log out law x = record { to = x; promises = law x.next.run (x.stands.ends Client).lawful x.stands.run }
