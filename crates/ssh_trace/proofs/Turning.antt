-- Turns of an end, for every history that it sums up.
use Rattle.std.proofs.Common.{◌≡◌, ℕ, ◌+◌, ◌≤◌, Bool, true, false, cond, List, [], ◌∷◌, ◌++◌, length, take, drop, refl, sym, ap, subst, ◌∙◌, arith, append-nil, append_assoc, inl, inr}
use Rattle.std.specs.Prelude.{Some}
use Rattle.std.proofs.lemmas.Bool.{cases_Bool}
use Rattle.std.proofs.lemmas.List.{take-append-drop, drop-drop, drop_all}
use Rattle.ssh_model.specs.Laws.MacOnly.{mac_only}
use Rattle.ssh_model.specs.Protocol.Wire.Sealing.{IsSealed}
use Rattle.ssh_model.specs.Laws.Units.{IsPartialPacket}
use Rattle.ssh_model.specs.declared.side.Side.{Side}
use Rattle.ssh_model.specs.declared.refusal.Refusal.{Refusal}
use Rattle.ssh_model.specs.declared.refusal.Refusal.TheVariants as refusals
use Rattle.ssh_model.specs.declared.ask_refusal.AskRefusal.TheVariants as ask_refusals
use Rattle.ssh_model.specs.Protocol.Side.{DoneBy.By, done_by}
use Rattle.ssh_model.specs.OneEpoch.History.{Item, Item.Asked, Item.AskRefused, Item.Sent, Item.Took, Item.Refused, Item.Died, has_died, sent, took}
use Rattle.ssh_model.specs.OneEpoch.History as history
use Rattle.ssh_model.specs.OneEpoch.Runs.{Takes, Gets, Gets.dead, Gets.waits, Gets.takes, Asks}
use Rattle.ssh_model.specs.OneEpoch.Runs as epoch
use Rattle.ssh_packet.specs.declared.step.PacketStep.TheVariants as step
use Rattle.ssh_trace.specs.History.{logged}
use Rattle.ssh_trace.specs.EpochEnd.{End, EndFinds, EndSums, RefusesAsk, Sends, SpendsNumbers, left_of}
use Rattle.ssh_trace.specs.Turns.{AskedWith, DeliveredWith, Notes, Turn, TurnWith}
use Rattle.ssh_trace.specs.declared.history.Done.{Done}

-- these records add one item
abbrev pub Adds : Side → Item → List Done → List Done → Type 0
Adds side item before after = (run : List history.Done) → logged run after ≡ By side item ∷ logged run before

two : (side : Side) (first second : Item) (a b c : List Done) → Adds side first a b → Adds side second b c → (run : List history.Done) → logged run c ≡ By side second ∷ By side first ∷ logged run a
two side first second a b c f g run = g run ∙ ap (λ (x : List history.Done). By side second ∷ x) (f run)

three : (side : Side) (first second third : Item) (a b c d : List Done) → Adds side first a b → Adds side second b c → Adds side third c d
    → (run : List history.Done) → logged run d ≡ By side third ∷ By side second ∷ By side first ∷ logged run a
three side first second third a b c d f g h run = h run ∙ ap (λ (x : List history.Done). By side third ∷ x) (two side first second a b c f g run)

alive_is : (h : List Item) (rest : List ℕ) (e : End) → EndSums h rest e → e.dead ≡ false → has_died h ≡ false
alive_is h rest e s a = sym s.dead_is ∙ a

-- ---- asks

pub asked_dead : (key payload out : List ℕ) (side : Side) (h : List Item) (e : End) (log : List Done) → EndSums h (left_of e) e → e.dead ≡ true → AskedWith key side payload h e e log log out out
asked_dead key payload out side h e log s d =
    record { items = []; bytes = []; asks = epoch.dead (sym s.dead_is ∙ d); put = sym (append-nil out); notes = record { records = λ run. refl; sums = s } }

pub asked_sent : (payload out after : List ℕ) (side : Side) (h : List Item) (old new : End) (a b c : List Done) → EndSums h (left_of old) old → old.dead ≡ false → Sends payload old new out after
    → Adds side Asked a b → Adds side (Sent payload) b c → AskedWith old.sending_key side payload h old new a c out after
asked_sent payload out after side h old new a b c s alive t f g =
    let key = old.sending_key in
    let died = alive_is h (left_of old) old s alive in
    let e = t.new_is in
    let w = t.writes in
    let same : left_of old ≡ left_of new = sym (ap left_of e) in
    let sealed : IsSealed mac_only (Some key) (length (sent h)) payload w.bytes = subst (λ (n : ℕ). IsSealed mac_only (Some key) n payload w.bytes) s.sent_is w.meets in
    record {
      items = Sent payload ∷ Asked ∷ [];
      bytes = w.bytes;
      asks = subst (λ (x : List ℕ). Asks mac_only key h (left_of old) payload (Sent payload ∷ Asked ∷ []) w.bytes x) same (epoch.sends w.bytes died t.short (omega (arith, t.left, s.sent_is)) sealed);
      put = w.parts;
      notes = record {
        records = two side Asked (Sent payload) a b c f g;
        sums = record { dead_is = ap (λ (x : End). x.dead) e ∙ s.dead_is; sent_is = ap (λ (x : End). x.sent) e ∙ omega (arith, s.sent_is); taken_is = ap (λ (x : End). x.taken) e ∙ s.taken_is; rest_is = refl };
      };
    }

pub asked_too_long : (key payload out after : List ℕ) (side : Side) (h : List Item) (old new : End) (a b c : List Done) → EndSums h (left_of old) old → old.dead ≡ false → RefusesAsk payload old new out after
    → Adds side Asked a b → Adds side (AskRefused ask_refusals.TooLong) b c → AskedWith key side payload h old new a c out after
asked_too_long key payload out after side h old new a b c s alive t f g =
    let e = t.new_is in
    record {
      items = AskRefused ask_refusals.TooLong ∷ Asked ∷ [];
      bytes = [];
      asks = subst (λ (x : List ℕ). Asks mac_only key h (left_of old) payload (AskRefused ask_refusals.TooLong ∷ Asked ∷ []) [] x) (sym (ap left_of e)) (epoch.too_long (alive_is h (left_of old) old s alive) t.long);
      put = t.none ∙ sym (append-nil out);
      notes = record {
        records = two side Asked (AskRefused ask_refusals.TooLong) a b c f g;
        sums = record { dead_is = ap (λ (x : End). x.dead) e ∙ s.dead_is; sent_is = ap (λ (x : End). x.sent) e ∙ s.sent_is; taken_is = ap (λ (x : End). x.taken) e ∙ s.taken_is; rest_is = refl };
      };
    }

-- a dead end keeps no bytes
none_left : (e : End) → e.dead ≡ true → left_of e ≡ []
none_left e d = ap (λ (b : Bool). cond b [] e.buffered) d

pub asked_spent : (key payload out after : List ℕ) (side : Side) (h : List Item) (old new : End) (a b c d : List Done) → EndSums h (left_of old) old → old.dead ≡ false → SpendsNumbers payload old new out after
    → Adds side Asked a b → Adds side (Refused refusals.NumberSpent) b c → Adds side Died c d → AskedWith key side payload h old new a d out after
asked_spent key payload out after side h old new a b c d s alive t f g i =
    record {
      items = Died ∷ Refused refusals.NumberSpent ∷ Asked ∷ [];
      bytes = [];
      asks = subst (λ (x : List ℕ). Asks mac_only key h (left_of old) payload (Died ∷ Refused refusals.NumberSpent ∷ Asked ∷ []) [] x) (sym (none_left new t.died.dead)) (epoch.spent (alive_is h (left_of old) old s alive) t.short (sym s.sent_is ∙ t.spent));
      put = t.none ∙ sym (append-nil out);
      notes = record {
        records = three side Asked (Refused refusals.NumberSpent) Died a b c d f g i;
        sums = record { dead_is = t.died.dead; sent_is = t.died.sent ∙ s.sent_is; taken_is = t.died.taken ∙ s.taken_is; rest_is = refl };
      };
    }

-- ---- parts of a delivery

live_left : (e : End) → e.dead ≡ false → left_of e ≡ e.buffered
live_left e a = ap (λ (b : Bool). cond b [] e.buffered) a

pub turn_more : (used : List ℕ) (side : Side) (h : List Item) (old new : End) (log : List Done) → EndSums h (left_of old) old → old.dead ≡ false → EndFinds (old.buffered ++ used) old step.More new → TurnWith old.taking_key side used h old new log log
turn_more used side h old new log s alive f =
    let key = old.taking_key in
    let e = f.1 in
    let new_alive : new.dead ≡ false = ap (λ (x : End). x.dead) e ∙ alive in
    let left : left_of new ≡ left_of old ++ used = live_left new new_alive ∙ ap (λ (x : End). x.buffered) e ∙ ap (λ (x : List ℕ). x ++ used) (sym (live_left old alive)) in
    record {
      items = [];
      goes = λ after more rest g. let same : left_of new ++ after ≡ left_of old ++ (used ++ after) = ap (λ (x : List ℕ). x ++ after) left ∙ append_assoc (left_of old) used after in
          subst (λ (x : List Item). Gets mac_only key h (left_of old ++ (used ++ after)) x rest) (sym (append-nil more)) (subst (λ (x : List ℕ). Gets mac_only key h x more rest) same g);
      notes = record {
        records = λ run. refl;
        sums = record { dead_is = ap (λ (x : End). x.dead) e ∙ s.dead_is; sent_is = ap (λ (x : End). x.sent) e ∙ s.sent_is; taken_is = ap (λ (x : End). x.taken) e ∙ s.taken_is; rest_is = refl };
      };
    }

-- a unit is used up, and nothing is left
unit_goes : (used : List ℕ) (h items : List Item) (old new : End) → EndSums h (left_of old) old → old.dead ≡ false → Takes mac_only old.taking_key old.taken (old.buffered ++ used) items → left_of new ≡ []
    → (after : List ℕ) (more : List Item) (rest : List ℕ) → Gets mac_only old.taking_key (items ++ h) (left_of new ++ after) more rest → Gets mac_only old.taking_key h (left_of old ++ (used ++ after)) (more ++ items) rest
unit_goes used h items old new s alive t none after more rest g =
    let key = old.taking_key in
    let unit : old.buffered ++ used ≡ left_of old ++ used = ap (λ (x : List ℕ). x ++ used) (sym (live_left old alive)) in
    let taken : Takes mac_only key (length (took h)) (left_of old ++ used) items =
    subst (λ (x : List ℕ). Takes mac_only key (length (took h)) x items) unit (subst (λ (n : ℕ). Takes mac_only key n (old.buffered ++ used) items) s.taken_is t) in
    takes (left_of old ++ used) after (alive_is h (left_of old) old s alive) (sym (append_assoc (left_of old) used after)) taken (subst (λ (x : List ℕ). Gets mac_only key (items ++ h) (x ++ after) more rest) none g)

pub turn_taken : (used : List ℕ) (side : Side) (h : List Item) (old new : End) (a b : List Done) → EndSums h (left_of old) old → old.dead ≡ false → EndFinds (old.buffered ++ used) old step.Payload new
    → Adds side (Took new.payload) a b → TurnWith old.taking_key side used h old new a b
turn_taken used side h old new a b s alive f log =
    let e = f.1 in
    let new_alive : new.dead ≡ false = ap (λ (x : End). x.dead) e ∙ alive in
    let none : left_of new ≡ [] = live_left new new_alive ∙ ap (λ (x : End). x.buffered) e in
    record {
      items = Took new.payload ∷ [];
      goes = unit_goes used h (Took new.payload ∷ []) old new s alive (epoch.payload new.payload f.0) none;
      notes = record {
        records = log;
        sums = record { dead_is = ap (λ (x : End). x.dead) e ∙ s.dead_is; sent_is = ap (λ (x : End). x.sent) e ∙ s.sent_is; taken_is = ap (λ (x : End). x.taken) e ∙ omega (arith, s.taken_is); rest_is = refl };
      };
    }

pub turn_refused : (used : List ℕ) (side : Side) (h : List Item) (old new : End) (refusal : Refusal) (a b c : List Done) → EndSums h (left_of old) old → old.dead ≡ false
    → EndFinds (old.buffered ++ used) old (step.Refused refusal) new → Adds side (Refused refusal) a b → Adds side Died b c → TurnWith old.taking_key side used h old new a c
turn_refused used side h old new refusal a b c s alive f first second =
    let died = f.1 in
    record {
      items = Died ∷ Refused refusal ∷ [];
      goes = unit_goes used h (Died ∷ Refused refusal ∷ []) old new s alive (epoch.refuses refusal f.0) (none_left new died.dead);
      notes = record {
        records = two side (Refused refusal) Died a b c first second;
        sums = record { dead_is = died.dead; sent_is = died.sent ∙ s.sent_is; taken_is = died.taken ∙ s.taken_is; rest_is = refl };
      };
    }

-- ---- a whole delivery

-- so many bytes of the piece were used: what the end then does with those after it does with all of them, these items in front
pub record Going (key : List ℕ) (side : Side) (piece : List ℕ) (at_ : ℕ) (h : List Item) (old new : End) (log_old log_new : List Done) : Type 0 where
  pub items : List Item
  pub goes : (more : List Item) (left : List ℕ) → Gets mac_only key (items ++ h) (left_of new ++ drop at_ piece) more left → Gets mac_only key h (left_of old ++ piece) (more ++ items) left
  pub notes : Notes side h items new log_old log_new

all_by_append : (side : Side) (xs ys : List Item) → done_by side (xs ++ ys) ≡ done_by side xs ++ done_by side ys
all_by_append side [] ys = refl
all_by_append side (x ∷ xs) ys = ap (λ (z : List history.Done). By side x ∷ z) (all_by_append side xs ys)

pub go_on : (key piece rest : List ℕ) (side : Side) (at_ count : ℕ) (h : List Item) (old middle new : End) (a b c : List Done) → rest ≡ drop at_ piece → Going key side piece at_ h old middle a b → middle.taking_key ≡ key
    → Turn middle.taking_key side (take count rest) middle new b c → Going key side piece (at_ + count) h old new a c
go_on key piece rest side at_ count h old middle new a b c following g same turn =
    let t : TurnWith key side (take count rest) (g.items ++ h) middle new b c =
    subst (λ (k : List ℕ). TurnWith k side (take count rest) (g.items ++ h) middle new b c) same (turn (g.items ++ h) g.notes.sums) in
    let join : take count rest ++ drop (at_ + count) piece ≡ drop at_ piece =
    ap (λ (x : List ℕ). take count x ++ drop (at_ + count) piece) following ∙ ap (λ (x : List ℕ). take count (drop at_ piece) ++ x) (sym (drop-drop count at_ piece)) ∙ take-append-drop count (drop at_ piece) in
    record {
      items = t.items ++ g.items;
      goes = λ more left x.
          let first = t.goes (drop (at_ + count) piece) more left (subst (λ (k : List Item). Gets mac_only key k (left_of new ++ drop (at_ + count) piece) more left) (append_assoc t.items g.items h) x) in
          let second = g.goes (more ++ t.items) left (subst (λ (k : List ℕ). Gets mac_only key (g.items ++ h) (left_of middle ++ k) (more ++ t.items) left) join first) in
          subst (λ (k : List Item). Gets mac_only key h (left_of old ++ piece) k left) (append_assoc more t.items g.items) second;
      notes = record {
        records = λ run. t.notes.records run ∙ ap (λ (x : List history.Done). done_by side t.items ++ x) (g.notes.records run)
            ∙ sym (append_assoc (done_by side t.items) (done_by side g.items) (logged run a)) ∙ ap (λ (x : List history.Done). x ++ logged run a) (sym (all_by_append side t.items g.items));
        sums = subst (λ (k : List Item). EndSums k (left_of new) new) (sym (append_assoc t.items g.items h)) t.notes.sums;
      };
    }

pub dead_end : (key piece : List ℕ) (side : Side) (at_ : ℕ) (h : List Item) (old new : End) (a b : List Done) → Going key side piece at_ h old new a b → new.dead ≡ true → DeliveredWith key side piece h old new a b
dead_end key piece side at_ h old new a b g d =
    let died : has_died (g.items ++ h) ≡ true = sym g.notes.sums.dead_is ∙ d in
    record {
      items = g.items;
      gets = g.goes [] (left_of new) (subst (λ (x : List ℕ). Gets mac_only key (g.items ++ h) (left_of new ++ drop at_ piece) [] x) (sym (none_left new d)) (epoch.dead (left_of new ++ drop at_ piece) died));
      notes = g.notes;
    }

living_end : (key piece : List ℕ) (side : Side) (at_ : ℕ) (h : List Item) (old new : End) (a b : List Done) → Going key side piece at_ h old new a b → length piece ≤ at_ → IsPartialPacket mac_only (Some key) new.taken new.buffered → new.dead ≡ false → DeliveredWith key side piece h old new a b
living_end key piece side at_ h old new a b g over k alive =
    let s = g.notes.sums in
    let all : left_of new ++ drop at_ piece ≡ left_of new = ap (λ (x : List ℕ). left_of new ++ x) (drop_all at_ piece over) ∙ append-nil (left_of new) in
    let wait : IsPartialPacket mac_only (Some key) (length (took (g.items ++ h))) new.buffered = subst (λ (n : ℕ). IsPartialPacket mac_only (Some key) n new.buffered) s.taken_is (record { buffered = k.buffered; unspent = k.unspent }) in
    record {
      items = g.items;
      gets = g.goes [] (left_of new) (subst (λ (x : List ℕ). Gets mac_only key (g.items ++ h) x [] (left_of new)) (sym all)
          (epoch.waits (alive_is (g.items ++ h) (left_of new) new s alive) (subst (λ (x : List ℕ). IsPartialPacket mac_only (Some key) (length (took (g.items ++ h))) x) (sym (live_left new alive)) wait)));
      notes = g.notes;
    }

pub whole_piece : (key piece : List ℕ) (side : Side) (at_ : ℕ) (h : List Item) (old new : End) (a b : List Done) → Going key side piece at_ h old new a b → length piece ≤ at_ → new.taking_key ≡ key
    → (new.dead ≡ false → IsPartialPacket mac_only (Some new.taking_key) new.taken new.buffered) → DeliveredWith key side piece h old new a b
whole_piece key piece side at_ h old new a b g over same k =
    elim (cases_Bool new.dead) [
      | inl d ↦ dead_end key piece side at_ h old new a b g d
      | inr alive ↦ living_end key piece side at_ h old new a b g over (subst (λ (x : List ℕ). IsPartialPacket mac_only (Some x) new.taken new.buffered) same (k alive)) alive
    ]
