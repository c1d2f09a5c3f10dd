-- Which payloads are recorded as sent.
use Rattle.std.proofs.Common.{◌≡◌, ◌+◌, ◌<◌, ℕ, Bool, true, false, cond, List, [], ◌∷◌, ◌++◌, append-nil, append_assoc, length, map, take, get_or, refl, ap, sym, ◌∙◌, subst, Ok, Err}
use Rattle.std.specs.Prelude.{Result}
use Rattle.std.proofs.lemmas.List.{take_more}
use Rattle.ssh_end_machine.specs.declared.asking.outcome.AskStep.{AskStep}
use Rattle.ssh_end_machine.specs.declared.asking.outcome.Fault.{Fault}
use Rattle.ssh_model.specs.declared.side.Side.{Side}
use Rattle.ssh_model.specs.declared.side.Side.TheVariants.{Client, Server}
use Rattle.ssh_model.specs.Protocol.Side.{peer}
use Rattle.ssh_end.specs.declared.item.Done.{Done}
use Rattle.ssh_end.specs.TwoEnds.Recorded.{RecordsAsked, RecordsSent, is_side, recorded_sent, payload_in}

own_side : (side : Side) → is_side side side ≡ true
own_side Client = refl
own_side Server = refl

other_side : (side : Side) → is_side (peer side) side ≡ false
other_side Client = refl
other_side Server = refl

-- one more is recorded
recorded_more : (side : Side) (log : List Done) (done : Done) → recorded_sent side (log ++ done ∷ []) ≡ recorded_sent side log ++ cond (is_side side done.side) (payload_in done.item) []
recorded_more side [] done = append-nil (cond (is_side side done.side) (payload_in done.item) [])
recorded_more side (x ∷ log) done =
    let front : List (List ℕ) = cond (is_side side x.side) (payload_in x.item) [] in
    ap (λ (l : List (List ℕ)). front ++ l) (recorded_more side log done) ∙ sym (append_assoc front (recorded_sent side log) (cond (is_side side done.side) (payload_in done.item) []))

pub records_one : (log new : List Done) (done : Done) → new ≡ log ++ done ∷ [] → RecordsSent done.side (payload_in done.item) log new
records_one log new done is = record {
  own = ap (recorded_sent done.side) is ∙ (recorded_more done.side log done ∙ ap (λ (b : Bool). recorded_sent done.side log ++ cond b (payload_in done.item) []) (own_side done.side));
  others = ap (recorded_sent (peer done.side)) is ∙ (recorded_more (peer done.side) log done
      ∙ (ap (λ (b : Bool). recorded_sent (peer done.side) log ++ cond b (payload_in done.item) []) (other_side done.side) ∙ append-nil (recorded_sent (peer done.side) log)));
}

pub records_none : (side : Side) (log : List Done) → RecordsSent side [] log log
records_none side log = record { own = sym (append-nil (recorded_sent side log)); others = refl }

pub records_then : (side : Side) (a b : List (List ℕ)) (one two three : List Done) → RecordsSent side a one two → RecordsSent side b two three → RecordsSent side (a ++ b) one three
records_then side a b one two three x y = record {
  own = y.own ∙ (ap (λ (l : List (List ℕ)). l ++ b) x.own ∙ append_assoc (recorded_sent side one) a b);
  others = y.others ∙ x.others;
}

-- what records nothing sent, after and before what does
pub records_after : (side : Side) (a : List (List ℕ)) (one two three : List Done) → RecordsSent side [] one two → RecordsSent side a two three → RecordsSent side a one three
records_after side a one two three x y = records_then side [] a one two three x y

pub records_before : (side : Side) (a : List (List ℕ)) (one two three : List Done) → RecordsSent side a one two → RecordsSent side [] two three → RecordsSent side a one three
records_before side a one two three x y = subst (λ (l : List (List ℕ)). RecordsSent side l one three) (append-nil a) (records_then side a [] one two three x y)

-- one more of a list's payloads
pub records_next : {V : Type 0} (side : Side) (f : V → List ℕ) (items : List V) (i : ℕ) (x : V) (one two three : List Done) → x ≡ get_or items i x → i < length items
    → RecordsSent side (map f (take i items)) one two → RecordsSent side (f x ∷ []) two three → RecordsSent side (map f (take (i + 1) items)) one three
records_next side f items i x one two three e lt before last =
    let next : take (i + 1) items ≡ take i items ++ x ∷ [] = take_more items i x lt ∙ ap (λ (y : _). take i items ++ y ∷ []) (sym e) in
    subst (λ (l : List (List ℕ)). RecordsSent side l one three) (sym (ap (map f) next ∙ mapped_more f (take i items) x)) (records_then side (map f (take i items)) (f x ∷ []) one two three before last)
  where
    mapped_more : {V : Type 0} (f : V → List ℕ) (l : List V) (x : V) → map f (l ++ x ∷ []) ≡ map f l ++ f x ∷ []
    mapped_more f [] x = refl
    mapped_more f (y ∷ l) x = ap (λ (t : List (List ℕ)). f y ∷ t) (mapped_more f l x)

-- what an ask records of the other side
pub asked_alone : (side : Side) (result : Result AskStep Fault) (payloads : List (List ℕ)) (log last : List Done) → RecordsAsked side result payloads log last → recorded_sent (peer side) last ≡ recorded_sent (peer side) log
asked_alone side (Ok step) payloads log last x = x.others
asked_alone side (Err fault) payloads log last x = x.others
