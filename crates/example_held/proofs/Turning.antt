-- One turn after another, and one answer after another.
use Rattle.std.proofs.Common.{◌≡◌, ◌+◌, ℕ, List, [], ◌∷◌, ◌++◌, append-nil, append_assoc, arith, drop, take, ap, sym, subst, ◌∙◌}
use Rattle.std.proofs.lemmas.List.{drop-take, take-append-drop, take-take}
use Rattle.ssh_model.specs.Protocol.Sessions.Items.{Item}
use Rattle.ssh_model.specs.Protocol.Sessions.Parties.{Parties}
use Rattle.ssh_model.specs.declared.side.Side.{Side}
use Rattle.ssh_held.specs.Places.{WentOn}
use Rattle.example_held.specs.LookUps.{LookedUp, LookedUp.more, LookedUp.none, SaidOn, SaidOne}
use Rattle.example_held.specs.Turning.{TurnFor, WentBy, WentBy.nowhere, WentBy.on}

-- ---- what was said

module _ {L V : Type 0} (answers : L → V → L → Type 0) where
  pub said_nothing : (before now : List V) (first : L) → now ≡ before → SaidOn answers before now first first
  said_nothing before now first is = record { verdicts = []; now_is = is ∙ sym (append-nil before); by = none }

  -- one answer, with nothing said before it and after it
  pub said_one : (is_such : V → Type 0) (before then now after : List V) (first last : L) → then ≡ before → after ≡ now →
      SaidOne answers is_such then now first last → SaidOn answers before after first last
  said_one is_such before then now after first last then_is after_is x = record {
    verdicts = x.verdict ∷ [];
    now_is = after_is ∙ (x.now_is ∙ ap (λ (l : List V). l ++ (x.verdict ∷ [])) then_is);
    by = more [] x.verdict first last none x.by;
  }

  module _ (early : List V) (first between : L) (x : LookedUp answers first early between) where
    looked_on : (late : List V) (last : L) → LookedUp answers between late last → LookedUp answers first (early ++ late) last
    looked_on _ _ none = subst (λ (l : List V). LookedUp answers first l between) (sym (append-nil early)) x
    looked_on _ last (more verdicts verdict then _ y by) =
        subst (λ (l : List V). LookedUp answers first l last) (append_assoc early verdicts (verdict ∷ []))
        (more (early ++ verdicts) verdict then last (looked_on verdicts then y) by)

  pub said_on : (before then now : List V) (first between last : L) → SaidOn answers before then first between →
      SaidOn answers then now between last → SaidOn answers before now first last
  said_on before then now first between last x y = record {
    verdicts = x.verdicts ++ y.verdicts;
    now_is = y.now_is ∙ (ap (λ (l : List V). l ++ y.verdicts) x.now_is ∙ append_assoc before x.verdicts y.verdicts);
    by = looked_on x.verdicts first between x.by y.verdicts last y.by;
  }

-- ---- where it went

-- the first bytes, and some of those after them
pub taken_on : (at used : ℕ) (bytes rest : List ℕ) → rest ≡ drop at bytes → take at bytes ++ take used rest ≡ take (at + used) bytes
taken_on at used bytes rest is =
    ap (λ (l : List ℕ). take at bytes ++ take used l) is
    ∙ (ap (λ (l : List ℕ). l ++ take used (drop at bytes)) (sym (take-take at (at + used) bytes (omega arith)))
    ∙ (ap (λ (l : List ℕ). take at (take (at + used) bytes) ++ l) (sym (drop-take at used bytes)) ∙ take-append-drop at
    (take (at + used) bytes)))

module _ {K B V : Type 0} (parties : B → Parties K) (listed : B → List V) (side : Side) (history : List Item) (kept : List ℕ)
    (said : List V)
  where
    pub went_one : (unit : List ℕ) (items : List Item) (kept_now : List ℕ) (verdicts : List V) (book : B) → listed book ≡ said ++ verdicts →
        TurnFor (parties book) side history (kept ++ unit) items kept_now →
        WentBy parties listed side history kept said unit items kept_now (listed book)
    went_one unit items kept_now verdicts book is turn =
        subst (λ (l : List Item). WentBy parties listed side history kept said unit l kept_now (listed book)) (append-nil items)
        (on [] unit [] items kept kept_now said verdicts book nowhere is turn)

    module _ (first : List ℕ) (early : List Item) (kept_then : List ℕ) (said_then : List V)
        (x : WentBy parties listed side history kept said first early kept_then said_then) where
      pub went_on : (second : List ℕ) (late : List Item) (kept_now : List ℕ) (said_now : List V) →
          WentBy parties listed side (early ++ history) kept_then said_then second late kept_now said_now →
          WentBy parties listed side history kept said (first ++ second) (late ++ early) kept_now said_now
      went_on _ _ _ _ nowhere =
          subst (λ (l : List ℕ). WentBy parties listed side history kept said l early kept_then said_then) (sym (append-nil first)) x
      went_on _ _ kept_now _ (on bytes unit items added between _ said_between verdicts book y is turn) =
          subst (λ (l : List ℕ). WentBy parties listed side history kept said l ((added ++ items) ++ early) kept_now (listed book))
          (append_assoc first bytes unit)
          (subst (λ (l : List Item). WentBy parties listed side history kept said ((first ++ bytes) ++ unit) l kept_now (listed book))
          (sym (append_assoc added items early))
          (on (first ++ bytes) unit (items ++ early) added between kept_now said_between verdicts book
          (went_on bytes items between said_between y) is
          (subst (λ (l : List Item). TurnFor (parties book) side l (between ++ unit) added kept_now) (sym
          (append_assoc items early history)) turn)))

-- where it stands that failed after these items
pub failed_on : (At : List Item → Type 0) (history items : List Item) → WentOn At (items ++ history) → WentOn At history
failed_on At history items x = record {
  items = x.items ++ items;
  place = subst (λ (h : List Item). At h) (sym (append_assoc x.items items history)) x.place;
}
