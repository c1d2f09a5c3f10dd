-- What a program's look-up said.
use Rattle.std.specs.Prelude.{◌≡◌, ◌++◌, List, [], ◌∷◌}

-- The look-up went from one state to another by these answers of its own, one after another, the oldest first.
pub data LookedUp {L V : Type 0} (answers : L → V → L → Type 0) (first : L) : List V → L → Type 0 where
  none : LookedUp answers first [] first
  more : (verdicts : List V) (verdict : V) (between last : L) → LookedUp answers first verdicts between → answers between verdict last →
      LookedUp answers first (verdicts ++ (verdict ∷ [])) last

-- What was said before, and then what the look-up answered, is what is said now.
pub record SaidOn {L V : Type 0} (answers : L → V → L → Type 0) (before now : List V) (first last : L) : Type 0 where
  pub verdicts : List V
  pub now_is : now ≡ before ++ verdicts
  pub by : LookedUp answers first verdicts last

-- The look-up was asked such a question, and its answer is what was added.
pub record SaidOne {L V : Type 0} (answers : L → V → L → Type 0) (is_such : V → Type 0) (before now : List V) (first last : L) : Type 0
  where
    pub verdict : V
    pub now_is : now ≡ before ++ (verdict ∷ [])
    pub by : answers first verdict last
    pub is : is_such verdict
