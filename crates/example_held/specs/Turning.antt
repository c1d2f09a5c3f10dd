-- Where bytes of its peer take an end to whose program more is said on the way.
use Rattle.std.specs.Prelude.{◌≡◌, ◌++◌, ℕ, Bool, false, true, List, []}
use Rattle.ssh_model.specs.Protocol.Lists.{IsIn}
use Rattle.ssh_model.specs.Protocol.Sessions.Items.{Fact, Item, Item.Told, has_died}
use Rattle.ssh_model.specs.Protocol.Sessions.Parties.{Parties}
use Rattle.ssh_model.specs.Protocol.Sessions.Turns.{OnUnit}
use Rattle.ssh_model.specs.Protocol.Wire.Delivery.{Waits}
use Rattle.ssh_model.specs.State.End.Reading.{end_reading}
use Rattle.ssh_model.specs.declared.side.Side.{Side}

-- The bytes are no whole line or packet yet, and are kept. Or they are one, these items are a turn of the session for it, and nothing of it
-- is kept, unless the end is over.
pub data TurnFor {K : Type 0} (p : Parties K) (side : Side) (history : List Item) (bytes : List ℕ) (items : List Item) (kept : List ℕ) :
    Type 0 where
  waits : Waits (end_reading p side) history bytes → items ≡ [] → kept ≡ bytes → TurnFor p side history bytes items kept
  turns : OnUnit p side history bytes items → (has_died (items ++ history) ≡ false → kept ≡ []) → TurnFor p side history bytes items kept

-- From a history, and the bytes that the end kept then, these bytes were used with these items. They are one line or packet after another.
-- Each was a turn of the session of the parties of a book of verdicts: what the program had said before, and what it had said since then.
pub data WentBy {K B V : Type 0} (parties : B → Parties K) (listed : B → List V) (side : Side) (history : List Item) (kept : List ℕ)
    (said : List V) : (bytes : List ℕ) → (items : List Item) → (kept_now : List ℕ) → (said_now : List V) → Type 0 where
  nowhere : WentBy parties listed side history kept said [] [] kept said
  on : (bytes unit : List ℕ) (items added : List Item) (kept_then kept_now : List ℕ) (said_then verdicts : List V) (book : B) →
      WentBy parties listed side history kept said bytes items kept_then said_then → listed book ≡ said_then ++ verdicts →
      TurnFor (parties book) side (items ++ history) (kept_then ++ unit) added kept_now →
      WentBy parties listed side history kept said (bytes ++ unit) (added ++ items) kept_now (listed book)

-- One such fact is told among these items.
pub record IsOneTold {A : Type 0} (fact : A → Fact) (items : List Item) : Type 0 where
  pub what : A
  pub told : IsIn (Told (fact what)) items

-- The answer is yes if one such fact is told among these items, and no if none is.
pub record SaysWhether {A : Type 0} (fact : A → Fact) (items : List Item) (answer : Bool) : Type 0 where
  pub yes : answer ≡ true → IsOneTold fact items
  pub no : answer ≡ false → (what : A) → IsIn (Told (fact what)) items → ⊥
