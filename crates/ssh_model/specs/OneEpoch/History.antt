-- The items of the two ends of one sealed epoch, in one list with their sides. The newest item comes first, so that
-- "earlier" means the tail.
use Rattle.std.specs.Prelude.{◌≡◌, ℕ, List, [], ◌∷◌, length, reverse, ◌⊎◌, Bool, true, false}
use Rattle.ssh_model.specs.declared.ask_refusal.AskRefusal.{AskRefusal}
use Rattle.ssh_model.specs.declared.refusal.Refusal.{Refusal}
use Rattle.ssh_model.specs.declared.side.Side.{Side}
use Rattle.ssh_model.specs.Protocol.Side.{DoneBy, DoneBy.By, part, peer}
use Rattle.ssh_model.specs.Protocol.Lists.{IsPrefix}

-- An item of one end. A payload is its bytes: one epoch says nothing of messages.
pub data Item : Type 0 where
  Asked : Item
  AskRefused : AskRefusal → Item
  Sent : List ℕ → Item
  Took : List ℕ → Item
  Refused : Refusal → Item
  Died : Item

-- an item of one side
abbrev pub Done : Type 0
Done = DoneBy Item

-- the payloads that an end sent
abbrev pub sent : List Item → List (List ℕ)
sent [] = []
sent (Sent p ∷ h) = p ∷ sent h
sent (_ ∷ h) = sent h

-- the payloads that an end took
abbrev pub took : List Item → List (List ℕ)
took [] = []
took (Took p ∷ h) = p ∷ took h
took (_ ∷ h) = took h

-- The end died.
abbrev pub has_died : List Item → Bool
has_died [] = false
has_died (Died ∷ h) = true
has_died (_ ∷ h) = has_died h

-- Among these payloads, the newest first, this one has the number n: n of them are older.
abbrev pub HasNumber : List ℕ → ℕ → List (List ℕ) → Type 0
HasNumber payload n [] = ⊥
HasNumber payload n (p ∷ older) = ((payload ≡ p) × (n ≡ length older)) ⊎ HasNumber payload n older

-- Each payload that was taken had been sent by the peer under the same number, earlier.
abbrev pub IsHonestEpoch : List Done → Type 0
IsHonestEpoch [] = Unit {0}
IsHonestEpoch (By side (Took p) ∷ run) =
    HasNumber p (length (took (part side run))) (sent (part (peer side) run)) × IsHonestEpoch run
IsHonestEpoch (_ ∷ run) = IsHonestEpoch run

-- The payloads that each side took are a prefix of those that the other sent, both in the order of time.
abbrev pub TakenInOrder : List Done → Type 0
TakenInOrder run = (side : Side) → IsPrefix (reverse (took (part side run))) (reverse (sent (part (peer side) run)))
