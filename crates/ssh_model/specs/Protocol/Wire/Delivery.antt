-- How a delivered piece of the byte stream changes an end, whatever its units are (own).
use Rattle.std.specs.Prelude.{◌≡◌, ℕ, List, [], ◌++◌}

-- The rules of one end, by its history. `Ends` says which bytes are a unit, or a prefix that is refused. `After` gives
-- the history after these bytes. `Dead` says which histories are of dead ends.
pub record Rules (History : Type 0) : Type 1 where
  pub Ends : History → List ℕ → Type 0
  pub After : History → List ℕ → History → Type 0
  pub Dead : History → Type 0

-- No prefix of the bytes is a unit, and none is refused.
abbrev pub Waits : {History : Type 0} → Rules History → History → List ℕ → Type 0
Waits rules h bytes = (unit more : List ℕ) → unit ++ more ≡ bytes → rules.Ends h unit → ⊥

-- From a history, with bytes that the end has not used, to the history that it reaches when it can use no more of them, and
-- the bytes that are then left. A dead end keeps no bytes.
pub data Delivered {History : Type 0} (rules : Rules History) : History → List ℕ → History → List ℕ → Type 0 where
  dead : {h : History} (bytes : List ℕ) → rules.Dead h → Delivered rules h bytes h []
  waits : {h : History} {bytes : List ℕ} → (rules.Dead h → ⊥) → Waits rules h bytes → Delivered rules h bytes h bytes
  takes : {h next last : History} {bytes rest : List ℕ} (unit more : List ℕ) → unit ++ more ≡ bytes →
      rules.Ends h unit → rules.After h unit next →
      Delivered rules next more last rest → Delivered rules h bytes last rest
