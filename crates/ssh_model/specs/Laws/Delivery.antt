-- When the pieces of a stream do not matter.
use Rattle.std.specs.Prelude.{List, [], ℕ, ◌++◌, ◌≡◌}
use Rattle.ssh_model.specs.Protocol.Wire.Delivery.{Rules, Delivered}

-- No unit is a prefix of another.
abbrev pub IsAlone : {History : Type 0} → Rules History → Type 0
IsAlone {History} rules =
    (h : History) (unit more other : List ℕ) → rules.Ends h unit → rules.Ends h other → unit ++ more ≡ other → more ≡ []

-- A dead end takes no unit.
abbrev pub IsStill : {History : Type 0} → Rules History → Type 0
IsStill {History} rules = (h : History) (unit : List ℕ) → rules.Dead h → rules.Ends h unit → ⊥

-- One piece is delivered and then another, in front of which stand the bytes that the first left.
pub record InPieces {History : Type 0} (rules : Rules History) (h : History) (one two : List ℕ) (last : History)
    (rest : List ℕ) : Type 0 where
  pub between : History
  pub left : List ℕ
  pub first : Delivered rules h one between left
  pub second : Delivered rules between (left ++ two) last rest
