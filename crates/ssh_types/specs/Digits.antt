-- The bytes of a whole number, with a zero byte in front of them kept apart as a mark.
use Rattle.std.specs.Prelude.{ℕ, Bool, true, false, nat_lt, nat_le, ◌==◌, if◌then◌else◌, List, [], ◌∷◌}

-- the bytes, with one zero byte in front if they are marked
abbrev pub marked_bytes : Bool → List ℕ → List ℕ
marked_bytes true digits = 0 ∷ digits
marked_bytes false digits = digits

-- No byte can be left out. The mark stands only before a first byte from 128 on. Without it the first byte isn't 0,
-- and isn't 255 before one from 128 on.
abbrev pub is_canonical : Bool → List ℕ → Bool
is_canonical true [] = false
is_canonical true (b ∷ bs) = nat_le 128 b
is_canonical false [] = true
is_canonical false (b ∷ []) = nat_lt 0 b
is_canonical false (b ∷ c ∷ cs) = if nat_lt c 128 then nat_lt 0 b else (if nat_lt 0 b then nat_lt b 255 else false)

abbrev pub starts_with_zero : List ℕ → Bool
starts_with_zero [] = false
starts_with_zero (b ∷ bs) = b == 0
