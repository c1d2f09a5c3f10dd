-- A transcript next to the lines that a script expects of it.
use Rattle.std.specs.Prelude.{◌≡◌, ◌≢◌, ℕ, suc, ◌-◌, ◌≤◌, List, [], ◌∷◌, ◌++◌, length, take}
use Rattle.std.specs.Prelude.{string_bytes}
use Rattle.std.specs.declared.alloc.Global.{Global}
use Rattle.std.specs.declared.string.String.{String}
use Rattle.ssh_play.specs.declared.comparison.Comparison.{Comparison}
use Rattle.ssh_play.specs.declared.comparison.Comparison.TheVariants.{DiffersAt, Same}

-- lines, each with LF after it
abbrev pub text_of : List (String Global) → List ℕ
text_of [] = []
text_of (line ∷ lines) = string_bytes line ++ (10 ∷ text_of lines)

-- The line with this number, from 1, is the first in which the text is another one.
pub record Differs (text : List ℕ) (expected : List (String Global)) (at : ℕ) : Type 0 where
  pub some : 1 ≤ at
  pub most : at ≤ suc (length expected)
  pub before : (rest : List ℕ) × (text ≡ text_of (take (at - 1) expected) ++ rest)
  pub here : at ≤ length expected → (rest : List ℕ) → text ≢ text_of (take at expected) ++ rest
  pub longer : at ≡ suc (length expected) → text ≢ text_of expected

-- This is the result of comparing the text with the expected lines.
abbrev pub Compares : List ℕ → List (String Global) → Comparison → Type 0
Compares text expected (Same count) = (text ≡ text_of expected) × (count ≡ length expected)
Compares text expected (DiffersAt at) = Differs text expected at
