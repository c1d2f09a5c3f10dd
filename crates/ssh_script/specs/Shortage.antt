-- What a line means that wants more bytes than there are.
use Rattle.std.specs.Prelude.{ℕ, min}
use Rattle.ssh_script.specs.declared.shortage.Shortage.{Shortage}
use Rattle.ssh_script.specs.declared.shortage.Shortage.TheVariants.{Refused, Shortened}

-- how many bytes it means, of those that are there
abbrev pub meant : Shortage → ℕ → ℕ → ℕ
meant Refused wanted there = wanted
meant Shortened wanted there = min wanted there
