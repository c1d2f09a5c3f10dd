-- The numbers and names of the refusals.
use Rattle.std.specs.Prelude.{ℕ, List, codes}
use Rattle.ssh_types.specs.declared.read_refusal.ReadRefusal.{ReadRefusal}
use Rattle.ssh_types.specs.declared.read_refusal.ReadRefusal.TheVariants.{Short, BadNames, NotCanonical, LeftOver}

abbrev pub refusal_number : ReadRefusal → ℕ
refusal_number Short = 1
refusal_number BadNames = 2
refusal_number NotCanonical = 3
refusal_number LeftOver = 4

abbrev pub refusal_name : ReadRefusal → List ℕ
refusal_name Short = codes "Short"
refusal_name BadNames = codes "BadNames"
refusal_name NotCanonical = codes "NotCanonical"
refusal_name LeftOver = codes "LeftOver"
