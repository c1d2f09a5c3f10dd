-- A table of all numbers that an end gives over a slab, as one list.
use Rattle.std.specs.Prelude.{◌≡◌, ℕ, List, length, map, Option, None, Some, IsSome, option_map, count_by, is_some}
use Rattle.slab.specs.Slab.{Slab, get, slab_len}
use Rattle.ssh_model.specs.Protocol.Bounds.{most_channels}
use Rattle.ssh_model.specs.State.Channels.Places.{at}

-- the entry under the key of a number
abbrev pub found : {A B : Type 0} → (A → B) → Slab A → Option ℕ → Option B
found kept entries None = None
found kept entries (Some key) = option_map kept (get entries key)

unfoldable pub places : {A B : Type 0} → (A → B) → Slab A → List (Option ℕ) → List (Option B)
places kept entries keys = map (found kept entries) keys

-- Each key has an entry, no two numbers have one key, and there are as many entries as keys.
pub record IsTable {A : Type 0} (entries : Slab A) (keys : List (Option ℕ)) : Type 0 where
  pub size : length keys ≡ most_channels
  pub linked : (number key : ℕ) → at keys number ≡ Some key → IsSome (get entries key)
  pub single : (first second key : ℕ) → at keys first ≡ Some key → at keys second ≡ Some key → first ≡ second
  pub used : slab_len entries ≡ count_by is_some keys
