-- The names between the commas of a text.
use Rattle.std.specs.Prelude.{◌≡◌, ℕ, Bool, true, List, [], ◌∷◌, ◌++◌, Result, OnOk}
use Rattle.std.specs.List.{slice_split, list_all}
use Rattle.ssh_model.specs.Protocol.Wire.DataTypes.{is_comma, is_name}

-- the names of a text; the empty text has none
abbrev pub names_of : List ℕ → List (List ℕ)
names_of [] = []
names_of (c ∷ cs) = slice_split is_comma (c ∷ cs)

abbrev pub are_names : List ℕ → Bool
are_names text = list_all is_name (names_of text)

-- The text after a name was added to a text of names, or was refused.
pub record Pushes {X Y : Type 0} (result : Result X Y) (text name new : List ℕ) : Type 0 where
  pub names : are_names new ≡ true
  pub pushed : OnOk result (names_of new ≡ names_of text ++ name ∷ [])
