-- What holds of any value.
use mathlib.Core.Path.{subst, sym}
use Rattle.std.specs.Prelude.{◌≡◌, IfSome, Option, None, Some}

-- What holds of a value holds where an option has that value.
pub where_same : {A : Type 0} (P : A → Type 0) {value : A} → P value → (kept : Option A) → IfSome kept (λ it. it ≡ value) → IfSome kept P
where_same P known None is = tt
where_same P known (Some it) is = subst P (sym is) known
