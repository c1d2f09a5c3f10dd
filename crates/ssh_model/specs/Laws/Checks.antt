-- If the checks refuse nothing, none of them holds.
use Rattle.std.proofs.Common.{◌≡◌, true, false, List, [], ◌∷◌, None, refl}
use Rattle.ssh_model.specs.Protocol.Sessions.Refusals.{Check, Check.RefusedWhere, first_refusal}

-- None of these checks holds.
abbrev pub AllPassed : {Why : Type 0} → List (Check Why) → Type 0
AllPassed [] = Unit {0}
AllPassed (RefusedWhere b n ∷ checks) = (b ≡ false) × AllPassed checks

-- checks that refuse nothing have all passed
pub all_passed : {Why : Type 0} → (checks : List (Check Why)) → first_refusal checks ≡ None → AllPassed checks
all_passed [] e = tt
all_passed (RefusedWhere true n ∷ checks) e = absurd (cc e)
all_passed (RefusedWhere false n ∷ checks) e = (refl, all_passed checks e)
