-- Truth values that mean the same.
use Rattle.std.proofs.Common.{◌≡◌, Bool, true, false, refl, sym, IsTrue}
use Rattle.std.specs.Prelude.{◌↔◌}

pub same_truth : (found computed : Bool) (There : Type 0) → (IsTrue found ↔ There) → (IsTrue computed ↔ There) → found ≡ computed
same_truth true true There f c = refl
same_truth true false There f c = sym (c.1 (f.0 refl))
same_truth false true There f c = f.1 (c.0 refl)
same_truth false false There f c = refl
