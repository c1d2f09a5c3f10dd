-- What is in front of a list.
use Rattle.std.proofs.Common.{◌≡◌, ℕ, List, [], ◌∷◌, ◌++◌, length, take, refl, ap, sym, ◌∙◌}
use Rattle.ssh_end_machine.specs.Owed.{Extends}

front_of : {A : Type 0} (l more : List A) → take (length l) (l ++ more) ≡ l
front_of [] more = refl
front_of (x ∷ l) more = ap (λ t. x ∷ t) (front_of l more)

pub front : {A : Type 0} (l both : List A) (n : ℕ) → length l ≡ n → Extends l both → take n both ≡ l
front l both n size x = ap (λ k. take k both) (sym size) ∙ (ap (take (length l)) x.parts ∙ front_of l x.more)
