use Rattle.std.proofs.Common.{◌≡◌, ℕ, ◌+◌, ◌==◌, true, List, [], ◌∷◌, length, take, refl, ap, sym, ◌∙◌, arith}
use Rattle.std.proofs.lemmas.Bool.{eqb-true}
use Rattle.ssh_transport_machine.proofs.machine.sharing.point_in.Goals as goal

take_all : (l : List ℕ) → take (length l) l ≡ l
take_all [] = refl
take_all (x ∷ l) = ap (λ (t : List ℕ). x ∷ t) (take_all l)

whole : (rest bytes : List ℕ) → length rest + 32 ≡ length bytes → (length rest == 0) ≡ true → take 32 bytes ≡ bytes
whole rest bytes n e =
    let z : length rest ≡ 0 = eqb-true (length rest) 0 e in
    let m : 32 ≡ length bytes = omega arith in
    ap (λ (k : ℕ). take k bytes) m ∙ take_all bytes

pub returns-then-is_empty-clause-same : goal.returns-then-is_empty-clause-same
returns-then-is_empty-clause-same c =
    c.in_ok-point.ensures.cases.0 ∙ whole c.in_ok-point.rest.now c.args.bytes.now c.in_ok-point.ensures.cases.2 (sym c.is_empty.ensures ∙ c.if-is_empty.true)
