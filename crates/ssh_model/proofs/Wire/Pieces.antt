-- The cutting of a stream into pieces doesn't matter where no unit is a beginning of another.
use Rattle.std.proofs.Common.{◌≡◌, ℕ, List, [], ◌∷◌, ◌++◌, ◌⊎◌, inl, inr, refl, ap, sym, ◌∙◌, append_assoc, ◌↔◌, subst}
use Rattle.ssh_model.specs.Protocol.Wire.Delivery.{Rules, Waits, Delivered, Delivered.dead, Delivered.waits, Delivered.takes}
use Rattle.ssh_model.specs.Laws.Delivery.{IsAlone, IsStill, InPieces}
use Rattle.ssh_model.proofs.Wire.Lists.{cut}

module _ {History : Type 0} (rules : Rules History) (alone : IsAlone rules) (still : IsStill rules) where
  -- what waits with more bytes waits with fewer
  waits_less : (h : History) (p q : List ℕ) → Waits rules h (p ++ q) → Waits rules h p
  waits_less h p q w u v e n = w u (v ++ q) (sym (append_assoc u v q) ∙ ap (λ l. l ++ q) e) n

  -- a part of a unit waits
  part_waits : (h : History) (p u : List ℕ) (y : ℕ) (x : List ℕ) → p ++ y ∷ x ≡ u → rules.Ends h u → Waits rules h p
  part_waits h p u y x e n a v f m =
      let z : v ++ y ∷ x ≡ [] = alone h a (v ++ y ∷ x) u m n (sym (append_assoc a v (y ∷ x)) ∙ ap (λ l. l ++ y ∷ x) f ∙ e) in
      not_nil v z
    where
      not_nil : (v : List ℕ) → v ++ y ∷ x ≡ [] → ⊥
      not_nil [] z = cc z
      not_nil (b ∷ v) z = cc z

  in_pieces : (h k : History) (p q b rest : List ℕ) → b ≡ p ++ q → Delivered rules h b k rest → InPieces rules h p q k rest
  in_pieces h k p q b rest e (dead _ d) = record { between = h; left = []; first = dead p d; second = dead q d }
  in_pieces h k p q b rest e (waits alive w) =
      let P : List ℕ → Type 0 = λ l. Delivered rules h l h b in
      let Q : List ℕ → Type 0 = λ l. Waits rules h l in
      record { between = h; left = p; first = waits alive (waits_less h p q (subst Q e w)); second = subst P e (waits alive w) }
  in_pieces h k p q b rest e (takes {next = g} u more f n a d) =
      go (cut u more p q (f ∙ e)) (λ x z. in_pieces g k x q more rest z d)
    where
      go : ((x : List ℕ) × (u ++ x ≡ p) × (more ≡ x ++ q)) ⊎ ((y : ℕ) × (x : List ℕ) × (p ++ y ∷ x ≡ u)) →
          ((x : List ℕ) → more ≡ x ++ q → InPieces rules g x q k rest) → InPieces rules h p q k rest
      go (inl w) before = let i = before w.0 w.2 in record { between = i.between; left = i.left; first = takes u w.0 w.1 n a i.first; second = i.second }
      go (inr w) before =
          let P : List ℕ → Type 0 = λ l. Delivered rules h l k rest in
          record { between = h; left = p; first = waits (λ z. still h u z n) (part_waits h p u w.0 w.1 w.2 n); second = subst P e (takes u more f n a d) }

  still_dead : (h k : History) (p q rest : List ℕ) → rules.Dead h → Delivered rules h q k rest → Delivered rules h (p ++ q) k rest
  still_dead h k p q rest z (dead _ d) = dead (p ++ q) d
  still_dead h k p q rest z (waits alive w) = absurd (alive z)
  still_dead h k p q rest z (takes u more f n a d) = absurd (still h u z n)

  at_once : (h k g : History) (p q left rest : List ℕ) → Delivered rules h p g left → Delivered rules g (left ++ q) k rest → Delivered rules h (p ++ q) k rest
  at_once h k g p q left rest (dead _ d) s = still_dead h k p q rest d s
  at_once h k g p q left rest (waits alive w) s = s
  at_once h k g p q left rest (takes u more f n a d) s = takes u (more ++ q) (sym (append_assoc u more q) ∙ ap (λ l. l ++ q) f) n a (at_once _ k g more q left rest d s)

  pub same_in_pieces : (h k : History) (p q rest : List ℕ) → Delivered rules h (p ++ q) k rest ↔ InPieces rules h p q k rest
  same_in_pieces h k p q rest = ((λ d. in_pieces h k p q (p ++ q) rest refl d), (λ i. at_once h k i.between p q i.left rest i.first i.second))
