-- What is told of the next packet before it is taken.
use Rattle.std.proofs.Common.{◌≡◌, ℕ, ◌≤◌, ◌^◌, List, [], ◌++◌, length, take, drop, Option, None, refl, sym, ap, subst, ◌∙◌, arith, append_assoc, append-nil, inl, inr}
use Rattle.std.proofs.lemmas.Bool.{cases_lt}
use Rattle.std.proofs.lemmas.List.{take-append-drop, take-take}
use Rattle.ssh_model.specs.Protocol.Wire.Outcome.{Outcome, Outcome.Opens, Outcome.RefusedPacket}
use Rattle.ssh_model.specs.Protocol.Wire.Sealing.{Crypto}
use Rattle.ssh_model.specs.Protocol.Wire.Unit.{PacketUnit, PacketUnit.opens}
use Rattle.ssh_model.specs.Laws.Units.{IsPartialPacket}
use Rattle.ssh_model.specs.declared.refusal.Refusal.{Refusal}
use Rattle.ssh_packet.specs.Directions.{NextOpens, Receiver, Receives}
use Rattle.ssh_packet.specs.declared.step.PacketStep.{PacketStep}
use Rattle.ssh_packet.specs.declared.step.PacketStep.TheVariants.{Payload, More, Refused}

-- no unit is a prefix of another, and a unit has one outcome
pub record Alone {K : Type 0} (c : Crypto K) (key : Option K) (number count : ℕ) : Type 0 where
  pub alone : (unit more other : List ℕ) (a b : Outcome) → PacketUnit c key number count unit a →
      PacketUnit c key number count other b → unit ++ more ≡ other → more ≡ []
  pub outcome : (unit : List ℕ) (a b : Outcome) → PacketUnit c key number count unit a → PacketUnit c key number count unit b → a ≡ b
  pub begun : (bytes unit more : List ℕ) (a : Outcome) → IsPartialPacket c key count bytes → unit ++ more ≡ bytes →
      PacketUnit c key number count unit a → ⊥

module _ {K : Type 0} {c : Crypto K} {key : Option K} {number count : ℕ} (l : Alone c key number count) (held bytes : List ℕ) where
  longer : (m n : ℕ) → m ≤ n → (held ++ take m bytes) ++ drop m (take n bytes) ≡ held ++ take n bytes
  longer m n h =
      append_assoc held (take m bytes) (drop m (take n bytes))
      ∙ ap (λ (x : List ℕ). held ++ (x ++ drop m (take n bytes))) (sym (take-take m n bytes h))
      ∙ ap (λ (x : List ℕ). held ++ x) (take-append-drop m (take n bytes))

  same_to : (m n : ℕ) (a b : Outcome) → m ≤ n → PacketUnit c key number count (held ++ take m bytes) a →
      PacketUnit c key number count (held ++ take n bytes) b → held ++ take m bytes ≡ held ++ take n bytes
  same_to m n a b h u v =
      let none = l.alone (held ++ take m bytes) (drop m (take n bytes)) (held ++ take n bytes) a b u v (longer m n h) in
      sym (append-nil (held ++ take m bytes)) ∙ ap (λ (x : List ℕ). (held ++ take m bytes) ++ x) (sym none) ∙ longer m n h

  -- two units among the beginnings of the same bytes have one outcome
  pub one_outcome : (m n : ℕ) (a b : Outcome) → PacketUnit c key number count (held ++ take m bytes) a →
      PacketUnit c key number count (held ++ take n bytes) b → a ≡ b
  one_outcome m n a b u v = elim (cases_lt m n) [
    | inl less ↦ l.outcome (held ++ take m bytes) a b u
        (subst (λ (x : List ℕ). PacketUnit c key number count x b) (sym (same_to m n a b (omega (arith, less)) u v)) v)
    | inr more ↦ sym (l.outcome (held ++ take n bytes) b a v
        (subst (λ (x : List ℕ). PacketUnit c key number count x a) (sym (same_to n m b a (omega (arith, more)) v u)) u))
  ]

  -- bytes that begin with a unit are not a part of a packet
  pub none_in_part : (m n : ℕ) (a : Outcome) → m ≤ n → IsPartialPacket c key count (held ++ take n bytes) →
      PacketUnit c key number count (held ++ take m bytes) a → ⊥
  none_in_part m n a h b u = l.begun (held ++ take n bytes) (held ++ take m bytes) (drop m (take n bytes)) a b (longer m n h) u

-- What is told of the next packet is what is made of it.
module _ {K : Type 0} {c : Crypto K} {old : Receiver K} (l : Alone c old.direction.key old.direction.number old.direction.count)
    (bytes : List ℕ) (used : ℕ) (new : Receiver K) (payload : List ℕ) where
  pub taken_opens : (step : PacketStep Refusal) → (step ≡ More → used ≡ length bytes) →
      Receives c (old.buffered ++ take used bytes) old step new → NextOpens c old bytes payload →
      (step ≡ Payload) × (new.payload ≡ payload)
  taken_opens Payload all r n =
      let same : Opens new.payload ≡ Opens payload = one_outcome l old.buffered bytes used n.used _ _ r.0 n.opens in
      (refl, cc)
  taken_opens More all r n =
      absurd (none_in_part l old.buffered bytes n.used used _ (omega (arith, n.within, all refl)) r.0 n.opens)
  taken_opens (Refused why) all r n =
      let same : RefusedPacket why ≡ Opens payload = one_outcome l old.buffered bytes used n.used _ _ r.0 n.opens in
      absurd (cc)

  pub more_opens : used ≡ length bytes → Receives c (old.buffered ++ take used bytes) old More new → NextOpens c old bytes payload → ⊥
  more_opens all r n = none_in_part l old.buffered bytes n.used used _ (omega (arith, n.within, all)) r.0 n.opens

  pub refused_opens : (why : Refusal) → Receives c (old.buffered ++ take used bytes) old (Refused why) new → NextOpens c old bytes payload → ⊥
  refused_opens why r n =
      let same : RefusedPacket why ≡ Opens payload = one_outcome l old.buffered bytes used n.used _ _ r.0 n.opens in
      cc

pub none_opens : {K : Type 0} (c : Crypto K) (old new : Receiver K) (bytes : List ℕ) (used : ℕ) → used ≤ length bytes → old.ended ≡ None →
    ((payload : List ℕ) → NextOpens c old bytes payload → ⊥) → Receives c (old.buffered ++ take used bytes) old Payload new → ⊥
none_opens c old new bytes used most live none r =
    none new.payload (record { used = used; within = most; live = live; opens = r.0 })

-- where all numbers are taken
pub spent_opens : {K : Type 0} (c : Crypto K) (old : Receiver K) (bytes payload : List ℕ) → old.direction.count ≡ 2 ^ 32 →
    NextOpens c old bytes payload → ⊥
spent_opens c old bytes payload all n = elim n.opens [
  | opens it has are is ↦ omega (arith, has.0, all)
]
