-- What may be taken before there is a key: the exchange and 1 to 4, whose numbers are all known.
use Rattle.std.proofs.Common.{◌≡◌, ℕ, zero, suc, ◌<◌, ◌⊎◌, inl, inr, refl, ap, sym, ◌∙◌, arith, List, nat_le, Bool, true, false, ◌||◌, ◌==◌, eqb-true}
use Rattle.std.proofs.lemmas.Bool.{leb-true}
use Rattle.ssh_model.specs.declared.side.Side.{Side}
use Rattle.ssh_model.specs.declared.side.Side.TheVariants.{Client, Server}
use Rattle.ssh_model.specs.Protocol.Wire.Message.{is_unknown}
use Rattle.ssh_model.specs.Protocol.Sessions.Items.{Item, took}
use Rattle.ssh_model.specs.Protocol.Sessions.Epochs.{epoch}
use Rattle.ssh_model.specs.Protocol.KeyExchange.Exchanges.{is_strict}
use Rattle.ssh_model.specs.Protocol.Sessions.Phases.{Phase, Phase.Start, Phase.Guessed, Phase.Exchanging, Phase.Keying, Phase.Normal, awaited, is_generic_transport, is_allowed_at_first, is_allowed_during_exchange, may_take_in}
use Rattle.ssh_model.specs.Protocol.Sessions.AnyPeer.{is_allowed_in_clear}
use Rattle.ssh_model.proofs.Wire.Payloads.{not_both}
use Rattle.ssh_model.proofs.Sessions.Stages.{or_split, and_right}

one_of : (side : Side) (n : ℕ) → (is_generic_transport n ≡ true) ⊎ ((n ≡ 20) ⊎ ((n ≡ 21) ⊎ (n ≡ awaited side))) → is_allowed_in_clear side n ≡ true
one_of side n (inl e) = rw e refl
one_of Client n (inr (inl e)) = rw e refl
one_of Server n (inr (inl e)) = rw e refl
one_of Client n (inr (inr (inl e))) = rw e refl
one_of Server n (inr (inr (inl e))) = rw e refl
one_of Client n (inr (inr (inr e))) = rw e refl
one_of Server n (inr (inr (inr e))) = rw e refl

first_general : (s : Bool) (n : ℕ) → is_allowed_at_first s n ≡ true → is_generic_transport n ≡ true
first_general true n e = rw (eqb-true n 1 e) refl
first_general false n e = e

exchange_general : (s : Bool) (e n : ℕ) → e ≡ 0 → is_allowed_during_exchange s e n ≡ true → is_generic_transport n ≡ true
exchange_general s zero n z a = first_general s n a
exchange_general s (suc e) n z a = absurd (omega (arith, z))

pub clear_in : (ph : Phase) (r : Bool) (side : Side) (h : List Item) (n : ℕ) → epoch (took h) ≡ 0 → (ph ≡ Guessed → ⊥) → (ph ≡ Normal → ⊥) → may_take_in ph r side h n ≡ true → is_allowed_in_clear side n ≡ true
clear_in Start r side h n z g k e = go (or_split (is_allowed_at_first r n) (n == 20) e)
  where
    go : (is_allowed_at_first r n ≡ true) ⊎ ((n == 20) ≡ true) → is_allowed_in_clear side n ≡ true
    go (inl x) = one_of side n (inl (first_general r n x))
    go (inr x) = one_of side n (inr (inl (eqb-true n 20 x)))
clear_in Guessed r side h n z g k e = absurd (g refl)
clear_in Exchanging r side h n z g k e = go (or_split (is_allowed_during_exchange (is_strict side h) (epoch (took h)) n) (n == awaited side) e)
  where
    go : (is_allowed_during_exchange (is_strict side h) (epoch (took h)) n ≡ true) ⊎ ((n == awaited side) ≡ true) → is_allowed_in_clear side n ≡ true
    go (inl x) = one_of side n (inl (exchange_general _ _ n z x))
    go (inr x) = one_of side n (inr (inr (inr (eqb-true n (awaited side) x))))
clear_in Keying r side h n z g k e = go (or_split (is_allowed_during_exchange (is_strict side h) (epoch (took h)) n) (n == 21) e)
  where
    go : (is_allowed_during_exchange (is_strict side h) (epoch (took h)) n ≡ true) ⊎ ((n == 21) ≡ true) → is_allowed_in_clear side n ≡ true
    go (inl x) = one_of side n (inl (exchange_general _ _ n z x))
    go (inr x) = one_of side n (inr (inr (inl (eqb-true n 21 x))))
clear_in Normal r side h n z g k e = absurd (k refl)

-- ---- all of these numbers are known

above_four : (k : ℕ) → nat_le (suc (suc (suc (suc (suc k))))) 4 ≡ true → ⊥
above_four k e = omega (arith, leb-true (suc (suc (suc (suc (suc k))))) 4 e)

general_known : (c : Bool) (n : ℕ) → is_generic_transport n ≡ true → is_unknown c n ≡ false
general_known c zero e = absurd (cc e)
general_known c (suc zero) e = refl
general_known c (suc (suc zero)) e = refl
general_known c (suc (suc (suc zero))) e = refl
general_known c (suc (suc (suc (suc zero)))) e = refl
general_known c (suc (suc (suc (suc (suc k))))) e =
    absurd (above_four k (and_right (nat_le 1 (suc (suc (suc (suc (suc k)))))) (nat_le (suc (suc (suc (suc (suc k))))) 4) e))

awaited_known : (c : Bool) (side : Side) → is_unknown c (awaited side) ≡ false
awaited_known c Client = refl
awaited_known c Server = refl

clear_known : (c : Bool) (side : Side) (n : ℕ) → is_allowed_in_clear side n ≡ true → is_unknown c n ≡ false
clear_known c side n e = third (or_split (is_generic_transport n || n == 20 || n == 21) (n == awaited side) e)
  where
    first : (is_generic_transport n ≡ true) ⊎ ((n == 20) ≡ true) → is_unknown c n ≡ false
    first (inl x) = general_known c n x
    first (inr x) = ap (is_unknown c) (eqb-true n 20 x)

    second : ((is_generic_transport n || n == 20) ≡ true) ⊎ ((n == 21) ≡ true) → is_unknown c n ≡ false
    second (inl x) = first (or_split (is_generic_transport n) (n == 20) x)
    second (inr x) = ap (is_unknown c) (eqb-true n 21 x)

    third : ((is_generic_transport n || n == 20 || n == 21) ≡ true) ⊎ ((n == awaited side) ≡ true) → is_unknown c n ≡ false
    third (inl x) = second (or_split (is_generic_transport n || n == 20) (n == 21) x)
    third (inr x) = ap (is_unknown c) (eqb-true n (awaited side) x) ∙ awaited_known c side

-- so an unknown one comes under a key
pub unknown_keyed : (c : Bool) (ph : Phase) (r : Bool) (side : Side) (h : List Item) (n : ℕ) → is_unknown c n ≡ true → (ph ≡ Guessed → ⊥) → (ph ≡ Normal → 0 < epoch (took h))
    → may_take_in ph r side h n ≡ true → 0 < epoch (took h)
unknown_keyed c ph r side h n u g k e = go (epoch (took h)) refl
  where
    go : (t : ℕ) → epoch (took h) ≡ t → 0 < epoch (took h)
    go zero z = absurd (not_both (sym u ∙ clear_known c side n (clear_in ph r side h n z g (λ f. omega (arith, z, k f)) e)))
    go (suc t) z = omega (arith, z)
