-- Nothing but the exchange goes or comes in the clear, a client trusts nobody unseen, and each exchange holds the end's
-- own, whoever the peer is and whatever the layers above the transport do.
use Rattle.std.proofs.Common.{sym, false, Bool, List, [], arith, eqb-true, inl, inr, length, nat_le, refl, subst, suc, true, zero, ℕ, ◌&&◌, ◌<◌, ◌==◌, ◌||◌, ◌∷◌, ◌≡◌, ◌≤◌, ◌⊎◌}
use Rattle.std.proofs.lemmas.Bool.{leb-true}
use Rattle.ssh_model.specs.declared.side.Side.{Side}
use Rattle.ssh_model.specs.declared.side.Side.TheVariants.{Client, Server}
use Rattle.ssh_model.specs.Protocol.Wire.Message.{Msg, Msg.KexInit, Msg.NewKeys, Msg.KexEcdhInit, Msg.KexEcdhReply, Msg.Unimplemented, Msg.UserauthSuccess, Msg.Unknown, message_number}
use Rattle.ssh_model.specs.Protocol.Sessions.Parties.{Parties, AreLawful}
use Rattle.ssh_model.specs.Protocol.Sessions.Items.{Item, Item.Sent, Item.Took, Item.TookGuess, sent, took, messages_sent}
use Rattle.ssh_model.specs.Protocol.Sessions.Epochs.{epoch}
use Rattle.ssh_model.specs.Protocol.KeyExchange.Exchanges.{offers}
use Rattle.ssh_model.specs.Protocol.Sessions.Phases.{Phase, Phase.Guessed, phase, blocked, awaited, is_generic_transport, may_take_in}
use Rattle.ssh_model.specs.Protocol.Sessions.Turns.{number_of}
use Rattle.ssh_model.specs.Protocol.Sessions.AnyLayers.{TransportRun}
use Rattle.ssh_model.specs.Protocol.Sessions.TurnClaims.{KeepsToExchange, is_sent_while_blocked}
use Rattle.ssh_model.specs.Protocol.Sessions.AnyPeer.{TakesOnlyAllowed, is_allowed_in_clear, is_service_number, HasServiceMessage, VerifiesEach, VerifiesHosts, EachIncludesOwn}
use Rattle.ssh_model.proofs.Sessions.Stages.{or_split, and_left, and_right}
use Rattle.ssh_model.proofs.Sessions.EndAnswers.{may_be}
use Rattle.ssh_model.proofs.Sessions.EndTurns.{run_keeps}
use Rattle.ssh_model.proofs.Sessions.Rules.{exchanges_length, took_following}
use Rattle.ssh_model.proofs.Sessions.EndKeeps.{AllNumbered}
use Rattle.ssh_model.proofs.Sessions.SoundTurns.{normal_keyed}
use Rattle.ssh_model.proofs.Sessions.Blocked.{run_keeps_to_exchange}
use Rattle.ssh_model.proofs.AnyPeer.Allowed.{clear_in}
use Rattle.ssh_model.proofs.AnyPeer.Keeps.{Grounds, TakenAt}
use Rattle.ssh_model.proofs.AnyPeer.Rows.{known}

-- ---- what is sent

-- an end is blocked from its first KEXINIT to its first NEWKEYS
pub blocked_at_first : (h : List Item) → epoch (sent h) ≡ 0 → 0 < length (offers (messages_sent h)) → blocked h ≡ true
blocked_at_first [] e n = absurd (omega (arith, n))
blocked_at_first (Sent c (KexInit o) b ∷ h) e n = refl
blocked_at_first (Sent c NewKeys b ∷ h) e n = absurd (omega (arith, e))
blocked_at_first (Sent c m b ∷ h) e n = blocked_at_first h e n
blocked_at_first (i ∷ h) e n = blocked_at_first h e n

-- what goes and comes before there is a key
abbrev InClear : Side → List Item → Type 0
InClear side [] = Unit {0}
InClear side (Sent c m b ∷ h) = (epoch (sent h) ≡ 0 → is_sent_while_blocked (message_number m) ≡ true) × InClear side h
InClear side (Took c m b ∷ h) = (epoch (took h) ≡ 0 → is_allowed_in_clear side (message_number m) ≡ true) × InClear side h
InClear side (_ ∷ h) = InClear side h

taken_only : (side : Side) (h : List Item) → InClear side h → TakesOnlyAllowed side h
taken_only side [] k = tt
taken_only side (Sent c m b ∷ h) k = taken_only side h k.1
taken_only side (Took c m b ∷ h) k = (k.0, taken_only side h k.1)
taken_only side (i ∷ h) k = taken_only side h k

-- ---- numbers of services and above

keyed_then : (e : ℕ) → (e ≡ 0 → ⊥) → 0 < e
keyed_then zero f = absurd (f refl)
keyed_then (suc e) f = omega arith

abbrev InService : ℕ → Type 0
InService n = ((5 ≤ n) × (n ≤ 7)) ⊎ (50 ≤ n)

service_range : (n : ℕ) → is_service_number n ≡ true → InService n
service_range n e = go (or_split (nat_le 5 n && nat_le n 7) (nat_le 50 n) e)
  where
    go : ((nat_le 5 n && nat_le n 7) ≡ true) ⊎ (nat_le 50 n ≡ true) → InService n
    go (inl x) = inl (leb-true 5 n (and_left (nat_le 5 n) (nat_le n 7) x), leb-true n 7 (and_right (nat_le 5 n) (nat_le n 7) x))
    go (inr x) = inr (leb-true 50 n x)

-- below them, or from 20 to 49
abbrev OutOfService : ℕ → Type 0
OutOfService n = (n ≤ 4) ⊎ ((20 ≤ n) × (n ≤ 49))

not_both_ranges : (n : ℕ) → InService n → OutOfService n → ⊥
not_both_ranges n (inl a) (inl b) = omega (arith, a.0, b)
not_both_ranges n (inl a) (inr b) = omega (arith, a.1, b.0)
not_both_ranges n (inr a) (inl b) = omega (arith, a, b)
not_both_ranges n (inr a) (inr b) = omega (arith, a, b.1)

is_one : (n k : ℕ) → OutOfService k → (n == k) ≡ true → OutOfService n
is_one n k o e = subst OutOfService (sym (eqb-true n k e)) o

blocked_range : (n : ℕ) → is_sent_while_blocked n ≡ true → OutOfService n
blocked_range n e = a (or_split (n == 1 || n == 3 || n == 20 || n == 21 || n == 30) (n == 31) e)
  where
    d : ((n == 1) ≡ true) ⊎ ((n == 3) ≡ true) → OutOfService n
    d (inl x) = is_one n 1 (inl (omega arith)) x
    d (inr x) = is_one n 3 (inl (omega arith)) x

    c : ((n == 1 || n == 3) ≡ true) ⊎ ((n == 20) ≡ true) → OutOfService n
    c (inl x) = d (or_split (n == 1) (n == 3) x)
    c (inr x) = is_one n 20 (inr (omega arith, omega arith)) x

    b : ((n == 1 || n == 3 || n == 20) ≡ true) ⊎ ((n == 21) ≡ true) → OutOfService n
    b (inl x) = c (or_split (n == 1 || n == 3) (n == 20) x)
    b (inr x) = is_one n 21 (inr (omega arith, omega arith)) x

    f : ((n == 1 || n == 3 || n == 20 || n == 21) ≡ true) ⊎ ((n == 30) ≡ true) → OutOfService n
    f (inl x) = b (or_split (n == 1 || n == 3 || n == 20) (n == 21) x)
    f (inr x) = is_one n 30 (inr (omega arith, omega arith)) x

    a : ((n == 1 || n == 3 || n == 20 || n == 21 || n == 30) ≡ true) ⊎ ((n == 31) ≡ true) → OutOfService n
    a (inl x) = f (or_split (n == 1 || n == 3 || n == 20 || n == 21) (n == 30) x)
    a (inr x) = is_one n 31 (inr (omega arith, omega arith)) x

not_blocked : (n : ℕ) → InService n → is_sent_while_blocked n ≡ true → ⊥
not_blocked n s e = not_both_ranges n s (blocked_range n e)

awaited_range : (side : Side) → OutOfService (awaited side)
awaited_range Client = inr (omega arith, omega arith)
awaited_range Server = inr (omega arith, omega arith)

clear_range : (side : Side) (n : ℕ) → is_allowed_in_clear side n ≡ true → OutOfService n
clear_range side n e = a (or_split (is_generic_transport n || n == 20 || n == 21) (n == awaited side) e)
  where
    c : (is_generic_transport n ≡ true) ⊎ ((n == 20) ≡ true) → OutOfService n
    c (inl x) = inl (leb-true n 4 (and_right (nat_le 1 n) (nat_le n 4) x))
    c (inr x) = is_one n 20 (inr (omega arith, omega arith)) x

    b : ((is_generic_transport n || n == 20) ≡ true) ⊎ ((n == 21) ≡ true) → OutOfService n
    b (inl x) = c (or_split (is_generic_transport n) (n == 20) x)
    b (inr x) = is_one n 21 (inr (omega arith, omega arith)) x

    a : ((is_generic_transport n || n == 20 || n == 21) ≡ true) ⊎ ((n == awaited side) ≡ true) → OutOfService n
    a (inl x) = b (or_split (is_generic_transport n || n == 20) (n == 21) x)
    a (inr x) = is_one n (awaited side) (awaited_range side) x

not_clear : (side : Side) (n : ℕ) → InService n → is_allowed_in_clear side n ≡ true → ⊥
not_clear side n s e = not_both_ranges n s (clear_range side n e)

guess_range : (ph : Phase) (r : Bool) (side : Side) (h : List Item) (n : ℕ) → ph ≡ Guessed → may_take_in ph r side h n ≡ true → (30 ≤ n) × (n ≤ 49)
guess_range ph r side h n e m =
    let f : (nat_le 30 n && nat_le n 49) ≡ true = subst (λ x. may_take_in x r side h n ≡ true) e m in
    (leb-true 30 n (and_left (nat_le 30 n) (nat_le n 49) f), leb-true n 49 (and_right (nat_le 30 n) (nat_le n 49) f))

not_guess : (n : ℕ) → InService n → (30 ≤ n) × (n ≤ 49) → ⊥
not_guess n s g = not_both_ranges n s (inr (omega (arith, g.0), g.1))

module _ {K : Type 0} (p : Parties K) where
  clear_taken : (side : Side) (h : List Item) (m : Msg) (b : List ℕ) → TakenAt false p side h m b → epoch (took h) ≡ 0 → is_allowed_in_clear side (message_number m) ≡ true
  clear_taken side h m b (inr w) z = absurd (omega (arith, z, normal_keyed p side h w.1.above.normal))
  clear_taken side h m b (inl w) z =
      clear_in (phase p side h) _ side h (message_number m) z w.welcome.no_guess (λ f. omega (arith, z, normal_keyed p side h f)) (may_be p side h m b w.welcome)

  clears : (side : Side) (h : List Item) → Grounds false p side h → KeepsToExchange h → InClear side h
  clears side [] g k = tt
  clears side (Sent c (KexInit o) b ∷ h) g k = (λ e. refl, clears side h g.1 k.1)
  clears side (Sent c NewKeys b ∷ h) g k = (λ e. refl, clears side h g.1 k.1)
  clears side (Sent c (KexEcdhInit q) b ∷ h) g k = (λ e. refl, clears side h g.1 k.1)
  clears side (Sent c (KexEcdhReply y q s) b ∷ h) g k = (λ e. refl, clears side h g.1 k.1)
  clears side (Sent c (Unimplemented n) b ∷ h) g k = (λ e. refl, clears side h g.1 k.1)
  clears side (Sent c (Unknown n) b ∷ h) g k = (λ e. k.0 (blocked_at_first h e g.0.0), clears side h g.1 k.1)
  clears side (Sent c UserauthSuccess b ∷ h) g k = (λ e. k.0 (blocked_at_first h e g.0.0), clears side h g.1 k.1)
  clears side (Sent c m b ∷ h) g k = (λ e. k.0 (blocked_at_first h e g.0), clears side h g.1 k.1)
  clears side (Took c m b ∷ h) g k = (λ e. clear_taken side h m b g.0 e, clears side h g.1 k)
  clears side (i ∷ h) g k = clears side h g.1 k

  -- ---- messages of services and above

  service_sent : (side : Side) (h : List Item) → AllNumbered h → InClear side h → HasServiceMessage (sent h) → 0 < epoch (sent h)
  service_sent side [] f k s = elim s [ ]
  service_sent side (Sent c NewKeys b ∷ h) f k s = omega arith
  service_sent side (Sent c m b ∷ h) f k (inl s) =
      let it : is_service_number (message_number m) ≡ true = subst (λ n. is_service_number n ≡ true) f.0 s in
      keyed_then (epoch (sent h)) (λ e. not_blocked (message_number m) (service_range (message_number m) it) (k.0 e))
  service_sent side (Sent c m b ∷ h) f k (inr s) = service_sent side h f.1 k.1 s
  service_sent side (Took c m b ∷ h) f k s = service_sent side h f.1 k.1 s
  service_sent side (i ∷ h) f k s = service_sent side h f.1 k s

  service_taken : (side : Side) (h : List Item) → AllNumbered h → Grounds false p side h → InClear side h → HasServiceMessage (took h) → 0 < epoch (took h)
  service_taken side [] f g k s = elim s [ ]
  service_taken side (Took c NewKeys b ∷ h) f g k s = omega arith
  service_taken side (Took c m b ∷ h) f g k (inl s) =
      let it : is_service_number (message_number m) ≡ true = subst (λ n. is_service_number n ≡ true) f.0 s in
      keyed_then (epoch (took h)) (λ e. not_clear side (message_number m) (service_range (message_number m) it) (k.0 e))
  service_taken side (Took c m b ∷ h) f g k (inr s) = service_taken side h f.1 g.1 k.1 s
  service_taken side (TookGuess b ∷ h) f g k (inl s) = absurd (not_guess (number_of b) (service_range (number_of b) s) (guess_range (phase p side h) _ side h (number_of b) g.0.guessed g.0.may))
  service_taken side (TookGuess b ∷ h) f g k (inr s) = service_taken side h f.1 g.1 k s
  service_taken side (Sent c m b ∷ h) f g k s = service_taken side h f.1 g.1 k.1 s
  service_taken side (i ∷ h) f g k s = service_taken side h f.1 g.1 k s

  trusts : (h : List Item) → Grounds false p Client h → VerifiesEach p h
  trusts [] g = tt
  trusts (Sent c NewKeys b ∷ h) g = (g.0.proven, trusts h g.1)
  trusts (Sent c m b ∷ h) g = trusts h g.1
  trusts (i ∷ h) g = trusts h g.1

  holds_own : (side : Side) (h : List Item) → Grounds false p side h → EachIncludesOwn p side h
  holds_own side [] g = tt
  holds_own side (Sent c NewKeys b ∷ h) g = (g.0.own, holds_own side h g.1)
  holds_own side (Sent c m b ∷ h) g = holds_own side h g.1
  holds_own side (i ∷ h) g = holds_own side h g.1

module _ {K : Type 0} (p : Parties K) (laws : AreLawful p) where
  pub each_includes_own : (side : Side) (h : List Item) → TransportRun p side h → EachIncludesOwn p side h
  each_includes_own side h r = holds_own p side h (known p laws side h r).grounds

  in_clear : (side : Side) (h : List Item) → TransportRun p side h → InClear side h
  in_clear side h r = clears p side h (known p laws side h r).grounds (run_keeps_to_exchange p laws side h r)

  pub takes_only_allowed : (side : Side) (h : List Item) → TransportRun p side h → TakesOnlyAllowed side h
  takes_only_allowed side h r = taken_only side h (in_clear side h r)

  pub verifies_hosts : (h : List Item) → TransportRun p Client h → VerifiesHosts p h
  verifies_hosts h r = record { each = trusts p h grounds; messages = λ s. omega (arith, after s, exchanges_length p Client h) }
    where
      grounds : Grounds false p Client h
      grounds = (known p laws Client h r).grounds

      after : (HasServiceMessage (sent h) ⊎ HasServiceMessage (took h)) → 0 < epoch (sent h)
      after (inl s) = service_sent p Client h (run_keeps p laws Client h r).numbered (in_clear Client h r) s
      after (inr s) =
          let n = service_taken p Client h (run_keeps p laws Client h r).numbered grounds (in_clear Client h r) s in
          omega (arith, n, took_following p Client h (run_keeps p laws Client h r).rules)
