-- Which phases let the messages of an exchange be taken, and the numbers of authentication and of the connection.
use Rattle.std.proofs.Common.{◌≡◌, ℕ, zero, suc, ◌<◌, ◌≤◌, List, ◌⊎◌, inl, inr, refl, arith, Bool, true, false, not, nat_le, nat_lt, is_some, eqb-true, ◌||◌, ◌&&◌, ◌==◌}
use Rattle.ssh_model.specs.declared.side.Side.{Side}
use Rattle.ssh_model.specs.declared.side.Side.TheVariants.{Client, Server}
use Rattle.ssh_model.specs.Protocol.Sessions.Items.{Item, took}
use Rattle.std.proofs.lemmas.Bool.{leb-true, ltb-true}
use Rattle.ssh_model.specs.Protocol.Wire.Message.{is_known}
use Rattle.ssh_model.specs.Protocol.Sessions.Epochs.{epoch}
use Rattle.ssh_model.specs.Protocol.KeyExchange.Exchanges.{is_strict}
use Rattle.ssh_model.specs.Protocol.Sessions.Phases.{Phase, Phase.Start, Phase.Guessed, Phase.Exchanging, Phase.Keying, Phase.Normal, is_generic_transport, is_allowed_at_first, is_allowed_during_exchange, may_take_extensions, awaited, may_take_in, may_take_normally, may_take_service, is_normal, is_connection, is_unassigned, authenticated, outstanding, probing, sent_service_request, took_service_request, sent_service_accept, took_service_accept, took_success}
use Rattle.ssh_model.proofs.Sessions.EndKeeps.{InStep, Heard}

-- besides what is awaited no message of an exchange is taken
allowed_20 : (s : Bool) (e : ℕ) → is_allowed_during_exchange s e 20 ≡ true → ⊥
allowed_20 true zero e = cc e
allowed_20 false zero e = cc e
allowed_20 s (suc n) e = cc e

allowed_21 : (s : Bool) (e : ℕ) → is_allowed_during_exchange s e 21 ≡ true → ⊥
allowed_21 true zero e = cc e
allowed_21 false zero e = cc e
allowed_21 s (suc n) e = cc e

allowed_30 : (s : Bool) (e : ℕ) → is_allowed_during_exchange s e 30 ≡ true → ⊥
allowed_30 true zero e = cc e
allowed_30 false zero e = cc e
allowed_30 s (suc n) e = cc e

allowed_31 : (s : Bool) (e : ℕ) → is_allowed_during_exchange s e 31 ≡ true → ⊥
allowed_31 true zero e = cc e
allowed_31 false zero e = cc e
allowed_31 s (suc n) e = cc e

not_first_21 : (r : Bool) → (is_allowed_at_first r 21 || false) ≡ true → ⊥
not_first_21 true e = cc e
not_first_21 false e = cc e

only_left : (a b : Bool) → b ≡ false → (a || b) ≡ true → a ≡ true
only_left true b f e = refl
only_left false b f e = absurd (cc (f, e))

-- a KEXINIT is taken only while both epochs are the same
pub level_at_20 : (ph : Phase) (r : Bool) (side : Side) (h : List Item) (out : Bool) (s t : ℕ) → may_take_in ph r side h 20 ≡ true → InStep ph out s t → s ≡ t
level_at_20 Start r side h out s t e i = i.1
level_at_20 Guessed r side h out s t e i = i.1
level_at_20 Exchanging r side h out s t e i = i.1
level_at_20 Keying r side h out s t e i = absurd (allowed_20 _ _ (only_left _ false refl e))
level_at_20 Normal r side h out s t e i = i

-- message 30 at a server and 31 at a client are taken only while the end is blocked and both epochs are the same
pub level_at_30 : (ph : Phase) (r : Bool) (h : List Item) (out : Bool) (s t : ℕ) → may_take_in ph r Server h 30 ≡ true → InStep ph out s t → (out ≡ true) × (s ≡ t)
level_at_30 Start r h out s t e i = i
level_at_30 Guessed r h out s t e i = i
level_at_30 Exchanging r h out s t e i = i
level_at_30 Keying r h out s t e i = absurd (allowed_30 _ _ (only_left _ false refl e))
level_at_30 Normal r h out s t e i = absurd (cc e)

pub level_at_31 : (ph : Phase) (r : Bool) (h : List Item) (out : Bool) (s t : ℕ) → may_take_in ph r Client h 31 ≡ true → InStep ph out s t → (out ≡ true) × (s ≡ t)
level_at_31 Start r h out s t e i = i
level_at_31 Guessed r h out s t e i = i
level_at_31 Exchanging r h out s t e i = i
level_at_31 Keying r h out s t e i = absurd (allowed_31 _ _ (only_left _ false refl e))
level_at_31 Normal r h out s t e i = absurd (cc e)

not_awaited_21 : (side : Side) → (21 == awaited side) ≡ false
not_awaited_21 Client = refl
not_awaited_21 Server = refl

not_normal_21 : (side : Side) (h : List Item) → may_take_normally side h 21 ≡ true → ⊥
not_normal_21 Client h e = cc e
not_normal_21 Server h e = cc e

-- NEWKEYS is taken only when the end has sent one more, and is not blocked
pub ahead_at_21 : (ph : Phase) (r : Bool) (side : Side) (h : List Item) (out : Bool) (s t : ℕ) → may_take_in ph r side h 21 ≡ true → InStep ph out s t → (out ≡ false) × (s ≡ suc t)
ahead_at_21 Start r side h out s t e i = absurd (not_first_21 r e)
ahead_at_21 Guessed r side h out s t e i = absurd (cc e)
ahead_at_21 Exchanging r side h out s t e i = absurd (allowed_21 _ _ (only_left _ _ (not_awaited_21 side) e))
ahead_at_21 Keying r side h out s t e i = i
ahead_at_21 Normal r side h out s t e i = absurd (not_normal_21 side h e)

-- and after a KEXINIT was taken
pub heard_at_30 : (ph : Phase) (r : Bool) (h : List Item) (n : ℕ) → may_take_in ph r Server h 30 ≡ true → Heard ph n → 0 < n
heard_at_30 Start true h n e k = absurd (cc e)
heard_at_30 Start false h n e k = absurd (cc e)
heard_at_30 Guessed r h n e k = k
heard_at_30 Exchanging r h n e k = k
heard_at_30 Keying r h n e k = k
heard_at_30 Normal r h n e k = k

pub heard_at_31 : (ph : Phase) (r : Bool) (h : List Item) (n : ℕ) → may_take_in ph r Client h 31 ≡ true → Heard ph n → 0 < n
heard_at_31 Start true h n e k = absurd (cc e)
heard_at_31 Start false h n e k = absurd (cc e)
heard_at_31 Guessed r h n e k = k
heard_at_31 Exchanging r h n e k = k
heard_at_31 Keying r h n e k = k
heard_at_31 Normal r h n e k = k

pub heard_at_21 : (ph : Phase) (r : Bool) (side : Side) (h : List Item) (n : ℕ) → may_take_in ph r side h 21 ≡ true → Heard ph n → 0 < n
heard_at_21 Start r side h n e k = absurd (not_first_21 r e)
heard_at_21 Guessed r side h n e k = k
heard_at_21 Exchanging r side h n e k = k
heard_at_21 Keying r side h n e k = k
heard_at_21 Normal r side h n e k = k

pub heard_at_guess : (ph : Phase) (n : ℕ) → ph ≡ Guessed → Heard ph n → 0 < n
heard_at_guess Start n e k = absurd (cc e)
heard_at_guess Guessed n e k = k
heard_at_guess Exchanging n e k = k
heard_at_guess Keying n e k = k
heard_at_guess Normal n e k = k

pub level_when_normal : (ph : Phase) (out : Bool) (s t : ℕ) → is_normal ph ≡ true → InStep ph out s t → ph ≡ Normal
level_when_normal Start out s t e i = absurd (cc e)
level_when_normal Guessed out s t e i = absurd (cc e)
level_when_normal Exchanging out s t e i = absurd (cc e)
level_when_normal Keying out s t e i = absurd (cc e)
level_when_normal Normal out s t e i = refl

-- ---- conditions

pub or_false : (a b : Bool) → (a || b) ≡ false → (a ≡ false) × (b ≡ false)
or_false true b e = absurd (cc e)
or_false false b e = (refl, e)

pub not_false : (a : Bool) → not a ≡ false → a ≡ true
not_false true e = refl
not_false false e = absurd (cc e)

pub second_false : (a b : Bool) → a ≡ true → (a && b) ≡ false → b ≡ false
second_false true b e f = f
second_false false b e f = absurd (cc e)

-- ---- numbers of authentication and of the connection

pub or_split : (a b : Bool) → (a || b) ≡ true → (a ≡ true) ⊎ (b ≡ true)
or_split true b e = inl refl
or_split false b e = inr e

pub and_left : (a b : Bool) → (a && b) ≡ true → a ≡ true
and_left true b e = refl
and_left false b e = absurd (cc e)

pub and_right : (a b : Bool) → (a && b) ≡ true → b ≡ true
and_right true b e = e
and_right false b e = absurd (cc e)

general_below : (n : ℕ) → is_generic_transport n ≡ true → n < 5
general_below n h = omega (arith, leb-true n 4 (and_right (nat_le 1 n) (nat_le n 4) h))

first_below : (s : Bool) (n : ℕ) → is_allowed_at_first s n ≡ true → n < 5
first_below true n h = omega (arith, eqb-true n 1 h)
first_below false n h = general_below n h

allowed_below : (s : Bool) (e n : ℕ) → is_allowed_during_exchange s e n ≡ true → n < 30
allowed_below s zero n h = omega (arith, first_below s n h)
allowed_below s (suc e) n h = go (or_split (is_generic_transport n) (nat_lt n 30 && not (is_known n)) h)
  where
    go : (is_generic_transport n ≡ true) ⊎ ((nat_lt n 30 && not (is_known n)) ≡ true) → n < 30
    go (inl x) = omega (arith, general_below n x)
    go (inr x) = ltb-true n 30 (and_left (nat_lt n 30) (not (is_known n)) x)

awaited_below : (side : Side) (n : ℕ) → (n == awaited side) ≡ true → n < 32
awaited_below Client n h = omega (arith, eqb-true n 31 h)
awaited_below Server n h = omega (arith, eqb-true n 30 h)

-- such numbers are taken in the normal phase alone
pub normal_above : (ph : Phase) (r : Bool) (side : Side) (h : List Item) (n : ℕ) → 50 ≤ n → may_take_in ph r side h n ≡ true → ph ≡ Normal
normal_above Start r side h n k e = absurd (go (or_split (is_allowed_at_first r n) (n == 20) e))
  where
    go : (is_allowed_at_first r n ≡ true) ⊎ ((n == 20) ≡ true) → ⊥
    go (inl x) = omega (arith, first_below r n x)
    go (inr x) = omega (arith, eqb-true n 20 x)
normal_above Guessed r side h n k e = absurd (omega (arith, leb-true n 49 (and_right (nat_le 30 n) (nat_le n 49) e)))
normal_above Exchanging r side h n k e = absurd (go (or_split (is_allowed_during_exchange (is_strict side h) (epoch (took h)) n) (n == awaited side) e))
  where
    go : (is_allowed_during_exchange (is_strict side h) (epoch (took h)) n ≡ true) ⊎ ((n == awaited side) ≡ true) → ⊥
    go (inl x) = omega (arith, allowed_below _ _ n x)
    go (inr x) = omega (arith, awaited_below side n x)
normal_above Keying r side h n k e = absurd (go (or_split (is_allowed_during_exchange (is_strict side h) (epoch (took h)) n) (n == 21) e))
  where
    go : (is_allowed_during_exchange (is_strict side h) (epoch (took h)) n ≡ true) ⊎ ((n == 21) ≡ true) → ⊥
    go (inl x) = omega (arith, allowed_below _ _ n x)
    go (inr x) = omega (arith, eqb-true n 21 x)
normal_above Normal r side h n k e = refl

service_below : (side : Side) (h : List Item) (n : ℕ) → may_take_service side h n ≡ true → n < 61
service_below Server h n e = go (or_split (n == 5 && not (took_service_request h)) (n == 50 && sent_service_accept h) e)
  where
    go : ((n == 5 && not (took_service_request h)) ≡ true) ⊎ ((n == 50 && sent_service_accept h) ≡ true) → n < 61
    go (inl x) = omega (arith, eqb-true n 5 (and_left (n == 5) (not (took_service_request h)) x))
    go (inr x) = omega (arith, eqb-true n 50 (and_left (n == 50) (sent_service_accept h) x))
service_below Client h n e = first (or_split (six || fifty || banner) (n == 60 && probing h) e)
  where
    six : Bool
    six = n == 6 && sent_service_request h && not (took_service_accept h)

    fifty : Bool
    fifty = (n == 51 || n == 52) && is_some (outstanding h)

    banner : Bool
    banner = n == 53 && took_service_accept h && not (took_success h)

    answers : ((n == 51) ≡ true) ⊎ ((n == 52) ≡ true) → n < 61
    answers (inl x) = omega (arith, eqb-true n 51 x)
    answers (inr x) = omega (arith, eqb-true n 52 x)

    third : (six ≡ true) ⊎ (fifty ≡ true) → n < 61
    third (inl x) = omega (arith, eqb-true n 6 (and_left (n == 6) (sent_service_request h) (and_left (n == 6 && sent_service_request h) (not (took_service_accept h)) x)))
    third (inr x) = answers (or_split (n == 51) (n == 52) (and_left (n == 51 || n == 52) (is_some (outstanding h)) x))

    second : ((six || fifty) ≡ true) ⊎ (banner ≡ true) → n < 61
    second (inl x) = third (or_split six fifty x)
    second (inr x) = omega (arith, eqb-true n 53 (and_left (n == 53) (took_service_accept h) (and_left (n == 53 && took_service_accept h) (not (took_success h)) x)))

    first : ((six || fifty || banner) ≡ true) ⊎ ((n == 60 && probing h) ≡ true) → n < 61
    first (inl x) = second (or_split (six || fifty) banner x)
    first (inr x) = omega (arith, eqb-true n 60 (and_left (n == 60) (probing h) x))

-- messages of the connection are taken by an end that is authenticated
pub authenticated_above : (side : Side) (h : List Item) (n : ℕ) → 80 ≤ n → may_take_normally side h n ≡ true → authenticated side h ≡ true
authenticated_above side h n k e = first (or_split (few || may_take_service side h n || seven || late) (is_unassigned n) e)
  where
    few : Bool
    few = is_generic_transport n

    seven : Bool
    seven = n == 7 && may_take_extensions side h

    late : Bool
    late = (n == 20 || is_connection n) && authenticated side h

    third : (few ≡ true) ⊎ (may_take_service side h n ≡ true) → authenticated side h ≡ true
    third (inl x) = absurd (omega (arith, general_below n x))
    third (inr x) = absurd (omega (arith, service_below side h n x))

    between : ((few || may_take_service side h n) ≡ true) ⊎ (seven ≡ true) → authenticated side h ≡ true
    between (inl x) = third (or_split few (may_take_service side h n) x)
    between (inr x) = absurd (omega (arith, eqb-true n 7 (and_left (n == 7) (may_take_extensions side h) x)))

    second : ((few || may_take_service side h n || seven) ≡ true) ⊎ (late ≡ true) → authenticated side h ≡ true
    second (inl x) = between (or_split (few || may_take_service side h n) seven x)
    second (inr x) = and_right (n == 20 || is_connection n) (authenticated side h) x

    first : ((few || may_take_service side h n || seven || late) ≡ true) ⊎ (is_unassigned n ≡ true) → authenticated side h ≡ true
    first (inl x) = second (or_split (few || may_take_service side h n || seven) late x)
    first (inr x) = absurd (omega (arith, ltb-true n 80 (and_left (nat_lt n 80) (not (is_known n)) x)))

-- 60 is taken only while a key probe is outstanding
pub probing_at_60 : (ph : Phase) (r : Bool) (side : Side) (h : List Item) → may_take_in ph r side h 60 ≡ true → probing h ≡ true
probing_at_60 Start true side h e = absurd (cc e)
probing_at_60 Start false side h e = absurd (cc e)
probing_at_60 Guessed r side h e = absurd (cc e)
probing_at_60 Exchanging r side h e = absurd (omega (arith, normal_number (or_split (is_allowed_during_exchange (is_strict side h) (epoch (took h)) 60) (60 == awaited side) e)))
  where
    normal_number : (is_allowed_during_exchange (is_strict side h) (epoch (took h)) 60 ≡ true) ⊎ ((60 == awaited side) ≡ true) → 60 < 32
    normal_number (inl x) = omega (arith, allowed_below _ _ 60 x)
    normal_number (inr x) = awaited_below side 60 x
probing_at_60 Keying r side h e = absurd (omega (arith, allowed_below _ _ 60 (only_left (is_allowed_during_exchange (is_strict side h) (epoch (took h)) 60) false refl e)))
probing_at_60 Normal r Client h e = only_left (probing h) false refl (only_left (probing h || false) false refl (only_left (probing h || false || false) false refl e))
probing_at_60 Normal r Server h e = absurd (cc e)
