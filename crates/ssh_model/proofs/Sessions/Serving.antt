-- How service and authentication follow on one another, and what lets their messages be taken.
use Rattle.std.proofs.Common.{◌≡◌, ℕ, zero, suc, ◌<◌, List, [], ◌∷◌, ◌⊎◌, inl, inr, refl, Bool, true, false, is_some, ◌||◌, ◌==◌, length}
use Rattle.ssh_model.specs.declared.side.Side.{Side}
use Rattle.ssh_model.specs.declared.side.Side.TheVariants.{Client, Server}
use Rattle.ssh_model.specs.Protocol.Sessions.TurnClaims.{KeepsToExchange}
use Rattle.ssh_model.proofs.Sessions.EndKeeps.{InStep}
use Rattle.ssh_model.proofs.Sessions.Stages.{or_split}
use Rattle.ssh_model.specs.Protocol.Sessions.Parties.{Parties}
use Rattle.ssh_model.specs.Protocol.Sessions.Phases.{Phase, awaited, is_allowed_during_exchange, authenticated, blocked, may_take_in, may_take_normally, took_service_accept, Phase.Normal, outstanding, sent_service_accept, sent_service_request, sent_success, took_service_request, took_success, phase, Phase.Guessed, Phase.Start, Phase.Exchanging, Phase.Keying}
use Rattle.ssh_model.specs.Protocol.Sessions.Items.{Item, took, Item.Fed}
use Rattle.ssh_model.specs.Protocol.KeyExchange.Exchanges.{is_strict}
use Rattle.ssh_model.specs.Protocol.Sessions.Epochs.{epoch}

-- whether the end is authenticated, by whether it sent SUCCESS and took it
abbrev pub is_in : Side → (sent taken : Bool) → Bool
is_in Client s t = t
is_in Server s t = s

pub is_in_is : (side : Side) (h : List Item) → authenticated side h ≡ true → is_in side (sent_success h) (took_success h) ≡ true
is_in_is Client h e = e
is_in_is Server h e = e

-- the cookies that the end was fed have 16 bytes
abbrev pub AllMaterial : List Item → Type 0
AllMaterial [] = Unit {0}
AllMaterial (Fed cookie secret ∷ h) = (length cookie ≡ 16) × AllMaterial h
AllMaterial (_ ∷ h) = AllMaterial h

-- How service and authentication follow on one another, and what the end sent while it was blocked.
pub record Serves {K : Type 0} (p : Parties K) (side : Side) (h : List Item) : Type 0 where
  pub client : side ≡ Client → (took_service_accept h || is_some (outstanding h) || took_success h) ≡ true → sent_service_request h ≡ true
  pub server : side ≡ Server → (sent_service_accept h || sent_success h) ≡ true → took_service_request h ≡ true
  pub accepted : took_service_accept h ≡ true → 0 < epoch (took h)
  pub keyed : phase p side h ≡ Normal → 0 < epoch (took h)
  pub held : blocked h ≡ true → (epoch (took h) ≡ 0) ⊎ (is_in side (sent_success h) (took_success h) ≡ true)
  pub keeps : KeepsToExchange h
  pub fed_is : AllMaterial h

-- ---- truth values

pub first_or : (a b c : Bool) → a ≡ true → (a || b || c) ≡ true
first_or true b c e = refl
first_or false b c e = absurd (cc e)

pub second_or : (a b c : Bool) → b ≡ true → (a || b || c) ≡ true
second_or true b c e = refl
second_or false true c e = refl
second_or false false c e = absurd (cc e)

pub third_or : (a b c : Bool) → c ≡ true → (a || b || c) ≡ true
third_or true b c e = refl
third_or false true c e = refl
third_or false false c e = e

pub without_second : (a b c : Bool) → (a || false || c) ≡ true → (a || b || c) ≡ true
without_second true b c e = refl
without_second false true c e = refl
without_second false false c e = e

pub left_or : (a b : Bool) → a ≡ true → (a || b) ≡ true
left_or true b e = refl
left_or false b e = absurd (cc e)

pub right_or : (a b : Bool) → b ≡ true → (a || b) ≡ true
right_or true b e = refl
right_or false b e = e

pub both_ways : (t : Bool) → t ≡ true → t ≡ false → ⊥
both_ways true e f = cc f
both_ways false e f = cc e

-- ---- what lets these numbers be taken

allowed_5 : (s : Bool) (e : ℕ) → is_allowed_during_exchange s e 5 ≡ true → ⊥
allowed_5 true zero e = cc e
allowed_5 false zero e = cc e
allowed_5 s (suc n) e = cc e

awaited_5 : (side : Side) → (5 == awaited side) ≡ true → ⊥
awaited_5 Client e = cc e
awaited_5 Server e = cc e

allowed_or_awaited_5 : (s : Bool) (e : ℕ) (side : Side) → (is_allowed_during_exchange s e 5 ≡ true) ⊎ ((5 == awaited side) ≡ true) → ⊥
allowed_or_awaited_5 s e side (inl x) = allowed_5 s e x
allowed_or_awaited_5 s e side (inr x) = awaited_5 side x

allowed_or_none_5 : (s : Bool) (e : ℕ) → (is_allowed_during_exchange s e 5 ≡ true) ⊎ (false ≡ true) → ⊥
allowed_or_none_5 s e (inl x) = allowed_5 s e x
allowed_or_none_5 s e (inr x) = cc x

pub normal_at_5 : (ph : Phase) (r : Bool) (side : Side) (h : List Item) → may_take_in ph r side h 5 ≡ true → ph ≡ Normal
normal_at_5 Start true side h e = absurd (cc e)
normal_at_5 Start false side h e = absurd (cc e)
normal_at_5 Guessed r side h e = absurd (cc e)
normal_at_5 Exchanging r side h e = absurd (allowed_or_awaited_5 (is_strict side h) (epoch (took h)) side (or_split (is_allowed_during_exchange (is_strict side h) (epoch (took h)) 5) (5 == awaited side) e))
normal_at_5 Keying r side h e = absurd (allowed_or_none_5 (is_strict side h) (epoch (took h)) (or_split (is_allowed_during_exchange (is_strict side h) (epoch (took h)) 5) false e))
normal_at_5 Normal r side h e = refl

allowed_6 : (s : Bool) (e : ℕ) → is_allowed_during_exchange s e 6 ≡ true → ⊥
allowed_6 true zero e = cc e
allowed_6 false zero e = cc e
allowed_6 s (suc n) e = cc e

awaited_6 : (side : Side) → (6 == awaited side) ≡ true → ⊥
awaited_6 Client e = cc e
awaited_6 Server e = cc e

allowed_or_awaited_6 : (s : Bool) (e : ℕ) (side : Side) → (is_allowed_during_exchange s e 6 ≡ true) ⊎ ((6 == awaited side) ≡ true) → ⊥
allowed_or_awaited_6 s e side (inl x) = allowed_6 s e x
allowed_or_awaited_6 s e side (inr x) = awaited_6 side x

allowed_or_none_6 : (s : Bool) (e : ℕ) → (is_allowed_during_exchange s e 6 ≡ true) ⊎ (false ≡ true) → ⊥
allowed_or_none_6 s e (inl x) = allowed_6 s e x
allowed_or_none_6 s e (inr x) = cc x

pub normal_at_6 : (ph : Phase) (r : Bool) (side : Side) (h : List Item) → may_take_in ph r side h 6 ≡ true → ph ≡ Normal
normal_at_6 Start true side h e = absurd (cc e)
normal_at_6 Start false side h e = absurd (cc e)
normal_at_6 Guessed r side h e = absurd (cc e)
normal_at_6 Exchanging r side h e = absurd (allowed_or_awaited_6 (is_strict side h) (epoch (took h)) side (or_split (is_allowed_during_exchange (is_strict side h) (epoch (took h)) 6) (6 == awaited side) e))
normal_at_6 Keying r side h e = absurd (allowed_or_none_6 (is_strict side h) (epoch (took h)) (or_split (is_allowed_during_exchange (is_strict side h) (epoch (took h)) 6) false e))
normal_at_6 Normal r side h e = refl

pub new_request_at_5 : (h : List Item) → may_take_normally Server h 5 ≡ true → took_service_request h ≡ false
new_request_at_5 h e = go (took_service_request h) refl
  where
    go : (t : Bool) → took_service_request h ≡ t → took_service_request h ≡ false
    go false f = f
    go true f = absurd (cc (rw f at e))

pub no_5_at_client : (h : List Item) → may_take_normally Client h 5 ≡ true → ⊥
no_5_at_client h e = cc e

pub asked_at_6 : (h : List Item) → may_take_normally Client h 6 ≡ true → sent_service_request h ≡ true
asked_at_6 h e = go (sent_service_request h) refl
  where
    go : (t : Bool) → sent_service_request h ≡ t → sent_service_request h ≡ true
    go true f = f
    go false f = absurd (cc (rw f at e))

pub accepted_at_50 : (h : List Item) → may_take_normally Server h 50 ≡ true → sent_service_accept h ≡ true
accepted_at_50 h e = go (sent_service_accept h) refl
  where
    go : (t : Bool) → sent_service_accept h ≡ t → sent_service_accept h ≡ true
    go true f = f
    go false f = absurd (cc (rw f at e))

pub outstanding_at_52 : (h : List Item) → may_take_normally Client h 52 ≡ true → is_some (outstanding h) ≡ true
outstanding_at_52 h e = go (is_some (outstanding h)) refl
  where
    go : (t : Bool) → is_some (outstanding h) ≡ t → is_some (outstanding h) ≡ true
    go true f = f
    go false f = absurd (cc (rw f at e))

pub authenticated_at_20 : (ph : Phase) (r : Bool) (side : Side) (h : List Item) (out : Bool) (s t : ℕ) → may_take_in ph r side h 20 ≡ true → InStep ph out s t → out ≡ false → authenticated side h ≡ true
authenticated_at_20 Start r side h out s t e i f = absurd (both_ways out i.0 f)
authenticated_at_20 Guessed r side h out s t e i f = absurd (both_ways out i.0 f)
authenticated_at_20 Exchanging r side h out s t e i f = absurd (both_ways out i.0 f)
authenticated_at_20 Keying r side h out s t e i f = absurd (allowed_20 _ _ (or_split (is_allowed_during_exchange (is_strict side h) (epoch (took h)) 20) false e))
  where
    allowed_20 : (s : Bool) (e : ℕ) → (is_allowed_during_exchange s e 20 ≡ true) ⊎ (false ≡ true) → ⊥
    allowed_20 true zero (inl e) = cc e
    allowed_20 false zero (inl e) = cc e
    allowed_20 s (suc n) (inl e) = cc e
    allowed_20 s n (inr e) = cc e
authenticated_at_20 Normal r side h out s t e i f = normally side e
  where
    normally : (side : Side) → may_take_normally side h 20 ≡ true → authenticated side h ≡ true
    normally Client e = go (took_success h) refl
      where
        go : (t : Bool) → took_success h ≡ t → took_success h ≡ true
        go true f = f
        go false f = absurd (cc (rw f at e))
    normally Server e = go (sent_success h) refl
      where
        go : (t : Bool) → sent_success h ≡ t → sent_success h ≡ true
        go true f = f
        go false f = absurd (cc (rw f at e))
