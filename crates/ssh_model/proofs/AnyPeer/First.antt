-- With strict key exchange the first exchange is only the exchange, whoever the peer is and whatever the layers above the
-- transport do.
use Rattle.std.proofs.Common.{◌≡◌, ℕ, zero, suc, ◌<◌, List, [], ◌∷◌, ◌++◌, length, reverse, ◌⊎◌, inl, inr, refl, ap, sym, ◌∙◌, subst, arith, cond, not, nat_lt, Bool, true, false, ◌&&◌, ◌||◌, ◌==◌, eq-eqb, ne_eqb, Option, Some, None}
use Rattle.std.proofs.lemmas.Bool.{lt-ltb}
use Rattle.ssh_model.specs.declared.side.Side.{Side}
use Rattle.ssh_model.specs.declared.side.Side.TheVariants.{Client, Server}
use Rattle.ssh_model.specs.Protocol.Side.{peer}
use Rattle.ssh_model.specs.Protocol.Wire.Message.{Msg, Msg.Disconnect, Msg.KexInit, Msg.NewKeys, Msg.KexEcdhInit, Msg.KexEcdhReply, Msg.Unknown, Proposal, FitsContext, is_unknown, message_number}
use Rattle.ssh_model.specs.declared.strictness.Strictness.{Strictness}
use Rattle.ssh_model.specs.declared.strictness.Strictness.TheVariants.{Require, Offer as Offered, Off}
use Rattle.ssh_model.specs.Protocol.Sessions.Parties.{Parties, AreLawful, is_required, is_offered, settings_of, marker_of}
use Rattle.ssh_model.specs.Protocol.Sessions.Items.{Item, Item.Sent, Item.Took, Item.TookGuess, took, messages_sent, messages_taken, has_died, Payload}
use Rattle.ssh_model.specs.Protocol.Sessions.Epochs.{epoch}
use Rattle.ssh_model.specs.Protocol.KeyExchange.Exchanges.{Offer, nth, no_offer, offers, first_sent, first_taken, is_strict, has_marker}
use Rattle.ssh_model.specs.Protocol.Sessions.Phases.{Phase, Phase.Start, Phase.Guessed, Phase.Exchanging, Phase.Keying, Phase.Normal, phase, awaited, is_allowed_during_exchange, is_wrong_guess, own_names, may_take_in, probing}
use Rattle.ssh_model.specs.Protocol.Sessions.Transport.{is_marked, comes_too_late}
use Rattle.ssh_model.specs.Protocol.Sessions.Turns.{answer_checks}
use Rattle.ssh_model.specs.Protocol.Sessions.AnyLayers.{TransportRun}
use Rattle.ssh_model.specs.Protocol.Sessions.AnyPeer.{until_newkeys, taken_in_first_exchange, unread, Follows, Follows.so_far as so_far_along, Follows.leaves as leaves_following, TakesOnlyExchange, RequiresStrict}
use Rattle.ssh_model.specs.Laws.Checks.{all_passed}
use Rattle.ssh_model.proofs.Wire.Payloads.{not_both}
use Rattle.ssh_model.proofs.Sessions.EndKeeps.{Heard}
use Rattle.ssh_model.proofs.Sessions.EndAnswers.{may_be}
use Rattle.ssh_model.proofs.Sessions.EndTurns.{run_keeps}
use Rattle.ssh_model.proofs.Sessions.Stages.{and_right, not_false, or_split, second_false}
use Rattle.ssh_model.proofs.Sessions.SoundTurns.{normal_keyed}
use Rattle.ssh_model.proofs.Sessions.Strict.{own_first}
use Rattle.ssh_model.proofs.AnyPeer.Keeps.{Grounds, TookAt, TakenAt, below, OfferAt, has_left}
use Rattle.ssh_model.proofs.AnyPeer.Rows.{known}

-- ---- the packets so far, the newest first, by what is awaited and by whether the guess was wrong

abbrev Started : Side → Bool → Phase → ℕ → List (Option ℕ) → Type 0
Started side wrong ph (suc e) l = l ≡ Some 21 ∷ Some (awaited side) ∷ (unread wrong ++ (Some 20 ∷ []))
Started side wrong Guessed zero l = (wrong ≡ true) × (l ≡ Some 20 ∷ [])
Started side wrong Exchanging zero l = l ≡ unread wrong ++ (Some 20 ∷ [])
Started side wrong Keying zero l = l ≡ Some (awaited side) ∷ (unread wrong ++ (Some 20 ∷ []))
Started side wrong Start zero l = ⊥
Started side wrong Normal zero l = ⊥

-- with DISCONNECT
abbrev Gone : Side → Bool → ℕ → List (Option ℕ) → Type 0
Gone side wrong zero l = (ph : Phase) × (before : List (Option ℕ)) × Started side wrong ph zero before × (l ≡ Some 1 ∷ before)
Gone side wrong (suc e) l = l ≡ Some 21 ∷ Some (awaited side) ∷ (unread wrong ++ (Some 20 ∷ []))

-- ---- which messages go on

-- no message of the exchange, and no DISCONNECT
abbrev IsAside : Msg → Type 0
IsAside (Disconnect r d l) = ⊥
IsAside (KexInit o) = ⊥
IsAside NewKeys = ⊥
IsAside (KexEcdhInit q) = ⊥
IsAside (KexEcdhReply k q s) = ⊥
IsAside _ = Unit {0}

-- its number is none of theirs
record IsNone (n : ℕ) : Type 0 where
  one : (n == 1) ≡ false
  newkeys : (n == 21) ≡ false
  init : (n == 30) ≡ false
  answer : (n == 31) ≡ false

none_known : (c : Bool) (k : ℕ) (n : ℕ) → is_unknown c n ≡ true → is_unknown c k ≡ false → (n == k) ≡ false
none_known c k n s e = ne_eqb n k (λ z. not_both (sym s ∙ (ap (is_unknown c) z ∙ e)))

aside : (c : Bool) (m : Msg) → IsAside m → FitsContext c m → IsNone (message_number m)
aside c (Disconnect r d l) a s = elim a [ ]
aside c (KexInit o) a s = elim a [ ]
aside c NewKeys a s = elim a [ ]
aside c (KexEcdhInit q) a s = elim a [ ]
aside c (KexEcdhReply k q x) a s = elim a [ ]
aside c (Unknown n) a s = record { one = none_known c 1 n s refl; newkeys = none_known c 21 n s refl; init = none_known c 30 n s refl; answer = none_known c 31 n s refl }
aside c m a s = record { one = refl; newkeys = refl; init = refl; answer = refl }

is_awaited : (side : Side) (n : ℕ) → IsNone n → (n == awaited side) ≡ false
is_awaited Client n a = a.answer
is_awaited Server n a = a.init

-- what is allowed in a strict first exchange besides what is awaited
allowed_one : (s : Bool) (e n : ℕ) → s ≡ true → e ≡ 0 → is_allowed_during_exchange s e n ≡ true → (n == 1) ≡ true
allowed_one true zero n f z a = a
allowed_one false zero n f z a = absurd (cc f)
allowed_one s (suc e) n f z a = absurd (omega (arith, z))

-- in the exchange, a message that is not the one that is awaited is DISCONNECT
module _ (side : Side) (h : List Item) (strict : is_strict side h ≡ true) (wrong : Bool) where
  exchanging_only : (n : ℕ) (r : Bool) → epoch (took h) ≡ 0 → (n == 1) ≡ false → (n == awaited side) ≡ false → may_take_in Exchanging r side h n ≡ true → ⊥
  exchanging_only n r z a b e = go (or_split (is_allowed_during_exchange (is_strict side h) (epoch (took h)) n) (n == awaited side) e)
    where
      go : (is_allowed_during_exchange (is_strict side h) (epoch (took h)) n ≡ true) ⊎ ((n == awaited side) ≡ true) → ⊥
      go (inl x) = not_both (sym (allowed_one _ _ n strict z x) ∙ a)
      go (inr x) = not_both (sym x ∙ b)

  keying_only : (n : ℕ) (r : Bool) → epoch (took h) ≡ 0 → (n == 1) ≡ false → (n == 21) ≡ false → may_take_in Keying r side h n ≡ true → ⊥
  keying_only n r z a b e = go (or_split (is_allowed_during_exchange (is_strict side h) (epoch (took h)) n) (n == 21) e)
    where
      go : (is_allowed_during_exchange (is_strict side h) (epoch (took h)) n ≡ true) ⊎ ((n == 21) ≡ true) → ⊥
      go (inl x) = not_both (sym (allowed_one _ _ n strict z x) ∙ a)
      go (inr x) = not_both (sym x ∙ b)

  -- a message aside does not come here
  step_aside : (ph : Phase) (r : Bool) (n t : ℕ) (l : List (Option ℕ)) → epoch (took h) ≡ t → IsNone n → (ph ≡ Guessed → ⊥) → may_take_in ph r side h n ≡ true → Started side wrong ph t l
      → Started side wrong ph t (until_newkeys t (Some n) l)
  step_aside ph r n (suc t) l z a g e s = s
  step_aside Start r n zero l z a g e s = elim s [ ]
  step_aside Guessed r n zero l z a g e s = absurd (g refl)
  step_aside Exchanging r n zero l z a g e s = absurd (exchanging_only n r z a.one (is_awaited side n a) e)
  step_aside Keying r n zero l z a g e s = absurd (keying_only n r z a.one a.newkeys e)
  step_aside Normal r n zero l z a g e s = elim s [ ]

  -- the message that is awaited
  step_answer : (ph : Phase) (r : Bool) (n t : ℕ) (l : List (Option ℕ)) → epoch (took h) ≡ t → n ≡ awaited side → (n == 1) ≡ false → (n == 21) ≡ false → (ph ≡ Guessed → ⊥)
      → may_take_in ph r side h n ≡ true → Started side wrong ph t l → Started side wrong Keying t (until_newkeys t (Some n) l)
  step_answer ph r n (suc t) l z w a b g e s = s
  step_answer Start r n zero l z w a b g e s = elim s [ ]
  step_answer Guessed r n zero l z w a b g e s = absurd (g refl)
  step_answer Exchanging r n zero l z w a b g e s = cc (w, s)
  step_answer Keying r n zero l z w a b g e s = absurd (keying_only n r z a b e)
  step_answer Normal r n zero l z w a b g e s = elim s [ ]

  -- the message that the other side awaits
  step_other : (ph ph' : Phase) (r : Bool) (n t : ℕ) (l : List (Option ℕ)) → epoch (took h) ≡ t → (n == awaited side) ≡ false → (n == 1) ≡ false → (n == 21) ≡ false → (ph ≡ Guessed → ⊥)
      → may_take_in ph r side h n ≡ true → Started side wrong ph t l → Started side wrong ph' t (until_newkeys t (Some n) l)
  step_other ph ph' r n (suc t) l z w a b g e s = s
  step_other Start ph' r n zero l z w a b g e s = elim s [ ]
  step_other Guessed ph' r n zero l z w a b g e s = absurd (g refl)
  step_other Exchanging ph' r n zero l z w a b g e s = absurd (exchanging_only n r z a w e)
  step_other Keying ph' r n zero l z w a b g e s = absurd (keying_only n r z a b e)
  step_other Normal ph' r n zero l z w a b g e s = elim s [ ]

  step_newkeys : (ph : Phase) (r : Bool) (t : ℕ) (l : List (Option ℕ)) → epoch (took h) ≡ t → (21 == awaited side) ≡ false → (ph ≡ Guessed → ⊥)
      → may_take_in ph r side h 21 ≡ true → Started side wrong ph t l → Started side wrong Normal (suc t) (until_newkeys t (Some 21) l)
  step_newkeys ph r (suc t) l z w g e s = s
  step_newkeys Start r zero l z w g e s = elim s [ ]
  step_newkeys Guessed r zero l z w g e s = absurd (g refl)
  step_newkeys Exchanging r zero l z w g e s = absurd (exchanging_only 21 r z refl w e)
  step_newkeys Keying r zero l z w g e s = ap (λ x. Some 21 ∷ x) s
  step_newkeys Normal r zero l z w g e s = elim s [ ]

  step_leaves : (ph : Phase) (t : ℕ) (l : List (Option ℕ)) → Started side wrong ph t l → Gone side wrong t (until_newkeys t (Some 1) l)
  step_leaves ph (suc t) l s = s
  step_leaves ph zero l s = (ph, l, s, refl)

  step_guess : (t : ℕ) (l : List (Option ℕ)) → Started side wrong Guessed t l → Started side wrong Exchanging t (until_newkeys t None l)
  step_guess (suc t) l s = s
  step_guess zero l s = rw s.0 (ap (λ x. None ∷ x) s.1)

-- a later KEXINIT
step_later : (side : Side) (wrong : Bool) (ph ph' : Phase) (t : ℕ) (x : Option ℕ) (l : List (Option ℕ)) → 0 < t → Started side wrong ph t l → Started side wrong ph' t (until_newkeys t x l)
step_later side wrong ph ph' zero x l n s = absurd (omega (arith, n))
step_later side wrong ph ph' (suc t) x l n s = s

-- the first one
step_first : (side : Side) (wrong : Bool) → Started side wrong (cond wrong Guessed Exchanging) zero (Some 20 ∷ [])
step_first side true = (refl, refl)
step_first side false = refl

newkeys_apart : (side : Side) → (21 == awaited side) ≡ false
newkeys_apart Client = refl
newkeys_apart Server = refl

-- ---- where a KEXINIT comes

module _ {K : Type 0} (p : Parties K) where
  record AtStart (h : List Item) : Type 0 where
    none : offers (messages_taken h) ≡ []
    zero_epoch : epoch (took h) ≡ 0

  not_start : (t : Bool) → cond t Guessed Exchanging ≡ Start → ⊥
  not_start true e = cc e
  not_start false e = cc e

  at_start : (side : Side) (h : List Item) → phase p side h ≡ Start → AtStart h
  at_start side [] e = record { none = refl; zero_epoch = refl }
  at_start side (Took c (KexInit o) b ∷ h) e = absurd (not_start _ e)
  at_start side (Took c NewKeys b ∷ h) e = absurd (cc e)
  at_start side (Took c (KexEcdhInit q) b ∷ h) e = absurd (cc e)
  at_start side (Took c (KexEcdhReply k q s) b ∷ h) e = absurd (cc e)
  at_start side (Took c m b ∷ h) e = let v = at_start side h e in record { none = v.none; zero_epoch = v.zero_epoch }
  at_start side (TookGuess b ∷ h) e = absurd (cc e)
  at_start side (i ∷ h) e = let v = at_start side h e in record { none = v.none; zero_epoch = v.zero_epoch }

  not_20 : (s : Bool) (e : ℕ) → (is_allowed_during_exchange s e 20 || false) ≡ true → ⊥
  not_20 true zero e = cc e
  not_20 false zero e = cc e
  not_20 s (suc n) e = cc e

  not_awaited_20 : (side : Side) → (20 == awaited side) ≡ false
  not_awaited_20 Client = refl
  not_awaited_20 Server = refl

  at_20 : (ph : Phase) (r : Bool) (side : Side) (h : List Item) → may_take_in ph r side h 20 ≡ true → (ph ≡ Start) ⊎ (ph ≡ Normal)
  at_20 Start r side h e = inl refl
  at_20 Guessed r side h e = absurd (cc e)
  at_20 Exchanging r side h e = absurd (not_20 _ _ (subst (λ t. (is_allowed_during_exchange (is_strict side h) (epoch (took h)) 20 || t) ≡ true) (not_awaited_20 side) e))
  at_20 Keying r side h e = absurd (not_20 _ _ e)
  at_20 Normal r side h e = inr refl

  heard_normal : (ph : Phase) (n : ℕ) → ph ≡ Normal → Heard ph n → 0 < n
  heard_normal ph n e k = rw e at k

-- ---- which KEXINIT is the first

first_is : (c : Option ℕ) (theirs : Proposal) (b : List ℕ) (h : List Item) → offers (messages_taken h) ≡ [] → first_taken (Took c (KexInit theirs) b ∷ h) ≡ theirs
first_is c theirs b h e = ap (λ l. (nth no_offer 0 (record { proposal = theirs; payload = b } ∷ l)).proposal) e

kept_first : (o : Offer) (l : List Offer) → 0 < length l → (nth no_offer 0 (o ∷ l)).proposal ≡ (nth no_offer 0 l).proposal
kept_first o l n = ap (λ t. (cond t o (nth no_offer 0 l)).proposal) (ne_eqb 0 (length l) (λ z. omega (arith, z, n)))

first_later : (c : Option ℕ) (theirs : Proposal) (b : List ℕ) (h : List Item) → 0 < length (offers (messages_taken h)) → first_taken (Took c (KexInit theirs) b ∷ h) ≡ first_taken h
first_later c theirs b h n = kept_first (record { proposal = theirs; payload = b }) (offers (messages_taken h)) n

-- nothing was taken
no_packets : (h : List Item) → took h ≡ [] → taken_in_first_exchange h ≡ []
no_packets [] e = refl
no_packets (Took c NewKeys b ∷ h) e = absurd (cc e)
no_packets (Took c m b ∷ h) e = absurd (cc e)
no_packets (TookGuess b ∷ h) e = absurd (cc e)
no_packets (Sent c m b ∷ h) e = no_packets h e
no_packets (i ∷ h) e = no_packets h e

none_taken : (l : List Payload) → nat_lt 0 (length l) ≡ false → l ≡ []
none_taken [] e = refl
none_taken (x ∷ l) e = absurd (not_both (sym (lt-ltb 0 (length (x ∷ l)) (omega arith)) ∙ e))

-- an end whose own KEXINIT is its first has no strict session yet
strict_before : {K : Type 0} (p : Parties K) (side : Side) (c : Option ℕ) (o : Proposal) (b : List ℕ) (h : List Item) → OfferAt p side o b h → is_strict side (Sent c (KexInit o) b ∷ h) ≡ true → is_strict side h ≡ true
strict_before p side c o b h g st = go (offers (messages_sent h)) refl
  where
    go : (l : List Offer) → offers (messages_sent h) ≡ l → is_strict side h ≡ true
    go [] e =
        let none : offers (messages_taken h) ≡ [] = g.first (ap length e) in
        let theirs = and_right _ (has_marker (marker_of (peer side)) (first_taken h).kex) st in
        let no : has_marker (marker_of (peer side)) (nth no_offer 0 []).proposal.kex ≡ true = subst (λ l. has_marker (marker_of (peer side)) (nth no_offer 0 l).proposal.kex ≡ true) none theirs in
        absurd (cc no)
    go (x ∷ l) e =
        let some : 0 < length (offers (messages_sent h)) = omega (arith, ap length e) in
        subst (λ f. (has_marker (marker_of side) f.kex && has_marker (marker_of (peer side)) (first_taken h).kex) ≡ true) (kept_first (record { proposal = o; payload = b }) (offers (messages_sent h)) some) st

-- ---- the first exchange

module _ {K : Type 0} (p : Parties K) (laws : AreLawful p) (side : Side) where
  abbrev Wrong : List Item → Bool
  Wrong h = is_wrong_guess (first_taken h) (own_names p side)

  abbrev Begun : List Item → Type 0
  Begun h = Started side (Wrong h) (phase p side h) (epoch (took h)) (taken_in_first_exchange h)

  abbrev SoFar : List Item → Type 0
  SoFar h = (has_left h ≡ false → Begun h) × (has_left h ≡ true → Gone side (Wrong h) (epoch (took h)) (taken_in_first_exchange h))

  -- who goes on did not leave
  stays : (h : List Item) → TransportRun p side h → has_died h ≡ false → has_left h ≡ false
  stays h r d = go (has_left h) refl
    where
      go : (t : Bool) → has_left h ≡ t → has_left h ≡ false
      go true e = absurd (not_both (sym ((known p laws side h r).left e) ∙ d))
      go false e = e

  at_first : (h : List Item) (theirs : Proposal) (b : List ℕ) → TookAt false p side h (KexInit theirs) b → offers (messages_taken h) ≡ [] → epoch (took h) ≡ 0
  at_first h theirs b w e = go (at_20 p (phase p side h) _ side h (may_be p side h (KexInit theirs) b w.welcome))
    where
      go : (phase p side h ≡ Start) ⊎ (phase p side h ≡ Normal) → epoch (took h) ≡ 0
      go (inl s) = (at_start p side h s).zero_epoch
      go (inr n) = absurd (omega (arith, ap length e, heard_normal p (phase p side h) _ n (run_keeps p laws side h w.run).heard))

  first_kexinit : (c : Option ℕ) (theirs : Proposal) (b : List ℕ) (h : List Item) → TookAt false p side h (KexInit theirs) b → is_strict side (Took c (KexInit theirs) b ∷ h) ≡ true
      → offers (messages_taken h) ≡ [] → Begun (Took c (KexInit theirs) b ∷ h)
  first_kexinit c theirs b h w st e =
      let wrong = is_wrong_guess theirs (own_names p side) in
      let ph = cond wrong Guessed Exchanging in
      let zero_epoch = at_first h theirs b w e in
      let checks = all_passed (answer_checks p side h (KexInit theirs)) w.welcome.not_refused in
      let late = second_false (epoch (took h) == 0) (comes_too_late side h theirs) (eq-eqb _ _ zero_epoch) checks.1.0 in
      let both : (has_marker (marker_of side) (first_sent h).kex && is_marked side theirs) ≡ true =
      subst (λ o. (has_marker (marker_of side) (first_sent h).kex && has_marker (marker_of (peer side)) o.kex) ≡ true) (first_is c theirs b h e) st in
      let none = no_packets h (none_taken (took h) (second_false _ (nat_lt 0 (length (took h))) both late)) in
      subst (λ o. Started side (is_wrong_guess o (own_names p side)) ph (epoch (took h)) (until_newkeys (epoch (took h)) (Some 20) (taken_in_first_exchange h))) (sym (first_is c theirs b h e))
      (subst (λ t. Started side wrong ph t (until_newkeys t (Some 20) (taken_in_first_exchange h))) (sym zero_epoch)
      (subst (λ l. Started side wrong ph 0 (Some 20 ∷ l)) (sym none) (step_first side wrong)))

  later_kexinit : (c : Option ℕ) (theirs : Proposal) (b : List ℕ) (h : List Item) → TookAt false p side h (KexInit theirs) b → is_strict side (Took c (KexInit theirs) b ∷ h) ≡ true
      → 0 < length (offers (messages_taken h)) → (is_strict side h ≡ true → SoFar h) → Begun (Took c (KexInit theirs) b ∷ h)
  later_kexinit c theirs b h w st n r =
      let wrong = is_wrong_guess theirs (own_names p side) in
      let same = first_later c theirs b h n in
      let before = subst (λ o. (has_marker (marker_of side) (first_sent h).kex && has_marker (marker_of (peer side)) o.kex) ≡ true) same st in
      subst (λ o. Started side (is_wrong_guess o (own_names p side)) (cond wrong Guessed Exchanging) (epoch (took h)) (until_newkeys (epoch (took h)) (Some 20) (taken_in_first_exchange h))) (sym same)
      (step_later side (Wrong h) (phase p side h) _ _ _ _ keyed ((r before).0 (stays h w.run w.alive)))
    where
      keyed : 0 < epoch (took h)
      keyed = go (at_20 p (phase p side h) _ side h (may_be p side h (KexInit theirs) b w.welcome))
        where
          go : (phase p side h ≡ Start) ⊎ (phase p side h ≡ Normal) → 0 < epoch (took h)
          go (inl s) = absurd (omega (arith, n, ap length (at_start p side h s).none))
          go (inr m) = normal_keyed p side h m

  took_kexinit : (c : Option ℕ) (theirs : Proposal) (b : List ℕ) (h : List Item) → TookAt false p side h (KexInit theirs) b → is_strict side (Took c (KexInit theirs) b ∷ h) ≡ true
      → (is_strict side h ≡ true → SoFar h) → Begun (Took c (KexInit theirs) b ∷ h)
  took_kexinit c theirs b h w st r = go (offers (messages_taken h)) refl
    where
      go : (l : List Offer) → offers (messages_taken h) ≡ l → Begun (Took c (KexInit theirs) b ∷ h)
      go [] e = first_kexinit c theirs b h w st e
      go (x ∷ l) e = later_kexinit c theirs b h w st (omega (arith, ap length e)) r

  took_init : (s : Side) (h : List Item) (wrong : Bool) (ph : Phase) (r : Bool) (t : ℕ) (l : List (Option ℕ)) → is_strict s h ≡ true → epoch (took h) ≡ t → (ph ≡ Guessed → ⊥)
      → may_take_in ph r s h 30 ≡ true → Started s wrong ph t l → Started s wrong Keying t (until_newkeys t (Some 30) l)
  took_init Server h wrong ph r t l st z g e s = step_answer Server h st wrong ph r 30 t l z refl refl refl g e s
  took_init Client h wrong ph r t l st z g e s = step_other Client h st wrong ph Keying r 30 t l z refl refl refl g e s

  took_reply : (s : Side) (h : List Item) (wrong : Bool) (ph : Phase) (r : Bool) (t : ℕ) (l : List (Option ℕ)) → is_strict s h ≡ true → epoch (took h) ≡ t → (ph ≡ Guessed → ⊥)
      → may_take_in ph r s h 31 ≡ true → Started s wrong ph t l → Started s wrong Keying t (until_newkeys t (Some 31) l)
  took_reply Client h wrong ph r t l st z g e s = step_answer Client h st wrong ph r 31 t l z refl refl refl g e s
  took_reply Server h wrong ph r t l st z g e s = step_other Server h st wrong ph Keying r 31 t l z refl refl refl g e s

  -- who took a message did not leave before
  went_on : (h : List Item) (m : Msg) (b : List ℕ) → TakenAt false p side h m b → has_left h ≡ false
  went_on h m b (inl w) = stays h w.run w.alive
  went_on h m b (inr w) = stays h w.1.run w.1.above.alive

  took_aside : (h : List Item) (m : Msg) (b : List ℕ) → IsAside m → is_strict side h ≡ true → TakenAt false p side h m b → Begun h
      → Started side (Wrong h) (phase p side h) (epoch (took h)) (until_newkeys (epoch (took h)) (Some (message_number m)) (taken_in_first_exchange h))
  took_aside h m b a st (inl w) s =
      step_aside side h st (Wrong h) (phase p side h) _ (message_number m) _ _ refl (aside (probing h) m a w.welcome.message_is.context) w.welcome.no_guess (may_be p side h m b w.welcome) s
  took_aside h m b a st (inr w) s = step_later side (Wrong h) (phase p side h) (phase p side h) _ _ _ (normal_keyed p side h w.1.above.normal) s

  so_far : (h : List Item) → Grounds false p side h → is_strict side h ≡ true → SoFar h
  so_far [] g st = absurd (cc st)
  so_far (Took c (KexInit theirs) b ∷ h) g st =
      (λ e. took_kexinit c theirs b h (below false p side h (KexInit theirs) b (omega arith) g.0) st (so_far h g.1), λ e. absurd (not_both (sym e ∙ went_on h (KexInit theirs) b g.0)))
  so_far (Took c (Disconnect r d l) b ∷ h) g st =
      let begun = (so_far h g.1 st).0 (went_on h (Disconnect r d l) b g.0) in
      (λ e. absurd (cc e), λ e. step_leaves side h st (Wrong h) (phase p side h) _ _ begun)
  so_far (Took c NewKeys b ∷ h) g st =
      let w = below false p side h NewKeys b (omega arith) g.0 in
      let begun = (so_far h g.1 st).0 (went_on h NewKeys b g.0) in (
        λ e. step_newkeys side h st (Wrong h) (phase p side h) _ _ _ refl (newkeys_apart side) w.welcome.no_guess (may_be p side h NewKeys b w.welcome) begun,
        λ e. absurd (not_both (sym e ∙ went_on h NewKeys b g.0)),
      )
  so_far (Took c (KexEcdhInit q) b ∷ h) g st =
      let w = below false p side h (KexEcdhInit q) b (omega arith) g.0 in
      let begun = (so_far h g.1 st).0 (went_on h (KexEcdhInit q) b g.0) in (
        λ e. took_init side h (Wrong h) (phase p side h) _ _ _ st refl w.welcome.no_guess (may_be p side h (KexEcdhInit q) b w.welcome) begun,
        λ e. absurd (not_both (sym e ∙ went_on h (KexEcdhInit q) b g.0)),
      )
  so_far (Took c (KexEcdhReply k q s) b ∷ h) g st =
      let w = below false p side h (KexEcdhReply k q s) b (omega arith) g.0 in
      let begun = (so_far h g.1 st).0 (went_on h (KexEcdhReply k q s) b g.0) in (
        λ e. took_reply side h (Wrong h) (phase p side h) _ _ _ st refl w.welcome.no_guess (may_be p side h (KexEcdhReply k q s) b w.welcome) begun,
        λ e. absurd (not_both (sym e ∙ went_on h (KexEcdhReply k q s) b g.0)),
      )
  so_far (Took c m b ∷ h) g st =
      let begun = (so_far h g.1 st).0 (went_on h m b g.0) in (
        λ e. took_aside h m b tt st g.0 begun,
        λ e. absurd (not_both (sym e ∙ went_on h m b g.0)),
      )
  so_far (TookGuess b ∷ h) g st =
      let begun = (so_far h g.1 st).0 (stays h g.0.run g.0.alive) in (
        λ e. step_guess side h st (Wrong h) _ _ (subst (λ ph. Started side (Wrong h) ph (epoch (took h)) (taken_in_first_exchange h)) g.0.guessed begun),
        λ e. absurd (not_both (sym e ∙ stays h g.0.run g.0.alive)),
      )
  so_far (Sent c (KexInit o) b ∷ h) g st = so_far h g.1 (strict_before p side c o b h g.0 st)
  so_far (Sent c m b ∷ h) g st = so_far h g.1 st
  so_far (i ∷ h) g st = so_far h g.1 st

-- ---- in the order of time

abbrev all_of : Side → Bool → List (Option ℕ)
all_of side wrong = Some 20 ∷ (unread wrong ++ (Some (awaited side) ∷ Some 21 ∷ []))

whole_list : (side : Side) (wrong : Bool) (l : List (Option ℕ)) → l ≡ Some 21 ∷ Some (awaited side) ∷ (unread wrong ++ (Some 20 ∷ [])) → reverse l ≡ all_of side wrong
whole_list side true l e = rw e refl
whole_list side false l e = rw e refl

along_as : (side : Side) (wrong : Bool) (l m : List (Option ℕ)) → l ≡ m → Follows (all_of side wrong) (reverse m) → Follows (all_of side wrong) (reverse l)
along_as side wrong l m e a = subst (λ w. Follows (all_of side wrong) (reverse w)) (sym e) a

along_started : (side : Side) (wrong : Bool) (ph : Phase) (t : ℕ) (l : List (Option ℕ)) → Started side wrong ph t l → Follows (all_of side wrong) (reverse l)
along_started side true ph (suc t) l s = along_as side true l _ s (so_far_along (Some 20 ∷ None ∷ Some (awaited side) ∷ Some 21 ∷ []) [] refl)
along_started side false ph (suc t) l s = along_as side false l _ s (so_far_along (Some 20 ∷ Some (awaited side) ∷ Some 21 ∷ []) [] refl)
along_started side wrong Start zero l s = elim s [ ]
along_started side true Guessed zero l s = along_as side true l _ s.1 (so_far_along (Some 20 ∷ []) (None ∷ Some (awaited side) ∷ Some 21 ∷ []) refl)
along_started side false Guessed zero l s = absurd (not_both (sym s.0))
along_started side true Exchanging zero l s = along_as side true l _ s (so_far_along (Some 20 ∷ None ∷ []) (Some (awaited side) ∷ Some 21 ∷ []) refl)
along_started side false Exchanging zero l s = along_as side false l _ s (so_far_along (Some 20 ∷ []) (Some (awaited side) ∷ Some 21 ∷ []) refl)
along_started side true Keying zero l s = along_as side true l _ s (so_far_along (Some 20 ∷ None ∷ Some (awaited side) ∷ []) (Some 21 ∷ []) refl)
along_started side false Keying zero l s = along_as side false l _ s (so_far_along (Some 20 ∷ Some (awaited side) ∷ []) (Some 21 ∷ []) refl)
along_started side wrong Normal zero l s = elim s [ ]

along_gone : (side : Side) (wrong : Bool) (ph : Phase) (l : List (Option ℕ)) → Started side wrong ph zero l → Follows (all_of side wrong) (reverse (Some 1 ∷ l))
along_gone side wrong Start l s = elim s [ ]
along_gone side true Guessed l s = along_as side true _ _ (ap (λ x. Some 1 ∷ x) s.1) (leaves_following (Some 20 ∷ []) (Some (awaited side) ∷ Some 21 ∷ []) None refl)
along_gone side false Guessed l s = absurd (not_both (sym s.0))
along_gone side true Exchanging l s = along_as side true _ _ (ap (λ x. Some 1 ∷ x) s) (leaves_following (Some 20 ∷ None ∷ []) (Some 21 ∷ []) (Some (awaited side)) refl)
along_gone side false Exchanging l s = along_as side false _ _ (ap (λ x. Some 1 ∷ x) s) (leaves_following (Some 20 ∷ []) (Some 21 ∷ []) (Some (awaited side)) refl)
along_gone side true Keying l s = along_as side true _ _ (ap (λ x. Some 1 ∷ x) s) (leaves_following (Some 20 ∷ None ∷ Some (awaited side) ∷ []) [] (Some 21) refl)
along_gone side false Keying l s = along_as side false _ _ (ap (λ x. Some 1 ∷ x) s) (leaves_following (Some 20 ∷ Some (awaited side) ∷ []) [] (Some 21) refl)
along_gone side wrong Normal l s = elim s [ ]

along_left : (side : Side) (wrong : Bool) (t : ℕ) (l : List (Option ℕ)) → Gone side wrong t l → Follows (all_of side wrong) (reverse l)
along_left side wrong zero l g = along_as side wrong l _ g.3 (along_gone side wrong g.0 g.1 g.2)
along_left side wrong (suc t) l g = along_started side wrong Normal (suc t) l g

all_started : (side : Side) (wrong : Bool) (ph : Phase) (t : ℕ) (l : List (Option ℕ)) → 0 < t → Started side wrong ph t l → reverse l ≡ all_of side wrong
all_started side wrong ph zero l n s = absurd (omega (arith, n))
all_started side wrong ph (suc t) l n s = whole_list side wrong l s

all_left : (side : Side) (wrong : Bool) (t : ℕ) (l : List (Option ℕ)) → 0 < t → Gone side wrong t l → reverse l ≡ all_of side wrong
all_left side wrong zero l n g = absurd (omega (arith, n))
all_left side wrong (suc t) l n g = whole_list side wrong l g

offers_it : (s : Strictness) → is_required s ≡ true → is_offered s ≡ true
offers_it Require e = refl
offers_it Offered e = absurd (not_both (sym e))
offers_it Off e = absurd (not_both (sym e))

module _ {K : Type 0} (p : Parties K) (laws : AreLawful p) where
  pub takes_only_exchange : (side : Side) (h : List Item) → TransportRun p side h → is_strict side h ≡ true → TakesOnlyExchange p side h
  takes_only_exchange side h r st = go (has_left h) refl
    where
      far : (has_left h ≡ false → Started side (is_wrong_guess (first_taken h) (own_names p side)) (phase p side h) (epoch (took h)) (taken_in_first_exchange h))
          × (has_left h ≡ true → Gone side (is_wrong_guess (first_taken h) (own_names p side)) (epoch (took h)) (taken_in_first_exchange h))
      far = so_far p laws side h (known p laws side h r).grounds st

      go : (t : Bool) → has_left h ≡ t → TakesOnlyExchange p side h
      go true e = record { along = along_left side _ _ _ (far.1 e); all = λ n. all_left side _ _ _ n (far.1 e) }
      go false e = record { along = along_started side _ _ _ _ (far.0 e); all = λ n. all_started side _ _ _ _ n (far.0 e) }

  -- the first KEXINIT that is taken has the marker, where that is required
  marked : (side : Side) (h : List Item) → Grounds false p side h → is_required (settings_of p side).strictness ≡ true → 0 < length (offers (messages_taken h)) → is_marked side (first_taken h) ≡ true
  marked side [] g q n = absurd (omega (arith, n))
  marked side (Took c (KexInit theirs) b ∷ h) g q n = go (offers (messages_taken h)) refl (marked side h g.1 q)
    where
      first : offers (messages_taken h) ≡ [] → is_marked side (first_taken (Took c (KexInit theirs) b ∷ h)) ≡ true
      first e =
          let w = below false p side h (KexInit theirs) b (omega arith) g.0 in
          let checks = all_passed (answer_checks p side h (KexInit theirs)) w.welcome.not_refused in
          let zero_epoch = at_first p laws side h theirs b w e in
          let is_first : ((epoch (took h) == 0) && is_required (settings_of p side).strictness) ≡ true = rw (zero_epoch, q) refl in
          let it = not_false (is_marked side theirs) (second_false _ (not (is_marked side theirs)) is_first checks.0) in
          subst (λ o. is_marked side o ≡ true) (sym (first_is c theirs b h e)) it

      go : (l : List Offer) → offers (messages_taken h) ≡ l → (0 < length (offers (messages_taken h)) → is_marked side (first_taken h) ≡ true) → is_marked side (first_taken (Took c (KexInit theirs) b ∷ h)) ≡ true
      go [] e r = first e
      go (x ∷ l) e r =
          let some : 0 < length (offers (messages_taken h)) = omega (arith, ap length e) in
          subst (λ o. is_marked side o ≡ true) (sym (first_later c theirs b h some)) (r some)
  marked side (Took c m b ∷ h) g q n = marked side h g.1 q n
  marked side (Sent c m b ∷ h) g q n = marked side h g.1 q n
  marked side (i ∷ h) g q n = marked side h g.1 q n

  pub requires_strict_exchange : (side : Side) (h : List Item) → TransportRun p side h → RequiresStrict p side h
  requires_strict_exchange side h r q n =
      let x = run_keeps p laws side h r in
      let own = own_first p side h x.rules (offers_it _ q) x.offered in
      let theirs = marked side h (known p laws side h r).grounds q n in
      rw (own, theirs) refl
