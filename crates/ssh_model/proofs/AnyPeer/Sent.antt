-- What an end says before it has a key is the exchange and nothing else, whoever its peer is and whatever the layers above
-- its transport do.
use Rattle.std.proofs.Common.{◌≡◌, ℕ, zero, suc, ◌<◌, List, [], ◌∷◌, ◌++◌, length, reverse, inl, inr, refl, ap, sym, ◌∙◌, subst, arith, true, false}
use Rattle.ssh_model.specs.declared.side.Side.{Side}
use Rattle.ssh_model.specs.declared.side.Side.TheVariants.{Client, Server}
use Rattle.ssh_model.specs.Protocol.Side.{peer}
use Rattle.ssh_model.specs.Protocol.Wire.Message.{Msg.Disconnect, Msg.Unimplemented, Msg.KexInit, Msg.NewKeys, Msg.KexEcdhInit, Msg.KexEcdhReply, Msg.UserauthSuccess, Msg.Unknown, message_number}
use Rattle.ssh_model.specs.Protocol.Sessions.Parties.{Parties, AreLawful}
use Rattle.ssh_model.specs.Protocol.Sessions.Items.{Item, Item.Sent, Item.Took, sent, messages_sent}
use Rattle.ssh_model.specs.Protocol.Sessions.Epochs.{epoch}
use Rattle.ssh_model.specs.Protocol.KeyExchange.Exchanges.{offers, points, replies}
use Rattle.ssh_model.specs.Protocol.Sessions.Phases.{awaited}
use Rattle.ssh_model.specs.Protocol.Sessions.AnyLayers.{TransportRun}
use Rattle.ssh_model.specs.Protocol.Sessions.TurnClaims.{KeepsToExchange, is_sent_while_blocked}
use Rattle.ssh_model.specs.Protocol.Sessions.AnyPeer.{until_newkeys, sent_in_first_exchange, exchange_sent, SendsOnlyExchange}
use Rattle.ssh_model.proofs.Wire.Payloads.{not_both}
use Rattle.ssh_model.proofs.Sessions.Blocked.{run_keeps_to_exchange}
use Rattle.ssh_model.proofs.AnyPeer.Keeps.{Grounds, UnknownAt}
use Rattle.ssh_model.proofs.AnyPeer.Rows.{known}
use Rattle.ssh_model.proofs.AnyPeer.Clear.{blocked_at_first}

-- what was said, by how many KEXINITs and how many points or replies were sent
abbrev Shape : Side → ℕ → ℕ → List ℕ → Type 0
Shape side zero n l = (n ≡ 0) × (l ≡ [])
Shape side (suc zero) zero l = l ≡ 20 ∷ []
Shape side (suc zero) (suc zero) l = l ≡ awaited (peer side) ∷ 20 ∷ []
Shape side (suc zero) (suc (suc n)) l = ⊥
Shape side (suc (suc k)) n l = ⊥

-- and by how many NEWKEYS
abbrev Said : Side → ℕ → ℕ → ℕ → List ℕ → Type 0
Said side zero k n l = Shape side k n l
Said side (suc e) k n l = l ≡ 21 ∷ awaited (peer side) ∷ 20 ∷ []

step_kexinit : (side : Side) (e k n : ℕ) (l : List ℕ) → (e ≡ 0 → 0 < k → ⊥) → Said side e k n l → Said side e (suc k) n (until_newkeys e 20 l)
step_kexinit side (suc e) k n l f s = s
step_kexinit side zero zero n l f s = rw (s.0, s.1) refl
step_kexinit side zero (suc k) n l f s = absurd (f refl (omega arith))

step_speaks : (side : Side) (e k n : ℕ) (l : List ℕ) → n ≡ e → 0 < k → Said side e k n l → Said side e k (suc n) (until_newkeys e (awaited (peer side)) l)
step_speaks side (suc e) k n l f o s = s
step_speaks side zero zero n l f o s = absurd (omega (arith, o))
step_speaks side zero (suc zero) zero l f o s = ap (λ x. awaited (peer side) ∷ x) s
step_speaks side zero (suc zero) (suc n) l f o s = absurd (omega (arith, f))
step_speaks side zero (suc (suc k)) n l f o s = elim s [ ]

step_newkeys : (side : Side) (e k n : ℕ) (l : List ℕ) → n ≡ suc e → 0 < k → Said side e k n l → Said side (suc e) k n (until_newkeys e 21 l)
step_newkeys side (suc e) k n l f o s = s
step_newkeys side zero zero n l f o s = absurd (omega (arith, o))
step_newkeys side zero (suc zero) zero l f o s = absurd (omega (arith, f))
step_newkeys side zero (suc zero) (suc zero) l f o s = ap (λ x. 21 ∷ x) s
step_newkeys side zero (suc zero) (suc (suc n)) l f o s = elim s [ ]
step_newkeys side zero (suc (suc k)) n l f o s = elim s [ ]

step_later : (side : Side) (e k n x : ℕ) (l : List ℕ) → (e ≡ 0 → ⊥) → Said side e k n l → Said side e k n (until_newkeys e x l)
step_later side (suc e) k n x l f s = s
step_later side zero k n x l f s = absurd (f refl)

unknown_later : (h : List Item) (n : ℕ) → UnknownAt n h → (epoch (sent h) ≡ 0 → is_sent_while_blocked n ≡ true) → epoch (sent h) ≡ 0 → ⊥
unknown_later h n (o, inl f) k z = not_both (sym (k z) ∙ f)
unknown_later h n (o, inr f) k z = omega (arith, z, f)

module _ {K : Type 0} (p : Parties K) where
  sent_by_client : (h : List Item) → Grounds false p Client h → KeepsToExchange h
      → Said Client (epoch (sent h)) (length (offers (messages_sent h))) (length (points (messages_sent h))) (sent_in_first_exchange h)
  sent_by_client [] g k = (refl, refl)
  sent_by_client (Sent c (KexInit o) b ∷ h) g k =
      step_kexinit Client _ _ _ _ (λ z n. not_both (sym (blocked_at_first h z n) ∙ g.0.later n)) (sent_by_client h g.1 k.1)
  sent_by_client (Sent c (KexEcdhInit q) b ∷ h) g k = step_speaks Client _ _ _ _ g.0.level g.0.offered (sent_by_client h g.1 k.1)
  sent_by_client (Sent c (KexEcdhReply y q s) b ∷ h) g k = let e = g.0.side_is in absurd (cc e)
  sent_by_client (Sent c NewKeys b ∷ h) g k = step_newkeys Client _ _ _ _ g.0.spoke g.0.offered (sent_by_client h g.1 k.1)
  sent_by_client (Sent c (Disconnect r d l) b ∷ h) g k = sent_by_client h g.1 k.1
  sent_by_client (Sent c (Unimplemented n) b ∷ h) g k = step_later Client _ _ _ 3 _ (λ z. omega (arith, z, g.0.keyed)) (sent_by_client h g.1 k.1)
  sent_by_client (Sent c UserauthSuccess b ∷ h) g k =
      step_later Client _ _ _ 52 _ (λ z. not_both (sym (k.0 (blocked_at_first h z g.0.0)))) (sent_by_client h g.1 k.1)
  sent_by_client (Sent c (Unknown n) b ∷ h) g k =
      step_later Client _ _ _ n _ (unknown_later h n g.0 (λ z. k.0 (blocked_at_first h z g.0.0))) (sent_by_client h g.1 k.1)
  sent_by_client (Sent c m b ∷ h) g k =
      step_later Client _ _ _ (message_number m) _ (λ z. not_both (sym (k.0 (blocked_at_first h z g.0)))) (sent_by_client h g.1 k.1)
  sent_by_client (Took c m b ∷ h) g k = sent_by_client h g.1 k
  sent_by_client (i ∷ h) g k = sent_by_client h g.1 k

  sent_by_server : (h : List Item) → Grounds false p Server h → KeepsToExchange h
      → Said Server (epoch (sent h)) (length (offers (messages_sent h))) (length (replies (messages_sent h))) (sent_in_first_exchange h)
  sent_by_server [] g k = (refl, refl)
  sent_by_server (Sent c (KexInit o) b ∷ h) g k =
      step_kexinit Server _ _ _ _ (λ z n. not_both (sym (blocked_at_first h z n) ∙ g.0.later n)) (sent_by_server h g.1 k.1)
  sent_by_server (Sent c (KexEcdhInit q) b ∷ h) g k = let e = g.0.side_is in absurd (cc e)
  sent_by_server (Sent c (KexEcdhReply y q s) b ∷ h) g k = step_speaks Server _ _ _ _ g.0.level g.0.offered (sent_by_server h g.1 k.1)
  sent_by_server (Sent c NewKeys b ∷ h) g k = step_newkeys Server _ _ _ _ g.0.spoke g.0.offered (sent_by_server h g.1 k.1)
  sent_by_server (Sent c (Disconnect r d l) b ∷ h) g k = sent_by_server h g.1 k.1
  sent_by_server (Sent c (Unimplemented n) b ∷ h) g k = step_later Server _ _ _ 3 _ (λ z. omega (arith, z, g.0.keyed)) (sent_by_server h g.1 k.1)
  sent_by_server (Sent c UserauthSuccess b ∷ h) g k =
      step_later Server _ _ _ 52 _ (λ z. not_both (sym (k.0 (blocked_at_first h z g.0.0)))) (sent_by_server h g.1 k.1)
  sent_by_server (Sent c (Unknown n) b ∷ h) g k =
      step_later Server _ _ _ n _ (unknown_later h n g.0 (λ z. k.0 (blocked_at_first h z g.0.0))) (sent_by_server h g.1 k.1)
  sent_by_server (Sent c m b ∷ h) g k =
      step_later Server _ _ _ (message_number m) _ (λ z. not_both (sym (k.0 (blocked_at_first h z g.0)))) (sent_by_server h g.1 k.1)
  sent_by_server (Took c m b ∷ h) g k = sent_by_server h g.1 k
  sent_by_server (i ∷ h) g k = sent_by_server h g.1 k

-- ---- in the order of time

begun_as : (side : Side) (l m rest : List ℕ) → l ≡ m → reverse m ++ rest ≡ exchange_sent side → (r : List ℕ) × (reverse l ++ r ≡ exchange_sent side)
begun_as side l m rest e f = (rest, subst (λ w. reverse w ++ rest ≡ exchange_sent side) (sym e) f)

begun : (side : Side) (e k n : ℕ) (l : List ℕ) → Said side e k n l → (rest : List ℕ) × (reverse l ++ rest ≡ exchange_sent side)
begun side (suc e) k n l s = begun_as side l _ [] s refl
begun side zero zero n l s = begun_as side l _ (exchange_sent side) s.1 refl
begun side zero (suc zero) zero l s = begun_as side l _ (awaited (peer side) ∷ 21 ∷ []) s refl
begun side zero (suc zero) (suc zero) l s = begun_as side l _ (21 ∷ []) s refl
begun side zero (suc zero) (suc (suc n)) l s = elim s [ ]
begun side zero (suc (suc k)) n l s = elim s [ ]

whole : (side : Side) (e k n : ℕ) (l : List ℕ) → 0 < e → Said side e k n l → reverse l ≡ exchange_sent side
whole side zero k n l o s = absurd (omega (arith, o))
whole side (suc e) k n l o s = ap reverse s

module _ {K : Type 0} (p : Parties K) (laws : AreLawful p) where
  pub sends_only_exchange : (side : Side) (h : List Item) → TransportRun p side h → SendsOnlyExchange side h
  sends_only_exchange Client h r =
      let s = sent_by_client p h (known p laws Client h r).grounds (run_keeps_to_exchange p laws Client h r) in
      record { along = begun Client _ _ _ _ s; all = λ o. whole Client _ _ _ _ o s }
  sends_only_exchange Server h r =
      let s = sent_by_server p h (known p laws Server h r).grounds (run_keeps_to_exchange p laws Server h r) in
      record { along = begun Server _ _ _ _ s; all = λ o. whole Server _ _ _ _ o s }
