-- A KEXINIT that was sent or taken is told by its payload.
use Rattle.std.proofs.Common.{◌≡◌, ℕ, List, [], ◌∷◌, length, ◌⊎◌, inl, inr, ap, sym, ◌∙◌, refl, subst, Bool, true, false, cond, ◌==◌}
use Rattle.ssh_model.specs.Protocol.Wire.Message.{Msg.KexInit, Msg.UserauthSuccess, IsPayload, Proposal}
use Rattle.ssh_model.specs.Protocol.Sessions.Parties.{Parties}
use Rattle.ssh_model.specs.Protocol.Sessions.Items.{Item, Item.Sent, Item.Took, Encoded, Encoded.EncodedBy, messages_sent, messages_taken}
use Rattle.ssh_model.specs.Protocol.KeyExchange.Exchanges.{Offer, nth, no_offer, offers}
use Rattle.ssh_model.proofs.Wire.Payloads.{tag}
use Rattle.ssh_model.proofs.Wire.OneMessage.{same_message}
use Rattle.ssh_model.proofs.Sessions.Encoding.{encoded_is_read}
use Rattle.ssh_model.proofs.Sessions.Sound.{AllFormed}

pub IsReal : Offer → Type 0
IsReal o = (o ≡ no_offer) ⊎ IsPayload true (KexInit o.proposal) o.payload

pub AllRead : List Encoded → Type 0
AllRead [] = Unit {0}
AllRead (EncodedBy m b ∷ l) = IsPayload true m b × AllRead l

pub sent_read : {K : Type 0} (p : Parties K) (h : List Item) → AllFormed p h → AllRead (messages_sent h)
unfolding AllRead
sent_read p [] f = tt
sent_read p (Sent c UserauthSuccess b ∷ h) f = (encoded_is_read _ b f.0.0, sent_read p h f.1)
sent_read p (Sent c m b ∷ h) f = (encoded_is_read _ b f.0.0, sent_read p h f.1)
sent_read p (i ∷ h) f = sent_read p h f.1

pub taken_read : {K : Type 0} (p : Parties K) (h : List Item) → AllFormed p h → AllRead (messages_taken h)
unfolding AllRead
taken_read p [] f = tt
taken_read p (Took c m b ∷ h) f = (f.0.0, taken_read p h f.1)
taken_read p (i ∷ h) f = taken_read p h f.1

pub nth_real : (e : ℕ) (l : List Encoded) → AllRead l → IsReal (nth no_offer e (offers l))
unfolding AllRead IsReal
nth_real e [] r = inl refl
nth_real e (EncodedBy (KexInit o) b ∷ l) r = go (e == length (offers l)) (nth_real e l r.1)
  where
    go : (t : Bool) → IsReal (nth no_offer e (offers l)) → IsReal (cond t (record { proposal = o; payload = b }) (nth no_offer e (offers l)))
    go true x = inr r.0
    go false x = x
nth_real e (EncodedBy m b ∷ l) r = nth_real e l r.1

no_payload : (o : Proposal) (b : List ℕ) → IsPayload true (KexInit o) b → [] ≡ b → {A : Type 0} → A
no_payload o b s e = let t = tag (KexInit o) b true s in absurd (cc (e, t.1))

same_proposal : (a b : Proposal) → KexInit a ≡ KexInit b → a ≡ b
same_proposal a b e = cc

pub same_offer : (a b : Offer) → IsReal a → IsReal b → a.payload ≡ b.payload → a ≡ b
unfolding IsReal
same_offer a b (inl x) (inl y) e = x ∙ sym y
same_offer a b (inl x) (inr y) e = no_payload b.proposal b.payload y (sym (ap (λ o. o.payload) x) ∙ e)
same_offer a b (inr x) (inl y) e = no_payload a.proposal a.payload x (sym (e ∙ ap (λ o. o.payload) y))
same_offer a b (inr x) (inr y) e =
    let q = same_proposal a.proposal b.proposal (same_message _ _ b.payload (subst (λ w. IsPayload true (KexInit a.proposal) w) e x) y) in
    λ i. record { proposal = q i; payload = e i }
