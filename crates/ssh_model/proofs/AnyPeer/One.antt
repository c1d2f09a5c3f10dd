-- A server accepts one request at most.
use Rattle.std.proofs.Common.{◌≡◌, ℕ, List, [], ◌∷◌, ◌⊎◌, inl, inr, refl, sym, ◌∙◌, subst, true, Option, None}
use Rattle.ssh_model.specs.Protocol.Lists.{IsOlder}
use Rattle.ssh_model.specs.Protocol.Wire.Message.{Msg.UserauthRequest, Msg.UserauthSuccess}
use Rattle.ssh_model.specs.Protocol.Sessions.Parties.{Parties}
use Rattle.ssh_model.specs.Protocol.Sessions.Items.{Item, Item.Sent, Item.Took}
use Rattle.ssh_model.specs.Protocol.Sessions.Phases.{sent_success}
use Rattle.ssh_model.specs.Protocol.Sessions.AnyPeer.{AcceptedRequest, IsSameRequest}
use Rattle.ssh_model.proofs.Wire.Payloads.{not_both}
use Rattle.ssh_model.proofs.Sessions.Older.{older_self}

-- SUCCESS in an older part
was_sent_success : (c : Option ℕ) (b : List ℕ) (o h : List Item) → IsOlder (Sent c UserauthSuccess b ∷ o) h → sent_success h ≡ true
was_sent_success c b o [] e = absurd (cc e)
was_sent_success c b o (i ∷ h) (inl e) = subst (λ w. sent_success w ≡ true) e refl
was_sent_success c b o (i ∷ h) (inr r) = still i h (was_sent_success c b o h r)
  where
    still : (i : Item) (h : List Item) → sent_success h ≡ true → sent_success (i ∷ h) ≡ true
    still (Sent c UserauthSuccess b) h e = refl
    still (Sent c m b) h e = e
    still i h e = e

older_either : (a b l : List Item) → IsOlder a l → IsOlder b l → IsOlder a b ⊎ IsOlder b a
older_either a b [] x y = inl (let P : List Item → Type 0 = λ w. IsOlder a w in subst P (x ∙ sym y) (older_self a))
older_either a b (i ∷ l) (inl e) y = let P : List Item → Type 0 = λ w. IsOlder b w in inr (subst P (sym e) y)
older_either a b (i ∷ l) (inr x) (inl e) = let P : List Item → Type 0 = λ w. IsOlder a w in inl (subst P (sym e) (inr x))
older_either a b (i ∷ l) (inr x) (inr y) = older_either a b l x y

module _ {K : Type 0} (p : Parties K) where
  same : (h : List Item) (a b : AcceptedRequest p h)
      → IsOlder (Sent None UserauthSuccess a.success ∷ Took None (UserauthRequest a.user a.service a.method) a.payload ∷ a.before)
      (Sent None UserauthSuccess b.success ∷ Took None (UserauthRequest b.user b.service b.method) b.payload ∷ b.before) → IsSameRequest p h a b
  same h a b (inl e) = record { user = cc e; service = cc e; method = cc e; payload = cc e; before = cc e }
  same h a b (inr (inl e)) = absurd (cc e)
  same h a b (inr (inr o)) = absurd (not_both (sym (was_sent_success None a.success _ b.before o) ∙ b.first))

  turned : (h : List Item) (a b : AcceptedRequest p h) → IsSameRequest p h b a → IsSameRequest p h a b
  turned h a b s = record { user = sym s.user; service = sym s.service; method = sym s.method; payload = sym s.payload; before = sym s.before }

  pub one_request : (h : List Item) (a b : AcceptedRequest p h) → IsSameRequest p h a b
  one_request h a b = go (older_either _ _ h a.taken b.taken)
    where
      go : IsOlder (Sent None UserauthSuccess a.success ∷ Took None (UserauthRequest a.user a.service a.method) a.payload ∷ a.before)
          (Sent None UserauthSuccess b.success ∷ Took None (UserauthRequest b.user b.service b.method) b.payload ∷ b.before)
          ⊎ IsOlder (Sent None UserauthSuccess b.success ∷ Took None (UserauthRequest b.user b.service b.method) b.payload ∷ b.before)
          (Sent None UserauthSuccess a.success ∷ Took None (UserauthRequest a.user a.service a.method) a.payload ∷ a.before)
          → IsSameRequest p h a b
      go (inl o) = same h a b o
      go (inr o) = turned h a b (same h b a o)
