-- Laws of the definitions by themselves.
use Rattle.std.proofs.Common.{◌≡◌, ℕ, ◌-◌, ◌<◌, List, ◌∷◌, length, ◌⊎◌, inl, inr, refl, ap, ◌∙◌, arith, zero, suc, Bool, true, false, not, ◌&&◌, ◌||◌, nat_lt, eqb, eqb-true, eq-eqb, Option}
use Rattle.std.proofs.lemmas.Bool.{ltb-true}
use Rattle.ssh_model.specs.Protocol.Bounds.{most_channels}
use Rattle.ssh_model.specs.declared.side.Side.{Side}
use Rattle.ssh_model.specs.Protocol.Channels.Message.{Message, Message.Data, Message.Request, Message.Reply, Channel, Stage, Stage.Closed, Stage.Failed, stage, over_at, over, window, spent}
use Rattle.ssh_model.specs.Protocol.Channels.Notes.{Note, Note.Said, Note.Took, said, took, said_all, took_all, channel_at}
use Rattle.ssh_model.specs.State.Channels.Rules.{At, Free, EndRun}
use Rattle.ssh_model.specs.Protocol.Channels.Numbers.{is_held, has_closed, send_window, receive_window, waiting_here, waiting_there}
use Rattle.ssh_model.specs.Protocol.Channels.History.{Item, noted, owed, is_owed, is_free, some_free, has_place}
use Rattle.ssh_model.proofs.Channels.Lines.{same_self, on_hit}
use Rattle.ssh_model.proofs.Channels.State.{at_held, free_number}
use Rattle.ssh_model.proofs.Channels.End.{local}

pub took_data : (x t : ℕ) (k : Option ℕ) (b : List ℕ) (n : List Note) → receive_window x (Took x (channel_at x n) (Data t k b) ∷ n) ≡ receive_window x n - length b
took_data x t k b n =
    let i = channel_at x n in
    ap (λ l. window (said i n) - spent l) (on_hit i i (Data t k b) (took_all n) (same_self i)) ∙ omega arith

pub said_data : (x t : ℕ) (k : Option ℕ) (b : List ℕ) (n : List Note) → send_window x (Said x (channel_at x n) (Data t k b) ∷ n) ≡ send_window x n - length b
said_data x t k b n =
    let i = channel_at x n in
    ap (λ l. window (took i n) - spent l) (on_hit i i (Data t k b) (said_all n) (same_self i)) ∙ omega arith

pub over_is : (a b : Stage) → over_at a b ≡ true → ((a ≡ Closed) × (b ≡ Closed)) ⊎ ((a ≡ Failed) ⊎ (b ≡ Failed))
over_is Closed Closed e = inl (refl, refl)
over_is Failed t e = inr (inl refl)
over_is q Failed e = inr (inr refl)
over_is q t e = absurd (cc e)

pub over_lists : (a b : List Message) → over a b ≡ true → ((stage a ≡ Closed) × (stage b ≡ Closed)) ⊎ ((stage a ≡ Failed) ⊎ (stage b ≡ Failed))
over_lists a b e = over_is (stage a) (stage b) e

pub free_is : (s : Side) (n : List Note) (x : ℕ) → EndRun s n → is_held x n ≡ false → Free x n
free_is s n x r e = free_number s x n (local s n r) e

pub held_is : (s : Side) (n : List Note) (x : ℕ) (i : Channel) → EndRun s n → At x i n → (is_held x n ≡ true) × (channel_at x n ≡ i)
held_is s n x i r a = let v = local s n r in (at_held s x i n v a, v.current x i a)

pub request_taken : (x t : ℕ) (n : List Note) → has_closed x n ≡ false → waiting_here x (Took x (channel_at x n) (Request t true) ∷ n) ≡ suc (waiting_here x n)
request_taken x t n e = rw (same_self (channel_at x n), e) refl

pub request_late : (x t : ℕ) (n : List Note) → has_closed x n ≡ true → waiting_here x (Took x (channel_at x n) (Request t true) ∷ n) ≡ waiting_here x n
request_late x t n e = rw (same_self (channel_at x n), e) refl

pub reply_said : (x t : ℕ) (b : Bool) (n : List Note) → waiting_here x (Said x (channel_at x n) (Reply t b) ∷ n) ≡ waiting_here x n - 1
reply_said x t b n = rw (same_self (channel_at x n)) refl

pub request_said : (x t : ℕ) (n : List Note) → waiting_there x (Said x (channel_at x n) (Request t true) ∷ n) ≡ suc (waiting_there x n)
request_said x t n = rw (same_self (channel_at x n)) refl

pub reply_taken : (x t : ℕ) (b : Bool) (n : List Note) → waiting_there x (Took x (channel_at x n) (Reply t b) ∷ n) ≡ waiting_there x n - 1
reply_taken x t b n = rw (same_self (channel_at x n)) refl

-- ---- places

found : (s : Side) (h : List Item) (k : ℕ) → some_free s h k ≡ true → (x : ℕ) × (is_free s h x ≡ true)
unfolding some_free
found s h zero e = absurd (cc e)
found s h (suc k) e = go (is_free s h k) refl (found s h k) e
  where
    go : (b : Bool) → is_free s h k ≡ b → (some_free s h k ≡ true → (x : ℕ) × (is_free s h x ≡ true)) → (b || some_free s h k) ≡ true → (x : ℕ) × (is_free s h x ≡ true)
    go true q r e = (k, q)
    go false q r e = r e

split : (x k : ℕ) → x < suc k → (x ≡ k) ⊎ (x < k)
split x k l = go (eqb x k) refl
  where
    go : (b : Bool) → eqb x k ≡ b → (x ≡ k) ⊎ (x < k)
    go true e = inl (eqb-true x k e)
    go false e = inr (grind (arith, eq-eqb, l, e))

none_free : (s : Side) (h : List Item) (x k : ℕ) → x < k → some_free s h k ≡ false → is_free s h x ≡ false
unfolding some_free
none_free s h x zero l e = absurd (omega (arith, l))
none_free s h x (suc k) l e = go (is_free s h k) refl (none_free s h x k) (split x k l) e
  where
    go : (b : Bool) → is_free s h k ≡ b → (x < k → some_free s h k ≡ false → is_free s h x ≡ false) → (x ≡ k) ⊎ (x < k) → (b || some_free s h k) ≡ false → is_free s h x ≡ false
    go true q r d e = absurd (cc e)
    go false q r (inl d) e = rw d q
    go false q r (inr d) e = r d e

pub place_is : (s : Side) (h : List Item) → has_place s h ≡ true → (x : ℕ) × (is_free s h x ≡ true)
unfolding has_place
place_is s h e = found s h most_channels e

pub full_is : (s : Side) (h : List Item) (x : ℕ) → has_place s h ≡ false → is_free s h x ≡ false
unfolding has_place
full_is s h x e = go (nat_lt x most_channels) refl
  where
    go : (b : Bool) → nat_lt x most_channels ≡ b → (b && (not (is_held x (noted s h)) && not (is_owed x (owed s h)))) ≡ false
    go false q = refl
    go true q = let z = none_free s h x most_channels (ltb-true x most_channels q) e in rw q at z
