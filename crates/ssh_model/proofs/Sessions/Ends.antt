-- Older parts of a list that grows at its head.
use Rattle.std.proofs.Common.{◌≡◌, ℕ, ◌<◌, ◌≤◌, List, [], ◌∷◌, ◌++◌, length, reverse, inl, inr, refl, ap, sym, ◌∙◌, arith, append_assoc, append-nil}
use Rattle.std.proofs.lemmas.List.{reverse-append}
use Rattle.ssh_model.specs.declared.side.Side.{Side}
use Rattle.ssh_model.specs.declared.side.Side.TheVariants.{Client, Server}
use Rattle.ssh_model.specs.Protocol.Side.{peer, DoneBy.By, part}
use Rattle.ssh_model.specs.Protocol.Lists.{IsOlder, IsPrefix}
use Rattle.ssh_model.specs.OneEpoch.History.{Item.Sent, Item.Took, Done, sent, took, HasNumber, IsHonestEpoch, TakenInOrder}

pub older_length : {A : Type 0} (o l : List A) → IsOlder o l → length o ≤ length l
older_length o [] e = rw e (omega arith)
older_length o (x ∷ l) (inl e) = rw e (omega arith)
older_length o (x ∷ l) (inr r) = omega (arith, older_length o l r)

pub older_same : {A : Type 0} (o l : List A) → IsOlder o l → length o ≡ length l → o ≡ l
older_same o [] r e = r
older_same o (x ∷ l) (inl r) e = r
older_same o (x ∷ l) (inr r) e = absurd (omega (arith, older_length o l r, e))

has_below : (x : List ℕ) (n : ℕ) (l : List (List ℕ)) → HasNumber x n l → n < length l
has_below x n [] h = elim h [ ]
has_below x n (y ∷ l) (inl h) = omega (arith, h.1)
has_below x n (y ∷ l) (inr h) = omega (arith, has_below x n l h)

-- what has as many below it as are in the old list comes right after that
pub next_is : (x : List ℕ) (o l : List (List ℕ)) → IsOlder o l → HasNumber x (length o) l → IsOlder (x ∷ o) l
next_is x o [] e h = elim h [ ]
next_is x o (y ∷ l) (inl e) (inl n) = absurd (omega (arith, ap length e, n.1))
next_is x o (y ∷ l) (inl e) (inr n) = absurd (omega (arith, ap length e, has_below x (length o) l n))
next_is x o (y ∷ l) (inr r) (inr n) = inr (next_is x o l r n)
next_is x o (y ∷ l) (inr r) (inl n) = inl (let e = older_same o l r n.1 in cc (e, n.0))

-- the invariant: what was taken is an older part of what was sent
pub follows : (run : List Done) → IsHonestEpoch run → (side : Side) → IsOlder (took (part side run)) (sent (part (peer side) run))
follows [] h side = refl
follows (By Client (Sent p) ∷ run) h Client = follows run h Client
follows (By Client (Sent p) ∷ run) h Server = inr (follows run h Server)
follows (By Server (Sent p) ∷ run) h Client = inr (follows run h Client)
follows (By Server (Sent p) ∷ run) h Server = follows run h Server
follows (By Client (Took p) ∷ run) h Client = next_is p _ _ (follows run h.1 Client) h.0
follows (By Client (Took p) ∷ run) h Server = follows run h.1 Server
follows (By Server (Took p) ∷ run) h Client = follows run h.1 Client
follows (By Server (Took p) ∷ run) h Server = next_is p _ _ (follows run h.1 Server) h.0
follows (By Client i ∷ run) h Client = follows run h Client
follows (By Client i ∷ run) h Server = follows run h Server
follows (By Server i ∷ run) h Client = follows run h Client
follows (By Server i ∷ run) h Server = follows run h Server

reverse_older : (o l : List (List ℕ)) → IsOlder o l → IsPrefix (reverse o) (reverse l)
reverse_older o [] e = ([], rw e refl)
reverse_older o (x ∷ l) (inl e) = ([], append-nil (reverse o) ∙ ap reverse e)
reverse_older o (x ∷ l) (inr r) =
    let b = reverse_older o l r in
    (b.0 ++ x ∷ [], sym (append_assoc (reverse o) b.0 (x ∷ [])) ∙ (ap (λ w. w ++ x ∷ []) b.1 ∙ sym (reverse-append (x ∷ []) l)))

pub all_in_order : (run : List Done) → IsHonestEpoch run → TakenInOrder run
all_in_order run h side = reverse_older _ _ (follows run h side)
