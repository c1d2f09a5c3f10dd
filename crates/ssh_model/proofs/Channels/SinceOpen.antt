-- Named channels are stretches under local numbers.
use Rattle.std.proofs.Common.{◌≡◌, ℕ, List, [], ◌∷◌, ◌⊎◌, inl, inr, refl, ap, sym, ◌∙◌, arith, subst, cond, Bool, true, false, ◌==◌, eq-eqb, eqb-true}
use Rattle.ssh_model.specs.declared.side.Side.{Side}
use Rattle.ssh_model.specs.Protocol.Channels.Message.{Message, Message.Open, Message.OpenFailure, Channel, same, over}
use Rattle.ssh_model.specs.State.Channels.Rules.{is_open, OpenedAt, At, Free}
use Rattle.ssh_model.specs.Protocol.Channels.Notes.{Note, Note.Said, Note.Took, Note.Refused, said_all, took_all, said, took, opens}
use Rattle.ssh_model.specs.State.Channels.Rules.{Says, Takes, EndRun, EndRun.start, EndRun.opening, EndRun.saying, EndRun.take_open, EndRun.refuse_open, EndRun.take}
use Rattle.ssh_model.specs.Protocol.Channels.Notes.{next_own, next_theirs}
use Rattle.ssh_model.specs.State.Channels.SinceOpen.{said_since, took_since, EachSinceOpen}
use Rattle.ssh_model.proofs.Channels.Lines.{same_true, same_self, on_hit, on_miss, Unused, unused_said, unused_took, unused_opened, opened_said, opened_took}
use Rattle.ssh_model.proofs.Channels.Local.{Local, over_said, over_took}
use Rattle.ssh_model.proofs.Channels.End.{local}

pub record Literal (h : List Note) : Type 0 where
  pub one : (x y : ℕ) (i : Channel) → OpenedAt x i h → OpenedAt y i h → x ≡ y
  pub is : EachSinceOpen h

said_said : (y x : ℕ) (j : Channel) (m : Message) (n : List Note) → is_open m ≡ false → said_since y (Said x j m ∷ n) ≡ cond (y == x) (m ∷ said_since y n) (said_since y n)
said_said y x j (Open f w k) n e = absurd (cc e)
said_said y x j m n e = refl

took_said : (y x : ℕ) (j : Channel) (m : Message) (n : List Note) → is_open m ≡ false → took_since y (Said x j m ∷ n) ≡ took_since y n
took_said y x j (Open f w k) n e = absurd (cc e)
took_said y x j m n e = refl

took_took : (y x : ℕ) (j : Channel) (m : Message) (n : List Note) → is_open m ≡ false → took_since y (Took x j m ∷ n) ≡ cond (y == x) (m ∷ took_since y n) (took_since y n)
took_took y x j (Open f w k) n e = absurd (cc e)
took_took y x j m n e = refl

said_took : (y x : ℕ) (j : Channel) (m : Message) (n : List Note) → is_open m ≡ false → said_since y (Took x j m ∷ n) ≡ said_since y n
said_took y x j (Open f w k) n e = absurd (cc e)
said_took y x j m n e = refl

-- the two tests agree: of the number, and of the name
tests : (s : Side) (h : List Note) (y x : ℕ) (k j : Channel) → Local s h → Literal h → At y k h → At x j h → (y == x) ≡ same k j
tests s h y x k j v t a b = go (same k j) refl
  where
    go : (c : Bool) → same k j ≡ c → (y == x) ≡ c
    go true e =
        let P : Channel → Type 0 = λ w. OpenedAt y w h in
        let z = t.one y x j (subst P (same_true k j e) a.opened) b.opened in
        rw z (grind (arith, eq-eqb))
    go false e = at (y == x) refl
      where
        at : (c : Bool) → (y == x) ≡ c → c ≡ false
        at false f = refl
        at true f =
            let P : ℕ → Type 0 = λ w. At w k h in
            let z = v.single x k j (subst P (eqb-true y x f) a) b in
            let u : same k j ≡ true = rw z (same_self j) in
            absurd (cc (e, u))

says : (s : Side) (h : List Note) (x : ℕ) (j : Channel) (m : Message) → Local s h → Literal h → Says s h x j m → Literal (Said x j m ∷ h)
says s h x j m v t r = record {
  one = λ y z i a b. t.one y z i (opened_said y i x j m h r.other a) (opened_said z i x j m h r.other b);
  is = λ y k a.
      let b : At y k h = record { opened = opened_said y k x j m h r.other a.opened; live = over_said s h v x j m r.may_follow k a.live } in
      let e = t.is y k b in
      let c = tests s h y x k j v t b r.at in (
        ap (λ l. cond (same k j) (m ∷ l) l) e.0 ∙ (ap (λ q. cond q (m ∷ said_since y h) (said_since y h)) (sym c) ∙ sym (said_said y x j m h r.other)),
        e.1 ∙ sym (took_said y x j m h r.other),
      );
}

takes : (s : Side) (h : List Note) (x : ℕ) (j : Channel) (m : Message) → Local s h → Literal h → Takes s h x j m → Literal (Took x j m ∷ h)
takes s h x j m v t r = record {
  one = λ y z i a b. t.one y z i (opened_took y i x j m h r.other a) (opened_took z i x j m h r.other b);
  is = λ y k a.
      let b : At y k h = record { opened = opened_took y k x j m h r.other a.opened; live = over_took s h v x j m r.may_follow k a.live } in
      let e = t.is y k b in
      let c = tests s h y x k j v t b r.at in (
        e.0 ∙ sym (said_took y x j m h r.other),
        ap (λ l. cond (same k j) (m ∷ l) l) e.1 ∙ (ap (λ q. cond q (m ∷ took_since y h) (took_since y h)) (sym c) ∙ sym (took_took y x j m h r.other)),
      );
}

-- an OPEN on a new name at a free number
module _ (h : List Note) (x : ℕ) (i : Channel) (t : Literal h) (none : Unused i h) (free : Free x h) where
  one_new : (y z : ℕ) (k : Channel) → ((y ≡ x) × (k ≡ i)) ⊎ OpenedAt y k h → ((z ≡ x) × (k ≡ i)) ⊎ OpenedAt z k h → y ≡ z
  one_new y z k (inl a) (inl b) = a.0 ∙ sym b.0
  one_new y z k (inl a) (inr b) = let P : Channel → Type 0 = λ w. OpenedAt z w h in absurd (unused_opened z i h none (subst P a.1 b))
  one_new y z k (inr a) (inl b) = let P : Channel → Type 0 = λ w. OpenedAt y w h in absurd (unused_opened y i h none (subst P b.1 a))
  one_new y z k (inr a) (inr b) = t.one y z k a b

  other_name : (y : ℕ) (k : Channel) → OpenedAt y k h → same k i ≡ false
  other_name y k o = go (same k i) refl
    where
      go : (c : Bool) → same k i ≡ c → c ≡ false
      go false e = refl
      go true e = let P : Channel → Type 0 = λ w. OpenedAt y w h in absurd (unused_opened y i h none (subst P (same_true k i e) o))

  other_number : (y : ℕ) (k : Channel) → At y k h → (y == x) ≡ false
  other_number y k a = go (y == x) refl
    where
      go : (c : Bool) → (y == x) ≡ c → c ≡ false
      go false e = refl
      go true e =
          let P : ℕ → Type 0 = λ w. OpenedAt w k h in
          let z = free k (subst P (eqb-true y x e) a.opened) in
          let l = a.live in
          absurd (cc (z, l))

  here : (y : ℕ) → y ≡ x → (y == x) ≡ true
  here y e = rw e (grind (arith, eq-eqb))

  pub opening_literal : (f w k : ℕ) → Literal (Said x i (Open f w k) ∷ h)
  opening_literal f w k = record { one = one_new; is = λ y q a. go y q a.opened a.live }
    where
      go : (y : ℕ) (q : Channel) → ((y ≡ x) × (q ≡ i)) ⊎ OpenedAt y q h → over (said q (Said x i (Open f w k) ∷ h)) (took q h) ≡ false
          → (said q (Said x i (Open f w k) ∷ h) ≡ cond (y == x) (Open f w k ∷ []) (said_since y h)) × (took q h ≡ cond (y == x) [] (took_since y h))
      go y q (inl e) live =
          let Q : Channel → Type 0 = λ w. Unused w h in
          let u = subst Q (sym e.1) none in
          let a : same q i ≡ true = rw e.1 (same_self i) in
          let c = here y e.0 in (
            on_hit q i (Open f w k) (said_all h) a ∙ (ap (λ l. Open f w k ∷ l) (unused_said q h u) ∙ sym (ap (λ d. cond d (Open f w k ∷ []) (said_since y h)) c)),
            unused_took q h u ∙ sym (ap (λ d. cond d [] (took_since y h)) c),
          )
      go y q (inr o) live =
          let n = other_name y q o in
          let m = on_miss q i (Open f w k) (said_all h) n in
          let P : List Message → Type 0 = λ l. over l (took q h) ≡ false in
          let b : At y q h = record { opened = o; live = subst P m live } in
          let e = t.is y q b in
          let c = other_number y q b in
          (m ∙ (e.0 ∙ sym (ap (λ d. cond d (Open f w k ∷ []) (said_since y h)) c)), e.1 ∙ sym (ap (λ d. cond d [] (took_since y h)) c))

  pub take_open_literal : (f w k : ℕ) → Literal (Took x i (Open f w k) ∷ h)
  take_open_literal f w k = record { one = one_new; is = λ y q a. go y q a.opened a.live }
    where
      go : (y : ℕ) (q : Channel) → ((y ≡ x) × (q ≡ i)) ⊎ OpenedAt y q h → over (said q h) (took q (Took x i (Open f w k) ∷ h)) ≡ false
          → (said q h ≡ cond (y == x) [] (said_since y h)) × (took q (Took x i (Open f w k) ∷ h) ≡ cond (y == x) (Open f w k ∷ []) (took_since y h))
      go y q (inl e) live =
          let Q : Channel → Type 0 = λ w. Unused w h in
          let u = subst Q (sym e.1) none in
          let a : same q i ≡ true = rw e.1 (same_self i) in
          let c = here y e.0 in (
            unused_said q h u ∙ sym (ap (λ d. cond d [] (said_since y h)) c),
            on_hit q i (Open f w k) (took_all h) a ∙ (ap (λ l. Open f w k ∷ l) (unused_took q h u) ∙ sym (ap (λ d. cond d (Open f w k ∷ []) (took_since y h)) c)),
          )
      go y q (inr o) live =
          let n = other_name y q o in
          let m = on_miss q i (Open f w k) (took_all h) n in
          let P : List Message → Type 0 = λ l. over (said q h) l ≡ false in
          let b : At y q h = record { opened = o; live = subst P m live } in
          let e = t.is y q b in
          let c = other_number y q b in
          (e.0 ∙ sym (ap (λ d. cond d [] (said_since y h)) c), m ∙ (e.1 ∙ sym (ap (λ d. cond d (Open f w k ∷ []) (took_since y h)) c)))

-- an OPEN that is refused for want of a place
refused : (s : Side) (h : List Note) (f w k : ℕ) → Local s h → Literal h → Literal (Refused (next_theirs s h) f w k ∷ h)
refused s h f w k v t = record {
  one = λ y z i a b. t.one y z i a b;
  is = λ y q a.
      let n = other y q a.opened in
      let p = on_miss q (next_theirs s h) (OpenFailure f) (said_all h) n in
      let r = on_miss q (next_theirs s h) (Open f w k) (took_all h) n in
      let b : At y q h = record { opened = a.opened; live = over_kept p r a.live } in
      let e = t.is y q b in
      (p ∙ e.0, r ∙ e.1);
}
  where
    none : Unused (next_theirs s h) h
    none = v.fresh_peer (opens (took_all h)) (omega arith)

    other : (y : ℕ) (q : Channel) → OpenedAt y q h → same q (next_theirs s h) ≡ false
    other y q o = go (same q (next_theirs s h)) refl
      where
        go : (c : Bool) → same q (next_theirs s h) ≡ c → c ≡ false
        go false e = refl
        go true e = let P : Channel → Type 0 = λ w. OpenedAt y w h in absurd (unused_opened y (next_theirs s h) h none (subst P (same_true q (next_theirs s h) e) o))

    over_kept : {a b c d : List Message} → a ≡ c → b ≡ d → over a b ≡ false → over c d ≡ false
    over_kept p r e = rw (p, r) at e

nothing : Literal []
nothing = record { one = λ x y i a b. elim a [ ]; is = λ x i a. elim a.opened [ ] }

pub literal : (s : Side) (h : List Note) → EndRun s h → Literal h
literal s h start = nothing
literal s h (opening {notes = b} x w k r free small) = opening_literal b x (next_own s b) (literal s b r) ((local s b r).fresh (opens (said_all b)) (omega arith)) free x w k
literal s h (saying {notes = b} x i m r may) = says s b x i m (local s b r) (literal s b r) may
literal s h (take_open {notes = b} x f w k r free) =
    take_open_literal b x (next_theirs s b) (literal s b r) ((local s b r).fresh_peer (opens (took_all b)) (omega arith)) free f w k
literal s h (refuse_open {notes = b} f w k r) = refused s b f w k (local s b r) (literal s b r)
literal s h (take {notes = b} x i m r may) = takes s b x i m (local s b r) (literal s b r) may

pub channels_since_open : (s : Side) (h : List Note) → EndRun s h → EachSinceOpen h
channels_since_open s h r = (literal s h r).is
