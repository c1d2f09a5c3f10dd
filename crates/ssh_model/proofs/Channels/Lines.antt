-- Lines of all channels, and those of one.
use Rattle.std.proofs.Common.{◌≡◌, ℕ, suc, ◌<◌, List, [], ◌∷◌, length, map, inl, inr, refl, ap, sym, ◌∙◌, arith, cond, eq-eqb, eqb-true, ne_eqb, Bool, true, false}
use Rattle.ssh_model.proofs.Sessions.Ends.{older_length, older_same}
use Rattle.ssh_model.specs.declared.side.Side.{Side}
use Rattle.ssh_model.specs.declared.side.Side.TheVariants.{Client, Server}
use Rattle.ssh_model.specs.Protocol.Side.{peer}
use Rattle.ssh_model.specs.Protocol.Lists.{IsOlder}
use Rattle.ssh_model.specs.Protocol.Channels.Message.{Message, Message.Open, Message.OpenFailure, Channel, Channel.Opened, same, mine}
use Rattle.ssh_model.specs.State.Channels.Rules.{is_open, payload, OpenedAt}
use Rattle.ssh_model.specs.Protocol.Channels.Notes.{Line, Line.On, Note, Note.Said, Note.Took, Note.Refused, said_all, took_all, on, said, took, opens}

pub same_true : (i j : Channel) → same i j ≡ true → i ≡ j
same_true (Opened Client a) (Opened Client b) e = ap (Opened Client) (eqb-true a b e)
same_true (Opened Server a) (Opened Server b) e = ap (Opened Server) (eqb-true a b e)
same_true (Opened Client a) (Opened Server b) e = absurd (cc e)
same_true (Opened Server a) (Opened Client b) e = absurd (cc e)

pub same_self : (i : Channel) → same i i ≡ true
same_self (Opened Client a) = grind (arith, eq-eqb)
same_self (Opened Server a) = grind (arith, eq-eqb)

pub same_not : (s : Side) (a b : ℕ) → b < a → same (Opened s a) (Opened s b) ≡ false
same_not Client a b h = ne_eqb a b (λ e. omega (arith, e))
same_not Server a b h = ne_eqb a b (λ e. omega (arith, e))

pub same_other : (s : Side) (a b : ℕ) → same (Opened s a) (Opened (peer s) b) ≡ false
same_other Client a b = refl
same_other Server a b = refl

pub same_peer : (s : Side) (a b : ℕ) → same (Opened (peer s) a) (Opened s b) ≡ false
same_peer Client a b = refl
same_peer Server a b = refl

pub mine_own : (s : Side) (n : ℕ) → mine s (Opened s n) ≡ true
mine_own Client n = refl
mine_own Server n = refl

pub mine_peer : (s : Side) (n : ℕ) → mine s (Opened (peer s) n) ≡ false
mine_peer Client n = refl
mine_peer Server n = refl

pub mine_twice : (s : Side) (i : Channel) → mine (peer (peer s)) i ≡ mine s i
mine_twice Client i = refl
mine_twice Server i = refl

pub on_hit : (i j : Channel) (m : Message) (l : List Line) → same i j ≡ true → on i (On j m ∷ l) ≡ m ∷ on i l
on_hit i j m l e = ap (λ b. cond b (m ∷ on i l) (on i l)) e

pub on_miss : (i j : Channel) (m : Message) (l : List Line) → same i j ≡ false → on i (On j m ∷ l) ≡ on i l
on_miss i j m l e = ap (λ b. cond b (m ∷ on i l) (on i l)) e

pub older_self : {A : Type 0} (l : List A) → IsOlder l l
older_self [] = refl
older_self (x ∷ l) = inl refl

pub on_older : (i : Channel) (o l : List Line) → IsOlder o l → IsOlder (on i o) (on i l)
on_older i o [] e = rw e refl
on_older i o (On j m ∷ l) (inl e) = rw e (older_self (on i (On j m ∷ l)))
on_older i o (On j m ∷ l) (inr r) = go (same i j) refl (on_older i o l r)
  where
    go : (b : Bool) → same i j ≡ b → IsOlder (on i o) (on i l) → IsOlder (on i o) (cond b (m ∷ on i l) (on i l))
    go true e h = inr h
    go false e h = h

pub on_next : (j : Channel) (m : Message) (o l : List Line) → IsOlder (On j m ∷ o) l → IsOlder (m ∷ on j o) (on j l)
on_next j m o l r = let h = on_older j (On j m ∷ o) l r in rw (on_hit j j m o (same_self j)) at h

map_length : (l : List Line) → length (map payload l) ≡ length l
map_length [] = refl
map_length (x ∷ l) = ap suc (map_length l)

-- the channel of what comes next
pub lift_next : (m : Message) (o l : List Line) → IsOlder o l → IsOlder (m ∷ map payload o) (map payload l) → (j : Channel) × IsOlder (On j m ∷ o) l
lift_next m o [] r n = absurd (cc n)
lift_next m o (On k q ∷ l) (inl e) n = absurd (omega (arith, older_length (m ∷ map payload o) (q ∷ map payload l) n, map_length o, map_length l, ap length e))
lift_next m o (On k q ∷ l) (inr r) (inl e) =
    let t : map payload o ≡ map payload l = cc e in
    let u : m ≡ q = cc e in
    let v : o ≡ l = older_same o l r (sym (map_length o) ∙ (ap length t ∙ map_length l)) in
    (k, inl (cc (u, v)))
lift_next m o (On k q ∷ l) (inr r) (inr n) = let h = lift_next m o l r n in (h.0, inr h.1)

-- each OPEN that the end of this side said names its place
abbrev pub PlaceIs : Side → Line → List Line → Type 0
PlaceIs s (On j (Open f w k)) l = j ≡ Opened s (opens l)
PlaceIs s _ l = Unit {0}

abbrev pub Placed : Side → List Line → Type 0
Placed s [] = Unit {0}
Placed s (x ∷ l) = PlaceIs s x l × Placed s l

pub placed_older : (s : Side) (o l : List Line) → IsOlder o l → Placed s l → Placed s o
placed_older s o [] e k = rw e k
placed_older s o (m ∷ l) (inl e) k = rw e k
placed_older s o (m ∷ l) (inr r) k = placed_older s o l r k.1

-- nothing is noted of the channel
abbrev pub Unused : Channel → List Note → Type 0
Unused i [] = Unit {0}
Unused i (Said x j m ∷ h) = (same i j ≡ false) × Unused i h
Unused i (Took x j m ∷ h) = (same i j ≡ false) × Unused i h
Unused i (Refused j f w k ∷ h) = (same i j ≡ false) × Unused i h

pub unused_said : (i : Channel) (h : List Note) → Unused i h → said i h ≡ []
unused_said i [] u = refl
unused_said i (Said x j m ∷ h) u = on_miss i j m (said_all h) u.0 ∙ unused_said i h u.1
unused_said i (Took x j m ∷ h) u = unused_said i h u.1
unused_said i (Refused j f w k ∷ h) u = on_miss i j (OpenFailure f) (said_all h) u.0 ∙ unused_said i h u.1

pub unused_took : (i : Channel) (h : List Note) → Unused i h → took i h ≡ []
unused_took i [] u = refl
unused_took i (Said x j m ∷ h) u = unused_took i h u.1
unused_took i (Took x j m ∷ h) u = on_miss i j m (took_all h) u.0 ∙ unused_took i h u.1
unused_took i (Refused j f w k ∷ h) u = on_miss i j (Open f w k) (took_all h) u.0 ∙ unused_took i h u.1

differ : (i j : Channel) → same i j ≡ false → i ≡ j → ⊥
differ i j n e = let z : same i j ≡ true = rw e (same_self j) in cc (n, z)

pub unused_opened : (x : ℕ) (i : Channel) (h : List Note) → Unused i h → OpenedAt x i h → ⊥
unused_opened x i [] u o = o
unused_opened x i (Said y j (Open f w k) ∷ h) u (inl e) = differ i j u.0 e.1
unused_opened x i (Said y j (Open f w k) ∷ h) u (inr o) = unused_opened x i h u.1 o
unused_opened x i (Took y j (Open f w k) ∷ h) u (inl e) = differ i j u.0 e.1
unused_opened x i (Took y j (Open f w k) ∷ h) u (inr o) = unused_opened x i h u.1 o
unused_opened x i (Said y j m ∷ h) u o = unused_opened x i h u.1 o
unused_opened x i (Took y j m ∷ h) u o = unused_opened x i h u.1 o
unused_opened x i (Refused j f w k ∷ h) u o = unused_opened x i h u.1 o

-- only an OPEN gives a number
pub opened_grow : (x : ℕ) (i : Channel) (n : Note) (h : List Note) → OpenedAt x i h → OpenedAt x i (n ∷ h)
opened_grow x i (Said y j (Open f w k)) h o = inr o
opened_grow x i (Took y j (Open f w k)) h o = inr o
opened_grow x i (Said y j m) h o = o
opened_grow x i (Took y j m) h o = o
opened_grow x i (Refused j f w k) h o = o

pub opened_said : (x : ℕ) (i : Channel) (y : ℕ) (j : Channel) (m : Message) (h : List Note) → is_open m ≡ false → OpenedAt x i (Said y j m ∷ h) → OpenedAt x i h
opened_said x i y j (Open f w k) h e o = absurd (cc e)
opened_said x i y j m h e o = o

pub opened_took : (x : ℕ) (i : Channel) (y : ℕ) (j : Channel) (m : Message) (h : List Note) → is_open m ≡ false → OpenedAt x i (Took y j m ∷ h) → OpenedAt x i h
opened_took x i y j (Open f w k) h e o = absurd (cc e)
opened_took x i y j m h e o = o

pub opens_other : (i : Channel) (m : Message) (l : List Line) → is_open m ≡ false → opens (On i m ∷ l) ≡ opens l
opens_other i (Open f w k) l e = absurd (cc e)
opens_other i m l e = refl

pub place_other : (s : Side) (i : Channel) (m : Message) (l : List Line) → is_open m ≡ false → PlaceIs s (On i m) l
place_other s i (Open f w k) l e = absurd (cc e)
place_other s i m l e = tt
