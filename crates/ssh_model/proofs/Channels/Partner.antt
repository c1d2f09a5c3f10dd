-- A channel on which data were taken has a partner.
use Rattle.std.proofs.Common.{◌≡◌, ℕ, List, [], ◌∷◌, ◌⊎◌, inl, inr, refl, sym, ◌∙◌, subst, Bool, true, false, Option}
use Rattle.ssh_model.specs.declared.side.Side.{Side}
use Rattle.ssh_model.specs.declared.side.Side.TheVariants.{Client, Server}
use Rattle.ssh_model.specs.Protocol.Side.{peer, part}
use Rattle.ssh_model.specs.Protocol.Lists.{IsIn}
use Rattle.ssh_model.specs.Protocol.Channels.Message.{Message, Message.Open, Message.OpenConfirmation, Message.OpenFailure, Message.Data, Message.Eof, Message.Close, Channel, Channel.Opened, mine, Stage, Stage.Quiet, Stage.Speaking, stage, talked, begun}
use Rattle.ssh_model.specs.State.Channels.Rules.{is_open, MayFollow, OpenedAt}
use Rattle.ssh_model.specs.ChannelLayer.Claims.{data_of, SharesOpen, Partnered}
use Rattle.ssh_model.specs.Protocol.Channels.Notes.{Note, said_all, took_all, said, took}
use Rattle.ssh_model.specs.ChannelLayer.Rows.{Done, PairRun, Ordered}
use Rattle.ssh_model.specs.Protocol.Channels.Claims.{data_received}
use Rattle.ssh_model.specs.Protocol.Channels.History.{noted}
use Rattle.ssh_model.proofs.Channels.Lists.{Kept, more, more_older, grown, grown_once}
use Rattle.ssh_model.proofs.Channels.Lines.{on_older, mine_twice}
use Rattle.ssh_model.proofs.Channels.Whole.{Both, both, in_older}
use Rattle.ssh_model.proofs.Channels.Pair.{played, received_is}

nonquiet : (m : Message) (q : Stage) → is_open m ≡ false → MayFollow m q true → q ≡ Quiet → ⊥
nonquiet (Open f w k) Quiet e u z = cc e
nonquiet m Quiet e u z = u
nonquiet m q e u z = cc z

has_open : (l : List Message) → Kept true l → (stage l ≡ Quiet → ⊥) → (f : ℕ) × (w : ℕ) × (k : ℕ) × IsIn (Open f w k) l
has_open [] k n = absurd (n refl)
has_open (Open f w k ∷ l) h n = (f, w, k, inl refl)
has_open (m ∷ l) h n = let r = has_open l h.1 (nonquiet m (stage l) refl h.0) in (r.0, r.1, r.2, inr r.3)

not_quiet_begun : (q : Stage) → talked q ≡ true → q ≡ Quiet → ⊥
not_quiet_begun Quiet t z = cc t
not_quiet_begun q t z = cc z

data_more : (l : List Message) → (data_of l ≡ [] → ⊥) → more l ≡ true
data_more [] n = absurd (n refl)
data_more (Open f w k ∷ l) n = data_more l n
data_more (m ∷ l) n = refl

data_stage : (l : List Message) → Kept true l → more l ≡ true → stage l ≡ Quiet → ⊥
data_stage [] k e z = cc e
data_stage (Open f w k ∷ l) h e z = cc z
data_stage (OpenConfirmation t f w k ∷ l) h e z = cc z
data_stage (OpenFailure t ∷ l) h e z = cc z
data_stage (Eof t ∷ l) h e z = cc z
data_stage (Close t ∷ l) h e z = cc z
data_stage (m ∷ l) h e z = nonquiet m (stage l) refl h.0 z

pub which : (s : Side) (i : Channel) → (mine s i ≡ true) ⊎ (mine (peer s) i ≡ true)
which Client (Opened Client n) = inl refl
which Client (Opened Server n) = inr refl
which Server (Opened Client n) = inr refl
which Server (Opened Server n) = inl refl

partner : (s : Side) (h g : List Note) (i : Channel) → Both s h g → (data_of (took i h) ≡ [] → ⊥) → SharesOpen i h g
partner s h g i v d = go (which s i)
  where
    more_here : more (took i h) ≡ true
    more_here = data_more (took i h) d

    go : (mine s i ≡ true) ⊎ (mine (peer s) i ≡ true) → SharesOpen i h g
    go (inl e) =
        let c = on_older i (took_all h) (said_all g) v.to_here in
        let b : begun (took i g) ≡ true = (v.there.good i).answered (more_older (took i h) (said i g) c (data_more (took i h) d)) in
        let P : Bool → Type 0 = λ o. Kept o (took i g) in
        let k : Kept true (took i g) = subst P (mine_twice s i ∙ e) (v.there.good i).took_kept in
        let r = has_open (took i g) k (not_quiet_begun (stage (took i g)) b) in
        (r.0, r.1, r.2, inl (in_older (Open r.0 r.1 r.2) (took i g) (said i h) (on_older i (took_all g) (said_all h) v.to_there) r.3, r.3))
    go (inr e) =
        let P : Bool → Type 0 = λ o. Kept o (took i h) in
        let k : Kept true (took i h) = subst P e (v.here.good i).took_kept in
        let r = has_open (took i h) k (data_stage (took i h) k (data_more (took i h) d)) in
        (r.0, r.1, r.2, inr (r.3, in_older (Open r.0 r.1 r.2) (took i h) (said i g) (on_older i (took_all h) (said_all g) v.to_here) r.3))

pub partnered : (run : List Done) → PairRun run → Ordered run → (s : Side) → Partnered s run
partnered run r o s i d = partner s _ _ i (both s _ _ (played run r o s).run) (λ e. d (sym (received_is s i (part s run)) ∙ e))

-- ---- both ends gave it a number

data_speaks : (b : List ℕ) (t : ℕ) (k : Option ℕ) (o : Bool) (q : Stage) → MayFollow (Data t k b) q o → talked q ≡ true
data_speaks b t k o Speaking u = refl
data_speaks b t k o q u = elim u [ ]

-- where data stands, the speaker has begun
data_begun : (o : Bool) (l : List Message) → Kept o l → (data_of l ≡ [] → ⊥) → begun l ≡ true
data_begun o [] k n = absurd (n refl)
data_begun o (Data t f b ∷ l) k n = data_speaks b t f o (stage l) k.0
data_begun o (m ∷ l) k n = (grown_once m l o k.0 (data_begun o l k.1 n)).still

-- the numbers of the channel at both ends
pub record Numbered (i : Channel) (h g : List Note) : Type 0 where
  pub here : ℕ
  pub there : ℕ
  pub opened_here : OpenedAt here i h
  pub opened_there : OpenedAt there i g

numbered : (s : Side) (h g : List Note) (i : Channel) → Both s h g → (data_of (took i h) ≡ [] → ⊥) → Numbered i h g
numbered s h g i v d =
    let to_here = on_older i (took_all h) (said_all g) v.to_here in
    let to_there = on_older i (took_all g) (said_all h) v.to_there in
    let here = v.here.good i in
    let there = v.there.good i in
    let spoke : begun (said i g) ≡ true = (grown (mine (peer s) i) (took i h) (said i g) there.said_kept to_here (data_begun (mine (peer s) i) (took i h) here.took_kept d)).still in
    let heard : begun (took i g) ≡ true = there.answered (more_older (took i h) (said i g) to_here (data_more (took i h) d)) in
    let began : begun (said i h) ≡ true = (grown (mine s i) (took i g) (said i h) here.said_kept to_there heard).still in
    record { here = _; there = _; opened_here = v.here.named i began; opened_there = v.there.named i spoke }

pub numbered_both : (run : List Done) → PairRun run → Ordered run → (s : Side) (i : Channel) → (data_received s i (part s run) ≡ [] → ⊥) → Numbered i (noted s (part s run)) (noted (peer s) (part (peer s) run))
numbered_both run r o s i d = numbered s _ _ i (both s _ _ (played run r o s).run) (λ e. d (sym (received_is s i (part s run)) ∙ e))
