-- The next message on a channel is welcome there, whatever it is.
use Rattle.std.proofs.Common.{◌≡◌, ℕ, ◌<◌, List, [], ◌∷◌, refl, ap, sym, arith, subst, Bool, true, false, not, ◌&&◌, Option, Some, None}
use Rattle.ssh_model.specs.declared.side.Side.{Side}
use Rattle.ssh_model.specs.declared.side.Side.TheVariants.{Client, Server}
use Rattle.ssh_model.specs.Protocol.Side.{peer}
use Rattle.ssh_model.specs.Protocol.Wire.Message.{Msg, Msg.ChannelOpen, Msg.ChannelOpenConfirmation, Msg.ChannelOpenFailure, Msg.ChannelWindowAdjust, Msg.ChannelData, Msg.ChannelExtendedData, Msg.ChannelEof, Msg.ChannelClose, Msg.ChannelRequest, Msg.ChannelSuccess, Msg.ChannelFailure}
use Rattle.ssh_model.specs.Protocol.Sessions.Items.{Item}
use Rattle.ssh_model.specs.Protocol.Channels.Message.{Message, Message.Open, Message.OpenConfirmation, Message.OpenFailure, Message.Data, Message.Eof, Message.Close, Message.Reply, Channel, Channel.Opened, mine, sender, Stage, Stage.Quiet, Stage.Speaking, stage, begun, ended}
use Rattle.ssh_model.specs.Protocol.Channels.Notes.{Note, said_all, took_all, said, took, waits_there}
use Rattle.ssh_model.specs.Protocol.Channels.Numbers.{is_empty, is_held, is_offered, peer_ended, waiting_there}
use Rattle.ssh_model.specs.Protocol.Channels.Connection.{connection_checks, notes, on_channel}
use Rattle.ssh_model.specs.State.Channels.Rules.{At, MayFollow, Next, ToIs, is_open}
use Rattle.ssh_model.proofs.Sessions.Stages.{and_left}
use Rattle.ssh_model.proofs.Channels.Lists.{Kept}
use Rattle.ssh_model.proofs.Channels.Lines.{on_next, on_older}
use Rattle.ssh_model.proofs.Channels.State.{and_true, at_held}
use Rattle.ssh_model.proofs.Channels.Whole.{Both, Found, found, one_number, welcome_both}
use Rattle.ssh_model.proofs.Faithful.Waiting.{Timely, replied_more, still_wait, wanted_more}
use Rattle.ssh_model.proofs.Faithful.Welcome.{AllLie, lies, passes, some_zero}

-- ---- stages

speaking_goes_on : (q : Stage) (o : Bool) (t : ℕ) (k : Option ℕ) (b : List ℕ) → MayFollow (Data t k b) q o → ended q ≡ false
speaking_goes_on Speaking o t k b u = refl
speaking_goes_on q o t k b u = elim u [ ]

speaking_ends : (q : Stage) (o : Bool) (t : ℕ) → MayFollow (Eof t) q o → ended q ≡ false
speaking_ends Speaking o t u = refl
speaking_ends q o t u = elim u [ ]

confirms_quiet : (q : Stage) (o : Bool) (t f w k : ℕ) → MayFollow (OpenConfirmation t f w k) q o → (q ≡ Quiet) × (o ≡ false)
confirms_quiet Quiet true t f w k u = elim u [ ]
confirms_quiet Quiet false t f w k u = (refl, refl)
confirms_quiet q o t f w k u = elim u [ ]

fails_quiet : (q : Stage) (o : Bool) (t : ℕ) → MayFollow (OpenFailure t) q o → (q ≡ Quiet) × (o ≡ false)
fails_quiet Quiet true t u = elim u [ ]
fails_quiet Quiet false t u = (refl, refl)
fails_quiet q o t u = elim u [ ]

-- nothing was said at first
first_word : (m : Message) (q : Stage) (o : Bool) → MayFollow m q o → stage (m ∷ []) ≡ Quiet → q ≡ Quiet → ⊥
first_word (Open f w k) q o u e z = cc e
first_word (OpenConfirmation t f w k) q o u e z = cc e
first_word (OpenFailure t) q o u e z = cc e
first_word (Eof t) q o u e z = cc e
first_word (Close t) q o u e z = cc e
first_word m Quiet o u e z = u
first_word m q o u e z = cc z

quiet_empty : (o : Bool) (l : List Message) → Kept o l → stage l ≡ Quiet → is_empty l ≡ true
quiet_empty o [] k e = refl
quiet_empty o (Open f w d ∷ l) k e = absurd (cc e)
quiet_empty o (OpenConfirmation t f w d ∷ l) k e = absurd (cc e)
quiet_empty o (OpenFailure t ∷ l) k e = absurd (cc e)
quiet_empty o (Eof t ∷ l) k e = absurd (cc e)
quiet_empty o (Close t ∷ l) k e = absurd (cc e)
quiet_empty o (m ∷ l) k e = absurd (first_word m (stage l) o k.0 refl e)

own_channel : (s : Side) (i : Channel) → mine (peer s) i ≡ false → mine s i ≡ true
own_channel Client (Opened Client n) e = refl
own_channel Client (Opened Server n) e = absurd (cc e)
own_channel Server (Opened Client n) e = absurd (cc e)
own_channel Server (Opened Server n) e = refl

both_pass : {A : Type 0} (b c : Bool) → b ≡ false → (b && c) ≡ true → A
both_pass b c e f = absurd (cc (e, and_left b c f))

-- ---- the checks

module _ (s : Side) (h g : List Note) (v : Both s h g) where
  there : (m : Message) (x : ℕ) (f : Found s h g m) → is_open m ≡ false → ToIs x m → At x f.i h
  there m x f e t =
      let P : ℕ → Type 0 = λ w. At w f.i h in
      subst P (one_number m (sender (said f.i h)) x e f.may.to t) f.may.at

  speaks_on : (t : ℕ) (k : Option ℕ) (b : List ℕ) → Found s h g (Data t k b) → peer_ended t h ≡ false
  speaks_on t k b f =
      let P : Channel → Type 0 = λ i. ended (stage (took i h)) ≡ false in
      subst P (sym (v.here.current t f.i (there _ t f refl refl))) (speaking_goes_on _ _ t k b f.may.may_follow)

  speaks_last : (t : ℕ) → Found s h g (Eof t) → peer_ended t h ≡ false
  speaks_last t f =
      let P : Channel → Type 0 = λ i. ended (stage (took i h)) ≡ false in
      subst P (sym (v.here.current t f.i (there _ t f refl refl))) (speaking_ends _ _ t f.may.may_follow)

  offered : (m : Message) (t : ℕ) (f : Found s h g m) → At t f.i h → (stage (took f.i h) ≡ Quiet) × (mine (peer s) f.i ≡ false) → is_offered s t h ≡ true
  offered m t f a q =
      let P : Channel → Type 0 = λ i. (mine s i && (begun (said i h) && is_empty (took i h))) ≡ true in
      let silent : is_empty (took f.i h) ≡ true = quiet_empty (mine (peer s) f.i) (took f.i h) (v.here.good f.i).took_kept q.0 in
      and_true (is_held t h) _ (at_held s t f.i h v.here a)
      (subst P (sym (v.here.current t f.i a)) (and_true _ _ (own_channel s f.i q.1) (and_true _ _ f.may.spoke silent)))

  -- the peer replied once more than this end took replies, and to no more than this end asked for
  waits : (t : ℕ) (b : Bool) → Timely g → Found s h g (Reply t b) → 0 < waiting_there t h
  waits t b w f =
      let P : Channel → Type 0 = λ i. 0 < waits_there i h in
      let next = replied_more _ _ (on_next f.i (Reply t b) (took_all h) (said_all g) f.next) in
      let known = wanted_more _ _ (on_older f.i (took_all g) (said_all h) v.to_there) in
      subst P (sym (v.here.current t f.i (there _ t f refl refl))) (omega (arith, next, known, w f.i, still_wait f.i h))

module _ (s : Side) (h g : List Item) (v : Both s (notes s h) (notes (peer s) g)) (w : Timely (notes (peer s) g)) where
  pub on_channel_lies : (m : Msg) → ((x : Message) → on_channel m ≡ Some x → Next x (notes s h) (notes (peer s) g)) → (x : Message) → on_channel m ≡ Some x → AllLie (connection_checks s h m)
  on_channel_lies (ChannelOpen a b c d e) n x z = (lies, tt)
  on_channel_lies (ChannelOpenConfirmation t b c d e) n x z =
      let i = n _ refl in
      let f = found s _ _ _ v i refl in
      let o = offered s _ _ v _ t f (there s _ _ v _ t f refl refl) (confirms_quiet _ _ t b c d f.may.may_follow) in
      (both_pass _ _ (welcome_both s _ _ v _ i).known, (passes (ap not o), tt))
  on_channel_lies (ChannelOpenFailure t b c d) n x z =
      let i = n _ refl in
      let f = found s _ _ _ v i refl in
      let o = offered s _ _ v _ t f (there s _ _ v _ t f refl refl) (fails_quiet _ _ t f.may.may_follow) in
      (both_pass _ _ (welcome_both s _ _ v _ i).known, (passes (ap not o), tt))
  on_channel_lies (ChannelWindowAdjust t b) n x z =
      let a = welcome_both s _ _ v _ (n _ refl) in (passes a.known, (passes a.bounded, tt))
  on_channel_lies (ChannelData t b) n x z =
      let i = n _ refl in
      let a = welcome_both s _ _ v _ i in (passes a.known, (passes (speaks_on s _ _ v t None b (found s _ _ _ v i refl)), (passes a.fits, tt)))
  on_channel_lies (ChannelExtendedData t k b) n x z =
      let i = n _ refl in
      let a = welcome_both s _ _ v _ i in (passes a.known, (passes (speaks_on s _ _ v t (Some k) b (found s _ _ _ v i refl)), (passes a.fits, tt)))
  on_channel_lies (ChannelEof t) n x z =
      let i = n _ refl in
      (passes (welcome_both s _ _ v _ i).known, (passes (speaks_last s _ _ v t (found s _ _ _ v i refl)), tt))
  on_channel_lies (ChannelClose t) n x z = (passes (welcome_both s _ _ v _ (n _ refl)).known, (lies, tt))
  on_channel_lies (ChannelRequest t a b c) n x z = (passes (welcome_both s _ _ v _ (n _ refl)).known, (lies, tt))
  on_channel_lies (ChannelSuccess t) n x z =
      let i = n _ refl in
      (passes (welcome_both s _ _ v _ i).known, (passes (some_zero (waiting_there t (notes s h)) (waits s _ _ v t true w (found s _ _ _ v i refl))), tt))
  on_channel_lies (ChannelFailure t) n x z =
      let i = n _ refl in
      (passes (welcome_both s _ _ v _ i).known, (passes (some_zero (waiting_there t (notes s h)) (waits s _ _ v t false w (found s _ _ _ v i refl))), tt))
  on_channel_lies m n x z = absurd (cc z)
