-- An end to which the next message comes, and its sender where it sent it: what the one sent and took tells of the other.
use Rattle.std.proofs.Common.{◌≡◌, ℕ, suc, ◌+◌, ◌<◌, List, [], ◌∷◌, length, refl, ap, sym, arith, subst, Bool, true, false, cond, ◌&&◌}
use Rattle.ssh_model.specs.declared.side.Side.{Side}
use Rattle.ssh_model.specs.declared.side.Side.TheVariants.{Client, Server}
use Rattle.ssh_model.specs.Protocol.Side.{peer}
use Rattle.ssh_model.specs.Protocol.Lists.{IsOlder}
use Rattle.ssh_model.specs.Protocol.Wire.Message.{Msg.KexInit, Msg.NewKeys, Msg.KexEcdhInit, Msg.KexEcdhReply}
use Rattle.ssh_model.specs.Protocol.Sessions.Parties.{Parties}
use Rattle.ssh_model.specs.Protocol.Sessions.Items.{Item, Item.Sent, Item.Took, Item.TookGuess, sent, took, Encoded, Encoded.EncodedBy, messages_sent, messages_taken}
use Rattle.ssh_model.specs.Protocol.Sessions.Epochs.{epoch}
use Rattle.ssh_model.specs.Protocol.KeyExchange.Exchanges.{offers, points, replies}
use Rattle.ssh_model.specs.Protocol.Sessions.Phases.{Phase, Phase.Start, Phase.Guessed, Phase.Exchanging, Phase.Keying, Phase.Normal, phase, is_wrong_guess, own_names}
use Rattle.ssh_model.proofs.Sessions.EndKeeps.{InStep}
use Rattle.ssh_model.proofs.Sessions.SoundTurns.{normal_keyed}
use Rattle.ssh_model.proofs.AnyPeer.Keeps.{Grounds}
use Rattle.ssh_model.proofs.AnyPeer.Tally.{agreeing}
use Rattle.ssh_model.proofs.Faithful.Sendable.{AllSends, Stands}
use Rattle.ssh_model.proofs.Faithful.Rows.{Now}
use Rattle.ssh_model.proofs.Faithful.Next.{NoGuess, same_epoch}

-- The end took just what its peer had sent before, and its peer had taken no more than the end sent.
pub record Meets {K : Type 0} (p : Parties K) (side : Side) (h before : List Item) : Type 0 where
  pub now : Now p side h
  pub no_guess : NoGuess h
  pub own : AllSends side h
  pub known : Grounds true p side h
  pub same : messages_taken h ≡ messages_sent before
  pub back : IsOlder (messages_taken before) (messages_sent h)
  pub sends : AllSends (peer side) before
  pub grounds : Grounds true p (peer side) before

-- ---- phases

which_exchanging : (ph : Phase) → agreeing ph ≡ 1 → (ph ≡ Guessed → ⊥) → ph ≡ Exchanging
which_exchanging Start a g = absurd (cc a)
which_exchanging Guessed a g = absurd (g refl)
which_exchanging Exchanging a g = refl
which_exchanging Keying a g = absurd (cc a)
which_exchanging Normal a g = absurd (cc a)

which_keying : (ph : Phase) (out : Bool) (s t : ℕ) → InStep ph out s t → agreeing ph ≡ 0 → s ≡ suc t → ph ≡ Keying
which_keying Start out s t i a e = absurd (omega (arith, i.1, e))
which_keying Guessed out s t i a e = absurd (cc a)
which_keying Exchanging out s t i a e = absurd (cc a)
which_keying Keying out s t i a e = refl
which_keying Normal out s t i a e = absurd (omega (arith, i, e))

which_normal : (ph : Phase) (out : Bool) (s t : ℕ) → InStep ph out s t → agreeing ph ≡ 0 → s ≡ t → (ph ≡ Start → ⊥) → ph ≡ Normal
which_normal Start out s t i a e f = absurd (f refl)
which_normal Guessed out s t i a e f = absurd (cc a)
which_normal Exchanging out s t i a e f = absurd (cc a)
which_normal Keying out s t i a e f = absurd (omega (arith, i.1, e))
which_normal Normal out s t i a e f = refl

which_start : (ph : Phase) (out : Bool) (s t : ℕ) → InStep ph out s t → agreeing ph ≡ 0 → s ≡ t → (ph ≡ Normal → ⊥) → ph ≡ Start
which_start Start out s t i a e f = refl
which_start Guessed out s t i a e f = absurd (cc a)
which_start Exchanging out s t i a e f = absurd (cc a)
which_start Keying out s t i a e f = absurd (omega (arith, i.1, e))
which_start Normal out s t i a e f = absurd (f refl)

-- an end that took NEWKEYS is past its start
started : {K : Type 0} (p : Parties K) (side : Side) (h : List Item) → phase p side h ≡ Start → epoch (took h) ≡ 0
started p side [] e = refl
started p side (Took c (KexInit o) b ∷ h) e = absurd (go (is_wrong_guess o (own_names p side)) e)
  where
    go : (t : Bool) → cond t Guessed Exchanging ≡ Start → ⊥
    go true f = cc f
    go false f = cc f
started p side (Took c NewKeys b ∷ h) e = absurd (cc e)
started p side (Took c (KexEcdhInit q) b ∷ h) e = absurd (cc e)
started p side (Took c (KexEcdhReply k q s) b ∷ h) e = absurd (cc e)
started p side (Took c m b ∷ h) e = started p side h e
started p side (TookGuess b ∷ h) e = absurd (cc e)
started p side (i ∷ h) e = started p side h e

-- no KEXINIT among the messages says that a guess follows
abbrev Unguessing : List Encoded → Type 0
Unguessing [] = Unit {0}
Unguessing (EncodedBy (KexInit o) b ∷ l) = (o.follows ≡ false) × Unguessing l
Unguessing (_ ∷ l) = Unguessing l

not_wrong : (t x : Bool) → t ≡ false → cond (t && x) Guessed Exchanging ≡ Guessed → ⊥
not_wrong true x f e = cc f
not_wrong false x f e = cc e

module _ {K : Type 0} (p : Parties K) (side : Side) where
  unguessing : (h : List Item) → Grounds true p side h → Unguessing (messages_sent h)
  unguessing [] g = tt
  unguessing (Sent c (KexInit o) b ∷ h) g = (ap (λ x. x.follows) g.0.offer_is, unguessing h g.1)
  unguessing (Sent c m b ∷ h) g = unguessing h g.1
  unguessing (i ∷ h) g = unguessing h g.1

  unguessed : (h : List Item) → Unguessing (messages_taken h) → NoGuess h → phase p side h ≡ Guessed → ⊥
  unguessed [] u n e = cc e
  unguessed (Took c (KexInit o) b ∷ h) u n e = not_wrong o.follows _ u.0 e
  unguessed (Took c NewKeys b ∷ h) u n e = cc e
  unguessed (Took c (KexEcdhInit q) b ∷ h) u n e = cc e
  unguessed (Took c (KexEcdhReply k q s) b ∷ h) u n e = cc e
  unguessed (Took c m b ∷ h) u n e = unguessed h u n e
  unguessed (TookGuess b ∷ h) u n e = elim n [ ]
  unguessed (i ∷ h) u n e = unguessed h u n e

module _ {K : Type 0} (p : Parties K) where
  pub not_guessed : (side : Side) (h before : List Item) → Meets p side h before → phase p side h ≡ Guessed → ⊥
  not_guessed side h before v = unguessed p side h (subst Unguessing (sym v.same) (unguessing p (peer side) before v.grounds)) v.no_guess

  measured : (side : Side) (o n : ℕ) (h before : List Item) → Meets p side h before → Stands (peer side) o n before → (epoch (sent h) ≡ n + epoch (took h)) × (o + epoch (took h) ≡ epoch (sent h) + agreeing (phase p side h))
  measured Client o n h before v w =
      let t = same_epoch h before v.same in (
        omega (arith, t, w.replies refl, (v.now.known.counted refl).replied, ap (λ l. length (replies l)) v.same),
        omega (arith, t, w.offers, v.now.tally.heard, ap (λ l. length (offers l)) v.same),
      )
  measured Server o n h before v w =
      let t = same_epoch h before v.same in (
        omega (arith, t, w.points refl, v.now.tally.pointed refl, ap (λ l. length (points l)) v.same),
        omega (arith, t, w.offers, v.now.tally.heard, ap (λ l. length (offers l)) v.same),
      )

  pub exchanging : (side : Side) (h before : List Item) → Meets p side h before → Stands (peer side) 1 0 before → phase p side h ≡ Exchanging
  exchanging side h before v w =
      let m = measured side 1 0 h before v w in
      which_exchanging (phase p side h) (omega (arith, m.0, m.1)) (not_guessed side h before v)

  pub keying : (side : Side) (h before : List Item) → Meets p side h before → Stands (peer side) 1 1 before → phase p side h ≡ Keying
  keying side h before v w =
      let m = measured side 1 1 h before v w in
      which_keying (phase p side h) _ _ _ v.now.end.in_step (omega (arith, m.0, m.1)) (omega (arith, m.0))

  pub normal : (side : Side) (h before : List Item) → Meets p side h before → Stands (peer side) 0 0 before → 0 < epoch (sent before) → phase p side h ≡ Normal
  normal side h before v w k =
      let m = measured side 0 0 h before v w in
      which_normal (phase p side h) _ _ _ v.now.end.in_step (omega (arith, m.0, m.1)) (omega (arith, m.0)) (λ e. omega (arith, k, same_epoch h before v.same, started p side h e))

  pub at_start : (side : Side) (h before : List Item) → Meets p side h before → Stands (peer side) 0 0 before → epoch (sent before) ≡ 0 → phase p side h ≡ Start
  at_start side h before v w k =
      let m = measured side 0 0 h before v w in
      which_start (phase p side h) _ _ _ v.now.end.in_step (omega (arith, m.0, m.1)) (omega (arith, m.0)) (λ e. omega (arith, k, same_epoch h before v.same, normal_keyed p side h e))
