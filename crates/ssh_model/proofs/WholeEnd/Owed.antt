-- The replies that were owed, sent after NEWKEYS.
use Rattle.std.proofs.Common.{◌≡◌, ℕ, List, [], ◌∷◌, ◌++◌, refl, ap, sym, ◌∙◌, subst, Option, Some, None, append-nil, append_assoc, ◌<◌, ◌^◌, ◌+◌, length, arith, map}
use Rattle.ssh_model.specs.declared.side.Side.{Side}
use Rattle.ssh_model.specs.declared.side.Side.TheVariants.{Client, Server}
use Rattle.ssh_model.specs.Protocol.Wire.Message.{Msg, Msg.NewKeys, Msg.KexInit, Msg.ChannelOpenFailure, Msg.ChannelClose}
use Rattle.ssh_model.specs.Protocol.Sessions.Items.{Item, Item.Sent, Item.Told, messages_sent}
use Rattle.ssh_model.specs.Protocol.Channels.Connection.{AreReplies, owed_replies}
use Rattle.ssh_model.specs.Protocol.Channels.Connection as connection
use Rattle.ssh_model.specs.Protocol.Channels.History as channel
use Rattle.ssh_model.specs.State.Channels.Kept.{Channels, DueReply, DueReply.RefusesOpen, DueReply.AnswersClose, freed_by, put}
use Rattle.ssh_model.specs.State.Channels.Summary.{pending, reply_item, reply_channel, reply_sent}
use Rattle.ssh_model.specs.State.Channels.Kept as channels_row
use Rattle.ssh_model.specs.State.Channels.Summary as channels
use Rattle.ssh_model.specs.State.End.State.{Authentication}
use Rattle.ssh_model.specs.State.End.Summary.{AuthenticationSumsUp}
use Rattle.ssh_model.specs.State.End.Payloads.{GivesOwed}
use Rattle.ssh_model.specs.State.End.Payloads as end
use Rattle.ssh_model.proofs.Channels.Unblocking.{unblocked}
use Rattle.ssh_model.proofs.WholeEnd.Kept.{AreUpper, authentication_kept}
use Rattle.ssh_model.proofs.WholeEnd.Out.{AreAnswers}
use Rattle.std.proofs.lemmas.Bool.{leb-true}
use Rattle.std.proofs.lemmas.List.{reverse-append}
use Rattle.ssh_model.specs.Protocol.Sessions.Turns.{AreEncoded, EndRun}
use Rattle.ssh_model.specs.Protocol.Sessions.Parties.{Parties, AreLawful}
use Rattle.ssh_model.specs.Protocol.Channels.Message.{Message.OpenFailure, Message.Close}
use Rattle.ssh_model.specs.State.End.Deaths.{CanSettle}
use Rattle.ssh_model.proofs.Sessions.PeerNumbers.{RepliesFit, owed_replies_fit}
use Rattle.ssh_model.proofs.Sessions.SoundTurns.{end_sound}
use Rattle.ssh_model.specs.Laws.Written.{open_failure_encoded, close_encoded}

-- What was given is the oldest of what waited.
pub record Given (side : Side) (g : List Item) (waiting : List channel.Item) (a : Authentication) (items : List Item) (new : Channels) : Type 0 where
  pub older : List channel.Item
  pub split : waiting ≡ pending new.owed ++ older
  pub replies : AreReplies older items
  pub sums : channels.SumsUp side (items ++ g) (pending new.owed) new
  pub upper : AreUpper side items
  pub answers : AreAnswers items
  pub authentication : AuthenticationSumsUp side (items ++ g) a

reply_left : (side : Side) (g : List Item) (a : Authentication) (r : DueReply) (b : List ℕ) → AuthenticationSumsUp side g a → AuthenticationSumsUp side (Sent (reply_channel r) (reply_sent r) b ∷ g) a
reply_left side g a (RefusesOpen to) b has = authentication_kept side g a (Sent None (ChannelOpenFailure to 4 [] []) b) tt tt has
reply_left side g a (AnswersClose x to) b has = authentication_kept side g a (Sent (Some x) (ChannelClose to) b) tt tt has

reply_upper : (side : Side) (r : DueReply) (b : List ℕ) (l : List Item) → AreUpper side l → AreUpper side (Sent (reply_channel r) (reply_sent r) b ∷ l)
reply_upper Client (RefusesOpen to) b l u = (tt, u)
reply_upper Client (AnswersClose x to) b l u = (tt, u)
reply_upper Server (RefusesOpen to) b l u = (tt, u)
reply_upper Server (AnswersClose x to) b l u = (tt, u)

reply_answers : (r : DueReply) (b : List ℕ) (l : List Item) → AreAnswers l → AreAnswers (Sent (reply_channel r) (reply_sent r) b ∷ l)
reply_answers (RefusesOpen to) b l u = (tt, u)
reply_answers (AnswersClose x to) b l u = (tt, u)

pub given : (side : Side) (g : List Item) (waiting : List channel.Item) (a : Authentication) (before : Channels) → channels.SumsUp side g waiting before → AuthenticationSumsUp side g a → (items : List Item) (new : Channels) → GivesOwed before items new →
    Given side g waiting a items new
given side g waiting a before has left items new end.GivesOwed.nothing =
    let P : List channel.Item → Type 0 = λ o. channels.SumsUp side g o before in
    record {
      older = [];
      split = sym has.queue ∙ sym (append-nil (pending before.owed));
      replies = connection.AreReplies.none;
      sums = subst P (sym has.queue) has;
      upper = tt;
      answers = tt;
      authentication = left;
    }
given side g waiting a before has left items new (end.GivesOwed.reply {items = l} {between = between} r b more x) =
    let v = given side g waiting a before has left l between more in
    let y = unblocked side (l ++ g) (pending between.owed) between v.sums r new x in
    record {
      older = reply_item r ∷ v.older;
      split = v.split ∙ (ap (λ w. w ++ v.older) y.oldest ∙ append_assoc (pending new.owed) (reply_item r ∷ []) v.older);
      replies = y.row v.older l b v.replies;
      sums = y.sums b;
      upper = reply_upper side r b l v.upper;
      answers = reply_answers r b l v.answers;
      authentication = reply_left side (l ++ g) a r b v.authentication;
    }

-- ---- after NEWKEYS nothing is owed

sent_none : (side : Side) (c : Option ℕ) (m : Msg) (b : List ℕ) (g : List Item) → owed_replies side g ≡ [] → owed_replies side (Sent c m b ∷ g) ≡ []
sent_none side c NewKeys b g e = refl
sent_none side c (KexInit own) b g e = e
sent_none side c m b g e = e

pub none_owed : (side : Side) (l g : List Item) → AreAnswers l → owed_replies side g ≡ [] → owed_replies side (l ++ g) ≡ []
none_owed side [] g n e = e
none_owed side (Sent c m b ∷ l) g n e = sent_none side c m b (l ++ g) (none_owed side l g n.1 e)
none_owed side (Told fact ∷ l) g n e = none_owed side l g n e
none_owed side (i ∷ l) g n e = elim n [ ]

-- ---- how many are given

freed_owed : (r : DueReply) (c : Channels) → (freed_by r c).owed ≡ c.owed
freed_owed (RefusesOpen to) c = refl
freed_owed (AnswersClose x to) c = refl

pub gives_length : (before : Channels) (items : List Item) (new : Channels) → GivesOwed before items new → length before.owed ≡ length (messages_sent items) + length new.owed
gives_length before items new end.GivesOwed.nothing = omega arith
gives_length before items new (end.GivesOwed.reply {items = l} {between = c} r b more (channels_row.Unblocks.oldest r2 rest e)) =
    omega (arith, gives_length before l c more, ap length e, ap length (freed_owed r (record c { owed = rest })))

-- ---- all of them have encodings

abbrev AllFit : List DueReply → Type 0
AllFit [] = Unit {0}
AllFit (RefusesOpen to ∷ l) = (to < 2 ^ 32) × AllFit l
AllFit (AnswersClose x to ∷ l) = (to < 2 ^ 32) × AllFit l

fit_front : (l : List channel.Item) (i : channel.Item) → RepliesFit (l ++ i ∷ []) → RepliesFit l × RepliesFit (i ∷ [])
fit_front [] i f = (tt, f)
fit_front (channel.Item.Sent at (OpenFailure to) ∷ l) i f = let r = fit_front l i f.1 in ((f.0, r.0), r.1)
fit_front (channel.Item.Sent at (Close to) ∷ l) i f = let r = fit_front l i f.1 in ((f.0, r.0), r.1)
fit_front (channel.Item.Sent at m ∷ l) i f = fit_front l i f
fit_front (j ∷ l) i f = elim f [ ]

all_fit : (l : List DueReply) → RepliesFit (pending l) → AllFit l
all_fit [] f = tt
all_fit (RefusesOpen to ∷ l) f =
    let r = fit_front (pending l) (reply_item (RefusesOpen to)) (subst RepliesFit (reverse-append (reply_item (RefusesOpen to) ∷ []) (map reply_item l)) f) in
    (r.1.0, all_fit l r.0)
all_fit (AnswersClose x to ∷ l) f =
    let r = fit_front (pending l) (reply_item (AnswersClose x to)) (subst RepliesFit (reverse-append (reply_item (AnswersClose x to) ∷ []) (map reply_item l)) f) in
    (r.1.0, all_fit l r.0)

settle : (l : List DueReply) (before now : Channels) (items : List Item) → GivesOwed before items now → now.owed ≡ l → AllFit l → AreEncoded items → CanSettle before
settle [] before now items g e f s = record { items = items; settled = now; gives = g; none_left = e; encoded = s }
settle (RefusesOpen to ∷ l) before now items g e f s =
    let b = open_failure_encoded to 4 f.0 (leb-true 5 (2 ^ 32) refl) in
    settle l before (record now { owed = l }) (Sent None (ChannelOpenFailure to 4 [] []) b.payload ∷ items) (end.GivesOwed.reply (RefusesOpen to) b.payload g (channels_row.Unblocks.oldest (RefusesOpen to) l e)) refl f.1 (b.encodes, s)
settle (AnswersClose x to ∷ l) before now items g e f s =
    let b = close_encoded to f.0 in
    settle l before (put x None (record now { owed = l })) (Sent (Some x) (ChannelClose to) b.payload ∷ items) (end.GivesOwed.reply (AnswersClose x to) b.payload g (channels_row.Unblocks.oldest (AnswersClose x to) l e)) refl f.1 (b.encodes, s)

pub can_settle : {K : Type 0} (p : Parties K) → AreLawful p → (side : Side) (h : List Item) → EndRun p side h → (c : Channels) → channels.SumsUp side h (owed_replies side h) c → CanSettle c
can_settle p laws side h run c has =
    let f : RepliesFit (owed_replies side h) = owed_replies_fit p side h (end_sound p laws side h run).formed in
    settle c.owed c c [] end.GivesOwed.nothing refl (all_fit c.owed (subst RepliesFit (sym has.queue) f)) tt
