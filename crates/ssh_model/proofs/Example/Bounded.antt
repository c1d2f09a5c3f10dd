-- What the toys keep to about their counts and logins, and histories that no end has.
use Rattle.std.proofs.Common.{◌≡◌, ℕ, ◌≤◌, List, [], ◌∷◌, length, inl, inr, refl, sym, subst, arith}
use Rattle.std.proofs.lemmas.Bool.{leb-true}
use Rattle.ssh_model.specs.declared.side.Side.TheVariants.{Client, Server}
use Rattle.ssh_model.specs.Protocol.Side.{part}
use Rattle.ssh_model.specs.Protocol.Lists.{IsOlder}
use Rattle.ssh_model.specs.Protocol.KeyExchange.Choice.{methods}
use Rattle.ssh_model.specs.Protocol.Wire.Message.{Msg.Ignore, Msg.UserauthRequest, Msg.UserauthFailure, Msg.UserauthPkOk, Msg.UserauthSuccess, Method}
use Rattle.ssh_model.specs.Protocol.Sessions.Parties.{Settings}
use Rattle.ssh_model.specs.Protocol.Sessions.Items.{Item, Item.Sent, Item.Took, took, messages_sent}
use Rattle.ssh_model.specs.Protocol.Channels.Connection.{owed_replies}
use Rattle.ssh_model.specs.Protocol.Sessions.Bounded.{asked, AnswersFew}
use Rattle.ssh_model.specs.Protocol.Sessions.Logins.{Awaits, AnsweredRequest, NeedsSuccess}
use Rattle.ssh_model.specs.Protocol.Sessions.Quiet.{IsDelivered, IsSettled, HasParts}
use Rattle.ssh_model.specs.Example.Toys.{toy}
use Rattle.ssh_model.specs.Example.Histories.{says, hears, keyed, open_message}
use Rattle.ssh_model.specs.Example.Run.{takes_on, start_of, session, d23, d25}
use Rattle.ssh_model.specs.Laws.MacOnly.{mac_only_laws}
use Rattle.ssh_model.proofs.Sessions.Settled.{settled_run}
use Rattle.ssh_model.proofs.AnyPeer.Login.{needs_success}
use Rattle.ssh_model.proofs.Example.AnyPeer.{toy_runs}
use Rattle.ssh_model.proofs.Example.Parties.{toy_is_lawful}
use Rattle.ssh_model.proofs.Example.Run.{session_runs}

-- ---- counts

pub toy_sent : length (messages_sent (part Server session)) ≡ 10
toy_sent = refl

pub toy_took : length (took (part Server session)) ≡ 11
toy_took = refl

pub toy_asked : asked (part Server session) ≡ 2
toy_asked = refl

pub toy_owes : length (owed_replies Client (part Client d25)) ≡ 1
toy_owes = refl

pub not_unasked_messages : AnswersFew Server (says (Ignore []) ∷ says (Ignore []) ∷ start_of Server) → ⊥
not_unasked_messages n = omega (arith, n)

-- ---- logins

abbrev HasNoUser : List Item → Type 0
HasNoUser [] = Unit {0}
HasNoUser (Sent c (UserauthRequest user service how) b ∷ h) = ⊥
HasNoUser (_ ∷ h) = HasNoUser h

without : (i : Item) (h : List Item) → HasNoUser (i ∷ h) → HasNoUser h
without (Sent c (UserauthRequest user service how) b) h n = elim n [ ]
without i h n = n

awaits_none : (u s : List ℕ) (how : Method) (b : List ℕ) (e h : List Item) → HasNoUser h → Awaits u s how b e h → ⊥
awaits_none u s how b e [] n w = w
awaits_none u s how b e (Sent c (UserauthRequest user service by) q ∷ h) n w = n
awaits_none u s how b e (Took c (UserauthFailure a d) q ∷ h) n w = w
awaits_none u s how b e (Took c UserauthSuccess q ∷ h) n w = w
awaits_none u s how b e (Took c (UserauthPkOk a k) q ∷ h) n w = w
awaits_none u s how b e (Sent c m q ∷ h) n w = awaits_none u s how b e h n w
awaits_none u s how b e (Took c m q ∷ h) n w = awaits_none u s how b e h n w
awaits_none u s how b e (i ∷ h) n w = awaits_none u s how b e h n w

older_user : (i : Item) (o h : List Item) → HasNoUser h → IsOlder (i ∷ o) h → HasNoUser o
older_user i o [] n e = absurd (cc e)
older_user i o (j ∷ h) n (inl e) = let P : List Item → Type 0 = λ w. HasNoUser w in without i o (subst P (sym e) n)
older_user i o (j ∷ h) n (inr r) = older_user i o h (without j h n) r

no_login : (h : List Item) → HasNoUser h → AnsweredRequest h → ⊥
no_login h n r = awaits_none r.user r.service r.method r.payload r.earlier r.before (older_user (Took r.channel UserauthSuccess r.success) r.before h n r.taken) r.awaited

pub toy_logs_in : AnsweredRequest (part Client session)
toy_logs_in = (needs_success toy toy_is_lawful (part Client session) (toy_runs Client)).success refl

pub not_unasked_success : NeedsSuccess (hears UserauthSuccess ∷ keyed Client) → ⊥
unfolding methods
not_unasked_success l = no_login (hears UserauthSuccess ∷ keyed Client) tt (l.success refl)

pub not_channel_before_login : NeedsSuccess (takes_on 5 open_message ∷ keyed Client) → ⊥
unfolding methods
not_channel_before_login l = no_login (takes_on 5 open_message ∷ keyed Client) tt (l.messages (inr (inl (leb-true 80 _ refl))))

-- ---- nothing is under way

pub toy_delivered : IsDelivered session
toy_delivered Client = refl
toy_delivered Server = refl

pub toy_settled : IsSettled toy session
toy_settled = settled_run toy toy_is_lawful session session_runs toy_delivered

pub not_settled_while_blocked : IsSettled toy d23 → ⊥
not_settled_while_blocked s = let e = (s.each Client).unblocked in cc e

-- ---- parts for all settings

pub has_parts : (client server : Settings) → length client.line ≤ 253 → length server.line ≤ 253 → HasParts client server
has_parts client server n m = record {
  parties = record toy { client = client; server = server };
  lawful = record { sealing = mac_only_laws; client_line = n; server_line = m };
  client_is = refl;
  server_is = refl;
}
