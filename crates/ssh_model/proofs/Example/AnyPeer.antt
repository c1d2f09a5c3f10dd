-- What the toys keep to, whoever their peers are and whatever the layers above do, and histories that no end has.
use Rattle.std.proofs.Common.{get_or, ap, false, ◌≡◌, ℕ, List, [], ◌∷◌, ◌++◌, reverse, inl, inr, refl, arith, subst, true, Option, Some, None}
use Rattle.std.proofs.lemmas.Bool.{leb-true}
use Rattle.std.specs.Prelude.{codes}
use Rattle.ssh_model.specs.declared.side.Side.{Side}
use Rattle.ssh_model.specs.declared.side.Side.TheVariants.{Client, Server}
use Rattle.ssh_model.specs.Protocol.Side.{part}
use Rattle.ssh_model.specs.Protocol.Lists.{IsOlder}
use Rattle.ssh_model.specs.Protocol.Wire.Message.{Msg.Ignore, Msg.KexInit, Msg.NewKeys, Msg.KexEcdhInit, Msg.ExtInfo, Msg.UserauthRequest, Msg.UserauthSuccess, Method, Method.NoMethod, Method.Password}
use Rattle.ssh_model.specs.Protocol.KeyExchange.Choice.{methods}
use Rattle.ssh_model.specs.Protocol.KeyExchange.Exchanges.{is_strict}
use Rattle.ssh_model.specs.Protocol.Sessions.Items.{Item, Item.Sent, Item.Took, took}
use Rattle.ssh_model.specs.Protocol.Sessions.Claims.{HasConnection}
use Rattle.ssh_model.specs.Protocol.Sessions.Turns.{EndRun}
use Rattle.ssh_model.specs.Protocol.Sessions.AnyLayers.{TransportTurn, TransportRun}
use Rattle.ssh_model.specs.Protocol.Sessions.AnyPeer.{KeepsTransport, SendsOnlyExchange, sent_in_first_exchange, AcceptedRequest, RequiresAuthentication, VerifiesHosts, EachIncludesOwn, RequiresStrict, TakesOnlyAllowed, Follows, Follows.so_far, Follows.leaves, TakesOnlyExchange, IsFresh, UsesNoNonceTwice, taken_in_first_exchange}
use Rattle.ssh_model.specs.Example.Toys.{toy, secret}
use Rattle.ssh_model.specs.Example.Histories.{connection, right_request, says, hears, keyed, lined, offered, offer_of, open_message}
use Rattle.ssh_model.specs.Example.Run.{payload_of, sends, takes, takes_on, session, d11, d12}
use Rattle.ssh_model.proofs.Sessions.EndRuns.{end_run}
use Rattle.ssh_model.proofs.Sessions.TransportRuns.{transport_run}
use Rattle.ssh_model.proofs.AnyPeer.Server.{older_part, requires_authentication}
use Rattle.ssh_model.proofs.AnyPeer.Guarded.{keeps_transport}
use Rattle.ssh_model.proofs.Example.Parties.{toy_is_lawful}
use Rattle.ssh_model.proofs.Example.Run.{session_runs, r11}
use Rattle.ssh_model.proofs.Example.Honest.{session_is_honest}

-- ---- the toys

pub toy_runs : (side : Side) → EndRun toy side (part side session)
toy_runs side = end_run toy session session_runs side

pub toy_serves : HasConnection (took (part Server session))
toy_serves = inl (leb-true 80 _ refl)

pub toy_accepts : AcceptedRequest toy (part Server session)
unfolding methods
toy_accepts = record {
  user = codes "u";
  service = connection;
  method = Password (codes "p") None;
  payload = payload_of right_request;
  success = payload_of UserauthSuccess;
  before = part Server d12;
  taken = inr (inr (inr (inr (inr (inr (inr (inr (inr (inr (inr (inr (inr (inr (inr (inr (inr (inr (inr (inl refl)))))))))))))))))));
  keyed = omega arith;
  first = refl;
  accepted = refl;
  shown = refl;
}

pub toy_is_strict : (side : Side) → is_strict side (part side session) ≡ true
toy_is_strict Client = refl
toy_is_strict Server = refl

pub toy_taken_by_server : reverse (taken_in_first_exchange (part Server session)) ≡ Some 20 ∷ Some 30 ∷ Some 21 ∷ []
toy_taken_by_server = refl

pub toy_taken_by_client : reverse (taken_in_first_exchange (part Client session)) ≡ Some 20 ∷ Some 31 ∷ Some 21 ∷ []
toy_taken_by_client = refl

pub toy_sent_by_server : reverse (sent_in_first_exchange (part Server session)) ≡ 20 ∷ 31 ∷ 21 ∷ []
toy_sent_by_server = refl

pub toy_sent_by_client : reverse (sent_in_first_exchange (part Client session)) ≡ 20 ∷ 30 ∷ 21 ∷ []
toy_sent_by_client = refl

pub toy_is_fresh : (side : Side) → IsFresh toy side (part side session)
toy_is_fresh Client = record { cookies_differ = session_is_honest.cookies_differ Client; hashes = λ x y i j e. session_is_honest.hashes x y (inl i) (inl j) e }
toy_is_fresh Server = record { cookies_differ = session_is_honest.cookies_differ Server; hashes = λ x y i j e. session_is_honest.hashes x y (inr i) (inr j) e }

-- ---- histories that no end has

abbrev HasNoRequest : List Item → Type 0
HasNoRequest [] = Unit {0}
HasNoRequest (Took c (UserauthRequest user service how) b ∷ h) = ⊥
HasNoRequest (_ ∷ h) = HasNoRequest h

no_request : (user service : List ℕ) (how : Method) (b : List ℕ) (before h : List Item) → HasNoRequest h → IsOlder (Took None (UserauthRequest user service how) b ∷ before) h → ⊥
no_request user service how b before [] n e = cc e
no_request user service how b before (Took c (UserauthRequest u s m) x ∷ h) n o = elim n [ ]
no_request user service how b before (i ∷ h) n (inl e) = cc e
no_request user service how b before (i ∷ h) n (inr o) = no_request user service how b before h n o

no_one : (h : List Item) → HasNoRequest h → AcceptedRequest toy h → ⊥
no_one h n r =
    no_request r.user r.service r.method r.payload r.before h n (older_part (Sent None UserauthSuccess r.success) (Took None (UserauthRequest r.user r.service r.method) r.payload ∷ r.before) h r.taken)

-- ---- a run of a transport that is none of an end

abbrev Unasked : List Item
Unasked = sends UserauthSuccess ∷ part Server d11

pub unasked_runs : TransportRun toy Server Unasked
unfolding methods
unasked_runs = TransportRun.then_turn (transport_run toy Server (part Server d11) (end_run toy d11 r11 Server)) (TransportTurn.sends None UserauthSuccess (payload_of UserauthSuccess) (record {
  alive = refl;
  number = refl;
  theirs = refl;
  success = λ e. refl;
  service = λ e. refl;
  keyed = omega arith;
  unblocked = λ e. absurd (cc e);
  room = omega arith;
}))

pub unasked_keeps : KeepsTransport toy Server Unasked
unasked_keeps = keeps_transport toy toy_is_lawful Server Unasked unasked_runs

pub not_unasked : EndRun toy Server Unasked → ⊥
unfolding methods
not_unasked r = no_one Unasked tt ((requires_authentication toy toy_is_lawful Unasked r).success refl)

-- ---- histories that are not guarded

pub not_success_from_the_client : RequiresAuthentication toy (takes_on 5 open_message ∷ takes UserauthSuccess ∷ keyed Server) → ⊥
unfolding methods
not_success_from_the_client l = no_one (takes_on 5 open_message ∷ takes UserauthSuccess ∷ keyed Server) tt (l.messages (inr (inl (leb-true 80 _ refl))))

pub not_newkeys_without_a_reply : VerifiesHosts toy (says NewKeys ∷ offered Client) → ⊥
unfolding methods
not_newkeys_without_a_reply t = let e = t.each.0.reply in cc e

pub not_point_of_another_secret : EachIncludesOwn toy Client (says NewKeys ∷ says (KexEcdhInit (secret 2)) ∷ lined Client) → ⊥
not_point_of_another_secret o = let e = ap (λ (l : List ℕ). get_or l 31 0) o.0.point in absurd (omega (arith, e))

pub not_request_to_an_unproven_host : SendsOnlyExchange Client (says (UserauthRequest (codes "u") connection NoMethod) ∷ offered Client) → ⊥
not_request_to_an_unproven_host s = let e = s.along.1 in cc e

pub not_kexinit_without_the_marker : RequiresStrict toy Server (hears (KexInit (offer_of Client false)) ∷ lined Server) → ⊥
not_kexinit_without_the_marker i = let e = i refl (omega arith) in cc e

pub not_request_in_the_clear : TakesOnlyAllowed Server (hears (UserauthRequest (codes "u") connection NoMethod) ∷ offered Server) → ⊥
not_request_in_the_clear c = let e = c.0 refl in cc e

pub not_extensions_in_the_clear : TakesOnlyAllowed Client (hears (ExtInfo []) ∷ offered Client) → ⊥
not_extensions_in_the_clear c = let e = c.0 refl in cc e

-- IGNORE is no part of it
abbrev Parts : List (Option ℕ)
Parts = Some 20 ∷ Some 2 ∷ Some 30 ∷ []

not_last : (packets : List (Option ℕ)) → packets ++ (Some 1 ∷ []) ≡ Parts → ⊥
not_last [] e = cc e
not_last (a ∷ []) e = cc e
not_last (a ∷ b ∷ []) e = cc e
not_last (a ∷ b ∷ c ∷ []) e = cc e
not_last (a ∷ b ∷ c ∷ d ∷ l) e = cc e

not_along : (l : List (Option ℕ)) → l ≡ Parts → Follows (Some 20 ∷ Some 30 ∷ Some 21 ∷ []) l → ⊥
not_along l e (so_far packets rest f) = let g : Parts ++ rest ≡ Some 20 ∷ Some 30 ∷ Some 21 ∷ [] = subst (λ w. w ++ rest ≡ Some 20 ∷ Some 30 ∷ Some 21 ∷ []) e f in cc g
not_along l e (leaves packets rest next f) = not_last packets e

pub not_ignore_in_the_exchange : TakesOnlyExchange toy Server (hears (KexEcdhInit (secret 1)) ∷ hears (Ignore []) ∷ offered Server) → ⊥
unfolding methods
not_ignore_in_the_exchange o = not_along _ refl o.along

pub not_number_again : UsesNoNonceTwice toy Client (says (Ignore []) ∷ says NewKeys ∷ says (Ignore []) ∷ says NewKeys ∷ hears (KexInit (offer_of Server true)) ∷ says (KexInit (offer_of Client true)) ∷ []) → ⊥
not_number_again u = u.0 (omega arith) [] (inr (inl (refl, refl, refl)))
