-- What the layers above answer, by what an end keeps, is what a session answers.
use Rattle.std.proofs.Common.{◌≡◌, ℕ, ◌<◌, ◌^◌, List, [], ◌∷◌, ◌++◌, sym, ◌∙◌, subst, Bool, false, Option, Some, None, not, ◌&&◌, nat_le, ◌≤◌, length, true, arith, refl}
use Rattle.std.proofs.lemmas.Bool.{leb-false}
use Rattle.std.proofs.lemmas.List.{length-append}
use Rattle.ssh_model.specs.declared.side.Side.{Side}
use Rattle.ssh_model.specs.declared.side.Side.TheVariants.{Client, Server}
use Rattle.ssh_model.specs.Protocol.Wire.Message.{Msg, Msg.ServiceRequest, Msg.ServiceAccept, Msg.KexInit, Msg.NewKeys, Msg.KexEcdhInit, Msg.KexEcdhReply, Msg.UserauthRequest, Msg.UserauthFailure, Msg.UserauthSuccess, Msg.UserauthPkOk, Msg.Unimplemented, Msg.Unknown, Msg.GlobalRequest, Msg.RequestSuccess, Msg.RequestFailure, Msg.ChannelOpen, Msg.ChannelOpenConfirmation, Msg.ChannelOpenFailure, Msg.ChannelWindowAdjust, Msg.ChannelData, Msg.ChannelExtendedData, Msg.ChannelEof, Msg.ChannelClose, Msg.ChannelRequest, Msg.ChannelSuccess, Msg.ChannelFailure}
use Rattle.ssh_model.specs.Protocol.KeyExchange.Exchanges.{exchanges, session_id}
use Rattle.ssh_model.specs.declared.refusal.Refusal.TheVariants.{OwedFull, UnknownChannel}
use Rattle.ssh_model.specs.Protocol.Sessions.Refusals.{Check, Check.RefusedWhere, first_refusal}
use Rattle.ssh_model.specs.Protocol.Sessions.Parties.{Parties}
use Rattle.ssh_model.specs.Protocol.Sessions.Items.{Fact, Item, Item.Sent, Item.Took, Item.Told}
use Rattle.ssh_model.specs.Protocol.Sessions.Transport as transport_row
use Rattle.ssh_model.specs.Protocol.Sessions.Turns.{Answer, Answer.of_transport, Answer.of_authentication, Answer.of_connection}
use Rattle.ssh_model.specs.Protocol.Authentication.Requests.{judge_of}
use Rattle.ssh_model.specs.State.Authentication.Kept as kept
use Rattle.ssh_model.specs.State.Authentication.Kept.{ServerTakes, ClientTakes}
use Rattle.ssh_model.specs.State.Authentication.Summary.{ServerAccepts, items_of}
use Rattle.ssh_model.specs.Protocol.Channels.Message.{Message.OpenFailure, Message.Close}
use Rattle.ssh_model.specs.Protocol.Channels.Connection.{AreReplies, owed_replies}
use Rattle.ssh_model.specs.Protocol.Channels.Connection as connection
use Rattle.ssh_model.specs.State.Channels.Kept.{Channels, DueReply, DueReply.RefusesOpen, DueReply.AnswersClose, Taken, take_checks, close_taken, has_said_close, is_queue_full, is_table_full, owed_where, peer_of}
use Rattle.ssh_model.specs.State.Channels.Kept as channels
use Rattle.ssh_model.specs.State.Channels.Places.{at, is_at, is_open}
use Rattle.ssh_model.specs.State.Channels.Summary.{replied, told}
use Rattle.ssh_model.specs.State.End.State.{Authentication, Authentication.OfServer, Authentication.OfClient, EndState, above_checks, authentication_refuses, session_of}
use Rattle.ssh_model.specs.State.End.Summary.{AuthenticationSumsUp, AboveSumsUp, EndSumsUp, ServerKeeps}
use Rattle.ssh_model.specs.State.End.Payloads.{AnswersAbove, ReadsAbove, reply_items}
use Rattle.ssh_model.specs.State.End.Payloads as end
use Rattle.ssh_model.proofs.Authentication.Rows.{server_accepted, client_accepted}
use Rattle.ssh_model.proofs.Channels.Replying.{accepted}
use Rattle.ssh_model.proofs.WholeEnd.Above.{either, first_following, session_now}
use Rattle.ssh_model.proofs.WholeEnd.Kept.{AreUpper, IsTakenAbove, Off, all_kept, authentication_kept, channels_kept}
use Rattle.ssh_model.proofs.WholeEnd.Out.{AreAnswers}
use Rattle.ssh_model.proofs.TransportLayer.Packets.{IsNoOffer}
use Rattle.ssh_model.proofs.TransportLayer.Rows.{taking_number_is}

-- What is answered is an answer of a session, and the layers above sum up the history with it.
pub record AnsweredAbove {K : Type 0} (p : Parties K) (side : Side) (h : List Item) (m : Msg) (payload : List ℕ) (c : Option ℕ) (items : List Item) (a : Authentication) (n : Channels) : Type 0 where
  pub answer : Answer p side h c m items
  pub taken : IsTakenAbove side m
  pub no_offer : IsNoOffer m
  pub upper : AreUpper side items
  pub answers : AreAnswers items
  pub above : AboveSumsUp side (items ++ (Took c m payload ∷ h)) a n

none_either : {Why : Type 0} (o q : Option Why) → either o q ≡ None → q ≡ None
none_either None q e = e
none_either (Some w) q e = absurd (cc e)

pub none_following : {Why : Type 0} (x y : List (Check Why)) → first_refusal (x ++ y) ≡ None → first_refusal y ≡ None
none_following x y e = none_either (first_refusal x) (first_refusal y) (sym (first_following x y) ∙ e)

-- ---- a server

module _ {K : Type 0} (p : Parties K) (h : List Item) (server : kept.Server) (has : ServerKeeps h server) (n : Channels) (channels_sum : AboveSumsUp Server h (OfServer server) n) (session : List ℕ) (id : session_id (exchanges p Server h) ≡ session) where
  server_by : (m : Msg) (answered : kept.Answered) (new : kept.Server) → ServerTakes (judge_of p) p.server.methods session server m answered new → ServerAccepts p h m answered new
  server_by m answered new x = server_accepted p h server has.sums m answered new (subst (λ (t : List ℕ). ServerTakes (judge_of p) p.server.methods t server m answered new) (sym id) x)

  server_answers : (m : Msg) (payload reply : List ℕ) (answered : kept.Answered) (new : kept.Server) → ServerTakes (judge_of p) p.server.methods session server m answered new → AnsweredAbove p Server h m payload None (items_of reply answered) (OfServer new) n
  server_answers m payload reply answered new (ServerTakes.too_late user service how e) =
      let x = server_by m answered new (ServerTakes.too_late user service how e) in
      record {
        answer = of_authentication (x.answer reply);
        taken = tt;
        no_offer = tt;
        upper = (tt, tt);
        answers = tt;
        above = record {
          authentication_sums = record { sums = x.sums payload reply; none_made = has.none_made };
          channels_sum = channels_kept Server h n (Told _ ∷ Took None (UserauthRequest user service how) payload ∷ []) (record { channels = tt; owed = tt }, (record { channels = tt; owed = tt }, tt)) channels_sum.channels_sum;
          few_owed = channels_sum.few_owed;
        };
      }
  server_answers m payload reply answered new (ServerTakes.accepted user service how e f) =
      let x = server_by m answered new (ServerTakes.accepted user service how e f) in
      record {
        answer = of_authentication (x.answer reply);
        taken = tt;
        no_offer = tt;
        upper = (tt, (tt, tt));
        answers = (tt, tt);
        above = record {
          authentication_sums = record { sums = x.sums payload reply; none_made = has.none_made };
          channels_sum = channels_kept Server h n (Told _ ∷ Sent None UserauthSuccess reply ∷ Took None (UserauthRequest user service how) payload ∷ [])
              (record { channels = tt; owed = tt }, (record { channels = tt; owed = tt }, (record { channels = tt; owed = tt }, tt))) channels_sum.channels_sum;
          few_owed = channels_sum.few_owed;
        };
      }
  server_answers m payload reply answered new (ServerTakes.probed user service algorithm key e f) =
      let x = server_by m answered new (ServerTakes.probed user service algorithm key e f) in
      record {
        answer = of_authentication (x.answer reply);
        taken = tt;
        no_offer = tt;
        upper = (tt, tt);
        answers = (tt, tt);
        above = record {
          authentication_sums = record { sums = x.sums payload reply; none_made = has.none_made };
          channels_sum = channels_kept Server h n (Sent None (UserauthPkOk algorithm key) reply ∷ Took None (UserauthRequest user service _) payload ∷ []) (record { channels = tt; owed = tt }, (record { channels = tt; owed = tt }, tt)) channels_sum.channels_sum;
          few_owed = channels_sum.few_owed;
        };
      }
  server_answers m payload reply answered new (ServerTakes.failed user service how e f) =
      let x = server_by m answered new (ServerTakes.failed user service how e f) in
      record {
        answer = of_authentication (x.answer reply);
        taken = tt;
        no_offer = tt;
        upper = (tt, tt);
        answers = (tt, tt);
        above = record {
          authentication_sums = record { sums = x.sums payload reply; none_made = has.none_made };
          channels_sum = channels_kept Server h n (Sent None (UserauthFailure p.server.methods false) reply ∷ Took None (UserauthRequest user service how) payload ∷ []) (record { channels = tt; owed = tt }, (record { channels = tt; owed = tt }, tt)) channels_sum.channels_sum;
          few_owed = channels_sum.few_owed;
        };
      }

-- ---- a client

module _ {K : Type 0} (p : Parties K) (h : List Item) (client : kept.Client) (n : Channels) (has : AboveSumsUp Client h (OfClient client) n) where
  client_by : (m : Msg) (payload : List ℕ) (fact : Fact) (new : kept.Client) → ClientTakes client m (kept.told fact) new → IsTakenAbove Client m → IsNoOffer m → Off (Took None m payload) → AnsweredAbove p Client h m payload None (Told fact ∷ []) (OfClient new) n
  client_by m payload fact new x taken offer off =
      let y = client_accepted p h client has.authentication_sums m (kept.told fact) new x in
      record {
        answer = of_authentication (y.answer []);
        taken = taken;
        no_offer = offer;
        upper = (tt, tt);
        answers = tt;
        above = record {
          authentication_sums = y.sums payload [];
          channels_sum = channels_kept Client h n (Told fact ∷ Took None m payload ∷ []) (record { channels = tt; owed = tt }, (off, tt)) has.channels_sum;
          few_owed = has.few_owed;
        };
      }

  client_answers : (m : Msg) (payload : List ℕ) (answered : kept.Answered) (new : kept.Client) → ClientTakes client m answered new → AnsweredAbove p Client h m payload None (items_of [] answered) (OfClient new) n
  client_answers m payload answered new (ClientTakes.failure methods partial) = client_by m payload _ new (ClientTakes.failure methods partial) tt tt (record { channels = tt; owed = tt })
  client_answers m payload answered new (ClientTakes.success request e) = client_by m payload _ new (ClientTakes.success request e) tt tt (record { channels = tt; owed = tt })
  client_answers m payload answered new (ClientTakes.banner message language) = client_by m payload _ new (ClientTakes.banner message language) tt tt (record { channels = tt; owed = tt })
  client_answers m payload answered new (ClientTakes.key_ok algorithm key) = client_by m payload _ new (ClientTakes.key_ok algorithm key) tt tt (record { channels = tt; owed = tt })

-- ---- the connection

-- a message of the connection
abbrev pub IsConnection : Msg → Type 0
IsConnection (GlobalRequest name want rest) = Unit {0}
IsConnection (RequestSuccess rest) = Unit {0}
IsConnection RequestFailure = Unit {0}
IsConnection (ChannelOpen kind sender window max_packet rest) = Unit {0}
IsConnection (ChannelOpenConfirmation recipient sender window max_packet rest) = Unit {0}
IsConnection (ChannelOpenFailure recipient reason description language) = Unit {0}
IsConnection (ChannelWindowAdjust recipient bytes) = Unit {0}
IsConnection (ChannelData recipient body) = Unit {0}
IsConnection (ChannelExtendedData recipient kind body) = Unit {0}
IsConnection (ChannelEof recipient) = Unit {0}
IsConnection (ChannelClose recipient) = Unit {0}
IsConnection (ChannelRequest recipient name want rest) = Unit {0}
IsConnection (ChannelSuccess recipient) = Unit {0}
IsConnection (ChannelFailure recipient) = Unit {0}
IsConnection _ = ⊥

channels_take : (b : Bool) (c new : Channels) (m : Msg) (taken : Taken) → channels.Takes b c m taken new → IsConnection m
channels_take b c new m taken (channels.Takes.global_request x y z) = tt
channels_take b c new m taken (channels.Takes.request_success x) = tt
channels_take b c new m taken channels.Takes.request_failure = tt
channels_take b c new m taken (channels.Takes.open_taken x y z u v w q) = tt
channels_take b c new m taken (channels.Takes.open_refused x y z u v w) = tt
channels_take b c new m taken (channels.Takes.confirmation x y z u v) = tt
channels_take b c new m taken (channels.Takes.failure x y z u) = tt
channels_take b c new m taken (channels.Takes.adjust x y) = tt
channels_take b c new m taken (channels.Takes.got_data x y) = tt
channels_take b c new m taken (channels.Takes.got_extended x y z) = tt
channels_take b c new m taken (channels.Takes.eof x) = tt
channels_take b c new m taken (channels.Takes.close x) = tt
channels_take b c new m taken (channels.Takes.request x y z u) = tt
channels_take b c new m taken (channels.Takes.success x) = tt
channels_take b c new m taken (channels.Takes.no_success x) = tt

-- ---- what is owed

owe_one : (r : DueReply) (l : List DueReply) → length l < 256 → length (l ++ r ∷ []) ≤ 256
owe_one r l few = omega (arith, few, length-append l (r ∷ []))

-- no check holds, so the queue has room
not_full : (b c : Bool) → b ≡ true → first_refusal (RefusedWhere (b && c) OwedFull ∷ []) ≡ None → c ≡ false
not_full true true e f = absurd (cc f)
not_full true false e f = refl
not_full false c e f = absurd (cc e)

none_tail : {Why : Type 0} (holds : Bool) (why : Why) (l : List (Check Why)) → first_refusal (RefusedWhere holds why ∷ l) ≡ None → first_refusal l ≡ None
none_tail true why l e = absurd (cc e)
none_tail false why l e = e

close_owed : (said d : Bool) (c : Channels) (x to : ℕ) → first_refusal (RefusedWhere (not said && is_queue_full d c.owed) OwedFull ∷ []) ≡ None → length c.owed ≤ 256 → length (close_taken said d x to c).owed ≤ 256
close_owed true true c x to e few = few
close_owed true false c x to e few = few
close_owed false false c x to e few = few
close_owed false true c x to e few = owe_one (AnswersClose x to) c.owed (leb-false 256 (length c.owed) (not_full true (nat_le 256 (length c.owed)) refl e))

takes_owed : (b : Bool) (c new : Channels) (m : Msg) (taken : Taken) → first_refusal (take_checks b c m) ≡ None → channels.Takes b c m taken new → length c.owed ≤ 256 → length new.owed ≤ 256
takes_owed b c new m taken fine (channels.Takes.open_refused kind sender window most rest full) few = refused_owed b fine
  where
    refused_owed : (d : Bool) → first_refusal (RefusedWhere (is_table_full c.places && is_queue_full d c.owed) OwedFull ∷ []) ≡ None → length (owed_where d (RefusesOpen sender) c).owed ≤ 256
    refused_owed true f = owe_one (RefusesOpen sender) c.owed (leb-false 256 (length c.owed) (not_full (is_table_full c.places) (is_queue_full true c.owed) full f))
    refused_owed false f = few
takes_owed b c new m taken fine (channels.Takes.close x) few = close_owed (has_said_close (at c.places x)) b c x (peer_of (at c.places x)) (none_tail (not (is_at is_open (at c.places x))) UnknownChannel (RefusedWhere (not (has_said_close (at c.places x)) && is_queue_full b c.owed) OwedFull ∷ []) fine) few
takes_owed b c new m taken fine x few = few

connection_above : (side : Side) (m : Msg) → IsConnection m → IsTakenAbove side m
connection_above side (ServiceRequest x) l = elim l [ ]
connection_above side (ServiceAccept x) l = elim l [ ]
connection_above side (KexInit x) l = elim l [ ]
connection_above side NewKeys l = elim l [ ]
connection_above side (KexEcdhInit x) l = elim l [ ]
connection_above side (KexEcdhReply x y z) l = elim l [ ]
connection_above side UserauthSuccess l = elim l [ ]
connection_above Client m l = tt
connection_above Server m l = tt

connection_no_offer : (m : Msg) → IsConnection m → IsNoOffer m
connection_no_offer (KexInit x) l = elim l [ ]
connection_no_offer m l = tt

-- authentication keeps nothing of what the channels take, send and tell
connection_taken : (side : Side) (h : List Item) (a : Authentication) (c : Option ℕ) (m : Msg) (b : List ℕ) → IsConnection m → AuthenticationSumsUp side h a → AuthenticationSumsUp side (Took c m b ∷ h) a
connection_taken side h a c (ServiceAccept x) b l has = elim l [ ]
connection_taken side h a c (UserauthFailure x y) b l has = elim l [ ]
connection_taken side h a c UserauthSuccess b l has = elim l [ ]
connection_taken side h a c (UserauthPkOk x y) b l has = elim l [ ]
connection_taken side h a c m b l has = authentication_kept side h a (Took c m b) tt tt has

connection_told : (side : Side) (h : List Item) (a : Authentication) (fact : Option Fact) (items : List Item) → AuthenticationSumsUp side (items ++ h) a → AuthenticationSumsUp side (told fact items ++ h) a
connection_told side h a None items has = has
connection_told side h a (Some fact) items has = authentication_kept side (items ++ h) a (Told fact) tt tt has

connection_replied : (side : Side) (h : List Item) (a : Authentication) (r : Option DueReply) (b : List ℕ) → AuthenticationSumsUp side h a → AuthenticationSumsUp side (reply_items r b ++ h) a
connection_replied side h a None b has = has
connection_replied side h a (Some (RefusesOpen to)) b has = authentication_kept side h a (Sent None (ChannelOpenFailure to 4 [] []) b) tt tt has
connection_replied side h a (Some (AnswersClose x to)) b has = authentication_kept side h a (Sent (Some x) (ChannelClose to) b) tt tt has

replies_are : (r : Option DueReply) (b : List ℕ) → AreReplies (replied r) (reply_items r b)
replies_are None b = connection.AreReplies.none
replies_are (Some (RefusesOpen to)) b = connection.AreReplies.reply None (OpenFailure to) b connection.AreReplies.none
replies_are (Some (AnswersClose x to)) b = connection.AreReplies.reply (Some x) (Close to) b connection.AreReplies.none

upper_told : (side : Side) (fact : Option Fact) (items : List Item) → AreUpper side items → AreUpper side (told fact items)
upper_told side None items u = u
upper_told Client (Some fact) items u = (tt, u)
upper_told Server (Some fact) items u = (tt, u)

upper_replied : (side : Side) (r : Option DueReply) (b : List ℕ) → AreUpper side (reply_items r b)
upper_replied side None b = tt
upper_replied Client (Some (RefusesOpen to)) b = (tt, tt)
upper_replied Client (Some (AnswersClose x to)) b = (tt, tt)
upper_replied Server (Some (RefusesOpen to)) b = (tt, tt)
upper_replied Server (Some (AnswersClose x to)) b = (tt, tt)

answers_told : (fact : Option Fact) (items : List Item) → AreAnswers items → AreAnswers (told fact items)
answers_told None items u = u
answers_told (Some fact) items u = u

answers_replied : (r : Option DueReply) (b : List ℕ) → AreAnswers (reply_items r b)
answers_replied None b = tt
answers_replied (Some (RefusesOpen to)) b = (tt, tt)
answers_replied (Some (AnswersClose x to)) b = (tt, tt)

-- ---- all of them

module _ {K : Type 0} (p : Parties K) where
  at_server : (side : Side) (h : List Item) (e : EndState K) (sums : EndSumsUp p side h e) (alive : e.transport.dead ≡ false) (server new : kept.Server) (m : Msg) (payload reply : List ℕ) (answered : kept.Answered) → e.authentication ≡ OfServer server → ReadsAbove e m payload →
      ServerTakes (judge_of p) p.server.methods (session_of e) server m answered new → AnsweredAbove p side h m payload None (items_of reply answered) (OfServer new) e.channels
  at_server Server h e sums alive server new m payload reply answered is r x =
      let above : AboveSumsUp Server h (OfServer server) e.channels = subst (λ (a : Authentication). AboveSumsUp Server h a e.channels) is (sums.above alive) in
      server_answers p h server above.authentication_sums e.channels above (session_of e) (sym (session_now p Server h e sums alive r.normal)) m payload reply answered new x
  at_server Client h e sums alive server new m payload reply answered is r x =
      let wrong : AuthenticationSumsUp Client h (OfServer server) = subst (λ (a : Authentication). AuthenticationSumsUp Client h a) is (sums.above alive).authentication_sums in
      elim wrong [ ]

  at_client : (side : Side) (h : List Item) (e : EndState K) (sums : EndSumsUp p side h e) (alive : e.transport.dead ≡ false) (client new : kept.Client) (m : Msg) (payload : List ℕ) (answered : kept.Answered) → e.authentication ≡ OfClient client →
      ClientTakes client m answered new → AnsweredAbove p side h m payload None (items_of [] answered) (OfClient new) e.channels
  at_client Client h e sums alive client new m payload answered is x =
      client_answers p h client e.channels (subst (λ (a : Authentication). AboveSumsUp Client h a e.channels) is (sums.above alive)) m payload answered new x
  at_client Server h e sums alive client new m payload answered is x =
      let wrong : AuthenticationSumsUp Server h (OfClient client) = subst (λ (a : Authentication). AuthenticationSumsUp Server h a) is (sums.above alive).authentication_sums in
      elim wrong [ ]

  upper_sent : (side : Side) (number : ℕ) (reply : List ℕ) → AreUpper side (Sent None (Unimplemented number) reply ∷ [])
  upper_sent Client number reply = (tt, tt)
  upper_sent Server number reply = (tt, tt)

  unknown_above : (side : Side) (number : ℕ) → IsTakenAbove side (Unknown number)
  unknown_above Client number = tt
  unknown_above Server number = tt

  module _ (side : Side) (h : List Item) (e : EndState K) (sums : EndSumsUp p side h e) (alive : e.transport.dead ≡ false) where
    of_channels : (m : Msg) (payload reply : List ℕ) (taken : Taken) (new : Channels) → first_refusal (above_checks p e m) ≡ None → channels.Takes e.transport.blocked e.channels m taken new →
        AnsweredAbove p side h m payload taken.channel (told taken.fact (reply_items taken.reply reply)) e.authentication new
    of_channels m payload reply taken new fine x =
        let above = sums.above alive in
        let is = channels_take e.transport.blocked e.channels new m taken x in
        let y = accepted side h e.channels above.channels_sum e.transport.blocked (sym (sums.transport.live alive).blocked_is) m taken new (none_following (authentication_refuses p (session_of e) e.authentication m) (take_checks e.transport.blocked e.channels m) fine) x in
        record {
          answer = of_connection (y.answer (reply_items taken.reply reply) (replies_are taken.reply reply));
          taken = connection_above side m is;
          no_offer = connection_no_offer m is;
          upper = upper_told side taken.fact _ (upper_replied side taken.reply reply);
          answers = answers_told taken.fact _ (answers_replied taken.reply reply);
          above = record {
            authentication_sums = connection_told side (Took taken.channel m payload ∷ h) e.authentication taken.fact (reply_items taken.reply reply)
                (connection_replied side (Took taken.channel m payload ∷ h) e.authentication taken.reply reply (connection_taken side h e.authentication taken.channel m payload is above.authentication_sums));
            channels_sum = y.sums payload (reply_items taken.reply reply) (replies_are taken.reply reply);
            few_owed = takes_owed e.transport.blocked e.channels new m taken (none_following (authentication_refuses p (session_of e) e.authentication m) (take_checks e.transport.blocked e.channels m) fine) x above.few_owed;
          };
        }

    of_unknown : (number : ℕ) (payload reply : List ℕ) → e.transport.taking.count < 2 ^ 32 → AnsweredAbove p side h (Unknown number) payload None (Sent None (Unimplemented e.transport.taking.number) reply ∷ []) e.authentication e.channels
    of_unknown number payload reply few =
        let same = taking_number_is p side h e.transport (sums.transport.live alive) few in
        record {
          answer = subst (λ (n : ℕ). Answer p side h None (Unknown number) (Sent None (Unimplemented n) reply ∷ [])) (sym same) (of_transport (transport_row.TransportAnswer.unknown number reply));
          taken = unknown_above side number;
          no_offer = tt;
          upper = upper_sent side e.transport.taking.number reply;
          answers = (tt, tt);
          above = all_kept side h e.authentication e.channels (Sent None (Unimplemented e.transport.taking.number) reply ∷ Took None (Unknown number) payload ∷ [])
              (record { server = tt; client = tt; channels = tt; owed = tt }, (record { server = tt; client = tt; channels = tt; owed = tt }, tt)) (sums.above alive);
        }

    pub answered_above : (m : Msg) (payload : List ℕ) (c : Option ℕ) (items : List Item) (a : Authentication) (n : Channels) → ReadsAbove e m payload → first_refusal (above_checks p e m) ≡ None → AnswersAbove p e m c items a n → AnsweredAbove p side h m payload c items a n
    answered_above m payload c items a n r fine (end.AnswersAbove.by_server server new m2 answered reply is x) = at_server side h e sums alive server new m payload reply answered is r x
    answered_above m payload c items a n r fine (end.AnswersAbove.by_client client new m2 answered is x) = at_client side h e sums alive client new m payload answered is x
    answered_above m payload c items a n r fine (end.AnswersAbove.by_channels m2 taken reply new x) = of_channels m payload reply taken new fine x
    answered_above m payload c items a n r fine (end.AnswersAbove.unknown number reply few) = of_unknown number payload reply few
