-- What an end makes of an ask, by what it keeps, is a turn of a session.
use Rattle.std.proofs.Common.{◌≡◌, ℕ, zero, suc, ◌^◌, ◌<◌, List, [], ◌∷◌, ◌++◌, length, refl, ap, sym, ◌∙◌, subst, arith, cond, Bool, true, false, not, nat_le, Option, Some, None, append-nil, append_assoc, ◌≤◌}
use Rattle.ssh_model.specs.declared.side.Side.{Side}
use Rattle.ssh_model.specs.declared.side.Side.TheVariants.{Client, Server}
use Rattle.ssh_model.specs.Protocol.Wire.Message.{Msg, Msg.ServiceRequest, Msg.KexInit, Msg.KexEcdhInit, Msg.KexEcdhReply, Msg.NewKeys, Msg.UserauthRequest, Msg.UserauthSuccess, Msg.ServiceAccept, Msg.UserauthFailure, Msg.Disconnect}
use Rattle.ssh_model.specs.Protocol.KeyExchange.Exchange.{Inputs}
use Rattle.ssh_model.specs.Protocol.KeyExchange.Exchanges.{exchanges, session_id}
use Rattle.ssh_model.specs.declared.ask_refusal.AskRefusal.{AskRefusal}
use Rattle.ssh_model.specs.declared.ask_refusal.AskRefusal.TheVariants.{NotYet}
use Rattle.ssh_model.specs.declared.refusal.Refusal.TheVariants.{NumberSpent}
use Rattle.ssh_model.specs.Protocol.Sessions.Refusals.{Check, first_refusal}
use Rattle.ssh_model.specs.Protocol.Sessions.Parties.{Parties, settings_of, user_signature_by}
use Rattle.ssh_model.specs.Protocol.Sessions.Items.{Ask, Ask.AskNone, Ask.AskPassword, Ask.AskProbe, Ask.AskSign, Ask.AskOpen, Ask.AskConfirm, Ask.AskRefuse, Ask.AskData, Ask.AskAdjust, Ask.AskEof, Ask.AskClose, Ask.AskRequest, Ask.AskReply, Ask.AskGlobal, Ask.AskGlobalReply, Ask.AskDisconnect, Fact, Item, Item.Sent, Item.Told, Item.Asked, Item.AskRefused, Item.Refused, Item.Died, sent, messages_sent, has_died}
use Rattle.ssh_model.specs.Protocol.Sessions.Epochs.{count, epoch}
use Rattle.ssh_model.specs.Protocol.Sessions.Events.{PutsOut, PutsOut.other as put_other}
use Rattle.ssh_model.specs.Protocol.Sessions.Phases.{authenticated, blocked}
use Rattle.ssh_model.specs.Protocol.Sessions.Turns as turn
use Rattle.ssh_model.specs.Protocol.Sessions.Turns.{AreNumbered, AreEncoded, AsksTurn, IsEncoded, OnAsk, ask_checks}
use Rattle.ssh_model.specs.Protocol.Sessions.Transport.{transport_ask_checks}
use Rattle.ssh_model.specs.Protocol.Sessions.Transport as transport_row
use Rattle.ssh_model.specs.Protocol.Authentication.Rows.{authentication_ask_checks}
use Rattle.ssh_model.specs.State.Authentication.Kept as kept
use Rattle.ssh_model.specs.State.Authentication.Kept.{ClientSends}
use Rattle.ssh_model.specs.State.Authentication.Summary.{LeavesServer, LeavesClient}
use Rattle.ssh_model.specs.Protocol.Channels.Connection.{after_authentication, channel_ask_checks, connection_ask_checks, is_rekey_due}
use Rattle.ssh_model.specs.State.Channels.Kept as channels
use Rattle.ssh_model.specs.State.Channels.Kept.{Channels, Sends, send_checks}
use Rattle.ssh_model.specs.State.Channels.Summary.{told}
use Rattle.ssh_model.specs.State.TransportLayer.Kept.{Asks, Transport, message_ask_checks}
use Rattle.ssh_model.specs.State.TransportLayer.Kept as transport
use Rattle.ssh_model.specs.State.TransportLayer.Summary.{Live, session_after}
use Rattle.ssh_model.specs.State.TransportLayer.Turns.{AskTurned, PutsPackets}
use Rattle.ssh_model.specs.State.TransportLayer.View.{view}
use Rattle.ssh_model.specs.State.End.State.{Authentication, Authentication.OfServer, Authentication.OfClient, EndState, after_items, is_due}
use Rattle.ssh_model.specs.State.End.Summary.{AuthenticationSumsUp, AboveSumsUp, EndSumsUp, EndTurned}
use Rattle.ssh_model.specs.State.End.Asks.{AsksAbove, TakesAsk, authentication_asks, end_ask_checks}
use Rattle.ssh_model.specs.State.End.Asks as end
use Rattle.ssh_model.proofs.Authentication.Rows.{client_refused, client_allowed}
use Rattle.ssh_model.proofs.Channels.Allowing.{allowed}
use Rattle.ssh_model.proofs.Channels.Checking.{ask_checked}
use Rattle.ssh_model.proofs.TransportLayer.Checks.{asks_same, none_more}
use Rattle.ssh_model.proofs.TransportLayer.Ending.{ask_disconnects, ask_sent, ask_spent, disconnect_spent, none_of_others}
use Rattle.ssh_model.proofs.Items as layer
use Rattle.ssh_model.proofs.TransportLayer.Rows as rows
use Rattle.ssh_model.proofs.TransportLayer.Packets.{IsOther, stands_by, stands_live}
use Rattle.ssh_model.proofs.WholeEnd.Above.{first_both}
use Rattle.ssh_model.proofs.WholeEnd.Answers.{IsConnection, none_following}
use Rattle.ssh_model.proofs.WholeEnd.Kept.{AreUpper, Off, all_kept, authentication_kept, channels_kept, upper}
use Rattle.ssh_model.proofs.WholeEnd.Out.{AreAnswers, all_numbered, answers_out, none_left}
use Rattle.ssh_model.proofs.WholeEnd.Payloads.{dead_sums, left}

-- ---- what is refused

server_asks : (h : List Item) (server : kept.Server) (ask : Ask) → first_refusal (authentication_ask_checks Server h ask) ≡ first_refusal (authentication_asks (OfServer server) ask)
server_asks h server (AskNone user) = refl
server_asks h server (AskPassword user password) = refl
server_asks h server (AskProbe user algorithm key) = refl
server_asks h server (AskSign user algorithm key) = refl
server_asks h server ask = refl

authentication_refuses : (side : Side) (h : List Item) (a : Authentication) → AuthenticationSumsUp side h a → (ask : Ask) → first_refusal (authentication_ask_checks side h ask) ≡ first_refusal (authentication_asks a ask)
authentication_refuses Server h (OfServer server) has ask = server_asks h server ask
authentication_refuses Client h (OfClient client) has ask = client_refused h client has ask
authentication_refuses Server h (OfClient client) has ask = elim has [ ]
authentication_refuses Client h (OfServer server) has ask = elim has [ ]

-- the end has to be authenticated first
after : (a b : Bool) {x y : Option AskRefusal} → a ≡ b → x ≡ y → cond (not a) (Some NotYet) x ≡ cond (not b) (Some NotYet) y
after a b e f = λ i. cond (not (e i)) (Some NotYet) (f i)

connection_refuses : (side : Side) (h : List Item) (c : Channels) (shut due a b : Bool) (ask : Ask) → a ≡ b → first_refusal (channel_ask_checks (blocked h) due side h ask) ≡ first_refusal (send_checks shut due c ask) →
    first_refusal (after_authentication a (channel_ask_checks (blocked h) due side h ask)) ≡ first_refusal (after_authentication b (send_checks shut due c ask))
connection_refuses side h c shut due a b (AskOpen kind window most rest) e f = after a b e f
connection_refuses side h c shut due a b (AskConfirm x window most rest) e f = after a b e f
connection_refuses side h c shut due a b (AskRefuse x reason) e f = after a b e f
connection_refuses side h c shut due a b (AskData x kind body) e f = after a b e f
connection_refuses side h c shut due a b (AskAdjust x bytes) e f = after a b e f
connection_refuses side h c shut due a b (AskEof x) e f = after a b e f
connection_refuses side h c shut due a b (AskClose x) e f = after a b e f
connection_refuses side h c shut due a b (AskRequest x name want rest) e f = after a b e f
connection_refuses side h c shut due a b (AskReply x answer) e f = after a b e f
connection_refuses side h c shut due a b (AskGlobal name want rest) e f = after a b e f
connection_refuses side h c shut due a b (AskGlobalReply true rest) e f = after a b e f
connection_refuses side h c shut due a b (AskGlobalReply false rest) e f = after a b e f
connection_refuses side h c shut due a b ask e f = refl

none_after : (a : Bool) (x : List (Check AskRefusal)) → first_refusal (after_authentication a x) ≡ None → first_refusal x ≡ None
none_after a [] e = refl
none_after true (check ∷ x) e = e
none_after false (check ∷ x) e = absurd (cc e)

-- ---- what is sent

-- The layers above send this as in a session.
record AskedAbove {K : Type 0} (p : Parties K) (side : Side) (h : List Item) (ask : Ask) (items : List Item) (a : Authentication) (n : Channels) : Type 0 where
  on_ask : OnAsk p side h ask items
  one_sent : length (messages_sent items) ≡ 1
  upper : AreUpper side items
  answers : AreAnswers items
  above : AboveSumsUp side (items ++ (Asked ask ∷ h)) a n

upper_of : (side : Side) (fact : Option Fact) (items : List Item) → AreUpper side items → AreUpper side (told fact items)
upper_of side None items u = u
upper_of Client (Some fact) items u = (tt, u)
upper_of Server (Some fact) items u = (tt, u)

answers_of : (fact : Option Fact) (items : List Item) → AreAnswers items → AreAnswers (told fact items)
answers_of None items u = u
answers_of (Some fact) items u = u

sent_of : (fact : Option Fact) (c : Option ℕ) (m : Msg) (b : List ℕ) → length (messages_sent (told fact (Sent c m b ∷ []))) ≡ 1
sent_of None c m b = refl
sent_of (Some fact) c m b = refl

kept_of : (side : Side) (h : List Item) (a : Authentication) (fact : Option Fact) (c : Option ℕ) (m : Msg) (b : List ℕ) → LeavesServer (Sent c m b) → LeavesClient (Sent c m b) → AuthenticationSumsUp side h a →
    AuthenticationSumsUp side (told fact (Sent c m b ∷ []) ++ h) a
kept_of side h a None c m b l k has = authentication_kept side h a (Sent c m b) l k has
kept_of side h a (Some fact) c m b l k has = authentication_kept side (Sent c m b ∷ h) a (Told fact) tt tt (authentication_kept side h a (Sent c m b) l k has)

-- ---- messages of the connection

upper_message : (side : Side) (c : Option ℕ) (m : Msg) (b : List ℕ) → IsConnection m → AreUpper side (Sent c m b ∷ [])
upper_message side c (ServiceRequest x) b l = elim l [ ]
upper_message side c (ServiceAccept x) b l = elim l [ ]
upper_message side c (KexInit x) b l = elim l [ ]
upper_message side c NewKeys b l = elim l [ ]
upper_message side c (KexEcdhInit x) b l = elim l [ ]
upper_message side c (KexEcdhReply x y z) b l = elim l [ ]
upper_message side c UserauthSuccess b l = elim l [ ]
upper_message Client c m b l = (tt, tt)
upper_message Server c m b l = (tt, tt)

other_message : (m : Msg) → IsConnection m → IsOther m
other_message NewKeys l = elim l [ ]
other_message m l = tt

server_message : (c : Option ℕ) (m : Msg) (b : List ℕ) → IsConnection m → LeavesServer (Sent c m b)
server_message c (ServiceAccept x) b l = elim l [ ]
server_message c (UserauthFailure x y) b l = elim l [ ]
server_message c UserauthSuccess b l = elim l [ ]
server_message c m b l = tt

client_message : (c : Option ℕ) (m : Msg) (b : List ℕ) → IsConnection m → LeavesClient (Sent c m b)
client_message c (UserauthRequest x y z) b l = elim l [ ]
client_message c m b l = tt

channels_send : (c new : Channels) (ask : Ask) (sent : channels.Sent) → Sends c ask sent new → IsConnection sent.message
channels_send c new ask sent (Sends.opens x y z u v w q) = tt
channels_send c new ask sent (Sends.confirm x y z u v) = tt
channels_send c new ask sent (Sends.refuse x y) = tt
channels_send c new ask sent (Sends.gives_data x y) = tt
channels_send c new ask sent (Sends.gives_extended x y z) = tt
channels_send c new ask sent (Sends.adjust x y) = tt
channels_send c new ask sent (Sends.eof x) = tt
channels_send c new ask sent (Sends.close x) = tt
channels_send c new ask sent (Sends.request x y z u) = tt
channels_send c new ask sent (Sends.reply_yes x) = tt
channels_send c new ask sent (Sends.reply_no x) = tt
channels_send c new ask sent (Sends.global x y z) = tt
channels_send c new ask sent (Sends.global_yes x) = tt
channels_send c new ask sent (Sends.global_no x) = tt

-- what is owed stays
sends_owed : (c new : Channels) (ask : Ask) (sent : channels.Sent) → Sends c ask sent new → length c.owed ≤ 256 → length new.owed ≤ 256
sends_owed c new ask sent (Sends.opens x y z u v w q) few = few
sends_owed c new ask sent (Sends.confirm x y z u v) few = few
sends_owed c new ask sent (Sends.refuse x y) few = few
sends_owed c new ask sent (Sends.gives_data x y) few = few
sends_owed c new ask sent (Sends.gives_extended x y z) few = few
sends_owed c new ask sent (Sends.adjust x y) few = few
sends_owed c new ask sent (Sends.eof x) few = few
sends_owed c new ask sent (Sends.close x) few = few
sends_owed c new ask sent (Sends.request x y z u) few = few
sends_owed c new ask sent (Sends.reply_yes x) few = few
sends_owed c new ask sent (Sends.reply_no x) few = few
sends_owed c new ask sent (Sends.global x y z) few = few
sends_owed c new ask sent (Sends.global_yes x) few = few
sends_owed c new ask sent (Sends.global_no x) few = few

-- ---- a client's request

request_sent : (signature : List ℕ → List ℕ → List ℕ → List ℕ → List ℕ) (session : List ℕ) (client new : kept.Client) (ask : Ask) (m : Msg) → ClientSends signature session client ask m new → (b : List ℕ) → (AreUpper Client (Sent None m b ∷ []) × AreAnswers (Sent None m b ∷ [])) × Off (Sent None m b)
request_sent signature session client new ask m (ClientSends.none user) b = (((tt, tt), (tt, tt)), record { channels = tt; owed = tt })
request_sent signature session client new ask m (ClientSends.password user word) b = (((tt, tt), (tt, tt)), record { channels = tt; owed = tt })
request_sent signature session client new ask m (ClientSends.probe user algorithm key) b = (((tt, tt), (tt, tt)), record { channels = tt; owed = tt })
request_sent signature session client new ask m (ClientSends.sign user algorithm key) b = (((tt, tt), (tt, tt)), record { channels = tt; owed = tt })

-- the session id that is kept is that of the history
session_some : (n : ℕ) (xs : List Inputs) (id : List ℕ) → session_after n xs ≡ Some id → session_id xs ≡ id
session_some zero xs id e = absurd (cc e)
session_some (suc n) xs id e = cc e

module _ {K : Type 0} (p : Parties K) where
  asked_client : (side : Side) (h : List Item) (e : EndState K) → EndSumsUp p side h e → e.transport.dead ≡ false → (session : List ℕ) (client new : kept.Client) (ask : Ask) (m : Msg) (b : List ℕ) → e.transport.session ≡ Some session → e.authentication ≡ OfClient client →
      ClientSends (user_signature_by p) session client ask m new → AskedAbove p side h ask (Sent None m b ∷ []) (OfClient new) e.channels
  asked_client Client h e sums alive session client new ask m b has is x =
      let above : AboveSumsUp Client h (OfClient client) e.channels = subst (λ (a : Authentication). AboveSumsUp Client h a e.channels) is (sums.above alive) in
      let id : session_id (exchanges p Client h) ≡ session = session_some (epoch (sent h)) (exchanges p Client h) session (sym (sums.transport.live alive).session_is ∙ has) in
      let y = client_allowed p h client above.authentication_sums ask m new (subst (λ (t : List ℕ). ClientSends (user_signature_by p) t client ask m new) (sym id) x) in
      let r = request_sent (user_signature_by p) session client new ask m x b in
      record {
        on_ask = turn.OnAsk.of_authentication (y.row b);
        one_sent = refl;
        upper = r.0.0;
        answers = r.0.1;
        above = record {
          authentication_sums = y.sums b;
          channels_sum = channels_kept Client h e.channels (Sent None m b ∷ Asked ask ∷ []) (r.1, (record { channels = tt; owed = tt }, tt)) above.channels_sum;
          few_owed = above.few_owed;
        };
      }
  asked_client Server h e sums alive session client new ask m b has is x =
      let wrong : AuthenticationSumsUp Server h (OfClient client) = subst (λ (a : Authentication). AuthenticationSumsUp Server h a) is (sums.above alive).authentication_sums in
      elim wrong [ ]

  module _ (side : Side) (h : List Item) (e : EndState K) (sums : EndSumsUp p side h e) (alive : e.transport.dead ≡ false) where
    live : Live p side (view p side h) e.transport
    live = sums.transport.live alive

    -- ---- what is refused

    due_same : is_rekey_due p side h ≡ is_due p side e
    due_same = ap (λ (n : ℕ). nat_le (settings_of p side).epoch_limit n) (sym live.sending.count_is)

    connection_same : (ask : Ask) → first_refusal (connection_ask_checks p side h ask) ≡ first_refusal (after_authentication e.transport.authenticated (send_checks e.transport.blocked (is_due p side e) e.channels ask))
    connection_same ask =
        ap (λ (due : Bool). first_refusal (after_authentication (authenticated side h) (channel_ask_checks (blocked h) due side h ask))) due_same
        ∙ connection_refuses side h e.channels e.transport.blocked (is_due p side e) (authenticated side h) e.transport.authenticated ask (sym live.authenticated_is)
        (ask_checked side h e.channels (sums.above alive).channels_sum (is_due p side e) ask ∙ ap (λ (b : Bool). first_refusal (send_checks b (is_due p side e) e.channels ask)) (sym live.blocked_is))

    pub asks_refused : (ask : Ask) → first_refusal (ask_checks p side h ask) ≡ first_refusal (end_ask_checks p side e ask)
    asks_refused ask =
        first_both (transport_ask_checks p side h ask) (authentication_ask_checks side h ask ++ connection_ask_checks p side h ask) (message_ask_checks e.transport ask)
        (authentication_asks e.authentication ask ++ after_authentication e.transport.authenticated (send_checks e.transport.blocked (is_due p side e) e.channels ask))
        (asks_same p h e.transport side sums.transport alive ask)
        (first_both (authentication_ask_checks side h ask) (connection_ask_checks p side h ask) (authentication_asks e.authentication ask) (after_authentication e.transport.authenticated (send_checks e.transport.blocked (is_due p side e) e.channels ask))
        (authentication_refuses side h e.authentication (sums.above alive).authentication_sums ask) (connection_same ask))

    -- ---- the layers above

    asked_channels : (ask : Ask) (sent : channels.Sent) (new : Channels) (b : List ℕ) → first_refusal (end_ask_checks p side e ask) ≡ None → Sends e.channels ask sent new →
        AskedAbove p side h ask (told sent.fact (Sent sent.channel sent.message b ∷ [])) e.authentication new
    asked_channels ask sent new b fine x =
        let above = sums.above alive in
        let is = channels_send e.channels new ask sent x in
        let rest = none_following (message_ask_checks e.transport ask) _ fine in
        let clear = none_after e.transport.authenticated (send_checks e.transport.blocked (is_due p side e) e.channels ask) (none_following (authentication_asks e.authentication ask) _ rest) in
        let y = allowed side h e.channels above.channels_sum (is_due p side e) e.transport.blocked (sym live.blocked_is) ask sent new clear x in
        record {
          on_ask = turn.OnAsk.of_connection (y.row b);
          one_sent = sent_of sent.fact sent.channel sent.message b;
          upper = upper_of side sent.fact _ (upper_message side sent.channel sent.message b is);
          answers = answers_of sent.fact _ (other_message sent.message is, tt);
          above = record {
            authentication_sums = kept_of side (Asked ask ∷ h) e.authentication sent.fact sent.channel sent.message b (server_message sent.channel sent.message b is) (client_message sent.channel sent.message b is)
                (authentication_kept side h e.authentication (Asked ask) tt tt above.authentication_sums);
            channels_sum = y.sums b;
            few_owed = sends_owed e.channels new ask sent x above.few_owed;
          };
        }

    asked_above : (ask : Ask) (items : List Item) (a : Authentication) (n : Channels) → first_refusal (end_ask_checks p side e ask) ≡ None → AsksAbove p e ask items a n → AskedAbove p side h ask items a n
    asked_above ask items a n fine (end.AsksAbove.by_client session client new ask2 m b has is x) = asked_client side h e sums alive session client new ask m b has is x
    asked_above ask items a n fine (end.AsksAbove.by_channels ask2 sent new b x) = asked_channels ask sent new b fine x

    -- ---- the turns

    abbrev ByAsk : Ask → List Item → List ℕ → EndState K → Type 0
    ByAsk ask items more new = EndTurned p side h (AsksTurn p side h ask) items more new

    living : has_died h ≡ false
    living = sym sums.transport.dead_is ∙ alive

    of_asked : (ask : Ask) (items : List Item) (more : List ℕ) (new : EndState K) → AskTurned p side h ask items more new.transport → (new.transport.dead ≡ false → AboveSumsUp side (items ++ h) new.authentication new.channels) → ByAsk ask items more new
    of_asked ask items more new t above = record { turn = t.turn; sums = record { transport = t.sums; above = above }; puts = t.puts }

    no_layers : (new : EndState K) (items : List Item) → new.transport.dead ≡ true → new.transport.dead ≡ false → AboveSumsUp side items new.authentication new.channels
    no_layers new items d z = absurd (cc (z, d))

    transport_above : (ask : Ask) (m : Msg) (b : List ℕ) (s : Transport K) → Asks e.transport ask m b s → AboveSumsUp side (Sent None m b ∷ Asked ask ∷ h) e.authentication e.channels
    transport_above ask m b s (transport.Asks.service b2 is) = all_kept side h e.authentication e.channels (Sent None (ServiceRequest _) b ∷ Asked ask ∷ []) (left _ tt tt tt tt, (left _ tt tt tt tt, tt)) (sums.above alive)
    transport_above ask m b s (transport.Asks.rekey material b2 free has) = all_kept side h e.authentication e.channels (Sent None (KexInit _) b ∷ Asked ask ∷ []) (left _ tt tt tt tt, (left _ tt tt tt tt, tt)) (sums.above alive)

    above_asked : (ask : Ask) (items : List Item) (more : List ℕ) (a : Authentication) (n : Channels) → first_refusal (end_ask_checks p side e ask) ≡ None → AsksAbove p e ask items a n → PutsPackets p.crypto e.transport.sending (messages_sent items) more →
        ByAsk ask (items ++ Asked ask ∷ []) more (record { transport = after_items side items e.transport; authentication = a; channels = n })
    above_asked ask items more a n fine x y =
        let v = asked_above ask items a n fine x in
        let g : List Item = Asked ask ∷ h in
        let st = stands_by p side g h e.transport.sending refl refl refl refl (stands_live p side h e.transport live) in
        let o = answers_out p side g e.transport.sending st live.counts.opened items more v.answers y in
        let same : (items ++ Asked ask ∷ []) ++ h ≡ items ++ (Asked ask ∷ h) = append_assoc items (Asked ask ∷ []) h in
        let new : EndState K = record { transport = after_items side items e.transport; authentication = a; channels = n } in
        record {
          turn = turn.AsksTurn.answers living (asks_refused ask ∙ fine) v.on_ask o.out.encoded o.out.numbered;
          sums = subst (λ (l : List Item). EndSumsUp p side l new) (sym same)
              (record { transport = upper p side g e.transport items v.upper (layer.left p side h e.transport (Asked ask) tt sums.transport); above = λ z. v.above });
          puts = λ bytes z. subst (λ (l : List Item). PutsOut p side l (bytes ++ more)) (sym same) (o.out.puts bytes (put_other (Asked ask) tt z));
        }

    -- ---- numbers, and memory

    spent_out : (ask : Ask) (bytes : List ℕ) → PutsOut p side h bytes → PutsOut p side (Died ∷ Refused NumberSpent None ∷ Asked ask ∷ h) (bytes ++ [])
    spent_out ask bytes z = subst (λ (b : List ℕ). PutsOut p side (Died ∷ Refused NumberSpent None ∷ Asked ask ∷ h) b) (sym (append-nil bytes)) (put_other Died tt (put_other (Refused NumberSpent None) tt (put_other (Asked ask) tt z)))

    above_spends : (ask : Ask) (items : List Item) (a : Authentication) (n : Channels) (new : EndState K) → first_refusal (end_ask_checks p side e ask) ≡ None → AsksAbove p e ask items a n → AreEncoded items → e.transport.sending.count ≡ 2 ^ 32 → new.transport.dead ≡ true →
        ByAsk ask (Died ∷ Refused NumberSpent None ∷ Asked ask ∷ []) [] new
    above_spends ask items a n new fine x encoded all d =
        let v = asked_above ask items a n fine x in
        record {
          turn = turn.AsksTurn.spends living (asks_refused ask ∙ fine) v.on_ask encoded (none_left (Asked ask ∷ h) items v.answers (omega (arith, v.one_sent)) (sym live.sending.count_is ∙ all));
          sums = dead_sums p side h (Died ∷ Refused NumberSpent None ∷ Asked ask ∷ []) new d refl;
          puts = spent_out ask;
        }

    died : (ask : Ask) (items : List Item) (new : EndState K) → first_refusal (ask_checks p side h ask) ≡ None → OnAsk p side h ask items → AreEncoded items → AreNumbered items (Asked ask ∷ h) → new.transport.dead ≡ true → ByAsk ask (Died ∷ []) [] new
    died ask items new fine on encoded numbered d = record {
      turn = turn.AsksTurn.dies living fine on encoded numbered;
      sums = dead_sums p side h (Died ∷ []) new d refl;
      puts = λ bytes z. subst (λ (b : List ℕ). PutsOut p side (Died ∷ h) b) (sym (append-nil bytes)) (put_other Died tt z);
    }

    few_left : e.transport.sending.count < 2 ^ 32 → count (sent h) < 2 ^ 32
    few_left few = omega (arith, few, live.sending.count_is)

    transport_dies : (ask : Ask) (m : Msg) (b : List ℕ) (s : Transport K) (new : EndState K) → first_refusal (message_ask_checks e.transport ask) ≡ None → Asks e.transport ask m b s → IsEncoded m b → e.transport.sending.count < 2 ^ 32 → new.transport.dead ≡ true → ByAsk ask (Died ∷ []) [] new
    transport_dies ask m b s new fine x encoded few d =
        died ask (Sent None m b ∷ []) new (none_of_others p side h e.transport sums.transport alive ask m b s x ∙ (asks_same p h e.transport side sums.transport alive ask ∙ fine))
        (turn.OnAsk.of_transport (rows.allowed p side h e.transport sums.transport alive ask m b s x).row) (encoded, tt) (few_left few, tt) d

    disconnect_dies : (description b : List ℕ) (new : EndState K) → first_refusal (message_ask_checks e.transport (AskDisconnect description)) ≡ None → IsEncoded (Disconnect 11 description []) b → e.transport.sending.count < 2 ^ 32 → new.transport.dead ≡ true →
        ByAsk (AskDisconnect description) (Died ∷ []) [] new
    disconnect_dies description b new fine encoded few d =
        died (AskDisconnect description) (Died ∷ Sent None (Disconnect 11 description []) b ∷ []) new (none_more (transport_ask_checks p side h (AskDisconnect description)) ∙ (asks_same p h e.transport side sums.transport alive (AskDisconnect description) ∙ fine))
        (turn.OnAsk.of_transport (transport_row.TransportAsk.disconnect description b)) (encoded, tt) (few_left few, tt) d

    above_dies : (ask : Ask) (items : List Item) (a : Authentication) (n : Channels) (new : EndState K) → first_refusal (end_ask_checks p side e ask) ≡ None → AsksAbove p e ask items a n → AreEncoded items → e.transport.sending.count < 2 ^ 32 → new.transport.dead ≡ true → ByAsk ask (Died ∷ []) [] new
    above_dies ask items a n new fine x encoded few d =
        let v = asked_above ask items a n fine x in
        died ask items new (asks_refused ask ∙ fine) v.on_ask encoded (all_numbered (Asked ask ∷ h) items v.answers (omega (arith, v.one_sent, few, live.sending.count_is))) d

    pub ask_turned : (ask : Ask) (items : List Item) (more : List ℕ) (new : EndState K) → TakesAsk p side e ask items more new → ByAsk ask items more new
    ask_turned ask items more new (end.TakesAsk.is_dead ask2 d) = absurd (cc (d, alive))
    ask_turned ask items more new (end.TakesAsk.refused ask2 why z y) = record {
      turn = turn.AsksTurn.refuses why living (asks_refused ask ∙ y);
      sums = record {
        transport = layer.left p side (Asked ask ∷ h) e.transport (AskRefused why) tt (layer.left p side h e.transport (Asked ask) tt sums.transport);
        above = λ t. all_kept side h e.authentication e.channels (AskRefused why ∷ Asked ask ∷ []) (left _ tt tt tt tt, (left _ tt tt tt tt, tt)) (sums.above alive);
      };
      puts = λ bytes t. subst (λ (b : List ℕ). PutsOut p side (AskRefused why ∷ Asked ask ∷ h) b) (sym (append-nil bytes)) (put_other (AskRefused why) tt (put_other (Asked ask) tt t));
    }
    ask_turned ask items more new (end.TakesAsk.of_transport ask2 m b s z fine x y) =
        of_asked ask items more new (ask_sent p side h e.transport sums.transport alive ask m b s more fine x y) (λ t. transport_above ask m b s x)
    ask_turned ask items more new (end.TakesAsk.disconnects description b n z fine x d) =
        of_asked ask items more new (ask_disconnects p side h e.transport sums.transport alive description b new.transport more fine d x) (no_layers new (items ++ h) d)
    ask_turned ask items more new (end.TakesAsk.above ask2 z fine x y) = above_asked ask _ more _ _ fine x y
    ask_turned ask items more new (end.TakesAsk.spent ask2 m b s n z fine x encoded all d) =
        of_asked ask items more new (ask_spent p side h e.transport sums.transport alive ask m b s new.transport fine x encoded all d) (no_layers new (items ++ h) d)
    ask_turned ask items more new (end.TakesAsk.disconnect_spent description b n z fine encoded all d) =
        of_asked ask items more new (disconnect_spent p side h e.transport sums.transport alive description b new.transport fine encoded all d) (no_layers new (items ++ h) d)
    ask_turned ask items more new (end.TakesAsk.above_spent ask2 n z fine x encoded all d) = above_spends ask _ _ _ new fine x encoded all d
    ask_turned ask items more new (end.TakesAsk.dies ask2 m b s n z fine x encoded few d) = transport_dies ask m b s new fine x encoded few d
    ask_turned ask items more new (end.TakesAsk.disconnect_dies description b n z fine encoded few d) = disconnect_dies description b new fine encoded few d
    ask_turned ask items more new (end.TakesAsk.above_dies ask2 n z fine x encoded few d) = above_dies ask _ _ _ new fine x encoded few d
