-- Authentication follows its transport with what an end does, and what may go while the end is blocked.
use Rattle.std.proofs.Common.{◌≡◌, Bool, ℕ, List, Option, None, Some, refl, ap, sym, ◌∙◌, subst, true, false, not, [], ◌∷◌, ◌++◌, ◌≤◌, length}
use Rattle.std.proofs.lemmas.Bool.{false≢true}
use Rattle.ssh_model.specs.State.TransportLayer.Kept.{Transport}
use Rattle.ssh_transport.specs.Roles.{KeepsUser}
use Rattle.ssh_transport_machine.specs.State.{State}
use Rattle.ssh_model.specs.Protocol.Authentication.Requests.{Judge}
use Rattle.ssh_model.specs.Protocol.Sessions.AnyLayers.{is_own_number}
use Rattle.ssh_model.specs.Protocol.Wire.Message.{Msg, Msg.Unimplemented, Msg.Unknown, Msg.UserauthSuccess, message_number}
use Rattle.ssh_model.specs.State.Authentication.Kept as authentication
use Rattle.ssh_model.specs.State.Authentication.Kept.{ServerTakes}
use Rattle.ssh_model.specs.State.Channels.Kept as channel
use Rattle.ssh_model.specs.State.Channels.Summary.{reply_sent}
use Rattle.std.specs.Option.{option_map}
use Rattle.ssh_model.specs.Protocol.Bounds.{longest_payload}
use Rattle.ssh_model.specs.Protocol.Channels.Connection.{after_authentication}
use Rattle.ssh_model.specs.Protocol.Sessions.Items as session_of
use Rattle.ssh_model.specs.Protocol.Sessions.Refusals.{Check.RefusedWhere, first_refusal}
use Rattle.ssh_model.specs.Protocol.Sessions.Turns.{IsEncoded, number_of}
use Rattle.ssh_model.specs.Protocol.Wire.Sealing.{Crypto}
use Rattle.ssh_model.specs.State.TransportLayer.Directions.{Direction}
use Rattle.ssh_model.specs.State.TransportLayer.Kept.{after_sent}
use Rattle.ssh_model.specs.State.TransportLayer.Turns as turns
use Rattle.ssh_transport.specs.Above.{PayloadSent}
use Rattle.ssh_transport_machine.specs.Answering.{Answers}
use Rattle.ssh_transport_machine.specs.Puts.{Outs, PutsPayload, Sends}
use Rattle.ssh_transport_machine.specs.declared.machine.sending.SendOutcome.{SendOutcome}
use Rattle.ssh_transport_machine.specs.declared.machine.sending.SendOutcome.TheVariants.{Done, Spent}
use Rattle.ssh_model.specs.State.Authentication.Kept.{ClientSends, client_checks}
use Rattle.ssh_model.specs.declared.ask_refusal.AskRefusal.TheVariants as refusals
use Rattle.ssh_transport.specs.Living.{IsKeptLive}
use Rattle.ssh_transport.specs.Sending.{CanSend}
use Rattle.ssh_channels.specs.Values.{taken_of}
use Rattle.ssh_end_machine.specs.Above.{Finished, IsAnswer, IsBeneath, OnJudged, PutsReply, after_success_where}
use Rattle.ssh_end_machine.specs.declared.step.Step.{Step}
use Rattle.ssh_end_machine.specs.Reading.{SameReading}
use Rattle.ssh_model.specs.State.TransportLayer.Kept as kept
use Rattle.ssh_transport.specs.Asking.{AskDone}
use Rattle.ssh_transport.specs.Asks.{AskTaken}
use Rattle.ssh_transport.specs.declared.outcome.AskTurn.TheVariants as turn
use Rattle.ssh_transport.specs.declared.outcome.TransportAsk.{TransportAsk}
use Rattle.ssh_transport.specs.declared.outcome.TransportAsk.TheVariants as transport_ask
use Rattle.ssh_end_machine.specs.declared.replying.ServiceReply.{ServiceReply}
use Rattle.ssh_end_machine.specs.declared.step.TakenMessage.{TakenMessage}
use Rattle.ssh_types.specs.declared.call_error.CallError.{CallError}
use Rattle.ssh_types.specs.declared.call_error.CallError.TheVariants as fault
use Rattle.ssh_model.specs.declared.refusal.Refusal.{Refusal}
use Rattle.ssh_model.specs.declared.request_kind.RequestKind.{RequestKind}
use Rattle.std.specs.Prelude.{Err, IfOk, IfSome, Ok, OnErr, Result}
use Rattle.ssh_model.specs.Protocol.Sessions.Items.{Fact.Authenticated}
use Rattle.ssh_model.specs.State.Authentication.Kept.{ClientTakes}
use Rattle.ssh_message.specs.Meaning.{meaning}
use Rattle.ssh_message.specs.declared.message.Message.{Message}
use Rattle.ssh_auth.specs.declared.answer.ClientAnswer.{ClientAnswer}
use Rattle.ssh_auth.specs.declared.answer.ClientAnswer.TheVariants as to_client
use Rattle.ssh_end_machine.specs.Judging.{succeeds}
use Rattle.ssh_end_machine.specs.Login.{LoginRow, ServerTook, login_message}
use Rattle.ssh_auth.specs.Serving as serving
use Rattle.ssh_auth.specs.Asking.{is_answer_to}
use Rattle.ssh_auth.specs.Serving.{answered, reply_by}
use Rattle.ssh_auth.specs.declared.answer.ServerAnswer.{ServerAnswer}
use Rattle.ssh_auth.specs.declared.answer.ServerAnswer.TheVariants as by_server
use Rattle.ssh_end_machine.specs.declared.layers.answer.LayerAnswer.{LayerAnswer}
use Rattle.ssh_end_machine.specs.Layer.{Beneath}
use Rattle.ssh_end_machine.specs.Layers.{Layers, LayersTake, message_of}
use Rattle.ssh_end_machine.specs.declared.layers.answer.LayerAnswer.TheVariants as answer
use Rattle.ssh_end_machine.specs.Following.{ClientFollows, Follows, FollowsOn, FollowsThen, LetsIn, MayGo}
use Rattle.ssh_end_machine.specs.declared.layers.login.Login.{Login}
use Rattle.ssh_end_machine.specs.declared.layers.login.Login.TheVariants as login

pub kept_follows : {K : Type 0} (old new : Transport K) (kept : Login) → KeepsUser old new → Follows old kept → Follows new kept
kept_follows old new (login.Server server) x f = λ e. f (sym x.authenticated ∙ e)
kept_follows old new (login.Client client) x f = record { let_in = λ e. f.let_in (sym x.authenticated ∙ e); granted = λ e. x.accepted (f.granted e) }

pub on_follows : {K : Type 0} (old new : State K) (kept : Login) → old.kept.dead ≡ false → (new.kept.dead ≡ false → KeepsUser old.kept new.kept) → FollowsOn old kept → FollowsOn new kept
on_follows old new kept alive x f = λ e. kept_follows old.kept new.kept kept (x e) (f alive)

-- ---- what may go

abbrev number_in : Option Msg → ℕ
number_in None = 0
number_in (Some m) = message_number m

is_same : (a : Option Msg) (reply : Msg) → a ≡ Some reply → message_number reply ≡ number_in a
is_same a reply e = sym (ap number_in e)

-- Its number is none of a transport's own, and nothing is answered while the end is blocked, since its user is in.
record Goes (number : ℕ) (shut : Type 0) : Type 0 where
  number_is : is_own_number number ≡ false
  open_is : shut → ⊥

module _ (judge : Judge) (methods : List (List ℕ)) (session : List ℕ) (server : authentication.Server) where
  server_goes : (message : Msg) (a : authentication.Answered) (new : authentication.Server) → ServerTakes judge methods session server message a new → (reply : Msg) → a.message ≡ Some reply → Goes (message_number reply) (server.authenticated ≡ true)
  server_goes _ _ _ (ServerTakes.too_late user service way e) reply f = absurd (cc f)
  server_goes _ _ _ (ServerTakes.accepted user service way e g) reply f = record { number_is = ap is_own_number (is_same _ reply f); open_is = λ h. false≢true (sym e ∙ h) }
  server_goes _ _ _ (ServerTakes.probed user service algorithm key e g) reply f = record { number_is = ap is_own_number (is_same _ reply f); open_is = λ h. false≢true (sym e ∙ h) }
  server_goes _ _ _ (ServerTakes.failed user service way e g) reply f = record { number_is = ap is_own_number (is_same _ reply f); open_is = λ h. false≢true (sym e ∙ h) }

module _ (channels : channel.Channels) where
  close_silent : (said : Bool) (number to : ℕ) → channel.close_reply said true number to ≡ None
  close_silent true number to = refl
  close_silent false number to = refl

  channels_silent : (message : Msg) (t : channel.Taken) (new : channel.Channels) → channel.Takes true channels message t new → t.reply ≡ None
  channels_silent _ _ _ (channel.Takes.global_request name want rest) = refl
  channels_silent _ _ _ (channel.Takes.request_success rest) = refl
  channels_silent _ _ _ channel.Takes.request_failure = refl
  channels_silent _ _ _ (channel.Takes.open_taken number kind sender window max rest _) = refl
  channels_silent _ _ _ (channel.Takes.open_refused kind sender window max rest full) = refl
  channels_silent _ _ _ (channel.Takes.confirmation recipient sender window max rest) = refl
  channels_silent _ _ _ (channel.Takes.failure recipient reason description language) = refl
  channels_silent _ _ _ (channel.Takes.adjust recipient bytes) = refl
  channels_silent _ _ _ (channel.Takes.got_data recipient body) = refl
  channels_silent _ _ _ (channel.Takes.got_extended recipient kind body) = refl
  channels_silent _ _ _ (channel.Takes.eof recipient) = refl
  channels_silent _ _ _ (channel.Takes.close recipient) = close_silent _ _ _
  channels_silent _ _ _ (channel.Takes.request recipient name want rest) = refl
  channels_silent _ _ _ (channel.Takes.success recipient) = refl
  channels_silent _ _ _ (channel.Takes.no_success recipient) = refl

reply_number : (r : channel.DueReply) → is_own_number (message_number (reply_sent r)) ≡ false
reply_number (channel.DueReply.RefusesOpen to) = refl
reply_number (channel.DueReply.AnswersClose number to) = refl

due_goes : (r : Option channel.DueReply) (reply : Msg) → option_map reply_sent r ≡ Some reply → is_own_number (message_number reply) ≡ false
due_goes None reply e = absurd (cc e)
due_goes (Some r) reply e = ap is_own_number (is_same _ reply e) ∙ reply_number r

-- What the layers answer at once may go, where a blocked end's user is in, and authentication follows.
module _ {K : Type 0} (m : State K) (judge : Judge) (below : Beneath) (beneath : IsBeneath m below) (lets_in : LetsIn m) (old new : Layers) (message : Msg) (payload : List ℕ) where
  channels_go : (given : _) → LayersTake judge below old message payload (answer.Channels given) new → (number : ℕ) (reply : Msg) → message_of new (answer.Channels given) number ≡ Some reply → MayGo m.kept reply
  channels_go given x number reply e = record {
    number = due_goes _ reply e;
    unblocked = λ alive shut.
        let row = subst (λ (b : Bool). channel.Takes b old.channels message (taken_of message given) new.channels) (beneath.blocked ∙ shut) x.row.row in
        absurd (cc (e, channels_silent old.channels message (taken_of message given) new.channels row));
  }

  unknown_goes : (number : ℕ) (reply : Msg) → Some (Unimplemented number) ≡ Some reply → MayGo m.kept reply
  unknown_goes number reply e = record { number = ap is_own_number (is_same _ reply e); unblocked = λ alive shut. is_same _ reply e }

  login_goes : (given : ServerAnswer) (session : List ℕ) (l k : Login) → LoginRow judge session l message (answer.Server given) k → Follows m.kept l → (reply : Msg) → login_message k (answer.Server given) ≡ Some reply → MayGo m.kept reply
  login_goes given session (login.Server one) (login.Server two) row f reply e =
      let g = server_goes judge one.methods session one.kept message (answered one.methods message given) two.kept row.row reply (ap (λ (l : List (List ℕ)). reply_by l given) (sym row.methods) ∙ e) in
      record { number = g.number_is; unblocked = λ alive shut. absurd (g.open_is (f (lets_in shut))) }
  login_goes given session (login.Server one) (login.Client two) row f reply e = absurd row
  login_goes given session (login.Client one) k row f reply e = absurd row

  no_reply : (given : _) (k : Login) (reply : Msg) → login_message k (answer.Client given) ≡ Some reply → ⊥
  no_reply given (login.Server two) reply e = cc e
  no_reply given (login.Client two) reply e = cc e

  pub may_go : (given : LayerAnswer) → LayersTake judge below old message payload given new → Follows m.kept old.authentication → (number : ℕ) (reply : Msg) → message_of new given number ≡ Some reply → MayGo m.kept reply
  may_go (answer.Channels given) x f number reply e = channels_go given x number reply e
  may_go answer.Unknown x f number reply e = unknown_goes number reply e
  may_go (answer.Server given) x f number reply e = login_goes given below.session old.authentication new.authentication x.row.row f reply e
  may_go (answer.Client given) x f number reply e = absurd (no_reply given new.authentication reply e)

  -- ---- what was judged

  server_row : (given : ServerAnswer) (session : List ℕ) (l k : Login) → LoginRow judge session l message (answer.Server given) k → Follows m.kept l → Follows (after_success_where (succeeds (answer.Server given)) m.kept) k
  server_row given session (login.Server one) (login.Server two) row f = server_kept given one two row f
    where
      in_still : (methods : List (List ℕ)) (message : Msg) (a : authentication.Answered) (s t : authentication.Server) → ServerTakes judge methods session s message a t → s.authenticated ≡ true → t.authenticated ≡ true
      in_still _ _ _ _ _ (ServerTakes.too_late user service way e) h = h
      in_still _ _ _ _ _ (ServerTakes.accepted user service way e g) h = refl
      in_still _ _ _ _ _ (ServerTakes.probed user service algorithm key e g) h = h
      in_still _ _ _ _ _ (ServerTakes.failed user service way e g) h = h

      let_in_now : (methods : List (List ℕ)) (message : Msg) (a : authentication.Answered) (s t : authentication.Server) → ServerTakes judge methods session s message a t → a.message ≡ Some UserauthSuccess → t.authenticated ≡ true
      let_in_now _ _ _ _ _ (ServerTakes.too_late user service way e) h = absurd (cc h)
      let_in_now _ _ _ _ _ (ServerTakes.accepted user service way e g) h = refl
      let_in_now _ _ _ _ _ (ServerTakes.probed user service algorithm key e g) h = absurd (cc h)
      let_in_now _ _ _ _ _ (ServerTakes.failed user service way e g) h = absurd (cc h)

      server_kept : (given : ServerAnswer) (one two : serving.Server) → ServerTook judge session one message given two → (m.kept.authenticated ≡ true → one.kept.authenticated ≡ true) → Follows (after_success_where (succeeds (answer.Server given)) m.kept) (login.Server two)
      server_kept by_server.Accepted one two row f = λ e. let_in_now _ _ _ _ _ row.row refl
      server_kept by_server.Ignored one two row f = λ e. in_still _ _ _ _ _ row.row (f e)
      server_kept (by_server.KeyOk algorithm key) one two row f = λ e. in_still _ _ _ _ _ row.row (f e)
      server_kept by_server.Failed one two row f = λ e. in_still _ _ _ _ _ row.row (f e)
      server_kept by_server.Unimplemented one two row f = λ e. in_still _ _ _ _ _ row.row (f e)
  server_row given session (login.Server one) (login.Client two) row f = absurd row
  server_row given session (login.Client one) k row f = absurd row

  client_still : (message : Msg) (a : authentication.Answered) (one two : authentication.Client) → ClientTakes one message a two → ClientFollows m.kept one → ClientFollows m.kept two
  client_still _ _ _ _ (ClientTakes.failure methods partial) f = record { let_in = f.let_in; granted = f.granted }
  client_still _ _ _ _ (ClientTakes.success request e) f = record { let_in = λ e. refl; granted = f.granted }
  client_still _ _ _ _ (ClientTakes.banner text language) f = f
  client_still _ _ _ _ (ClientTakes.key_ok algorithm key) f = record { let_in = f.let_in; granted = f.granted }

  client_now : (request : RequestKind) (message : Msg) (a : authentication.Answered) (one two : authentication.Client) → ClientTakes one message a two → is_answer_to message (to_client.Authenticated request) ≡ true → two.authenticated ≡ true
  client_now _ _ _ _ _ (ClientTakes.failure methods partial) e = absurd (cc e)
  client_now _ _ _ _ _ (ClientTakes.success request waits) e = refl
  client_now _ _ _ _ _ (ClientTakes.banner text language) e = absurd (cc e)
  client_now _ _ _ _ _ (ClientTakes.key_ok algorithm key) e = absurd (cc e)

  client_row : (given : ClientAnswer) (session : List ℕ) (l k : Login) → LoginRow judge session l message (answer.Client given) k → Follows m.kept l → Follows (after_success_where (succeeds (answer.Client given)) m.kept) k
  client_row (to_client.Authenticated request) session (login.Client one) (login.Client two) row f =
      record { let_in = λ e. client_now request _ _ one two row.row row.kind; granted = (client_still _ _ one two row.row f).granted }
  client_row to_client.Failed session (login.Client one) (login.Client two) row f = client_still _ _ one two row.row f
  client_row to_client.Banner session (login.Client one) (login.Client two) row f = client_still _ _ one two row.row f
  client_row to_client.KeyOk session (login.Client one) (login.Client two) row f = client_still _ _ one two row.row f
  client_row to_client.Unimplemented session (login.Client one) (login.Client two) row f = client_still _ _ one two row.row f
  client_row given session (login.Client one) (login.Server two) row f = absurd row
  client_row given session (login.Server one) k row f = absurd row

  row_follows : (given : LayerAnswer) → LayersTake judge below old message payload given new → Follows m.kept old.authentication → Follows (after_success_where (succeeds given) m.kept) new.authentication
  row_follows (answer.Server given) x f = server_row given below.session old.authentication new.authentication x.row.row f
  row_follows (answer.Client given) x f = client_row given below.session old.authentication new.authentication x.row.row f
  row_follows (answer.Channels given) x f = subst (λ (l : Login). Follows m.kept l) (sym x.row.authentication) f
  row_follows answer.Unknown x f = subst (λ (l : Layers). Follows m.kept l.authentication) (sym x.row.same) f

  pub then_follows : (given : LayerAnswer) → LayersTake judge below old message payload given new → Follows m.kept old.authentication → (step : TakenMessage) (said : Option Msg) (success : Bool) → success ≡ succeeds given →
      (result : Result ServiceReply (CallError Refusal)) → IfOk result (λ above. IsAnswer m step said success above) → OnJudged result (λ done. FollowsThen m done new.authentication)
  then_follows given x f step said success e (Ok above) made = subst (λ (b : Bool). Follows (after_success_where b m.kept) new.authentication) (sym (made.success_is ∙ e)) (row_follows given x f)
  then_follows given x f step said success e (Err (fault.Refused why)) made = tt
  then_follows given x f step said success e (Err fault.Memory) made = tt

-- ---- what is then done

module _ {K : Type 0} (c : Crypto K) (old new : State K) (kept : Login) (o : Outs) where
  put_keeps : (reply : Option (List ℕ)) (between : State K) → PutsReply c old reply between o → KeepsUser old.kept between.kept
  put_keeps None between x = subst (λ (w : State K). KeepsUser old.kept w.kept) (sym x.0) (record { authenticated = refl; accepted = λ e. e })
  put_keeps (Some payload) between x = subst (λ (w : State K). KeepsUser old.kept w.kept) (sym x.after) (record { authenticated = refl; accepted = λ e. e })

  success_keeps : (b : Bool) (s t : Transport K) → KeepsUser s t → KeepsUser (after_success_where b s) (after_success_where b t)
  success_keeps true s t x = record { authenticated = refl; accepted = x.accepted }
  success_keeps false s t x = x

  pub finish_follows : {E : Type 0} (above : ServiceReply) (result : Result Step E) → IfOk result (λ step. Finished c old (Ok above) step new o) → OnErr result (new.kept.dead ≡ true) → FollowsThen old (Ok above) kept → FollowsOn new kept
  finish_follows above (Ok step) x dead f = λ alive. subst (λ (w : State K). Follows w.kept kept) (sym x.after)
      (kept_follows (after_success_where above.success old.kept) (after_success_where above.success x.between.kept) kept (success_keeps above.success old.kept x.between.kept (put_keeps _ x.between x.puts)) f)
  finish_follows above (Err why) x dead f = λ alive. absurd (false≢true (sym alive ∙ dead))

-- ---- an ask for the transport leaves what is read

module _ {K : Type 0} (c : Crypto K) (old new : State K) (o : Outs) (alive : new.kept.dead ≡ false) where
  reads_by : (k : Transport K) → new ≡ record old { kept = k } → k.lines ≡ old.kept.lines → SameReading old new
  reads_by k e lines = record { receiver = ap (λ (w : State K). w.receiver) e; reading = ap (λ (w : State K). w.reading) e; lines = ap (λ (w : State K). w.kept.lines) e ∙ lines }

  sent_lines : (k : Transport K) (given : session_of.Ask) (m : Msg) (payload : List ℕ) → kept.Asks old.kept given m payload k → k.lines ≡ old.kept.lines
  sent_lines _ _ _ _ (kept.Asks.service p side) = refl
  sent_lines _ _ _ _ (kept.Asks.rekey material p free has) = refl

  over : {A : Type 0} → new.kept.dead ≡ true → A
  over e = absurd (false≢true (sym alive ∙ e))

  done_reads : (given : session_of.Ask) (answer : SendOutcome) → AskDone c old given (turn.Answered answer) new o → SameReading old new
  done_reads given Done x = reads_by x.kept x.after (sent_lines x.kept given x.message x.payload x.asks)
  done_reads given Spent x = over (ap (λ (w : State K). w.kept.dead) x.spent.after)

  pub asked_reads : (given : TransportAsk) (answer : SendOutcome) → AskTaken c old given (turn.Answered answer) new o → SameReading old new
  asked_reads transport_ask.Service answer x = done_reads _ answer x.turned
  asked_reads transport_ask.Rekey answer x = done_reads _ answer x.turned
  asked_reads (transport_ask.Disconnect description) Done x = over (ap (λ (w : State K). w.kept.dead) x.turned.after)
  asked_reads (transport_ask.Disconnect description) Spent x = over (ap (λ (w : State K). w.kept.dead) x.turned.spent.after)

-- the message that is sent at once, as code has it
pub goes_some : {K : Type 0} (s : Transport K) (o : Option Message) (x : Option Msg) → option_map meaning o ≡ x → ((reply : Msg) → x ≡ Some reply → MayGo s reply) → IfSome o (λ one. MayGo s (meaning one))
goes_some s None x e f = tt
goes_some s (Some one) x e f = f (meaning one) (sym e)

-- ---- asks

-- a request that nothing refuses is of a client that is open, and whose user is not in
record Asks (client : authentication.Client) : Type 0 where
  open_is : client.opened ≡ true
  not_in : client.authenticated ≡ true → ⊥

asks_when : (opened outstanding let_in long : Bool) → first_refusal (RefusedWhere (not opened) refusals.NotYet ∷ RefusedWhere outstanding refusals.Busy ∷ RefusedWhere let_in refusals.Ended ∷ RefusedWhere long refusals.TooLong ∷ []) ≡ None → (opened ≡ true) × (let_in ≡ true → ⊥)
asks_when true false false long e = (refl, λ f. false≢true f)
asks_when true false true long e = absurd (cc e)
asks_when true true let_in long e = absurd (cc e)
asks_when false outstanding let_in long e = absurd (cc e)

client_asks : (signature : (user algorithm key text : List ℕ) → List ℕ) (session : List ℕ) (client new : authentication.Client) (asked : session_of.Ask) (request : Msg) → ClientSends signature session client asked request new → first_refusal (client_checks client asked) ≡ None → Asks client
client_asks signature session client _ _ _ (ClientSends.none user) e = let x = asks_when _ _ _ _ e in record { open_is = x.0; not_in = x.1 }
client_asks signature session client _ _ _ (ClientSends.password user word) e = let x = asks_when _ _ _ _ e in record { open_is = x.0; not_in = x.1 }
client_asks signature session client _ _ _ (ClientSends.probe user algorithm key) e = let x = asks_when _ _ _ _ e in record { open_is = x.0; not_in = x.1 }
client_asks signature session client _ _ _ (ClientSends.sign user algorithm key) e = let x = asks_when _ _ _ _ e in record { open_is = x.0; not_in = x.1 }

request_number : (signature : (user algorithm key text : List ℕ) → List ℕ) (session : List ℕ) (client new : authentication.Client) (asked : session_of.Ask) (request : Msg) → ClientSends signature session client asked request new → is_own_number (message_number request) ≡ false
request_number signature session client _ _ _ (ClientSends.none user) = refl
request_number signature session client _ _ _ (ClientSends.password user word) = refl
request_number signature session client _ _ _ (ClientSends.probe user algorithm key) = refl
request_number signature session client _ _ _ (ClientSends.sign user algorithm key) = refl

-- A request of a user may go: its client is open, so that the service was granted, and its user is not in, so that the end is not blocked.
pub request_goes : {K : Type 0} (s : Transport K) → IsKeptLive s → (signature : (user algorithm key text : List ℕ) → List ℕ) (session : List ℕ) (client new : authentication.Client) (asked : session_of.Ask) (request : Msg) → ClientSends signature session client asked request new →
    first_refusal (client_checks client asked) ≡ None → ClientFollows s client → MayGo s request
request_goes s live signature session client new asked request x e f =
    let a = client_asks signature session client new asked request x e in record {
      number = request_number signature session client new asked request x;
      unblocked = λ alive shut. absurd (a.not_in (f.let_in (live.granted (f.granted a.open_is) shut)));
    }

-- a message of the connection that nothing refuses is sent by an end that is not blocked
given_number : (channels new : channel.Channels) (asked : session_of.Ask) (given : channel.Sent) → channel.Sends channels asked given new → is_own_number (message_number given.message) ≡ false
given_number channels _ _ _ (channel.Sends.opens x y z u v w q) = refl
given_number channels _ _ _ (channel.Sends.confirm x y z u v) = refl
given_number channels _ _ _ (channel.Sends.refuse x y) = refl
given_number channels _ _ _ (channel.Sends.gives_data x y) = refl
given_number channels _ _ _ (channel.Sends.gives_extended x y z) = refl
given_number channels _ _ _ (channel.Sends.adjust x y) = refl
given_number channels _ _ _ (channel.Sends.eof x) = refl
given_number channels _ _ _ (channel.Sends.close x) = refl
given_number channels _ _ _ (channel.Sends.request x y z u) = refl
given_number channels _ _ _ (channel.Sends.reply_yes x) = refl
given_number channels _ _ _ (channel.Sends.reply_no x) = refl
given_number channels _ _ _ (channel.Sends.global x y z) = refl
given_number channels _ _ _ (channel.Sends.global_yes x) = refl
given_number channels _ _ _ (channel.Sends.global_no x) = refl

shut_asks : (let_in due : Bool) (channels new : channel.Channels) (asked : session_of.Ask) (given : channel.Sent) → channel.Sends channels asked given new → first_refusal (after_authentication let_in (channel.send_checks true due channels asked)) ≡ None → ⊥
shut_asks true due channels _ _ _ (channel.Sends.opens x y z u v w q) e = cc e
shut_asks false due channels _ _ _ (channel.Sends.opens x y z u v w q) e = cc e
shut_asks true due channels _ _ _ (channel.Sends.confirm x y z u v) e = cc e
shut_asks false due channels _ _ _ (channel.Sends.confirm x y z u v) e = cc e
shut_asks true due channels _ _ _ (channel.Sends.refuse x y) e = cc e
shut_asks false due channels _ _ _ (channel.Sends.refuse x y) e = cc e
shut_asks true due channels _ _ _ (channel.Sends.gives_data x y) e = cc e
shut_asks false due channels _ _ _ (channel.Sends.gives_data x y) e = cc e
shut_asks true due channels _ _ _ (channel.Sends.gives_extended x y z) e = cc e
shut_asks false due channels _ _ _ (channel.Sends.gives_extended x y z) e = cc e
shut_asks true due channels _ _ _ (channel.Sends.adjust x y) e = cc e
shut_asks false due channels _ _ _ (channel.Sends.adjust x y) e = cc e
shut_asks true due channels _ _ _ (channel.Sends.eof x) e = cc e
shut_asks false due channels _ _ _ (channel.Sends.eof x) e = cc e
shut_asks true due channels _ _ _ (channel.Sends.close x) e = cc e
shut_asks false due channels _ _ _ (channel.Sends.close x) e = cc e
shut_asks true due channels _ _ _ (channel.Sends.request x y z u) e = cc e
shut_asks false due channels _ _ _ (channel.Sends.request x y z u) e = cc e
shut_asks true due channels _ _ _ (channel.Sends.reply_yes x) e = cc e
shut_asks false due channels _ _ _ (channel.Sends.reply_yes x) e = cc e
shut_asks true due channels _ _ _ (channel.Sends.reply_no x) e = cc e
shut_asks false due channels _ _ _ (channel.Sends.reply_no x) e = cc e
shut_asks true due channels _ _ _ (channel.Sends.global x y z) e = cc e
shut_asks false due channels _ _ _ (channel.Sends.global x y z) e = cc e
shut_asks true due channels _ _ _ (channel.Sends.global_yes x) e = cc e
shut_asks false due channels _ _ _ (channel.Sends.global_yes x) e = cc e
shut_asks true due channels _ _ _ (channel.Sends.global_no x) e = cc e
shut_asks false due channels _ _ _ (channel.Sends.global_no x) e = cc e

pub given_goes : {K : Type 0} (s : Transport K) (let_in due : Bool) (channels new : channel.Channels) (asked : session_of.Ask) (given : channel.Sent) → channel.Sends channels asked given new →
    first_refusal (after_authentication let_in (channel.send_checks s.blocked due channels asked)) ≡ None → MayGo s given.message
given_goes s let_in due channels new asked given x e = record {
  number = given_number channels new asked given x;
  unblocked = λ alive shut. absurd (shut_asks let_in due channels new asked given x (subst (λ (b : Bool). first_refusal (after_authentication let_in (channel.send_checks b due channels asked)) ≡ None) shut e));
}

-- what `send` asks of a payload that encodes a message that may go
pub can_send : {K : Type 0} (s : Transport K) (m : Msg) (payload : List ℕ) → number_of payload ≡ message_number m → 1 ≤ length payload → length payload ≤ longest_payload → MayGo s m → CanSend s payload
can_send s m payload n some most x = record { some = some; most = most; number = ap is_own_number n ∙ x.number; unblocked = λ alive shut. n ∙ x.unblocked alive shut }

-- the number of a payload that encodes a message
encoded_number : (m : Msg) (payload : List ℕ) → IsEncoded m payload → number_of payload ≡ message_number m
encoded_number (Unknown n) payload x = ap number_of (x.row.parts ∙ ap (λ (f : List ℕ). f ++ x.row.back) x.row.first)
encoded_number m payload x = ap number_of (x.row.parts ∙ ap (λ (f : List ℕ). f ++ x.row.back) x.row.first)

pub encoded_goes : {K : Type 0} (s : Transport K) (m : Msg) (payload : List ℕ) → IsEncoded m payload → 1 ≤ length payload → MayGo s m → CanSend s payload
encoded_goes s m payload x some goes = can_send s m payload (encoded_number m payload x) some x.size goes

-- the replies that are owed go once the end is not blocked
pub reply_goes : {K : Type 0} (s : Transport K) → s.blocked ≡ false → (r : channel.DueReply) → MayGo s (reply_sent r)
reply_goes s free r = record { number = reply_number r; unblocked = λ alive shut. absurd (false≢true (sym free ∙ shut)) }

-- what was put encodes the message, so that the message was sent
pub sends_by : {K : Type 0} (c : Crypto K) (d : Direction K) (m : Msg) (payload : List ℕ) (o : Outs) → IsEncoded m payload → PutsPayload c d payload o → Sends c d m o
sends_by c d m payload o encoded x = record {
  payload = payload;
  puts = record {
    more = x.wire;
    packets = turns.PutsPackets.packet m payload x.wire turns.PutsPackets.nothing encoded x.left x.sealed;
    parts = x.parts;
    lists = x.lists;
  };
}

pub answers_by : {K : Type 0} (c : Crypto K) (old new : State K) (m : Msg) (payload : List ℕ) (answer : SendOutcome) (o : Outs) → IsEncoded m payload → PayloadSent c old payload answer new o → Answers c old m (after_sent old.kept) answer new o
answers_by c old new m payload Done o encoded x = record { sends = sends_by c old.kept.sending m payload o encoded x.sent.puts; after = x.sent.after }
answers_by c old new m payload Spent o encoded x = x.sent
