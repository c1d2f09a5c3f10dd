-- What the layers of an end make of a payload is what the end of a session makes of it.
use Rattle.std.proofs.Common.{◌≡◌, ℕ, Bool, true, false, List, [], ◌∷◌, refl, ap, sym, ◌∙◌, subst, Option, Some, None}
use Rattle.std.specs.Option.{option_map}
use Rattle.ssh_model.specs.declared.side.Side.{Side}
use Rattle.ssh_model.specs.declared.side.Side.TheVariants.{Client, Server}
use Rattle.ssh_model.specs.Protocol.Wire.Message.{Msg, Msg.Unimplemented, Msg.Unknown, Msg.UserauthSuccess}
use Rattle.ssh_model.specs.State.Authentication.Kept as kept
use Rattle.ssh_model.specs.State.Authentication.Kept.{Answered, ClientTakes, ServerTakes}
use Rattle.ssh_model.specs.Protocol.Authentication.Requests.{Judge}
use Rattle.ssh_model.specs.State.Authentication.Summary.{sent_with}
use Rattle.ssh_model.specs.State.Channels.Kept.{Channels, DueReply, DueReply.AnswersClose, DueReply.RefusesOpen, Takes}
use Rattle.ssh_model.specs.State.Channels.Summary.{reply_sent, told}
use Rattle.ssh_model.specs.State.End.Payloads.{AnswersAbove, ReadsAbove, RefusesAbove, reply_items}
use Rattle.ssh_model.specs.State.End.State.{above_checks, after_above, after_item, after_items}
use Rattle.ssh_model.specs.Protocol.Sessions.Items.{Fact, Fact.Authenticated, Item, Item.Sent}
use Rattle.ssh_model.specs.Protocol.Sessions.Parties.{Parties}
use Rattle.ssh_model.specs.Protocol.Sessions.Refusals.{first_refusal}
use Rattle.ssh_model.specs.declared.refusal.Refusal.{Refusal}
use Rattle.ssh_model.specs.State.TransportLayer.Kept.{Transport, after_sent, after_taken}
use Rattle.ssh_auth.specs.Asking.{client_answered, client_fact}
use Rattle.ssh_auth.specs.Facts as userauth
use Rattle.ssh_auth.specs.Facts.{accepted_by}
use Rattle.ssh_auth.specs.Serving.{answered, fact_with, reply_by}
use Rattle.ssh_auth.specs.declared.answer.ClientAnswer.{ClientAnswer}
use Rattle.ssh_auth.specs.declared.answer.ClientAnswer.TheVariants as to_client
use Rattle.ssh_auth.specs.declared.answer.ServerAnswer.{ServerAnswer}
use Rattle.ssh_auth.specs.declared.answer.ServerAnswer.TheVariants as request
use Rattle.ssh_channels.specs.Values.{reply_of, taken_of}
use Rattle.ssh_transport_machine.specs.State.{State, last_number}
use Rattle.ssh_end_machine.specs.Above.{AnsweredAbove, Awaits, IsMade, EncodesReply, after_reply, after_success_where}
use Rattle.ssh_end_machine.specs.Judging.{IsTaken, RefusesPayload, succeeds, took_by}
use Rattle.ssh_end_machine.specs.Layer.{Beneath}
use Rattle.ssh_end_machine.proofs.LayerLaws.{accepts, refuses}
use Rattle.ssh_end_machine.specs.Layers.{LayerRow, Layers, LayersRefuse, LayersTake, message_of}
use Rattle.ssh_end_machine.specs.Login.{LoginRow, authentication_of, login_message, probes, side_of}
use Rattle.ssh_end_machine.specs.Told.{client_kind_of, event_kind_of}
use Rattle.ssh_end_machine.specs.Sessions.{Accepts, Answers, AreOf, IsJudgedBy, IsLoginOf, beneath, end_of}
use Rattle.ssh_end_machine.specs.Steps.{fact_by, fact_told}
use Rattle.ssh_end_machine.specs.declared.layers.answer.LayerAnswer.{LayerAnswer}
use Rattle.ssh_end_machine.specs.declared.layers.answer.LayerAnswer.TheVariants as answer
use Rattle.ssh_end_machine.specs.declared.layers.login.Login.{Login}
use Rattle.ssh_end_machine.specs.declared.layers.login.Login.TheVariants as login
use Rattle.ssh_end_machine.specs.declared.step.TakenMessage.{TakenMessage}
use Rattle.ssh_end_machine.proofs.Judging.{ServerFacts, are_replied, are_sent, beneath_is, is_told, payload_in, reply_is_sent, reply_replied}
use Rattle.ssh_end_machine.proofs.SendingOn.{reply_on, sent_with_on}
use Rattle.ssh_end_machine.proofs.WithChannels.{client_telling_later, telling_later}

-- ---- what is kept at a server

told_keeps : {K : Type 0} (side : Side) (fact : Option Fact) (items : List Item) (t : Transport K) → after_items side (told fact items) t ≡ after_items side items t
told_keeps side None items t = refl
told_keeps Server (Some fact) items t = refl
told_keeps Client (Some fact) items t = refl

kept_by : {K : Type 0} (s : Transport K) (methods : List (List ℕ)) (g : ServerAnswer) (message : Msg) (reply : Option (List ℕ)) (m : State K) → EncodesReply m (reply_by methods g) reply →
    after_items Server (told (fact_with message g) (sent_with (payload_in reply) (reply_by methods g))) (after_taken s) ≡ after_success_where (succeeds (answer.Server g)) (after_reply reply (after_taken s))
kept_by s methods request.Accepted message (Some l) m x = told_keeps Server (accepted_by message) (sent_with l (Some UserauthSuccess)) (after_taken s)
kept_by s methods request.Accepted message None m x = absurd x
kept_by s methods request.Ignored message None m x = refl
kept_by s methods request.Ignored message (Some l) m x = absurd x
kept_by s methods (request.KeyOk algorithm key) message (Some l) m x = refl
kept_by s methods (request.KeyOk algorithm key) message None m x = absurd x
kept_by s methods request.Failed message (Some l) m x = refl
kept_by s methods request.Failed message None m x = absurd x
kept_by s methods request.Unimplemented message None m x = refl
kept_by s methods request.Unimplemented message (Some l) m x = absurd x

-- ---- what each message makes of a client's transport

abbrev is_authenticated : Option Fact → Bool
is_authenticated (Some (Authenticated request)) = true
is_authenticated _ = false

after_answer : {K : Type 0} (s : Transport K) (client : kept.Client) (message : Msg) (answered : Answered) (new : kept.Client) → ClientTakes client message answered new →
    after_above Client message s ≡ after_success_where (is_authenticated answered.fact) (after_taken s)
after_answer s client message answered new (ClientTakes.failure methods partial) = refl
after_answer s client message answered new (ClientTakes.success request e) = refl
after_answer s client message answered new (ClientTakes.banner text language) = refl
after_answer s client message answered new (ClientTakes.key_ok algorithm key) = refl

-- What a message that a client takes tells by itself is told of it by the end too, and authenticates nobody.
own_fact : (client : kept.Client) (message : Msg) (answered : Answered) (new : kept.Client) → ClientTakes client message answered new → userauth.fact_by message ≡ fact_by message None
own_fact client message answered new (ClientTakes.failure methods partial) = refl
own_fact client message answered new (ClientTakes.success request e) = refl
own_fact client message answered new (ClientTakes.banner text language) = refl
own_fact client message answered new (ClientTakes.key_ok algorithm key) = refl

own_is_none : (client : kept.Client) (message : Msg) (answered : Answered) (new : kept.Client) → ClientTakes client message answered new → is_authenticated (userauth.fact_by message) ≡ false
own_is_none client message answered new (ClientTakes.failure methods partial) = refl
own_is_none client message answered new (ClientTakes.success request e) = refl
own_is_none client message answered new (ClientTakes.banner text language) = refl
own_is_none client message answered new (ClientTakes.key_ok algorithm key) = refl

-- What a client answers is what is told of the message, or of the request that SUCCESS answers.
fact_of_answer : (message : Msg) → userauth.fact_by message ≡ fact_by message None → (given : ClientAnswer) → client_fact message given ≡ fact_told (client_kind_of given) message None
fact_of_answer message own (to_client.Authenticated request) = refl
fact_of_answer message own to_client.Failed = own
fact_of_answer message own to_client.Banner = own
fact_of_answer message own to_client.KeyOk = own
fact_of_answer message own to_client.Unimplemented = own

success_is : (message : Msg) → is_authenticated (userauth.fact_by message) ≡ false → (given : ClientAnswer) → is_authenticated (client_fact message given) ≡ succeeds (answer.Client given)
success_is message own (to_client.Authenticated request) = refl
success_is message own to_client.Failed = own
success_is message own to_client.Banner = own
success_is message own to_client.KeyOk = own
success_is message own to_client.Unimplemented = own

telling_keeps : {K : Type 0} (t : Transport K) (fact : Option Fact) → after_items Client (told fact []) t ≡ t
telling_keeps t None = refl
telling_keeps t (Some fact) = refl

after_client_channel : {K : Type 0} (s : Transport K) (is_blocked : Bool) (c : Channels) (message : Msg) (taken : _) (new : Channels) → Takes is_blocked c message taken new → after_above Client message s ≡ after_taken s
after_client_channel s is_blocked c message taken new (Takes.global_request name want rest) = refl
after_client_channel s is_blocked c message taken new (Takes.request_success rest) = refl
after_client_channel s is_blocked c message taken new Takes.request_failure = refl
after_client_channel s is_blocked c message taken new (Takes.open_taken number kind sender window max_packet rest unused) = refl
after_client_channel s is_blocked c message taken new (Takes.open_refused kind sender window max_packet rest full) = refl
after_client_channel s is_blocked c message taken new (Takes.confirmation recipient sender window max_packet rest) = refl
after_client_channel s is_blocked c message taken new (Takes.failure recipient reason description language) = refl
after_client_channel s is_blocked c message taken new (Takes.adjust recipient bytes) = refl
after_client_channel s is_blocked c message taken new (Takes.got_data recipient body) = refl
after_client_channel s is_blocked c message taken new (Takes.got_extended recipient kind body) = refl
after_client_channel s is_blocked c message taken new (Takes.eof recipient) = refl
after_client_channel s is_blocked c message taken new (Takes.close recipient) = refl
after_client_channel s is_blocked c message taken new (Takes.request recipient name want rest) = refl
after_client_channel s is_blocked c message taken new (Takes.success recipient) = refl
after_client_channel s is_blocked c message taken new (Takes.no_success recipient) = refl

-- ---- what channels make of the transport

after_channel : {K : Type 0} (side : Side) (s : Transport K) (is_blocked : Bool) (c : Channels) (message : Msg) (taken : _) (new : Channels) → Takes is_blocked c message taken new → after_above side message s ≡ after_taken s
after_channel Server s is_blocked c message taken new x = refl
after_channel Client s is_blocked c message taken new x = after_client_channel s is_blocked c message taken new x

reply_keeps : {K : Type 0} (side : Side) (r : DueReply) (channel : Option ℕ) (payload : List ℕ) (t : Transport K) → after_item side (Sent channel (reply_sent r) payload) t ≡ after_sent t
reply_keeps Server (RefusesOpen to) channel payload t = refl
reply_keeps Server (AnswersClose number to) channel payload t = refl
reply_keeps Client (RefusesOpen to) channel payload t = refl
reply_keeps Client (AnswersClose number to) channel payload t = refl

kept_by_reply : {K : Type 0} (side : Side) (t : Transport K) (fact : Option Fact) (r : Option DueReply) (reply : Option (List ℕ)) (m : State K) → EncodesReply m (option_map reply_sent r) reply →
    after_items side (told fact (reply_items r (payload_in reply))) t ≡ after_reply reply t
kept_by_reply side t fact None None m x = told_keeps side fact [] t
kept_by_reply side t fact (Some r) (Some l) m x = told_keeps side fact (reply_items (Some r) l) t ∙ reply_keeps side r _ l t
kept_by_reply side t fact None (Some l) m x = absurd x
kept_by_reply side t fact (Some r) None m x = absurd x

unknown_keeps : {K : Type 0} (side : Side) (number said : ℕ) (payload : List ℕ) (s : Transport K) → after_items side (Sent None (Unimplemented said) payload ∷ []) (after_above side (Unknown number) s) ≡ after_sent (after_taken s)
unknown_keeps Server number said payload s = refl
unknown_keeps Client number said payload s = refl

-- ---- a message of authentication

-- layers by their parts
abbrev with : Login → Channels → Layers
with l ch = record { authentication = l; channels = ch }

module _ {K : Type 0} (p : Parties K) (judge : Judge) (s : Transport K) (m : State K) (server_facts : ServerFacts) (payload : List ℕ) where
  login_made : (l : Login) (ch : Channels) → IsLoginOf p l → (n : Login) (dh : Channels) (message : Msg) (g : LayerAnswer) (reply : Option (List ℕ)) → LoginRow judge (beneath s).session l message g n → ReadsAbove (end_of s (with l ch)) message payload → first_refusal (above_checks p (end_of s (with l ch)) message) ≡ None →
      Answers p s (with l ch) message g (with n dh) → EncodesReply m (login_message n g) reply → AnsweredAbove p (side_of l) (end_of s (with l ch)) payload (took_by g (probes l)) reply (succeeds g) (authentication_of n) dh
  login_made (login.Server old) ch are (login.Server new) dh message (answer.Server g) reply z reads unrefused answers x =
      let encoded : EncodesReply m (reply_by p.server.methods g) reply = subst (λ (l : List (List ℕ)). EncodesReply m (reply_by l g) reply) (z.methods ∙ are.methods) x in
      let fact : (fact_with message g) ≡ fact_told (event_kind_of g) message None =
      server_facts judge p.server.methods (beneath s).session old.kept message g new.kept (subst (λ (l : List (List ℕ)). ServerTakes judge l (beneath s).session old.kept message (answered l message g) new.kept) are.methods z.row) in
      record {
        message = message;
        sent = sent_with (payload_in reply) (reply_by p.server.methods g);
        reads = reads;
        unrefused = unrefused;
        answers = subst (λ (l : List Item). AnswersAbove p (end_of s (with (login.Server old) ch)) message None l (authentication_of (login.Server new)) dh)
            (is_told (fact_with message g) (sent_with (payload_in reply) (reply_by p.server.methods g))
            ∙ ap (λ (f : Option Fact). told f (sent_with (payload_in reply) (reply_by p.server.methods g))) fact)
            (answers (payload_in reply));
        are_sent = are_sent (payload_in reply) (reply_by p.server.methods g);
        on = sent_with_on (payload_in reply) (reply_by p.server.methods g);
        later = telling_later g;
        probing = refl;
        replied = are_replied m (reply_by p.server.methods g) reply encoded;
        kept = ap (λ (f : Option Fact). after_items Server (told f (sent_with (payload_in reply) (reply_by p.server.methods g))) (after_taken s)) (sym fact) ∙ kept_by s p.server.methods g message reply m encoded;
      }
  login_made (login.Client old) ch are (login.Client new) dh message (answer.Client g) (Some l) z reads unrefused answers x = absurd x
  login_made (login.Client old) ch are (login.Client new) dh message (answer.Client g) None z reads unrefused answers x =
      let fact : client_fact message g ≡ fact_told (client_kind_of g) message None = fact_of_answer message (own_fact old message (client_answered message g) new z.row) g in
      record {
        message = message;
        sent = [];
        on = refl;
        later = client_telling_later g;
        reads = reads;
        unrefused = unrefused;
        answers = subst (λ (l : List Item). AnswersAbove p (end_of s (with (login.Client old) ch)) message None l (authentication_of (login.Client new)) dh) (is_told (client_fact message g) [] ∙ ap (λ (f : Option Fact). told f []) fact) answers;
        are_sent = tt;
        probing = refl;
        replied = refl;
        kept = telling_keeps (after_above Client message s) (fact_told (client_kind_of g) message None) ∙ (after_answer s old message (client_answered message g) new z.row ∙ ap (λ (b : Bool). after_success_where b (after_taken s)) (success_is message (own_is_none old message (client_answered message g) new z.row) g));
      }
  login_made (login.Server old) ch are (login.Client new) dh message (answer.Server g) reply z reads unrefused answers x = absurd z
  login_made (login.Server old) ch are n dh message (answer.Client g) reply z reads unrefused answers x = absurd z
  login_made (login.Server old) ch are n dh message (answer.Channels g) reply z reads unrefused answers x = absurd z
  login_made (login.Server old) ch are n dh message answer.Unknown reply z reads unrefused answers x = absurd z
  login_made (login.Client old) ch are (login.Server new) dh message (answer.Client g) reply z reads unrefused answers x = absurd z
  login_made (login.Client old) ch are n dh message (answer.Server g) reply z reads unrefused answers x = absurd z
  login_made (login.Client old) ch are n dh message (answer.Channels g) reply z reads unrefused answers x = absurd z
  login_made (login.Client old) ch are n dh message answer.Unknown reply z reads unrefused answers x = absurd z

-- ---- a payload

module _ {K : Type 0} (p : Parties K) (judge : Judge) (s : Transport K) (m : State K) (old : Layers) (awaits : Awaits s m) (are : AreOf p old) (judged : IsJudgedBy p judge old.authentication) (server_facts : ServerFacts) where
  abbrev payload : List ℕ
  payload = m.receiver.payload

  abbrev side : Side
  side = side_of old.authentication

  module _ (message : Msg) (given : LayerAnswer) (new : Layers) (takes : LayersTake judge (beneath s) old message payload given new) where
    accepted : Accepts p s old message payload given new
    accepted = accepts p judge s payload awaits.normal awaits.above old are judged message given new takes

    answer_made : (reply : Option (List ℕ)) (g : LayerAnswer) → g ≡ given → EncodesReply m (message_of new g (last_number m.kept.taking)) reply →
        AnsweredAbove p side (end_of s old) payload (took_by g (probes old.authentication)) reply (succeeds g) (authentication_of new.authentication) new.channels
    answer_made reply (answer.Server g) e x =
        let y : Accepts p s old message payload (answer.Server g) new = subst (λ (w : LayerAnswer). Accepts p s old message payload w new) (sym e) accepted in
        let z : LayerRow judge (beneath s) old message (answer.Server g) new = subst (λ (w : LayerAnswer). LayerRow judge (beneath s) old message w new) (sym e) takes.row in
        login_made p judge s m server_facts payload old.authentication old.channels are.login new.authentication new.channels message (answer.Server g) reply z.row y.reads y.unrefused y.answers x
    answer_made reply (answer.Client g) e x =
        let y : Accepts p s old message payload (answer.Client g) new = subst (λ (w : LayerAnswer). Accepts p s old message payload w new) (sym e) accepted in
        let z : LayerRow judge (beneath s) old message (answer.Client g) new = subst (λ (w : LayerAnswer). LayerRow judge (beneath s) old message w new) (sym e) takes.row in
        login_made p judge s m server_facts payload old.authentication old.channels are.login new.authentication new.channels message (answer.Client g) reply z.row y.reads y.unrefused y.answers x
    answer_made reply (answer.Channels g) e x =
        let y : Accepts p s old message payload (answer.Channels g) new = subst (λ (w : LayerAnswer). Accepts p s old message payload w new) (sym e) accepted in
        let z : LayerRow judge (beneath s) old message (answer.Channels g) new = subst (λ (w : LayerAnswer). LayerRow judge (beneath s) old message w new) (sym e) takes.row in
        record {
          message = message;
          sent = reply_items (option_map reply_of g.reply) (payload_in reply);
          reads = y.reads;
          unrefused = y.unrefused;
          answers = y.answers (payload_in reply);
          are_sent = reply_is_sent (payload_in reply) (option_map reply_of g.reply);
          on = reply_on (beneath s).is_blocked old.channels message (taken_of message g) new.channels z.row (payload_in reply);
          later = λ owed. refl;
          probing = refl;
          replied = reply_replied m (option_map reply_of g.reply) reply x;
          kept = kept_by_reply side (after_above side message s) (fact_by message g.channel) (option_map reply_of g.reply) reply m x ∙ ap (after_reply reply) (after_channel side s (beneath s).is_blocked old.channels message (taken_of message g) new.channels z.row);
        }
    answer_made None answer.Unknown e x = absurd x
    answer_made (Some reply) answer.Unknown e x =
        let y : Accepts p s old message payload answer.Unknown new = subst (λ (w : LayerAnswer). Accepts p s old message payload w new) (sym e) accepted in
        let z : LayerRow judge (beneath s) old message answer.Unknown new = subst (λ (w : LayerAnswer). LayerRow judge (beneath s) old message w new) (sym e) takes.row in
        record {
          message = message;
          sent = Sent None (Unimplemented s.taking.number) reply ∷ [];
          on = refl;
          later = λ owed. refl;
          reads = y.reads;
          unrefused = y.unrefused;
          answers = subst (λ (f : Option Fact). AnswersAbove p (end_of s old) message None (told f (Sent None (Unimplemented s.taking.number) reply ∷ [])) (authentication_of new.authentication) new.channels) (ap (λ (w : Msg). fact_by w None) (sym z.message_is)) (y.answers reply awaits.few);
          are_sent = tt;
          probing = refl;
          replied = record { message = Unimplemented s.taking.number; messages = refl; encoded = (subst (λ (n : ℕ). EncodesReply m (Some (Unimplemented n)) (Some reply)) awaits.number x).0 };
          kept = ap (λ (w : Msg). after_items side (told (fact_by w None) (Sent None (Unimplemented s.taking.number) reply ∷ [])) (after_above side w s)) z.message_is ∙ unknown_keeps side z.number s.taking.number reply s;
        }

  -- ---- what was made of it

  pub answered_so : (given : LayerAnswer) (new : Layers) → IsTaken judge m old given new → (took : TakenMessage) (reply : Option (List ℕ)) (success : Bool) →
      IsMade m (took_by given (probes old.authentication)) (message_of new given (last_number m.kept.taking)) (succeeds given) took reply success →
      AnsweredAbove p side (end_of s old) payload took reply success (authentication_of new.authentication) new.channels
  answered_so given new x took reply success y =
      let takes = subst (λ (b : Beneath). LayersTake judge b old x.message payload given new) (beneath_is s m awaits x.below x.is_beneath) x.takes in
      subst (λ (b : Bool). AnsweredAbove p side (end_of s old) payload took reply b (authentication_of new.authentication) new.channels) (sym y.success_is)
      (subst (λ (t : TakenMessage). AnsweredAbove p side (end_of s old) payload t reply (succeeds given) (authentication_of new.authentication) new.channels) (sym y.step_is)
      (answer_made x.message given new takes reply given refl y.reply_is))

  pub refused_so : (why : Refusal) (new : Layers) → RefusesPayload judge m old why new → RefusesAbove p (end_of s old) payload why
  refused_so why new x = refuses p judge s payload awaits.normal awaits.above old are judged why (subst (λ (b : Beneath). LayersRefuse judge b old payload why) (beneath_is s m awaits x.below x.is_beneath) x.refuses)
