-- What an end does with a payload from 50 on is what the end of a session does with it.
use Rattle.std.proofs.Common.{◌≡◌, ℕ, false, List, length, refl, ap, sym, ◌∙◌, subst, Option, None, Some}
use Rattle.std.specs.Option.{option_map}
use Rattle.std.specs.Prelude.{IsSome, Result, Ok, Err}
use Rattle.ssh_model.specs.declared.side.Side.{Side}
use Rattle.ssh_model.specs.declared.side.Side.TheVariants.{Client, Server}
use Rattle.ssh_model.specs.Protocol.Wire.Message.{Msg, Msg.UserauthSuccess}
use Rattle.ssh_model.specs.Protocol.Wire.Unit.{HasNumber}
use Rattle.ssh_model.specs.Protocol.Authentication.Requests.{Judge}
use Rattle.ssh_model.specs.State.Authentication.Summary.{items_of, sent_with, told_over}
use Rattle.ssh_model.specs.State.End.Summary.{AuthenticationSumsUp}
use Rattle.ssh_model.specs.State.End.Payloads.{AnswersAbove}
use Rattle.ssh_model.specs.State.End.State.{EndState}
use Rattle.ssh_model.specs.declared.refusal.Refusal.{Refusal}
use Rattle.ssh_model.specs.Protocol.Sessions.Items.{Fact, Item, messages_sent}
use Rattle.ssh_model.specs.Protocol.Sessions.Parties.{Parties}
use Rattle.ssh_model.specs.Protocol.Sessions.Turns.{AreEncoded}
use Rattle.ssh_model.specs.State.TransportLayer.Kept.{Transport}
use Rattle.ssh_model.specs.Laws.Written.{pk_ok_encoded, success_encoded, unimplemented_encoded}
use Rattle.ssh_auth.specs.Facts.{accepted_by}
use Rattle.ssh_auth.specs.Serving.{answered}
use Rattle.ssh_auth.specs.declared.answer.ClientAnswer.{ClientAnswer}
use Rattle.ssh_auth.specs.declared.answer.ServerAnswer.{ServerAnswer}
use Rattle.ssh_auth.specs.declared.answer.ServerAnswer.TheVariants as request
use Rattle.ssh_channels.specs.Values.{reply_of, taken_of}
use Rattle.ssh_transport_machine.specs.Puts.{Outs}
use Rattle.ssh_transport.specs.Sessions.{IsAbove}
use Rattle.ssh_transport_machine.specs.State.{State, last_number}
use Rattle.ssh_end_machine.specs.Above.{Awaits, Finished, IsUnsent, Judged, RefusedAbove, SpentAbove}
use Rattle.ssh_end_machine.specs.Layer.{Beneath}
use Rattle.ssh_end_machine.specs.Login.{LoginRow, authentication_of, login_message, probes, side_of}
use Rattle.ssh_end_machine.specs.Layers.{LayerRow, Layers, LayersTake, IsShort, message_of}
use Rattle.ssh_end_machine.specs.Judging.{IsTaken, JudgesPayload, RefusesPeer}
use Rattle.ssh_end_machine.specs.UnitTurns.{IsRunning}
use Rattle.ssh_end_machine.specs.Sessions.{Accepts, AreOf, IsLoginOf, beneath, end_of}
use Rattle.ssh_end_machine.specs.Steps.{UnitTurned, fact_by}
use Rattle.ssh_end_machine.specs.declared.replying.ServiceReply.{ServiceReply}
use Rattle.ssh_end_machine.specs.declared.layers.answer.LayerAnswer.{LayerAnswer}
use Rattle.ssh_end_machine.specs.declared.layers.answer.LayerAnswer.TheVariants as answer
use Rattle.ssh_end_machine.specs.declared.layers.login.Login.{Login}
use Rattle.ssh_end_machine.specs.declared.layers.login.Login.TheVariants as login
use Rattle.ssh_end_machine.specs.declared.step.Step.{Step}
use Rattle.ssh_end_machine.proofs.Finishing.{finished}
use Rattle.ssh_end_machine.proofs.Judging.{ServerFacts, beneath_is}
use Rattle.ssh_end_machine.proofs.Judged.{answered_so, refused_so}
use Rattle.ssh_end_machine.proofs.LayerLaws.{accepts}
use Rattle.ssh_end_machine.proofs.TurningLaws.{TurningLaws}
use Rattle.ssh_end_machine.proofs.TurningReplies.{EncodedAbove, due_above, due_encoded, has_number, last_of, spent_above}

-- what a live end keeps of authentication is of its role
pub role_of : (side : Side) (history : List Item) (kept : Login) → AuthenticationSumsUp side history (authentication_of kept) → side_of kept ≡ side
role_of Server history (login.Server server) x = refl
role_of Client history (login.Client client) x = refl
role_of Server history (login.Client client) x = absurd x
role_of Client history (login.Server server) x = absurd x

module _ {K : Type 0} (laws : TurningLaws K) (server_facts : ServerFacts) (p : Parties K) (side : Side) (judge : Judge) (history : List Item) (old : State K) (layers : Layers) (running : IsRunning p side judge history old layers) (alive : old.kept.dead ≡ false) (bytes : List ℕ) (m : State K) (o : Outs) (above : IsAbove p side history old.kept bytes m o) where
  abbrev s : Transport K
  s = old.kept

  abbrev e : EndState K
  e = end_of s layers

  abbrev payload : List ℕ
  payload = m.receiver.payload

  small : HasNumber s.taking.number s.taking.count
  small = has_number p.crypto s.taking.key s.taking.number s.taking.count bytes payload above.packet

  pub awaits : Awaits s m
  awaits = record {
    kept = above.kept;
    above = above.above;
    normal = above.normal;
    identified = running.identified above.normal;
    number = ap (λ (t : Transport K). last_number t.taking) above.kept ∙ last_of s.taking.number small.1;
    few = small.0;
  }

  module _ (message : Msg) (later : Layers) (given : LayerAnswer) (takes : LayersTake judge (beneath s) layers message payload given later) where
    accepted : Accepts p s layers message payload given later
    accepted = accepts p judge s payload above.normal above.above layers running.layers_are running.judged message given later takes

    encoded_with : (channel : Option ℕ) (items : List Item) → AnswersAbove p e message channel items (authentication_of later.authentication) later.channels → AreEncoded items → length (messages_sent items) ≡ 1 → EncodedAbove p e payload
    encoded_with channel items answers encoded one = record {
      message = message;
      channel = channel;
      items = items;
      authentication = authentication_of later.authentication;
      channels = later.channels;
      reads = accepted.reads;
      unrefused = accepted.unrefused;
      answers = answers;
      encoded = encoded;
      one = one;
    }

    let_in : (fact : Option Fact) → AnswersAbove p e message None (told_over fact (sent_with success_encoded.payload (Some UserauthSuccess))) (authentication_of later.authentication) later.channels → EncodedAbove p e payload
    let_in None answers = encoded_with None _ answers (success_encoded.encodes, tt) refl
    let_in (Some fact) answers = encoded_with None _ answers (success_encoded.encodes, tt) refl

    by_server : (l n : Login) (given : ServerAnswer) → IsShort (answer.Server given) → IsSome (login_message n (answer.Server given)) → LoginRow judge (beneath s).session l message (answer.Server given) n → IsLoginOf p l →
        ((reply : List ℕ) → AnswersAbove p e message None (items_of reply (answered p.server.methods message given)) (authentication_of later.authentication) later.channels) → EncodedAbove p e payload
    by_server (login.Server old) (login.Server new) request.Accepted short some row are answers = let_in (accepted_by message) (answers success_encoded.payload)
    by_server (login.Server old) (login.Server new) (request.KeyOk algorithm key) short some row are answers =
        let said = pk_ok_encoded algorithm.now key.now short.0 short.1 in
        encoded_with None _ (answers said.payload) (said.encodes, tt) refl
    by_server (login.Server old) (login.Server new) request.Failed short some row are answers = encoded_with None _ (answers are.failure.payload) (are.failure.encodes, tt) refl
    by_server (login.Server old) (login.Server new) request.Ignored short some row are answers = absurd (cc some)
    by_server (login.Server old) (login.Server new) request.Unimplemented short some row are answers = absurd (cc some)
    by_server (login.Server old) (login.Client new) given short some row are answers = absurd row
    by_server (login.Client old) n given short some row are answers = absurd row

    none_sent : (n : Login) (given : ClientAnswer) → IsSome (login_message n (answer.Client given)) → ⊥
    none_sent (login.Server server) given some = cc some
    none_sent (login.Client client) given some = cc some

    is_encoded : (g : LayerAnswer) → g ≡ given → IsShort g → IsSome (message_of later g (last_number m.kept.taking)) → EncodedAbove p e payload
    is_encoded g same short some = go g short some row y
      where
        y : Accepts p s layers message payload g later
        y = subst (λ (w : LayerAnswer). Accepts p s layers message payload w later) (sym same) accepted

        row : LayerRow judge (beneath s) layers message g later
        row = subst (λ (w : LayerAnswer). LayerRow judge (beneath s) layers message w later) (sym same) takes.row

        go : (g : LayerAnswer) → IsShort g → IsSome (message_of later g (last_number m.kept.taking)) → LayerRow judge (beneath s) layers message g later → Accepts p s layers message payload g later → EncodedAbove p e payload
        go (answer.Server given) short some row y = by_server layers.authentication later.authentication given short some row.row running.layers_are.login y.answers
        go (answer.Client given) short some row y = absurd (none_sent later.authentication given some)
        go (answer.Channels g) short some row y =
            due_above p e payload message g.channel (option_map reply_of g.reply) (fact_by message g.channel) (authentication_of later.authentication) later.channels y.reads y.unrefused y.answers
            (due_encoded layers.channels (laws.named p running.lawful side history e running.sums alive running.run) s.blocked (probes layers.authentication) message payload (taken_of message g) later.channels row.row y.reads.message_is) some
        go answer.Unknown short some row y =
            let said = unimplemented_encoded s.taking.number small.1 in
            encoded_with None _ (y.answers said.payload small.0) (said.encodes, tt) refl

  -- ---- what was made of it

  takes_so : (given : LayerAnswer) (later : Layers) (x : IsTaken judge m layers given later) → LayersTake judge (beneath s) layers x.message payload given later
  takes_so given later x = subst (λ (b : Beneath). LayersTake judge b layers x.message payload given later) (beneath_is s m awaits x.below x.is_beneath) x.takes

  still_taken : (given : LayerAnswer) (later : Layers) → IsTaken judge m layers given later → AreOf p later
  still_taken given later x = (accepted x.message later given (takes_so given later x)).of_parties

  pub still_judged : (given : Result ServiceReply Refusal) (later : Layers) → JudgesPayload judge m layers given later → AreOf p later
  still_judged (Ok above) later x = still_taken x.given later x.taken
  still_judged (Err why) later (RefusesPeer.by_layers _ _ x) = subst (λ (l : Layers). AreOf p l) (sym x.same) running.layers_are
  still_judged (Err _) later (RefusesPeer.spent given _ x unsent) = still_taken given later x

  -- what would be sent has an encoding
  pub encoded_so : (given : LayerAnswer) (later : Layers) → IsTaken judge m layers given later → IsSome (message_of later given (last_number m.kept.taking)) → EncodedAbove p e payload
  encoded_so given later x some = is_encoded x.message later given (takes_so given later x) given refl x.short some

  spent_so : (given : LayerAnswer) (later : Layers) → IsTaken judge m layers given later → IsUnsent m (message_of later given (last_number m.kept.taking)) → SpentAbove p e payload
  spent_so given later x y = spent_above p e payload (encoded_so given later x y.some) (sym (ap (λ (t : Transport K). t.sending.count) above.kept) ∙ y.none_left)

  -- the role of a live end is that of what it keeps of authentication
  role_is : side_of layers.authentication ≡ side
  role_is = role_of side history layers.authentication (running.sums.above alive).authentication_sums

  pub judged_so : (given : Result ServiceReply Refusal) (later : Layers) → JudgesPayload judge m layers given later → Judged p side e payload given (authentication_of later.authentication) later.channels
  judged_so given later x = subst (λ (t : Side). Judged p t e payload given (authentication_of later.authentication) later.channels) role_is (by_role given later x)
    where
      by_role : (given : Result ServiceReply Refusal) (later : Layers) → JudgesPayload judge m layers given later → Judged p (side_of layers.authentication) e payload given (authentication_of later.authentication) later.channels
      by_role (Ok above) later x = answered_so p judge s m layers awaits running.layers_are running.judged server_facts x.given later x.taken above.step _ above.success x.made
      by_role (Err why) later (RefusesPeer.by_layers _ _ x) = RefusedAbove.refused why (refused_so p judge s m layers awaits running.layers_are running.judged server_facts _ later x)
      by_role (Err _) later (RefusesPeer.spent given _ x unsent) = RefusedAbove.spent (spent_so given later x unsent)

  -- what was done with it is a turn
  pub finished_so : (given : Result ServiceReply Refusal) (later : Layers) → JudgesPayload judge m layers given later → (done : Step) (new : State K) (out : Outs) → Finished p.crypto m given done new out → UnitTurned p side history bytes payload done (end_of new.kept later) out
  finished_so given later x done new out y =
      finished p side history e running.sums alive m awaits bytes above.unit
      (λ items more next taken. laws.taken p side history e running.sums alive payload items more next taken)
      (λ items more next turned. laws.opened p side history e running.sums alive bytes payload items more next above.unit turned)
      given (authentication_of later.authentication) later.channels (judged_so given later x) done new out y
