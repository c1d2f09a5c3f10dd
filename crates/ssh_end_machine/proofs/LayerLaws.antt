-- What the layers above a transport make of a payload is what an end makes of it.
use Rattle.std.proofs.Common.{◌≡◌, ℕ, ◌≤◌, List, [], ◌∷◌, ◌++◌, refl, ap, sym, ◌∙◌, subst, Option, None}
use Rattle.std.specs.Option.{option_map}
use Rattle.ssh_model.specs.Protocol.Wire.Message.{Msg, Msg.Unimplemented}
use Rattle.ssh_model.specs.State.Authentication.Kept.{ServerTakes, server_checks}
use Rattle.ssh_model.specs.Protocol.Authentication.Requests.{Judge}
use Rattle.ssh_model.specs.State.Channels.Kept.{Channels, take_checks}
use Rattle.ssh_model.specs.State.Channels.Summary.{told}
use Rattle.ssh_model.specs.Protocol.Sessions.Items.{Fact, Item.Sent}
use Rattle.ssh_model.specs.Protocol.Sessions.Parties.{Parties}
use Rattle.ssh_model.specs.Protocol.Sessions.Phases.{Phase.Normal}
use Rattle.ssh_model.specs.declared.refusal.Refusal.{Refusal}
use Rattle.ssh_model.specs.Protocol.Sessions.Refusals.{first_refusal}
use Rattle.ssh_model.specs.Protocol.Sessions.Turns.{number_of}
use Rattle.ssh_model.specs.State.TransportLayer.Kept.{Transport}
use Rattle.ssh_model.specs.State.End.Payloads as above
use Rattle.ssh_model.specs.State.End.Payloads.{AnswersAbove, ReadsAbove, RefusesAbove, reply_items}
use Rattle.ssh_model.specs.State.End.State.{above_checks}
use Rattle.ssh_auth.specs.Asking.{client_answered}
use Rattle.ssh_auth.specs.Serving.{answered}
use Rattle.ssh_channels.specs.Values.{reply_of, taken_of}
use Rattle.ssh_end_machine.specs.Layers as layers
use Rattle.ssh_end_machine.specs.Layers.{LayerRow, Layers, LayersRefuse, LayersTake, layer_checks}
use Rattle.ssh_end_machine.specs.Login.{LoginRow, authentication_of}
use Rattle.ssh_end_machine.specs.Sessions.{Accepts, Answers, AreOf, IsJudgedBy, IsLoginOf, beneath, end_of}
use Rattle.ssh_end_machine.specs.Steps.{fact_by}
use Rattle.ssh_end_machine.proofs.Facts.{by_channels}
use Rattle.ssh_end_machine.proofs.Sides.{taken_side}
use Rattle.ssh_end_machine.specs.declared.layers.answer.LayerAnswer.{LayerAnswer}
use Rattle.ssh_end_machine.specs.declared.layers.answer.LayerAnswer.TheVariants as answer
use Rattle.ssh_end_machine.specs.declared.layers.login.Login.{Login}
use Rattle.ssh_end_machine.specs.declared.layers.login.Login.TheVariants as login

-- layers by their parts
abbrev with : Login → Channels → Layers
with l ch = record { authentication = l; channels = ch }

module _ {K : Type 0} (p : Parties K) (judge : Judge) (s : Transport K) (payload : List ℕ) (normal : s.phase ≡ Normal) (number : 50 ≤ number_of payload) where
  checks : (l : Login) (ch : Channels) → IsLoginOf p l → IsJudgedBy p judge l → (m : Msg) → layer_checks judge (beneath s) (with l ch) m ≡ above_checks p (end_of s (with l ch)) m
  checks (login.Server server) ch are is m = λ i. server_checks (sym is i) (are.tries i) (are.methods i) (beneath s).session server.kept m ++ take_checks s.blocked ch m
  checks (login.Client client) ch are is m = refl

  reads : (old : Layers) (m : Msg) → layers.Reads (beneath s) old m payload → ReadsAbove (end_of s old) m payload
  reads old m x = record { above = number; normal = normal; taken = x.taken; message_is = x.message_is }

  -- ---- authentication

  login_answers : (l : Login) (ch : Channels) → IsLoginOf p l → IsJudgedBy p judge l → (m : Msg) (given : LayerAnswer) (n : Login) → LoginRow judge (beneath s).session l m given n → Answers p s (with l ch) m given (with n ch)
  login_answers (login.Server old) ch are is m (answer.Server given) (login.Server new) x = λ reply.
      above.AnswersAbove.by_server old.kept new.kept m (answered p.server.methods m given) reply refl
      (subst (λ (j : Judge). ServerTakes j p.server.methods (beneath s).session old.kept m (answered p.server.methods m given) new.kept) (sym is)
      (subst (λ (l : List (List ℕ)). ServerTakes judge l (beneath s).session old.kept m (answered l m given) new.kept) are.methods x.row))
  login_answers (login.Client old) ch are is m (answer.Client given) (login.Client new) x = above.AnswersAbove.by_client old new m (client_answered m given) refl x.row
  login_answers (login.Server old) ch are is m (answer.Server given) (login.Client new) x = absurd x
  login_answers (login.Server old) ch are is m (answer.Client given) n x = absurd x
  login_answers (login.Server old) ch are is m (answer.Channels given) n x = absurd x
  login_answers (login.Server old) ch are is m answer.Unknown n x = absurd x
  login_answers (login.Client old) ch are is m (answer.Client given) (login.Server new) x = absurd x
  login_answers (login.Client old) ch are is m (answer.Server given) n x = absurd x
  login_answers (login.Client old) ch are is m (answer.Channels given) n x = absurd x
  login_answers (login.Client old) ch are is m answer.Unknown n x = absurd x

  login_stays : (l : Login) → IsLoginOf p l → (m : Msg) (given : LayerAnswer) (n : Login) → LoginRow judge (beneath s).session l m given n → IsLoginOf p n
  login_stays (login.Server old) are m (answer.Server given) (login.Server new) x = record { tries = x.tries ∙ are.tries; methods = x.methods ∙ are.methods; failure = are.failure }
  login_stays (login.Client old) are m (answer.Client given) (login.Client new) x = tt
  login_stays (login.Server old) are m (answer.Server given) (login.Client new) x = absurd x
  login_stays (login.Server old) are m (answer.Client given) n x = absurd x
  login_stays (login.Server old) are m (answer.Channels given) n x = absurd x
  login_stays (login.Server old) are m answer.Unknown n x = absurd x
  login_stays (login.Client old) are m (answer.Client given) (login.Server new) x = absurd x
  login_stays (login.Client old) are m (answer.Server given) n x = absurd x
  login_stays (login.Client old) are m (answer.Channels given) n x = absurd x
  login_stays (login.Client old) are m answer.Unknown n x = absurd x

  -- ---- both layers

  module _ (old : Layers) (are : AreOf p old) (judged : IsJudgedBy p judge old.authentication) where
    answers : (m : Msg) (given : LayerAnswer) (new : Layers) → LayerRow judge (beneath s) old m given new → Answers p s old m given new
    answers m (answer.Server given) new x =
        subst (λ (c : Channels). Answers p s old m (answer.Server given) (with new.authentication c)) (sym x.channels)
        (login_answers old.authentication old.channels are.login judged m (answer.Server given) new.authentication x.row)
    answers m (answer.Client given) new x =
        subst (λ (c : Channels). Answers p s old m (answer.Client given) (with new.authentication c)) (sym x.channels)
        (login_answers old.authentication old.channels are.login judged m (answer.Client given) new.authentication x.row)
    answers m (answer.Channels given) new x = λ reply.
        subst (λ (l : Login). AnswersAbove p (end_of s old) m given.channel (told (fact_by m given.channel) (reply_items (option_map reply_of given.reply) reply)) (authentication_of l) new.channels) (sym x.authentication)
        (subst (λ (f : Option Fact). AnswersAbove p (end_of s old) m given.channel (told f (reply_items (option_map reply_of given.reply) reply)) (authentication_of old.authentication) new.channels)
        (by_channels (beneath s).is_blocked old.channels m (taken_of m given) new.channels x.row given.channel)
        (above.AnswersAbove.by_channels m (taken_of m given) reply new.channels x.row))
    answers m answer.Unknown new x = λ reply few.
        subst (λ (l : Layers). AnswersAbove p (end_of s old) m None (Sent None (Unimplemented s.taking.number) reply ∷ []) (authentication_of l.authentication) l.channels) (sym x.same)
        (subst (λ (n : Msg). AnswersAbove p (end_of s old) n None (Sent None (Unimplemented s.taking.number) reply ∷ []) (authentication_of old.authentication) old.channels) (sym x.message_is)
        (above.AnswersAbove.unknown x.number reply few))

    stays : (m : Msg) (given : LayerAnswer) (new : Layers) → LayerRow judge (beneath s) old m given new → AreOf p new
    stays m (answer.Server given) new x = record { login = login_stays old.authentication are.login m (answer.Server given) new.authentication x.row }
    stays m (answer.Client given) new x = record { login = login_stays old.authentication are.login m (answer.Client given) new.authentication x.row }
    stays m (answer.Channels given) new x = record { login = subst (λ (l : Login). IsLoginOf p l) (sym x.authentication) are.login }
    stays m answer.Unknown new x = subst (λ (l : Layers). AreOf p l) (sym x.same) are

    pub accepts : (m : Msg) (given : LayerAnswer) (new : Layers) → LayersTake judge (beneath s) old m payload given new → Accepts p s old m payload given new
    accepts m given new x = record {
      reads = reads old m x.reads;
      unrefused = ap first_refusal (sym (checks old.authentication old.channels are.login judged m)) ∙ x.unrefused;
      answers = answers m given new x.row;
      of_parties = stays m given new x.row;
      role = taken_side judge (beneath s) old m given new x.row;
    }

    pub refuses : (why : Refusal) → LayersRefuse judge (beneath s) old payload why → RefusesAbove p (end_of s old) payload why
    refuses why (layers.LayersRefuse.unexpected e) = above.RefusesAbove.unexpected number normal e
    refuses why (layers.LayersRefuse.bad_message e none) = above.RefusesAbove.bad_message number normal e none
    refuses why (layers.LayersRefuse.refused m r x e) = above.RefusesAbove.refused m r (reads old m x) (ap first_refusal (sym (checks old.authentication old.channels are.login judged m)) ∙ e)
