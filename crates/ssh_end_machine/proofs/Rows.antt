-- Which layer a message is for, and what the other layers say of it.
use Rattle.std.proofs.Common.{◌≡◌, ℕ, Bool, true, cond, List, [], ◌++◌, append-nil, refl, ap, sym, ◌∙◌, subst, None}
use Rattle.std.proofs.lemmas.Bool.{false≢true}
use Rattle.ssh_model.specs.Protocol.Wire.Message.{Msg, Msg.UserauthRequest, IsPayload, message_number}
use Rattle.ssh_model.specs.State.Authentication.Kept as kept
use Rattle.ssh_model.specs.State.Authentication.Kept.{ServerTakes, server_checks, server_takes}
use Rattle.ssh_model.specs.Protocol.Authentication.Requests.{Judge}
use Rattle.ssh_model.specs.State.Channels.Kept.{Channels, take_checks}
use Rattle.ssh_model.specs.declared.refusal.Refusal.{Refusal}
use Rattle.ssh_model.specs.declared.refusal.Refusal.TheVariants.{Unexpected}
use Rattle.ssh_model.specs.Protocol.Sessions.Refusals.{Check, first_refusal}
use Rattle.ssh_model.specs.Protocol.Sessions.Turns.{number_of}
use Rattle.ssh_auth.specs.Asking.{IsClientRow, KnownRow}
use Rattle.ssh_auth.specs.Serving as serving
use Rattle.ssh_auth.specs.Serving.{IsServerRow, ServerRefuses, answered, server_refusals}
use Rattle.ssh_auth.specs.declared.answer.ClientAnswer.{ClientAnswer}
use Rattle.ssh_auth.specs.declared.answer.ClientAnswer.TheVariants as client_answer
use Rattle.ssh_auth.specs.declared.answer.ServerAnswer.{ServerAnswer}
use Rattle.ssh_auth.specs.declared.answer.ServerAnswer.TheVariants as auth_answer
use Rattle.ssh_channels.specs.Rows.{IsTakeError, is_connection, message_checks}
use Rattle.ssh_end_machine.specs.Layers as layers
use Rattle.ssh_end_machine.specs.Layer.{Beneath, layer_of}
use Rattle.ssh_end_machine.specs.Login.{LoginAnswers, LoginFails, LoginRow, NeedsSignedText, login_checks, login_takes, probes}
use Rattle.ssh_end_machine.specs.Layers.{Layers, LayersFail, LayersTake, Reads, layer_checks, may_take}
use Rattle.ssh_types.specs.declared.call_error.CallError.{CallError}
use Rattle.ssh_types.specs.declared.call_error.CallError.TheVariants as fault
use Rattle.ssh_end_machine.specs.declared.layers.layer.Layer.TheVariants as layer
use Rattle.ssh_end_machine.specs.declared.layers.answer.LayerAnswer.{LayerAnswer}
use Rattle.ssh_end_machine.specs.declared.layers.answer.LayerAnswer.TheVariants as answer
use Rattle.ssh_end_machine.specs.declared.layers.login.Login.{Login}
use Rattle.ssh_end_machine.specs.declared.layers.login.Login.TheVariants as login
use Rattle.ssh_end_machine.proofs.Each.{below_80, known, no_channel, of_connection, passes}

-- ---- one line a message

no_request : (judge : Judge) (tries : ℕ) (methods : List (List ℕ)) (session : List ℕ) (server : _) (m : Msg) → layer_of m ≡ layer.Channels → server_checks judge tries methods session server m ≡ []
no_request judge tries methods session server (UserauthRequest user service how) e = absurd (cc e)
no_request judge tries methods session server _ e = refl

no_login_check : (judge : Judge) (session : List ℕ) (kept : Login) (m : Msg) → layer_of m ≡ layer.Channels → login_checks judge session kept m ≡ []
no_login_check judge session (login.Server server) m e = no_request judge server.tries server.methods session server.kept m e
no_login_check judge session (login.Client client) m e = refl

by_authentication : (below : Beneath) (l : Layers) (m : Msg) → layer_of m ≡ layer.Authentication → may_take below l (message_number m) ≡ login_takes l.authentication (message_number m)
by_authentication below l m e = ap (λ (b : Bool). cond b (login_takes l.authentication (message_number m)) below.is_authenticated) (below_80 m e)

-- ---- authentication

module _ (judge : Judge) (session : List ℕ) (blocked : Bool) (ch : Channels) (m : Msg) (here : layer_of m ≡ layer.Authentication) where
  checked : (server : serving.Server) → server_takes server.kept (message_number m) ≡ true → first_refusal (server_refusals judge session server m) ≡ first_refusal (login_checks judge session (login.Server server) m ++ take_checks blocked ch m)
  checked server takes =
      let own = server_checks judge server.tries server.methods session server.kept m in
      passes _ Unexpected own takes ∙ ap first_refusal (sym (append-nil own) ∙ ap (λ (l : List (Check Refusal)). own ++ l) (sym (no_channel blocked ch m here)))

  server_row : (old : serving.Server) (given : ServerAnswer) (new : kept.Server) → IsServerRow judge session old m given new → ServerTakes judge old.methods session old.kept m (answered old.methods m given) new
  server_row old auth_answer.Ignored new x = x
  server_row old auth_answer.Accepted new x = x
  server_row old (auth_answer.KeyOk algorithm key) new x = x
  server_row old auth_answer.Failed new x = x
  server_row old auth_answer.Unimplemented new x = absurd (known m here x.0)

  client_row : (old : kept.Client) (given : ClientAnswer) (new : kept.Client) → IsClientRow old m given new → KnownRow old m given new
  client_row old client_answer.Failed new x = x
  client_row old (client_answer.Authenticated request) new x = x
  client_row old client_answer.Banner new x = x
  client_row old client_answer.KeyOk new x = x
  client_row old client_answer.Unimplemented new x = absurd (known m here x.0)

  -- What it answers is a row that nothing refuses.
  login_row : (old : Login) → login_takes old (message_number m) ≡ true → (given : LayerAnswer) (new : Login) → LoginAnswers judge session old m given new → LoginRow judge session old m given new × (first_refusal (login_checks judge session old m ++ take_checks blocked ch m) ≡ None)
  login_row (login.Server old) takes (answer.Server given) (login.Server new) x = (record { row = server_row old given new.kept x.row; tries = x.tries; methods = x.methods }, sym (checked old takes) ∙ x.unrefused)
  login_row (login.Client old) takes (answer.Client given) (login.Client new) x = (client_row old given new x.row, ap first_refusal (no_channel blocked ch m here))
  login_row (login.Server old) takes (answer.Server given) (login.Client new) x = absurd x
  login_row (login.Server old) takes (answer.Client given) new x = absurd x
  login_row (login.Server old) takes (answer.Channels given) new x = absurd x
  login_row (login.Server old) takes answer.Unknown new x = absurd x
  login_row (login.Client old) takes (answer.Client given) (login.Server new) x = absurd x
  login_row (login.Client old) takes (answer.Server given) new x = absurd x
  login_row (login.Client old) takes (answer.Channels given) new x = absurd x
  login_row (login.Client old) takes answer.Unknown new x = absurd x

-- ---- checks

module _ (judge : Judge) (below : Beneath) (old : Layers) (m : Msg) (payload : List ℕ) (same : message_number m ≡ number_of payload) (may : may_take below old (number_of payload) ≡ true) (read : IsPayload (probes old.authentication) m payload) where
  reads : Reads below old m payload
  reads = record { taken = may; message_is = read }

  module _ (here : layer_of m ≡ layer.Authentication) where
    takes : login_takes old.authentication (message_number m) ≡ true
    takes = sym (by_authentication below old m here) ∙ (ap (may_take below old) same ∙ may)

    pub authentication_takes : (given : LayerAnswer) (new : Layers) → LoginAnswers judge below.session old.authentication m given new.authentication → new.channels ≡ old.channels → LayersTake judge below old m payload given new
    authentication_takes given new x channels =
        let y = login_row judge below.session below.is_blocked old.channels m here old.authentication takes given new.authentication x in
        record { reads = reads; unrefused = y.1; row = row_so given new x y.0 channels }
      where
        row_so : (given : LayerAnswer) (new : Layers) → LoginAnswers judge below.session old.authentication m given new.authentication → LoginRow judge below.session old.authentication m given new.authentication → new.channels ≡ old.channels → layers.LayerRow judge below old m given new
        row_so (answer.Server given) new x row channels = record { row = row; channels = channels }
        row_so (answer.Client given) new x row channels = record { row = row; channels = channels }
        row_so (answer.Channels given) new x row channels = absurd (none old.authentication new.authentication row)
          where
            none : (l n : Login) → LoginRow judge below.session l m (answer.Channels given) n → ⊥
            none (login.Server server) n z = z
            none (login.Client client) n z = z
        row_so answer.Unknown new x row channels = absurd (none old.authentication new.authentication row)
          where
            none : (l n : Login) → LoginRow judge below.session l m answer.Unknown n → ⊥
            none (login.Server server) n z = z
            none (login.Client client) n z = z

    pub authentication_takes_at : (seen : Layers) → seen ≡ old → (given : LayerAnswer) (new : Layers) → LoginAnswers judge below.session seen.authentication m given new.authentication → new.channels ≡ seen.channels → LayersTake judge below old m payload given new
    authentication_takes_at seen is given new x channels =
        authentication_takes given new (subst (λ (l : Layers). LoginAnswers judge below.session l.authentication m given new.authentication) is x) (channels ∙ ap (λ (l : Layers). l.channels) is)

    server_fails : (server : serving.Server) → old.authentication ≡ login.Server server → (given : CallError Refusal) → ServerRefuses judge below.session server m given → LayersFail judge below old payload given
    server_fails server is (fault.Refused given) x =
        layers.LayersRefuse.refused m given reads (ap (λ (l : Login). first_refusal (login_checks judge below.session l m ++ take_checks below.is_blocked old.channels m)) is
        ∙ (sym (checked judge below.session below.is_blocked old.channels m here server (sym (ap (λ (l : Login). login_takes l (message_number m)) is) ∙ takes)) ∙ x))
    server_fails server is fault.Memory x = layers.LayersNeedMemory.for_text m reads (subst (λ (l : Login). NeedsSignedText judge below.session l m) (sym is) x)

    -- a client refuses no number that may come
    pub authentication_fails : (given : CallError Refusal) → LoginFails judge below.session old.authentication m given → LayersFail judge below old payload given
    authentication_fails given x = go old.authentication refl x
      where
        go : (l : Login) → old.authentication ≡ l → LoginFails judge below.session l m given → LayersFail judge below old payload given
        go (login.Server server) is x = server_fails server is given x
        go (login.Client client) is x = absurd (false≢true (sym x ∙ (sym (ap (λ (l : Login). login_takes l (message_number m)) is) ∙ takes)))

    pub authentication_fails_at : (seen : Layers) → seen ≡ old → (given : CallError Refusal) → LoginFails judge below.session seen.authentication m given → LayersFail judge below old payload given
    authentication_fails_at seen is given x = authentication_fails given (subst (λ (l : Layers). LoginFails judge below.session l.authentication m given) is x)

  -- ---- channels

  module _ (here : layer_of m ≡ layer.Channels) where
    checked_there : first_refusal (message_checks below.is_blocked old.channels m) ≡ first_refusal (layer_checks judge below old m)
    checked_there = passes (is_connection m) Unexpected (take_checks below.is_blocked old.channels m) (of_connection m here) ∙
        ap (λ (l : List (Check Refusal)). first_refusal (l ++ take_checks below.is_blocked old.channels m)) (sym (no_login_check judge below.session old.authentication m here))

    pub channels_fail : (given : CallError Refusal) → IsTakeError below.is_blocked old.channels m given → LayersFail judge below old payload given
    channels_fail (fault.Refused why) x = layers.LayersRefuse.refused m why reads (sym checked_there ∙ x)
    channels_fail fault.Memory x = layers.LayersNeedMemory.for_channel m reads x

    pub channels_fail_at : (seen : Layers) → seen ≡ old → (given : CallError Refusal) → IsTakeError below.is_blocked seen.channels m given → LayersFail judge below old payload given
    channels_fail_at seen is given x = channels_fail given (subst (λ (l : Layers). IsTakeError below.is_blocked l.channels m given) is x)
