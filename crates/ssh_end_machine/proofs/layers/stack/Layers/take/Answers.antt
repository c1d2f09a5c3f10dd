use Rattle.std.proofs.Common.{Bool, ap, refl, subst, sym, ◌∙◌}
use Rattle.ssh_message.specs.Meaning.{NoMessage, meaning}
use Rattle.ssh_model.specs.Protocol.Wire.Message.{IsPayload}
use Rattle.ssh_end_machine.specs.Layers as layers
use Rattle.ssh_end_machine.specs.Layers.{Layers, may_take}
use Rattle.ssh_end_machine.specs.Login.{probes}
use Rattle.ssh_end_machine.proofs.Each.{given_err}
use Rattle.ssh_end_machine.proofs.Rows.{authentication_fails_at, authentication_takes_at, channels_fail_at}
use Rattle.ssh_end_machine.proofs.layers.stack.Layers.take.Goals as goal

pub returns-then-not-may_take-clause-failed : goal.returns-then-not-may_take-clause-failed
returns-then-not-may_take-clause-failed g c = layers.LayersRefuse.unexpected (ap (may_take (record { session = c.args.below.now.session.now; is_blocked = c.args.below.now.blocked; is_authenticated = c.args.below.now.authenticated }) c.args.self.now) (sym c.number_in.ensures) ∙ (sym c.may_take.ensures ∙ c.if-not-may_take.true))

pub returns-in_default-clause-failed : goal.returns-in_default-clause-failed
returns-in_default-clause-failed g c =
    layers.LayersRefuse.bad_message (ap (may_take (record { session = c.args.below.now.session.now; is_blocked = c.args.below.now.blocked; is_authenticated = c.args.below.now.authenticated }) c.args.self.now) (sym c.number_in.ensures) ∙ (sym c.may_take.ensures ∙ c.if-not-may_take.false))
    (subst (λ (b : Bool). NoMessage b c.args.payload.now) (c.probing.ensures ∙ ap (λ (l : Layers). probes l.authentication) c.self.view_is) c.in_default.ensures.refused).none

pub returns-in_err-answer-in-Authentication-clause-failed : goal.returns-in_err-answer-in-Authentication-clause-failed
returns-in_err-answer-in-Authentication-clause-failed g c = given_err _ c.from_residual.result c.in_err-answer-in-Authentication.field-0.0 c.from_residual.ensures.1
    (authentication_fails_at (g.J.UserJudge.verdicts c.args.judge.now) (record { session = c.args.below.now.session.now; is_blocked = c.args.below.now.blocked; is_authenticated = c.args.below.now.authenticated }) c.args.self.now (meaning c.in-Ok.message) c.args.payload.now c.in-Ok.ensures.number
    (ap (may_take (record { session = c.args.below.now.session.now; is_blocked = c.args.below.now.blocked; is_authenticated = c.args.below.now.authenticated }) c.args.self.now) (sym c.number_in.ensures) ∙ (sym c.may_take.ensures ∙ c.if-not-may_take.false))
    (subst (λ (b : Bool). IsPayload b (meaning c.in-Ok.message) c.args.payload.now) (c.probing.ensures ∙ ap (λ (l : Layers). probes l.authentication) c.self.view_is) c.in-Ok.ensures.found) (sym c.layer_of.ensures ∙ c.in-Authentication.is)
    (record { authentication = c.self.inside.authentication; channels = c.self.inside.channels }) c.self.view_is c.in_err-answer-in-Authentication.field-0.0 c.in_err-answer-in-Authentication.ensures.failed)

pub returns-in_ok-answer-in-Authentication-clause-taken : goal.returns-in_ok-answer-in-Authentication-clause-taken
returns-in_ok-answer-in-Authentication-clause-taken g c =
    authentication_takes_at (g.J.UserJudge.verdicts c.args.judge.now) (record { session = c.args.below.now.session.now; is_blocked = c.args.below.now.blocked; is_authenticated = c.args.below.now.authenticated }) c.args.self.now (meaning c.in-Ok.message) c.args.payload.now c.in-Ok.ensures.number
    (ap (may_take (record { session = c.args.below.now.session.now; is_blocked = c.args.below.now.blocked; is_authenticated = c.args.below.now.authenticated }) c.args.self.now) (sym c.number_in.ensures) ∙ (sym c.may_take.ensures ∙ c.if-not-may_take.false))
    (subst (λ (b : Bool). IsPayload b (meaning c.in-Ok.message) c.args.payload.now) (c.probing.ensures ∙ ap (λ (l : Layers). probes l.authentication) c.self.view_is) c.in-Ok.ensures.found) (sym c.layer_of.ensures ∙ c.in-Authentication.is)
    (record { authentication = c.self.inside.authentication; channels = c.self.inside.channels }) c.self.view_is c.in_ok-answer-in-Authentication.answer _ c.in_ok-answer-in-Authentication.ensures.answered refl

pub returns-in_err-take-in-Channels-clause-failed : goal.returns-in_err-take-in-Channels-clause-failed
returns-in_err-take-in-Channels-clause-failed g c = given_err _ c.from_residual-in_err-take-in-Channels.result c.in_err-take-in-Channels.field-0.0 c.from_residual-in_err-take-in-Channels.ensures.1
    (channels_fail_at (g.J.UserJudge.verdicts c.args.judge.now) (record { session = c.args.below.now.session.now; is_blocked = c.args.below.now.blocked; is_authenticated = c.args.below.now.authenticated }) c.args.self.now (meaning c.in-Ok.message) c.args.payload.now c.in-Ok.ensures.number
    (ap (may_take (record { session = c.args.below.now.session.now; is_blocked = c.args.below.now.blocked; is_authenticated = c.args.below.now.authenticated }) c.args.self.now) (sym c.number_in.ensures) ∙ (sym c.may_take.ensures ∙ c.if-not-may_take.false))
    (subst (λ (b : Bool). IsPayload b (meaning c.in-Ok.message) c.args.payload.now) (c.probing.ensures ∙ ap (λ (l : Layers). probes l.authentication) c.self.view_is) c.in-Ok.ensures.found) (sym c.layer_of.ensures ∙ c.in-Channels.is)
    (record { authentication = c.self.inside.authentication; channels = c.self.inside.channels }) c.self.view_is c.in_err-take-in-Channels.field-0.0 c.in_err-take-in-Channels.ensures.refused)
