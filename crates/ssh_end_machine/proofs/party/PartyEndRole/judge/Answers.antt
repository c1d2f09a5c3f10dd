use Rattle.std.proofs.Common.{ℕ, List, ap, ◌∙◌, subst}
use Rattle.ssh_message.specs.Meaning.{meaning}
use Rattle.ssh_end_machine.specs.Judging.{IsTaken, took_by}
use Rattle.ssh_end_machine.specs.Layer.{Beneath}
use Rattle.ssh_end_machine.specs.Layers.{Layers, LayersFail, LayersTake, message_of}
use Rattle.ssh_end_machine.specs.Login.{probes}
use Rattle.ssh_end_machine.proofs.Judging.{answered_by, failed_so, lacks_so, unencoded_by}
use Rattle.ssh_end_machine.proofs.Following.{goes_some, may_go, then_follows}
use Rattle.ssh_end_machine.proofs.Sides.{taken_side}
use Rattle.ssh_end_machine.proofs.party.PartyEndRole.judge.Goals as goal

pub returns-in-Ok-clause-judged : goal.returns-in-Ok-clause-judged
returns-in-Ok-clause-judged g c =
    let judge = g.J.UserJudge.verdicts c.args.self.now.judge in
    let below : Beneath = record { session = c.session_of-session.result; is_blocked = c.blocked.result; is_authenticated = c.is_authenticated.result } in
    let taken : IsTaken judge c.args.transport.now.machine c.args.layers.now c.in-Ok.taken.answer c.take.new.self = record {
      below = below;
      is_beneath = record { session = c.session_of-session.ensures.id; blocked = c.blocked.ensures; authenticated = c.is_authenticated.ensures };
      message = meaning c.in-Ok.taken.message;
      takes = subst (λ (l : List ℕ). LayersTake judge below c.args.layers.now (meaning c.in-Ok.taken.message) l c.in-Ok.taken.answer c.take.new.self) c.payload.ensures.payload c.in-Ok.ensures.taken;
      short = c.in-Ok.ensures.short;
    } in
    answered_by judge c.args.transport.now.machine c.args.layers.now c.take.new.self c.in-Ok.taken.answer taken _ (c.message-message.ensures.message ∙ ap (message_of c.take.new.self c.in-Ok.taken.answer) c.last_number.ensures)
    c.message_step-success.result.0 c.message_step-success.result.1 (c.message_step-success.ensures.step ∙ ap (took_by c.in-Ok.taken.answer) (c.probing-probing.ensures ∙ ap (λ (l : Layers). probes l.authentication) c.layers.view_is)) c.message_step-success.ensures.success c.encode_answer.result c.encode_answer.ensures.made c.encode_answer.ensures.failed

pub returns-in-Ok-clause-needs_memory : goal.returns-in-Ok-clause-needs_memory
returns-in-Ok-clause-needs_memory g c =
    let judge = g.J.UserJudge.verdicts c.args.self.now.judge in
    let below : Beneath = record { session = c.session_of-session.result; is_blocked = c.blocked.result; is_authenticated = c.is_authenticated.result } in
    let taken : IsTaken judge c.args.transport.now.machine c.args.layers.now c.in-Ok.taken.answer c.take.new.self = record {
      below = below;
      is_beneath = record { session = c.session_of-session.ensures.id; blocked = c.blocked.ensures; authenticated = c.is_authenticated.ensures };
      message = meaning c.in-Ok.taken.message;
      takes = subst (λ (l : List ℕ). LayersTake judge below c.args.layers.now (meaning c.in-Ok.taken.message) l c.in-Ok.taken.answer c.take.new.self) c.payload.ensures.payload c.in-Ok.ensures.taken;
      short = c.in-Ok.ensures.short;
    } in
    unencoded_by judge c.args.transport.now.machine c.args.layers.now c.take.new.self c.in-Ok.taken.answer taken _ (c.message-message.ensures.message ∙ ap (message_of c.take.new.self c.in-Ok.taken.answer) c.last_number.ensures)
    c.encode_answer.result c.encode_answer.ensures.failed

pub returns-in-Err-clause-judged : goal.returns-in-Err-clause-judged
returns-in-Err-clause-judged g c =
    let judge = g.J.UserJudge.verdicts c.args.self.now.judge in
    let below : Beneath = record { session = c.session_of-session.result; is_blocked = c.blocked.result; is_authenticated = c.is_authenticated.result } in
    failed_so judge c.args.transport.now.machine c.args.layers.now c.take.new.self below
    (record { session = c.session_of-session.ensures.id; blocked = c.blocked.ensures; authenticated = c.is_authenticated.ensures }) c.in-Err.fault
    (subst (λ (l : List ℕ). LayersFail judge below c.args.layers.now l c.in-Err.fault) c.payload.ensures.payload c.in-Err.ensures.failed) c.in-Err.ensures.kept

pub returns-in-Err-clause-needs_memory : goal.returns-in-Err-clause-needs_memory
returns-in-Err-clause-needs_memory g c =
    let judge = g.J.UserJudge.verdicts c.args.self.now.judge in
    let below : Beneath = record { session = c.session_of-session.result; is_blocked = c.blocked.result; is_authenticated = c.is_authenticated.result } in
    lacks_so judge c.args.transport.now.machine c.args.layers.now c.take.new.self c.signed_texts_fit.ensures below
    (record { session = c.session_of-session.ensures.id; blocked = c.blocked.ensures; authenticated = c.is_authenticated.ensures }) c.session_of-session.ensures.size c.payload.ensures.most c.in-Err.fault
    (subst (λ (l : List ℕ). LayersFail judge below c.args.layers.now l c.in-Err.fault) c.payload.ensures.payload c.in-Err.ensures.failed)

pub encode_answer-requires-clause-goes : goal.encode_answer-requires-clause-goes
encode_answer-requires-clause-goes g c =
    let judge = g.J.UserJudge.verdicts c.args.self.now.judge in
    let below : Beneath = record { session = c.session_of-session.result; is_blocked = c.blocked.result; is_authenticated = c.is_authenticated.result } in
    goes_some c.args.transport.now.machine.kept c.message-message.result _ c.message-message.ensures.message (may_go c.args.transport.now.machine judge below
    (record { session = c.session_of-session.ensures.id; blocked = c.blocked.ensures; authenticated = c.is_authenticated.ensures }) c.requires.let_in c.args.layers.now c.take.new.self (meaning c.in-Ok.taken.message) _ c.in-Ok.taken.answer c.in-Ok.ensures.taken c.requires.follows _)

pub returns-in-Ok-clause-follows : goal.returns-in-Ok-clause-follows
returns-in-Ok-clause-follows g c =
    let judge = g.J.UserJudge.verdicts c.args.self.now.judge in
    let below : Beneath = record { session = c.session_of-session.result; is_blocked = c.blocked.result; is_authenticated = c.is_authenticated.result } in
    then_follows c.args.transport.now.machine judge below
    (record { session = c.session_of-session.ensures.id; blocked = c.blocked.ensures; authenticated = c.is_authenticated.ensures }) c.requires.let_in c.args.layers.now c.take.new.self (meaning c.in-Ok.taken.message) _ c.in-Ok.taken.answer c.in-Ok.ensures.taken c.requires.follows
    _ _ c.message_step-success.result.1 c.message_step-success.ensures.success c.encode_answer.result c.encode_answer.ensures.made

pub returns-in-Ok-clause-side : goal.returns-in-Ok-clause-side
returns-in-Ok-clause-side g c =
    taken_side (g.J.UserJudge.verdicts c.args.self.now.judge) (record { session = c.session_of-session.result; is_blocked = c.blocked.result; is_authenticated = c.is_authenticated.result }) c.args.layers.now (meaning c.in-Ok.taken.message) c.in-Ok.taken.answer c.take.new.self c.in-Ok.ensures.taken.row
