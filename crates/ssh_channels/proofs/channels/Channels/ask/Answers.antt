use Rattle.std.proofs.Common.{Bool, false, ap, sym, ◌∙◌}
use Rattle.ssh_model.specs.Protocol.Sessions.Refusals.{first_refusal}
use Rattle.ssh_model.specs.State.Channels.Kept.{send_checks}
use Rattle.ssh_channels.specs.Values.{ask_of}
use Rattle.ssh_channels.proofs.Asking.{refused_as_busy, refused_as_due}
use Rattle.ssh_channels.proofs.channels.Channels.ask.Goals as goal

pub returns-then-is_busy-clause-in_session : goal.returns-then-is_busy-clause-in_session
returns-then-is_busy-clause-in_session c = λ side history sums same.
    c.same_asks.ensures.refused side history c.args.self.now sums c.args.due (ask_of c.args.ask.now)
    ∙ ap (λ (b : Bool). first_refusal (send_checks b c.args.due c.args.self.now (ask_of c.args.ask.now))) (same ∙ c.if-blocked.false)
    ∙ refused_as_busy c.args.due c.args.self.now c.args.ask.now (sym c.is_busy.ensures ∙ c.if-is_busy.true)

pub returns-clause-in_session : goal.returns-clause-in_session
returns-clause-in_session c = λ side history sums same.
    c.same_asks.ensures.refused side history c.args.self.now sums c.args.due (ask_of c.args.ask.now)
    ∙ ap (λ (b : Bool). first_refusal (send_checks b c.args.due c.args.self.now (ask_of c.args.ask.now))) (same ∙ c.if-blocked.false)
    ∙ ap (λ (b : Bool). first_refusal (send_checks false b c.args.self.now (ask_of c.args.ask.now))) c.if-not-due.false
    ∙ refused_as_due c.args.self.now c.args.ask.now (sym c.is_busy.ensures ∙ c.if-is_busy.false)
