use Rattle.std.proofs.Common.{◌∙◌, List, ℕ, ap, false, subst}
use Rattle.ssh_model.specs.Protocol.Sessions.Turns.{number_of}
use Rattle.ssh_model.specs.Protocol.Wire.Message.{IsPayload}
use Rattle.ssh_message.specs.Meaning.{meaning}
use Rattle.ssh_transport.proofs.OfServer.Points.{is_init, shown_bad, shown_good}
use Rattle.ssh_transport.proofs.server.point.judge_ecdh_init.Goals as goal

pub point_in-requires : goal.point_in-requires
point_in-requires g c = is_init (meaning c.in-Ok.message) c.in-Ok.ensures.found.context (c.in-Ok.ensures.number ∙ ap number_of c.payload.ensures.payload ∙ c.requires)

pub returns-in-Ok-clause-good : goal.returns-in-Ok-clause-good
returns-in-Ok-clause-good g c =
    let read = subst (λ (l : List ℕ). IsPayload false (meaning c.in-Ok.message) l) c.payload.ensures.payload c.in-Ok.ensures.found in
    shown_good _ c.args.machine.now.kept c.args.machine.now.receiver.payload _ (meaning c.in-Ok.message) read c.point_in.ensures c.judge_point.result c.judge_point.ensures.good

pub returns-in-Ok-clause-bad : goal.returns-in-Ok-clause-bad
returns-in-Ok-clause-bad g c =
    let read = subst (λ (l : List ℕ). IsPayload false (meaning c.in-Ok.message) l) c.payload.ensures.payload c.in-Ok.ensures.found in
    shown_bad _ c.args.machine.now.kept c.args.machine.now.receiver.payload _ (meaning c.in-Ok.message) read c.point_in.ensures c.judge_point.result c.judge_point.ensures.bad
