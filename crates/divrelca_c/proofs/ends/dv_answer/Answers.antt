use Rattle.std.proofs.Common.{◌≡◌, ◌∙◌, of_z, rules, sym, to_z, w32}
use Rattle.divrelca_c.specs.declared.embedded.any_end.AnyEnd.TheVariants as any
use Rattle.divrelca_c.proofs.Answering.{answers_host, answers_request}
use Rattle.divrelca_c.proofs.ends.dv_answer.Goals as goal

pub returns-in-Server : goal.returns-in-Server
returns-in-Server c =
    let same : to_z w32 (of_z w32 c.code_answered.result) ≡ c.code_answered.result = search rules in
    let value : c.args.h.now.value ≡ any.Server c.in-Server.end = sym c.state.ensures.value ∙ c.in-Server.is in
    let d = c.decide.ensures in
    rw value (rw same (rw c.code_answered.ensures (answers_request c.args.accepts c.decide.result c.in-Server.end c.decide.new.self d.answered
    d.unchanged d.kept d.entries d.none d.stands d.rest d.same)))

pub returns-in-Client : goal.returns-in-Client
returns-in-Client c =
    let same : to_z w32 (of_z w32 c.code_answered-in-Client.result) ≡ c.code_answered-in-Client.result = search rules in
    let value : c.args.h.now.value ≡ any.Client c.in-Client.end = sym c.state.ensures.value ∙ c.in-Client.is in
    let d = c.decide-in-Client.ensures in
    rw value (rw same (rw c.code_answered-in-Client.ensures (answers_host c.args.accepts c.decide-in-Client.result c.in-Client.end
    c.decide-in-Client.new.self d.answered d.unchanged d.kept d.keys d.none d.stands d.rest d.same)))
