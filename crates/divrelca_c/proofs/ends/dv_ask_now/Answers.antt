use Rattle.std.proofs.Common.{◌≡◌, ◌∙◌, of_z, rules, sym, to_z, w32}
use Rattle.divrelca_c.specs.declared.embedded.any_end.AnyEnd.TheVariants as any
use Rattle.divrelca_c.proofs.ends.dv_ask_now.Goals as goal

pub returns-in-Server : goal.returns-in-Server
returns-in-Server c =
    let same : to_z w32 (of_z w32 c.ask.result) ≡ c.ask.result = search rules in
    let value : c.args.h.now.value ≡ any.Server c.in-Server.end = sym c.state.ensures.value ∙ c.in-Server.is in
    rw value (rw same c.ask.ensures)

pub returns-in-Client : goal.returns-in-Client
returns-in-Client c =
    let same : to_z w32 (of_z w32 c.ask-in-Client.result) ≡ c.ask-in-Client.result = search rules in
    let value : c.args.h.now.value ≡ any.Client c.in-Client.end = sym c.state.ensures.value ∙ c.in-Client.is in
    rw value (rw same c.ask-in-Client.ensures)
