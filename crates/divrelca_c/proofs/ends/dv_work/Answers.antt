use Rattle.std.proofs.Common.{◌≡◌, ◌∙◌, of_z, rules, sym, to_z, w32}
use Rattle.divrelca_c.specs.declared.embedded.any_end.AnyEnd.TheVariants as any
use Rattle.divrelca_c.proofs.ends.dv_work.Goals as goal

pub returns-in-Client : goal.returns-in-Client
returns-in-Client c =
    let same : to_z w32 (of_z w32 c.work-in-Client.result) ≡ c.work-in-Client.result = search rules in
    let value : c.args.h.now.value ≡ any.Client c.in-Client.end = sym c.state.ensures.value ∙ c.in-Client.is in
    rw value (rw same c.work-in-Client.ensures)
