use Rattle.std.proofs.Common.{ap, refl}
use Rattle.divrelca_c.specs.declared.embedded.any_end.AnyEnd.{AnyEnd}
use Rattle.divrelca_c.specs.declared.handle.DvView.{DvView}
use Rattle.divrelca_c.proofs.handle.DvView.look.Goals as goal

pub returns : goal.returns
returns c =
    let held = c.args.self.now in let value = c.state.ensures.value in
    let with_end : AnyEnd → DvView = λ last. record held { end = record held.end { value = last } } in
    ((refl, λ _. tt, ap with_end value), record { same = tt; value = value })
