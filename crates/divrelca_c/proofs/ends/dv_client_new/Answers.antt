use Rattle.std.proofs.Common.{◌≡◌, of_z, rules, to_z, w32}
use Rattle.divrelca_c.proofs.NewEnds.{client_memory, leaves_new}
use Rattle.divrelca_c.proofs.ends.dv_client_new.Goals as goal

pub returns-in-Ok : goal.returns-in-Ok
returns-in-Ok c =
    let same : to_z w32 (of_z w32 c.put.result) ≡ c.put.result = search rules in let made = c.in-Ok.ensures in
    rw same (leaves_new c.put.ensures made.made (client_memory made.faultless made.made.settings.good))
