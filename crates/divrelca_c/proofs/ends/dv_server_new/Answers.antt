use Rattle.std.proofs.Common.{◌≡◌, of_z, rules, to_z, w32}
use Rattle.divrelca_c.proofs.NewEnds.{leaves_new, server_memory}
use Rattle.divrelca_c.proofs.ends.dv_server_new.Goals as goal

pub returns-in-Ok : goal.returns-in-Ok
returns-in-Ok c =
    let same : to_z w32 (of_z w32 c.put.result) ≡ c.put.result = search rules in let made = c.in-Ok.ensures in
    rw same (leaves_new c.put.ensures made.made (server_memory made.faultless))
