use Rattle.std.proofs.Common.{refl}
use Rattle.divrelca_c.proofs.embedded.host_deciding.Client.is_asked.Goals as goal

pub returns-in-None-clause-known : goal.returns-in-None-clause-known
returns-in-None-clause-known c = λ e looks. c.in-None.ensures.known refl
