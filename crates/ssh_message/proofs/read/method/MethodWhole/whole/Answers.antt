use Rattle.std.proofs.Common.{rules}
use Rattle.std.specs.Prelude.{codes}
use Rattle.ssh_message.proofs.Methods.{method_found, method_refused}
use Rattle.ssh_message.proofs.read.method.MethodWhole.whole.Goals as goal

pub returns-then-eq-clause-found : goal.returns-then-eq-clause-found
returns-then-eq-clause-found c = method_found c.none.result (codes "none") c.in_ok-name.ensures.found (search rules) c.none.ensures.found

pub returns-then-eq-clause-refused : goal.returns-then-eq-clause-refused
returns-then-eq-clause-refused c = method_refused c.none.result (codes "none") c.in_ok-name.ensures.found (search rules) c.none.ensures.refused

pub returns-then-eq-2-clause-found : goal.returns-then-eq-2-clause-found
returns-then-eq-2-clause-found c = method_found c.password.result (codes "password") c.in_ok-name.ensures.found (search rules) c.password.ensures.found

pub returns-then-eq-2-clause-refused : goal.returns-then-eq-2-clause-refused
returns-then-eq-2-clause-refused c = method_refused c.password.result (codes "password") c.in_ok-name.ensures.found (search rules) c.password.ensures.refused

pub returns-then-eq-3-clause-found : goal.returns-then-eq-3-clause-found
returns-then-eq-3-clause-found c = method_found c.publickey.result (codes "publickey") c.in_ok-name.ensures.found (search rules) c.publickey.ensures.found

pub returns-then-eq-3-clause-refused : goal.returns-then-eq-3-clause-refused
returns-then-eq-3-clause-refused c = method_refused c.publickey.result (codes "publickey") c.in_ok-name.ensures.found (search rules) c.publickey.ensures.refused
