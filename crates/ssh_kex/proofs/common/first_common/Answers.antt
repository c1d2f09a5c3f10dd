use Rattle.std.proofs.Common.{subst, IsTrue, List, ℕ}
use Rattle.std.specs.Prelude.{◌↔◌}
use Rattle.std.specs.List.{Contains}
use Rattle.ssh_types.specs.Values.{name_text, names, names_left}
use Rattle.ssh_kex.proofs.Commons.{goes_on}
use Rattle.ssh_kex.proofs.common.first_common.Goals as goal

pub loop-name-preserved : goal.loop-name-preserved
loop-name-preserved c =
    let server = names c.args.server.now in
    let means = subst (λ (n : List ℕ). IsTrue c.contains.result ↔ Contains server n) c.as_bytes.ensures.bytes c.contains.ensures in
    goes_on (names c.args.client.now) (names_left c.loop-name.name-iterator) server (names_left c.next.new.self) (name_text c.in-Some.name) c.contains.result
    c.loop-name.invariant c.in-Some.ensures.steps means c.if-contains.false
