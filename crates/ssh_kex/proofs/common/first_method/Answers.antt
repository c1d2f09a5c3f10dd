use Rattle.std.proofs.Common.{◌∙◌, sym}
use Rattle.ssh_types.specs.Values.{name_text, names, names_left}
use Rattle.ssh_kex.proofs.Commons.{first_is}
use Rattle.ssh_kex.proofs.common.first_method.Goals as goal

pub returns-then-is_method : goal.returns-then-is_method
returns-then-is_method c =
    sym (first_is (names c.args.list.now) (names_left c.loop-name.name-iterator) (names_left c.next.new.self) (name_text c.in-Some.name)
    c.loop-name.invariant c.in-Some.ensures.steps (sym c.is_method.ensures ∙ c.if-is_method.true))
