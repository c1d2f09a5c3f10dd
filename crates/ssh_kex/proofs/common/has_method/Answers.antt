use Rattle.std.proofs.Common.{◌∙◌, sym, subst, IsTrue, List, ℕ}
use Rattle.std.specs.Prelude.{◌↔◌}
use Rattle.std.specs.List.{Contains}
use Rattle.ssh_types.specs.Values.{name_text, names}
use Rattle.ssh_kex.proofs.Commons.{in_methods, not_in_methods}
use Rattle.ssh_kex.proofs.common.has_method.Goals as goal

pub returns-then-not-is_method : goal.returns-then-not-is_method
returns-then-not-is_method c =
    not_in_methods (names c.args.list.now) (name_text c.args.name.now) (sym c.is_method.ensures ∙ c.if-not-is_method.true)

pub returns : goal.returns
returns c =
    let means = subst (λ (n : List ℕ). IsTrue c.contains.result ↔ Contains (names c.args.list.now) n) c.as_bytes.ensures.bytes c.contains.ensures in
    in_methods (names c.args.list.now) (name_text c.args.name.now) c.contains.result means (sym c.is_method.ensures ∙ c.if-not-is_method.false)
