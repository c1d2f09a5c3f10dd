use Rattle.std.proofs.Common.{ap, sym, subst, IsSome, ◌∙◌}
use Rattle.divrelca.specs.Texts.{parts_left}
use Rattle.divrelca.specs.UserKeys.{keys_after}
use Rattle.divrelca.proofs.FoundKeys.{has_keys, of_any}
use Rattle.divrelca.proofs.key_files.user_keys.authorized_keys.Goals as goal

pub returns-in_err-put_found-clause-memory : goal.returns-in_err-put_found-clause-memory
returns-in_err-put_found-clause-memory c =
    let found = subst (λ it. IsSome it) c.key_on.ensures c.in_err-put_found.ensures.found in
    let all = ap (keys_after c.loop-line.keys.items) (sym c.in-Some.ensures.steps) ∙ c.loop-line.invariant in
    of_any c.from_residual.result (λ _ _. has_keys c.loop-line.keys.items c.in-Some.line.now (parts_left c.next.new.self) _ found all)
