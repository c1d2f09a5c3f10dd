use Rattle.std.proofs.Common.{◌≡◌, ◌∷◌}
use Rattle.divrelca.proofs.Patterns.{star_met}
use Rattle.divrelca.proofs.key_files.patterns.meet.Goals as goal

pub returns-then-byte-eq42 : goal.returns-then-byte-eq42
returns-then-byte-eq42 c =
    let i = c.loop-byte.invariant in
    let parts : c.loop-byte.wanted.now ≡ c.in-Some.byte.now ∷ c.in-Some.rest.now = c.in-Some.ensures.cases.0 in
    star_met c.args.pattern.now c.args.name.now c.loop-byte.wanted.now c.in-Some.byte.now c.in-Some.rest.now c.loop-byte.left.now parts c.if-byte-eq42.true i.same i.later i.shorter i.left_of
