use Rattle.std.proofs.Common.{refl}
use Rattle.ssh_held.proofs.Going.{PeekingLaws, decided_on, stays_alive, stays_out}
use Rattle.ssh_held.proofs.laws.settled_goes_on.Goals as goal

pub returns : goal.returns
returns g c =
    let laws : PeekingLaws _ = record {
      foreseen = c.peeked_is_answered.ensures.foreseen;
      taken = c.peeked_is_answered.ensures.taken;
      unforeseen = c.peeked_is_answered.ensures.unforeseen;
    } in
    λ p settled history machine layers lawful sums decided receiving bytes used most shown done new o x living out answered.
    decided_on laws p p.crypto refl settled history machine layers lawful sums decided receiving bytes used most shown done new o x
    (stays_alive x.items history living) (stays_out x.items history out) answered
