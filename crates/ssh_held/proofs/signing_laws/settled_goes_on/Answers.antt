use Rattle.std.proofs.Common.{[], append-nil, subst}
use Rattle.ssh_model.specs.Laws.Supplied.{SignsSettled}
use Rattle.ssh_model.specs.declared.side.Side.TheVariants.{Client}
use Rattle.ssh_end_machine.specs.Places.{fed_items}
use Rattle.ssh_held.proofs.Signatures.{fed_signs_none, settled_asked}
use Rattle.ssh_held.proofs.signing_laws.settled_goes_on.Goals as goal

pub returns : goal.returns
returns g c =
    let unasked = c.settled_signing.ensures.unasked in
    record {
      opened = λ p settled items o. subst (λ h. SignsSettled p settled h) (append-nil items)
          (unasked p settled items [] (c.signs_when_asked.ensures.opened p Client items o) tt);
      bytes = λ p settled history unit shown done new o x y.
          unasked p settled x.items history (c.signs_when_asked.ensures.bytes p Client history unit x.items x.turned.turn) y;
      fed = λ p settled history cookie secret answer y.
          unasked p settled (fed_items cookie secret answer) history (fed_signs_none cookie secret answer) y;
      asked = λ p settled history old asked given new o sums known x y.
          settled_asked p settled (unasked p settled) (c.settled_signing.ensures.asked p settled Client) history old asked sums known y given new o x;
    }
