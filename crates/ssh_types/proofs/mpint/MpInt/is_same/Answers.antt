use Rattle.std.proofs.Common.{◌≡◌, ◌∙◌, ap, List, ℕ, Bool}
use Rattle.std.specs.Cmp.{booleans_Decides}
use Rattle.std.proofs.lemmas.Bool.Decides.{Decides-eqb}
use Rattle.std.proofs.lemmas.Slice.Eq.{slice_eq-Decides}
use Rattle.ssh_model.specs.Laws.DataTypes.{integer}
use Rattle.ssh_types.specs.Digits.{marked_bytes}
use Rattle.ssh_types.specs.WholeNumbers.{same_value}
use Rattle.ssh_types.proofs.mpint.MpInt.is_same.Goals as goal

pub returns-then-self-other : goal.returns-then-self-other
returns-then-self-other c =
    let mine = c.args.self.now in
    let theirs = c.args.other.now in
    let digits = slice_eq-Decides Decides-eqb mine.digits.now theirs.digits.now c.eq.result c.eq.ensures in
    let marks : mine.marked ≡ theirs.marked = (booleans_Decides mine.marked theirs.marked).0 c.if-self-other.true in (
      λ same.
          ap (λ (m : Bool). integer (marked_bytes m mine.digits.now)) marks ∙ ap (λ (ds : List ℕ). integer (marked_bytes theirs.marked ds)) (digits.0 same),
      λ value. digits.1 (same_value mine.marked theirs.marked mine.digits.now theirs.digits.now mine.canonical theirs.canonical c.are_bytes.ensures c.are_bytes-2.ensures value).1,
    )
