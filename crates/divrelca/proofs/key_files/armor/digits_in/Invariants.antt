use Rattle.std.proofs.Common.{◌≡◌, ◌+◌, Ok, length}
use Rattle.divrelca.specs.PrivateKeys.{digits_after, digits_in}
use Rattle.divrelca.specs.Texts.{lines_of, parts_left}
use Rattle.divrelca.proofs.key_files.armor.digits_in.Given as goal

-- the lines that are left give what all give
abbrev pub invariant-loop-line : goal.invariant-loop-line
invariant-loop-line l = record {
  count : l.number + length (parts_left l.line-iterator) ≡ length (lines_of l.fn.text);
  left : digits_after l.number (Ok l.digits.items) (parts_left l.line-iterator) ≡ digits_in (lines_of l.fn.text);
}
