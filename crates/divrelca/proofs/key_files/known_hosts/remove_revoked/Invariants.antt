use Rattle.std.proofs.Common.{◌≡◌, ◌+◌, Ok, length}
use Rattle.divrelca.specs.KnownHosts.{kept_on}
use Rattle.divrelca.specs.Lines.{read_lines}
use Rattle.divrelca.specs.Texts.{lines_of, parts_left}
use Rattle.divrelca.proofs.key_files.known_hosts.remove_revoked.Given as goal

-- the lines that are left give what all give
abbrev pub invariant-loop-line : goal.invariant-loop-line
invariant-loop-line l = record {
  count : l.number + length (parts_left l.line-iterator) ≡ length (lines_of l.fn.text);
  left : read_lines kept_on l.number (Ok l.keys.items) (parts_left l.line-iterator) ≡ read_lines kept_on 0 (Ok l.fn.keys.items) (lines_of l.fn.text);
}
