use Rattle.std.proofs.Common.{◌≡◌, ◌+◌, Ok, length, option_copied}
use Rattle.divrelca.specs.KnownHosts.{found_in, found_on}
use Rattle.divrelca.specs.Lines.{read_lines}
use Rattle.divrelca.specs.Texts.{lines_of, parts_left}
use Rattle.divrelca.proofs.key_files.known_hosts.found_in.Given as goal

-- the lines that are left give what all give
abbrev pub invariant-loop-line : goal.invariant-loop-line
invariant-loop-line l = record {
  count : l.number + length (parts_left l.line-iterator) ≡ length (lines_of l.fn.text);
  left : read_lines (found_on (option_copied l.fn.host)) l.number (Ok l.keys.items) (parts_left l.line-iterator) ≡ found_in l.fn.text (option_copied l.fn.host);
}
