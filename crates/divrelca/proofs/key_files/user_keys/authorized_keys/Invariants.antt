use Rattle.std.proofs.Common.{◌≡◌, []}
use Rattle.divrelca.specs.Texts.{lines_of, parts_left}
use Rattle.divrelca.specs.UserKeys.{keys_after}
use Rattle.divrelca.proofs.key_files.user_keys.authorized_keys.Given as goal

-- the lines that are left give what all give
abbrev pub invariant-loop-line : goal.invariant-loop-line
invariant-loop-line l = keys_after l.keys.items (parts_left l.line-iterator) ≡ keys_after [] (lines_of l.fn.text)
