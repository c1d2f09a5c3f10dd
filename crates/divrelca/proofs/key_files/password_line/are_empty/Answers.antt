use Rattle.std.proofs.Common.{rules}
use Rattle.std.proofs.lemmas.Iterator.Search.{all_from_yields_List}
use Rattle.std.proofs.lemmas.Iterator.Splits.{YieldsList-from_slice_split}
use Rattle.divrelca.specs.Passwords.{is_empty}
use Rattle.divrelca.specs.Texts.{is_end}
use Rattle.divrelca.proofs.key_files.password_line.are_empty.Goals as goal

pub returns : goal.returns
returns c =
    all_from_yields_List is_empty _ _ _ c.all.ensures.ran
    (YieldsList-from_slice_split _ (is_end 10) c.args.text.now c.split.ensures.rest c.split.ensures.done c.split.ensures.closure (λ x b q k. search rules))
    (λ x b q k. search rules)
