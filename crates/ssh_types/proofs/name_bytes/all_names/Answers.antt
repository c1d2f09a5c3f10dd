use Rattle.std.proofs.Common.{rules}
use Rattle.std.proofs.lemmas.Iterator.Search.{all_from_yields_List}
use Rattle.std.proofs.lemmas.Iterator.Splits.{YieldsList-from_slice_split}
use Rattle.ssh_model.specs.Protocol.Wire.DataTypes.{is_comma, is_name}
use Rattle.ssh_types.proofs.name_bytes.all_names.Goals as goal

pub returns : goal.returns
returns c =
    all_from_yields_List is_name _ _ _ c.all.ensures.ran
    (YieldsList-from_slice_split _ is_comma c.args.text.now c.split.ensures.rest c.split.ensures.done c.split.ensures.closure (λ x b q k. search rules))
    (λ x b q k. search rules)
