use Rattle.std.proofs.Common.{◌∙◌, []}
use Rattle.ssh_config.proofs.Lists.{each_is_name}
use Rattle.ssh_config.proofs.texts.names_of.Goals as goal

pub unwrap-requires : goal.unwrap-requires
unwrap-requires c =
    c.new.ensures.there ∙ each_is_name c.args.texts.now c.loop-text.text-index (record { ref_ptr = (0, 0); now = [] }) c.loop-text-test.true c.requires
