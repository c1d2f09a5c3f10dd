use Rattle.ssh_message.proofs.Encodings.{name_short, value_short, written_more}
use Rattle.ssh_message.proofs.extensions.encoding.encoded.Goals as goal

pub put_string-requires : goal.put_string-requires
put_string-requires c = name_short c.args.extensions.now c.loop-extension.extension-index _ c.loop-extension-test.true c.requires

pub put_string-requires-in-loop-extension : goal.put_string-requires-in-loop-extension
put_string-requires-in-loop-extension c = value_short c.args.extensions.now c.loop-extension.extension-index _ c.loop-extension-test.true c.requires

pub loop-extension-preserved : goal.loop-extension-preserved
loop-extension-preserved c =
    written_more c.args.extensions.now c.loop-extension.extension-index _ c.loop-extension-test.true c.loop-extension.invariant c.in_ok-put_string.ensures.written c.in_ok-put_string-2.ensures.written
