use Rattle.std.proofs.Common.{map, take}
use Rattle.ssh_model.specs.Protocol.Wire.Message.{IsExtensions}
use Rattle.ssh_message.specs.Announced.{extension_of}
use Rattle.ssh_message.proofs.extensions.encoding.encoded.Given as goal

abbrev pub invariant-loop-extension : goal.invariant-loop-extension
invariant-loop-extension l = IsExtensions (map extension_of (take l.extension-index l.extensions)) l.bytes.items
