use Rattle.std.proofs.Common.{sym, map}
use Rattle.std.proofs.lemmas.List.{length-map}
use Rattle.ssh_message.specs.Announced.{extension_of}
use Rattle.ssh_message.proofs.Announcing.{owned_again, owned_passes}
use Rattle.ssh_message.proofs.extensions.owned.ExtensionsBuf.new.Goals as goal

pub invariant_of-result : goal.invariant_of-result
invariant_of-result c = record { checked = owned_passes (map extension_of c.args.extensions.now) _ c.in_ok-bytes.bytes.items c.in_ok-bytes.ensures (sym (length-map c.args.extensions.now extension_of)) }

pub returns : goal.returns
returns c = owned_again (map extension_of c.args.extensions.now) _ c.in_ok-bytes.bytes.items c.in_ok-bytes.ensures (sym (length-map c.args.extensions.now extension_of))
