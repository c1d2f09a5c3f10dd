use Rattle.std.proofs.Common.{ap, sym, refl}
use Rattle.ssh_transport_machine.specs.Padding.{sending_by}
use Rattle.ssh_transport_machine.specs.PaddingLaws.{pads_none, pads_then}
use Rattle.ssh_transport.proofs.asking.ask_disconnect.Goals as goal

pub returns-clause-padded : goal.returns-clause-padded
returns-clause-padded g c = pads_then c.in_ok-answer.ensures.padded (pads_none (sym (ap (λ t. sending_by t c.send_if_numbered.new.sent c.send_if_numbered.new.out) c.die.ensures)))

pub returns-then-description-gt-LONGEST_DESCRIPTION-clause-padded : goal.returns-then-description-gt-LONGEST_DESCRIPTION-clause-padded
returns-then-description-gt-LONGEST_DESCRIPTION-clause-padded g c = pads_none refl
