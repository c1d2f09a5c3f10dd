use Rattle.std.proofs.Common.{IfOk, subst}
use Rattle.ssh_model.specs.Laws.MacOnly.{mac_only}
use Rattle.ssh_transport.specs.States.{sending_from_line}
use Rattle.ssh_transport_machine.specs.Opening.{IsOpened}
use Rattle.ssh_transport_machine.specs.Padding.{PadsTo}
use Rattle.ssh_transport_machine.specs.Puts.{listed_outs}
use Rattle.ssh_toys.specs.Standard.{cookie_of, gives_byte, secret_of, zeros}
use Rattle.ssh_toys.specs.Transports.{machine_of, sending_in}
use Rattle.ssh_toys.proofs.transport.ToyTransport.new.Goals as goal

pub returns-clause-opened : goal.returns-clause-opened
returns-clause-opened c =
    subst (λ settings. IfOk c.opened.result (λ made. IsOpened mac_only settings c.args.side (cookie_of c.args.side) (secret_of c.args.side) (machine_of made)
    (listed_outs c.args.out.now c.opened.new.out c.args.sent.now c.opened.new.sent))) c.in_ok-config.ensures.kept c.opened.ensures.opened

pub returns-clause-padded : goal.returns-clause-padded
returns-clause-padded c =
    subst (λ settings. IfOk c.opened.result (λ made. PadsTo mac_only gives_byte (sending_from_line settings zeros c.args.out.now c.args.sent.now) (sending_in made c.opened.new.out c.opened.new.sent)))
    c.in_ok-config.ensures.kept c.opened.ensures.padded
