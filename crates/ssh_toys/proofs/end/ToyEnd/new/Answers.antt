use Rattle.std.proofs.Common.{IfOk, subst}
use Rattle.ssh_end_machine.specs.Ends.{IsNew, sending_from_line}
use Rattle.ssh_model.specs.Laws.MacOnly.{mac_only}
use Rattle.ssh_transport_machine.specs.Padding.{PadsTo}
use Rattle.ssh_toys.specs.Ends.{MadeIn, layers_of, machine_of, sending_after, sent_of}
use Rattle.ssh_toys.specs.Standard.{cookie_of, gives_byte, secret_of, zeros}
use Rattle.ssh_toys.proofs.end.ToyEnd.new.Goals as goal

pub returns-clause-opened : goal.returns-clause-opened
returns-clause-opened c =
    subst (λ settings. IfOk c.opened.result (λ made. IsNew mac_only c.args.side settings (cookie_of c.args.side) (secret_of c.args.side) (machine_of made) (layers_of made)
    c.args.out.now.items c.opened.new.out.items (sent_of made))) c.in_ok-config.ensures c.opened.ensures.opened

pub returns-clause-padded : goal.returns-clause-padded
returns-clause-padded c =
    subst (λ settings. IfOk c.opened.result (λ made. PadsTo mac_only gives_byte (sending_from_line settings zeros c.args.out.now.items) (sending_after made c.opened.new.out.items)))
    c.in_ok-config.ensures c.opened.ensures.padded

pub returns-clause-placed : goal.returns-clause-placed
returns-clause-placed c =
    subst (λ settings. IfOk c.opened.result (λ made. MadeIn settings (record { cookie = cookie_of c.args.side; secret = secret_of c.args.side }) made c.args.out.now.items c.opened.new.out.items))
    c.in_ok-config.ensures c.opened.ensures.placed
