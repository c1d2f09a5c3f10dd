use Rattle.std.proofs.Common.{ap, rules, sym, ◌∙◌, subst}
use Rattle.ssh_config.specs.Meaning.{settings_of}
use Rattle.ssh_end_machine.specs.Login.{authentication_of}
use Rattle.ssh_end_machine.specs.Sessions.{IsLoginOf}
use Rattle.ssh_end_machine.specs.declared.layers.login.Login.{Login}
use Rattle.ssh_end_machine.proofs.Making.{made_at, new_login_is, new_login_of}
use Rattle.ssh_end_machine.proofs.end.End.new.Goals as goal

pub returns-clause-placed : goal.returns-clause-placed
returns-clause-placed g c = λ p lawful settings parts.
    let side = g.R.Exchange.Role.SIDE in
    let given = settings_of c.args.config in
    let is = c.in_ok-layers.ensures.authentication ∙ c.in_ok-login.ensures in
    made_at (record { opened = c.openings.ensures.opened; run = c.openings.ensures.run; reading = c.new_ends_read.ensures.reading; guards = c.against_any_peer.ensures }) p side _ _ lawful parts
    (record { login = subst (λ (l : Login). IsLoginOf p l) (sym is) (new_login_of p side given settings c.settings_fit.ensures.methods) }) c.args.cookie c.args.secret c.is_material.ensures c.in_ok-transport.transport.machine
    (authentication_of c.in_ok-layers.layers.authentication) c.in_ok-layers.layers.channels (ap authentication_of is ∙ new_login_is side given.tries given.methods) c.in_ok-layers.ensures.channels _ (search rules) g.R.Exchange.Sealing.Sealing.crypto given
    (c.lifts.ensures.crypto c.in_ok-transport.transport.role p (c.has_parts.ensures.exchanges (record { exchange = c.in_ok-transport.transport.role; own = c.of-role.result }) p parts)) settings c.in_ok-transport.ensures.opened
