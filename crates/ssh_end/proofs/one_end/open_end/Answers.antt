use Rattle.std.proofs.Common.{ap, sym, ◌∙◌, subst, [], ◌∷◌}
use Rattle.ssh_model.specs.Protocol.Sessions.Items.{Item.SentLine}
use Rattle.ssh_config.specs.Meaning as config
use Rattle.ssh_transport_machine.specs.Padding.{PadsTo}
use Rattle.ssh_end_machine.specs.Ends.{sending_from_line, sending_to}
use Rattle.ssh_end.specs.TwoEnds.Recording.{Adds}
use Rattle.ssh_end.specs.TwoEnds.Playing.{OpensAs}
use Rattle.ssh_end.proofs.TwoEnds.Opening.{begins_with_nothing, opens}
use Rattle.ssh_end.proofs.one_end.open_end.Goals as goal

pub returns-clause-opens : goal.returns-clause-opens
returns-clause-opens g c =
    let ends = g.R.EndRole in
    let side = g.R.Exchange.Role.SIDE in
    subst (λ t. OpensAs ends side (config.settings_of t.0) (record { cookie = t.3; secret = t.4 }) c.in_ok-end.end c.args.log.now.items c.recorded.new.log.items c.args.out.now.items c.new.new.out.items) c.into_parts-config.ensures
    (subst (λ e. OpensAs ends side (config.settings_of c.into_parts-config.result.0) (record { cookie = c.into_parts-config.result.3; secret = c.into_parts-config.result.4 }) e c.args.log.now.items c.recorded.new.log.items c.args.out.now.items c.new.new.out.items) (sym c.in_ok-end.ensures.same)
    (λ p lawful settings parts. opens p side _ _ c.args.log.now.items c.record_line.new.log.items c.recorded.new.log.items c.args.out.now.items c.new.new.out.items c.in_ok-opened.opened.sent _
    (c.in_ok-opened.ensures.placed p lawful settings parts)
    (subst (λ l. Adds side (SentLine l ∷ []) c.args.log.now.items c.record_line.new.log.items) (c.line.ensures.line ∙ sym (ap (λ s. s.line) settings)) (rw c.SIDE-side.ensures at c.in_ok-record_line.ensures.records))
    (rw c.SIDE-side.ensures at c.in_ok-end.ensures.records) c.in_ok-opened.ensures.channels (begins_with_nothing _ _ _ _ _ c.in_ok-opened.opened.machine _ c.in_ok-opened.ensures.opened.opened)))

pub returns-clause-padded : goal.returns-clause-padded
returns-clause-padded g c =
    subst (λ t. PadsTo g.R.Exchange.Sealing.Sealing.crypto g.R.Exchange.Filler.Filler.gives (sending_from_line (config.settings_of t.0) (g.R.Exchange.Supplied.filler_of t.1) c.args.out.now.items) (sending_to c.in_ok-end.end c.new.new.out.items)) c.into_parts-config.ensures
    (subst (λ e. PadsTo g.R.Exchange.Sealing.Sealing.crypto g.R.Exchange.Filler.Filler.gives (sending_from_line (config.settings_of c.into_parts-config.result.0) (g.R.Exchange.Supplied.filler_of c.into_parts-config.result.1) c.args.out.now.items) (sending_to e c.new.new.out.items)) (sym c.in_ok-end.ensures.same) c.in_ok-opened.ensures.padded)
