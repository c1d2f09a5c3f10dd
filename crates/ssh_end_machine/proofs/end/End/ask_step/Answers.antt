use Rattle.std.proofs.Common.{List, ℕ, [], ◌∷◌, Ok, ap, map, sym, subst}
use Rattle.ssh_end_machine.specs.Asking.{Asks, ask_of}
use Rattle.ssh_end_machine.specs.WithChannels.{channels_with, last_channels}
use Rattle.ssh_end_machine.specs.Places.{AskedTo}
use Rattle.ssh_end_machine.specs.Sessions.{AreOf, end_of}
use Rattle.ssh_end_machine.specs.Stands.{StandsAt, state_of}
use Rattle.ssh_end_machine.proofs.WithChannels.{ask_channels}
use Rattle.ssh_end_machine.proofs.end.End.ask_step.Goals as goal

pub returns-in-Ok-clause-channels : goal.returns-in-Ok-clause-channels
returns-in-Ok-clause-channels g c =
    ask_channels _ _ _ _ (ap (λ l. channels_with (map (λ v. v.items) c.ask-done.new.sent.items) (last_channels (c.in-Ok.step.channel ∷ []) l)) c.clear-2.ensures.items)

pub returns-in-Ok-clause-placed : goal.returns-in-Ok-clause-placed
returns-in-Ok-clause-placed g c = λ p history given.
    let place = subst (λ v. StandsAt g.R.EndRole g.R.Exchange.Role p history v) (sym c.self.view_is) given in
    let sent = map (λ v. v.items) c.ask-done.new.sent.items in
    let asks = subst (λ (l : List (List ℕ)). Asks g.R.Exchange.Sealing.Sealing.crypto (g.R.EndRole.signing c.self.inside.role) c.self.inside.transport.machine c.self.inside.layers (ask_of c.args.ask.now) (Ok c.in-Ok.step) c.ask-done.new.transport.machine c.ask-done.new.layers (record { before = c.args.out.now.items; after = c.ask-done.new.out.items; payloads_before = l; payloads_after = sent })) (ap (λ l. map (λ v. v.items) l) c.clear.ensures.items) c.in-Ok.ensures.asks in
    rw c.ask-done.ensures.role (subst (λ v. AskedTo p g.R.Exchange.Role.SIDE (g.R.EndRole.is_of c.self.inside.transport.role c.self.inside.role p) (AreOf p c.ask-done.new.layers) history (state_of v) (ask_of c.args.ask.now) (Ok c.in-Ok.step) c.ask-done.new.transport.machine
    (end_of c.ask-done.new.transport.machine.kept c.ask-done.new.layers) (record { before = c.args.out.now.items; after = c.ask-done.new.out.items; payloads_before = []; payloads_after = sent })) c.self.view_is
    (c.ends_lift.ensures.asked (record { exchange = c.self.inside.transport.role; own = c.self.inside.role }) p history c.self.inside.transport.machine c.self.inside.layers place (ask_of c.args.ask.now) (Ok c.in-Ok.step) c.ask-done.new.transport.machine c.ask-done.new.layers (record { before = c.args.out.now.items; after = c.ask-done.new.out.items; payloads_before = []; payloads_after = sent }) asks c.ask-done.ensures.reading))

pub returns-in_default-clause-placed : goal.returns-in_default-clause-placed
returns-in_default-clause-placed g c = λ p history given.
    let place = subst (λ v. StandsAt g.R.EndRole g.R.Exchange.Role p history v) (sym c.self.view_is) given in
    let sent = map (λ v. v.items) c.ask-done.new.sent.items in
    let asks = subst (λ (l : List (List ℕ)). Asks g.R.Exchange.Sealing.Sealing.crypto (g.R.EndRole.signing c.self.inside.role) c.self.inside.transport.machine c.self.inside.layers (ask_of c.args.ask.now) c.ask-done.result c.ask-done.new.transport.machine c.ask-done.new.layers (record { before = c.args.out.now.items; after = c.ask-done.new.out.items; payloads_before = l; payloads_after = sent })) (ap (λ l. map (λ v. v.items) l) c.clear.ensures.items) c.ask-done.ensures.asks in
    rw c.ask-done.ensures.role (subst (λ v. AskedTo p g.R.Exchange.Role.SIDE (g.R.EndRole.is_of c.self.inside.transport.role c.self.inside.role p) (AreOf p c.ask-done.new.layers) history (state_of v) (ask_of c.args.ask.now) c.ask-done.result c.ask-done.new.transport.machine
    (end_of c.ask-done.new.transport.machine.kept c.ask-done.new.layers) (record { before = c.args.out.now.items; after = c.ask-done.new.out.items; payloads_before = []; payloads_after = sent })) c.self.view_is
    (c.ends_lift.ensures.asked (record { exchange = c.self.inside.transport.role; own = c.self.inside.role }) p history c.self.inside.transport.machine c.self.inside.layers place (ask_of c.args.ask.now) c.ask-done.result c.ask-done.new.transport.machine c.ask-done.new.layers (record { before = c.args.out.now.items; after = c.ask-done.new.out.items; payloads_before = []; payloads_after = sent }) asks c.ask-done.ensures.reading))
