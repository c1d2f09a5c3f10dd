use Rattle.std.proofs.Common.{◌++◌, List, ap, length, ◌∙◌, map, refl, sym, subst, take, ℕ}
use Rattle.ssh_transport_machine.specs.Padding.{PadsTo}
use Rattle.ssh_transport_machine.specs.PaddingLaws.{pads_then}
use Rattle.ssh_transport_machine.specs.Puts.{Outs}
use Rattle.ssh_transport_machine.specs.State.{buffered_of}
use Rattle.ssh_transport.specs.States.{sending_of}
use Rattle.ssh_transport.specs.Transports.{Fails}
use Rattle.ssh_transport.specs.Units.{Took}
use Rattle.ssh_transport.specs.declared.outcome.TransportFault.{TransportFault}
use Rattle.ssh_transport.specs.declared.outcome.TransportTurn.{TransportTurn}
use Rattle.ssh_end_machine.specs.Units.{UnitNeedsMemory}
use Rattle.ssh_end_machine.proofs.Following.{on_follows}
use Rattle.ssh_end_machine.proofs.Fronts.{front}
use Rattle.ssh_end_machine.proofs.Lacking.{as_fault, at_error, by_fault}
use Rattle.ssh_end_machine.proofs.Leftover.{extends_both, out_extends, ready}
use Rattle.ssh_end_machine.proofs.Placing.{stays}
use Rattle.ssh_end_machine.proofs.end.End.take_step.Goals as goal

pub handle_turn-done-requires-clause-ready : goal.handle_turn-done-requires-clause-ready
handle_turn-done-requires-clause-ready g c =
    let before = c.self.inside.transport in
    let o : Outs = record { before = c.args.out.now.items; after = c.take-used.new.out.items; payloads_before = map (λ v. v.items) c.clear.new.self.items; payloads_after = map (λ v. v.items) c.take-used.new.sent.items } in
    let Taken : TransportTurn → Type 0 = λ t. Took g.R.Exchange.Sealing.Sealing.crypto g.R.Exchange.Role.SIDE (g.R.Exchange.Role.does before.role) before.machine (buffered_of before.machine ++ take c.take-used.result.0 c.args.bytes.now) t c.take-used.new.self.machine o in
    let laws = c.turns_left.ensures in
    ready before.machine c.take-used.new.self.machine o Taken (λ n x. laws.up before.role _ _ n _ _ x) (λ n x. laws.completed before.role _ _ n _ _ x) (λ x alive. (laws.user before.role _ _ _ _ _ x alive).granted refl) c.in_ok-turn.turn (rw c.in_ok-turn.was at c.take-used.ensures.takes).took

pub handle_turn-done-requires-clause-follows : goal.handle_turn-done-requires-clause-follows
handle_turn-done-requires-clause-follows g c =
    let taken = (rw c.in_ok-turn.was at c.take-used.ensures.takes).took in
    on_follows c.self.inside.transport.machine c.take-used.new.self.machine c.self.inside.layers.authentication taken.alive (λ x. (c.turns_left.ensures.user c.self.inside.transport.role _ _ _ _ _ taken x).keeps) c.self.invariant.follows

-- ---- where the transport did nothing

pub returns-in_err-turn-clause-needs_memory : goal.returns-in_err-turn-clause-needs_memory
returns-in_err-turn-clause-needs_memory g c =
    let bytes = buffered_of c.self.inside.transport.machine ++ take c.take-used.result.0 c.args.bytes.now in
    let Lost : TransportFault → Type 0 = λ f. Fails g.R.Exchange.Role g.R.Exchange.Sealing.Sealing.crypto c.self.inside.transport bytes f c.take-used.new.self in
    let fails = at_error Lost c.take-used.result.1 c.in_err-turn.field-0.0 c.in_err-turn.was c.take-used.ensures.fails in
    rw (← c.self.view_is) (as_fault c.from_residual.result c.in_err-turn.field-0.0 c.from_residual.ensures.1 (λ e. record {
      used = c.take-used.result.0;
      most = c.take-used.ensures.used;
      needs_memory = UnitNeedsMemory.by_transport c.take-used.new.self.machine (subst Lost e fails).died;
    }))

pub returns-in_err-turn-clause-placed : goal.returns-in_err-turn-clause-placed
returns-in_err-turn-clause-placed g c =
    let before = c.self.inside.transport in
    let bytes = buffered_of before.machine ++ take c.take-used.result.0 c.args.bytes.now in
    let Lost : TransportFault → Type 0 = λ f. Fails g.R.Exchange.Role g.R.Exchange.Sealing.Sealing.crypto before bytes f c.take-used.new.self in
    let fails = at_error Lost c.take-used.result.1 c.in_err-turn.field-0.0 c.in_err-turn.was c.take-used.ensures.fails in
    rw (← c.self.view_is) (by_fault _ c.from_residual.result c.in_err-turn.field-0.0 c.from_residual.ensures.1
    (λ is p history place. rw c.take-used.ensures.role (record {
      used = c.take-used.result.0;
      most = c.take-used.ensures.used;
      needs_memory = c.ends_lift.ensures.died (record { exchange = before.role; own = c.self.inside.role }) p history before.machine c.self.inside.layers place c.take-used.new.self.machine c.self.inside.layers (subst Lost is fails).died.dead bytes
          (UnitNeedsMemory.by_transport c.take-used.new.self.machine (subst Lost is fails).died);
    }))
    (λ is p history place. rw c.take-used.ensures.role (stays p g.R.Exchange.Role.SIDE (g.R.EndRole.is_of before.role c.self.inside.role p) history before.machine c.take-used.new.self.machine c.self.inside.layers c.self.inside.layers
    (subst Lost is fails).after refl place)))

-- ---- where memory was refused for what is then done

pub returns-in_default-clause-needs_memory : goal.returns-in_default-clause-needs_memory
returns-in_default-clause-needs_memory g c =
    let taken = (rw c.in_ok-turn.was at c.take-used.ensures.takes).took in
    rw (← c.self.view_is) (λ e. record {
      used = c.take-used.result.0;
      most = c.take-used.ensures.used;
      needs_memory = UnitNeedsMemory.by_end c.in_ok-turn.turn c.take-used.new.self.machine _ taken c.in_default.ensures.needs_memory;
    })

pub returns-in_default-clause-placed : goal.returns-in_default-clause-placed
returns-in_default-clause-placed g c =
    let before = c.self.inside.transport in
    let taken = (rw c.in_ok-turn.was at c.take-used.ensures.takes).took in
    rw (← c.self.view_is) (λ p history place. rw (c.handle_turn-done.ensures.role, c.take-used.ensures.role) (record {
      used = c.take-used.result.0;
      most = c.take-used.ensures.used;
      needs_memory = c.ends_lift.ensures.died (record { exchange = before.role; own = c.self.inside.role }) p history before.machine c.self.inside.layers place c.handle_turn-done.new.transport.machine c.handle_turn-done.new.layers c.in_default.ensures.dead
          (buffered_of before.machine ++ take c.take-used.result.0 c.args.bytes.now) (UnitNeedsMemory.by_end c.in_ok-turn.turn c.take-used.new.self.machine _ taken c.in_default.ensures.needs_memory);
    }))

pub returns-in_default-clause-out : goal.returns-in_default-clause-out
returns-in_default-clause-out g c =
    let before = c.self.inside.transport in
    let o : Outs = record { before = c.args.out.now.items; after = c.take-used.new.out.items; payloads_before = map (λ v. v.items) c.clear.new.self.items; payloads_after = map (λ v. v.items) c.take-used.new.sent.items } in
    let Taken : TransportTurn → Type 0 = λ t. Took g.R.Exchange.Sealing.Sealing.crypto g.R.Exchange.Role.SIDE (g.R.Exchange.Role.does before.role) before.machine (buffered_of before.machine ++ take c.take-used.result.0 c.args.bytes.now) t c.take-used.new.self.machine o in
    let laws = c.turns_left.ensures in
    c.truncate.ensures.items ∙ front c.args.out.now.items c.handle_turn-done.new.out.items _ (sym (ap length c.as_slice-start.ensures.value))
    (extends_both c.args.out.now.items c.take-used.new.out.items c.handle_turn-done.new.out.items (out_extends before.machine c.take-used.new.self.machine o Taken (λ n x. laws.up before.role _ _ n _ _ x) (λ n x. laws.completed before.role _ _ n _ _ x) (λ x alive. (laws.user before.role _ _ _ _ _ x alive).granted refl) c.in_ok-turn.turn (rw c.in_ok-turn.was at c.take-used.ensures.takes).took c.in_default.ensures.left) c.in_default.ensures.out)

-- ---- what is put out

pub returns-clause-padded : goal.returns-clause-padded
returns-clause-padded g c =
    let before = c.self.inside.transport in
    let both = pads_then (rw c.in_ok-turn.was at c.take-used.ensures.padded) c.in-Ok.ensures.padded in
    rw (← c.self.view_is) (subst (λ (l : List (List ℕ)). PadsTo g.R.Exchange.Sealing.Sealing.crypto g.R.Exchange.Filler.Filler.gives (record { direction = before.machine.kept.sending; filler = before.filler; bytes = c.args.out.now.items; payloads = l }) (sending_of c.handle_turn-done.new.transport c.handle_turn-done.new.out c.handle_turn-done.new.sent.payloads))
    (ap (λ l. map (λ v. v.items) l) c.clear.ensures.items) both)
