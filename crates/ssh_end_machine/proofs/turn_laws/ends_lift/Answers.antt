use Rattle.std.proofs.Common.{subst, sym}
use Rattle.ssh_model.specs.Protocol.Wire.Sealing.{Crypto}
use Rattle.ssh_transport.specs.Units.{Died, Took}
use Rattle.ssh_transport_machine.specs.State.{dead_state}
use Rattle.ssh_transport.specs.declared.outcome.TransportTurn.TheVariants as outcome
use Rattle.ssh_end_machine.specs.RoleValues.{RoleValue}
use Rattle.ssh_end_machine.proofs.Lifting.{lifts}
use Rattle.ssh_end_machine.proofs.turn_laws.ends_lift.Goals as goal

pub returns : goal.returns
returns g c =
    let X = g.R.Exchange.Role in
    let crypto = g.R.Exchange.Sealing.Sealing.crypto in
    lifts (record {
      places = record {
        guards = c.against_any_peer.ensures;
        normal = c.identified.ensures.normal;
        goes_on = c.unit_is_one_turn.ensures.run;
        dies = c.deaths.ensures.units;
        asks_on = c.ask_is_one_turn.ensures.run;
      };
      turning = record {
        layered = c.transport_turns.ensures.payload;
        over = c.transport_turns.ensures.payload_over;
        version = c.unit_turns.ensures.version;
        other = c.unit_turns.ensures.other;
        refused_line = c.unit_turns.ensures.refused_line;
        refused_packet = c.unit_turns.ensures.refused_packet;
        opened = c.unit_turns.ensures.opened;
        taken = c.payload_is_one_turn.ensures;
        ended = c.exchange_ends.ensures.ended;
        given = c.exchange_ends.ensures.given;
        settled = c.owed_replies.ensures;
        named = c.peer_numbers.ensures;
        packets_begun = c.waiting.ensures.packets;
        lines_begun = c.waiting.ensures.lines;
      };
      reading = record {
        one = c.stream_units.ensures.have_one_outcome;
        lines = c.unit_turns-2.ensures.lines;
        packets = c.unit_turns-2.ensures.packets;
      };
      dying = record {
        taken = c.unit_is_one_turn.ensures.taken;
        settled = c.owed_replies.ensures;
        numbers = c.kept_by_one_end.ensures.numbers;
      };
      server_facts = c.facts_told.ensures.server;
      opened = c.identified.ensures.opened;
    }) X.SIDE crypto (λ (w : RoleValue _ _) p. g.R.EndRole.is_of w.exchange w.own p) _ _ _ c.has_parts.ensures _ _ (λ role p is. c.lifts.ensures.crypto role.exchange p is)
    (λ role p is. record {
      taken = λ history old sums bytes given new o x. c.units_taken.ensures.taken role.exchange p is history old sums bytes given new o
          (subst (λ (w : Crypto _). Took w X.SIDE (X.does role.exchange) old bytes given new o) (c.lifts.ensures.crypto role.exchange p is) x);
      died = λ history old sums bytes new x. c.units_taken.ensures.died role.exchange p is history old sums bytes new
          (subst (λ (w : Crypto _). Died w X.SIDE (X.needs_memory role.exchange) old bytes new) (c.lifts.ensures.crypto role.exchange p is) x);
      completed = λ old bytes choice new o x. c.turns_left.ensures.completed role.exchange old bytes choice new o
          (subst (λ (w : Crypto _). Took w X.SIDE (X.does role.exchange) old bytes (outcome.Completed choice) new o) (c.lifts.ensures.crypto role.exchange p is) x);
      due = λ old bytes choice new o x.
          subst (λ (w : Crypto _). Died w X.SIDE (X.needs_memory role.exchange) old bytes (dead_state old)) (sym (c.lifts.ensures.crypto role.exchange p is))
          (c.turns_left.ensures.due role.exchange old bytes choice new o
          (subst (λ (w : Crypto _). Took w X.SIDE (X.does role.exchange) old bytes (outcome.Completed choice) new o) (c.lifts.ensures.crypto role.exchange p is) x));
      shown = λ old new o own given x. c.lifts.ensures.shown role.exchange old new o own given x;
      leaves = λ old new o own given x. c.lifts.ensures.leaves role.exchange old new o own given x;
    })
