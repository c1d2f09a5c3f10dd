use Rattle.std.proofs.Common.{◌++◌, refl, subst, sym, take}
use Rattle.ssh_model.specs.Laws.Units.{IsPartialLine}
use Rattle.ssh_packet.specs.LineSteps.{Finds}
use Rattle.ssh_packet.specs.declared.line_reader.Found.TheVariants as found_as
use Rattle.ssh_packet.specs.declared.line_reader.LineStep.TheVariants.{More}
use Rattle.ssh_packet.proofs.LineUnits.{is_begun, goes_on, not_ended}
use Rattle.ssh_packet.proofs.line_reader.LineReader.take.Goals as goal

pub advance-used-requires-clause-buffered : goal.advance-used-requires-clause-buffered
advance-used-requires-clause-buffered c =
    let r = c.self.inside in
    subst (λ l. IsPartialLine l.buffered) (sym c.clear.ensures) (is_begun r.from_server r.others r.line r.filled r.text r.after_cr r.ended c.args.self.now c.self.view_is (sym (c.if-is_some.ensures {u = tt})) c.self.invariant.4)

pub returns-in-More : goal.returns-in-More
returns-in-More c =
    let r = c.self.inside in
    let going = not_ended r.from_server r.others r.line r.filled r.text r.after_cr r.ended c.args.self.now c.self.view_is (sym (c.if-is_some.ensures {u = tt})) in
    let found = subst (λ l. Finds l (l.buffered ++ take c.advance-used.result.0 c.args.bytes.now) found_as.More c.advance-used.new.self) c.clear.ensures (rw c.in-More.is at c.advance-used.ensures.found) in (
      (refl, λ _. tt, goes_on c.args.self.now c.advance-used.new.self c.args.bytes.now c.advance-used.result.0 More going found),
      record {
        used = c.advance-used.ensures.used;
        progress = λ _. c.advance-used.ensures.progress;
        more = λ _. c.advance-used.ensures.more c.in-More.is;
        found = tt;
      },
    )
