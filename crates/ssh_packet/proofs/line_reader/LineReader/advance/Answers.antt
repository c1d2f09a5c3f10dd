use Rattle.std.proofs.Common.{◌≡◌, ℕ, ◌++◌, length, get_or, take, subst, refl, arith}
use Rattle.ssh_model.specs.Laws.Units.{IsPartialLine}
use Rattle.ssh_packet.specs.declared.line_reader.Found.TheVariants.{More}
use Rattle.ssh_packet.proofs.LineUnits.{added, found_later}
use Rattle.ssh_packet.proofs.line_reader.LineReader.advance.Goals as goal

pub loop-i-preserved : goal.loop-i-preserved
loop-i-preserved c =
    let later = found_later c.args.self.now c.loop-i.self c.step.new.self c.args.bytes.now c.loop-i.i (get_or c.args.bytes.now c.loop-i.i 0) More c.loop-i.invariant.so_far (omega arith) refl c.in-More.ensures in
    record { so_far = later.1; buffered = later.0 }

pub returns-clause-found : goal.returns-clause-found
returns-clause-found c =
    let all : c.loop-i.i ≡ length c.args.bytes.now = omega arith in
    subst (λ (k : ℕ). IsPartialLine (c.args.self.now.buffered ++ take k c.args.bytes.now) × (c.loop-i.self ≡ added c.args.self.now (take k c.args.bytes.now))) all (c.loop-i.invariant.buffered, c.loop-i.invariant.so_far)
