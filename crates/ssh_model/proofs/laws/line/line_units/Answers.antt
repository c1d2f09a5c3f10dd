use Rattle.ssh_model.proofs.Wire.LineGaps.{line_found}
use Rattle.ssh_model.proofs.Wire.Lines.{line_alone, line_some, line_begun}
use Rattle.ssh_model.proofs.Wire.LineOutcomes.{line_outcome}
use Rattle.ssh_model.proofs.laws.line.line_units.Goals as goal

pub returns : goal.returns
returns c = record {
  stand_alone = λ s n u v w a b. line_alone s n u v w a b;
  have_one_outcome = λ s n u a b. line_outcome s n u a b;
  have_bytes = λ s n a. line_some s n a;
  come_after_what_is_begun = λ s n bytes u v a. line_begun s n bytes u v a;
  leave_no_gap = λ s n bytes. line_found s n bytes;
}
