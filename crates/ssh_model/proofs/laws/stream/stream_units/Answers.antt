use Rattle.ssh_model.proofs.Wire.Units.{unit_found, unit_alone, unit_outcome, unit_some, unit_begun}
use Rattle.ssh_model.proofs.laws.stream.stream_units.Goals as goal

pub returns : goal.returns
returns g c = record {
  stand_alone = λ k s u v w a b laws. unit_alone k s u v w a b laws;
  have_one_outcome = λ k s u a b laws. unit_outcome k s u a b laws;
  have_bytes = λ k s a laws. unit_some k s a laws;
  come_after_what_is_begun = λ k s bytes u v a laws. unit_begun k s bytes u v a laws;
  leave_no_gap = λ k s bytes laws fits are. unit_found k s bytes laws fits are;
}
