use Rattle.ssh_model.proofs.Wire.LineExamples.{version_row, late_version_row, comments_row, old_server_row, old_client_row, one_minus_row, no_software_row, other_server_row, many_others_row, other_client_row, lf_row, cr_row, zero_row, longest_row, longer_row, begun_row}
use Rattle.ssh_model.proofs.laws.line.line_examples.Goals as goal

pub returns : goal.returns
returns c = record {
  version = version_row;
  version_after_others = late_version_row;
  comments = comments_row;
  old_version_of_a_server = old_server_row;
  old_version_of_a_client = old_client_row;
  only_one_minus = one_minus_row;
  no_software = no_software_row;
  other_line_of_a_server = other_server_row;
  one_other_line_too_many = many_others_row;
  other_line_of_a_client = other_client_row;
  lf_alone = lf_row;
  cr_alone = cr_row;
  zero_byte = zero_row;
  longest = longest_row;
  longer = longer_row;
  buffered = begun_row;
}
