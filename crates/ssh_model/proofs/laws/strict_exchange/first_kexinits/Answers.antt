use Rattle.ssh_model.proofs.Example.Strictness.{unmarked_where_offered_row, unmarked_without_row, marked_where_offered_row, marked_without_row, marked_and_late_row, marked_and_late_where_required_row, unmarked_and_late_row, late_without_row, late_before_no_common_row, not_strict_before_late_row, no_common_where_unmarked_row}
use Rattle.ssh_model.proofs.laws.strict_exchange.first_kexinits.Goals as goal

pub returns : goal.returns
returns c = record {
  unmarked_where_offered = unmarked_where_offered_row;
  unmarked_without = unmarked_without_row;
  marked_where_offered = marked_where_offered_row;
  marked_without = marked_without_row;
  marked_and_late = marked_and_late_row;
  marked_and_late_where_required = marked_and_late_where_required_row;
  unmarked_and_late = unmarked_and_late_row;
  late_without = late_without_row;
  late_before_no_common = late_before_no_common_row;
  not_strict_before_late = not_strict_before_late_row;
  no_common_where_unmarked = no_common_where_unmarked_row;
}
