use Rattle.ssh_model.proofs.Example.Strictness.{taken_first_row, taken_first_in_plain_session_row, not_before_newkeys_row, not_after_another_row, not_twice_row, not_without_own_marker_row, not_after_later_newkeys_row, told_row, none_told_row, sent_by_server_row, sent_by_client_row, none_to_announce_row, none_taken_by_peer_row, none_in_later_exchange_row}
use Rattle.ssh_model.proofs.laws.strict_exchange.extensions.Goals as goal

pub returns : goal.returns
returns c = record {
  taken_first = taken_first_row;
  taken_first_in_plain_session = taken_first_in_plain_session_row;
  not_before_newkeys = not_before_newkeys_row;
  not_after_another = not_after_another_row;
  not_twice = not_twice_row;
  not_without_own_marker = not_without_own_marker_row;
  not_after_later_newkeys = not_after_later_newkeys_row;
  told = told_row;
  none_told = none_told_row;
  sent_by_server = sent_by_server_row;
  sent_by_client = sent_by_client_row;
  none_to_announce = none_to_announce_row;
  none_taken_by_peer = none_taken_by_peer_row;
  none_in_later_exchange = none_in_later_exchange_row;
}
