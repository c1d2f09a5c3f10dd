use Rattle.ssh_model.proofs.Example.Numbers.{number_before_newkeys_row, number_after_newkeys_row, number_taken_before_newkeys_row, number_taken_after_newkeys_row, number_later_row, number_after_later_newkeys_row, skipped_packet_has_number_row, epoch_before_newkeys_row, epoch_after_newkeys_row, epoch_of_peer_row, epoch_after_later_newkeys_row, no_key_before_newkeys_row, no_key_of_peer_before_newkeys_row, key_after_newkeys_row, key_of_peer_after_newkeys_row, key_lasts_while_rekeying_row, letters_of_keys_row, parts_of_key_row, same_inputs_row, shared_of_first_exchange_row, shared_of_later_exchange_row, lines_of_exchange_row, points_of_exchange_row, points_of_later_exchange_row}
use Rattle.ssh_model.proofs.examples.number_examples.Goals as goal

pub returns : goal.returns
returns c = record {
  number_before_newkeys = number_before_newkeys_row;
  number_after_newkeys = number_after_newkeys_row;
  number_taken_before_newkeys = number_taken_before_newkeys_row;
  number_taken_after_newkeys = number_taken_after_newkeys_row;
  number_later = number_later_row;
  number_after_later_newkeys = number_after_later_newkeys_row;
  skipped_packet_has_number = skipped_packet_has_number_row;
  epoch_before_newkeys = epoch_before_newkeys_row;
  epoch_after_newkeys = epoch_after_newkeys_row;
  epoch_of_peer = epoch_of_peer_row;
  epoch_after_later_newkeys = epoch_after_later_newkeys_row;
  no_key_before_newkeys = no_key_before_newkeys_row;
  no_key_of_peer_before_newkeys = no_key_of_peer_before_newkeys_row;
  key_after_newkeys = key_after_newkeys_row;
  key_of_peer_after_newkeys = key_of_peer_after_newkeys_row;
  key_lasts_while_rekeying = key_lasts_while_rekeying_row;
  letters_of_keys = letters_of_keys_row;
  parts_of_key = parts_of_key_row;
  same_inputs = same_inputs_row;
  shared_of_first_exchange = shared_of_first_exchange_row;
  shared_of_later_exchange = shared_of_later_exchange_row;
  lines_of_exchange = lines_of_exchange_row;
  points_of_exchange = points_of_exchange_row;
  points_of_later_exchange = points_of_later_exchange_row;
}
