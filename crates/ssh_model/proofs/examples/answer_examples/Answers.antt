use Rattle.ssh_model.proofs.Example.Answers.{disconnect_row, ignore_row, unimplemented_row, debug_row, first_unknown_row, second_unknown_row, unknown_after_skipped_packet_row, unknown_while_blocked_row, service_request_row, service_accept_row, first_kexinit_at_server_row, first_kexinit_at_client_row, kexinit_answered_at_server_row, kexinit_answered_at_client_row, kexinit_crossing_at_client_row, kexinit_crossing_at_server_row, exchange_at_server_row, exchange_at_client_row, owed_reply_of_server_row, owed_reply_of_client_row, newkeys_of_peer_row, right_password_row, right_signature_row, known_key_row, wrong_password_row, request_after_success_row, failed_request_row, accepted_request_row, shown_banner_row, good_key_row}
use Rattle.ssh_model.proofs.examples.answer_examples.Goals as goal

pub returns : goal.returns
returns c = record {
  disconnect = disconnect_row;
  ignore = ignore_row;
  unimplemented = unimplemented_row;
  debug = debug_row;
  first_unknown = first_unknown_row;
  second_unknown = second_unknown_row;
  unknown_after_skipped_packet = unknown_after_skipped_packet_row;
  unknown_while_blocked = unknown_while_blocked_row;
  service_request = service_request_row;
  service_accept = service_accept_row;
  first_kexinit_at_server = first_kexinit_at_server_row;
  first_kexinit_at_client = first_kexinit_at_client_row;
  kexinit_answered_at_server = kexinit_answered_at_server_row;
  kexinit_answered_at_client = kexinit_answered_at_client_row;
  kexinit_crossing_at_client = kexinit_crossing_at_client_row;
  kexinit_crossing_at_server = kexinit_crossing_at_server_row;
  exchange_at_server = exchange_at_server_row;
  exchange_at_client = exchange_at_client_row;
  owed_reply_of_server = owed_reply_of_server_row;
  owed_reply_of_client = owed_reply_of_client_row;
  newkeys_of_peer = newkeys_of_peer_row;
  right_password = right_password_row;
  right_signature = right_signature_row;
  known_key = known_key_row;
  wrong_password = wrong_password_row;
  request_after_success = request_after_success_row;
  failed_request = failed_request_row;
  accepted_request = accepted_request_row;
  shown_banner = shown_banner_row;
  good_key = good_key_row;
}
