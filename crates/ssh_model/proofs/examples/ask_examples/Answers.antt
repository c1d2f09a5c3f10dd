use Rattle.ssh_model.proofs.Example.Asks.{service_row, service_at_server_row, service_before_newkeys_row, second_service_row, requests_row, requests_at_server_row, requests_without_service_row, requests_while_one_waits_row, requests_when_authenticated_row, requests_after_failure_row, requests_after_key_ok_row, long_user_row, too_long_user_row, authenticated_before_too_long_row, long_password_row, too_long_password_row, long_key_row, too_long_key_row, long_key_with_signature_row, too_long_key_with_signature_row, rekey_row, rekey_before_authentication_row, rekey_while_blocked_row, rekey_before_newkeys_is_taken_row, rekey_without_material_row, disconnect_row, long_disconnect_row, disconnect_while_blocked_row}
use Rattle.ssh_model.proofs.examples.ask_examples.Goals as goal

pub returns : goal.returns
returns c = record {
  service = service_row;
  service_at_server = service_at_server_row;
  service_before_newkeys = service_before_newkeys_row;
  second_service = second_service_row;
  requests = requests_row;
  requests_at_server = requests_at_server_row;
  requests_without_service = requests_without_service_row;
  requests_while_one_waits = requests_while_one_waits_row;
  requests_when_authenticated = requests_when_authenticated_row;
  requests_after_failure = requests_after_failure_row;
  requests_after_key_ok = requests_after_key_ok_row;
  long_user = long_user_row;
  too_long_user = too_long_user_row;
  authenticated_before_too_long = authenticated_before_too_long_row;
  long_password = long_password_row;
  too_long_password = too_long_password_row;
  long_key = long_key_row;
  too_long_key = too_long_key_row;
  long_key_with_signature = long_key_with_signature_row;
  too_long_key_with_signature = too_long_key_with_signature_row;
  rekey = rekey_row;
  rekey_before_authentication = rekey_before_authentication_row;
  rekey_while_blocked = rekey_while_blocked_row;
  rekey_before_newkeys_is_taken = rekey_before_newkeys_is_taken_row;
  rekey_without_material = rekey_without_material_row;
  disconnect = disconnect_row;
  long_disconnect = long_disconnect_row;
  disconnect_while_blocked = disconnect_while_blocked_row;
}
