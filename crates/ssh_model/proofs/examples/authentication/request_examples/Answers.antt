use Rattle.ssh_model.proofs.Example.Authentication.{accepted_password_row, other_password_row, changed_password_row, other_service_of_request_row, bare_request_row, bare_request_admitted_row, password_not_configured_row, key_alone_is_not_accepted_row, probe_of_known_key_row, probe_of_other_key_row, probe_for_other_service_row, probe_not_configured_row, longest_key_row, longer_key_row, longer_algorithm_row, what_is_signed_row}
use Rattle.ssh_model.proofs.examples.authentication.request_examples.Goals as goal

pub returns : goal.returns
returns c = record {
  accepted_password = accepted_password_row;
  other_password = other_password_row;
  changed_password = changed_password_row;
  other_service_of_request = other_service_of_request_row;
  bare_request = bare_request_row;
  bare_request_admitted = bare_request_admitted_row;
  password_not_configured = password_not_configured_row;
  key_alone_is_not_accepted = key_alone_is_not_accepted_row;
  probe_of_known_key = probe_of_known_key_row;
  probe_of_other_key = probe_of_other_key_row;
  probe_for_other_service = probe_for_other_service_row;
  probe_not_configured = probe_not_configured_row;
  longest_key = longest_key_row;
  longer_key = longer_key_row;
  longer_algorithm = longer_algorithm_row;
  what_is_signed = what_is_signed_row;
}
