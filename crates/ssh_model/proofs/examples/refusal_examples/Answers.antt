use Rattle.ssh_model.proofs.Example.Refusals.{service_row, other_service_row, accepted_service_row, other_accepted_service_row, first_kexinit_row, no_marker_row, marker_of_other_role_row, no_marker_before_no_common_row, no_common_method_row, no_common_host_key_row, no_common_encryption_row, no_common_encryption_back_row, no_common_mac_row, no_common_mac_back_row, no_common_compression_row, no_common_compression_back_row, other_languages_row, later_kexinit_row, later_kexinit_with_marker_row, no_material_row, no_common_before_no_material_row, material_in_use_row, point_row, short_point_row, long_point_row, point_that_shares_nothing_row, reply_row, signature_of_other_point_row, bad_point_before_bad_host_row, long_point_of_reply_row, other_host_key_row, other_signature_row, tries_left_row, no_tries_left_row, right_after_tries_row, good_probe_after_tries_row, bad_probe_after_tries_row, bare_request_after_tries_row, new_password_after_tries_row, bad_signature_after_tries_row, other_method_after_tries_row, other_service_after_tries_row, authenticated_after_tries_row, free_of_refusal_row, unknown_number_row}
use Rattle.ssh_model.proofs.examples.refusal_examples.Goals as goal

pub returns : goal.returns
returns c = record {
  service = service_row;
  other_service = other_service_row;
  accepted_service = accepted_service_row;
  other_accepted_service = other_accepted_service_row;
  first_kexinit = first_kexinit_row;
  no_marker = no_marker_row;
  marker_of_other_role = marker_of_other_role_row;
  no_marker_before_no_common = no_marker_before_no_common_row;
  no_common_method = no_common_method_row;
  no_common_host_key = no_common_host_key_row;
  no_common_encryption = no_common_encryption_row;
  no_common_encryption_back = no_common_encryption_back_row;
  no_common_mac = no_common_mac_row;
  no_common_mac_back = no_common_mac_back_row;
  no_common_compression = no_common_compression_row;
  no_common_compression_back = no_common_compression_back_row;
  other_languages = other_languages_row;
  later_kexinit = later_kexinit_row;
  later_kexinit_with_marker = later_kexinit_with_marker_row;
  no_material = no_material_row;
  no_common_before_no_material = no_common_before_no_material_row;
  material_in_use = material_in_use_row;
  point = point_row;
  short_point = short_point_row;
  long_point = long_point_row;
  point_that_shares_nothing = point_that_shares_nothing_row;
  reply = reply_row;
  signature_of_other_point = signature_of_other_point_row;
  bad_point_before_bad_host = bad_point_before_bad_host_row;
  long_point_of_reply = long_point_of_reply_row;
  other_host_key = other_host_key_row;
  other_signature = other_signature_row;
  tries_left = tries_left_row;
  no_tries_left = no_tries_left_row;
  right_after_tries = right_after_tries_row;
  good_probe_after_tries = good_probe_after_tries_row;
  bad_probe_after_tries = bad_probe_after_tries_row;
  bare_request_after_tries = bare_request_after_tries_row;
  new_password_after_tries = new_password_after_tries_row;
  bad_signature_after_tries = bad_signature_after_tries_row;
  other_method_after_tries = other_method_after_tries_row;
  other_service_after_tries = other_service_after_tries_row;
  authenticated_after_tries = authenticated_after_tries_row;
  free_of_refusal = free_of_refusal_row;
  unknown_number = unknown_number_row;
}
