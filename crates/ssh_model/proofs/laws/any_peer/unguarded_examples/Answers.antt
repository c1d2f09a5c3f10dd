use Rattle.ssh_model.proofs.Example.AnyPeer.{not_success_from_the_client, not_newkeys_without_a_reply, not_point_of_another_secret, not_kexinit_without_the_marker, not_request_to_an_unproven_host, not_request_in_the_clear, not_extensions_in_the_clear, not_ignore_in_the_exchange, not_number_again}
use Rattle.ssh_model.proofs.laws.any_peer.unguarded_examples.Goals as goal

pub returns : goal.returns
returns c = record {
  success_from_the_client = not_success_from_the_client;
  newkeys_without_a_reply = not_newkeys_without_a_reply;
  point_of_another_secret = not_point_of_another_secret;
  request_to_an_unproven_host = not_request_to_an_unproven_host;
  kexinit_without_the_marker = not_kexinit_without_the_marker;
  request_in_the_clear = not_request_in_the_clear;
  extensions_in_the_clear = not_extensions_in_the_clear;
  ignore_in_the_exchange = not_ignore_in_the_exchange;
  number_again = not_number_again;
}
