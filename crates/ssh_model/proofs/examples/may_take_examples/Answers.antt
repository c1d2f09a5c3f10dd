use Rattle.ssh_model.proofs.Example.Taken.{at_first_row, in_first_exchange_row, in_first_exchange_of_server_row, after_first_exchange_row, after_wrong_guess_row, after_skipped_packet_row, after_right_guess_row, by_keyed_server_row, by_keyed_client_row, by_server_after_service_row, by_client_that_asks_for_service_row, by_client_after_service_row, by_client_that_requests_row, by_client_that_probes_row, by_authenticated_client_row, by_authenticated_server_row, by_client_that_rekeys_row, in_later_exchange_row, in_later_exchange_of_server_row, after_later_exchange_row, after_later_wrong_guess_row}
use Rattle.ssh_model.proofs.examples.may_take_examples.Goals as goal

pub returns : goal.returns
returns c = record {
  at_first = at_first_row;
  in_first_exchange = in_first_exchange_row;
  in_first_exchange_of_server = in_first_exchange_of_server_row;
  after_first_exchange = after_first_exchange_row;
  after_wrong_guess = after_wrong_guess_row;
  after_skipped_packet = after_skipped_packet_row;
  after_right_guess = after_right_guess_row;
  by_keyed_server = by_keyed_server_row;
  by_keyed_client = by_keyed_client_row;
  by_server_after_service = by_server_after_service_row;
  by_client_that_asks_for_service = by_client_that_asks_for_service_row;
  by_client_after_service = by_client_after_service_row;
  by_client_that_requests = by_client_that_requests_row;
  by_client_that_probes = by_client_that_probes_row;
  by_authenticated_client = by_authenticated_client_row;
  by_authenticated_server = by_authenticated_server_row;
  by_client_that_rekeys = by_client_that_rekeys_row;
  in_later_exchange = in_later_exchange_row;
  in_later_exchange_of_server = in_later_exchange_of_server_row;
  after_later_exchange = after_later_exchange_row;
  after_later_wrong_guess = after_later_wrong_guess_row;
}
