use Rattle.ssh_model.proofs.Example.Strictness.{at_first_where_offered_row, at_first_without_row, after_ignore_where_offered_row, in_strict_exchange_row, in_strict_exchange_of_server_row, in_plain_exchange_row, in_plain_exchange_of_server_row, where_only_the_client_offers_row, where_only_the_peer_offers_row, after_strict_exchange_row, after_plain_exchange_row, after_plain_wrong_guess_row, after_plain_skipped_packet_row, with_plain_keys_row, with_plain_keys_of_server_row}
use Rattle.ssh_model.proofs.laws.strict_exchange.numbers_by_strictness.Goals as goal

pub returns : goal.returns
returns c = record {
  at_first_where_offered = at_first_where_offered_row;
  at_first_without = at_first_without_row;
  after_ignore_where_offered = after_ignore_where_offered_row;
  in_strict_exchange = in_strict_exchange_row;
  in_strict_exchange_of_server = in_strict_exchange_of_server_row;
  in_plain_exchange = in_plain_exchange_row;
  in_plain_exchange_of_server = in_plain_exchange_of_server_row;
  where_only_the_client_offers = where_only_the_client_offers_row;
  where_only_the_peer_offers = where_only_the_peer_offers_row;
  after_strict_exchange = after_strict_exchange_row;
  after_plain_exchange = after_plain_exchange_row;
  after_plain_wrong_guess = after_plain_wrong_guess_row;
  after_plain_skipped_packet = after_plain_skipped_packet_row;
  with_plain_keys = with_plain_keys_row;
  with_plain_keys_of_server = with_plain_keys_of_server_row;
}
