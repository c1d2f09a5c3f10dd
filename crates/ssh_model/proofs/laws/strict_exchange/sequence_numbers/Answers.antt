use Rattle.ssh_model.proofs.Example.Strictness.{in_strict_session_row, own_in_strict_session_row, in_plain_session_row, own_in_plain_session_row, where_one_end_offers_row, count_of_plain_epoch_row, last_number_row, after_the_last_row, unimplemented_row, next_unimplemented_row}
use Rattle.ssh_model.proofs.laws.strict_exchange.sequence_numbers.Goals as goal

pub returns : goal.returns
returns c = record {
  in_strict_session = in_strict_session_row;
  own_in_strict_session = own_in_strict_session_row;
  in_plain_session = in_plain_session_row;
  own_in_plain_session = own_in_plain_session_row;
  where_one_end_offers = where_one_end_offers_row;
  count_of_plain_epoch = count_of_plain_epoch_row;
  last_number = last_number_row;
  after_the_last = after_the_last_row;
  unimplemented = unimplemented_row;
  next_unimplemented = next_unimplemented_row;
}
