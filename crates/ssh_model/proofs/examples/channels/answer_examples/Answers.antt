use Rattle.ssh_model.proofs.Example.ConnectionAnswers.{global_request_taken_row, global_success_taken_row, global_failure_taken_row, open_taken_row, open_taken_at_last_number_row, open_without_place_row, open_without_place_while_blocked_row, confirmation_taken_row, open_failure_taken_row, adjust_taken_row, data_taken_row, extended_data_taken_row, eof_taken_row, close_answered_row, close_after_close_row, close_while_blocked_row, request_taken_row, success_taken_row, failure_taken_row}
use Rattle.ssh_model.proofs.examples.channels.answer_examples.Goals as goal

pub returns : goal.returns
returns c = record {
  global_request_taken = global_request_taken_row;
  global_success_taken = global_success_taken_row;
  global_failure_taken = global_failure_taken_row;
  open_taken = open_taken_row;
  open_taken_at_last_number = open_taken_at_last_number_row;
  open_without_place = open_without_place_row;
  open_without_place_while_blocked = open_without_place_while_blocked_row;
  confirmation_taken = confirmation_taken_row;
  open_failure_taken = open_failure_taken_row;
  adjust_taken = adjust_taken_row;
  data_taken = data_taken_row;
  extended_data_taken = extended_data_taken_row;
  eof_taken = eof_taken_row;
  close_answered = close_answered_row;
  close_after_close = close_after_close_row;
  close_while_blocked = close_while_blocked_row;
  request_taken = request_taken_row;
  success_taken = success_taken_row;
  failure_taken = failure_taken_row;
}
