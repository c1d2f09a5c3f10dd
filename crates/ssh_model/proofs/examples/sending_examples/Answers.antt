use Rattle.ssh_model.proofs.Example.Sending.{service_sent_row, none_sent_row, password_sent_row, probe_sent_row, signature_sent_row, rekey_sent_row, disconnect_sent_row, open_sent_row, confirm_sent_row, refuse_sent_row, data_sent_row, extended_data_sent_row, adjust_sent_row, eof_sent_row, close_sent_row, request_sent_row, success_sent_row, failure_sent_row, global_request_sent_row, global_success_sent_row, global_failure_sent_row}
use Rattle.ssh_model.proofs.examples.sending_examples.Goals as goal

pub returns : goal.returns
returns c = record {
  service_sent = service_sent_row;
  none_sent = none_sent_row;
  password_sent = password_sent_row;
  probe_sent = probe_sent_row;
  signature_sent = signature_sent_row;
  rekey_sent = rekey_sent_row;
  disconnect_sent = disconnect_sent_row;
  open_sent = open_sent_row;
  confirm_sent = confirm_sent_row;
  refuse_sent = refuse_sent_row;
  data_sent = data_sent_row;
  extended_data_sent = extended_data_sent_row;
  adjust_sent = adjust_sent_row;
  eof_sent = eof_sent_row;
  close_sent = close_sent_row;
  request_sent = request_sent_row;
  success_sent = success_sent_row;
  failure_sent = failure_sent_row;
  global_request_sent = global_request_sent_row;
  global_success_sent = global_success_sent_row;
  global_failure_sent = global_failure_sent_row;
}
