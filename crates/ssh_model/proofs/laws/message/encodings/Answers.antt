use Rattle.ssh_model.specs.Laws.Written.{disconnect_encoded, unimplemented_encoded, service_request_encoded, service_accept_encoded, new_keys_encoded, kex_init_encoded, kex_reply_encoded, success_encoded, pk_ok_encoded, global_request_encoded, request_success_encoded, request_failure_encoded, open_encoded, confirmation_encoded, open_failure_encoded, adjust_encoded, data_message_encoded, extended_data_encoded, eof_encoded, close_encoded, request_encoded, channel_success_encoded, channel_failure_encoded}
use Rattle.ssh_model.proofs.laws.message.encodings.Goals as goal

pub returns : goal.returns
returns c = record {
  disconnect = disconnect_encoded;
  unimplemented = unimplemented_encoded;
  service_request = service_request_encoded;
  service_accept = service_accept_encoded;
  newkeys = new_keys_encoded;
  init = kex_init_encoded;
  reply = kex_reply_encoded;
  success = success_encoded;
  key_ok = pk_ok_encoded;
  global_request = global_request_encoded;
  request_success = request_success_encoded;
  request_failure = request_failure_encoded;
  channel_open = open_encoded;
  confirmation = confirmation_encoded;
  open_failure = open_failure_encoded;
  adjust = adjust_encoded;
  plain_data = data_message_encoded;
  extended_data = extended_data_encoded;
  eof = eof_encoded;
  close = close_encoded;
  request = request_encoded;
  channel_success = channel_success_encoded;
  channel_failure = channel_failure_encoded;
}
