use Rattle.ssh_model.specs.Laws.Written.{no_method_encoded, password_encoded, probe_encoded, sign_encoded}
use Rattle.ssh_model.proofs.laws.message.request_encodings.Goals as goal

pub returns : goal.returns
returns c = record {
  none = no_method_encoded;
  password = password_encoded;
  probe = probe_encoded;
  sign = sign_encoded;
}
