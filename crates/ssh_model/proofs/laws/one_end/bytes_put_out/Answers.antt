use Rattle.ssh_model.proofs.Sessions.BytesOut.{ends_with_line, ends_with_packet}
use Rattle.ssh_model.proofs.laws.one_end.bytes_put_out.Goals as goal

pub returns : goal.returns
returns g c = record { line = ends_with_line; packet = ends_with_packet }
