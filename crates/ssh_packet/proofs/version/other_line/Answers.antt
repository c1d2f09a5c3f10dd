use Rattle.ssh_model.specs.Protocol.Wire.Line.{LineIs.other, LineIs.other_from_client, LineIs.too_many_others}
use Rattle.ssh_packet.proofs.version.other_line.Goals as goal
use Rattle.ssh_packet.proofs.version.other_line.Goals.{else-from_server-via-then-from_server+else-others-lt-MOST_OTHER_LINES, else-from_server-via-else-from_server}

pub returns-then-others-lt-MOST_OTHER_LINES : goal.returns-then-others-lt-MOST_OTHER_LINES
returns-then-others-lt-MOST_OTHER_LINES c = λ text is. (other c.if-from_server.true c.if-others-lt-MOST_OTHER_LINES.true is, c.if-others-lt-MOST_OTHER_LINES.true)

pub returns-else-from_server : goal.returns-else-from_server
returns-else-from_server c = λ text is. elim c.else-from_server.branch [
  | else-from_server-via-then-from_server+else-others-lt-MOST_OTHER_LINES w ↦ too_many_others w.if-from_server.true w.if-others-lt-MOST_OTHER_LINES.false is
  | else-from_server-via-else-from_server w ↦ other_from_client w.if-from_server.false is
]
