use Rattle.ssh_model.proofs.Wire.Units.{reading_waits, reading_begun}
use Rattle.ssh_model.proofs.laws.stream.waits_where_begun.Goals as goal

pub returns : goal.returns
returns g c = record {
  begun_waits = λ laws h bytes. reading_waits g.E.StreamEnd.crypto laws g.E.StreamEnd.stage g.E.StreamEnd.after g.E.StreamEnd.is_dead h bytes;
  waits_begun = λ laws h bytes. reading_begun g.E.StreamEnd.crypto laws g.E.StreamEnd.stage g.E.StreamEnd.after g.E.StreamEnd.is_dead h bytes;
}
