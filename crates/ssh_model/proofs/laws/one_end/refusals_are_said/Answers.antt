use Rattle.ssh_model.proofs.Sessions.Deaths.{refused_silently, refused_aloud, refused_when_spent}
use Rattle.ssh_model.proofs.laws.one_end.refusals_are_said.Goals as goal

pub returns : goal.returns
returns c = record { silently = refused_silently; aloud = refused_aloud; when_spent = refused_when_spent }
