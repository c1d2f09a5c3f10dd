use Rattle.divrelca_c.proofs.OfEmbedded.Asked.{name_noted}
use Rattle.divrelca_c.proofs.embedded.noted.Noted.try_add.Goals as goal

pub returns : goal.returns
returns c = name_noted c.args.self.now c.push.new.self c.in_ok-name.name c.args.user.now c.in_ok-push.ensures.pushed c.push.ensures.all c.in_ok-name.ensures
