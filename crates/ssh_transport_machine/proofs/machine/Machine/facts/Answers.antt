use Rattle.std.proofs.Common.{ap, sym}
use Rattle.ssh_model.specs.State.TransportLayer.Kept.{own_offer}
use Rattle.ssh_message.specs.Meaning.{proposal_meaning}
use Rattle.ssh_types.specs.Values.{names}
use Rattle.ssh_transport_machine.proofs.machine.Machine.facts.Goals as goal

pub returns : goal.returns
returns g c = record {
  wrong = c.is_wrong.ensures (own_offer c.args.self.now.kept.settings c.args.self.now.kept.side) (sym c.own_lists-own.ensures);
  strict = c.strict_with.ensures (proposal_meaning c.args.theirs) (sym (ap (λ l. names l.kex) c.requires));
  extensions = rw c.requires at c.extensions_with.ensures;
}
