use Rattle.ssh_model.proofs.WholeEnd.Pair.{asked, delivered, delivered_items, fed}
use Rattle.ssh_model.proofs.laws.pair.turns_are_events.Goals as goal

pub returns : goal.returns
returns g c = record {
  asks = λ p w pair has side ask items more new t. asked p w pair has side ask items more new t;
  feeds = λ p w pair has side cookie secret items more new t. fed p w pair has side cookie secret items more new t;
  delivers = λ p w pair has side bytes last rest new d s. delivered p w pair has side bytes last rest new d s;
  delivered = λ p w pair has side bytes items rest new d s. delivered_items p w pair has side bytes items rest new d s;
}
