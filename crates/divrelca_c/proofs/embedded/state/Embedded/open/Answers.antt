use Rattle.divrelca_c.proofs.embedded.state.Embedded.open.Goals as goal

-- nothing waited before
pub returns-clause-placed : goal.returns-clause-placed
returns-clause-placed g c = rw c.new-out.ensures.items at c.in_ok-end.ensures.placed
