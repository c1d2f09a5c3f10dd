use Rattle.ssh_held.proofs.Books as books
use Rattle.ssh_held.proofs.laws.judged_asks.Goals as goal

pub returns : goal.returns
returns c = books.judged_asks
