use Rattle.divrelca_c.proofs.OfEmbedded.NewEnds.{is_made}
use Rattle.divrelca_c.proofs.embedded.opening.open_server.Goals as goal

pub returns-clause-made : goal.returns-clause-made
returns-clause-made c =
    let is = c.in_ok-open.ensures in
    is_made is.opened is.padded is.placed is.step is.used is.unwritten is.waiting is.nobody is.not_all is.flows is.ahead c.in_ok-config.ensures.settings c.server_parts-parts.ensures.filler
