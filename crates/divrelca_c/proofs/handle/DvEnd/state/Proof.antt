use Rattle.divrelca_c.proofs.HandleWalks.{lends}
use Rattle.divrelca_c.proofs.EndHandle.{end_handle}
use Rattle.divrelca_c.specs.contracts.handle.DvEnd.state as f
use Rattle.divrelca_c.proofs.handle.DvEnd.state.Code as code
use Rattle.divrelca_c.proofs.handle.DvEnd.state.Statement.{statement}

pub state_spec : {M : Type 1} → statement M
state_spec 𝓤 𝓛 𝓜 𝓡 wired = lends end_handle 𝓛 𝓜 𝓡 f.Key.name (code.unfolded 𝓤 𝓛.H 𝓜 𝓡 wired)
