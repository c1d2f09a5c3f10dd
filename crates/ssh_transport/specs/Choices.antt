-- The KEXINIT of the peer that is kept.
use Rattle.std.specs.Prelude.{◌≡◌, true}
use Rattle.ssh_model.specs.State.TransportLayer.Kept.{Transport}
use Rattle.ssh_model.specs.State.TransportLayer.Summary.{is_agreeing}
use Rattle.ssh_transport_machine.specs.Finishing.{HasChoice}

-- Where the peer's next message of an exchange is awaited, its KEXINIT is kept, and there is a choice by it.
pub record IsChoosing {K : Type 0} (s : Transport K) : Type 0 where
  pub choice : is_agreeing s.phase ≡ true → HasChoice s
