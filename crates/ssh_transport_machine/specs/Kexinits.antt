-- What an end makes of its peer's KEXINIT.
use Rattle.std.specs.Prelude.{◌≡◌, ◌==◌, if◌then◌else◌, None}
use Rattle.ssh_model.specs.Protocol.Wire.Message.{Proposal}
use Rattle.ssh_model.specs.Protocol.Sessions.Refusals.{first_refusal}
use Rattle.ssh_model.specs.State.TransportLayer.Kept.{Transport, becomes_strict, offer_checks, own_offer}
use Rattle.ssh_model.specs.Protocol.Side.{peer}
use Rattle.ssh_model.specs.Protocol.KeyExchange.Exchanges.{has_marker}
use Rattle.ssh_model.specs.Protocol.Sessions.Parties.{extension_marker_of}
use Rattle.ssh_model.specs.Protocol.Sessions.Phases.{is_wrong_guess}
use Rattle.ssh_transport_machine.specs.declared.machine.kexinit.KexinitFacts.{KexinitFacts}

-- what the proposal settles
pub record AreFacts {K : Type 0} (s : Transport K) (theirs : Proposal) (facts : KexinitFacts) : Type 0 where
  pub wrong : facts.wrong ≡ is_wrong_guess theirs (own_offer s.settings s.side)
  pub strict : facts.strict ≡ (if s.taking.epoch == 0 then becomes_strict s theirs else s.strict)
  pub extensions : facts.extensions ≡ (if s.taking.epoch == 0 then has_marker (extension_marker_of (peer s.side)) theirs.kex else s.peer_takes_extensions)

-- Nothing refuses the proposal, and it settles this.
pub record IsFine {K : Type 0} (s : Transport K) (theirs : Proposal) (facts : KexinitFacts) : Type 0 where
  pub fine : first_refusal (offer_checks s theirs) ≡ None
  pub settles : AreFacts s theirs facts
