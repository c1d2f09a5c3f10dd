-- Packets that are put out with the padding that a filler gave, in a call of a transport.
use Rattle.std.proofs.Common.{ℕ, List, Ok, Err}
use Rattle.std.specs.Prelude.{OnOk, Result}
use Rattle.ssh_model.specs.Protocol.Wire.Sealing.{Crypto}
use Rattle.ssh_transport_machine.specs.Padding.{PadsTo, Sending}
pub use Rattle.ssh_transport_machine.specs.PaddingLaws.{pads_none, pads_then}

-- some packets, and others by a call after them, where it did something
pub pads_after : {K F A E : Type 0} (c : Crypto K) (gives : F → List ℕ → F → Type 0) (old between new : Sending K F)
    (done : Result A E) → PadsTo c gives old between → OnOk done (PadsTo c gives between new) → OnOk done (PadsTo c gives old new)
pads_after c gives old between new (Ok x) first rest = pads_then first rest
pads_after c gives old between new (Err e) first rest = tt
