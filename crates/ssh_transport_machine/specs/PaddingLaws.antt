-- Laws of packets that are put out with the padding that a filler gave: none, one, and some after others.
use Rattle.std.proofs.Common.{◌≡◌, ℕ, List, subst}
use Rattle.ssh_model.specs.Protocol.Wire.Sealing.{Crypto}
use Rattle.ssh_transport_machine.specs.Padding.{PadsPacket, PadsTo, PadsTo.more, PadsTo.none, Sending}

-- no packet: all is as it was
pub pads_none : {K F : Type 0} {c : Crypto K} {gives : F → List ℕ → F → Type 0} {old new : Sending K F} → old ≡ new →
    PadsTo c gives old new
pads_none {c} {gives} {old} same = subst (λ new. PadsTo c gives old new) same none

-- one packet alone
pub pads_once : {K F : Type 0} {c : Crypto K} {gives : F → List ℕ → F → Type 0} {old new : Sending K F} →
    PadsPacket c gives old new → PadsTo c gives old new
pads_once packet = more _ _ none packet

-- some packets, and then others
pub pads_then : {K F : Type 0} {c : Crypto K} {gives : F → List ℕ → F → Type 0} {old between new : Sending K F} →
    PadsTo c gives old between → PadsTo c gives between new → PadsTo c gives old new
pads_then first none = first
pads_then first (more middle last rest packet) = more middle last (pads_then first rest) packet
