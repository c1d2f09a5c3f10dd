-- The value of a reader by its parts.
use Rattle.std.proofs.Common.{◌≡◌, ℕ, List, [], Option, None, ap, sym, subst, arith, ◌∙◌}
use Rattle.ssh_model.specs.Protocol.Wire.Packet.{Blocks}
use Rattle.ssh_model.specs.Protocol.Wire.Sealing.{Crypto, blocks_under, tag_under}
use Rattle.ssh_model.specs.Laws.Units.{IsPartial, IsPartial.no_length}
use Rattle.ssh_packet.specs.Reading.{Finds, Reading, empty}
use Rattle.ssh_packet.specs.declared.step.PacketStep.{PacketStep}
use Rattle.ssh_packet.specs.declared.step.PacketStep.TheVariants.{Payload, More, Refused}
use Rattle.ssh_packet.specs.declared.refusal.PacketRefusal.{PacketRefusal}

pub holds_rest : (r : Reading) (rest : List ℕ) → r.rest ≡ rest → r.payload ≡ [] → r.refused ≡ None → r ≡ record empty { rest = rest }
holds_rest r rest e p f =
    ap (λ (x : List ℕ). record { rest = x; payload = r.payload; refused = r.refused }) e
    ∙ ap (λ (x : List ℕ). record { rest = rest; payload = x; refused = r.refused }) p
    ∙ ap (λ (x : Option PacketRefusal). record { rest = rest; payload = []; refused = x }) f

-- ---- between packets, and in one

pub none_begun : (blocks : Blocks) (tag : ℕ) (r : Reading) → r.rest ≡ [] → IsPartial blocks tag r.rest
none_begun blocks tag r e = subst (λ (x : List ℕ). IsPartial blocks tag x) (sym e) (no_length (omega arith))

pub begun_before : (blocks : Blocks) (tag : ℕ) (old new : Reading) → new ≡ old → IsPartial blocks tag old.rest → IsPartial blocks tag new.rest
begun_before blocks tag old new e b = subst (λ (r : Reading). IsPartial blocks tag r.rest) (sym e) b

pub still_begun : {K : Type 0} (c : Crypto K) (key : Option K) (number : ℕ) (bytes : List ℕ) (step : PacketStep PacketRefusal) (new : Reading) → Finds c key number bytes step new → IsPartial (blocks_under c key) (tag_under c key) new.rest
still_begun c key number bytes Payload new f = none_begun (blocks_under c key) (tag_under c key) new (ap (λ (r : Reading). r.rest) f.1)
still_begun c key number bytes More new f = begun_before (blocks_under c key) (tag_under c key) (record empty { rest = bytes }) new f.1 f.0
still_begun c key number bytes (Refused refusal) new f = none_begun (blocks_under c key) (tag_under c key) new (ap (λ (r : Reading). r.rest) f.1)
