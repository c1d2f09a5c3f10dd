-- Packets that are put out, and where their padding comes from.
use Rattle.std.specs.Prelude.{◌≡◌, ℕ, Bool, List, [], ◌∷◌, ◌++◌, map}
use Rattle.std.specs.Global.{Vec}
use Rattle.ssh_model.specs.Protocol.Wire.Line.{line_end}
use Rattle.ssh_model.specs.Protocol.Wire.Sealing.{Crypto}
use Rattle.ssh_model.specs.State.TransportLayer.Directions.{Direction, counted, renewed}
use Rattle.ssh_packet.specs.Writing.{IsPadded}
use Rattle.ssh_packet.specs.Directions.{newkeys}
use Rattle.ssh_transport_machine.specs.State.{State}
use Rattle.ssh_transport_machine.specs.declared.parts.Outgoing.{Outgoing}

-- What an end sends by: the direction, what gives the padding, the bytes put out, and the payloads listed.
pub record Sending (K F : Type 0) : Type 0 where
  pub direction : Direction K
  pub filler : F
  pub bytes : List ℕ
  pub payloads : List (List ℕ)

-- the same of a machine, its filler and its output
abbrev pub sending_by : {K F : Type 0} → State K → Outgoing F → (out : Vec ℕ) → Sending K F
sending_by s sent out = record {
  direction = s.kept.sending;
  filler = sent.filler;
  bytes = out.items;
  payloads = map (λ v. v.items) sent.payloads.items;
}

-- the same once the machine's version line was put out
abbrev pub sending_after_line : {K F : Type 0} → State K → Outgoing F → (out : Vec ℕ) → Sending K F
sending_after_line s sent out = record (sending_by s sent out) { bytes = out.items ++ (s.kept.settings.line ++ line_end) }

-- The direction after a packet with this payload: the packet is counted, and after NEWKEYS the next epoch begins.
pub data Continues {K : Type 0} (old : Direction K) (payload : List ℕ) (new : Direction K) : Type 0 where
  counts : new ≡ counted old → Continues old payload new
  renews : (strict : Bool) (key : K) → payload ≡ newkeys → new ≡ renewed strict key (counted old) →
      Continues old payload new

-- One packet was put out: the payload that is listed for it, with the padding that the filler gave in one call.
pub record PadsPacket {K F : Type 0} (c : Crypto K) (gives : F → List ℕ → F → Type 0) (old new : Sending K F) : Type 0 where
  pub payload : List ℕ
  pub padding : List ℕ
  pub wire : List ℕ
  pub given : gives old.filler padding new.filler
  pub padded : IsPadded c old.direction.key old.direction.number payload padding wire
  pub bytes : new.bytes ≡ old.bytes ++ wire
  pub lists : new.payloads ≡ old.payloads ++ payload ∷ []
  pub continues : Continues old.direction payload new.direction

-- Such packets were put out, one after another, and nothing else was: neither were other bytes, nor was the filler called for
-- something else.
pub data PadsTo {K F : Type 0} (c : Crypto K) (gives : F → List ℕ → F → Type 0) (old : Sending K F) : Sending K F →
    Type 0 where
  none : PadsTo c gives old old
  more : (between new : Sending K F) → PadsTo c gives old between → PadsPacket c gives between new →
      PadsTo c gives old new
