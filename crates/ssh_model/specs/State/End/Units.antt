-- How an end answers the next unit of its stream, and a pair of cookie and secret, from its state (own).
use Rattle.std.specs.Prelude.{◌≡◌, ℕ, true, false, None, List, [], ◌∷◌}
use Rattle.ssh_model.specs.declared.side.Side.{Side}
use Rattle.ssh_model.specs.Protocol.Wire.Line.{LineUnit}
use Rattle.ssh_model.specs.Protocol.Wire.Outcome.{Outcome.OtherLine, Outcome.VersionLine, Outcome.RefusedLine, Outcome.Opens}
use Rattle.ssh_model.specs.Protocol.Wire.Outcome.{Outcome.RefusedPacket}
use Rattle.ssh_model.specs.Protocol.Wire.Unit.{PacketUnit}
use Rattle.ssh_model.specs.declared.refusal.Refusal.{Refusal}
use Rattle.ssh_model.specs.Protocol.Sessions.Parties.{Parties}
use Rattle.ssh_model.specs.Protocol.Sessions.Items.{Item, Item.Fed, Item.TookLine, Item.TookOtherLine, Item.Died, Encoded}
use Rattle.ssh_model.specs.Protocol.Sessions.Phases.{is_client}
use Rattle.ssh_model.specs.Protocol.Sessions.Turns.{IsMaterial, take_memory}
use Rattle.ssh_model.specs.State.TransportLayer.Kept.{after_fed, after_line, after_other_line, can_be_fed}
use Rattle.ssh_model.specs.State.TransportLayer.Turns.{SaysWhy, refusal_items}
use Rattle.ssh_model.specs.State.End.State.{EndState}
use Rattle.ssh_model.specs.State.End.Payloads.{TakesPayload}
use Rattle.ssh_model.specs.State.End.Deaths.{CanSay, WouldTake}

-- The items of a unit, the newest first, the bytes that the end puts out, and its state after it.
pub data TakesUnit {K : Type 0} (p : Parties K) (side : Side) (e : EndState K) (unit : List ℕ) : List Item → List ℕ →
    EndState K → Type 0 where
  other_line : (line : List ℕ) → e.transport.lines.found ≡ false →
      LineUnit (is_client e.transport.side) e.transport.lines.others unit (OtherLine line) →
      TakesUnit p side e unit (TookOtherLine line ∷ []) [] (record e { transport = after_other_line e.transport })
  version_line : (line : List ℕ) → e.transport.lines.found ≡ false →
      LineUnit (is_client e.transport.side) e.transport.lines.others unit (VersionLine line) →
      TakesUnit p side e unit (TookLine line ∷ []) [] (record e { transport = after_line line e.transport })
  refused_line : {sent : List Encoded} {more : List ℕ} (refusal : Refusal) (new : EndState K) →
      e.transport.lines.found ≡ false →
      LineUnit (is_client e.transport.side) e.transport.lines.others unit (RefusedLine refusal) →
      SaysWhy p.crypto e.transport refusal sent more → new.transport.dead ≡ true →
      TakesUnit p side e unit (refusal_items refusal None sent) more new
  payload : {items : List Item} {more : List ℕ} {new : EndState K} (payload : List ℕ) →
      e.transport.lines.found ≡ true →
      PacketUnit p.crypto e.transport.taking.key e.transport.taking.number e.transport.taking.count unit
      (Opens payload) → TakesPayload p side e payload items more new → TakesUnit p side e unit items more new
  refused_packet : {sent : List Encoded} {more : List ℕ} (refusal : Refusal) (new : EndState K) →
      e.transport.lines.found ≡ true →
      PacketUnit p.crypto e.transport.taking.key e.transport.taking.number e.transport.taking.count unit
      (RefusedPacket refusal) →
      SaysWhy p.crypto e.transport refusal sent more → new.transport.dead ≡ true →
      TakesUnit p side e unit (refusal_items refusal None sent) more new
  -- Memory fails when something would be sent, or a channel or a key would be made.
  dies : {items : List Item} (payload : List ℕ) (new : EndState K) → e.transport.lines.found ≡ true →
      PacketUnit p.crypto e.transport.taking.key e.transport.taking.number e.transport.taking.count unit
      (Opens payload) → WouldTake p side e payload items → take_memory items ≡ true → new.transport.dead ≡ true →
      TakesUnit p side e unit (Died ∷ []) [] new
  refused_dies : (refusal : Refusal) (reason : ℕ) (said : List ℕ) (new : EndState K) →
      e.transport.lines.found ≡ true →
      PacketUnit p.crypto e.transport.taking.key e.transport.taking.number e.transport.taking.count unit
      (RefusedPacket refusal) → CanSay e.transport refusal reason said → new.transport.dead ≡ true →
      TakesUnit p side e unit (Died ∷ []) [] new

-- The items of a pair of cookie and secret, and the state of the end after it.
pub data TakesPair {K : Type 0} (e : EndState K) (cookie secret : List ℕ) : List Item → EndState K → Type 0 where
  fed : can_be_fed e.transport ≡ true → IsMaterial cookie secret →
      TakesPair e cookie secret (Fed cookie secret ∷ [])
      (record e { transport = after_fed cookie secret e.transport })
  unfed : can_be_fed e.transport ≡ false → TakesPair e cookie secret [] e
