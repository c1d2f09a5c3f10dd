-- What an end puts out.
use Rattle.std.specs.Prelude.{◌≡◌, ℕ, ◌<◌, true, List, [], ◌∷◌, ◌++◌, map}
use Rattle.std.specs.Global.{Vec}
use Rattle.ssh_model.specs.Protocol.Wire.Message.{Msg}
use Rattle.ssh_model.specs.Protocol.Wire.Sealing.{Crypto, IsSealed}
use Rattle.ssh_model.specs.Protocol.Sessions.Items.{Encoded, Encoded.EncodedBy}
use Rattle.ssh_model.specs.declared.refusal.Refusal.{Refusal}
use Rattle.ssh_model.specs.State.TransportLayer.Directions.{Direction}
use Rattle.ssh_model.specs.State.TransportLayer.Kept.{Transport}
use Rattle.ssh_model.specs.State.TransportLayer.Turns.{PutsPackets, SaysWhy, counted_by}
use Rattle.ssh_transport_machine.specs.declared.parts.Outgoing.{Outgoing}
use Rattle.ssh_model.specs.Protocol.Bounds.{numbers_of_epoch}

-- The bytes put out, and the payloads listed, before a call and after it.
pub record Outs : Type 0 where
  pub before : List ℕ
  pub after : List ℕ
  pub payloads_before : List (List ℕ)
  pub payloads_after : List (List ℕ)

-- what a call put at the end of bytes and of a list of payloads, each as it was before the call and after it
abbrev pub listed_outs : (old new : Vec ℕ) → (sent resent : Vec (Vec ℕ)) → Outs
listed_outs old new sent resent = record {
  before = old.items;
  after = new.items;
  payloads_before = map (λ payload. payload.items) sent.items;
  payloads_after = map (λ payload. payload.items) resent.items;
}

-- the same where the list stands with the filler
abbrev pub outs : {F : Type 0} → (old new : Vec ℕ) → (sent resent : Outgoing F) → Outs
outs old new sent resent = listed_outs old new sent.payloads resent.payloads

-- the payloads of messages, the oldest first
abbrev pub payloads_of : List Encoded → List (List ℕ)
payloads_of [] = []
payloads_of (EncodedBy message payload ∷ l) = payloads_of l ++ payload ∷ []

-- The payload was put out as the next packet of the direction, and listed.
pub record PutsPayload {K : Type 0} (c : Crypto K) (direction : Direction K) (payload : List ℕ) (o : Outs) : Type 0 where
  pub left : direction.count < numbers_of_epoch
  pub wire : List ℕ
  pub sealed : IsSealed c direction.key direction.number payload wire
  pub parts : o.after ≡ o.before ++ wire
  pub lists : o.payloads_after ≡ o.payloads_before ++ payload ∷ []

-- These messages were, the newest first.
pub record Puts {K : Type 0} (c : Crypto K) (direction : Direction K) (l : List Encoded) (o : Outs) : Type 0 where
  pub more : List ℕ
  pub packets : PutsPackets c direction l more
  pub parts : o.after ≡ o.before ++ more
  pub lists : o.payloads_after ≡ o.payloads_before ++ payloads_of l

-- A message was, by a payload that encodes it.
pub record Sends {K : Type 0} (c : Crypto K) (direction : Direction K) (message : Msg) (o : Outs) : Type 0 where
  pub payload : List ℕ
  pub puts : Puts c direction (EncodedBy message payload ∷ []) o

-- The peer was refused: why was said, or nothing, and the end is over. All else stays as it was, except for the number of what
-- was said.
pub record Refuses {K : Type 0} (c : Crypto K) (old : Transport K) (refusal : Refusal) (new : Transport K) (o : Outs) : Type 0 where
  pub said : List Encoded
  pub more : List ℕ
  pub says : SaysWhy c old refusal said more
  pub parts : o.after ≡ o.before ++ more
  pub lists : o.payloads_after ≡ o.payloads_before ++ payloads_of said
  pub after : new ≡ record old { sending = counted_by said old.sending; dead = true }
