-- Packets that are put out with the padding that a filler gave.
use Rattle.std.proofs.Common.{◌≡◌, ◌∙◌, ℕ, List, ◌∷◌, [], ◌++◌, ap, map, subst}
use Rattle.std.proofs.lemmas.List.{map-append}
use Rattle.std.specs.Global.{Vec}
use Rattle.ssh_model.specs.Protocol.Wire.Sealing.{Crypto}
use Rattle.ssh_packet.specs.Writing.{IsPadded, Pads}
use Rattle.ssh_transport_machine.specs.Padding.{Continues, PadsTo, Sending}
use Rattle.ssh_transport_machine.specs.PaddingLaws.{pads_once}

-- the packet that a direction put out
pub pads_sent : {K F : Type 0} {c : Crypto K} {gives : F → List ℕ → F → Type 0} (old new : Sending K F) → (shown payload : List ℕ) →
    shown ≡ payload → Pads c old.direction.key old.direction.number shown (λ padding. gives old.filler padding new.filler) old.bytes new.bytes →
    new.payloads ≡ old.payloads ++ payload ∷ [] → Continues old.direction payload new.direction → PadsTo c gives old new
pads_sent {c} {gives} old new shown payload same pads lists continues = pads_once (record {
  payload = payload;
  padding = pads.padding;
  wire = pads.writes.bytes;
  given = pads.given;
  padded = subst (λ p. IsPadded c old.direction.key old.direction.number p pads.padding pads.writes.bytes) same pads.writes.meets;
  bytes = pads.writes.parts;
  lists = lists;
  continues = continues;
})

-- the payload that is listed then
pub listed_more : (old between new : List (Vec ℕ)) (last : Vec ℕ) {payload : List ℕ} → between ≡ old → new ≡ between ++ last ∷ [] →
    last.items ≡ payload → map (λ v. v.items) new ≡ map (λ v. v.items) old ++ payload ∷ []
listed_more old between new last same pushed is =
    ap (map (λ v. v.items)) pushed ∙ map-append (λ v. v.items) between (last ∷ [])
    ∙ ap (λ l. map (λ v. v.items) l ++ last.items ∷ []) same ∙ ap (λ p. map (λ v. v.items) old ++ p ∷ []) is
