-- What an end puts out goes after the bytes that wait.
use Rattle.std.proofs.Common.{◌≡◌, ◌∙◌, ℕ, List, [], ◌++◌, length, take, ap, sym, append_assoc, append-nil}
use Rattle.std.proofs.Math.Seq.{take-append_seam}
use Rattle.std.specs.Io.{StartsWith}
use Rattle.ssh_transport_machine.specs.Padding.{PadsTo, PadsTo.none, PadsTo.more, Sending}
use Rattle.ssh_model.specs.Protocol.Wire.Sealing.{Crypto}

-- bytes that were put after others
starts : (before added after : List ℕ) → after ≡ before ++ added → StartsWith after before
starts before added after is = ap (take (length before)) is ∙ take-append_seam before added

pub starts_same : (before after : List ℕ) → after ≡ before → StartsWith after before
starts_same before after is = starts before [] after (is ∙ sym (append-nil before))

module _ {K F : Type 0} {c : Crypto K} {gives : F → List ℕ → F → Type 0} where
  put_after : {old new : Sending K F} → PadsTo c gives old new → (added : List ℕ) × (new.bytes ≡ old.bytes ++ added)
  put_after {old} none = ([], sym (append-nil old.bytes))
  put_after {old} (more between new before packet) =
      let first = put_after before in
      (first.0 ++ packet.wire, packet.bytes ∙ (ap (λ bytes. bytes ++ packet.wire) first.1 ∙ append_assoc old.bytes first.0 packet.wire))

  pub pads_after : {old new : Sending K F} → PadsTo c gives old new → StartsWith new.bytes old.bytes
  pads_after {old} {new} padded = let put = put_after padded in starts old.bytes put.0 new.bytes put.1
