-- Laws of what a call of an end put out: it listed the payloads, or it did nothing.
use Rattle.std.proofs.Common.{◌≡◌, ℕ, List, [], subst, sym}
use Rattle.ssh_end_machine.specs.Ends.{EndValue, sending_from, sending_to}
use Rattle.ssh_model.specs.Protocol.Wire.Sealing.{Crypto}
use Rattle.ssh_transport_machine.specs.Padding.{PadsTo, PadsTo.none}
use Rattle.divrelca_c.specs.Embedded.Padding.{PadsOn}

module _ {K R F : Type 0} {c : Crypto K} {gives : F → List ℕ → F → Type 0} {old new : EndValue K R F} {before after : List ℕ} where
  -- the payloads are those that the end lists
  pub pads_on : PadsTo c gives (sending_from old before) (sending_to new after) → PadsOn c gives old before new after
  pads_on padded = record { payloads = new.sent; padded = padded }

  -- nothing is put out where nothing changes
  pub pads_on_none : new ≡ old → after ≡ before → PadsOn c gives old before new after
  pads_on_none same unchanged = subst (λ it. PadsOn c gives old before it after) (sym same)
      (subst (λ it. PadsOn c gives old before old it) (sym unchanged) (record { payloads = []; padded = none }))
