-- Where the padding comes from in a call that may do nothing.
use Rattle.std.specs.Prelude.{ℕ, List}
use Rattle.ssh_end_machine.specs.Ends.{EndValue, sending_from, sending_to}
use Rattle.ssh_model.specs.Protocol.Wire.Sealing.{Crypto}
use Rattle.ssh_transport_machine.specs.Padding.{PadsTo}

-- The packets of these payloads were put out after what waits, each with the padding that the filler gave. Nothing else was. The end itself
-- may still list the payloads of the call before, where nothing was done.
pub record PadsOn {K R F : Type 0} (c : Crypto K) (gives : F → List ℕ → F → Type 0) (old : EndValue K R F) (before : List ℕ)
    (new : EndValue K R F) (after : List ℕ) : Type 0 where
  pub payloads : List (List ℕ)
  pub padded : PadsTo c gives (sending_from old before) (record (sending_to new after) { payloads = payloads })
