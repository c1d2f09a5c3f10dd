-- The partial line or packet that an end holds, and the parts of the reading that stay.
use Rattle.std.specs.Prelude.{◌≡◌, true, false, []}
use Rattle.ssh_model.specs.Laws.Units.{IsPartialLine, IsPartialPacket}
use Rattle.ssh_model.specs.Protocol.Wire.Sealing.{Crypto}
use Rattle.ssh_transport_machine.specs.State.{State}

-- The buffered bytes are a partial line, or a partial packet.
pub record IsReading {K : Type 0} (c : Crypto K) (s : State K) : Type 0 where
  pub lines : s.kept.lines.found ≡ false → IsPartialLine s.reading.buffered
  pub unread : s.kept.lines.found ≡ false → s.receiver.buffered ≡ []
  pub packets : s.kept.lines.found ≡ true →
      IsPartialPacket c s.receiver.direction.key s.receiver.direction.count s.receiver.buffered

-- The buffered bytes, the payload that is shown, and the stage of the reading are as before.
pub record SameReading {K : Type 0} (old new : State K) : Type 0 where
  pub receiver : new.receiver ≡ old.receiver
  pub reading : new.reading ≡ old.reading
  pub lines : new.kept.lines ≡ old.kept.lines
