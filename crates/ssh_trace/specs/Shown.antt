-- What a text in hexadecimal digits shows of one packet in clear.
use Rattle.std.specs.Prelude.{◌≡◌, ◌<◌, ℕ, List, length, IsErr, Ok, None}
use Rattle.hex.specs.Hex.{decode_of}
use Rattle.ssh_model.specs.Laws.MacOnly.{mac_only}
use Rattle.ssh_model.specs.Protocol.Wire.Packet.{IsPacket, with_length}
use Rattle.ssh_model.specs.Laws.Reading.{Reads}
use Rattle.ssh_model.specs.Protocol.Wire.Sealing.{IsBadLength, IsBadPadding}
use Rattle.ssh_model.specs.Laws.Units.{IsPartial}
use Rattle.ssh_packet.specs.declared.refusal.PacketRefusal.TheVariants.{BadLength, BadPadding, BadTag}
use Rattle.ssh_trace.specs.declared.shown.Shown.{Shown}
use Rattle.ssh_trace.specs.declared.shown.Shown.TheVariants.{Incomplete, NotHex, Payload, Refused, Trailing}

-- Some bytes in front are such.
pub record Front (Is : List ℕ → Type 0) (bytes : List ℕ) : Type 0 where
  pub after : List ℕ
  pub reads : Reads Is bytes after

-- A packet stands in front, and so many bytes after it.
pub record HasRest (count : ℕ) (bytes : List ℕ) : Type 0 where
  pub payload : List ℕ
  pub after : List ℕ
  pub reads : Reads (IsPacket (with_length 8) 0 payload) bytes after
  pub left : length after ≡ count
  pub some : 0 < count

-- what bytes show. In clear there is no tag to be bad
abbrev pub ShowsBytes : List ℕ → Shown → Type 0
ShowsBytes bytes (Refused BadLength) = Front (IsBadLength (with_length 8) 0) bytes
ShowsBytes bytes Incomplete = IsPartial (with_length 8) 0 bytes
ShowsBytes bytes (Refused BadPadding) = Front (IsBadPadding mac_only None 0) bytes
ShowsBytes bytes (Trailing count) = HasRest count bytes
ShowsBytes bytes (Payload payload) = IsPacket (with_length 8) 0 payload.items bytes
ShowsBytes bytes (Refused BadTag) = ⊥
ShowsBytes bytes NotHex = ⊥

-- the bytes that the digits stand for, and what they show
pub record ShowsText (text : List ℕ) (shown : Shown) : Type 0 where
  pub bytes : List ℕ
  pub digits : decode_of text ≡ Ok bytes
  pub shows : ShowsBytes bytes shown

-- what a text shows; it is no pairs of hexadecimal digits where it stands for no bytes
abbrev pub Shows : List ℕ → Shown → Type 0
Shows text NotHex = IsErr (decode_of text)
Shows text shown = ShowsText text shown
