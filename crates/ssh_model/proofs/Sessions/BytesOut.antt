-- What the bytes that an end put out end with.
use Rattle.std.proofs.Common.{ℕ, List, ◌∷◌, refl, Option}
use Rattle.ssh_model.specs.declared.side.Side.{Side}
use Rattle.ssh_model.specs.Protocol.Wire.Message.{Msg}
use Rattle.ssh_model.specs.Protocol.Wire.Sealing.{IsSealing}
use Rattle.ssh_model.specs.Protocol.Sessions.Parties.{Parties}
use Rattle.ssh_model.specs.Protocol.Sessions.Items.{Item, Item.SentLine, Item.Sent}
use Rattle.ssh_model.specs.Protocol.Sessions.Events.{PutsOut, PutsOut.version, PutsOut.packet, PutsOut.other}
use Rattle.ssh_model.specs.Laws.Turns.{EndsWithLine, EndsWithPacket}
use Rattle.ssh_model.proofs.Wire.Sealed.{sealed_unit}

module _ {K : Type 0} (p : Parties K) where
  pub ends_with_line : (side : Side) (h : List Item) (line bytes : List ℕ) → PutsOut p side (SentLine line ∷ h) bytes → EndsWithLine p side h line bytes
  ends_with_line side h line bytes (version {bytes = before} l out) = record { before = before; before_is = out; bytes_are = refl }
  ends_with_line side h line bytes (other i q out) = elim q [ ]

  pub ends_with_packet : IsSealing p.crypto → (side : Side) (h : List Item) (channel : Option ℕ) (message : Msg) (payload bytes : List ℕ)
      → PutsOut p side (Sent channel message payload ∷ h) bytes → EndsWithPacket p side h payload bytes
  ends_with_packet laws side h channel message payload bytes (packet {bytes = before} c m b wire s out) =
      record { before = before; wire = wire; before_is = out; bytes_are = refl; opens = λ count n. sealed_unit p.crypto _ _ count payload wire laws n s }
  ends_with_packet laws side h channel message payload bytes (other i q out) = elim q [ ]
