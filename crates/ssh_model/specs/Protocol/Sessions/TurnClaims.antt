-- The claims on the turns of one end (own, if nothing else is said).
use Rattle.std.specs.Prelude.{◌≡◌, ℕ, ◌<◌, ◌==◌, ◌||◌, Bool, true, List, [], ◌∷◌}
use Rattle.ssh_model.specs.Protocol.Wire.Message.{Msg}
use Rattle.ssh_model.specs.Protocol.Wire.Message.{message_number}
use Rattle.ssh_model.specs.Protocol.Sessions.Items.{Item, Item.Sent}
use Rattle.ssh_model.specs.Protocol.Sessions.Items.{sent}
use Rattle.ssh_model.specs.Protocol.Sessions.Epochs.{count}
use Rattle.ssh_model.specs.Protocol.Sessions.Phases.{blocked}
use Rattle.ssh_model.specs.Protocol.Sessions.Turns.{IsEncoded}
use Rattle.ssh_model.specs.Protocol.Bounds.{numbers_of_epoch}

-- Each payload that was sent has a number of its own in its epoch: fewer than 2^32 payloads came before it there (RFC 4253
-- section 6.4, RFC 4344 section 3.1).
abbrev pub HasNumbers : List Item → Type 0
HasNumbers [] = Unit {0}
HasNumbers (Sent channel message payload ∷ h) = (count (sent h) < numbers_of_epoch) × HasNumbers h
HasNumbers (_ ∷ h) = HasNumbers h

-- ---- the messages of a blocked end

-- the messages that an end may send between its KEXINIT and its NEWKEYS (RFC 4253 section 7.1)
abbrev pub is_sent_while_blocked : ℕ → Bool
is_sent_while_blocked n = n == 1 || n == 3 || n == 20 || n == 21 || n == 30 || n == 31

-- Between its KEXINIT and its NEWKEYS the end sent only such messages (RFC 4253 section 7.1).
abbrev pub KeepsToExchange : List Item → Type 0
KeepsToExchange [] = Unit {0}
KeepsToExchange (Sent channel message payload ∷ h) =
    (blocked h ≡ true → is_sent_while_blocked (message_number message) ≡ true) × KeepsToExchange h
KeepsToExchange (_ ∷ h) = KeepsToExchange h

-- ---- nothing is left without an answer

-- Some payload that fits into a packet encodes the message.
pub record HasEncoding (message : Msg) : Type 0 where
  pub payload : List ℕ
  pub encodes : IsEncoded message payload
