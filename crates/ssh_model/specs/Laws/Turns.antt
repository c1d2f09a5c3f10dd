-- Further claims on the turns of one end.
use Rattle.std.specs.Prelude.{List, [], ℕ, ◌≡◌, ◌∷◌, ◌⊎◌, false, Some, map, ◌++◌, true, Bool, length, ◌<◌, ◌^◌}
use Rattle.ssh_model.specs.Protocol.Sessions.Parties.{Parties, offer, settings_of}
use Rattle.ssh_model.specs.declared.side.Side.{Side}
use Rattle.ssh_model.specs.Protocol.Sessions.Items.{Item, Item.Told, Fact.Ignored, Item.TookGuess, Item.Sent, Item.Took, Fact.Opening}
use Rattle.ssh_model.specs.Protocol.Sessions.Items.{Fact.Opened, Item.Died, Ask, Ask.AskOpen, Ask.AskConfirm, Ask.AskRefuse, Ask.AskData}
use Rattle.ssh_model.specs.Protocol.Sessions.Phases.{may_take}
use Rattle.ssh_model.specs.Protocol.Sessions.Turns.{number_of, OnUnit, take_memory}
use Rattle.ssh_model.specs.Protocol.Wire.Message.{Msg.ChannelOpen, Msg.KexInit, Msg.UserauthFailure, Msg.ExtInfo}
use Rattle.ssh_model.specs.Protocol.Sessions.Events.{PutsOut}
use Rattle.ssh_model.specs.Protocol.Wire.Line.{line_end}
use Rattle.ssh_model.specs.Protocol.Sessions.Epochs.{count}
use Rattle.ssh_model.specs.Protocol.Wire.Unit.{HasNumber, PacketUnit}
use Rattle.ssh_model.specs.Protocol.KeyExchange.Exchanges.{sending_number, sending_key}
use Rattle.ssh_model.specs.Protocol.Wire.Outcome.{Outcome.Opens}
use Rattle.ssh_model.specs.Protocol.Sessions.TurnClaims.{HasEncoding}

-- The end skipped the payload without reading it, or may not take its number here.
abbrev pub IsSkipped : {K : Type 0} → Parties K → Side → List Item → (payload : List ℕ) → List Item → Type 0
IsSkipped p side h payload items =
    (items ≡ Told Ignored ∷ TookGuess payload ∷ []) ⊎ (may_take p side h (number_of payload) ≡ false)

-- an item without the payload that it sends, which encodes its message
abbrev pub shown : Item → Item
shown (Sent channel message payload) = Sent channel message []
shown i = i

-- an item without the parts that are free: the payload that it sends, which encodes its message, and the number that a
-- new channel gets
abbrev pub fixed_part : Item → Item
fixed_part (Sent (Some x) (ChannelOpen kind sender window max rest) payload) =
    Sent (Some 0) (ChannelOpen kind 0 window max rest) []
fixed_part (Sent channel message payload) = Sent channel message []
fixed_part (Took (Some x) (ChannelOpen kind sender window max rest) payload) =
    Took (Some 0) (ChannelOpen kind sender window max rest) payload
fixed_part (Told (Opening x)) = Told (Opening 0)
fixed_part (Told (Opened x kind window max rest)) = Told (Opened 0 kind window max rest)
fixed_part i = i

-- The items of two turns are the same except for the parts that are free, or one of the two is the death of a failed allocation.
abbrev pub AreAlike : List Item → List Item → Type 0
AreAlike items others = (map fixed_part items ≡ map fixed_part others) ⊎ ((items ≡ Died ∷ []) ⊎ (others ≡ Died ∷ []))

-- ---- the bytes that an end puts out

-- The bytes end with the version line and CR LF.
pub record EndsWithLine {K : Type 0} (p : Parties K) (side : Side) (h : List Item) (line bytes : List ℕ) : Type 0 where
  pub before : List ℕ
  pub before_is : PutsOut p side h before
  pub bytes_are : bytes ≡ before ++ line ++ line_end

-- The bytes end with a packet that opens to the payload, under the key and the sequence number of its place.
pub record EndsWithPacket {K : Type 0} (p : Parties K) (side : Side) (h : List Item) (payload bytes : List ℕ) :
    Type 0 where
  pub before : List ℕ
  pub wire : List ℕ
  pub before_is : PutsOut p side h before
  pub bytes_are : bytes ≡ before ++ wire
  pub opens : (count : ℕ) → HasNumber (sending_number side h) count →
      PacketUnit p.crypto (sending_key p side h) (sending_number side h) count wire (Opens payload)

-- ---- deaths

-- The turn of this unit takes memory.
pub record DiesAt {K : Type 0} (p : Parties K) (side : Side) (h : List Item) (unit : List ℕ) : Type 0 where
  pub items : List Item
  pub turn : OnUnit p side h unit items
  pub memory : take_memory items ≡ true

-- ---- nothing is left without an answer

-- Settings are good if the messages that depend only on them fit into packets: the KEXINIT, the methods that a server
-- names, and the extensions that an end announces.
pub record AreGood {K : Type 0} (p : Parties K) (side : Side) : Type 0 where
  pub offers : (first : Bool) (cookie : List ℕ) → length cookie ≡ 16 → HasEncoding (KexInit (offer p side first cookie))
  pub methods : HasEncoding (UserauthFailure (settings_of p side).methods false)
  pub extensions : HasEncoding (ExtInfo (settings_of p side).extensions)

-- The window, reason or type of an ask is a uint32, and so is the number of the channel that it confirms.
abbrev pub HasUint32s : Ask → Type 0
HasUint32s (AskOpen kind window max rest) = window < 2 ^ 32
HasUint32s (AskConfirm channel window max rest) = (channel < 2 ^ 32) × (window < 2 ^ 32)
HasUint32s (AskRefuse channel reason) = reason < 2 ^ 32
HasUint32s (AskData channel (Some kind) body) = kind < 2 ^ 32
HasUint32s _ = Unit {0}
