-- The replies that channels owe once an exchange of keys is over, and the packets by which an end gives them.
use Rattle.std.specs.Prelude.{◌≡◌, ℕ, Option, List, [], ◌∷◌, ◌++◌}
use Rattle.ssh_model.specs.declared.side.Side.{Side}
use Rattle.ssh_model.specs.Protocol.Wire.Sealing.{Crypto}
use Rattle.ssh_model.specs.Protocol.Sessions.Items.{Item, Item.Sent, messages_sent}
use Rattle.ssh_model.specs.State.Channels.Kept.{Channels}
use Rattle.ssh_model.specs.State.TransportLayer.Kept.{Transport}
use Rattle.ssh_model.specs.State.End.Payloads.{GivesOwed}
use Rattle.ssh_model.specs.State.End.State.{after_items}
use Rattle.ssh_transport_machine.specs.Puts.{Outs, Puts}

-- All replies that were owed were given, the newest first, and each was put out. None of them lets a user in, so that
-- it is all one which side gives them.
pub record OwedGiven {K : Type 0} (c : Crypto K) (s : Transport K) (before : Channels) (new : Transport K)
    (after : Channels) (o : Outs) : Type 0 where
  pub items : List Item
  pub gives : GivesOwed before items after
  pub none_left : after.owed ≡ []
  pub puts : Puts c s.sending (messages_sent items) o
  pub kept : (side : Side) → new ≡ after_items side items s

-- the channels of the messages sent among these items, the oldest first
abbrev pub channels_sent : List Item → List (Option ℕ)
channels_sent [] = []
channels_sent (Sent channel message payload ∷ items) = channels_sent items ++ channel ∷ []
channels_sent (_ ∷ items) = channels_sent items

-- The channels of the replies that were given stand after these numbers, the oldest first.
abbrev pub ListsChannels : (before after : Channels) → (old new : List (Option ℕ)) → Type 0
ListsChannels before after old new =
    (items : List Item) → GivesOwed before items after → new ≡ old ++ channels_sent items

-- The later list is the earlier one with more after it.
pub record Extends {A : Type 0} (earlier later : List A) : Type 0 where
  pub more : List A
  pub parts : later ≡ earlier ++ more
