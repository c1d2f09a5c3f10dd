-- Whose keys and passwords a server was asked for.
--     asked_by      whose key or password a message that was taken asks for
--     is_noted      a user is noted
--     AreNoted      each user whose key or password was asked for in a history is
--     Notes         what is noted, and that nobody else is
use Rattle.std.specs.Prelude.{◌≡◌, ◌||◌, ℕ, Bool, true, false, Option, Some, None, List, [], ◌∷◌}
use Rattle.std.specs.Global.{Vec}
use Rattle.std.specs.List.{list_any}
use Rattle.ssh_model.specs.Protocol.Sessions.Items.{Item}
use Rattle.ssh_model.specs.Protocol.Wire.DataTypes.{is_text}
use Rattle.ssh_model.specs.Protocol.Wire.Message.{Msg, Msg.UserauthRequest, Method, Method.Password, Method.Publickey}
use Rattle.ssh_message.specs.Meaning.{meaning}
use Rattle.ssh_end_machine.specs.declared.turn.Took.{Took}
use Rattle.ssh_end_machine.specs.declared.turn.Took.TheVariants as took
use Rattle.divrelca_c.specs.declared.embedded.noted.Noted.{Noted}

-- by the method: only a password or a key is asked for by name
abbrev pub asked_with : Method → (user : List ℕ) → Option (List ℕ)
asked_with (Password word other) user = Some user
asked_with (Publickey algorithm key signature) user = Some user
asked_with _ user = None

abbrev pub asked_by : Msg → Option (List ℕ)
asked_by (UserauthRequest user service method) = asked_with method user
asked_by _ = None

-- the same of an item of a history, and of what a turn took
abbrev pub asked_in : Item → Option (List ℕ)
asked_in (Item.Took channel message payload) = asked_by message
asked_in _ = None

abbrev pub asked_of : Option Took → Option (List ℕ)
asked_of (Some (took.Message channel message payload)) = asked_by (meaning message)
asked_of _ = None

-- The name is the user's.
abbrev pub is_name_of : (user : List ℕ) → Vec ℕ → Bool
is_name_of user name = is_text name.items user

-- Where memory was refused for a name, every user counts as noted.
abbrev pub is_noted : List ℕ → Noted → Bool
is_noted user noted = noted.all || list_any (is_name_of user) noted.names.items

abbrev pub IsNoted : Option (List ℕ) → Noted → Type 0
IsNoted None noted = Unit {0}
IsNoted (Some user) noted = is_noted user noted ≡ true

abbrev pub AreNoted : List Item → Noted → Type 0
AreNoted [] noted = Unit {0}
AreNoted (item ∷ items) noted = IsNoted (asked_in item) noted × AreNoted items noted

-- The user is the one that is asked for.
abbrev pub is_asked : List ℕ → Option (List ℕ) → Bool
is_asked user None = false
is_asked user (Some given) = is_text given user

-- A key or a password of the user is asked for in one of these items.
abbrev pub is_asked_among : List ℕ → List Item → Bool
is_asked_among user items = list_any (λ item. is_asked user (asked_in item)) items

-- Who is asked for is noted, and who was noted before. Nobody else is, unless memory was refused.
pub record Notes (given : Option (List ℕ)) (old new : Noted) : Type 0 where
  pub asked : IsNoted given new
  pub kept : (user : List ℕ) → is_noted user old ≡ true → is_noted user new ≡ true
  pub only : new.all ≡ false → (user : List ℕ) → is_noted user new ≡ (is_noted user old || is_asked user given)
