-- What is said of an end of either role, and of what both roles have.
--     State                      what an end of a role has
--     InRole                     this of two ends of one role
--     of_end                     this of an end, whichever role it has
--     IsNewServer, IsNewClient   the new end of these settings
--     SetsUserOf                 a server is given the keys and passwords of a user
--     ShowsBytes                 bytes of an end are shown, or it has none
use Rattle.std.specs.Prelude.{◌≡◌, Bool, ℕ, ℤ, List, None, Option, Some, [], false, pos, true}
use Rattle.ssh_transport.specs.declared.role.Role as exchange
use Rattle.ssh_end_machine.specs.declared.role.EndRole as role
use Rattle.divrelca.specs.declared.parts.packet_key.PacketKey.{PacketKey}
use Rattle.divrelca.specs.declared.keys.PaddingSource.{PaddingSource}
use Rattle.divrelca_c.specs.declared.embedded.any_end.AnyEnd.{AnyEnd}
use Rattle.divrelca_c.specs.declared.embedded.any_end.AnyEnd.TheVariants as any
use Rattle.divrelca_c.specs.declared.embedded.state.Embedded.{Embedded}
use Rattle.divrelca_c.specs.declared.embedded.making.Material.{Material}
use Rattle.divrelca_c.specs.Embedded.Roles.{client_ends, client_exchanges, server_ends, server_exchanges}
use Rattle.divrelca_c.specs.Making.{IsClientOf, IsServerOf}
use Rattle.divrelca_c.specs.Users.{SetsUser}
use Rattle.divrelca_c.specs.declared.bytes.DvClientSettings.{DvClientSettings}
use Rattle.divrelca_c.specs.declared.bytes.DvServerSettings.{DvServerSettings}
use Rattle.divrelca_c.specs.declared.bytes.DvUser.{DvUser}

-- The source of padding and the keys are the same in both roles.
abbrev pub State : (R X S : Type 0) → Type 0
State R X S = Embedded R X S PaddingSource PacketKey

-- what is said of an end of a role before and after a call, over the ghost members of the role and of its part in an exchange of keys
abbrev pub OfRole : Type 1
OfRole = (R X S : Type 0) → role.Ghosts R X S PaddingSource PacketKey → exchange.Ghosts X S PaddingSource PacketKey →
    (old new : State R X S) → Type 0

-- The two are ends of one role, and this holds of what they have.
abbrev pub InRole : (Is : OfRole) → (old new : AnyEnd) → Type 0
InRole Is (any.Server old) (any.Server new) = Is _ _ _ server_ends server_exchanges old new
InRole Is (any.Client old) (any.Client new) = Is _ _ _ client_ends client_exchanges old new
InRole Is _ _ = ⊥

-- this of what the end has
abbrev pub of_end : {A : Type 0} → (of : (R X S : Type 0) → State R X S → A) → AnyEnd → A
of_end of (any.Server end) = of _ _ _ end
of_end of (any.Client end) = of _ _ _ end

-- It is a server, and made of these settings and random bytes.
abbrev pub IsNewServer : DvServerSettings → Material → AnyEnd → Type 0
IsNewServer given material (any.Server made) = IsServerOf given material made
IsNewServer given material (any.Client made) = ⊥

-- It is a client, and made of these settings and random bytes.
abbrev pub IsNewClient : DvClientSettings → Material → AnyEnd → Type 0
IsNewClient given material (any.Server made) = ⊥
IsNewClient given material (any.Client made) = IsClientOf given material made

-- A server is given the keys and passwords of this user. A client has no users: it stays as it is, and 11 is answered.
abbrev pub SetsUserOf : (name : List ℕ) → List DvUser → (code : ℤ) → (old new : AnyEnd) → Type 0
SetsUserOf name users code (any.Server old) (any.Server new) = SetsUser name users code old new
SetsUserOf name users code (any.Client old) new = (code ≡ pos 11) × (new ≡ any.Client old)
SetsUserOf name users code (any.Server old) (any.Client new) = ⊥

-- Just these bytes are shown, and the answer is yes. Where there are none, the answer is no, and no bytes are shown.
abbrev pub ShowsBytes : Option (List ℕ) → (is_there : Bool) → (shown : List ℕ) → Type 0
ShowsBytes (Some bytes) is_there shown = (is_there ≡ true) × (shown ≡ bytes)
ShowsBytes None is_there shown = (is_there ≡ false) × (shown ≡ [])
