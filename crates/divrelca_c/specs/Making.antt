-- What C passes, as the settings of an end.
--     methods_by, ciphers_by               the methods of authentication and the encryptions, by their bits
--     entry_by                             an entry of the users' list: the name, and what lets in
--     IsTaken                              what is taken as an entry of it
--     user_by                              the key pair of a seed, where there is one
--     keys_of, AreKeys                     the keys of a host, and what is taken as such
--     IsServerSettings, IsClientSettings   what is taken as settings
--     server_settings, client_settings     the settings, as the model has them
--     IsServerOf, IsClientOf               the end that is made of them
--     users_fault                          the first fault of the users' list
--     IsServerFault, IsClientFault         the code where none is made
--     Leaves                               it is left at a place, or nothing is
use Rattle.std.specs.Prelude.{◌≡◌, ◌≤◌, ◌+◌, ◌/◌, ◌%◌, ◌&&◌, ℕ, ℤ, Bool, List, [], ◌∷◌, All, Option, None, Some, if◌then◌else◌, length, map}
use Rattle.std.specs.Prelude.{nat_eq, nat_le, nat_lt, negsuc, not, option_map, pos, false, true}
use Rattle.std.specs.List.{list_any}
use Rattle.std.specs.Option.{IfSome, option_or}
use Rattle.std.specs.Simd.{first_chunks}
use Rattle.ciphers.specs.Ed25519.Order.{is_small_order}
use Rattle.sha2.specs.Sha256.{sha256}
use Rattle.ssh_config.specs.Checks.{told_unless}
use Rattle.ssh_config.specs.Config.{AreGood, Given, settings_given}
use Rattle.ssh_config.specs.Errors.{IsRefused, refusal_number}
use Rattle.ssh_config.specs.declared.error.ConfigRefusal.{ConfigRefusal}
use Rattle.ssh_model.specs.Protocol.Sessions.Parties.{Settings}
use Rattle.ssh_model.specs.declared.side.Side.TheVariants as sides
use Rattle.divrelca_c.specs.Embedded.Making.{IsMade, client_given, server_given}
use Rattle.divrelca_c.specs.Embedded.Users.{entry_of, is_weak}
use Rattle.divrelca_c.specs.declared.embedded.making.Material.{Material}
use Rattle.divrelca_c.specs.declared.embedded.making.Methods.{Methods}
use Rattle.divrelca_c.specs.declared.embedded.making.Methods.TheVariants as methods
use Rattle.divrelca_c.specs.Embedded.Ends.{Client, Server}
use Rattle.divrelca_c.specs.Embedded.Roles.{client_ends, server_ends}
use Rattle.divrelca_c.specs.declared.embedded.users.Login.{Login}
use Rattle.divrelca_c.specs.declared.embedded.users.Login.TheVariants as login
use Rattle.divrelca.specs.Parts.AesGcm.{aes_gcm}
use Rattle.divrelca.specs.Parts.Ed25519.{signer_of}
use Rattle.divrelca.specs.declared.parts.ed25519_signer.Ed25519Signer.{Ed25519Signer}
use Rattle.divrelca.specs.declared.cipher_choice.Ciphers.{Ciphers}
use Rattle.divrelca.specs.declared.cipher_choice.Ciphers.TheVariants as ciphers
use Rattle.divrelca_c.specs.declared.bytes.DvClientSettings.{DvClientSettings}
use Rattle.divrelca_c.specs.declared.bytes.DvMaterial.{DvMaterial}
use Rattle.divrelca_c.specs.declared.bytes.DvServerSettings.{DvServerSettings}
use Rattle.divrelca_c.specs.declared.bytes.DvUser.{DvUser}
use Rattle.divrelca_c.specs.declared.making.TheConstants.{MOST_HOST_KEYS}

-- 1 is keys, 2 is passwords, 3 is both
abbrev pub methods_by : (bits : ℕ) → Methods
methods_by bits = if nat_eq bits 1 then methods.Key else if nat_eq bits 2 then methods.Password else methods.Both

-- 1 is aes128-gcm, 2 is aes256-gcm, 3 is both
abbrev pub ciphers_by : (bits : ℕ) → Ciphers
ciphers_by bits = if nat_eq bits 1 then ciphers.Aes128 else if nat_eq bits 2 then ciphers.Aes256 else ciphers.Both

abbrev pub IsChoice : (bits : ℕ) → Type 0
IsChoice bits = (1 ≤ bits) × (bits ≤ 3)

-- kind 1 is a key, kind 2 is a password
abbrev pub login_by : DvUser → Login
login_by user =
    if nat_eq user.kind 1 then login.Key user.login.now else login.Password (record { bytes = sha256 user.login.now })

abbrev pub entry_by : DvUser → List ℕ × Login
entry_by user = (user.name.now, login_by user)

abbrev pub IsEntry : DvUser → Type 0
IsEntry user = (1 ≤ user.kind) × (user.kind ≤ 2)

-- a key of 32 bytes, or a password that has bytes
pub record IsLogin (user : DvUser) : Type 0 where
  pub entry : IsEntry user
  pub key : user.kind ≡ 1 → length user.login.now ≡ 32
  pub password : user.kind ≡ 2 → user.login.now ≡ [] → ⊥

-- what is taken as an entry: it has a name, and its key is not of small order
pub record IsTaken (user : DvUser) : Type 0 where
  pub login : IsLogin user
  pub named : user.name.now ≡ [] → ⊥
  pub strong : is_weak (login_by user) ≡ false

-- no bytes are no seed
abbrev pub user_by : (seed : List ℕ) → Option Ed25519Signer
user_by [] = None
user_by (byte ∷ bytes) = Some (signer_of (byte ∷ bytes))

-- what a config is given by the settings of a server
abbrev pub given_of_server : DvServerSettings → Given
given_of_server given =
    server_given given.software.now given.user_algorithms.now given.epoch_limit given.tries (methods_by given.methods) (ciphers_by given.ciphers)

-- what is taken as the settings of a server
pub record IsServerSettings (given : DvServerSettings) : Type 0 where
  pub bytes : given.size ≡ 88
  pub seed : length given.host_seed.now ≡ 32
  pub entries : All IsTaken given.users.now
  pub methods_known : IsChoice given.methods
  pub ciphers_known : IsChoice given.ciphers
  pub good : AreGood aes_gcm (given_of_server given)

abbrev pub server_settings : DvServerSettings → Settings
server_settings given = settings_given (given_of_server given)

-- The same of a client. It may fail as often as a server of `ssh_pipe` lets a user, and knows both methods.
abbrev pub given_of_client : DvClientSettings → Given
given_of_client given =
    client_given given.software.now (map (λ name. name.now) given.host_algorithms.now) given.takes_extensions given.epoch_limit
    (ciphers_by given.ciphers)

-- The keys of a host stand one after the other.
abbrev pub keys_of : List ℕ → List (List ℕ)
keys_of bytes = first_chunks 32 (length bytes / 32) bytes

-- what is taken as keys of a host: whole ones, at most 16
pub record AreKeys (bytes : List ℕ) : Type 0 where
  pub whole : length bytes % 32 ≡ 0
  pub few : length bytes / 32 ≤ MOST_HOST_KEYS

-- what is taken as the settings of a client, whose user may have no key
pub record IsClientSettings (given : DvClientSettings) : Type 0 where
  pub bytes : given.size ≡ 88
  pub trusted : AreKeys given.host_key.now
  pub strong : list_any is_small_order (keys_of given.host_key.now) ≡ false
  pub seed : (given.user_seed.now ≡ [] → ⊥) → length given.user_seed.now ≡ 32
  pub ciphers_known : IsChoice given.ciphers
  pub good : AreGood aes_gcm (given_of_client given)

abbrev pub client_settings : DvClientSettings → Settings
client_settings given = settings_given (given_of_client given)

-- the random bytes of a new end
abbrev pub material_by : DvMaterial → (padding : List ℕ) → Material
material_by first padding = record { cookie = first.cookie; secret = first.secret; padding = padding }

-- It is a new server with these settings and of these random bytes. It has this host's key pair and these users, and its program said nothing.
pub record IsServerOf (given : DvServerSettings) (material : Material) (made : Server) : Type 0 where
  pub new : IsMade server_ends sides.Server (server_settings given) material made
  pub host : made.end.role.exchange.host_signer ≡ signer_of given.host_seed.now
  pub users : map entry_of made.end.role.own.judge.list.items ≡ map entry_by given.users.now
  pub unsaid : made.end.role.own.judge.book.list.items ≡ []
  pub key : made.key ≡ None
  pub settings : IsServerSettings given

-- It is a new client with these settings and of these random bytes. It trusts just these keys of its host, and signs by this key pair,
-- where there is one. Its program said nothing.
pub record IsClientOf (given : DvClientSettings) (material : Material) (made : Client) : Type 0 where
  pub new : IsMade client_ends sides.Client (client_settings given) material made
  pub host : made.end.role.exchange.host_trust.keys.keys.items ≡ keys_of given.host_key.now
  pub unsaid : made.end.role.exchange.host_trust.book.list.items ≡ []
  pub user : made.end.role.own.signer.own.signer ≡ user_by given.user_seed.now
  pub ungiven : made.end.role.own.signer.list.items ≡ []
  pub key : made.key ≡ option_map (λ signer. signer.key) (user_by given.user_seed.now)
  pub settings : IsClientSettings given

-- ---- what is refused, and with which code

abbrev pub is_choice : (bits : ℕ) → Bool
is_choice bits = nat_le 1 bits && nat_le bits 3

abbrev pub is_some_text : List ℕ → Bool
is_some_text bytes = nat_lt 0 (length bytes)

-- what lets in is a key of 32 bytes, or a password with bytes
abbrev pub login_fault : DvUser → Option ℕ
login_fault user =
    if nat_eq user.kind 1 then told_unless (nat_eq (length user.login.now) 32) 302
    else told_unless (nat_eq user.kind 2 && is_some_text user.login.now) 303

-- after that the entry has a name, and its key is not of small order
abbrev pub entry_fault : DvUser → Option ℕ
entry_fault user =
    option_or (login_fault user)
    (option_or (told_unless (is_some_text user.name.now) 303) (told_unless (not (is_weak (login_by user))) 302))

-- the fault of the first entry that has one
abbrev pub users_fault : List DvUser → Option ℕ
users_fault [] = None
users_fault (user ∷ users) = option_or (entry_fault user) (users_fault users)

-- what is looked at before memory is asked for, in this order
abbrev pub server_fault : DvServerSettings → Option ℕ
server_fault given =
    option_or (option_or (told_unless (nat_eq given.size 88) 301) (told_unless (is_choice given.methods) 304))
    (option_or (told_unless (is_choice given.ciphers) 305) (told_unless (nat_eq (length given.host_seed.now) 32) 302))

-- no bytes, or 32
abbrev pub is_seed : List ℕ → Bool
is_seed [] = true
is_seed seed = nat_eq (length seed) 32

-- whole keys, from 1 to 16
abbrev pub are_keys : List ℕ → Bool
are_keys bytes = nat_eq (length bytes % 32) 0 && nat_le (length bytes / 32) MOST_HOST_KEYS

abbrev pub client_fault : DvClientSettings → Option ℕ
client_fault given =
    option_or (option_or (told_unless (nat_eq given.size 88) 301) (told_unless (is_seed given.user_seed.now) 302))
    (option_or (told_unless (is_choice given.ciphers) 305)
    (option_or (told_unless (are_keys given.host_key.now) 302)
    (told_unless (not (list_any is_small_order (keys_of given.host_key.now))) 302)))

-- the code of a fault, or that memory was refused
abbrev pub code_at : Option ℕ → ℤ
code_at None = negsuc 0
code_at (Some number) = pos number

-- a setting that no config has is 100 and the number of the refusal
pub record IsConfigFault (given : Given) (code : ℤ) : Type 0 where
  pub why : ConfigRefusal
  pub is : IsRefused aes_gcm given why
  pub code_is : code ≡ pos (100 + refusal_number why)

-- the fault of the users, and only then that of a setting
abbrev pub IsLaterFault : Option ℕ → Given → (code : ℤ) → Type 0
IsLaterFault (Some number) given code = code ≡ pos number
IsLaterFault None given code = IsConfigFault given code

-- The code is that of the first fault. Where that is found before memory is asked for, there is no other code; else -1 may come first.
pub record IsServerFault (given : DvServerSettings) (code : ℤ) : Type 0 where
  pub first : (server_fault given ≡ None → ⊥) → code ≡ code_at (server_fault given)
  pub later : server_fault given ≡ None → (code ≡ negsuc 0 → ⊥) →
      IsLaterFault (users_fault given.users.now) (given_of_server given) code

-- the same of a client, of which no memory is asked for before its settings are good
pub record IsClientFault (given : DvClientSettings) (code : ℤ) : Type 0 where
  pub first : (client_fault given ≡ None → ⊥) → code ≡ code_at (client_fault given)
  pub later : client_fault given ≡ None → (code ≡ negsuc 0 → ⊥) → IsConfigFault (given_of_client given) code
  pub memory : client_fault given ≡ None → code ≡ negsuc 0 → AreGood aes_gcm (given_of_client given)

-- One of these ends is left at the place where the code is 0, and the place is as it was where it is not. The code is then one of these.
pub record Leaves {P E : Type 0} (end_at : P → Option E) (Is : E → Type 0) (IsFault : ℤ → Type 0) (code : ℤ) (old new : P) : Type 0 where
  pub none : (code ≡ pos 0 → ⊥) → new ≡ old
  pub fails : (code ≡ pos 0 → ⊥) → IsFault code
  pub some : code ≡ pos 0 → end_at new ≡ None → ⊥
  pub made : code ≡ pos 0 → IfSome (end_at new) Is
