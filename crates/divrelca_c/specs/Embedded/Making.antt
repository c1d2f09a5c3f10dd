-- What an end is made of.
use Rattle.std.specs.Prelude.{◌≡◌, ℕ, Bool, None, false, true, List, [], ◌∷◌, codes, map, replicate}
use Rattle.std.specs.List.{list_any}
use Rattle.ciphers.specs.Ed25519.Order.{is_small_order}
use Rattle.ssh_model.specs.Protocol.Sessions.Parties.{Settings}
use Rattle.ssh_model.specs.Protocol.Wire.Message.{Extension}
use Rattle.ssh_model.specs.declared.side.Side.{Side}
use Rattle.divrelca.specs.Parts.AesGcm.{aes_gcm}
use Rattle.divrelca.specs.Parts.GcmSettings.{standard_given}
use Rattle.divrelca.specs.declared.parts.packet_key.PacketKey.{PacketKey}
use Rattle.ssh_transport_machine.specs.Padding.{PadsTo}
use Rattle.ssh_end_machine.specs.Ends.{IsNew, IsOf, sending_from_line, sending_to}
use Rattle.ssh_end_machine.specs.Sessions.{AreOf}
use Rattle.ssh_end_machine.specs.Stands.{MadeOf, state_of}
use Rattle.ssh_end_machine.specs.declared.role.EndRole as role
use Rattle.ssh_end_machine.specs.declared.step.Step.TheVariants as step
use Rattle.ssh_types.specs.declared.bounds.TheConstants.{MOST_CHANNELS}
use Rattle.ssh_types.specs.declared.call_error.CallError.{CallError}
use Rattle.ssh_types.specs.declared.call_error.CallError.TheVariants as call
use Rattle.divrelca.specs.Ciphers.{names_of}
use Rattle.divrelca.specs.Supplies.{next_bytes, padding_under}
use Rattle.divrelca.specs.declared.cipher_choice.Ciphers.{Ciphers}
use Rattle.divrelca.specs.declared.keys.PaddingSource.{PaddingSource}
use Rattle.divrelca.specs.declared.policy.TheConstants.{TRIES}
use Rattle.ssh_config.specs.Config.{AreGood, Given, settings_given}
use Rattle.ssh_config.specs.Errors.{IsRefused}
use Rattle.divrelca_c.specs.Embedded.Flows.{flows_of, no_flow}
use Rattle.divrelca_c.specs.declared.embedded.making.ClientSettings.{ClientSettings}
use Rattle.divrelca_c.specs.declared.embedded.making.MakeRefusal.{MakeRefusal}
use Rattle.divrelca_c.specs.declared.embedded.making.MakeRefusal.TheVariants as refusal
use Rattle.divrelca_c.specs.declared.embedded.making.ServerSettings.{ServerSettings}
use Rattle.divrelca_c.specs.declared.embedded.state.Embedded.{Embedded}
use Rattle.divrelca_c.specs.declared.embedded.making.Material.{Material}
use Rattle.divrelca_c.specs.declared.embedded.making.Methods.{Methods}
use Rattle.divrelca_c.specs.declared.embedded.making.Methods.TheVariants.{Key, Password, Both}

-- the names of the methods of authentication (RFC 4252)
abbrev pub method_names : Methods → List (List ℕ)
method_names Key = codes "publickey" ∷ []
method_names Password = codes "password" ∷ []
method_names Both = codes "publickey" ∷ codes "password" ∷ []

-- what the config is given, with these encryptions in place of its own
abbrev pub given_by : Given → Ciphers → Given
given_by given ciphers = record given { encryption = names_of ciphers false }

-- The algorithms of users' keys that a server announces, where some are named (RFC 8308 section 3.1).
abbrev pub announced : (user_algorithms : List ℕ) → List Extension
announced [] = []
announced (byte ∷ bytes) = record { name = codes "server-sig-algs"; value = byte ∷ bytes } ∷ []

-- Something is announced.
abbrev pub announces : (user_algorithms : List ℕ) → Bool
announces [] = false
announces (byte ∷ bytes) = true

-- What the config of a server is given: AES-GCM and strict key exchange, required, with these values.
abbrev pub server_given : (software user_algorithms : List ℕ) → (epoch_limit tries : ℕ) → Methods → Ciphers → Given
server_given software user_algorithms epoch_limit tries methods ciphers = record (standard_given software) {
  encryption = names_of ciphers false;
  epoch_limit = epoch_limit;
  tries = tries;
  methods = method_names methods;
  takes_extensions = announces user_algorithms;
  extensions = announced user_algorithms;
}

-- The algorithms of host keys that a client offers: those that are named, and ssh-ed25519 alone where none is.
abbrev pub offered : (names : List (List ℕ)) → List (List ℕ)
offered [] = codes "ssh-ed25519" ∷ []
offered (name ∷ names) = name ∷ names

-- The same of a client, to which tries and methods mean nothing.
abbrev pub client_given : (software : List ℕ) → (host_algorithms : List (List ℕ)) → (takes_extensions : Bool) → (epoch_limit : ℕ) → Ciphers → Given
client_given software host_algorithms takes_extensions epoch_limit ciphers = record (standard_given software) {
  host = offered host_algorithms;
  encryption = names_of ciphers false;
  epoch_limit = epoch_limit;
  tries = TRIES;
  methods = method_names Both;
  takes_extensions = takes_extensions;
}

-- what the config of either is given by its settings
abbrev pub given_for_server : ServerSettings → Given
given_for_server s = server_given s.software.now s.user_algorithms.now s.epoch_limit s.tries s.methods s.ciphers

abbrev pub given_for_client : ClientSettings → Given
given_for_client s =
    client_given s.software.now (map (λ name. name.now) s.host_algorithms.now) s.takes_extensions s.epoch_limit s.ciphers

-- Why there is no config with these values: the first of them that is not good. Memory is asked for after all tests.
abbrev pub IsMadeError : Given → CallError MakeRefusal → Type 0
IsMadeError given (call.Refused (refusal.Settings why)) = IsRefused aes_gcm given why
IsMadeError given (call.Refused other) = ⊥
IsMadeError given call.Memory = AreGood aes_gcm given

-- the same of a client, whose host's keys are looked at first
abbrev pub IsClientError : (host_keys : List (List ℕ)) → Given → CallError MakeRefusal → Type 0
IsClientError host_keys given (call.Refused refusal.Key) = list_any is_small_order host_keys ≡ true
IsClientError host_keys given error = (list_any is_small_order host_keys ≡ false) × IsMadeError given error

-- It is a new end of this role. It put out its version line and its first KEXINIT, with these settings and of these random bytes. Their
-- padding is of the stream under the key that is given for it. It stands at the first place of a run. Nothing was taken, no ask waits,
-- nobody is noted, nothing went on a channel, and no packet is looked at ahead.
pub record IsMade {R X S : Type 0} (ends : role.Ghosts R X S PaddingSource PacketKey) (side : Side) (settings : Settings)
    (material : Material) (made : Embedded R X S PaddingSource PacketKey) : Type 0 where
  -- What is put out, with which padding, and the place of the end.
  pub opened : IsNew aes_gcm side settings material.cookie material.secret made.end.machine made.end.layers [] made.out.items
      made.end.sent
  pub padded : PadsTo aes_gcm next_bytes (sending_from_line settings (padding_under material.padding) [])
      (sending_to made.end made.out.items)
  pub placed : MadeOf side settings (λ p. IsOf ends made.end.role p) (λ p. AreOf p made.end.layers)
      (record { cookie = material.cookie; secret = material.secret }) made.end.machine (state_of made.end) [] made.out.items made.end.sent
  -- What is shown.
  pub step : made.end.step ≡ step.More
  pub unused : made.end.used ≡ 0
  -- What is kept besides the end. All that was put out waits.
  pub unwritten : made.gone ≡ 0
  pub waiting : made.waiting.items ≡ []
  pub nobody : made.noted.names.items ≡ []
  pub not_all : made.noted.all ≡ false
  pub flows_are : flows_of made.flows ≡ replicate MOST_CHANNELS no_flow
  pub looks_not : made.ahead ≡ None
