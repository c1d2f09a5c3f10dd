-- The settings of an end that seals by AES-128-GCM.
use Rattle.std.specs.Prelude.{ℕ, List, [], ◌∷◌, ◌^◌, map, codes, None, false}
use Rattle.std.specs.Option.{option_copied}
use Rattle.ssh_message.specs.Announced.{extension_of}
use Rattle.ssh_model.specs.declared.strictness.Strictness.TheVariants as strictness
use Rattle.ssh_config.specs.Config.{Given}
use Rattle.divrelca.specs.declared.parts.gcm_settings.GcmSettings.{GcmSettings}

-- The settings that an end is given: only AES-128-GCM, and strict key exchange required.
abbrev pub gcm_given : GcmSettings → Given
gcm_given s = record {
  software = s.software.now;
  comments = option_copied s.comments;
  kex = codes "curve25519-sha256" ∷ [];
  host = map (λ name. name.now) s.host.now;
  encryption = codes "aes128-gcm@openssh.com" ∷ [];
  mac = codes "hmac-sha2-256" ∷ [];
  epoch_limit = s.epoch_limit;
  tries = s.tries;
  methods = map (λ name. name.now) s.methods.now;
  strictness = strictness.Require;
  takes_extensions = s.takes_extensions;
  extensions = map extension_of s.extensions.now;
}

-- The settings that it is given if only its software is set.
abbrev pub standard_given : List ℕ → Given
standard_given software = record {
  software = software;
  comments = None;
  kex = codes "curve25519-sha256" ∷ [];
  host = codes "ssh-ed25519" ∷ [];
  encryption = codes "aes128-gcm@openssh.com" ∷ [];
  mac = codes "hmac-sha2-256" ∷ [];
  epoch_limit = 2 ^ 20;
  tries = 6;
  methods = codes "publickey" ∷ codes "password" ∷ [];
  strictness = strictness.Require;
  takes_extensions = false;
  extensions = [];
}
