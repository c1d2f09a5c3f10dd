-- The values of the types of this crate.
use Rattle.std.specs.Prelude.{map}
use Rattle.std.specs.Option.{option_copied}
use Rattle.ssh_message.specs.Announced.{extension_of}
use Rattle.ssh_config.specs.declared.settings.Settings.{Settings}
use Rattle.ssh_config.specs.Config.{Given}

abbrev pub given : Settings → Given
given s = record {
  software = s.software.now;
  comments = option_copied s.comments;
  kex = map (λ name. name.now) s.kex.now;
  host = map (λ name. name.now) s.host.now;
  encryption = map (λ name. name.now) s.encryption.now;
  mac = map (λ name. name.now) s.mac.now;
  epoch_limit = s.epoch_limit;
  tries = s.tries;
  methods = map (λ name. name.now) s.methods.now;
  strictness = s.strictness;
  takes_extensions = s.takes_extensions;
  extensions = map extension_of s.extensions.now;
}
