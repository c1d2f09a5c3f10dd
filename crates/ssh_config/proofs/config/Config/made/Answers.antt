use Rattle.std.proofs.Common.{map, refl}
use Rattle.ssh_message.specs.Announced.{extension_of, owned_extensions}
use Rattle.ssh_types.specs.Values.{owned_names}
use Rattle.ssh_config.specs.Config.{Given}
use Rattle.ssh_config.specs.Values.{given}
use Rattle.ssh_config.proofs.Announced.{all_short}
use Rattle.ssh_config.proofs.Kept.{AreMade, kept_fits, kept_given, kept_good, kept_line}
use Rattle.ssh_config.proofs.config.Config.made.Goals as goal

pub new-requires-clause-short : goal.new-requires-clause-short
new-requires-clause-short g c = all_short (map extension_of c.args.settings.now.extensions.now) c.requires.extensions.names c.requires.extensions.values

pub invariant_of-result : goal.invariant_of-result
invariant_of-result g c =
    let settings : Given = given c.args.settings.now in
    let made : AreMade settings c.in_ok-line.line.items (owned_names c.in_ok-kex.kex) (owned_names c.in_ok-host.host) (owned_names c.in_ok-encryption.encryption) (owned_names c.in_ok-mac.mac) (owned_names c.in_ok-methods.methods) settings.strictness settings.takes_extensions (owned_extensions c.in_ok-extensions.extensions) = record {
      line_is = c.in_ok-line.ensures;
      kex_is = c.in_ok-kex.ensures;
      host_is = c.in_ok-host.ensures;
      encryption_is = c.in_ok-encryption.ensures;
      mac_is = c.in_ok-mac.ensures;
      methods_is = c.in_ok-methods.ensures;
      strictness_is = refl;
      takes_extensions_is = refl;
      extensions_is = c.in_ok-extensions.ensures;
    } in
    record {
      line_is = kept_line made;
      software_fits = kept_fits made;
      good = kept_good made g.S.Sealing.crypto c.requires;
    }

pub returns : goal.returns
returns g c =
    let settings : Given = given c.args.settings.now in
    let made : AreMade settings c.in_ok-line.line.items (owned_names c.in_ok-kex.kex) (owned_names c.in_ok-host.host) (owned_names c.in_ok-encryption.encryption) (owned_names c.in_ok-mac.mac) (owned_names c.in_ok-methods.methods) settings.strictness settings.takes_extensions (owned_extensions c.in_ok-extensions.extensions) = record {
      line_is = c.in_ok-line.ensures;
      kex_is = c.in_ok-kex.ensures;
      host_is = c.in_ok-host.ensures;
      encryption_is = c.in_ok-encryption.ensures;
      mac_is = c.in_ok-mac.ensures;
      methods_is = c.in_ok-methods.ensures;
      strictness_is = refl;
      takes_extensions_is = refl;
      extensions_is = c.in_ok-extensions.ensures;
    } in
    kept_given made
