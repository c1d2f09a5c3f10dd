-- The meaning of a config.
use Rattle.ssh_config.specs.declared.config.Config.{Config}
use Rattle.ssh_model.specs.Protocol.Sessions.Parties.{Settings}
use Rattle.ssh_config.specs.Config.{Given, settings_given}
use Rattle.ssh_config.specs.Checks.{kept}
use Rattle.ssh_message.specs.Announced.{owned_extensions}
use Rattle.ssh_types.specs.Values.{owned_names}

-- the settings that the config was given
abbrev pub given_of : {S : _} {K : _} {B : _} → Config S K B → Given
given_of x = kept x.line.items x.software_len (owned_names x.kex) (owned_names x.host) (owned_names x.encryption) (owned_names x.mac) x.epoch_limit x.tries (owned_names x.methods) x.strictness x.takes_extensions (owned_extensions x.extensions)

-- the settings of the config, in the form that the model of an end has
abbrev pub settings_of : {S : _} {K : _} {B : _} → Config S K B → Settings
settings_of x = settings_given (given_of x)
