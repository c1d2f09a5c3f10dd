-- What the ends of this program are made with.
use Rattle.std.specs.Prelude.{[], ◌∷◌, codes}
use Rattle.divrelca.specs.Opening.{Settings, settings_given}
use Rattle.divrelca.specs.Parts.GcmSettings.{standard_given}

-- AES-128-GCM with strict key exchange, which is required, and users who come in by keys alone
abbrev pub echo_settings : Settings
echo_settings = settings_given (record (standard_given (codes "echo")) { methods = codes "publickey" ∷ [] })
