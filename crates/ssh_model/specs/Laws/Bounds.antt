-- Bounds on settings, on which no claim depends. What takes settings cites them by their names.
use Rattle.std.specs.Prelude.{ℕ, ◌-◌, ◌^◌}
use Rattle.ssh_model.specs.Protocol.Bounds.{longest_payload}

-- the names of each list of settings
abbrev pub most_names : ℕ
most_names = 16

-- the extensions that settings announce
abbrev pub most_extensions : ℕ
most_extensions = 16

-- the bytes of an extension's value that settings announce
abbrev pub longest_extension_value : ℕ
longest_extension_value = 1024

-- the bytes of the text of a server's methods, so that its USERAUTH_FAILURE never exceeds `longest_payload`
abbrev pub longest_methods : ℕ
longest_methods = longest_payload - 6

-- the least limit that settings may set on the packets of an epoch, after which a new exchange is due
abbrev pub least_epoch_limit : ℕ
least_epoch_limit = 64

-- the largest limit that settings may set on the packets of an epoch, after which a new exchange is due (RFC 4344 section 3.1)
abbrev pub most_epoch_limit : ℕ
most_epoch_limit = 2 ^ 31
