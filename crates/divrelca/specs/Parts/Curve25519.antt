-- The agreement of curve25519-sha256.
use Rattle.ciphers.specs.X25519.Curve.{base_point, shared_of, x25519}
use Rattle.ssh_model.specs.Protocol.Sessions.Parties.{Agreement}

-- the point of a secret, and what two ends share
abbrev pub x25519_agreement : Agreement
x25519_agreement = record { point = λ secret. x25519 secret base_point; shared = shared_of }
