-- What the toys are made of: settings, padding, cookies and secrets.
use Rattle.std.specs.Prelude.{◌≡◌, ℕ, ◌^◌, false, None, Option, Some, List, [], ◌∷◌, bit_xor, codes, if◌then◌else◌, length, nat_eq, replicate}
use Rattle.std.specs.Cmp.Lexicographic.{pointwise}
use Rattle.std.specs.Simd.Lanes.{zip2}
use Rattle.ssh_config.specs.Config.{Given}
use Rattle.ssh_model.specs.declared.side.Side.{Side}
use Rattle.ssh_model.specs.declared.side.Side.TheVariants.{Client, Server}
use Rattle.ssh_model.specs.declared.strictness.Strictness.TheVariants as strictness
use Rattle.ssh_toys.specs.declared.filler.ToyFiller.{ToyFiller}
use Rattle.ssh_toys.specs.declared.material.TheConstants.{CLIENT_COOKIE, CLIENT_SECRET, SERVER_COOKIE, SERVER_SECRET}

-- what an end of the toys is given besides its software
abbrev pub toy_given : (software : List ℕ) → Given
toy_given software = record {
  software = software;
  comments = None;
  kex = codes "curve25519-sha256" ∷ [];
  host = codes "toy@example.com" ∷ [];
  encryption = codes "none" ∷ [];
  mac = codes "hmac-sha2-256" ∷ [];
  epoch_limit = 2 ^ 31;
  tries = 20;
  methods = codes "publickey" ∷ codes "password" ∷ [];
  strictness = strictness.Require;
  takes_extensions = false;
  extensions = [];
}

-- the filler that gives zeros
abbrev pub zeros : ToyFiller
zeros = record { byte = 0 }

-- It gives its byte alone, and stays as it is.
abbrev pub gives_byte : ToyFiller → List ℕ → ToyFiller → Type 0
gives_byte before bytes after = (bytes ≡ replicate (length bytes) before.byte) × (after ≡ before)

-- what two ends share: the exclusive or, unless it is zero
abbrev pub shared_by : (secret theirs : List ℕ) → Option (List ℕ)
shared_by secret theirs =
    if pointwise nat_eq (zip2 bit_xor secret theirs) (replicate 32 0) then None else Some (zip2 bit_xor secret theirs)

-- the cookie and the secret of the first exchange of keys of each end
abbrev pub cookie_of : Side → List ℕ
cookie_of Client = CLIENT_COOKIE
cookie_of Server = SERVER_COOKIE

abbrev pub secret_of : Side → List ℕ
secret_of Client = CLIENT_SECRET
secret_of Server = SERVER_SECRET

-- the software of each whole end
abbrev pub software_of : Side → List ℕ
software_of Client = codes "c"
software_of Server = codes "s"
