-- Two ends with toy parts, for examples. The parts protect nothing.
use Rattle.std.specs.Prelude.{ℕ, zero, suc, Bool, true, false, ◌+◌, ◌-◌, ◌&&◌, bit_xor, Some, List, [], ◌∷◌, ◌++◌}
use Rattle.std.specs.Prelude.{replicate, codes}
use Rattle.sha2.specs.Sha256.{sha256}
use Rattle.ssh_model.specs.Protocol.Wire.Message.{Extension}
use Rattle.ssh_model.specs.Protocol.Wire.DataTypes.{is_text}
use Rattle.ssh_model.specs.Laws.MacOnly.{mac_only}
use Rattle.ssh_model.specs.declared.strictness.Strictness.{Strictness}
use Rattle.ssh_model.specs.declared.strictness.Strictness.TheVariants.{Require, Off}
use Rattle.ssh_model.specs.Protocol.Sessions.Parties.{Settings, Agreement}
use Rattle.ssh_model.specs.Protocol.Sessions.Parties.{Parties}
use Rattle.ssh_model.specs.declared.refusal.Refusal.{Refusal}
use Rattle.ssh_model.specs.declared.refusal.Refusal.TheVariants.{BadLine, BadVersion, BadLength}
use Rattle.ssh_model.specs.declared.refusal.Refusal.TheVariants.{BadPadding, BadTag, BadMessage}
use Rattle.ssh_model.specs.declared.refusal.Refusal.TheVariants.{Unexpected, NoCommon, NotStrict, BadPoint}
use Rattle.ssh_model.specs.declared.refusal.Refusal.TheVariants.{BadHost, NoService, NumberSpent}
use Rattle.ssh_model.specs.declared.refusal.Refusal.TheVariants.{TooManyTries, UnknownChannel, WindowOverrun}
use Rattle.ssh_model.specs.declared.refusal.Refusal.TheVariants.{WindowTooLarge, OwedFull}
use Rattle.ssh_model.specs.declared.ask_refusal.AskRefusal.{AskRefusal}
use Rattle.ssh_model.specs.declared.ask_refusal.AskRefusal.TheVariants.{NotYet}
use Rattle.ssh_model.specs.declared.ask_refusal.AskRefusal.TheVariants.{Busy, NoChannel, NoRoom}
use Rattle.ssh_model.specs.declared.ask_refusal.AskRefusal.TheVariants.{TooLong, Ended, TableFull}
use Rattle.ssh_model.specs.declared.ask_refusal.AskRefusal.TheVariants.{NothingOwed, RekeyDue, TooMuch}
use Rattle.ssh_model.specs.declared.ask_refusal.AskRefusal.TheVariants.{WrongSide}

-- ---- the parts

-- the byte-wise exclusive or of two texts of one length
abbrev pub mixed : List ℕ → List ℕ → List ℕ
mixed (a ∷ l) (b ∷ m) = bit_xor a b ∷ mixed l m
mixed _ _ = []

-- A point is the secret itself. The shared result is the secret mixed with the other point, even if that is all zero.
abbrev pub toy_agreement : Agreement
toy_agreement = record { point = λ secret. secret; shared = λ secret theirs. Some (mixed secret theirs) }

-- settings with one algorithm of each kind
abbrev pub toy_settings : (line : List ℕ) → Settings
toy_settings line = record {
  line = line;
  kex = codes "curve25519-sha256" ∷ [];
  host = codes "toy@example.com" ∷ [];
  encryption = codes "none" ∷ [];
  mac = codes "hmac-sha2-256" ∷ [];
  epoch_limit = 64;
  tries = 2;
  methods = codes "publickey" ∷ codes "password" ∷ [];
  strictness = Require;
  takes_extensions = false;
  extensions = [];
}

-- the host key
abbrev pub toy_key : List ℕ
toy_key = codes "toy-host"

-- A point is the secret itself, and the signature of a hash is the hash. One user is known, by a password and by a key.
abbrev pub toy : Parties (List ℕ)
toy = record {
  client = toy_settings (codes "SSH-2.0-c");
  server = toy_settings (codes "SSH-2.0-s");
  crypto = mac_only;
  client_agreement = toy_agreement;
  server_agreement = toy_agreement;
  host_key = λ algorithm. toy_key;
  host_signature = λ algorithm hash. hash;
  trusts = λ algorithm key hash signature. is_text key toy_key && is_text signature hash;
  user_signature = λ user algorithm key text. sha256 text;
  admits = λ user. false;
  password_is_right = λ user password. is_text user (codes "u") && is_text password (codes "p");
  knows_key = λ user algorithm key. is_text user (codes "u") && is_text key (codes "k");
  signature_is_right = λ algorithm key text signature. is_text signature (sha256 text);
}

-- the toys with these settings for strict key exchange, of the client and of the server
abbrev pub toys_with : (client server : Strictness) → Parties (List ℕ)
toys_with client server = record toy {
  client = record (toy.client) { strictness = client };
  server = record (toy.server) { strictness = server };
}

-- the toys without strict key exchange
abbrev pub plain : Parties (List ℕ)
plain = toys_with Off Off

-- toys that announce these extensions; either both take those of the other, or neither does
abbrev pub toys_announcing : (client server : List Extension) → (both_take : Bool) → Parties (List ℕ)
toys_announcing client server both_take = record toy {
  client = record (toy.client) { takes_extensions = both_take; extensions = client };
  server = record (toy.server) { takes_extensions = both_take; extensions = server };
}

-- one extension to announce
abbrev pub toy_extensions : List Extension
toy_extensions = record { name = codes "server-sig-algs"; value = codes "toy" } ∷ []

-- the toys that both announce this extension
abbrev pub announcing : Parties (List ℕ)
announcing = toys_announcing toy_extensions toy_extensions true

-- the toys that both announce it, without strict key exchange
abbrev pub plain_announcing : Parties (List ℕ)
plain_announcing = record announcing {
  client = record (announcing.client) { strictness = Off };
  server = record (announcing.server) { strictness = Off };
}

-- toys whose keys are the names of their encryption and MAC, with two names of each
abbrev pub naming_toys : Parties (List ℕ)
naming_toys = record toy {
  client = record (toy.client) { encryption = codes "a" ∷ codes "b" ∷ []; mac = codes "c" ∷ codes "d" ∷ [] };
  server = record (toy.server) { encryption = codes "a" ∷ codes "b" ∷ []; mac = codes "c" ∷ codes "d" ∷ [] };
  crypto = record mac_only { made = λ enc mac iv cipher key. enc ++ mac };
}

-- toys with a host key for each of two algorithms, of which the client prefers one and the server the other
abbrev pub two_host_keys : Parties (List ℕ)
two_host_keys = record toy {
  client = record (toy.client) { host = codes "x" ∷ codes "toy@example.com" ∷ [] };
  server = record (toy.server) { host = codes "toy@example.com" ∷ codes "x" ∷ [] };
  host_key = λ algorithm. algorithm;
  trusts = λ algorithm key hash signature. is_text key algorithm;
}

-- toys whose server has one point and always shares the same bytes, whatever the secret and the other point are
abbrev pub own_points : Parties (List ℕ)
own_points =
    let nines : List ℕ = replicate 32 9 in
    let agreement : Agreement = record { point = λ secret. nines; shared = λ secret theirs. Some nines } in
    record toy { server_agreement = agreement }

-- ---- cookies and secrets

-- 16 times the same byte
abbrev pub cookie : ℕ → List ℕ
cookie b = replicate 16 b

-- 31 times the byte 7, and then this byte; two such secrets share a small number
abbrev pub secret : ℕ → List ℕ
secret b = replicate 31 7 ++ b ∷ []

-- ---- all refusals, by their numbers

-- the refusals of a peer
abbrev pub every_refusal : List Refusal
every_refusal =
    BadLine ∷ BadVersion ∷ BadLength ∷ BadPadding ∷ BadTag ∷ BadMessage ∷ Unexpected ∷ NoCommon ∷ NotStrict ∷ BadPoint
    ∷ BadHost ∷ Refusal.NoMaterial
    ∷ NoService ∷ NumberSpent ∷ TooManyTries ∷ UnknownChannel ∷ WindowOverrun ∷ WindowTooLarge ∷ OwedFull ∷ []

-- the refusals of an ask
abbrev pub every_ask_refusal : List AskRefusal
every_ask_refusal =
    NotYet ∷ Busy ∷ NoChannel ∷ NoRoom ∷ TooLong ∷ Ended ∷ TableFull ∷ NothingOwed ∷ RekeyDue ∷ TooMuch ∷ WrongSide
    ∷ AskRefusal.NoMaterial ∷ []

-- ---- numbers

-- this many numbers, from a first one on
abbrev pub numbers : (first count : ℕ) → List ℕ
numbers first zero = []
numbers first (suc n) = first ∷ numbers (first + 1) n

-- the numbers from one to another
abbrev pub from_to : (first last : ℕ) → List ℕ
from_to first last = numbers first (last + 1 - first)
