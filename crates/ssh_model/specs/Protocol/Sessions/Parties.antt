-- The settings and the supplied parts with which an end is made. The parts are functions, since a part gives the same
-- answer to the same question (own, if nothing else is said).
use Rattle.std.specs.Prelude.{◌≡◌, ℕ, ◌≤◌, ◌==◌, ◌&&◌, not, nat_lt, cond, Bool, true, false, Option, Some, None, List}
use Rattle.std.specs.Prelude.{[], ◌∷◌, ◌++◌, length, take, codes, if◌then◌else◌}
use Rattle.std.specs.List.{list_all}
use Rattle.ssh_model.specs.declared.side.Side.{Side}
use Rattle.ssh_model.specs.declared.side.Side.TheVariants.{Client, Server}
use Rattle.ssh_model.specs.declared.strictness.Strictness.{Strictness}
use Rattle.ssh_model.specs.declared.strictness.Strictness.TheVariants.{Require, Off}
use Rattle.ssh_model.specs.Protocol.Wire.Message.{Extension, Proposal}
use Rattle.ssh_model.specs.Protocol.KeyExchange.Choice.{Lists, client_marker, server_marker, client_extension_marker}
use Rattle.ssh_model.specs.Protocol.KeyExchange.Choice.{server_extension_marker}
use Rattle.ssh_model.specs.Protocol.Wire.Sealing.{Crypto, IsSealing}

-- The end refuses a peer without strict key exchange.
abbrev pub is_required : Strictness → Bool
is_required Require = true
is_required _ = false

-- The end offers strict key exchange.
abbrev pub is_offered : Strictness → Bool
is_offered Off = false
is_offered _ = true

-- the settings of one end
pub record Settings : Type 0 where
  -- the version line, without CR LF
  pub line : List ℕ
  -- names of algorithms, in the order of preference. Encryption and MAC are the same in both directions.
  pub kex : List (List ℕ)
  pub host : List (List ℕ)
  pub encryption : List (List ℕ)
  pub mac : List (List ℕ)
  -- how many packets of an epoch make a new exchange due
  pub epoch_limit : ℕ
  -- how many requests for authentication may fail, and the methods that a server names
  pub tries : ℕ
  pub methods : List (List ℕ)
  pub strictness : Strictness
  -- whether it takes extensions, and those that it announces to a peer that takes them (RFC 8308)
  pub takes_extensions : Bool
  pub extensions : List Extension

-- The agreement of one end (RFC 8731 section 3): the public point of a secret, and the result that the secret shares with
-- the peer's point.
pub record Agreement : Type 0 where
  pub point : List ℕ → List ℕ
  pub shared : List ℕ → List ℕ → Option (List ℕ)

-- Both ends, each with an agreement of its own. The sealing is one for both: its keys are of one type, and either end
-- opens packets that the other sealed.
pub record Parties (K : Type 0) : Type 0 where
  pub client : Settings
  pub server : Settings
  -- sealing and opening of packets
  pub crypto : Crypto K
  pub client_agreement : Agreement
  pub server_agreement : Agreement
  -- the server's host key under a name of an algorithm, and its signature of a hash
  pub host_key : List ℕ → List ℕ
  pub host_signature : List ℕ → List ℕ → List ℕ
  -- whether the client trusts a host key, with its signature of a hash: by algorithm, key, hash, signature
  pub trusts : List ℕ → List ℕ → List ℕ → List ℕ → Bool
  -- the client's signature of a text: by user, algorithm, key, text
  pub user_signature : List ℕ → List ℕ → List ℕ → List ℕ → List ℕ
  -- the server's verdicts: on a user without a credential, on a password, on a key, and on a signature of a text
  pub admits : List ℕ → Bool
  pub password_is_right : List ℕ → List ℕ → Bool
  pub knows_key : List ℕ → List ℕ → List ℕ → Bool
  pub signature_is_right : List ℕ → List ℕ → List ℕ → List ℕ → Bool

-- the settings of the end of this side
abbrev pub settings_of : {K : Type 0} → Parties K → Side → Settings
settings_of p Client = p.client
settings_of p Server = p.server

-- the agreement of the end of this side
abbrev pub agreement_of : {K : Type 0} → Parties K → Side → Agreement
agreement_of p Client = p.client_agreement
agreement_of p Server = p.server_agreement

-- The promises of the supplied parts and the settings: the laws of the sealing, and version lines of at most 255 bytes with
-- CR LF. The other parts promise nothing: their answers count only within the bounds below.
pub record AreLawful {K : Type 0} (p : Parties K) : Type 0 where
  pub sealing : IsSealing p.crypto
  pub client_line : length p.client.line ≤ 253
  pub server_line : length p.server.line ≤ 253

-- ---- the answers of the parts, within their bounds

-- The number is a byte.
abbrev pub is_byte : ℕ → Bool
is_byte b = nat_lt b 256

-- The byte is 0.
abbrev pub is_zero : ℕ → Bool
is_zero b = b == 0

-- These are 32 bytes, not all zero (RFC 8731 section 3).
abbrev pub is_shared : List ℕ → Bool
is_shared bytes = (length bytes == 32) && (list_all is_byte bytes && not (list_all is_zero bytes))

-- This result, if it is 32 bytes that are not all zero (RFC 8731 section 3).
abbrev pub only_shared : Option (List ℕ) → Option (List ℕ)
only_shared None = None
only_shared (Some bytes) = cond (is_shared bytes) (Some bytes) None

-- The result that an end's secret shares with the peer's point, if it is 32 bytes that are not all zero (RFC 8731 section 3).
abbrev pub shared_by : {K : Type 0} → Parties K → Side → (secret theirs : List ℕ) → Option (List ℕ)
shared_by p side secret theirs = only_shared ((agreement_of p side).shared secret theirs)

-- the public point of a secret, cut off after 32 bytes
abbrev pub point_by : {K : Type 0} → Parties K → Side → (secret : List ℕ) → List ℕ
point_by p side secret = take 32 ((agreement_of p side).point secret)

-- the server's host key under a name of an algorithm, cut off after 4,096 bytes
abbrev pub host_key_by : {K : Type 0} → Parties K → (algorithm : List ℕ) → List ℕ
host_key_by p algorithm = take 4096 (p.host_key algorithm)

-- the server's signature of a hash, cut off after 4,096 bytes
abbrev pub host_signature_by : {K : Type 0} → Parties K → (algorithm hash : List ℕ) → List ℕ
host_signature_by p algorithm hash = take 4096 (p.host_signature algorithm hash)

-- the client's signature of a text, cut off after 4,096 bytes
abbrev pub user_signature_by : {K : Type 0} → Parties K → (user algorithm key text : List ℕ) → List ℕ
user_signature_by p user algorithm key text = take 4096 (p.user_signature user algorithm key text)

-- ---- offers

-- the marker of strict key exchange that the end of this side sends (OpenSSH's PROTOCOL section 1.9)
abbrev pub marker_of : Side → List ℕ
marker_of Client = client_marker
marker_of Server = server_marker

-- the marker by which the end of this side says that it takes EXT_INFO (RFC 8308 section 2.1)
abbrev pub extension_marker_of : Side → List ℕ
extension_marker_of Client = client_extension_marker
extension_marker_of Server = server_extension_marker

-- the markers in the first KEXINIT, in their order (RFC 8308 section 2.1, OpenSSH's PROTOCOL section 1.9)
abbrev pub first_markers : Settings → Side → List (List ℕ)
first_markers s side =
    (if s.takes_extensions then extension_marker_of side ∷ [] else [])
    ++ (if is_offered s.strictness then marker_of side ∷ [] else [])

-- both ends offer strict key exchange
pub record BothOffer {K : Type 0} (p : Parties K) : Type 0 where
  pub client : is_offered p.client.strictness ≡ true
  pub server : is_offered p.server.strictness ≡ true

-- The offer of an end of these settings in a KEXINIT (RFC 4253 section 7.1). The markers stand last in the first KEXINIT
-- and in no later one.
abbrev pub offer_of : Settings → Side → (first : Bool) → (cookie : List ℕ) → Proposal
offer_of s side first cookie =
    let uncompressed : List (List ℕ) = codes "none" ∷ [] in
    record {
      cookie = cookie;
      kex = if first then s.kex ++ first_markers s side else s.kex;
      host = s.host;
      enc_cs = s.encryption;
      enc_sc = s.encryption;
      mac_cs = s.mac;
      mac_sc = s.mac;
      comp_cs = uncompressed;
      comp_sc = uncompressed;
      lang_cs = [];
      lang_sc = [];
      follows = false;
    }

-- the offer of the end of this side (RFC 4253 section 7.1)
abbrev pub offer : {K : Type 0} → Parties K → Side → (first : Bool) → (cookie : List ℕ) → Proposal
offer p side first cookie = offer_of (settings_of p side) side first cookie

-- the lists of a proposal from which algorithms are chosen (RFC 4253 section 7.1)
abbrev pub lists_of : Proposal → Lists
lists_of o = record {
  kex = o.kex;
  host = o.host;
  enc_cs = o.enc_cs;
  enc_sc = o.enc_sc;
  mac_cs = o.mac_cs;
  mac_sc = o.mac_sc;
  comp_cs = o.comp_cs;
  comp_sc = o.comp_sc;
}
