-- The settings with which an end is made, and which of them are good.
use Rattle.std.specs.Prelude.{◌≡◌, ℕ, ◌≤◌, ◌⊎◌, Bool, false, nat_eq, nat_le, Option, IsSome, IsTrue, List, [], ◌++◌, length, map, codes}
use Rattle.std.specs.Cmp.Lexicographic.{pointwise}
use Rattle.std.specs.List.{Contains, IsDistinct, list_all}
use Rattle.ssh_model.specs.Protocol.Wire.DataTypes.{is_name}
use Rattle.ssh_model.specs.Protocol.Wire.Line.{comment_text, line_end}
use Rattle.ssh_model.specs.Laws.Units.{IsVersionLine}
use Rattle.ssh_model.specs.declared.strictness.Strictness.{Strictness}
use Rattle.ssh_model.specs.Protocol.Sessions.Parties.{Settings}
use Rattle.ssh_model.specs.Protocol.Wire.Message.{Extension}
use Rattle.ssh_model.specs.Protocol.Wire.Sealing.{Crypto}
use Rattle.ssh_model.specs.Laws.Bounds.{least_epoch_limit, longest_extension_value, most_epoch_limit, most_extensions, most_names}

-- the settings that an end is given
pub record Given : Type 0 where
  -- the version of its software, and comments on it (RFC 4253 section 4.2)
  pub software : List ℕ
  pub comments : Option (List ℕ)
  -- names of algorithms, in the order of preference
  pub kex : List (List ℕ)
  pub host : List (List ℕ)
  pub encryption : List (List ℕ)
  pub mac : List (List ℕ)
  -- how many packets of an epoch make a new exchange due
  pub epoch_limit : ℕ
  -- how many requests for authentication may fail, and the methods that a server names
  pub tries : ℕ
  pub methods : List (List ℕ)
  pub strictness : Strictness
  -- whether it takes extensions, and the extensions that it announces (RFC 8308)
  pub takes_extensions : Bool
  pub extensions : List Extension

-- the text of the version line, with the version 2.0 of the protocol
abbrev pub version_text : List ℕ → Option (List ℕ) → List ℕ
version_text software comments = codes "SSH-2.0-" ++ (software ++ comment_text comments)

-- these settings, in the form that the model of an end has
abbrev pub settings_given : Given → Settings
settings_given g = record {
  line = version_text g.software g.comments;
  kex = g.kex;
  host = g.host;
  encryption = g.encryption;
  mac = g.mac;
  epoch_limit = g.epoch_limit;
  tries = g.tries;
  methods = g.methods;
  strictness = g.strictness;
  takes_extensions = g.takes_extensions;
  extensions = g.extensions;
}

-- ---- the version line

-- The bytes are the version line of this software and these comments, CR LF included.
abbrev pub IsLineOf : Given → List ℕ → Type 0
IsLineOf g bytes = IsVersionLine (codes "2.0") g.software g.comments bytes

-- The line that an end makes of its software and its comments is their version line.
abbrev pub HasLine : Given → Type 0
HasLine g = IsLineOf g (version_text g.software g.comments ++ line_end)

-- No version line has this software and these comments.
abbrev pub IsBadSoftware : Given → Type 0
IsBadSoftware g = (bytes : List ℕ) → IsLineOf g bytes → ⊥

-- ---- the lists

-- Own: 1 to `most_names` names.
pub record IsList (texts : List (List ℕ)) : Type 0 where
  pub some : 1 ≤ length texts
  pub most : length texts ≤ most_names
  pub names : IsTrue (list_all is_name texts)

-- The text is one of the two names of the one key exchange method (RFC 8731).
abbrev pub IsKexMethod : List ℕ → Type 0
IsKexMethod name = (name ≡ codes "curve25519-sha256") ⊎ (name ≡ codes "curve25519-sha256@libssh.org")

-- The text is one of the methods of authentication that an end has (RFC 4252 sections 7 and 8).
abbrev pub IsUserMethod : List ℕ → Type 0
IsUserMethod name = (name ≡ codes "publickey") ⊎ (name ≡ codes "password")

-- Each list has names. The exchange methods and those of authentication are known. The sealing knows each pair of an
-- encryption and a MAC.
pub record AreLists {K : Type 0} (c : Crypto K) (g : Given) : Type 0 where
  pub kex : IsList g.kex
  pub host : IsList g.host
  pub encryption : IsList g.encryption
  pub mac : IsList g.mac
  pub methods : IsList g.methods
  pub known_kex : (name : List ℕ) → Contains g.kex name → IsKexMethod name
  pub known_pair : (enc mac : List ℕ) → Contains g.encryption enc → Contains g.mac mac → IsSome (c.lengths enc mac)
  pub known_method : (name : List ℕ) → Contains g.methods name → IsUserMethod name

abbrev pub IsBadList : {K : Type 0} → Crypto K → Given → Type 0
IsBadList c g = AreLists c g → ⊥

-- ---- the limits

-- Own: the bounds on the packets of an epoch, and 1 to 20 failed requests.
pub record IsEpochLimit (packets : ℕ) : Type 0 where
  pub some : least_epoch_limit ≤ packets
  pub most : packets ≤ most_epoch_limit

pub record IsTries (tries : ℕ) : Type 0 where
  pub some : 1 ≤ tries
  pub most : tries ≤ 20

-- ---- the extensions

-- the names of extensions, and whether two names are the same
abbrev pub extension_names : List Extension → List (List ℕ)
extension_names extensions = map (λ x. x.name) extensions

abbrev pub is_same : List ℕ → List ℕ → Bool
is_same xs ys = pointwise nat_eq xs ys

-- The value has at most `longest_extension_value` bytes.
abbrev pub is_short_value : Extension → Bool
is_short_value x = nat_le (length x.value) longest_extension_value

-- Own: an end that takes no extensions announces none. It announces at most `most_extensions`, and no name twice.
pub record AreExtensions (g : Given) : Type 0 where
  pub taken : g.takes_extensions ≡ false → g.extensions ≡ []
  pub most : length g.extensions ≤ most_extensions
  pub names : IsTrue (list_all is_name (extension_names g.extensions))
  pub values : IsTrue (list_all is_short_value g.extensions)
  pub once : IsDistinct is_same (extension_names g.extensions)

abbrev pub IsBadExtension : Given → Type 0
IsBadExtension g = AreExtensions g → ⊥

-- ---- all of it

pub record AreGood {K : Type 0} (c : Crypto K) (g : Given) : Type 0 where
  pub line : HasLine g
  pub lists : AreLists c g
  pub epoch_limit : IsEpochLimit g.epoch_limit
  pub tries : IsTries g.tries
  pub extensions : AreExtensions g
