-- The choice of algorithms from the lists of two KEXINIT messages (RFC 4253 section 7.1, if nothing else is said).
use Rattle.std.specs.Prelude.{ℕ, Bool, true, false, nat_eq, ◌||◌, if◌then◌else◌, List, [], ◌∷◌, codes}
use Rattle.std.specs.Cmp.Lexicographic.{pointwise}

-- the kinds of algorithms, in the order of their lists in a KEXINIT: `Cs` from the client to the server, `Sc` the other way
pub data Kind : Type 0 where
  Kex : Kind
  HostKey : Kind
  EncCs : Kind
  EncSc : Kind
  MacCs : Kind
  MacSc : Kind
  CompCs : Kind
  CompSc : Kind

-- the names that one end lists of each kind, in the order of its preference
pub record Lists : Type 0 where
  pub kex : List (List ℕ)
  pub host : List (List ℕ)
  pub enc_cs : List (List ℕ)
  pub enc_sc : List (List ℕ)
  pub mac_cs : List (List ℕ)
  pub mac_sc : List (List ℕ)
  pub comp_cs : List (List ℕ)
  pub comp_sc : List (List ℕ)

-- ---- markers, which stand among the names of key exchange methods but name no method

-- the name by which a client offers strict key exchange (OpenSSH's PROTOCOL section 1.9)
abbrev pub client_marker : List ℕ
client_marker = codes "kex-strict-c-v00@openssh.com"

-- the name by which a server offers strict key exchange (OpenSSH's PROTOCOL section 1.9)
abbrev pub server_marker : List ℕ
server_marker = codes "kex-strict-s-v00@openssh.com"

-- the name by which a client says that it takes EXT_INFO (RFC 8308 section 2.1)
abbrev pub client_extension_marker : List ℕ
client_extension_marker = codes "ext-info-c"

-- the name by which a server says that it takes EXT_INFO (RFC 8308 section 2.1)
abbrev pub server_extension_marker : List ℕ
server_extension_marker = codes "ext-info-s"

-- The name is one of the four markers (RFC 8308 section 2.1, OpenSSH's PROTOCOL section 1.9).
abbrev pub is_marker : List ℕ → Bool
is_marker name =
    (pointwise nat_eq name client_marker || pointwise nat_eq name server_marker)
    || (pointwise nat_eq name client_extension_marker || pointwise nat_eq name server_extension_marker)

-- The name is that of a key exchange method: it is no marker (RFC 8308 section 2.1, OpenSSH's PROTOCOL section 1.9).
abbrev pub is_method : List ℕ → Bool
is_method name = if is_marker name then false else true

-- the key exchange methods among these names (RFC 8308 section 2.1, OpenSSH's PROTOCOL section 1.9)
unfoldable pub methods : List (List ℕ) → List (List ℕ)
methods [] = []
methods (name ∷ names) = if is_method name then name ∷ methods names else methods names

-- the names of a kind that can be chosen
abbrev pub offered : Kind → Lists → List (List ℕ)
offered Kex lists = methods lists.kex
offered HostKey lists = lists.host
offered EncCs lists = lists.enc_cs
offered EncSc lists = lists.enc_sc
offered MacCs lists = lists.mac_cs
offered MacSc lists = lists.mac_sc
offered CompCs lists = lists.comp_cs
offered CompSc lists = lists.comp_sc

-- ---- the choice

-- a chosen name for each kind
pub record Chosen : Type 0 where
  pub kex : List ℕ
  pub host : List ℕ
  pub enc_cs : List ℕ
  pub enc_sc : List ℕ
  pub mac_cs : List ℕ
  pub mac_sc : List ℕ
  pub comp_cs : List ℕ
  pub comp_sc : List ℕ
