-- The choice and the guess as relations (RFC 4253 sections 7 and 7.1), and when the inputs of an exchange can be hashed.
use Rattle.std.specs.Prelude.{List, [], ℕ, ◌≡◌, ◌++◌, ◌∷◌, length, ◌<◌, ◌^◌}
use Rattle.std.specs.List.{Contains, AllByRecursion, slice_get}
use Rattle.ssh_model.specs.Protocol.KeyExchange.Choice.{Lists, Kind, offered, Chosen, Kind.Kex, Kind.HostKey, Kind.EncCs, Kind.EncSc}
use Rattle.ssh_model.specs.Protocol.KeyExchange.Choice.{Kind.MacCs, Kind.MacSc, Kind.CompCs, Kind.CompSc, methods}
use Rattle.ssh_model.specs.Protocol.KeyExchange.Exchange.{Inputs, mpint_body}

-- ---- the choice

-- The name is in both lists, and no name before it in the client's list is in the server's.
pub record IsFirstCommon (client server : List (List ℕ)) (name : List ℕ) : Type 0 where
  pub earlier : List (List ℕ)
  pub later : List (List ℕ)
  pub place : client ≡ earlier ++ name ∷ later
  pub in_both : Contains server name
  pub first : (other : List ℕ) → Contains earlier other → Contains server other → ⊥

-- No name is in both lists.
pub record HasNoCommon (client server : List (List ℕ)) : Type 0 where
  pub none : (name : List ℕ) → Contains client name → Contains server name → ⊥

-- Some name is in both lists.
pub record HasCommon (client server : List (List ℕ)) : Type 0 where
  pub name : List ℕ
  pub in_client : Contains client name
  pub in_server : Contains server name

-- The name is chosen for this kind.
abbrev pub IsChosen : Lists → Lists → Kind → List ℕ → Type 0
IsChosen client server kind name = IsFirstCommon (offered kind client) (offered kind server) name

-- Each chosen name is the first in the client's list that is also in the server's.
pub record IsChoice (client server : Lists) (chosen : Chosen) : Type 0 where
  pub kex : IsChosen client server Kex chosen.kex
  pub host : IsChosen client server HostKey chosen.host
  pub enc_cs : IsChosen client server EncCs chosen.enc_cs
  pub enc_sc : IsChosen client server EncSc chosen.enc_sc
  pub mac_cs : IsChosen client server MacCs chosen.mac_cs
  pub mac_sc : IsChosen client server MacSc chosen.mac_sc
  pub comp_cs : IsChosen client server CompCs chosen.comp_cs
  pub comp_sc : IsChosen client server CompSc chosen.comp_sc

-- the kinds whose lists stand before that of this one
abbrev pub before : Kind → List Kind
before Kex = []
before HostKey = Kex ∷ []
before EncCs = Kex ∷ HostKey ∷ []
before EncSc = Kex ∷ HostKey ∷ EncCs ∷ []
before MacCs = Kex ∷ HostKey ∷ EncCs ∷ EncSc ∷ []
before MacSc = Kex ∷ HostKey ∷ EncCs ∷ EncSc ∷ MacCs ∷ []
before CompCs = Kex ∷ HostKey ∷ EncCs ∷ EncSc ∷ MacCs ∷ MacSc ∷ []
before CompSc = Kex ∷ HostKey ∷ EncCs ∷ EncSc ∷ MacCs ∷ MacSc ∷ CompCs ∷ []

-- The kind has no common name, and each kind before it has one.
pub record IsFirstWithout (client server : Lists) (kind : Kind) : Type 0 where
  pub none : HasNoCommon (offered kind client) (offered kind server)
  pub earlier : AllByRecursion (λ k. HasCommon (offered k client) (offered k server)) (before kind)

-- ---- the guess

-- The guess of a first packet is right if both ends list the same method first and the same host key name first.
pub record IsRightGuess (client server : Lists) : Type 0 where
  pub kex : slice_get (methods client.kex) 0 ≡ slice_get (methods server.kex) 0
  pub host : slice_get client.host 0 ≡ slice_get server.host 0

-- ---- the hashed text

-- Each length fits into the uint32 that stands before its string.
pub record Fits (x : Inputs) : Type 0 where
  pub client_version : length x.client_version < 2 ^ 32
  pub server_version : length x.server_version < 2 ^ 32
  pub client_init : length x.client_init < 2 ^ 32
  pub server_init : length x.server_init < 2 ^ 32
  pub host_key : length x.host_key < 2 ^ 32
  pub client_point : length x.client_point < 2 ^ 32
  pub server_point : length x.server_point < 2 ^ 32
  pub shared : length (mpint_body x.shared) < 2 ^ 32
