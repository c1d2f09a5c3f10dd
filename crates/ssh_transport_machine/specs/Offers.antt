-- What an end offers in a KEXINIT of its own (RFC 4253 section 7.1), from its settings.
use Rattle.std.specs.Prelude.{ℕ, Bool, false, if◌then◌else◌, List, [], ◌∷◌, ◌++◌, codes}
use Rattle.ssh_model.specs.declared.side.Side.{Side}
use Rattle.ssh_model.specs.Protocol.Wire.Message.{Proposal}
use Rattle.ssh_model.specs.Protocol.Sessions.Parties.{Settings, first_markers}

-- The markers of extensions and of strict key exchange stand last in the first KEXINIT and in no later one.
abbrev pub offered_kex : Settings → Side → (first : Bool) → List (List ℕ)
offered_kex s side first = if first then s.kex ++ first_markers s side else s.kex

-- these kex names with what is the same in every KEXINIT of an end
abbrev pub offer_with : Settings → (kex : List (List ℕ)) → (cookie : List ℕ) → Proposal
offer_with s kex cookie = record {
  cookie = cookie;
  kex = kex;
  host = s.host;
  enc_cs = s.encryption;
  enc_sc = s.encryption;
  mac_cs = s.mac;
  mac_sc = s.mac;
  comp_cs = codes "none" ∷ [];
  comp_sc = codes "none" ∷ [];
  lang_cs = [];
  lang_sc = [];
  follows = false;
}

abbrev pub offer_of : Settings → Side → (first : Bool) → (cookie : List ℕ) → Proposal
offer_of s side first cookie = offer_with s (offered_kex s side first) cookie
