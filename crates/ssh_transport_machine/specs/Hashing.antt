-- What both ends hash, and the keys that come of it, from what an end keeps.
use Rattle.std.specs.Prelude.{ℕ, List, unwrap_or}
use Rattle.ssh_model.specs.declared.side.Side.{Side}
use Rattle.ssh_model.specs.declared.side.Side.TheVariants.{Client, Server}
use Rattle.ssh_model.specs.Protocol.Wire.Sealing.{Crypto, Lengths}
use Rattle.ssh_model.specs.Protocol.KeyExchange.Exchange.{Inputs, derived}
use Rattle.ssh_model.specs.Protocol.KeyExchange.Exchanges.{cipher_letter, iv_letter, mac_letter, no_lengths}
use Rattle.ssh_model.specs.State.TransportLayer.Kept.{Transport}

-- with a host key, both points and the shared number
abbrev pub inputs_in : {K : Type 0} → Side → Transport K → (host_key client_point server_point : List ℕ) → (shared : ℕ) → Inputs
inputs_in Client s host_key client_point server_point shared = record {
  client_version = s.settings.line;
  server_version = s.lines.line;
  client_init = s.underway.own;
  server_init = s.underway.theirs;
  host_key = host_key;
  client_point = client_point;
  server_point = server_point;
  shared = shared;
}
inputs_in Server s host_key client_point server_point shared = record {
  client_version = s.lines.line;
  server_version = s.settings.line;
  client_init = s.underway.theirs;
  server_init = s.underway.own;
  host_key = host_key;
  client_point = client_point;
  server_point = server_point;
  shared = shared;
}

-- the bytes of key material under names of an encryption and a MAC
abbrev pub lengths_in : {K : Type 0} → Crypto K → (encryption mac : List ℕ) → Lengths
lengths_in c encryption mac = unwrap_or (c.lengths encryption mac) no_lengths

-- The key of the direction from this side (RFC 4253 section 7.2).
abbrev pub key_with : {K : Type 0} → Crypto K → Side → (shared : ℕ) → (hash session encryption mac : List ℕ) → K
key_with c from shared hash session encryption mac =
    c.made encryption mac (derived shared hash (iv_letter from) session (lengths_in c encryption mac).iv)
    (derived shared hash (cipher_letter from) session (lengths_in c encryption mac).cipher)
    (derived shared hash (mac_letter from) session (lengths_in c encryption mac).mac)
