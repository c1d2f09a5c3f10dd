-- The pair of two ends in one epoch.
use Rattle.std.specs.Prelude.{◌≡◌, ℕ, Bool, List, ◌++◌}
use Rattle.ssh_model.specs.Laws.MacOnly.{mac_only}
use Rattle.ssh_model.specs.declared.side.Side.TheVariants.{Client, Server}
use Rattle.ssh_model.specs.Protocol.Side.{part}
use Rattle.ssh_model.specs.OneEpoch.History as history
use Rattle.ssh_model.specs.OneEpoch.Runs.{Event, Keys, Run, Step, World}
use Rattle.ssh_trace.specs.History.{logged}
use Rattle.ssh_trace.specs.EpochEnd.{End, EndSums}
use Rattle.ssh_trace.specs.declared.history.Done.{Done}

-- the two ends, and whether a call found no memory
pub record PairState : Type 0 where
  pub client : End
  pub server : End
  pub failed : Bool

-- the keys of the two directions
abbrev pub keys_of : PairState → Keys (List ℕ)
keys_of pair = record { client = pair.client.sending_key; server = pair.server.sending_key }

-- Each end opens under the key under which the other seals.
pub record ShareKeys (client server : End) : Type 0 where
  pub to_client : client.taking_key ≡ server.sending_key
  pub to_server : server.taking_key ≡ client.sending_key

-- The pair stands where a run stands: each end sums up its part of all that was done.
pub record StandsAt (w : World) (pair : PairState) : Type 0 where
  pub client : EndSums (part Client w.run) w.client_rest pair.client
  pub server : EndSums (part Server w.run) w.server_rest pair.server

-- What a transcript adds, put after all that was done before, is a run on these events.
pub record Plays (events : List Event) (old new : PairState) (items : List Done) (client_bytes server_bytes : List ℕ) (w : World) : Type 0 where
  pub end : World
  pub run : Run mac_only (keys_of old) w events end
  pub stands : StandsAt end new
  pub items_are : end.run ≡ logged w.run items
  pub client_bytes_are : end.client_bytes ≡ w.client_bytes ++ client_bytes
  pub server_bytes_are : end.server_bytes ≡ w.server_bytes ++ server_bytes

-- one event, of which the records and the bytes before it are known
pub record PlaysOne (event : Event) (old new : PairState) (items_old items_new : List Done) (client_old client_new server_old server_new : List ℕ) (w : World) : Type 0 where
  pub end : World
  pub step : Step mac_only (keys_of old) w event end
  pub stands : StandsAt end new
  pub items_are : (run : List history.Done) → w.run ≡ logged run items_old → end.run ≡ logged run items_new
  pub client_bytes_are : (before : List ℕ) → w.client_bytes ≡ before ++ client_old → end.client_bytes ≡ before ++ client_new
  pub server_bytes_are : (before : List ℕ) → w.server_bytes ≡ before ++ server_old → end.server_bytes ≡ before ++ server_new
