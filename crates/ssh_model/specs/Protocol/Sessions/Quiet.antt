-- No two ends wait for each other for ever (own).
use Rattle.std.specs.Prelude.{◌≡◌, ℕ, ◌≤◌, false, true, List, [], map, None}
use Rattle.ssh_model.specs.declared.side.Side.{Side}
use Rattle.ssh_model.specs.declared.side.Side.TheVariants.{Client}
use Rattle.ssh_model.specs.Protocol.Side.{peer, part}
use Rattle.ssh_model.specs.Protocol.Sessions.Parties.{Parties, Settings, AreLawful}
use Rattle.ssh_model.specs.Protocol.Sessions.Items.{Item, Done, bytes_of, sent, took}
use Rattle.ssh_model.specs.Protocol.Sessions.Epochs.{epoch}
use Rattle.ssh_model.specs.Protocol.Sessions.Phases.{Phase.Normal, phase, blocked, sent_service_request, took_service_accept, outstanding}
use Rattle.ssh_model.specs.Protocol.Channels.Connection.{owed_replies}

-- Each end took exactly the payloads that the other sent: nothing is under way.
abbrev pub IsDelivered : List Done → Type 0
IsDelivered run = (side : Side) → map bytes_of (took (part side run)) ≡ map bytes_of (sent (part (peer side) run))

-- An end awaits nothing of an exchange, is not blocked, owes nothing, and completed this number of exchanges each way.
pub record IsQuiet {K : Type 0} (p : Parties K) (side : Side) (h : List Item) (exchanges : ℕ) : Type 0 where
  pub phase_is : phase p side h ≡ Normal
  pub unblocked : blocked h ≡ false
  pub owes_nothing : owed_replies side h ≡ []
  pub sent_is : epoch (sent h) ≡ exchanges
  pub took_is : epoch (took h) ≡ exchanges

-- Both ends are quiet after the same exchanges, of which there is at least one. The client awaits neither the service nor an answer about
-- a user.
pub record IsSettled {K : Type 0} (p : Parties K) (run : List Done) : Type 0 where
  pub exchanges : ℕ
  pub some : 1 ≤ exchanges
  pub each : (side : Side) → IsQuiet p side (part side run) exchanges
  pub service : sent_service_request (part Client run) ≡ true → took_service_accept (part Client run) ≡ true
  pub user : outstanding (part Client run) ≡ None

-- There are lawful parties with these settings, so the laws of lawful parties say something of an end with any settings.
pub record HasParts (client server : Settings) : Type 0 where
  pub parties : Parties (List ℕ)
  pub lawful : AreLawful parties
  pub client_is : parties.client ≡ client
  pub server_is : parties.server ≡ server
