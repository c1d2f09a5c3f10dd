-- What a transport keeps to, whatever the layers above it do, and what an end keeps to, whoever its peer is: all of it.
use Rattle.std.proofs.Common.{◌≡◌, List}
use Rattle.ssh_model.specs.declared.side.Side.{Side}
use Rattle.ssh_model.specs.declared.side.Side.TheVariants.{Client, Server}
use Rattle.ssh_model.specs.Protocol.Sessions.Parties.{Parties, AreLawful}
use Rattle.ssh_model.specs.Protocol.Sessions.Items.{Item}
use Rattle.ssh_model.specs.Protocol.Sessions.Turns.{EndRun}
use Rattle.ssh_model.specs.Protocol.Sessions.AnyLayers.{TransportRun}
use Rattle.ssh_model.specs.Protocol.Sessions.AnyPeer.{VerifiesHosts, RequiresAuthentication, KeepsTransport, IsGuarded}
use Rattle.ssh_model.proofs.Sessions.TransportRuns.{transport_run}
use Rattle.ssh_model.proofs.Sessions.TurnLaws.{run_numbers}
use Rattle.ssh_model.proofs.Sessions.Blocked.{run_keeps_to_exchange}
use Rattle.ssh_model.proofs.Channels.Run.{end_windows}
use Rattle.ssh_model.specs.Protocol.Sessions.Logins.{NeedsSuccess}
use Rattle.ssh_model.proofs.AnyPeer.Server.{requires_authentication}
use Rattle.ssh_model.proofs.AnyPeer.Login.{needs_success}
use Rattle.ssh_model.proofs.AnyPeer.Few.{answers_few}
use Rattle.ssh_model.proofs.AnyPeer.Small.{keeps_bounds}
use Rattle.ssh_model.proofs.AnyPeer.Clear.{takes_only_allowed, verifies_hosts, each_includes_own}
use Rattle.ssh_model.proofs.AnyPeer.First.{takes_only_exchange, requires_strict_exchange}
use Rattle.ssh_model.proofs.AnyPeer.Sent.{sends_only_exchange}
use Rattle.ssh_model.proofs.AnyPeer.Nonces.{uses_no_nonce_twice}

module _ {K : Type 0} (p : Parties K) (laws : AreLawful p) where
  hosts : (side : Side) (h : List Item) → TransportRun p side h → side ≡ Client → VerifiesHosts p h
  hosts Client h r e = verifies_hosts p laws h r
  hosts Server h r e = absurd (cc e)

  users : (side : Side) (h : List Item) → EndRun p side h → side ≡ Server → RequiresAuthentication p h
  users Server h r e = requires_authentication p laws h r
  users Client h r e = absurd (cc e)

  login : (side : Side) (h : List Item) → EndRun p side h → side ≡ Client → NeedsSuccess h
  login Client h r e = needs_success p laws h r
  login Server h r e = absurd (cc e)

  pub keeps_transport : (side : Side) (h : List Item) → TransportRun p side h → KeepsTransport p side h
  keeps_transport side h r = record {
    hosts = hosts side h r;
    own = each_includes_own p laws side h r;
    clear = takes_only_allowed p laws side h r;
    takes_only_exchange = takes_only_exchange p laws side h r;
    sends_only_exchange = sends_only_exchange p laws side h r;
    requires_strict = requires_strict_exchange p laws side h r;
    nonces = uses_no_nonce_twice p laws side h r;
    numbers = run_numbers p side h r;
    blocked = run_keeps_to_exchange p laws side h r;
  }

  pub guarded : (side : Side) (h : List Item) → EndRun p side h → IsGuarded p side h
  guarded side h r = record {
    transport = keeps_transport side h (transport_run p side h r);
    users = users side h r;
    login = login side h r;
    answers = answers_few p laws side h r;
    bounds = keeps_bounds p laws side h r;
    windows = end_windows p laws side h r;
  }
