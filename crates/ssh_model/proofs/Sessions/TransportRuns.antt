-- A run of an end is a run of its transport.
use Rattle.std.proofs.Common.{List}
use Rattle.ssh_model.specs.declared.side.Side.{Side}
use Rattle.ssh_model.specs.Protocol.Sessions.Parties.{Parties}
use Rattle.ssh_model.specs.Protocol.Sessions.Items.{Item}
use Rattle.ssh_model.specs.Protocol.Sessions.Turns.{EndRun}
use Rattle.ssh_model.specs.Protocol.Sessions.AnyLayers.{TransportTurn.of_end, TransportRun}

pub transport_run : {K : Type 0} (p : Parties K) (side : Side) (h : List Item) → EndRun p side h → TransportRun p side h
transport_run p side h (EndRun.start o) = TransportRun.start o
transport_run p side h (EndRun.then_turn {h = b} before turn) = TransportRun.then_turn (transport_run p side b before) (of_end turn)
