use Rattle.std.proofs.Common.{◌≡◌, take, false}
use Rattle.ssh_model.specs.OneEpoch.Runs.{World}
use Rattle.ssh_trace.specs.History.{events_of}
use Rattle.ssh_trace.specs.Pair.{Plays, StandsAt, keys_of}
use Rattle.ssh_trace.proofs.epoch_pair.EpochPair.play.Given as goal

abbrev pub invariant-loop-event : goal.invariant-loop-event
invariant-loop-event l = record {
  fine : l.self.failed ≡ false;
  keys : keys_of l.self ≡ keys_of l.fn.self;
  plays : (w : World) → StandsAt w l.fn.self → Plays (events_of (take l.event-index l.events)) l.fn.self l.self l.transcript.items.items l.transcript.client_bytes.items l.transcript.server_bytes.items w;
}
