-- The source of the padding that the ends of a pair put out, and the payloads to which it belongs.
use Rattle.std.specs.Prelude.{◌≡◌, ℕ, true, false, List, [], ◌++◌}
use Rattle.ssh_model.specs.declared.side.Side.{Side}
use Rattle.ssh_model.specs.declared.side.Side.TheVariants.{Client, Server}
use Rattle.ssh_model.specs.Protocol.Wire.Sealing.{Crypto}
use Rattle.ssh_transport_machine.specs.Padding.{PadsTo, Sending}
use Rattle.ssh_end_machine.specs.Ends.{EndValue, sending_from, sending_to}
use Rattle.ssh_end.specs.TwoEnds.Recorded.{recorded_sent}
use Rattle.ssh_end.specs.TwoEnds.Playing.{Output, output_in}
use Rattle.ssh_end.specs.TwoEnds.Standing.{PairState}
use Rattle.ssh_end.specs.declared.item.Done.{Done}
use Rattle.ssh_end.specs.declared.item.Transcript.{Transcript}

-- the parts of a transcript: the record, and the bytes that each end put out
pub record Shown : Type 0 where
  pub log : List Done
  pub out : Output

abbrev pub shown_in : Transcript → Shown
shown_in t = record { log = t.items.items; out = output_in t }

abbrev pub nothing_shown : Shown
nothing_shown = record { log = []; out = record { client = []; server = [] } }

-- An end put out packets, each with the padding that its filler gave in one call, and nothing else. Their payloads are
-- those that were recorded as sent by it. Until it is over, its direction and its filler are those after the last packet.
-- After it is over, it stays over, puts out nothing, and nothing is recorded as sent by it.
pub record PadsOn {K R F : Type 0} (c : Crypto K) (gives : F → List ℕ → F → Type 0) (side : Side) (old : EndValue K R F)
    (log : List Done) (before : List ℕ) (new : EndValue K R F) (last : List Done) (after : List ℕ) : Type 0 where
  pub to : Sending K F
  pub padded : PadsTo c gives (sending_from old before) to
  pub bytes : to.bytes ≡ after
  pub recorded : recorded_sent side last ≡ recorded_sent side log ++ to.payloads
  pub direction : new.machine.kept.dead ≡ false → to.direction ≡ new.machine.kept.sending
  pub filler : new.machine.kept.dead ≡ false → to.filler ≡ new.filler
  pub over : old.machine.kept.dead ≡ true → new.machine.kept.dead ≡ true
  pub quiet : old.machine.kept.dead ≡ true → after ≡ before
  pub still : old.machine.kept.dead ≡ true → recorded_sent side last ≡ recorded_sent side log

-- both ends did, each with its filler
pub record PairPads {K R F Q G : Type 0} (c : Crypto K) (client_gives : F → List ℕ → F → Type 0)
    (server_gives : G → List ℕ → G → Type 0) (old new : PairState (EndValue K R F) (EndValue K Q G))
    (before after : Shown) : Type 0 where
  pub client : PadsOn c client_gives Client old.client before.log before.out.client new.client after.log after.out.client
  pub server : PadsOn c server_gives Server old.server before.log before.out.server new.server after.log after.out.server

-- Both ends opened. All that each end put out from then on are such packets, whose payloads were recorded.
pub record PairPadsFirst {K R F Q G : Type 0} (c : Crypto K) (client_gives : F → List ℕ → F → Type 0)
    (server_gives : G → List ℕ → G → Type 0) (of_client : Sending K F) (of_server : Sending K G)
    (pair : PairState (EndValue K R F) (EndValue K Q G)) (shown : Shown) : Type 0 where
  pub client : PadsTo c client_gives of_client (sending_to pair.client shown.out.client)
  pub server : PadsTo c server_gives of_server (sending_to pair.server shown.out.server)
  pub client_recorded : recorded_sent Client shown.log ≡ pair.client.sent
  pub server_recorded : recorded_sent Server shown.log ≡ pair.server.sent

-- The fillers are as before.
pub record SameFillers {K R F Q G : Type 0} (old new : PairState (EndValue K R F) (EndValue K Q G)) : Type 0 where
  pub client : new.client.filler ≡ old.client.filler
  pub server : new.server.filler ≡ old.server.filler
