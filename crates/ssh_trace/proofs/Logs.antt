-- Records that are put after a run.
use Rattle.std.proofs.Common.{◌≡◌, List, [], ◌∷◌, ◌++◌, refl}
use Rattle.ssh_model.specs.Protocol.Side.{DoneBy.By}
use Rattle.ssh_model.specs.OneEpoch.History as history
use Rattle.ssh_trace.specs.History.{logged, item_of}
use Rattle.ssh_trace.specs.declared.history.Done.{Done}

pub logged_one : (run : List history.Done) (dones : List Done) (done : Done) → logged run (dones ++ done ∷ []) ≡ By done.side (item_of done.item) ∷ logged run dones
logged_one run [] done = refl
logged_one run (first ∷ dones) done = logged_one (By first.side (item_of first.item) ∷ run) dones done
