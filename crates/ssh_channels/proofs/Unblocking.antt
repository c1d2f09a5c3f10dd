-- A reply that was owed is given.
use Rattle.std.proofs.Common.{◌≡◌, [], ◌∷◌, Some, None, refl}
use Rattle.ssh_model.specs.State.Channels.Kept.{Channels, DueReply, Unblocks, Unblocks.oldest, Unblocks.nothing, freed_by}

pub given : (reply : DueReply) (old new popped : Channels) → old ≡ record popped { owed = reply ∷ popped.owed } → new ≡ freed_by reply popped → Unblocks old (Some reply) new
given reply old new popped o n = rw (o, n) (oldest reply popped.owed refl)

pub none_given : (old new : Channels) → old.owed ≡ [] → new ≡ old → Unblocks old None new
none_given old new o n = rw n (nothing o)
