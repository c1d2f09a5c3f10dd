-- The handling of a pair of cookie and secret by an end.
use Rattle.std.specs.Prelude.{◌≡◌, Bool, true, false, List, ℕ}
use Rattle.ssh_model.specs.State.TransportLayer.Kept.{after_fed, can_be_fed}
use Rattle.ssh_transport_machine.specs.State.{State}

-- The end keeps exactly this pair, or keeps none and stays as it was.
pub record Feeds {K : Type 0} (old : State K) (cookie secret : List ℕ) (is_taken : Bool) (new : State K) : Type 0 where
  pub taken : is_taken ≡ can_be_fed old.kept
  pub fed : is_taken ≡ true → new ≡ record old { kept = after_fed cookie secret old.kept }
  pub unfed : is_taken ≡ false → new ≡ old
