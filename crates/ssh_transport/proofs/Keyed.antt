-- What holds of what a live machine keeps, once an exchange is over.
use Rattle.std.proofs.Common.{◌≡◌, ℕ, ◌+◌, ◌≤◌, List, ap, arith, true, Option, Some, None}
use Rattle.std.proofs.lemmas.Bool.{false≢true}
use Rattle.ssh_model.specs.State.TransportLayer.Kept.{Transport, after_sent}
use Rattle.ssh_model.specs.State.TransportLayer.Summary.{bit}
use Rattle.ssh_transport.specs.Choices.{IsChoosing}
use Rattle.ssh_transport_machine.specs.Finishing.{after_announced, forgotten, keyed}
use Rattle.ssh_transport.specs.Living.{IsKeptLive}

later : (come b gone : ℕ) → come + b ≤ gone → come + 1 ≤ gone + 1
later come b gone l = omega (arith, l)

over : (gone fed b m : ℕ) → b ≡ 1 → gone + (b + m) ≤ fed → gone + 1 + (0 + m) ≤ fed
over gone fed b m e l = omega (arith, e, l)

module _ {K : Type 0} where
  keyed_kept : (own theirs : K) (session : List ℕ) (k : Transport K) → k.blocked ≡ true → IsKeptLive k → IsKeptLive (forgotten (keyed own theirs session k))
  keyed_kept own theirs session k shut a = record {
    pending = λ e f. cc f;
    blocked = λ e. absurd (false≢true e);
    taken_epochs = later _ _ _ a.taken_epochs;
    sent_epochs = over _ _ _ _ (ap bit shut) a.sent_epochs;
    fed = a.fed;
    begun = λ e f. absurd (false≢true f);
    granted = λ e f. absurd (false≢true f);
  }

  sent : (k : Transport K) → IsKeptLive k → IsKeptLive (after_sent k)
  sent k a = record { pending = a.pending; blocked = a.blocked; taken_epochs = a.taken_epochs; sent_epochs = a.sent_epochs; fed = a.fed; begun = a.begun; granted = a.granted }

  pub keyed_on : (own theirs : K) (session : List ℕ) (announcement : Option (List ℕ)) (k : Transport K) → k.blocked ≡ true → IsKeptLive k → IsKeptLive (after_announced announcement (forgotten (keyed own theirs session k)))
  keyed_on own theirs session (Some payload) k shut a = sent (forgotten (keyed own theirs session k)) (keyed_kept own theirs session k shut a)
  keyed_on own theirs session None k shut a = keyed_kept own theirs session k shut a

  pub keyed_chooses : (own theirs : K) (session : List ℕ) (announcement : Option (List ℕ)) (k : Transport K) → IsChoosing (after_announced announcement (forgotten (keyed own theirs session k)))
  keyed_chooses own theirs session (Some payload) k = record { choice = λ e. absurd (false≢true e) }
  keyed_chooses own theirs session None k = record { choice = λ e. absurd (false≢true e) }
