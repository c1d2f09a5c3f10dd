-- What a turn in which an end is fed says of its history.
use Rattle.std.proofs.Common.{◌≡◌, ℕ, false, true, List, [], ◌∷◌}
use Rattle.ssh_model.specs.declared.side.Side.{Side}
use Rattle.ssh_model.specs.Protocol.Sessions.Items.{Item}
use Rattle.ssh_model.specs.Protocol.Sessions.Turns.{FeedsTurn, can_feed}

pub could_feed : {side : Side} {h rest : List Item} {cookie secret : List ℕ} {item : Item} → FeedsTurn side h cookie secret (item ∷ rest) → can_feed h ≡ true
could_feed (FeedsTurn.feeds can material) = can

pub could_not_feed : {side : Side} {h : List Item} {cookie secret : List ℕ} → FeedsTurn side h cookie secret [] → can_feed h ≡ false
could_not_feed (FeedsTurn.answers_false cannot) = cannot
