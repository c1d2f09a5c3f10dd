-- The payloads that went between two ends in a run, by the items of their transcript.
use Rattle.std.specs.Prelude.{ℕ, ◌+◌, ◌-◌, ◌^◌, min, Bool, true, false, cond, if◌then◌else◌, List, [], ◌∷◌, ◌++◌}
use Rattle.ssh_model.specs.Protocol.Lists.{IsPrefix}
use Rattle.ssh_model.specs.Protocol.Side.{peer}
use Rattle.ssh_model.specs.declared.side.Side.{Side}
use Rattle.ssh_model.specs.declared.side.Side.TheVariants.{Client, Server}
use Rattle.ssh_end.specs.declared.item.Done.{Done}
use Rattle.ssh_end.specs.declared.item.Item.{Item}
use Rattle.ssh_end.specs.declared.item.Item.TheVariants as item
use Rattle.ssh_play.specs.declared.safety.Way.{Way}
use Rattle.ssh_play.specs.declared.safety.Way.TheVariants as way
use Rattle.ssh_play.specs.declared.sweeping.Tally.{Tally}
use Rattle.ssh_play.specs.Prefixes.{after_first}

-- the payload that was taken, that of a packet after a wrong guess too
abbrev pub taken_in : Item → List (List ℕ)
taken_in (item.Took channel payload) = payload.items ∷ []
taken_in (item.Skipped payload) = payload.items ∷ []
taken_in _ = []

-- the payload that was sent
abbrev pub sent_in : Item → List (List ℕ)
sent_in (item.Sent channel payload) = payload.items ∷ []
sent_in _ = []

abbrev pub payload_in : Way → Item → List (List ℕ)
payload_in way.Taken item = taken_in item
payload_in way.Sent item = sent_in item

abbrev pub is_side : Side → Side → Bool
is_side Client Client = true
is_side Server Server = true
is_side _ _ = false

-- the payloads that an end took, or sent, in their order
abbrev pub went : Side → Way → List Done → List (List ℕ)
went side way [] = []
went side way (done ∷ run) = cond (is_side done.side side) (payload_in way done.item) [] ++ went side way run

-- An end refused its peer, or found its own numbers spent.
abbrev pub refuses : Item → Bool
refuses (item.Refused why) = true
refuses _ = false

abbrev pub is_refusal : Done → Bool
is_refusal done = refuses done.item

-- The payloads that an end took after its first NEWKEYS are a prefix of those that the other sent after its own.
abbrev pub TakesWhatIsSent : Side → List Done → Type 0
TakesWhatIsSent side run =
    IsPrefix (after_first (went side way.Taken run)) (after_first (went (peer side) way.Sent run))

-- So it is at both ends.
abbrev pub IsSafe : List Done → Type 0
IsSafe run = TakesWhatIsSent Client run × TakesWhatIsSent Server run

-- the numbers of runs with one more; none of them reaches 2^64
abbrev pub counted : (is_safe : Bool) → Tally → Tally
counted is_safe tally = record {
  runs = min (tally.runs + 1) (2 ^ 64 - 1);
  unsafe_runs = if is_safe then tally.unsafe_runs else min (tally.unsafe_runs + 1) (2 ^ 64 - 1);
}
