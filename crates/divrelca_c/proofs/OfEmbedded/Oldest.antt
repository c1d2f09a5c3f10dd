-- The ask that a queue shows first is the oldest one.
use Rattle.std.proofs.Common.{◌≡◌, ℕ, ◌<◌, List, [], ◌∷◌, Option, length, slice_index_or, subst, arith}
use Rattle.ssh_end_machine.specs.declared.asking.Ask.{Ask}
use Rattle.ssh_model.specs.declared.ask_refusal.AskRefusal.{AskRefusal}
use Rattle.divrelca_c.specs.Embedded.Flows.{FlowCounts}
use Rattle.divrelca_c.specs.Embedded.Queues.{IsMadeFor, IsOldestMade, asked_by, is_past}
use Rattle.divrelca_c.specs.declared.embedded.waiting.Queued.{Queued}

pub oldest_made : (waiting : List Queued) (front : Queued) (flows : List FlowCounts) (key : Option (List ℕ)) (Does : Ask → Type 0)
    (Left : AskRefusal → Type 0) → 0 < length waiting → front ≡ slice_index_or waiting 0 front →
    IsMadeFor (is_past front flows) (asked_by front.ask key) Does Left → IsOldestMade waiting flows key Does Left
oldest_made [] front flows key Does Left some is made = absurd (omega (arith, some))
oldest_made (oldest ∷ others) front flows key Does Left some is made =
    subst (λ queued. IsMadeFor (is_past queued flows) (asked_by queued.ask key) Does Left) is made
