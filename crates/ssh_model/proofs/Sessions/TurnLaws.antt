-- What holds of the turns of one end, and of the numbers in the runs of a transport.
use Rattle.std.proofs.Common.{◌≡◌, ℕ, List, [], ◌∷◌, ◌++◌, inl, inr, refl, sym, subst, append_assoc, arith, Option, None}
use Rattle.ssh_model.specs.declared.side.Side.{Side}
use Rattle.ssh_model.specs.Protocol.Sessions.Parties.{Parties}
use Rattle.ssh_model.specs.Protocol.Sessions.Items.{Item, Item.Asked, Item.Sent, Item.Took}
use Rattle.ssh_model.specs.Protocol.Sessions.Phases.{Phase.Guessed, phase}
use Rattle.ssh_model.specs.Protocol.Wire.Outcome.{Outcome}
use Rattle.ssh_model.specs.Protocol.Sessions.Turns.{AreNumbered, Refuses, Refuses.silently, Refuses.spent, Refuses.said, OnPayload, OnPayload.takes, OnPayload.skips, OnPayload.unexpected, OnPayload.bad_message, OnPayload.refuses, OnPayload.spends, OnOutcome, OnOutcome.other_line, OnOutcome.version_line, OnOutcome.refused_line, OnOutcome.opened, OnOutcome.refused_packet, FeedsTurn, AsksTurn, AsksTurn.refuses, AsksTurn.spends, OnUnit.reads, Turn, Turn.asks, Turn.reads, IsOpening, EndRun, OnUnit}
use Rattle.ssh_model.specs.Protocol.Sessions.AnyLayers.{TransportTurn, TransportTurn.of_end, TransportTurn.completes, TransportRun}
use Rattle.ssh_model.specs.Protocol.Sessions.TurnClaims.{HasNumbers}
use Rattle.ssh_model.specs.Laws.Turns.{IsSkipped}
use Rattle.ssh_model.proofs.Sessions.TransportRuns.{transport_run}
use Rattle.ssh_model.specs.declared.refusal.Refusal.{Refusal}
use Rattle.ssh_model.specs.declared.refusal.Refusal.TheVariants.{BadMessage, Unexpected}

pub skipped : {K : Type 0} (p : Parties K) (side : Side) (h items : List Item) (payload : List ℕ) → phase p side h ≡ Guessed → OnPayload p side h payload items → IsSkipped p side h payload items
skipped p side h items payload e (takes channel message w a s n) = absurd (w.no_guess e)
skipped p side h items payload e (skips f m) = inl refl
skipped p side h items payload e (unexpected m r) = inr m
skipped p side h items payload e (bad_message m g n r) = absurd (g e)
skipped p side h items payload e (refuses message refusal m g i c r) = absurd (g e)
skipped p side h items payload e (spends channel message w a s n) = absurd (w.no_guess e)

-- ---- numbers

add : (items h : List Item) → AreNumbered items h → HasNumbers h → HasNumbers (items ++ h)
add [] h a n = n
add (Sent channel message payload ∷ items) h a n = (a.0, add items h a.1 n)
add (_ ∷ items) h a n = add items h a n

add_over : (items : List Item) (i : Item) (h : List Item) → AreNumbered items (i ∷ h) → HasNumbers (i ∷ h) → HasNumbers ((items ++ i ∷ []) ++ h)
add_over items i h a n = subst HasNumbers (sym (append_assoc items (i ∷ []) h)) (add items (i ∷ h) a n)

refusal_numbers : (h items : List Item) (refusal : Refusal) (payload : Option (List ℕ)) → Refuses h refusal payload items → HasNumbers h → HasNumbers (items ++ h)
refusal_numbers h items refusal payload (silently e) n = n
refusal_numbers h items refusal payload (spent e) n = n
refusal_numbers h items refusal payload (said reason bytes e below s) n = (below, n)

payload_numbers : {K : Type 0} (p : Parties K) (side : Side) (h items : List Item) (payload : List ℕ) → OnPayload p side h payload items → HasNumbers h → HasNumbers (items ++ h)
payload_numbers p side h items payload (takes {items = more} channel message w a s numbered) n = add_over more (Took channel message payload) h numbered n
payload_numbers p side h items payload (skips f m) n = n
payload_numbers p side h items payload (unexpected m r) n = refusal_numbers h items Unexpected _ r n
payload_numbers p side h items payload (bad_message m g none r) n = refusal_numbers h items BadMessage _ r n
payload_numbers p side h items payload (refuses message refusal m g i c r) n = refusal_numbers h items refusal _ r n
payload_numbers p side h items payload (spends channel message w a s over) n = n

outcome_numbers : {K : Type 0} (p : Parties K) (side : Side) (h items : List Item) (outcome : Outcome) → OnOutcome p side h outcome items → HasNumbers h → HasNumbers (items ++ h)
outcome_numbers p side h items outcome (other_line line) n = n
outcome_numbers p side h items outcome (version_line line) n = n
outcome_numbers p side h items outcome (refused_line refusal r) n = refusal_numbers h items refusal _ r n
outcome_numbers p side h items outcome (opened payload o) n = payload_numbers p side h items payload o n
outcome_numbers p side h items outcome (refused_packet refusal r) n = refusal_numbers h items refusal _ r n

turn_numbers : {K : Type 0} (p : Parties K) (side : Side) (h items : List Item) → Turn p side h items → HasNumbers h → HasNumbers (items ++ h)
turn_numbers p side h items (Turn.feeds cookie secret (FeedsTurn.feeds k m)) n = n
turn_numbers p side h items (Turn.feeds cookie secret (FeedsTurn.answers_false f)) n = n
turn_numbers p side h items (asks ask (AsksTurn.refuses refusal d c)) n = n
turn_numbers p side h items (asks ask (AsksTurn.answers {items = more} d c o s numbered)) n = add_over more (Asked ask) h numbered n
turn_numbers p side h items (asks ask (AsksTurn.spends d c o s over)) n = n
turn_numbers p side h items (asks ask (AsksTurn.dies d c o s numbered)) n = n
turn_numbers p side h items (asks ask (AsksTurn.is_dead d)) n = n
turn_numbers p side h items (reads unit d (OnUnit.reads outcome u o)) n = outcome_numbers p side h items outcome o n
turn_numbers p side h items (reads unit d (OnUnit.dies outcome u o m)) n = n

opening_numbers : {K : Type 0} (p : Parties K) (side : Side) (items : List Item) → IsOpening p side items → HasNumbers items
opening_numbers p side items o = rw o.items_are (omega arith, tt)

above_numbers : {K : Type 0} (p : Parties K) (side : Side) (h items : List Item) → TransportTurn p side h items → HasNumbers h → HasNumbers (items ++ h)
above_numbers p side h items (of_end turn) n = turn_numbers p side h items turn n
above_numbers p side h items (TransportTurn.sends channel message payload a) n = (a.room, n)
above_numbers p side h items (TransportTurn.takes channel message payload a) n = n
above_numbers p side h items (completes {items = more} message payload alive w a s numbered) n = add_over more (Took None message payload) h numbered n
above_numbers p side h items (TransportTurn.refuses refusal payload alive r) n = refusal_numbers h items refusal payload r n
above_numbers p side h items (TransportTurn.dies alive) n = n

pub run_numbers : {K : Type 0} (p : Parties K) (side : Side) (h : List Item) → TransportRun p side h → HasNumbers h
run_numbers p side h (TransportRun.start o) = opening_numbers p side h o
run_numbers p side h (TransportRun.then_turn {h = b} {items = items} before turn) = above_numbers p side b items turn (run_numbers p side b before)

pub end_numbers : {K : Type 0} (p : Parties K) (side : Side) (h : List Item) → EndRun p side h → HasNumbers h
end_numbers p side h r = run_numbers p side h (transport_run p side h r)
