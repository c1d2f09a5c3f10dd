-- One end, whatever comes.
use Rattle.std.proofs.Common.{◌≡◌, List, [], ◌∷◌, ◌++◌, refl, ap, arith}
use Rattle.ssh_model.specs.declared.side.Side.{Side}
use Rattle.ssh_model.specs.declared.side.Side.TheVariants.{Client, Server}
use Rattle.ssh_model.specs.Protocol.Side.{peer, part, done_by}
use Rattle.ssh_model.specs.Protocol.Channels.Notes.{Note, said_all, took_all, opens, next_own, next_theirs}
use Rattle.ssh_model.specs.State.Channels.Rules.{EndRun, EndRun.start, EndRun.opening, EndRun.saying, EndRun.take_open, EndRun.refuse_open, EndRun.take, Run, Run.start, Run.swap, Run.opening, Run.saying, Run.take_open, Run.refuse_open, Run.take}
use Rattle.ssh_model.specs.Protocol.Channels.History.{Item, noted}
use Rattle.ssh_model.specs.ChannelLayer.Rows.{Turn, EndTurns, EndTurns.begins, EndTurns.then_turn, Done, PairRun, PairRun.begins, PairRun.then_turn}
use Rattle.ssh_model.specs.Protocol.Channels.Claims.{WindowsHere}
use Rattle.ssh_model.proofs.Channels.Lines.{mine_own}
use Rattle.ssh_model.proofs.Channels.Local.{Local, local_says, local_takes, local_opening, local_take_open, local_refuse_open, nothing_noted}
use Rattle.ssh_model.proofs.Channels.Taken.{Can}
use Rattle.ssh_model.proofs.Channels.Turn.{Stands, end_nothing, turned}

pub local : (s : Side) (h : List Note) → EndRun s h → Local s h
local s h start = nothing_noted s
local s h (opening {notes = b} x w k r free small) =
    let v = local s b r in
    local_opening s b v x (next_own s b) x w k (v.fresh (opens (said_all b)) (omega arith)) free small refl refl
local s h (saying {notes = b} x i m r may) = local_says s b x i m (local s b r) may
local s h (take_open {notes = b} x f w k r free) =
    let v = local s b r in
    local_take_open s b v x (next_theirs s b) f w k (v.fresh_peer (opens (took_all b)) (omega arith)) free (mine_own (peer s) (opens (took_all b))) refl
local s h (refuse_open {notes = b} f w k r) = local_refuse_open s b (local s b r) f w k
local s h (take {notes = b} x i m r may) = local_takes s b x i m (local s b r) may

pub windows_here : (s : Side) (h : List Note) → EndRun s h → WindowsHere h
windows_here s h r i = let g = (local s h r).good i in (g.said_fits, g.took_fits)

-- ---- each end of two

record Each (s : Side) (h g : List Note) : Type 0 where
  this : EndRun s h
  that : EndRun (peer s) g

each_turned : (s : Side) (h g : List Note) → Each s h g → Each (peer s) g h
each_turned Client h g v = record { this = v.that; that = v.this }
each_turned Server h g v = record { this = v.that; that = v.this }

each : (s : Side) (h g : List Note) → Run s h g → Each s h g
each s h g start = record { this = start; that = start }
each s h g (swap {side = t} {notes = a} {others = b} r) = each_turned t a b (each t a b r)
each s h g (opening {notes = b} x w k r free small) = let v = each s b g r in record { this = opening x w k v.this free small; that = v.that }
each s h g (saying {notes = b} x i m r may) = let v = each s b g r in record { this = saying x i m v.this may; that = v.that }
each s h g (take_open {notes = b} x f w k r free n) = let v = each s b g r in record { this = take_open x f w k v.this free; that = v.that }
each s h g (refuse_open {notes = b} f w k r n) = let v = each s b g r in record { this = refuse_open f w k v.this; that = v.that }
each s h g (take {notes = b} x i m r may n) = let v = each s b g r in record { this = take x i m v.this may; that = v.that }

pub each_here : (s : Side) (h g : List Note) → Run s h g → EndRun s h
each_here s h g r = (each s h g r).this

pub each_there : (s : Side) (h g : List Note) → Run s h g → EndRun (peer s) g
each_there s h g r = (each s h g r).that

-- ---- turns of one end

pub can_alone : (s : Side) → Can s (EndRun s) (λ n m. Unit {0})
can_alone s = record {
  stands = λ n r. local s n r;
  opening = λ n x w k r free small. opening x w k r free small;
  saying = λ n x i m r may. saying x i m r may;
  take_open = λ n x f w k r free c. take_open x f w k r free;
  refuse_open = λ n f w k r c. refuse_open f w k r;
  take = λ n x i m r may c. take x i m r may;
}

alone : (s : Side) (h : List Item) → EndTurns s h → Stands s (EndRun s) h
alone s h begins = record { run = start; end = end_nothing s }
alone s h (then_turn {history = b} {items = items} r turn) = turned s (EndRun s) (λ n m. Unit {0}) (can_alone s) b (alone s b r) items turn (λ m e. tt)

pub end_run : (s : Side) (h : List Item) → EndTurns s h → EndRun s (noted s h)
end_run s h r = (alone s h r).run

-- ---- the turns of each end of two

pub part_own : (side : Side) (items : List Item) (run : List Done) → part side (done_by side items ++ run) ≡ items ++ part side run
part_own side [] run = refl
part_own Client (i ∷ items) run = ap (λ l. i ∷ l) (part_own Client items run)
part_own Server (i ∷ items) run = ap (λ l. i ∷ l) (part_own Server items run)

pub part_other : (side : Side) (items : List Item) (run : List Done) → part (peer side) (done_by side items ++ run) ≡ part (peer side) run
part_other side [] run = refl
part_other Client (i ∷ items) run = part_other Client items run
part_other Server (i ∷ items) run = part_other Server items run

pub part_turns : (run : List Done) → PairRun run → (s : Side) → EndTurns s (part s run)
part_turns run begins Client = begins
part_turns run begins Server = begins
part_turns run (then_turn {run = r} {items = items} side before turn) s = go side s turn (part_turns r before)
  where
    go : (t s : Side) → Turn t (part t r) items → ((s : Side) → EndTurns s (part s r)) → EndTurns s (part s (done_by t items ++ r))
    go Client Client u p = rw (part_own Client items r) (then_turn (p Client) u)
    go Server Server u p = rw (part_own Server items r) (then_turn (p Server) u)
    go Client Server u p = rw (part_other Client items r) (p Server)
    go Server Client u p = rw (part_other Server items r) (p Client)
