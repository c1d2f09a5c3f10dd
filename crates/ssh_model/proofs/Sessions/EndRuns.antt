-- Each end of a run of two makes a run of its own.
use Rattle.std.proofs.Common.{◌≡◌, List, [], ◌∷◌, ◌++◌, refl, ap, ◌∙◌, append-nil}
use Rattle.ssh_model.specs.declared.side.Side.{Side}
use Rattle.ssh_model.specs.declared.side.Side.TheVariants.{Client, Server}
use Rattle.ssh_model.specs.Protocol.Side.{peer, done_by, part}
use Rattle.ssh_model.specs.Protocol.Sessions.Parties.{Parties}
use Rattle.ssh_model.specs.Protocol.Sessions.Items.{Item, Done}
use Rattle.ssh_model.specs.Protocol.Sessions.Turns.{EndRun, EndRun.start as opens, EndRun.then_turn as goes, Run, Run.start, Run.then_turn}

pub part_own : (side : Side) (items : List Item) (run : List Done) → part side (done_by side items ++ run) ≡ items ++ part side run
part_own side [] run = refl
part_own Client (i ∷ items) run = ap (λ l. i ∷ l) (part_own Client items run)
part_own Server (i ∷ items) run = ap (λ l. i ∷ l) (part_own Server items run)

pub part_other : (side : Side) (items : List Item) (run : List Done) → part (peer side) (done_by side items ++ run) ≡ part (peer side) run
part_other side [] run = refl
part_other Client (i ∷ items) run = part_other Client items run
part_other Server (i ∷ items) run = part_other Server items run

part_all : (side : Side) (items : List Item) → part side (done_by side items) ≡ items
part_all side [] = refl
part_all Client (i ∷ items) = ap (λ l. i ∷ l) (part_all Client items)
part_all Server (i ∷ items) = ap (λ l. i ∷ l) (part_all Server items)

part_none : (side : Side) (items : List Item) → part (peer side) (done_by side items) ≡ []
part_none side [] = refl
part_none Client (i ∷ items) = part_none Client items
part_none Server (i ∷ items) = part_none Server items

-- the histories of the two openings
pub opened_client : (client server : List Item) → part Client (done_by Server server ++ done_by Client client) ≡ client
opened_client client server = part_other Server server (done_by Client client) ∙ part_all Client client

pub opened_server : (client server : List Item) → part Server (done_by Server server ++ done_by Client client) ≡ server
opened_server client server = part_own Server server (done_by Client client) ∙ (ap (λ l. server ++ l) (part_none Client client) ∙ append-nil server)

module _ {K : Type 0} (p : Parties K) where
  pub end_run : (run : List Done) → Run p run → (side : Side) → EndRun p side (part side run)
  end_run run (start client server a b) Client = rw (opened_client client server) (opens a)
  end_run run (start client server a b) Server = rw (opened_server client server) (opens b)
  end_run run (then_turn {run = r} {items = items} Client before turn) Client = rw (part_own Client items r) (goes (end_run r before Client) turn)
  end_run run (then_turn {run = r} {items = items} Client before turn) Server = rw (part_other Client items r) (end_run r before Server)
  end_run run (then_turn {run = r} {items = items} Server before turn) Client = rw (part_other Server items r) (end_run r before Client)
  end_run run (then_turn {run = r} {items = items} Server before turn) Server = rw (part_own Server items r) (goes (end_run r before Server) turn)
