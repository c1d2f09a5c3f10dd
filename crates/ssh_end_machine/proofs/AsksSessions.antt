-- What comes of an ask, as a row of the end, is a turn of a session.
use Rattle.std.proofs.Common.{◌≡◌, ℕ, List, [], ◌∷◌, sym, ◌∙◌, subst, false, Result, Ok, Err}
use Rattle.ssh_model.specs.declared.side.Side.{Side}
use Rattle.ssh_model.specs.Protocol.Sessions.Items as session
use Rattle.ssh_model.specs.Protocol.Sessions.Items.{Item, Item.Asked, Item.AskRefused}
use Rattle.ssh_model.specs.Protocol.Sessions.Parties.{Parties}
use Rattle.ssh_model.specs.Protocol.Sessions.Refusals.{first_refusal}
use Rattle.ssh_model.specs.Protocol.Sessions.Turns.{AsksTurn, ask_checks}
use Rattle.ssh_model.specs.State.End.Asks.{TakesAsk, end_ask_checks}
use Rattle.ssh_model.specs.State.End.State.{EndState}
use Rattle.ssh_model.specs.State.End.Summary.{EndSumsUp, EndTurned}
use Rattle.ssh_transport_machine.specs.Puts.{Outs}
use Rattle.ssh_end_machine.specs.Asking.{DoneInSession, RowOf}
use Rattle.ssh_end_machine.specs.declared.asking.outcome.Fault.{Fault}
use Rattle.ssh_end_machine.specs.declared.asking.outcome.Fault.TheVariants as fault
use Rattle.ssh_end_machine.specs.declared.asking.outcome.AskStep.{AskStep}

module _ {K : Type 0} (refused : (p : Parties K) (side : Side) (history : List Item) (e : EndState K) → EndSumsUp p side history e → e.transport.dead ≡ false → (ask : session.Ask) → first_refusal (ask_checks p side history ask) ≡ first_refusal (end_ask_checks p side e ask))
    (taken : (p : Parties K) (side : Side) (history : List Item) (e : EndState K) → EndSumsUp p side history e → (ask : session.Ask) (items : List Item) (more : List ℕ) (new : EndState K) → TakesAsk p side e ask items more new → EndTurned p side history (AsksTurn p side history ask) items more new) where
  pub turned : (p : Parties K) (side : Side) (history : List Item) (old : EndState K) (asked : session.Ask) → EndSumsUp p side history old → (result : Result AskStep Fault) (new : EndState K) (o : Outs) → RowOf p side old asked result new o → DoneInSession p side history old asked result new o
  turned p side history old asked sums (Ok step) new o x = record {
    items = x.items;
    more = x.more;
    shows = x.shows;
    turned = taken p side history old sums asked x.items x.more new x.takes;
    parts = x.parts;
    lists = x.lists;
  }
  turned p side history old asked sums (Err (fault.Ask why)) new o x = record {
    why_is = refused p side history old sums x.alive asked ∙ x.why_is;
    turned = subst (λ (e : EndState K). EndTurned p side history (AsksTurn p side history asked) (AskRefused why ∷ Asked asked ∷ []) [] e) (sym x.same)
        (taken p side history old sums asked _ _ old (TakesAsk.refused asked why x.alive x.why_is));
    same = x.same;
  }
  turned p side history old asked sums (Err fault.Memory) new o x = record { turned = taken p side history old sums asked _ _ new x.takes; dead = x.dead }
  turned p side history old asked sums (Err fault.Dead) new o x = x
