-- What an end did on an ask.
use Rattle.std.proofs.Common.{◌≡◌, ℕ, Bool, true, false, cond, List, [], ◌∷◌, ◌++◌, append-nil, refl, ap, sym, ◌∙◌, Ok, Err}
use Rattle.std.specs.Prelude.{IfOk, Option, Result}
use Rattle.std.proofs.lemmas.Bool.{false≢true}
use Rattle.ssh_model.specs.declared.side.Side.{Side}
use Rattle.ssh_model.specs.Protocol.Side.{done_by, part}
use Rattle.ssh_model.specs.State.End.State.{EndState}
use Rattle.ssh_model.specs.State.End.Summary.{EndTurned}
use Rattle.ssh_model.specs.Protocol.Sessions.Items.{Ask, Done, Item, Item.Asked, Item.AskRefused, Item.Died, has_died}
use Rattle.ssh_model.specs.Protocol.Sessions.Parties.{Parties}
use Rattle.ssh_model.specs.Protocol.Sessions.Turns.{AsksTurn}
use Rattle.ssh_transport_machine.specs.State.{State}
use Rattle.ssh_end_machine.specs.Asking.{AreAskChannels}
use Rattle.ssh_end_machine.specs.Calls.{outs_of}
use Rattle.ssh_end_machine.specs.Places.{AskedTo, StandsAfter}
use Rattle.ssh_end_machine.specs.declared.asking.outcome.AskStep.{AskStep}
use Rattle.ssh_end_machine.specs.declared.asking.outcome.Fault.{Fault}
use Rattle.ssh_end_machine.specs.declared.asking.outcome.Fault.TheVariants as fault
use Rattle.ssh_end.specs.TwoEnds.Recording.{Adds, AddsAsk}
use Rattle.ssh_end.specs.TwoEnds.Playing.{Answered}
use Rattle.ssh_end.specs.declared.item.Done as declared
use Rattle.ssh_end.proofs.TwoEnds.Advancing.{died_of, says_nothing}

-- a turn on an ask, with what was recorded of it
record Turn {K : Type 0} (p : Parties K) (side : Side) (run : List Done) (asked : Ask) (items : List Item) (new : EndState K) (log_old log_new : List declared.Done) (out_old out_new : List ℕ) : Type 0 where
  pub more : List ℕ
  pub turned : EndTurned p side (part side run) (AsksTurn p side (part side run) asked) items more new
  pub records : Adds side items log_old log_new
  pub out : out_new ≡ out_old ++ more

module _ {K : Type 0} (p : Parties K) (side : Side) (run : List Done) (parts layers : Type 0) (asked : Ask) (old : EndState K) (machine : State K) (new : EndState K) (kept_old kept_new : List ℕ) (S : List Done → Type 0)
    (log_old log_new : List declared.Done) (out_old out_new : List ℕ) (alive : has_died (part side run) ≡ false)
    (stand : (items : List Item) → StandsAfter p side parts layers (items ++ part side run) machine new → S (done_by side items ++ run))
    (keeps : new.transport.dead ≡ false → kept_new ≡ kept_old) (drops : new.transport.dead ≡ true → kept_new ≡ []) where
  kept_is : (dead : Bool) → new.transport.dead ≡ dead → kept_new ≡ cond dead [] kept_old
  kept_is true e = drops e
  kept_is false e = keeps e

  by_turn : (items : List Item) → StandsAfter p side parts layers (items ++ part side run) machine new → Turn p side run asked items new log_old log_new out_old out_new → Answered p side run asked kept_old kept_new S log_old log_new out_old out_new
  by_turn items place t = record {
    items = items;
    turn = t.turned.turn;
    kept = kept_is (has_died (items ++ part side run)) t.turned.sums.transport.dead_is;
    stands = stand items place;
    says = record { records = t.records; puts = record { more = t.more; puts = t.turned.puts; out = t.out } };
  }

  pub answered : (result : Result AskStep Fault) (is_over : Bool) (payloads : List (List ℕ)) (channels : List (Option ℕ)) → is_over ≡ new.transport.dead → (out_new_is : (fault : Fault) → result ≡ Err fault → out_new ≡ out_old) →
      AskedTo p side parts layers (part side run) old asked result machine new (outs_of out_old out_new payloads) → IfOk result (λ step. AreAskChannels asked step payloads channels) →
      AddsAsk side asked result payloads channels is_over log_old log_new →
      (old.transport.dead ≡ has_died (part side run)) → Answered p side run asked kept_old kept_new S log_old log_new out_old out_new
  answered (Ok step) is_over payloads channels over same x on n was = let d = x.done in by_turn d.items x.place (record {
    more = d.more;
    turned = d.turned;
    records = n d.items d.shows d.lists (on d.items d.shows d.lists) (over ∙ (d.turned.sums.transport.dead_is ∙ died_of d.items (part side run) alive));
    out = d.parts;
  })
  answered (Err (fault.Ask why)) is_over payloads channels over same x on n was = by_turn (AskRefused why ∷ Asked asked ∷ []) x.place (record { more = []; turned = x.done.turned; records = n; out = same _ refl ∙ sym (append-nil out_old) })
  answered (Err fault.Memory) is_over payloads channels over same x on n was = by_turn (Died ∷ []) x.place (record { more = []; turned = x.done.turned; records = n; out = same _ refl ∙ sym (append-nil out_old) })
  answered (Err fault.Dead) is_over payloads channels over same x on n was = absurd (false≢true (sym alive ∙ (sym was ∙ x.done.dead)))

-- a dead end does nothing
pub answered_dead : {K : Type 0} (p : Parties K) (side : Side) (run : List Done) (asked : Ask) (kept : List ℕ) (S : List Done → Type 0) (log : List declared.Done) (out : List ℕ) → has_died (part side run) ≡ true → kept ≡ [] → S run → Answered p side run asked kept kept S log log out out
answered_dead p side run asked kept S log out dead none s = record {
  items = [];
  turn = AsksTurn.is_dead dead;
  kept = none ∙ sym (ap (λ (b : Bool). cond b [] kept) dead);
  stands = s;
  says = says_nothing p side run log out;
}
