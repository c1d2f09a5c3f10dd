-- What becomes of an end that memory was refused for what came to it, in a run of two.
use Rattle.std.proofs.Common.{◌≡◌, ℕ, true, false, List, [], ◌∷◌, ◌++◌, append-nil, append_assoc, take, drop, take-append-drop, ap, sym, ◌∙◌, subst}
use Rattle.std.proofs.lemmas.Bool.{false≢true}
use Rattle.ssh_model.specs.declared.side.Side.{Side}
use Rattle.ssh_model.specs.Protocol.Side.{done_by, part}
use Rattle.ssh_model.specs.Protocol.Wire.Delivery.{Delivered}
use Rattle.ssh_model.specs.Protocol.Sessions.Events.{PutsOut, reading_of}
use Rattle.ssh_model.specs.Protocol.Sessions.Items.{Done, Item, Item.Died, has_died}
use Rattle.ssh_model.specs.Protocol.Sessions.Parties.{Parties}
use Rattle.ssh_transport_machine.specs.State.{State}
use Rattle.ssh_transport.specs.declared.role.Role as exchange
use Rattle.ssh_end_machine.specs.Ends.{EndValue, IsFault}
use Rattle.ssh_end_machine.specs.RoleValues.{RoleValue}
use Rattle.ssh_end_machine.specs.Stands.{FailsTo}
use Rattle.ssh_end_machine.specs.declared.role.EndRole as role
use Rattle.ssh_end_machine.specs.declared.asking.outcome.Fault.{Fault}
use Rattle.ssh_end_machine.specs.declared.asking.outcome.Fault.TheVariants as fault
use Rattle.ssh_end.specs.TwoEnds.Recording.{Adds}
use Rattle.ssh_end.specs.TwoEnds.Playing.{Advanced}
use Rattle.ssh_end.specs.declared.item.Done as declared
use Rattle.ssh_end.proofs.TwoEnds.Advancing.{advanced_dead}

-- The unit by which the end died ends somewhere in the bytes, and what comes after it is dropped.
pub lost : {K : Type 0} (p : Parties K) (side : Side) → ((side : Side) (items : List Item) (run : List Done) → part side (done_by side items ++ run) ≡ items ++ part side run) →
    (run : List Done) (buffered bytes kept_old kept_new : List ℕ) (S : List Done → Type 0) (log_old log_new : List declared.Done) (out_old out_new : List ℕ) → kept_old ≡ buffered → (count : ℕ) → kept_new ≡ [] →
    ((following : List ℕ) (last : List Done) (rest : List ℕ) → Delivered (reading_of p side) (done_by side (Died ∷ []) ++ run) following last rest → Delivered (reading_of p side) run ((buffered ++ take count bytes) ++ following) last rest) →
    S (done_by side (Died ∷ []) ++ run) → Adds side (Died ∷ []) log_old log_new → ((b : List ℕ) → PutsOut p side (part side run) b → PutsOut p side (Died ∷ part side run) (b ++ [])) → out_new ≡ out_old →
    Advanced p side run bytes kept_old kept_new S log_old log_new out_old out_new
lost p side here run buffered bytes kept_old kept_new S log_old log_new out_old out_new kept_is count none unit s records puts out =
    let x : Advanced p side run (take count bytes) kept_old kept_new S log_old log_new out_old out_new = record {
      items = Died ∷ [];
      reads = λ following last rest d.
          subst (λ (l : List ℕ). Delivered (reading_of p side) run l last rest) (append_assoc buffered (take count bytes) following ∙ ap (λ (l : List ℕ). l ++ (take count bytes ++ following)) (sym kept_is))
          (unit following last rest (subst (λ (l : List ℕ). Delivered (reading_of p side) (done_by side (Died ∷ []) ++ run) l last rest) (ap (λ (l : List ℕ). l ++ following) none) d));
      stands = s;
      says = record { records = records; puts = record { more = []; puts = puts; out = out ∙ sym (append-nil out_old) } };
    } in
    subst (λ (l : List ℕ). Advanced p side run l kept_old kept_new S log_old log_new out_old out_new) (take-append-drop count bytes)
    (advanced_dead p side here run (take count bytes) (drop count bytes) kept_old kept_new S log_old log_new out_old out_new x (ap has_died (here side (Died ∷ []) run)))

-- ---- why bytes were not taken

-- the end is over, since memory was refused somewhere in the bytes
pub record Fell {K : Type 0} (new : State K) (Lost : Type 0) : Type 0 where
  pub dead : new.kept.dead ≡ true
  pub lost : Lost

-- An end that was not over before fell.
pub fell : {R X S F K : Type 0} (ends : role.Ghosts R X S F K) (exchanges : exchange.Ghosts X S F K) (p : Parties K) (history : List Item) (old new : EndValue K (RoleValue X R) F) (bytes : List ℕ) (why : Fault) → IsFault old.machine why new.machine → old.machine.kept.dead ≡ false →
    FailsTo ends exchanges p history old bytes why new → Fell new.machine (FailsTo ends exchanges p history old bytes fault.Memory new)
fell ends exchanges p history old new bytes fault.Memory x alive lost = record { dead = x.dead; lost = lost }
fell ends exchanges p history old new bytes fault.Dead x alive lost = absurd (false≢true (sym alive ∙ x.dead))
fell ends exchanges p history old new bytes (fault.Ask why) x alive lost = absurd x
