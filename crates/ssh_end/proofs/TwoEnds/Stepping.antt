-- What an end did with the bytes of one line or one packet, in a run of two.
use Rattle.std.proofs.Common.{◌≡◌, ℕ, List, [], ◌++◌, append-nil, append_assoc, ap, sym, ◌∙◌, subst}
use Rattle.ssh_model.specs.declared.side.Side.{Side}
use Rattle.ssh_model.specs.Protocol.Side.{done_by, part}
use Rattle.ssh_model.specs.Protocol.Wire.Delivery.{Delivered}
use Rattle.ssh_model.specs.Protocol.Sessions.Events.{PutsOut, reading_of}
use Rattle.ssh_model.specs.Protocol.Sessions.Items.{Done, Item}
use Rattle.ssh_model.specs.Protocol.Sessions.Parties.{Parties}
use Rattle.ssh_end.specs.TwoEnds.Recording.{Adds}
use Rattle.ssh_end.specs.TwoEnds.Playing.{Advanced, SaysOf}
use Rattle.ssh_end.specs.declared.item.Done as declared

module _ {K : Type 0} (p : Parties K) (side : Side) (run : List Done) (buffered bytes kept_old kept_new : List ℕ) (S : List Done → Type 0)
    (log_old log_new : List declared.Done) (out_old out_new : List ℕ) (kept_is : kept_old ≡ buffered) where
  -- they are buffered after what was buffered before
  pub waited : kept_new ≡ buffered ++ bytes → S run → Adds side [] log_old log_new → out_new ≡ out_old → Advanced p side run bytes kept_old kept_new S log_old log_new out_old out_new
  waited keeps s records out = record {
    items = [];
    reads = λ following last rest d.
        subst (λ (l : List ℕ). Delivered (reading_of p side) run l last rest) (ap (λ (l : List ℕ). l ++ following) keeps ∙ (append_assoc buffered bytes following ∙ ap (λ (l : List ℕ). l ++ (bytes ++ following)) (sym kept_is))) d;
    stands = s;
    says = record { records = records; puts = record { more = []; puts = λ b x. subst (λ (l : List ℕ). PutsOut p side (part side run) l) (sym (append-nil b)) x; out = out ∙ sym (append-nil out_old) } };
  }

  -- they end a unit, after which no byte is buffered
  pub used : (items : List Item) → kept_new ≡ [] →
      ((following : List ℕ) (last : List Done) (rest : List ℕ) → Delivered (reading_of p side) (done_by side items ++ run) following last rest → Delivered (reading_of p side) run ((buffered ++ bytes) ++ following) last rest) →
      S (done_by side items ++ run) → SaysOf p side run items log_old log_new out_old out_new → Advanced p side run bytes kept_old kept_new S log_old log_new out_old out_new
  used items none unit s says = record {
    items = items;
    reads = λ following last rest d.
        subst (λ (l : List ℕ). Delivered (reading_of p side) run l last rest) (append_assoc buffered bytes following ∙ ap (λ (l : List ℕ). l ++ (bytes ++ following)) (sym kept_is))
        (unit following last rest (subst (λ (l : List ℕ). Delivered (reading_of p side) (done_by side items ++ run) l last rest) (ap (λ (l : List ℕ). l ++ following) none) d));
    stands = s;
    says = says;
  }
