-- What an end did with a piece, out of what it did with the lines and packets of it.
use Rattle.std.proofs.Common.{◌≡◌, ℕ, true, false, List, [], ◌∷◌, ◌++◌, append-nil, append_assoc, refl, ap, sym, ◌∙◌, subst}
use Rattle.std.proofs.lemmas.Bool.{false≢true}
use Rattle.ssh_model.specs.declared.side.Side.{Side}
use Rattle.ssh_model.specs.Protocol.Side.{DoneBy.By, done_by, part}
use Rattle.ssh_model.specs.Protocol.Wire.Delivery.{Delivered}
use Rattle.ssh_model.specs.Protocol.Sessions.Events.{PutsOut, reading_of}
use Rattle.ssh_model.specs.Protocol.Sessions.Items.{Done, Item, has_died}
use Rattle.ssh_model.specs.Protocol.Sessions.Parties.{Parties}
use Rattle.ssh_end.specs.TwoEnds.Playing.{Advanced, PutsMore, SaysOf}
use Rattle.ssh_end.specs.declared.item.Done as declared
use Rattle.ssh_end.proofs.TwoEnds.Recording.{adds_more, adds_nothing}

-- ---- of lists

pub done_more : (side : Side) (late early : List Item) (run : List Done) → done_by side (late ++ early) ++ run ≡ done_by side late ++ (done_by side early ++ run)
done_more side [] early run = refl
done_more side (item ∷ late) early run = ap (λ (l : List Done). By side item ∷ l) (done_more side late early run)

-- what is added to a history of an end that went on decides whether it is dead
pub died_of : (items history : List Item) → has_died history ≡ false → has_died (items ++ history) ≡ has_died items
died_of [] history e = e
died_of (Item.Died ∷ items) history e = refl
died_of (Item.Fed cookie secret ∷ items) history e = died_of items history e
died_of (Item.Asked ask ∷ items) history e = died_of items history e
died_of (Item.AskRefused why ∷ items) history e = died_of items history e
died_of (Item.SentLine line ∷ items) history e = died_of items history e
died_of (Item.TookLine line ∷ items) history e = died_of items history e
died_of (Item.TookOtherLine line ∷ items) history e = died_of items history e
died_of (Item.Sent channel message payload ∷ items) history e = died_of items history e
died_of (Item.Took channel message payload ∷ items) history e = died_of items history e
died_of (Item.TookGuess payload ∷ items) history e = died_of items history e
died_of (Item.Told fact ∷ items) history e = died_of items history e
died_of (Item.Refused why payload ∷ items) history e = died_of items history e

-- ---- records and bytes

pub puts_nothing : {K : Type 0} (p : Parties K) (side : Side) (history : List Item) (out : List ℕ) → PutsMore p side history history out out
puts_nothing p side history out = record { more = []; puts = λ bytes x. subst (λ (l : List ℕ). PutsOut p side history l) (sym (append-nil bytes)) x; out = sym (append-nil out) }

pub puts_more : {K : Type 0} (p : Parties K) (side : Side) (one two three : List Item) (a b c : List ℕ) → PutsMore p side one two a b → PutsMore p side two three b c → PutsMore p side one three a c
puts_more p side one two three a b c x y = record {
  more = x.more ++ y.more;
  puts = λ bytes put. subst (λ (l : List ℕ). PutsOut p side three l) (append_assoc bytes x.more y.more) (y.puts (bytes ++ x.more) (x.puts bytes put));
  out = y.out ∙ (ap (λ (l : List ℕ). l ++ y.more) x.out ∙ append_assoc a x.more y.more);
}

pub says_nothing : {K : Type 0} (p : Parties K) (side : Side) (run : List Done) (log : List declared.Done) (out : List ℕ) → SaysOf p side run [] log log out out
says_nothing p side run log out = record { records = adds_nothing side log; puts = puts_nothing p side (part side run) out }

module _ {K : Type 0} (p : Parties K) (side : Side)
    (here : (side : Side) (items : List Item) (run : List Done) → part side (done_by side items ++ run) ≡ items ++ part side run) where
  says_more : (run : List Done) (early late : List Item) (one two three : List declared.Done) (a b c : List ℕ) → SaysOf p side run early one two a b → SaysOf p side (done_by side early ++ run) late two three b c → SaysOf p side run (late ++ early) one three a c
  says_more run early late one two three a b c x y = record {
    records = adds_more side early late one two three x.records y.records;
    puts = subst (λ (h : List Item). PutsMore p side (part side run) h a c) (sym (append_assoc late early (part side run)))
        (puts_more p side (part side run) (early ++ part side run) (late ++ (early ++ part side run)) a b c x.puts
        (subst (λ (h : List Item). PutsMore p side h (late ++ h) b c) (here side early run) y.puts));
  }

  -- ---- pieces

  pub advanced_more : (run : List Done) (first second zero mid end : List ℕ) (S T : List Done → Type 0) (one two three : List declared.Done) (a b c : List ℕ) (x : Advanced p side run first zero mid S one two a b) →
      Advanced p side (done_by side x.items ++ run) second mid end T two three b c → Advanced p side run (first ++ second) zero end T one three a c
  advanced_more run first second zero mid end S T one two three a b c x y =
      let same : done_by side (y.items ++ x.items) ++ run ≡ done_by side y.items ++ (done_by side x.items ++ run) = done_more side y.items x.items run in
      record {
        items = y.items ++ x.items;
        reads = λ following last rest d.
            subst (λ (l : List ℕ). Delivered (reading_of p side) run l last rest) (ap (λ (l : List ℕ). zero ++ l) (sym (append_assoc first second following)))
            (x.reads (second ++ following) last rest (y.reads following last rest (subst (λ (r : List Done). Delivered (reading_of p side) r (end ++ following) last rest) same d)));
        stands = subst T (sym same) y.stands;
        says = says_more run x.items y.items one two three a b c x.says y.says;
      }

  pub advanced_none : (run : List Done) (kept : List ℕ) (S : List Done → Type 0) (log : List declared.Done) (out : List ℕ) → S run → Advanced p side run [] kept kept S log log out out
  advanced_none run kept S log out s = record { items = []; reads = λ following last rest d. d; stands = s; says = says_nothing p side run log out }

  -- a dead end drops all that comes
  dead_reads : (run last : List Done) (bytes other rest : List ℕ) → has_died (part side run) ≡ true → Delivered (reading_of p side) run bytes last rest → Delivered (reading_of p side) run other last rest
  dead_reads run last bytes other rest e (Delivered.dead _ d) = Delivered.dead other d
  dead_reads run last bytes other rest e (Delivered.waits alive w) = absurd (alive e)
  dead_reads run last bytes other rest e (Delivered.takes unit more is ends after d) = absurd (false≢true (sym ends.0 ∙ e))

  pub advanced_dead : (run : List Done) (first second zero mid : List ℕ) (S : List Done → Type 0) (one two : List declared.Done) (a b : List ℕ) (x : Advanced p side run first zero mid S one two a b) →
      has_died (part side (done_by side x.items ++ run)) ≡ true → Advanced p side run (first ++ second) zero mid S one two a b
  advanced_dead run first second zero mid S one two a b x e = record {
    items = x.items;
    reads = λ following last rest d.
        subst (λ (l : List ℕ). Delivered (reading_of p side) run l last rest) (ap (λ (l : List ℕ). zero ++ l) (sym (append_assoc first second following)))
        (x.reads (second ++ following) last rest (dead_reads (done_by side x.items ++ run) last (mid ++ following) (mid ++ (second ++ following)) rest e d));
    stands = x.stands;
    says = x.says;
  }
