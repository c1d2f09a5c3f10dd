-- What an end tells of its next packet before it takes it.
use Rattle.std.proofs.Common.{◌≡◌, ℕ, ◌≤◌, Bool, false, true, Option, None, Some, refl, List, ◌∷◌, [], ◌++◌, length, take, drop, cond, sym, ap, subst, ◌∙◌, arith, append_assoc, append-nil, inl, inr}
use Rattle.std.proofs.lemmas.Bool.{cases_lt}
use Rattle.std.proofs.lemmas.List.{take-append-drop, take-take}
use Rattle.ssh_model.specs.Laws.Supplied.{TakesNone}
use Rattle.ssh_model.specs.Protocol.Sessions.Items.{Encoded, Encoded.EncodedBy, Fact, Item, Item.Died, Item.Refused, Item.Sent, Item.Told, Item.Took, Item.TookGuess, Item.TookOtherLine, Item.TookLine, has_died}
use Rattle.ssh_model.specs.Protocol.Sessions.Phases.{has_line}
use Rattle.ssh_model.specs.Protocol.Wire.Line.{LineUnit, LineUnit.line}
use Rattle.ssh_model.specs.Protocol.Wire.Message.{Msg}
use Rattle.ssh_model.specs.State.Channels.Summary.{told}
use Rattle.ssh_model.specs.State.TransportLayer.Summary.{items_sent}
use Rattle.ssh_model.specs.State.TransportLayer.Turns.{refusal_items}
use Rattle.ssh_model.specs.declared.refusal.Refusal.{Refusal}
use Rattle.ssh_end_machine.specs.Steps.{AreSent, Shows, Shows.disconnected, Shows.other_line, Shows.refused, Shows.skipped, Shows.took as shows_took, Shows.version_line}
use Rattle.ssh_end_machine.specs.declared.step.Step.{Step}
use Rattle.ssh_model.specs.Protocol.Sessions.Parties.{Parties}
use Rattle.ssh_model.specs.Protocol.Sessions.Turns.{OnPayload.takes, OnPayload.skips, OnPayload.unexpected, OnPayload.bad_message, OnPayload.refuses, OnPayload.spends, Refuses, Refuses.silently, Refuses.spent, Refuses.said}
use Rattle.ssh_model.specs.Protocol.Sessions.Turns.{OnOutcome.other_line as on_other, OnOutcome.version_line as on_version, OnOutcome.refused_line, OnOutcome.refused_packet, stage_after}
use Rattle.ssh_model.specs.Protocol.Sessions.Turns.{OnOutcome, OnOutcome.opened, OnPayload, OnUnit, OnUnit.dies as dies_on, OnUnit.reads, stage}
use Rattle.ssh_model.specs.Protocol.Wire.Delivery.{Waits}
use Rattle.ssh_model.specs.Protocol.Wire.Outcome.{Outcome, Outcome.Opens}
use Rattle.ssh_model.specs.Protocol.Wire.Sealing.{Crypto}
use Rattle.ssh_model.specs.Protocol.Wire.Unit.{IsUnit, PacketUnit, Stage}
use Rattle.ssh_model.specs.State.End.Reading.{end_reading}
use Rattle.ssh_model.specs.State.TransportLayer.Directions.{Direction}
use Rattle.ssh_model.specs.declared.side.Side.{Side}
use Rattle.ssh_transport_machine.specs.Peeking.{Peeks}
use Rattle.ssh_transport_machine.specs.State.{State, buffered_of}
use Rattle.ssh_end_machine.specs.Peeking.{AnswersPayload, AnswersPayload.answers, AnswersPayload.dies, Foresees, IsRead, ReadsBack, TakesOnly}

-- no unit is a prefix of another, and a unit has one outcome
pub record Alone {K : Type 0} (c : Crypto K) (at : Stage K) : Type 0 where
  pub alone : (unit more other : List ℕ) (a b : Outcome) → IsUnit c at unit a → IsUnit c at other b → unit ++ more ≡ other → more ≡ []
  pub outcome : (unit : List ℕ) (a b : Outcome) → IsUnit c at unit a → IsUnit c at unit b → a ≡ b

module _ {K : Type 0} {c : Crypto K} {at : Stage K} (l : Alone c at) (held bytes : List ℕ) where
  longer : (m n : ℕ) → m ≤ n → (held ++ take m bytes) ++ drop m (take n bytes) ≡ held ++ take n bytes
  longer m n h =
      append_assoc held (take m bytes) (drop m (take n bytes))
      ∙ ap (λ (x : List ℕ). held ++ (x ++ drop m (take n bytes))) (sym (take-take m n bytes h))
      ∙ ap (λ (x : List ℕ). held ++ x) (take-append-drop m (take n bytes))

  same_to : (m n : ℕ) (a b : Outcome) → m ≤ n → IsUnit c at (held ++ take m bytes) a → IsUnit c at (held ++ take n bytes) b →
      held ++ take m bytes ≡ held ++ take n bytes
  same_to m n a b h u v =
      let none = l.alone (held ++ take m bytes) (drop m (take n bytes)) (held ++ take n bytes) a b u v (longer m n h) in
      sym (append-nil (held ++ take m bytes)) ∙ ap (λ (x : List ℕ). (held ++ take m bytes) ++ x) (sym none) ∙ longer m n h

  -- two units among the beginnings of the same bytes have one outcome
  one_outcome : (m n : ℕ) (a b : Outcome) → IsUnit c at (held ++ take m bytes) a → IsUnit c at (held ++ take n bytes) b → a ≡ b
  one_outcome m n a b u v = elim (cases_lt m n) [
    | inl less ↦ l.outcome (held ++ take m bytes) a b u
        (subst (λ (x : List ℕ). IsUnit c at x b) (sym (same_to m n a b (omega (arith, less)) u v)) v)
    | inr more ↦ sym (l.outcome (held ++ take n bytes) b a v
        (subst (λ (x : List ℕ). IsUnit c at x a) (sym (same_to n m b a (omega (arith, more)) v u)) u))
  ]

module _ {K : Type 0} (p : Parties K) (side : Side) (history : List Item) where
  on_opened : (payload : List ℕ) (items : List Item) → OnOutcome p side history (Opens payload) items → OnPayload p side history payload items
  on_opened payload items (opened b t) = t

  pub foreseen : (machine : State K) →
      ((bytes : List ℕ) (outcome : Outcome) →
      PacketUnit p.crypto machine.kept.taking.key machine.kept.taking.number machine.kept.taking.count bytes outcome →
      IsUnit p.crypto (stage p side history) bytes outcome) → (bytes payload : List ℕ) → Peeks p.crypto machine bytes payload →
      Foresees p side history (buffered_of machine) bytes payload
  foreseen machine same bytes payload x =
      let unit = subst (λ (d : Direction K). PacketUnit p.crypto d.key d.number d.count (machine.receiver.buffered ++ take x.opens.used bytes)
      (Opens payload)) (sym x.taking) x.opens.opens in
      let held : buffered_of machine ≡ machine.receiver.buffered = ap (λ found. cond found machine.receiver.buffered machine.reading.buffered) x.found in
      record {
        used = x.opens.used;
        within = x.opens.within;
        unit = subst (λ (b : List ℕ). IsUnit p.crypto (stage p side history) (b ++ take x.opens.used bytes) (Opens payload)) (sym held)
            (same _ _ unit);
      }

  pub answered : Alone p.crypto (stage p side history) → (held bytes payload : List ℕ) → Foresees p side history held bytes payload → (used : ℕ)
      (items : List Item) → OnUnit p side history (held ++ take used bytes) items → AnswersPayload p side history payload items
  answered l held bytes payload f used items (reads o u t) =
      let same : o ≡ Opens payload = one_outcome l held bytes used f.used o (Opens payload) u f.unit in
      answers (on_opened payload items (subst (λ (x : Outcome). OnOutcome p side history x items) same t))
  answered l held bytes payload f used items (dies_on o u t m) = dies

  pub whole : (held bytes payload : List ℕ) → Foresees p side history held bytes payload → has_died history ≡ false →
      Waits (end_reading p side) history (held ++ bytes) → ⊥
  whole held bytes payload f alive waits =
      waits (held ++ take f.used bytes) (drop f.used bytes)
      (append_assoc held (take f.used bytes) (drop f.used bytes) ∙ ap (λ (x : List ℕ). held ++ x) (take-append-drop f.used bytes))
      (alive, Opens payload, f.unit)

-- ---- what is taken is that payload

-- the oldest of these items
abbrev last_item : Item → List Item → Item
last_item d [] = d
last_item d (i ∷ items) = last_item i items

last_of : (d i : Item) (items : List Item) → last_item d (items ++ (i ∷ [])) ≡ i
last_of d i [] = refl
last_of d i (j ∷ items) = last_of j i items

-- the oldest item of a turn on this payload
data LastIs (payload : List ℕ) : Item → Type 0 where
  took : (c : Option ℕ) (m : Msg) → IsRead m payload → LastIs payload (Took c m payload)
  guess : LastIs payload (TookGuess payload)
  refusal : (why : Refusal) (of : Option (List ℕ)) → LastIs payload (Refused why of)
  died : LastIs payload Died

took_is : (payload : List ℕ) (c : Option ℕ) (m : Msg) (b : List ℕ) → LastIs payload (Took c m b) → (b ≡ payload) × IsRead m payload
took_is payload c m b (took d n r) = (refl, r)

guess_is : (payload b : List ℕ) → LastIs payload (TookGuess b) → b ≡ payload
guess_is payload b guess = refl

no_other_line : (payload b : List ℕ) → LastIs payload (TookOtherLine b) → ⊥
no_other_line payload b x = elim x [
]

no_line : (payload b : List ℕ) → LastIs payload (TookLine b) → ⊥
no_line payload b x = elim x [
]

last_refused : (payload : List ℕ) (h : List Item) (why : Refusal) (of : Option (List ℕ)) (items : List Item) → Refuses h why of items →
    LastIs payload (last_item Died items)
last_refused payload h why of items (silently e) = refusal why of
last_refused payload h why of items (spent e) = refusal why of
last_refused payload h why of items (said r x e n s) = refusal why of

module _ {K : Type 0} (p : Parties K) (side : Side) (history : List Item) (payload : List ℕ) where
  last_on : (items : List Item) → OnPayload p side history payload items → LastIs payload (last_item Died items)
  last_on items (takes {items = l} c m w t s n) =
      subst (λ (i : Item). LastIs payload i) (sym (last_of Died (Took c m payload) l)) (took c m (record { probing = _; is = w.message_is }))
  last_on items (skips f m) = guess
  last_on items (unexpected m r) = last_refused payload history _ _ items r
  last_on items (bad_message m f n r) = last_refused payload history _ _ items r
  last_on items (refuses m k t f n c r) = last_refused payload history _ _ items r
  last_on items (spends c m w t s n) = refusal _ _

  last_is : (items : List Item) → AnswersPayload p side history payload items → LastIs payload (last_item Died items)
  last_is items (answers t) = last_on items t
  last_is items dies = died

-- nothing is taken among messages that are sent
only_after : (payload : List ℕ) (sent : List Item) (i : Item) → AreSent sent → TakesOnly payload (i ∷ []) → TakesOnly payload (sent ++ (i ∷ []))
only_after payload [] i a t = t
only_after payload (Sent c m b ∷ sent) i a t = only_after payload sent i a t
only_after payload (_ ∷ sent) i a t = absurd a

only_told : (payload : List ℕ) (fact : Option Fact) (sent : List Item) (i : Item) → AreSent sent → TakesOnly payload (i ∷ []) →
    TakesOnly payload (told fact sent ++ (i ∷ []))
only_told payload None sent i a t = only_after payload sent i a t
only_told payload (Some fact) sent i a t = only_after payload sent i a t

none_in_refusal : (payload : List ℕ) (l : List Encoded) (why : Refusal) (of : Option (List ℕ)) →
    TakesOnly payload (items_sent l ++ (Refused why of ∷ []))
none_in_refusal payload [] why of = tt
none_in_refusal payload (EncodedBy m b ∷ l) why of = none_in_refusal payload l why of

shown_only : (payload shown : List ℕ) (done : Step) (items : List Item) → Shows shown done items → LastIs payload (last_item Died items) →
    TakesOnly payload items
shown_only payload shown done items other_line l = absurd (no_other_line payload shown l)
shown_only payload shown done items version_line l = absurd (no_line payload shown l)
shown_only payload shown done items skipped l = (guess_is payload shown l, tt)
shown_only payload shown done items (shows_took c probing k m sent is a) l =
    let last : LastIs payload (Took c m shown) = subst (λ (i : Item). LastIs payload i) (last_of Died (Took c m shown) (told _ sent)) l in
    only_told payload _ sent (Took c m shown) a (took_is payload c m shown last, tt)
shown_only payload shown done items (disconnected r d g is) l = (took_is payload _ _ shown l, tt)
shown_only payload shown done items (refused why of sent) l = none_in_refusal payload sent why of

pub only_peeked : {K : Type 0} (p : Parties K) (side : Side) (history : List Item) (payload shown : List ℕ) (done : Step) (items : List Item) →
    AnswersPayload p side history payload items → Shows shown done items → TakesOnly payload items
only_peeked p side history payload shown done items a s = shown_only payload shown done items s (last_is p side history payload items a)

-- ---- where no packet was foreseen

no_packet : (server : Bool) (others : ℕ) (unit payload : List ℕ) → LineUnit server others unit (Opens payload) → ⊥
no_packet server others unit payload (line text is l) = elim l [
]

none_in_refused : (h : List Item) (why : Refusal) (of : Option (List ℕ)) (items : List Item) → Refuses h why of items → TakesNone items
none_in_refused h why of items (silently e) = tt
none_in_refused h why of items (spent e) = tt
none_in_refused h why of items (said r x e n s) = tt

module _ {K : Type 0} (p : Parties K) (side : Side) (history : List Item) (machine : State K) (alive : machine.kept.dead ≡ false)
    (taking : machine.kept.taking ≡ machine.receiver.direction) (going : machine.receiver.ended ≡ None)
    (back : machine.kept.lines.found ≡ true → ReadsBack p side history machine.kept) (found_is : machine.kept.lines.found ≡ has_line history)
    (bytes : List ℕ) (none : (payload : List ℕ) → Peeks p.crypto machine bytes payload → ⊥) (used : ℕ) (most : used ≤ length bytes) where
  no_unit : (found : Bool) → machine.kept.lines.found ≡ found → (payload : List ℕ) →
      IsUnit p.crypto (stage p side history) (cond found machine.receiver.buffered machine.reading.buffered ++ take used bytes) (Opens payload) → ⊥
  no_unit true e payload u =
      let unit = subst (λ (d : Direction K). PacketUnit p.crypto d.key d.number d.count (machine.receiver.buffered ++ take used bytes) (Opens payload))
      taking (back e _ _ u) in
      none payload (record { alive = alive; found = e; taking = taking; opens = record { used = used; within = most; live = going; opens = unit } })
  no_unit false e payload u =
      no_packet _ _ _ payload (subst (λ (at : Stage K). IsUnit p.crypto at (machine.reading.buffered ++ take used bytes) (Opens payload))
      (ap (stage_after p side history) (sym found_is ∙ e)) u)

  none_on : (o : Outcome) (items : List Item) → IsUnit p.crypto (stage p side history) (buffered_of machine ++ take used bytes) o →
      OnOutcome p side history o items → TakesNone items
  none_on o items u (on_other l) = tt
  none_on o items u (on_version l) = tt
  none_on o items u (refused_line k r) = none_in_refused history _ _ items r
  none_on o items u (opened b t) = absurd (no_unit machine.kept.lines.found refl b u)
  none_on o items u (refused_packet k r) = none_in_refused history _ _ items r

  pub unforeseen : (items : List Item) → OnUnit p side history (buffered_of machine ++ take used bytes) items → TakesNone items
  unforeseen items (reads o u t) = none_on o items u t
  unforeseen items (dies_on o u t m) = tt
