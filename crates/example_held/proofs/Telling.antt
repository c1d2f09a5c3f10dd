-- Which facts the items of a turn tell, by what the turn shows.
use Rattle.std.proofs.Common.{◌≡◌, ℕ, Bool, true, false, Option, Some, None, List, [], ◌∷◌, ◌++◌, refl, ap, sym, subst, ◌∙◌, inl, inr}
use Rattle.std.specs.Prelude.{◌⊎◌, option_map, unwrap_or}
use Rattle.std.proofs.lemmas.Bool.{false≢true}
use Rattle.ssh_model.specs.State.Channels.Summary.{told}
use Rattle.ssh_model.specs.State.TransportLayer.Summary.{items_sent}
use Rattle.ssh_model.specs.Protocol.Lists.{IsIn}
use Rattle.ssh_model.specs.Protocol.Sessions.Items.{Encoded, Encoded.EncodedBy, Fact, Item, Item.Told}
use Rattle.ssh_end_machine.specs.Ends.{EndValue}
use Rattle.ssh_end_machine.specs.Steps.{AreSent, Shows, fact_told, shown_by}
use Rattle.ssh_end_machine.specs.Told.{told_of}
use Rattle.ssh_end_machine.specs.Turn.{TurnShows, fact_in}
use Rattle.ssh_end_machine.specs.declared.step.Step.{Step}
use Rattle.ssh_end_machine.specs.declared.told.Told.{Told as Tells}
use Rattle.ssh_end_machine.specs.declared.turn.Turn.{Turn}
use Rattle.example_held.specs.Turning.{SaysWhether}

-- ---- of lists

pub in_front : {A : Type 0} (x : A) (l more : List A) → IsIn x l → IsIn x (l ++ more)
in_front x [] more e = absurd e
in_front x (y ∷ l) more (inl e) = inl e
in_front x (y ∷ l) more (inr e) = inr (in_front x l more e)

split : {A : Type 0} (x : A) (late early : List A) → IsIn x (late ++ early) → IsIn x late ⊎ IsIn x early
split x [] early e = inr e
split x (y ∷ late) early (inl e) = inl (inl e)
split x (y ∷ late) early (inr e) = elim (split x late early e) [ inl e ↦ inl (inr e) | inr e ↦ inr e ]

-- ---- a step tells one fact at most

fact_is_in : (items : List Item) (fact : Fact) → fact_in items ≡ Some fact → IsIn (Told fact) items
fact_is_in [] fact e = absurd (cc e)
fact_is_in (Told given ∷ items) fact e = inl (ap (λ (f : Fact). Told f) (sym (ap (λ (o : Option Fact). unwrap_or o fact) e)))
fact_is_in (item ∷ items) fact e = inr (fact_is_in items fact e)

not_sent : (sent : List Item) (message : Item) (fact : Fact) → AreSent sent → (Told fact ≡ message → ⊥) →
    IsIn (Told fact) (sent ++ (message ∷ [])) → ⊥
not_sent [] message fact x other (inl e) = other e
not_sent [] message fact x other (inr e) = e
not_sent (Item.Sent channel given payload ∷ sent) message fact x other (inl e) = cc e
not_sent (Item.Sent channel given payload ∷ sent) message fact x other (inr e) = not_sent sent message fact x other e
not_sent (item ∷ sent) message fact x other e = absurd x

none_said : (said : List Encoded) (message : Item) (fact : Fact) → (Told fact ≡ message → ⊥) →
    IsIn (Told fact) (items_sent said ++ (message ∷ [])) → ⊥
none_said [] message fact other (inl e) = other e
none_said [] message fact other (inr e) = e
none_said (EncodedBy given payload ∷ said) message fact other (inl e) = cc e
none_said (EncodedBy given payload ∷ said) message fact other (inr e) = none_said said message fact other e

told_alone : (payload : List ℕ) (done : Step) (items : List Item) → Shows payload done items → (fact : Fact) → IsIn (Told fact) items →
    fact_in items ≡ Some fact
told_alone payload _ _ Shows.other_line fact (inl e) = cc e
told_alone payload _ _ Shows.other_line fact (inr e) = absurd e
told_alone payload _ _ Shows.version_line fact (inl e) = cc e
told_alone payload _ _ Shows.version_line fact (inr e) = absurd e
told_alone payload _ _ Shows.skipped fact (inl e) = cc e
told_alone payload _ _ Shows.skipped fact (inr (inl e)) = cc e
told_alone payload _ _ Shows.skipped fact (inr (inr e)) = absurd e
told_alone payload _ _ (Shows.took channel probing kind message sent is_payload x) fact e = of_message (fact_told kind message channel) e
  where
    of_message : (given : Option Fact) → IsIn (Told fact) (told given sent ++ (Item.Took channel message payload ∷ [])) →
        fact_in (told given sent ++ (Item.Took channel message payload ∷ [])) ≡ Some fact
    of_message (Some given) (inl e) = cc e
    of_message (Some given) (inr e) = absurd (not_sent sent (Item.Took channel message payload) fact x (λ e. cc e) e)
    of_message None e = absurd (not_sent sent (Item.Took channel message payload) fact x (λ e. cc e) e)
told_alone payload _ _ (Shows.disconnected reason description language is_payload) fact (inl e) = cc e
told_alone payload _ _ (Shows.disconnected reason description language is_payload) fact (inr (inl e)) = cc e
told_alone payload _ _ (Shows.disconnected reason description language is_payload) fact (inr (inr (inl e))) = cc e
told_alone payload _ _ (Shows.disconnected reason description language is_payload) fact (inr (inr (inr e))) = absurd e
told_alone payload _ _ (Shows.refused why opened said) fact (inl e) = cc e
told_alone payload _ _ (Shows.refused why opened said) fact (inr e) = absurd (none_said said (Item.Refused why opened) fact (λ e. cc e) e)

-- ---- whether a fact of one kind is told

-- The test finds the facts of the kind.
pub record FindsFact {A : Type 0} (fact : A → Fact) (test : Option Tells → Bool) : Type 0 where
  pub found : (t : Option Tells) → test t ≡ true → (x : A) × (option_map told_of t ≡ Some (fact x))
  pub all : (t : Option Tells) (x : A) → option_map told_of t ≡ Some (fact x) → test t ≡ true

pub turn_says : {A : Type 0} {fact : A → Fact} {test : Option Tells → Bool} → FindsFact fact test → (turn : Turn) (payload : List ℕ)
    (done : Step)
    (items : List Item) → Shows payload done items → TurnShows turn items → SaysWhether fact items (test turn.told)
turn_says {A} {fact} {test} finds turn payload done items x shows = record {
  yes = λ so.
      let it = finds.found turn.told so in
      record { what = it.0; told = fact_is_in items (fact it.0) (sym shows.told ∙ it.1) };
  no = λ so what e. false≢true (sym so ∙ finds.all turn.told what (shows.told ∙ told_alone payload done items x (fact what) e));
}

-- The same of the last turn of an end.
pub end_says : {A : Type 0} {fact : A → Fact} {test : Option Tells → Bool} → FindsFact fact test → {K R F : Type 0}
    (end shown : EndValue K R F)
    (turn : Turn) (answer : Bool) → shown ≡ end →
    ((items : List Item) → Shows (shown_by shown.step shown.machine) shown.step items → TurnShows turn items) → answer ≡ test turn.told →
    (items : List Item) → Shows (shown_by end.step end.machine) end.step items → SaysWhether fact items answer
end_says {A} {fact} {test} finds {K} {R} {F} end shown turn answer same shows is items x =
    subst (λ (b : Bool). SaysWhether fact items b) (sym is)
    (turn_says finds turn (shown_by end.step end.machine) end.step items x
    (shows items (subst (λ (e : EndValue K R F). Shows (shown_by e.step e.machine) e.step items) (sym same) x)))

pub none_says : {A : Type 0} (fact : A → Fact) → SaysWhether fact [] false
none_says fact = record { yes = λ so. absurd (false≢true so); no = λ so what e. e }

-- one after the other
pub says_on : {A : Type 0} (fact : A → Fact) (late early : List Item) (answer : Bool) → SaysWhether fact early false →
    SaysWhether fact late answer → SaysWhether fact (late ++ early) answer
says_on fact late early answer x y = record {
  yes = λ so.
      let it = y.yes so in
      record { what = it.what; told = in_front (Told (fact it.what)) late early it.told };
  no = λ so what e. elim (split (Told (fact what)) late early e) [ inl e ↦ y.no so what e | inr e ↦ x.no refl what e ];
}
