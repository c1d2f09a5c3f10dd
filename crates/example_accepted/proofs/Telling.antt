-- Who is told as accepted is the user of a request that was accepted.
use Rattle.std.proofs.Common.{◌≡◌, ℕ, Bool, true, false, Option, Some, None, List, [], ◌∷◌, ◌++◌, append_assoc, refl, ap, sym, ◌∙◌, subst, inl, inr}
use Rattle.std.specs.Prelude.{◌||◌, ◌⊎◌, option_map, unwrap_or}
use Rattle.std.proofs.lemmas.Bool.{false≢true}
use Rattle.ssh_channels.specs.Values.{fact_of}
use Rattle.ssh_channels.specs.declared.event.ChannelEvent.{ChannelEvent}
use Rattle.ssh_channels.specs.declared.event.ChannelEvent.TheVariants as event
use Rattle.ssh_model.specs.State.Channels.Summary.{told}
use Rattle.ssh_model.specs.State.End.Reading.{end_reading}
use Rattle.ssh_model.specs.State.End.State.{EndState}
use Rattle.ssh_model.specs.State.End.Summary.{EndTurned}
use Rattle.ssh_model.specs.State.TransportLayer.Kept.{Transport}
use Rattle.ssh_model.specs.Protocol.Sessions.Turns.{OnUnit}
use Rattle.ssh_model.specs.Protocol.Wire.Delivery.{Delivered}
use Rattle.ssh_model.specs.Protocol.Lists.{IsIn}
use Rattle.ssh_model.specs.Protocol.Sessions.Items.{Credential, Encoded, Encoded.EncodedBy, Fact, Fact.Accepted, Item, Item.Told, has_died}
use Rattle.ssh_model.specs.State.TransportLayer.Summary.{items_sent}
use Rattle.ssh_model.specs.Protocol.Sessions.Parties.{Parties}
use Rattle.ssh_model.specs.declared.side.Side.TheVariants.{Server}
use Rattle.ssh_transport_machine.specs.Puts.{Outs}
use Rattle.ssh_transport_machine.specs.State.{State, buffered_of}
use Rattle.ssh_end_machine.specs.Places.{StandsAfter, TookUnit, TurnedTo}
use Rattle.ssh_end_machine.specs.Steps.{AreSent, Shows, fact_told, shown_by}
use Rattle.ssh_end_machine.specs.Told.{credential_of, told_of}
use Rattle.ssh_end_machine.specs.Turn.{TurnShows, fact_in}
use Rattle.ssh_end_machine.specs.declared.step.Step.{Step}
use Rattle.ssh_end_machine.specs.declared.step.Step.TheVariants as step
use Rattle.ssh_end_machine.specs.declared.told.Told.{Told as Tells}
use Rattle.ssh_end_machine.specs.declared.told.Told.TheVariants as tells
use Rattle.ssh_end_machine.specs.declared.turn.Turn.{Turn}
use Rattle.example_accepted.specs.Serving.{LetIn, ServedTo, is_told_in}

-- ---- of lists

in_front : {A : Type 0} (x : A) (l more : List A) → IsIn x l → IsIn x (l ++ more)
in_front x [] more e = absurd e
in_front x (y ∷ l) more (inl e) = inl e
in_front x (y ∷ l) more (inr e) = inr (in_front x l more e)

in_back : {A : Type 0} (x : A) (more l : List A) → IsIn x l → IsIn x (more ++ l)
in_back x [] l e = e
in_back x (y ∷ more) l e = inr (in_back x more l e)

-- ---- who is told

found : (t : Option Tells) (fact : Option Fact) → option_map told_of t ≡ fact → is_told_in t ≡ true → (user : List ℕ) × (by : Credential) × (fact ≡ Some (Accepted user by))
found (Some (tells.Accepted user by)) fact e x = (user.now, credential_of by, sym e)
found None fact e x = absurd (false≢true x)
found (Some (tells.Completed position)) fact e x = absurd (false≢true x)
found (Some tells.Service) fact e x = absurd (false≢true x)
found (Some (tells.Authenticated request)) fact e x = absurd (false≢true x)
found (Some (tells.Failed methods partial)) fact e x = absurd (false≢true x)
found (Some (tells.Banner message)) fact e x = absurd (false≢true x)
found (Some (tells.KeyOk algorithm key)) fact e x = absurd (false≢true x)
found (Some tells.Ignored) fact e x = absurd (false≢true x)
found (Some (tells.Extensions extensions)) fact e x = absurd (false≢true x)
found (Some (tells.Debugged display message)) fact e x = absurd (false≢true x)
found (Some (tells.Unimplemented number)) fact e x = absurd (false≢true x)
found (Some (tells.Disconnected reason description)) fact e x = absurd (false≢true x)
found (Some (tells.Channel given)) fact e x = absurd (false≢true x)

fact_is_in : (items : List Item) (fact : Fact) → fact_in items ≡ Some fact → IsIn (Told fact) items
fact_is_in [] fact e = absurd (cc e)
fact_is_in (Told given ∷ items) fact e = inl (ap (λ (f : Fact). Told f) (sym (ap (λ (o : Option Fact). unwrap_or o fact) e)))
fact_is_in (Item.Died ∷ items) fact e = inr (fact_is_in items fact e)
fact_is_in (Item.Fed cookie secret ∷ items) fact e = inr (fact_is_in items fact e)
fact_is_in (Item.Asked ask ∷ items) fact e = inr (fact_is_in items fact e)
fact_is_in (Item.AskRefused why ∷ items) fact e = inr (fact_is_in items fact e)
fact_is_in (Item.SentLine line ∷ items) fact e = inr (fact_is_in items fact e)
fact_is_in (Item.TookLine line ∷ items) fact e = inr (fact_is_in items fact e)
fact_is_in (Item.TookOtherLine line ∷ items) fact e = inr (fact_is_in items fact e)
fact_is_in (Item.Sent channel message payload ∷ items) fact e = inr (fact_is_in items fact e)
fact_is_in (Item.Took channel message payload ∷ items) fact e = inr (fact_is_in items fact e)
fact_is_in (Item.TookGuess payload ∷ items) fact e = inr (fact_is_in items fact e)
fact_is_in (Item.Refused why payload ∷ items) fact e = inr (fact_is_in items fact e)

-- ---- who is told alone

not_sent : (sent : List Item) (message : Item) (fact : Fact) → AreSent sent → (Told fact ≡ message → ⊥) → IsIn (Told fact) (sent ++ message ∷ []) → ⊥
not_sent [] message fact x other (inl e) = other e
not_sent [] message fact x other (inr e) = e
not_sent (Item.Sent channel given payload ∷ sent) message fact x other (inl e) = cc e
not_sent (Item.Sent channel given payload ∷ sent) message fact x other (inr e) = not_sent sent message fact x other e
not_sent (Item.Fed cookie secret ∷ sent) message fact x other _ = elim x [ ]
not_sent (Item.Asked ask ∷ sent) message fact x other _ = elim x [ ]
not_sent (Item.AskRefused refusal ∷ sent) message fact x other _ = elim x [ ]
not_sent (Item.SentLine line ∷ sent) message fact x other _ = elim x [ ]
not_sent (Item.TookLine line ∷ sent) message fact x other _ = elim x [ ]
not_sent (Item.TookOtherLine line ∷ sent) message fact x other _ = elim x [ ]
not_sent (Item.Took channel given payload ∷ sent) message fact x other _ = elim x [ ]
not_sent (Item.TookGuess payload ∷ sent) message fact x other _ = elim x [ ]
not_sent (Told given ∷ sent) message fact x other _ = elim x [ ]
not_sent (Item.Refused refusal payload ∷ sent) message fact x other _ = elim x [ ]
not_sent (Item.Died ∷ sent) message fact x other _ = elim x [ ]

none_said : (said : List Encoded) (message : Item) (fact : Fact) → (Told fact ≡ message → ⊥) → IsIn (Told fact) (items_sent said ++ message ∷ []) → ⊥
none_said [] message fact other (inl e) = other e
none_said [] message fact other (inr e) = e
none_said (EncodedBy given payload ∷ said) message fact other (inl e) = cc e
none_said (EncodedBy given payload ∷ said) message fact other (inr e) = none_said said message fact other e

-- A step tells of one fact at most.
told_alone : (payload : List ℕ) (done : Step) (items : List Item) → Shows payload done items → (fact : Fact) → IsIn (Told fact) items → fact_in items ≡ Some fact
told_alone payload _ _ Shows.other_line fact (inl e) = cc e
told_alone payload _ _ Shows.other_line fact (inr e) = absurd e
told_alone payload _ _ Shows.version_line fact (inl e) = cc e
told_alone payload _ _ Shows.version_line fact (inr e) = absurd e
told_alone payload _ _ Shows.skipped fact (inl e) = cc e
told_alone payload _ _ Shows.skipped fact (inr (inl e)) = cc e
told_alone payload _ _ Shows.skipped fact (inr (inr e)) = absurd e
told_alone payload _ _ (Shows.took channel probing kind message sent is_payload x) fact e = of_message (fact_told kind message channel) e
  where
    of_message : (given : Option Fact) → IsIn (Told fact) (told given sent ++ Item.Took channel message payload ∷ []) → fact_in (told given sent ++ Item.Took channel message payload ∷ []) ≡ Some fact
    of_message (Some given) (inl e) = cc e
    of_message (Some given) (inr e) = absurd (not_sent sent (Item.Took channel message payload) fact x (λ e. cc e) e)
    of_message None e = absurd (not_sent sent (Item.Took channel message payload) fact x (λ e. cc e) e)
told_alone payload _ _ (Shows.disconnected reason description language is_payload) fact (inl e) = cc e
told_alone payload _ _ (Shows.disconnected reason description language is_payload) fact (inr (inl e)) = cc e
told_alone payload _ _ (Shows.disconnected reason description language is_payload) fact (inr (inr (inl e))) = cc e
told_alone payload _ _ (Shows.disconnected reason description language is_payload) fact (inr (inr (inr e))) = absurd e
told_alone payload _ _ (Shows.refused why opened said) fact (inl e) = cc e
told_alone payload _ _ (Shows.refused why opened said) fact (inr e) = absurd (none_said said (Item.Refused why opened) fact (λ e. cc e) e)

-- Who is told as accepted is told in the turn.
is_told : (t : Option Tells) (user : List ℕ) (by : Credential) → option_map told_of t ≡ Some (Accepted user by) → is_told_in t ≡ true
is_told (Some (tells.Accepted name given)) user by e = refl
is_told None user by e = cc e
is_told (Some (tells.Completed position)) user by e = cc e
is_told (Some tells.Service) user by e = cc e
is_told (Some (tells.Authenticated request)) user by e = cc e
is_told (Some (tells.Failed methods partial)) user by e = cc e
is_told (Some (tells.Banner message)) user by e = cc e
is_told (Some (tells.KeyOk algorithm key)) user by e = cc e
is_told (Some tells.Ignored) user by e = cc e
is_told (Some (tells.Extensions extensions)) user by e = cc e
is_told (Some (tells.Debugged display message)) user by e = cc e
is_told (Some (tells.Unimplemented number)) user by e = cc e
is_told (Some (tells.Disconnected reason description)) user by e = cc e
is_told (Some (tells.Channel given)) user by e = absurd (of_channel given e)
  where
    of_channel : (given : ChannelEvent) → Some (fact_of given) ≡ Some (Accepted user by) → ⊥
    of_channel (event.Global name want rest) e = cc e
    of_channel (event.GlobalDone success rest) e = cc e
    of_channel (event.Opening channel) e = cc e
    of_channel (event.Opened channel kind window max_packet rest) e = cc e
    of_channel (event.Confirmed channel window max_packet rest) e = cc e
    of_channel (event.OpenFailed channel reason description) e = cc e
    of_channel (event.GotData channel kind body) e = cc e
    of_channel (event.Adjusted channel bytes) e = cc e
    of_channel (event.Ended channel) e = cc e
    of_channel (event.Closed channel) e = cc e
    of_channel (event.Requested channel name want rest) e = cc e
    of_channel (event.RequestDone channel success) e = cc e

-- ---- bytes that an end that is over drops

dropped : {K : Type 0} (p : Parties K) (history last : List Item) (bytes other rest : List ℕ) → has_died history ≡ true → Delivered (end_reading p Server) history bytes last rest → Delivered (end_reading p Server) history other last rest
dropped p history last bytes other rest e (Delivered.dead _ d) = Delivered.dead other d
dropped p history last bytes other rest e (Delivered.waits alive w) = absurd (alive e)
dropped p history last bytes other rest e (Delivered.takes unit more is ends after d) = absurd (false≢true (sym ends.0 ∙ e))

-- The history and the rest that the server reaches by a unit, and then by the bytes after it, are those of all of these bytes.
abbrev pub ReadsUnit : {K : Type 0} → Parties K → List Item → Type 0
ReadsUnit {K} p history =
    (unit : List ℕ) (items : List Item) (more : List ℕ) (new : EndState K) → EndTurned p Server history (OnUnit p Server history unit) items more new →
    (following : List ℕ) (last : List Item) (rest : List ℕ) → Delivered (end_reading p Server) (items ++ history) following last rest → Delivered (end_reading p Server) history (unit ++ following) last rest

module _ {K : Type 0} (p : Parties K) (parts layers : Type 0) where
  -- whoever is told at a place passed the judge
  let_in_at : (history : List Item) (machine : State K) (e : EndState K) → StandsAfter p Server parts layers history machine e → (user : List ℕ) (by : Credential) → IsIn (Told (Accepted user by)) history → LetIn p history
  let_in_at history machine e place user by told =
      record { user = user; by = by; told = told; accepted = (place.guarded.users refl).told user by told }

  -- what was buffered of a unit that was taken is nothing, or is dropped
  emptied : (history : List Item) (machine : State K) (e : EndState K) → e.transport ≡ machine.kept → StandsAfter p Server parts layers history machine e → (dead : Bool) → machine.kept.dead ≡ dead → (machine.kept.dead ≡ false → buffered_of machine ≡ []) →
      (following : List ℕ) (last : List Item) (rest : List ℕ) → Delivered (end_reading p Server) history (buffered_of machine ++ following) last rest → Delivered (end_reading p Server) history following last rest
  emptied history machine e same place false is empty following last rest d = subst (λ (l : List ℕ). Delivered (end_reading p Server) history (l ++ following) last rest) (empty is) d
  emptied history machine e same place true is empty following last rest d =
      dropped p history last (buffered_of machine ++ following) following rest (sym place.sums.transport.dead_is ∙ (ap (λ (t : Transport K). t.dead) same ∙ is)) d

  -- ---- one line or one packet

  module _ (history : List Item) (kept used : List ℕ) (new : State K) (e : EndState K) (o : Outs) (turn : Turn) (same : e.transport ≡ new.kept) (reads : ReadsUnit p history) where
    told_by : (items : List Item) → StandsAfter p Server parts layers (items ++ history) new e → TurnShows turn items → is_told_in turn.told ≡ true → LetIn p (items ++ history)
    told_by items place shows is_in =
        let who = found turn.told (fact_in items) shows.told is_in in
        let_in_at (items ++ history) new e place (who.0) (who.1) (in_front (Told (Accepted (who.0) (who.1))) items history (fact_is_in items (Accepted (who.0) (who.1)) (who.2)))

    by_unit : (done : Step) → TookUnit p Server parts layers history (kept ++ used) done new e o → ((items : List Item) → Shows (shown_by done new) done items → TurnShows turn items) → (is_in : Bool) → is_in ≡ is_told_in turn.told → ServedTo p parts layers history kept used is_in new e
    by_unit done x shows is_in is =
        let t = x.turned in
        let turn_shows = shows t.items t.shows in
        record {
          items = t.items;
          place = x.place;
          let_in = λ so. told_by t.items x.place turn_shows (sym is ∙ so);
          kept_out = λ so user by told. false≢true (sym so ∙ (is ∙ is_told turn.told user by (turn_shows.told ∙ told_alone (shown_by done new) done t.items t.shows (Accepted user by) told)));
          reads = λ following last rest d.
              subst (λ (l : List ℕ). Delivered (end_reading p Server) history l last rest) (append_assoc kept used following)
              (reads (kept ++ used) t.items t.more e t.turned following last rest (emptied (t.items ++ history) new e same x.place new.kept.dead refl x.buffered following last rest d));
        }

    pub served_unit : (done : Step) → TurnedTo p Server parts layers history (kept ++ used) done new e o → ((items : List Item) → Shows (shown_by done new) done items → TurnShows turn items) → (done ≡ step.More → TurnShows turn []) → (is_in : Bool) → is_in ≡ is_told_in turn.told → ServedTo p parts layers history kept used is_in new e
    served_unit step.More x shows quiet is_in is = record {
      items = [];
      place = x.place;
      let_in = λ so. told_by [] x.place (quiet refl) (sym is ∙ so);
      kept_out = λ so user by told. told;
      reads = λ following last rest d.
          subst (λ (l : List ℕ). Delivered (end_reading p Server) history l last rest) (ap (λ (l : List ℕ). l ++ following) x.buffered ∙ append_assoc kept used following) d;
    }
    served_unit step.OtherLine x shows quiet is_in is = by_unit step.OtherLine x shows is_in is
    served_unit step.VersionLine x shows quiet is_in is = by_unit step.VersionLine x shows is_in is
    served_unit step.Skipped x shows quiet is_in is = by_unit step.Skipped x shows is_in is
    served_unit (step.Took took) x shows quiet is_in is = by_unit (step.Took took) x shows is_in is
    served_unit (step.Refused why) x shows quiet is_in is = by_unit (step.Refused why) x shows is_in is

-- ---- one after the other

not_either : (one other : Bool) → (one || other) ≡ false → (one ≡ false) × (other ≡ false)
not_either false other e = (refl, e)
not_either true other e = absurd (false≢true (sym e))

split : {A : Type 0} (x : A) (late early : List A) → IsIn x (late ++ early) → IsIn x late ⊎ IsIn x early
split x [] early e = inr e
split x (y ∷ late) early (inl e) = inl (inl e)
split x (y ∷ late) early (inr e) = elim (split x late early e) [ inl e ↦ inl (inr e) | inr e ↦ inr e ]

module _ {K : Type 0} (p : Parties K) (parts layers more_parts more_layers : Type 0) (history : List Item) (kept first second : List ℕ) (mid new : State K) (f e : EndState K) where
  later : (early late : List Item) → (is_in is_told : Bool) → StandsAfter p Server more_parts more_layers ((late ++ early) ++ history) new e → (is_in ≡ true → LetIn p (early ++ history)) → (is_told ≡ true → LetIn p (late ++ (early ++ history))) → (is_in || is_told) ≡ true → LetIn p ((late ++ early) ++ history)
  later early late true is_told place was told so =
      let who = was refl in
      let_in_at p more_parts more_layers ((late ++ early) ++ history) new e place who.user who.by
      (subst (λ (h : List Item). IsIn (Told (Accepted who.user who.by)) h) (sym (append_assoc late early history)) (in_back (Told (Accepted who.user who.by)) late (early ++ history) who.told))
  later early late false is_told place was told so =
      let who = told so in
      let_in_at p more_parts more_layers ((late ++ early) ++ history) new e place who.user who.by
      (subst (λ (h : List Item). IsIn (Told (Accepted who.user who.by)) h) (sym (append_assoc late early history)) who.told)

  pub served_on : (is_in is_told : Bool) (all : List ℕ) → first ++ second ≡ all → (x : ServedTo p parts layers history kept first is_in mid f) → ServedTo p more_parts more_layers (x.items ++ history) (buffered_of mid) second is_told new e → ServedTo p more_parts more_layers history kept all (is_in || is_told) new e
  served_on is_in is_told all is x y =
      let same = append_assoc y.items x.items history in
      let place = subst (λ (h : List Item). StandsAfter p Server more_parts more_layers h new e) (sym same) y.place in
      record {
        items = y.items ++ x.items;
        place = place;
        let_in = later x.items y.items is_in is_told place x.let_in y.let_in;
        kept_out = λ so user by told.
            let neither = not_either is_in is_told so in
            elim (split (Told (Accepted user by)) y.items x.items told) [
              | inl e ↦ y.kept_out neither.1 user by e
              | inr e ↦ x.kept_out neither.0 user by e
            ];
        reads = λ following last rest d.
            subst (λ (l : List ℕ). Delivered (end_reading p Server) history (kept ++ l) last rest) (sym (append_assoc first second following) ∙ ap (λ (l : List ℕ). l ++ following) is)
            (x.reads (second ++ following) last rest (y.reads following last rest (subst (λ (h : List Item). Delivered (end_reading p Server) h (buffered_of new ++ following) last rest) same d)));
      }

-- A server that is over drops what comes after.
pub served_over : {K : Type 0} (p : Parties K) (parts layers : Type 0) (history : List Item) (kept first more all : List ℕ) (is_in : Bool) (machine : State K) (e : EndState K) → first ++ more ≡ all → e.transport ≡ machine.kept → machine.kept.dead ≡ true →
    ServedTo p parts layers history kept first is_in machine e → ServedTo p parts layers history kept all is_in machine e
served_over p parts layers history kept first more all is_in machine e is same over x = record {
  items = x.items;
  place = x.place;
  let_in = x.let_in;
  kept_out = x.kept_out;
  reads = λ following last rest d.
      subst (λ (l : List ℕ). Delivered (end_reading p Server) history (kept ++ l) last rest) (sym (append_assoc first more following) ∙ ap (λ (l : List ℕ). l ++ following) is)
      (x.reads (more ++ following) last rest
      (dropped p (x.items ++ history) last (buffered_of machine ++ following) (buffered_of machine ++ (more ++ following)) rest (sym x.place.sums.transport.dead_is ∙ (ap (λ t. t.dead) same ∙ over)) d));
}
