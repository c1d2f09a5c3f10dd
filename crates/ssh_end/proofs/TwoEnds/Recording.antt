-- What is recorded of a turn, item by item.
use Rattle.std.proofs.Common.{◌≡◌, ℕ, ◌+◌, ◌<◌, ◌≤◌, Bool, true, false, List, [], ◌∷◌, ◌++◌, get_or, length, map, take, refl, ap, sym, ◌∙◌, subst, arith, Option, Some, None, option_map, Ok, Err}
use Rattle.std.specs.Prelude.{Result, OnOk}
use Rattle.std.proofs.lemmas.List.{length-append, length-map, take_all, take_more}
use Rattle.ssh_model.specs.declared.refusal.Refusal.{Refusal}
use Rattle.ssh_model.specs.declared.side.Side.{Side}
use Rattle.ssh_model.specs.Protocol.Side.{DoneBy.By, done_by}
use Rattle.ssh_model.specs.State.Channels.Summary.{told}
use Rattle.ssh_model.specs.Protocol.Wire.Message.{Msg, Msg.Disconnect}
use Rattle.ssh_model.specs.declared.refusal.Refusal.TheVariants.{NumberSpent}
use Rattle.ssh_model.specs.Protocol.Sessions.Items.{Ask, Done, Fact, Fact.Disconnected, Fact.Ignored, Fact.Opening, Item, Item.Asked, Item.Died, Item.Refused, Item.Sent, Item.Told, Item.Took, Encoded, has_died, messages_sent}
use Rattle.ssh_model.specs.State.TransportLayer.Summary.{items_sent}
use Rattle.ssh_transport_machine.specs.Puts.{payloads_of}
use Rattle.ssh_end_machine.specs.Asking.{ShowsAsk}
use Rattle.ssh_end_machine.specs.Owed.{channels_sent}
use Rattle.ssh_end_machine.specs.SentItems.{are_quiet, encoded_are_sent, fact_over, oldest_is, refusal_over}
use Rattle.ssh_end_machine.specs.Steps.{AreSent, Shows, fact_told}
use Rattle.ssh_end_machine.specs.Told.{told_of}
use Rattle.ssh_end_machine.specs.Turn.{ShowsTaken, TurnShows, channels_in, payloads_in}
use Rattle.ssh_end_machine.specs.declared.step.Step.{Step}
use Rattle.ssh_end_machine.specs.declared.asking.outcome.AskStep.{AskStep}
use Rattle.ssh_end_machine.specs.declared.turn.Took.{Took as Shown}
use Rattle.ssh_end_machine.specs.declared.turn.Turn.{Turn}
use Rattle.ssh_end.specs.TwoEnds.Items.{IsItem, Records}
use Rattle.ssh_end.specs.TwoEnds.Recording.{Adds, AddsDeath, AddsRefused, AddsSent, AddsStep, AddsTold, AddsTook, AddsTurn}
use Rattle.ssh_end.specs.declared.item.Done as declared

-- ---- one after the other

pub recorded_one : (log new : List declared.Done) (done : declared.Done) → new ≡ log ++ done ∷ [] → (run : List Done) (what : Item) → IsItem done.item what → Records log run → Records new (By done.side what ∷ run)
recorded_one log new done e run what is recorded = subst (λ (l : List declared.Done). Records l (By done.side what ∷ run)) (sym e) (Records.records done what is recorded)

done_more : (side : Side) (late early : List Item) (run : List Done) → done_by side (late ++ early) ++ run ≡ done_by side late ++ (done_by side early ++ run)
done_more side [] early run = refl
done_more side (item ∷ late) early run = ap (λ (l : List Done). By side item ∷ l) (done_more side late early run)

pub adds_nothing : (side : Side) (log : List declared.Done) → Adds side [] log log
adds_nothing side log run x = x

pub adds_more : (side : Side) (early late : List Item) (one two three : List declared.Done) → Adds side early one two → Adds side late two three → Adds side (late ++ early) one three
adds_more side early late one two three x y run recorded = subst (λ (r : List Done). Records three r) (sym (done_more side late early run)) (y (done_by side early ++ run) (x run recorded))

adds_same : (side : Side) (items : List Item) (one two three : List declared.Done) → Adds side items one two → three ≡ two → Adds side items one three
adds_same side items one two three x e = subst (λ (l : List declared.Done). Adds side items one l) (sym e) x

-- ---- the parts of a turn

took_recorded : (side : Side) (took : Option Shown) (item : Item) (one two : List declared.Done) → (ShowsTaken None (Some item) → ⊥) → ShowsTaken took (Some item) → AddsTook side took one two → Adds side (item ∷ []) one two
took_recorded side None item one two other x y = absurd (other x)
took_recorded side (Some took) item one two other x y = y item x

none_taken : (side : Side) (took : Option Shown) (one two : List declared.Done) → ShowsTaken took None → AddsTook side took one two → two ≡ one
none_taken side None one two x y = y
none_taken side (Some (Shown.OtherLine text)) one two x y = absurd x
none_taken side (Some (Shown.VersionLine text)) one two x y = absurd x
none_taken side (Some (Shown.Skipped payload)) one two x y = absurd x
none_taken side (Some (Shown.Message channel message payload)) one two x y = absurd x

-- what is taken is nothing where the oldest item is a refusal
refusal_untaken : (side : Side) (took : Option Shown) (why : _) (opened : Option (List ℕ)) (one two : List declared.Done) → ShowsTaken took (Some (Refused why opened)) → AddsTook side took one two → two ≡ one
refusal_untaken side None why opened one two x y = y
refusal_untaken side (Some (Shown.OtherLine text)) why opened one two x y = cc x
refusal_untaken side (Some (Shown.VersionLine text)) why opened one two x y = cc x
refusal_untaken side (Some (Shown.Skipped payload)) why opened one two x y = cc x
refusal_untaken side (Some (Shown.Message channel message payload)) why opened one two x y = cc x

none_refused : (side : Side) (refused : Option Refusal) (one two : List declared.Done) → refused ≡ None → AddsRefused side refused one two → two ≡ one
none_refused side None one two e y = y
none_refused side (Some why) one two e y = cc e

some_refused : (side : Side) (refused : Option Refusal) (why : Refusal) (opened : Option (List ℕ)) (one two : List declared.Done) → refused ≡ Some why → AddsRefused side refused one two → Adds side (Refused why opened ∷ []) one two
some_refused side None why opened one two e y = cc e
some_refused side (Some other) why opened one two e y = subst (λ r. Adds side (Refused r opened ∷ []) one two) (some_same e) (y opened)
  where
    some_same : {A : Type 0} {x y : A} → Some x ≡ Some y → x ≡ y
    some_same e = cc e

told_recorded : (side : Side) (fact : Option Fact) (before : List Item) (one two three : List declared.Done) → Adds side before one two → AddsTold side fact two three → Adds side (told fact before) one three
told_recorded side None before one two three x y = adds_same side before one two three x y
told_recorded side (Some fact) before one two three x y = adds_more side before (Told fact ∷ []) one two three x y

death_recorded : (side : Side) (is_over : Bool) (before : List Item) (one two three : List declared.Done) → is_over ≡ false → Adds side before one two → AddsDeath side is_over two three → Adds side before one three
death_recorded side false before one two three e x y = adds_same side before one two three x y
death_recorded side true before one two three e x y = cc e

end_recorded : (side : Side) (is_over : Bool) (before : List Item) (one two three : List declared.Done) → is_over ≡ true → Adds side before one two → AddsDeath side is_over two three → Adds side (Died ∷ before) one three
end_recorded side false before one two three e x y = cc e
end_recorded side true before one two three e x y = adds_more side before (Died ∷ []) one two three x y

-- ---- nothing but messages sent

died_over : (fact : Option Fact) (sent rest : List Item) → has_died (told fact sent ++ rest) ≡ has_died (sent ++ rest)
died_over None sent rest = refl
died_over (Some fact) sent rest = refl

messages_over : (fact : Option Fact) (sent rest : List Item) → messages_sent (told fact sent ++ rest) ≡ messages_sent (sent ++ rest)
messages_over None sent rest = refl
messages_over (Some fact) sent rest = refl

channels_over : (fact : Option Fact) (sent rest : List Item) → channels_sent (told fact sent ++ rest) ≡ channels_sent (sent ++ rest)
channels_over None sent rest = refl
channels_over (Some fact) sent rest = refl

told_over : (fact : Option Fact) (sent rest : List Item) → told fact (sent ++ rest) ≡ told fact sent ++ rest
told_over None sent rest = refl
told_over (Some fact) sent rest = refl

no_more : (l : List Encoded) → l ++ [] ≡ l
no_more [] = refl
no_more (x ∷ l) = ap (λ (m : List Encoded). x ∷ m) (no_more l)

-- ---- a turn

module _ (side : Side) (turn : Turn) (is_over : Bool) (one two three four five six : List declared.Done)
    (took : AddsTook side turn.took one two) (refused : AddsRefused side turn.refused two three)
    (sent : AddsSent side (payloads_in turn.sent) (channels_in turn.sent) three four) (tells : AddsTold side (option_map told_of turn.told) four five)
    (dies : AddsDeath side is_over five six) where
  -- an item was taken, for which nothing was sent
  alone : (item : Item) (fact : Option Fact) → (ShowsTaken None (Some item) → ⊥) → ShowsTaken turn.took (Some item) → option_map told_of turn.told ≡ fact → turn.refused ≡ None → payloads_in turn.sent ≡ [] → channels_in turn.sent ≡ [] → Adds side (told fact (item ∷ [])) one five
  alone item fact other is tells_is unrefused unsent on_none =
      let a : Adds side (item ∷ []) one three = adds_same side (item ∷ []) one two three (took_recorded side turn.took item one two other is took) (none_refused side turn.refused two three unrefused refused) in
      let b : Adds side (item ∷ []) one four = adds_more side (item ∷ []) [] one three four a (sent [] tt unsent on_none) in
      told_recorded side fact (item ∷ []) one four five b (subst (λ (f : Option Fact). AddsTold side f four five) tells_is tells)

  -- a message was taken, for which these were sent
  message_recorded : (fact : Option Fact) (channel : Option ℕ) (message : Msg) (payload : List ℕ) (items : List Item) → AreSent items → TurnShows turn (told fact items ++ Took channel message payload ∷ []) →
      payloads_in turn.sent ≡ payloads_of (messages_sent (told fact items ++ Took channel message payload ∷ [])) → channels_in turn.sent ≡ channels_sent (told fact items ++ Took channel message payload ∷ []) → is_over ≡ has_died (told fact items ++ Took channel message payload ∷ []) →
      Adds side (told fact items ++ Took channel message payload ∷ []) one six
  message_recorded fact channel message payload items are shows lists on over =
      let taken : Item = Took channel message payload in
      let quiet = are_quiet items (taken ∷ []) are in
      let is : ShowsTaken turn.took (Some taken) = subst (λ (i : Option Item). ShowsTaken turn.took i) (oldest_is (told fact items) taken) shows.took in
      let tells_is : option_map told_of turn.told ≡ fact = shows.told ∙ fact_over fact items (taken ∷ []) quiet.fact in
      let unrefused : turn.refused ≡ None = shows.refused ∙ (refusal_over fact items (taken ∷ []) ∙ quiet.refusal) in
      let says : payloads_in turn.sent ≡ payloads_of (messages_sent items) = lists ∙ ap payloads_of (messages_over fact items (taken ∷ []) ∙ (quiet.messages ∙ no_more (messages_sent items))) in
      let says_on : channels_in turn.sent ≡ channels_sent items = on ∙ (channels_over fact items (taken ∷ []) ∙ quiet.channels) in
      let alive : is_over ≡ false = over ∙ (died_over fact items (taken ∷ []) ∙ quiet.alive) in
      let a : Adds side (taken ∷ []) one three = adds_same side (taken ∷ []) one two three (took_recorded side turn.took taken one two (λ x. x) is took) (none_refused side turn.refused two three unrefused refused) in
      let b : Adds side (items ++ taken ∷ []) one four = adds_more side (taken ∷ []) items one three four a (sent items are says says_on) in
      let c : Adds side (told fact (items ++ taken ∷ [])) one five = told_recorded side fact (items ++ taken ∷ []) one four five b (subst (λ (f : Option Fact). AddsTold side f four five) tells_is tells) in
      subst (λ (l : List Item). Adds side l one six) (told_over fact items (taken ∷ []))
      (death_recorded side is_over (told fact (items ++ taken ∷ [])) one five six alive c dies)

  -- the peer was refused
  refusal_recorded : (why : Refusal) (opened : Option (List ℕ)) (said : List Encoded) → TurnShows turn (Died ∷ (items_sent said ++ (Refused why opened ∷ []))) →
      payloads_in turn.sent ≡ payloads_of (messages_sent (Died ∷ (items_sent said ++ (Refused why opened ∷ [])))) → channels_in turn.sent ≡ channels_sent (Died ∷ (items_sent said ++ (Refused why opened ∷ []))) → is_over ≡ true →
      Adds side (Died ∷ (items_sent said ++ (Refused why opened ∷ []))) one six
  refusal_recorded why opened said shows lists on over =
      let refusing : Item = Refused why opened in
      let are = encoded_are_sent said in
      let quiet = are_quiet (items_sent said) (refusing ∷ []) are in
      let is : ShowsTaken turn.took (Some refusing) = subst (λ (i : Option Item). ShowsTaken turn.took i) (oldest_is (Died ∷ items_sent said) refusing) shows.took in
      let untaken : two ≡ one = refusal_untaken side turn.took why opened one two is took in
      let refuses : turn.refused ≡ Some why = shows.refused ∙ quiet.refusal in
      let says : payloads_in turn.sent ≡ payloads_of (messages_sent (items_sent said)) = lists ∙ ap payloads_of (quiet.messages ∙ no_more (messages_sent (items_sent said))) in
      let says_on : channels_in turn.sent ≡ channels_sent (items_sent said) = on ∙ quiet.channels in
      let untold : option_map told_of turn.told ≡ None = shows.told ∙ quiet.fact in
      let a : Adds side (refusing ∷ []) one three = subst (λ (l : List declared.Done). Adds side (refusing ∷ []) l three) untaken (some_refused side turn.refused why opened two three refuses refused) in
      let b : Adds side (items_sent said ++ refusing ∷ []) one four = adds_more side (refusing ∷ []) (items_sent said) one three four a (sent (items_sent said) are says says_on) in
      let c : Adds side (items_sent said ++ refusing ∷ []) one five = told_recorded side None (items_sent said ++ refusing ∷ []) one four five b (subst (λ (f : Option Fact). AddsTold side f four five) untold tells) in
      end_recorded side is_over (items_sent said ++ refusing ∷ []) one five six over c dies

  shown_recorded : (payload : List ℕ) (given : Step) (items : List Item) → Shows payload given items → TurnShows turn items → payloads_in turn.sent ≡ payloads_of (messages_sent items) → channels_in turn.sent ≡ channels_sent items → is_over ≡ has_died items → Adds side items one six
  shown_recorded payload _ _ Shows.other_line shows lists on over = death_recorded side is_over (Item.TookOtherLine payload ∷ []) one five six over (alone (Item.TookOtherLine payload) None (λ x. x) shows.took shows.told shows.refused lists on) dies
  shown_recorded payload _ _ Shows.version_line shows lists on over = death_recorded side is_over (Item.TookLine payload ∷ []) one five six over (alone (Item.TookLine payload) None (λ x. x) shows.took shows.told shows.refused lists on) dies
  shown_recorded payload _ _ Shows.skipped shows lists on over = death_recorded side is_over (Told Ignored ∷ Item.TookGuess payload ∷ []) one five six over (alone (Item.TookGuess payload) (Some Ignored) (λ x. x) shows.took shows.told shows.refused lists on) dies
  shown_recorded payload _ _ (Shows.took channel probing telling given items is are) shows lists on over = message_recorded (fact_told telling given channel) channel given payload items are shows lists on over
  shown_recorded payload _ _ (Shows.disconnected reason description language is) shows lists on over = end_recorded side is_over (Told (Disconnected reason description) ∷ Took None (Disconnect reason description language) payload ∷ []) one five six over (alone (Took None (Disconnect reason description language) payload) (Some (Disconnected reason description)) (λ x. x) shows.took shows.told shows.refused lists on) dies
  shown_recorded payload _ _ (Shows.refused why opened said) shows lists on over = refusal_recorded why opened said shows lists on over

  -- nothing was done
  quiet_recorded : TurnShows turn [] → payloads_in turn.sent ≡ [] → channels_in turn.sent ≡ [] → is_over ≡ false → Adds side [] one six
  quiet_recorded shows lists on over =
      let a : Adds side [] one three = adds_same side [] one two three (adds_same side [] one one two (adds_nothing side one) (none_taken side turn.took one two shows.took took)) (none_refused side turn.refused two three shows.refused refused) in
      let b : Adds side [] one four = adds_more side [] [] one three four a (sent [] tt lists on) in
      death_recorded side is_over [] one five six over (told_recorded side None [] one four five b (subst (λ (f : Option Fact). AddsTold side f four five) shows.told tells)) dies

  pub turn_recorded : AddsTurn side turn is_over one six
  turn_recorded = record { shown = shown_recorded; quiet = quiet_recorded }

-- ---- an ask

module _ (side : Side) (asked : Ask) (payloads : List (List ℕ)) (channels : List (Option ℕ)) (is_over : Bool) (one two three four : List declared.Done)
    (asks : Adds side (Asked asked ∷ []) one two) (dies : AddsDeath side is_over three four) where
  -- what was sent, with the number of a channel that opens with it or without one
  sent_recorded : (fact : Option Fact) (channel : Option ℕ) (message : Msg) (payload : List ℕ) (refused sent : List declared.Done) → refused ≡ two → AddsSent side payloads channels refused sent → AddsTold side fact sent three →
      payloads ≡ payload ∷ [] → channels ≡ channel ∷ [] → Adds side (told fact (Sent channel message payload ∷ Asked asked ∷ [])) one three
  sent_recorded fact channel message payload refused sent same adds tells lists on =
      let a : Adds side (Asked asked ∷ []) one refused = adds_same side (Asked asked ∷ []) one two refused asks same in
      let b : Adds side (Sent channel message payload ∷ Asked asked ∷ []) one sent = adds_more side (Asked asked ∷ []) (Sent channel message payload ∷ []) one refused sent a (adds (Sent channel message payload ∷ []) tt lists on) in
      told_recorded side fact (Sent channel message payload ∷ Asked asked ∷ []) one sent three b tells

  pub ask_recorded : (step : AskStep) → AddsStep side step payloads channels two three → (items : List Item) → ShowsAsk asked step items → payloads ≡ payloads_of (messages_sent items) → channels ≡ channels_sent items → is_over ≡ has_died items → Adds side items one four
  ask_recorded _ x _ (ShowsAsk.sent channel None message payload) lists on over =
      death_recorded side is_over (Sent channel message payload ∷ Asked asked ∷ []) one three four over (sent_recorded None channel message payload x.refused x.sent x.adds_refused x.adds_sent x.adds_opening lists on) dies
  ask_recorded _ x _ (ShowsAsk.sent channel (Some opening) message payload) lists on over =
      death_recorded side is_over (Told (Opening opening) ∷ Sent channel message payload ∷ Asked asked ∷ []) one three four over (sent_recorded (Some (Opening opening)) channel message payload x.refused x.sent x.adds_refused x.adds_sent x.adds_opening lists on) dies
  ask_recorded _ x _ (ShowsAsk.disconnected description payload is) lists on over =
      end_recorded side is_over (Sent None (Disconnect 11 description []) payload ∷ Asked asked ∷ []) one three four over (sent_recorded None None (Disconnect 11 description []) payload x.refused x.sent x.adds_refused x.adds_sent x.adds_opening lists on) dies
  ask_recorded _ x _ ShowsAsk.spent lists on over =
      let a : Adds side (Refused NumberSpent None ∷ Asked asked ∷ []) one x.refused = adds_more side (Asked asked ∷ []) (Refused NumberSpent None ∷ []) one two x.refused asks (x.adds_refused None) in
      let b : Adds side (Refused NumberSpent None ∷ Asked asked ∷ []) one x.sent = adds_more side (Refused NumberSpent None ∷ Asked asked ∷ []) [] one x.refused x.sent a (x.adds_sent [] tt lists on) in
      end_recorded side is_over (Refused NumberSpent None ∷ Asked asked ∷ []) one three four over (adds_same side (Refused NumberSpent None ∷ Asked asked ∷ []) one x.sent three b x.adds_opening) dies

-- ---- what was sent, one after the other

no_end : {A : Type 0} (l : List A) (x : A) → [] ≡ l ++ x ∷ [] → ⊥
no_end [] x e = cc e
no_end (y ∷ l) x e = cc e

record SameEnds {A : Type 0} (l m : List A) (x y : A) : Type 0 where
  pub fronts : l ≡ m
  pub lasts : x ≡ y

same_ends : {A : Type 0} (l m : List A) (x y : A) → l ++ x ∷ [] ≡ m ++ y ∷ [] → SameEnds l m x y
same_ends [] [] x y e = record { fronts = refl; lasts = cc e }
same_ends [] (b ∷ m) x y e = absurd (no_end m y (cc e))
same_ends (a ∷ l) [] x y e = absurd (no_end l x (cc e))
same_ends (a ∷ l) (b ∷ m) x y e = let r = same_ends l m x y (cc e) in record { fronts = both a b l m (cc e) r.fronts; lasts = r.lasts }
  where
    both : {A : Type 0} (a b : A) (l m : List A) → a ≡ b → l ≡ m → a ∷ l ≡ b ∷ m
    both a b l m e f = ap (λ (x : _). x ∷ l) e ∙ ap (λ (t : List _). b ∷ t) f

pub sent_none : (side : Side) (one : List declared.Done) → AddsSent side [] [] one one
sent_none side one items are e on = none items are e
  where
    none : (items : List Item) → AreSent items → [] ≡ payloads_of (messages_sent items) → Adds side items one one
    none [] are e = adds_nothing side one
    none (Item.Sent channel message payload ∷ items) are e = absurd (no_end (payloads_of (messages_sent items)) payload e)
    none (Item.Fed cookie secret ∷ items) are e = absurd are
    none (Item.Asked ask ∷ items) are e = absurd are
    none (Item.AskRefused why ∷ items) are e = absurd are
    none (Item.SentLine line ∷ items) are e = absurd are
    none (Item.TookLine line ∷ items) are e = absurd are
    none (Item.TookOtherLine line ∷ items) are e = absurd are
    none (Item.Took channel message payload ∷ items) are e = absurd are
    none (Item.TookGuess payload ∷ items) are e = absurd are
    none (Item.Told fact ∷ items) are e = absurd are
    none (Item.Refused why payload ∷ items) are e = absurd are
    none (Item.Died ∷ items) are e = absurd are

pub sent_more : (side : Side) (payloads : List (List ℕ)) (payload : List ℕ) (channels : List (Option ℕ)) (channel : Option ℕ) (one two three : List declared.Done) → AddsSent side payloads channels one two →
    ((message : Msg) → Adds side (Sent channel message payload ∷ []) two three) → AddsSent side (payloads ++ payload ∷ []) (channels ++ channel ∷ []) one three
sent_more side payloads payload channels channel one two three x y items are e on = goes items are e on
  where
    goes : (items : List Item) → AreSent items → payloads ++ payload ∷ [] ≡ payloads_of (messages_sent items) → channels ++ channel ∷ [] ≡ channels_sent items → Adds side items one three
    goes [] are e on = absurd (no_end payloads payload (sym e))
    goes (Item.Sent number message other ∷ items) are e on =
        let same = same_ends payloads (payloads_of (messages_sent items)) payload other e in
        let same_on = same_ends channels (channels_sent items) channel number on in
        let recorded : Adds side (Sent channel message other ∷ []) two three = subst (λ (b : List ℕ). Adds side (Sent channel message b ∷ []) two three) same.lasts (y message) in
        adds_more side items (Sent number message other ∷ []) one two three (x items are same.fronts same_on.fronts) (subst (λ (c : Option ℕ). Adds side (Sent c message other ∷ []) two three) same_on.lasts recorded)
    goes (Item.Fed cookie secret ∷ items) are e on = absurd are
    goes (Item.Asked ask ∷ items) are e on = absurd are
    goes (Item.AskRefused why ∷ items) are e on = absurd are
    goes (Item.SentLine line ∷ items) are e on = absurd are
    goes (Item.TookLine line ∷ items) are e on = absurd are
    goes (Item.TookOtherLine line ∷ items) are e on = absurd are
    goes (Item.Took channel message payload ∷ items) are e on = absurd are
    goes (Item.TookGuess payload ∷ items) are e on = absurd are
    goes (Item.Told fact ∷ items) are e on = absurd are
    goes (Item.Refused why payload ∷ items) are e on = absurd are
    goes (Item.Died ∷ items) are e on = absurd are

-- what was sent has as many channels as payloads
as_many : (sent : List Item) → AreSent sent → length (channels_sent sent) ≡ length (payloads_of (messages_sent sent))
as_many [] are = refl
as_many (Item.Sent channel message payload ∷ sent) are =
    length-append (channels_sent sent) (channel ∷ []) ∙ (ap (λ (n : ℕ). n + 1) (as_many sent are) ∙ sym (length-append (payloads_of (messages_sent sent)) (payload ∷ [])))
as_many (_ ∷ sent) are = absurd are

-- Where each payload has its channel, so many of the first of both were recorded.
abbrev pub AddsFirst : {V : Type 0} → Side → (V → List ℕ) → List V → List (Option ℕ) → ℕ → (old new : List declared.Done) → Type 0
AddsFirst side f items channels i old new = length channels ≡ length items → AddsSent side (map f (take i items)) (take i channels) old new

pub sent_next : {V : Type 0} (side : Side) (f : V → List ℕ) (items : List V) (channels : List (Option ℕ)) (i : ℕ) (x : V) (channel : Option ℕ) (one two three : List declared.Done) → x ≡ get_or items i x → channel ≡ get_or channels i None → i < length items → AddsFirst side f items channels i one two →
    ((message : Msg) → Adds side (Sent channel message (f x) ∷ []) two three) → AddsFirst side f items channels (i + 1) one three
sent_next side f items channels i x channel one two three e on lt before one_more same =
    let next : take (i + 1) items ≡ take i items ++ x ∷ [] = take_more items i x lt ∙ ap (λ (y : _). take i items ++ y ∷ []) (sym e) in
    let next_on : take (i + 1) channels ≡ take i channels ++ channel ∷ [] = take_more channels i None (omega (arith, lt, same)) ∙ ap (λ (c : Option ℕ). take i channels ++ c ∷ []) (sym on) in
    let recorded : AddsSent side (map f (take i items) ++ f x ∷ []) (take i channels ++ channel ∷ []) one three = sent_more side (map f (take i items)) (f x) (take i channels) channel one two three (before same) one_more in
    subst (λ (l : List (List ℕ)). AddsSent side l (take (i + 1) channels) one three) (sym (ap (map f) next ∙ mapped_more f (take i items) x))
    (subst (λ (l : List (Option ℕ)). AddsSent side (map f (take i items) ++ f x ∷ []) l one three) (sym next_on) recorded)
  where
    mapped_more : {V : Type 0} (f : V → List ℕ) (l : List V) (x : V) → map f (l ++ x ∷ []) ≡ map f l ++ f x ∷ []
    mapped_more f [] x = refl
    mapped_more f (y ∷ l) x = ap (λ (t : List (List ℕ)). f y ∷ t) (mapped_more f l x)

pub sent_all : {V : Type 0} (side : Side) (f : V → List ℕ) (items : List V) (channels : List (Option ℕ)) (payloads : List (List ℕ)) (i : ℕ) (one two : List declared.Done) → map f items ≡ payloads → length items ≤ i → AddsFirst side f items channels i one two → AddsSent side payloads channels one two
sent_all side f items channels payloads i one two all done recorded sent are says on =
    let same : length channels ≡ length items = ap length on ∙ (as_many sent are ∙ (ap length (sym says) ∙ (ap length (sym all) ∙ length-map items f))) in
    recorded same sent are (ap (map f) (take_all i items done) ∙ (all ∙ says)) (take_all i channels (omega (arith, done, same)) ∙ on)

-- ---- of what may fail

pub on_ok : {T E : Type 0} {P Q : Type 0} (r : Result T E) → (P → Q) → OnOk r P → OnOk r Q
on_ok (Ok x) f p = f p
on_ok (Err e) f p = p

pub on_both : {T E : Type 0} (P Q : Type 0) (r : Result T E) → OnOk r P → OnOk r Q → OnOk r (P × Q)
on_both P Q (Ok x) p q = (p, q)
on_both P Q (Err e) p q = p
