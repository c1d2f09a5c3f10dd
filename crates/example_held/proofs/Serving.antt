-- A server goes on from one place to the next, and its program says more on the way.
use Rattle.std.proofs.Common.{◌≡◌, ℕ, Bool, true, false, Option, Some, None, List, [], ◌∷◌, ◌++◌, Result, Ok, Err, append_assoc, take, refl, ap, sym, subst, ◌∙◌}
use Rattle.std.specs.Prelude.{option_map}
use Rattle.std.specs.Result.{IsErr}
use Rattle.std.proofs.lemmas.Bool.{false≢true}
use Rattle.ssh_channels.specs.Values.{fact_of}
use Rattle.ssh_channels.specs.declared.event.ChannelEvent.{ChannelEvent}
use Rattle.ssh_channels.specs.declared.event.ChannelEvent.TheVariants as event
use Rattle.ssh_kex.specs.Parts.{HostKeys}
use Rattle.ssh_model.specs.Laws.Verdicts.{judged_by}
use Rattle.ssh_model.specs.Protocol.Lists.{IsIn}
use Rattle.ssh_model.specs.Protocol.Sessions.Items.{Credential, Fact.Accepted, Item, Item.Told}
use Rattle.ssh_model.specs.Protocol.Sessions.Parties.{Agreement, AreLawful, Parties}
use Rattle.ssh_model.specs.Protocol.Sessions.Turns.{EndRun}
use Rattle.ssh_model.specs.Protocol.Wire.Sealing.{Crypto}
use Rattle.ssh_model.specs.declared.side.Side.TheVariants.{Server}
use Rattle.ssh_transport_machine.specs.Puts.{Outs}
use Rattle.ssh_transport_machine.specs.State.{State, buffered_of}
use Rattle.ssh_end_machine.specs.Calls.{outs_of}
use Rattle.ssh_end_machine.specs.Ends.{EndValue}
use Rattle.ssh_end_machine.specs.Parts.{ServerRole}
use Rattle.ssh_end_machine.specs.Stands.{state_of}
use Rattle.ssh_end_machine.specs.Steps.{Shows, shown_by}
use Rattle.ssh_end_machine.specs.Told.{credential_of, told_of}
use Rattle.ssh_end_machine.specs.declared.asking.outcome.Fault.{Fault}
use Rattle.ssh_end_machine.specs.declared.step.Step.TheVariants as step
use Rattle.ssh_end_machine.specs.declared.told.Told.{Told as Tells}
use Rattle.ssh_end_machine.specs.declared.told.Told.TheVariants as tells
use Rattle.ssh_held.specs.Book.{LetInByVerdict, Signatures, awaits_signature, is_next, judge_by}
use Rattle.ssh_held.specs.Held.{AsksNext, HeldAt, IsWanted, judged_by_book, session_of}
use Rattle.ssh_held.specs.Places.{TakenTo, TurnedOn, TurnedOn.turns, TurnedOn.waits, WentOn}
use Rattle.ssh_held.specs.declared.book.Verdict.{Verdict}
use Rattle.ssh_held.specs.declared.book.Verdicts.{Verdicts}
use Rattle.ssh_held.specs.declared.taken.Taken.{Taken}
use Rattle.ssh_held.specs.declared.taken.Taken.TheVariants as taken
use Rattle.example_held.specs.LookUps.{SaidOne}
use Rattle.example_held.specs.Serving.{IsOnRequest, ServedTo, ServesTo, Who, is_accepted_in, let_in}
use Rattle.example_held.specs.Turning.{SaysWhether, TurnFor, WentBy}
use Rattle.example_held.specs.declared.server.Served.{Served}
use Rattle.example_held.proofs.Telling.{FindsFact, none_says, says_on}
use Rattle.example_held.proofs.Turning.{went_on, went_one}

-- ---- who is told

found : (t : Option Tells) → is_accepted_in t ≡ true → (who : Who) × (option_map told_of t ≡ Some (let_in who))
found (Some (tells.Accepted user by)) e = (record { user = user.now; by = credential_of by }, refl)
found None e = absurd (false≢true e)
found (Some other) e = absurd (false≢true e)

not_of_channel : (given : ChannelEvent) (who : Who) → Some (fact_of given) ≡ Some (let_in who) → ⊥
not_of_channel (event.Global name want rest) who e = cc e
not_of_channel (event.GlobalDone success rest) who e = cc e
not_of_channel (event.Opening channel) who e = cc e
not_of_channel (event.Opened channel kind window max_packet rest) who e = cc e
not_of_channel (event.Confirmed channel window max_packet rest) who e = cc e
not_of_channel (event.OpenFailed channel reason description) who e = cc e
not_of_channel (event.GotData channel kind body) who e = cc e
not_of_channel (event.Adjusted channel bytes) who e = cc e
not_of_channel (event.Ended channel) who e = cc e
not_of_channel (event.Closed channel) who e = cc e
not_of_channel (event.Requested channel name want rest) who e = cc e
not_of_channel (event.RequestDone channel success) who e = cc e

all : (t : Option Tells) (who : Who) → option_map told_of t ≡ Some (let_in who) → is_accepted_in t ≡ true
all (Some (tells.Accepted user by)) who e = refl
all (Some (tells.Channel given)) who e = absurd (not_of_channel given who e)
all None who e = cc e
all (Some other) who e = cc e

pub finds_users : FindsFact let_in is_accepted_in
finds_users = record { found = found; all = all }

-- ---- places

-- the law of ends whose users a program judges
abbrev pub AcceptedLaw : (K : Type 0) → Type 0
AcceptedLaw K =
    (p : Parties K) (signatures : Signatures) (verdicts : List Verdict) (h : List Item) → AreLawful
    (judged_by (judge_by signatures verdicts) p) →
    EndRun (judged_by (judge_by signatures verdicts) p) Server h → (user : List ℕ) (by : Credential) → IsIn (Told (Accepted user by)) h →
    LetInByVerdict (judged_by (judge_by signatures verdicts) p) h signatures.knows verdicts user by

module _ {P S X F A H K : Type 0} (c : Crypto K) (does : A → Agreement) (keys : H → HostKeys) (signatures : S → Signatures) (p : Parties K)
    (history : List Item) where
  -- a place at which nothing was used
  pub served_nothing : AcceptedLaw K → (server : EndValue K (ServerRole P (Verdicts S) X F A H K) F) →
      HeldAt c does keys signatures p server history → ServedTo c does keys signatures p history server [] false server
  served_nothing law server at = record {
    items = [];
    place = at;
    went = WentBy.nowhere;
    says = none_says let_in;
    by_verdict = law p (signatures server.role.own.judge.signatures) server.role.own.judge.list.items history at.place.lawful at.place.run;
  }

  -- one line or one packet, taken at a place where the program had said more than at the old one
  pub served_one : AcceptedLaw K → (old mid new : EndValue K (ServerRole P (Verdicts S) X F A H K) F) (bytes : List ℕ) (o : Outs)
      (later : List Verdict) (is_in : Bool) → buffered_of mid.machine ≡ buffered_of old.machine →
      mid.role.own.judge.list.items ≡ old.role.own.judge.list.items ++ later → new.role ≡ mid.role →
      ((items : List Item) → Shows (shown_by new.step new.machine) new.step items → SaysWhether let_in items is_in) →
      (new.step ≡ step.More → is_in ≡ false) →
      TurnedOn (HeldAt c does keys signatures p new) (judged_by_book signatures mid.role.own.judge p) Server history
      (buffered_of mid.machine ++ bytes) new.step new.machine (state_of new) o →
      ServedTo c does keys signatures p history old bytes is_in new
  served_one law old mid new bytes o later is_in kept said same says waiting turned = by_turn turned
    where
      went : (items : List Item) →
          TurnFor (judged_by_book signatures mid.role.own.judge p) Server history (buffered_of mid.machine ++ bytes) items
          (buffered_of new.machine) →
          WentBy (λ (book : Verdicts S). judged_by_book signatures book p) (λ (book : Verdicts S). book.list.items) Server history
          (buffered_of old.machine) old.role.own.judge.list.items bytes items (buffered_of new.machine) new.role.own.judge.list.items
      went items turn =
          went_one (λ (book : Verdicts S). judged_by_book signatures book p) (λ (book : Verdicts S). book.list.items) Server history
          (buffered_of old.machine) old.role.own.judge.list.items bytes items (buffered_of new.machine) later new.role.own.judge
          (ap (λ (r : ServerRole P (Verdicts S) X F A H K). r.own.judge.list.items) same ∙ said)
          (subst (λ (r : ServerRole P (Verdicts S) X F A H K). TurnFor (judged_by_book signatures r.own.judge p) Server history
          (buffered_of old.machine ++ bytes) items (buffered_of new.machine)) (sym same)
          (subst (λ (l : List ℕ). TurnFor (judged_by_book signatures mid.role.own.judge p) Server history (l ++ bytes) items
          (buffered_of new.machine)) kept turn))

      accepted : (items : List Item) → HeldAt c does keys signatures p new items → (user : List ℕ) (by : Credential) →
          IsIn (Told (Accepted user by)) items →
          LetInByVerdict (judged_by_book signatures new.role.own.judge p) items (signatures new.role.own.judge.signatures).knows
          new.role.own.judge.list.items user by
      accepted items at user by told =
          law p (signatures new.role.own.judge.signatures) new.role.own.judge.list.items items at.place.lawful at.place.run user by told

      by_turn : TurnedOn (HeldAt c does keys signatures p new) (judged_by_book signatures mid.role.own.judge p) Server history
          (buffered_of mid.machine ++ bytes) new.step new.machine (state_of new) o → ServedTo c does keys signatures p history old bytes is_in
          new
      by_turn (waits more_is none quiet buffered at) = record {
        items = [];
        place = at;
        went = went [] (TurnFor.waits none refl buffered);
        says = subst (λ (b : Bool). SaysWhether let_in [] b) (sym (waiting more_is)) (none_says let_in);
        by_verdict = accepted history at;
      }
      by_turn (turns x empty at) = record {
        items = x.items;
        place = at;
        went = went x.items (TurnFor.turns x.turned.turn (λ alive. empty (at.place.sums.transport.dead_is ∙ alive)));
        says = says x.items x.shows;
        by_verdict = accepted (x.items ++ history) at;
      }

  -- the same by the result of a call
  pub served_taken : AcceptedLaw K → (old mid new : EndValue K (ServerRole P (Verdicts S) X F A H K) F) (bytes before after : List ℕ)
      (later : List Verdict) (served : Served) (given : Taken) (used : ℕ) → buffered_of mid.machine ≡ buffered_of old.machine →
      mid.role.own.judge.list.items ≡ old.role.own.judge.list.items ++ later → new.role ≡ mid.role → served.used ≡ used →
      ((items : List Item) → Shows (shown_by new.step new.machine) new.step items → SaysWhether let_in items served.is_in) →
      (new.step ≡ step.More → served.is_in ≡ false) → given ≡ taken.Used used →
      TakenTo (HeldAt c does keys signatures p new) (judged_by_book signatures mid.role.own.judge p) Server history mid.machine bytes before
      after
      (Ok given) new → ServedTo c does keys signatures p history old (take served.used bytes) served.is_in new
  served_taken law old mid new bytes before after later served given used kept said same used_is says waiting is x =
      served_one law old mid new (take served.used bytes) (outs_of before after new.sent) later served.is_in kept said same says waiting
      (subst (λ (n : ℕ). TurnedOn (HeldAt c does keys signatures p new) (judged_by_book signatures mid.role.own.judge p) Server history
      (buffered_of mid.machine ++ take n bytes) new.step new.machine (state_of new) (outs_of before after new.sent)) (sym used_is)
      (subst (λ (t : Taken). TakenTo (HeldAt c does keys signatures p new) (judged_by_book signatures mid.role.own.judge p) Server history
      mid.machine bytes before after (Ok t) new) is x))

  pub served_on : (old mid new : EndValue K (ServerRole P (Verdicts S) X F A H K) F) (first second all : List ℕ) (given is_in : Bool) →
      first ++ second ≡ all → given ≡ is_in → (x : ServedTo c does keys signatures p history old first false mid) →
      ServedTo c does keys signatures p (x.items ++ history) mid second given new → ServedTo c does keys signatures p history old all is_in new
  served_on old mid new first second all given is_in is so x y =
      let same = append_assoc y.items x.items history in
      record {
        items = y.items ++ x.items;
        place = subst (λ (h : List Item). HeldAt c does keys signatures p new h) (sym same) y.place;
        went = subst (λ (l : List ℕ). WentBy (λ (book : Verdicts S). judged_by_book signatures book p)
            (λ (book : Verdicts S). book.list.items)
            Server history (buffered_of old.machine) old.role.own.judge.list.items l (y.items ++ x.items) (buffered_of new.machine)
            new.role.own.judge.list.items) is
            (went_on (λ (book : Verdicts S). judged_by_book signatures book p) (λ (book : Verdicts S). book.list.items) Server history
            (buffered_of old.machine) old.role.own.judge.list.items first x.items (buffered_of mid.machine) mid.role.own.judge.list.items
            x.went
            second y.items (buffered_of new.machine) new.role.own.judge.list.items y.went);
        says = says_on let_in y.items x.items is_in x.says (subst (λ (b : Bool). SaysWhether let_in y.items b) so y.says);
        by_verdict = λ user by told.
            subst (λ (h : List Item). LetInByVerdict (judged_by_book signatures new.role.own.judge p) h
            (signatures new.role.own.judge.signatures).knows new.role.own.judge.list.items user by)
            (sym same)
            (y.by_verdict user by (subst (λ (h : List Item). IsIn (Told (Accepted user by)) h) same told));
      }

pub served_failed : {P S X F A H K : Type 0} (c : Crypto K) (does : A → Agreement) (keys : H → HostKeys) (signatures : S → Signatures)
    (p : Parties K)
    (history : List Item) (old new : EndValue K (ServerRole P (Verdicts S) X F A H K) F) (bytes : List ℕ) (result : Result Served Fault) →
    IsErr result → WentOn (HeldAt c does keys signatures p new) history → ServesTo c does keys signatures p history old bytes result new
served_failed c does keys signatures p history old new bytes (Ok served) is x = absurd (false≢true is)
served_failed c does keys signatures p history old new bytes (Err why) is x = x

-- ---- what is asked

pub same_verdicts : {P S X F A H K : Type 0} (old new : EndValue K (ServerRole P (Verdicts S) X F A H K) F) → new.role ≡ old.role →
    new.role.own.judge.list.items ≡ old.role.own.judge.list.items
same_verdicts {P} {S} {X} {F} {A} {H} {K} old new same =
    ap (λ (r : ServerRole P (Verdicts S) X F A H K). r.own.judge.list.items) same

-- Once the look-up was asked what was wanted, the end is as it was but for this verdict. The same bytes do not want the same then. They may
-- want a signature, if they did not before.
pub record Answered {P S X F A H K : Type 0} (c : Crypto K) (knows : S → List ℕ → Bool)
    (old new : EndValue K (ServerRole P (Verdicts S) X F A H K) F) (payload : List ℕ) (verdict : Verdict) : Type 0 where
  pub machine_is : new.machine ≡ old.machine
  pub verdicts_are : new.role.own.judge.list.items ≡ old.role.own.judge.list.items ++ (verdict ∷ [])
  pub left : (bytes other : List ℕ)
      (x : IsWanted c old.machine (knows old.role.own.judge.signatures) old.role.own.judge.list.items bytes payload)
      (y : IsWanted c new.machine (knows new.role.own.judge.signatures) new.role.own.judge.list.items bytes other) →
      (awaits_signature (knows old.role.own.judge.signatures) old.role.own.judge.list.items x.request.user x.request.method ≡ false)
      × (awaits_signature (knows new.role.own.judge.signatures) new.role.own.judge.list.items y.request.user y.request.method ≡ true)

module _ {P S X F A H K L : Type 0} (c : Crypto K) (knows : S → List ℕ → Bool)
    (law : (machine : State K) (known : List ℕ → Bool) (verdicts : List Verdict) (verdict : Verdict)
    (session bytes payload other : List ℕ) → (x : IsWanted c machine known verdicts bytes payload) →
    is_next known verdicts session x.request.user x.request.method verdict.asked ≡ true →
    (y : IsWanted c machine known (verdicts ++ (verdict ∷ [])) bytes other) →
    (awaits_signature known verdicts x.request.user x.request.method ≡ false)
    × (awaits_signature known (verdicts ++ (verdict ∷ [])) y.request.user y.request.method ≡ true))
    (answers : L → Verdict → L → Type 0) (old mid new : EndValue K (ServerRole P (Verdicts S) X F A H K) F) (payload : List ℕ)
    (first last : L) (same : mid ≡ old)
    (rest : new ≡ record mid { role = record mid.role { own = record mid.role.own { judge = new.role.own.judge } } })
    (kept : new.role.own.judge.signatures ≡ mid.role.own.judge.signatures)
    (said : SaidOne answers (IsOnRequest (knows mid.role.own.judge.signatures) mid.role.own.judge.list.items (session_of mid.machine) payload)
    mid.role.own.judge.list.items new.role.own.judge.list.items first last) where
  machine_is : new.machine ≡ old.machine
  machine_is =
      ap (λ (e : EndValue K (ServerRole P (Verdicts S) X F A H K) F). e.machine) rest
      ∙ ap (λ (e : EndValue K (ServerRole P (Verdicts S) X F A H K) F). e.machine) same

  signatures_are : new.role.own.judge.signatures ≡ old.role.own.judge.signatures
  signatures_are = kept ∙ ap (λ (e : EndValue K (ServerRole P (Verdicts S) X F A H K) F). e.role.own.judge.signatures) same

  verdicts_are : new.role.own.judge.list.items ≡ old.role.own.judge.list.items ++ (said.verdict ∷ [])
  verdicts_are =
      said.now_is ∙ ap (λ (e : EndValue K (ServerRole P (Verdicts S) X F A H K) F). e.role.own.judge.list.items ++ (said.verdict ∷ [])) same

  asked : AsksNext (knows old.role.own.judge.signatures) old.role.own.judge.list.items (session_of old.machine) payload said.verdict.asked
  asked = subst (λ (e : EndValue K (ServerRole P (Verdicts S) X F A H K) F). AsksNext (knows e.role.own.judge.signatures)
      e.role.own.judge.list.items (session_of e.machine) payload said.verdict.asked) same said.is

  module _ (bytes other : List ℕ)
      (x : IsWanted c old.machine (knows old.role.own.judge.signatures) old.role.own.judge.list.items bytes payload) where
    -- what is wanted of this machine, with this judge of signatures and these verdicts
    abbrev Left : State K → S → List Verdict → Type 0
    Left machine signatures verdicts =
        (y : IsWanted c machine (knows signatures) verdicts bytes other) →
        (awaits_signature (knows old.role.own.judge.signatures) old.role.own.judge.list.items x.request.user x.request.method ≡ false)
        × (awaits_signature (knows signatures) verdicts y.request.user y.request.method ≡ true)

    left : Left new.machine new.role.own.judge.signatures new.role.own.judge.list.items
    left =
        let judge = old.role.own.judge in
        let by_law : Left old.machine judge.signatures (judge.list.items ++ (said.verdict ∷ [])) =
        law old.machine (knows judge.signatures) judge.list.items said.verdict (session_of old.machine) bytes payload other x
        (asked x.request.user x.request.service x.request.method x.request.is x.asks) in
        subst (λ (m : State K). Left m new.role.own.judge.signatures new.role.own.judge.list.items) (sym machine_is)
        (subst (λ (s : S). Left old.machine s new.role.own.judge.list.items) (sym signatures_are)
        (subst (λ (l : List Verdict). Left old.machine judge.signatures l) (sym verdicts_are) by_law))

  pub answered : Answered c knows old new payload said.verdict
  answered = record { machine_is = machine_is; verdicts_are = verdicts_are; left = left }

-- After two answers the same bytes want nothing.
pub answered_twice : {P S X F A H K : Type 0} (c : Crypto K) (knows : S → List ℕ → Bool)
    (old mid new : EndValue K (ServerRole P (Verdicts S) X F A H K) F) (first second : List ℕ) (one other : Verdict) →
    Answered c knows old mid first one → Answered c knows mid new second other → (bytes third : List ℕ) →
    IsWanted c old.machine (knows old.role.own.judge.signatures) old.role.own.judge.list.items bytes first →
    IsWanted c mid.machine (knows mid.role.own.judge.signatures) mid.role.own.judge.list.items bytes second →
    IsWanted c new.machine (knows new.role.own.judge.signatures) new.role.own.judge.list.items bytes third → ⊥
answered_twice c knows old mid new first second one other a b bytes third x y z =
    false≢true (sym ((b.left bytes third y z).0) ∙ (a.left bytes second x y).1)

-- what was said is what was answered twice
pub said_twice : (before mid now : List Verdict) (one other : Verdict) → mid ≡ before ++ (one ∷ []) → now ≡ mid ++ (other ∷ []) →
    now ≡ before ++ (one ∷ other ∷ [])
said_twice before mid now one other a b =
    b ∙ ap (λ (l : List Verdict). l ++ (other ∷ [])) a ∙ append_assoc before (one ∷ []) (other ∷ [])
