-- A client goes on from one place to the next, and its program says more on the way.
use Rattle.std.proofs.Common.{◌≡◌, ℕ, Bool, true, false, Option, Some, None, List, [], ◌∷◌, ◌++◌, Result, Ok, Err, append_assoc, take, refl, ap, sym, subst, ◌∙◌}
use Rattle.std.specs.Prelude.{IfSome, IsSome, option_map, unwrap_or}
use Rattle.std.specs.Result.{IsErr}
use Rattle.std.proofs.lemmas.Bool.{false≢true}
use Rattle.ssh_channels.specs.Values.{fact_of}
use Rattle.ssh_channels.specs.declared.event.ChannelEvent.{ChannelEvent}
use Rattle.ssh_channels.specs.declared.event.ChannelEvent.TheVariants as event
use Rattle.ssh_model.specs.Protocol.Sessions.Items.{Item}
use Rattle.ssh_model.specs.Protocol.Sessions.Parties.{Agreement, AreLawful, Parties}
use Rattle.ssh_model.specs.Protocol.Sessions.Turns.{EndRun}
use Rattle.ssh_model.specs.Protocol.Wire.Message.{IsPayload, Msg, Msg.KexEcdhReply}
use Rattle.ssh_model.specs.Protocol.Wire.Sealing.{Crypto}
use Rattle.ssh_model.specs.declared.side.Side.TheVariants.{Client}
use Rattle.ssh_transport_machine.specs.Puts.{Outs}
use Rattle.ssh_transport_machine.specs.Replies.{Trusts}
use Rattle.ssh_transport_machine.specs.State.{State, buffered_of}
use Rattle.ssh_end_machine.specs.Asking.{UserSignatures}
use Rattle.ssh_end_machine.specs.Calls.{outs_of}
use Rattle.ssh_end_machine.specs.Ends.{EndValue}
use Rattle.ssh_end_machine.specs.Parts.{ClientRole}
use Rattle.ssh_end_machine.specs.Stands.{state_of}
use Rattle.ssh_end_machine.specs.Steps.{Shows, shown_by}
use Rattle.ssh_end_machine.specs.Told.{told_of}
use Rattle.ssh_end_machine.specs.declared.asking.outcome.Fault.{Fault}
use Rattle.ssh_end_machine.specs.declared.step.Step.TheVariants as step
use Rattle.ssh_end_machine.specs.declared.told.Told.{Told as Tells}
use Rattle.ssh_end_machine.specs.declared.told.Told.TheVariants as tells
use Rattle.ssh_held.specs.HeldHosts.{ClientHeldAt, HasHostKey, HasReply, IsHostWanted, NextHost, WantsHost, signed_with, trusting_book}
use Rattle.ssh_held.specs.Hosts.{Signed, TrustsEachByVerdict, is_on_host, signed_by, signed_in, trust_by, trusting}
use Rattle.ssh_held.specs.Places.{TakenTo, TurnedOn, TurnedOn.turns, TurnedOn.waits, WentOn}
use Rattle.ssh_held.specs.declared.host_book.HostVerdict.{HostVerdict}
use Rattle.ssh_held.specs.declared.host_book.HostVerdicts.{HostVerdicts}
use Rattle.ssh_held.specs.declared.host_key.HostKey.{HostKey}
use Rattle.ssh_held.specs.declared.host_key.HostSignature.{HostSignature}
use Rattle.ssh_held.specs.declared.taken.Taken.{Taken}
use Rattle.ssh_held.specs.declared.taken.Taken.TheVariants as taken
use Rattle.example_held.specs.LookUps.{SaidOne}
use Rattle.example_held.specs.Meeting.{IsOnHost, MeetsBy, MetBy, completed, is_completed_in}
use Rattle.example_held.specs.Turning.{SaysWhether, TurnFor, WentBy}
use Rattle.example_held.specs.declared.client.Met.{Met}
use Rattle.example_held.proofs.Telling.{FindsFact, none_says, says_on}
use Rattle.example_held.proofs.Turning.{went_on, went_one}

-- ---- which exchange is told

found : (t : Option Tells) → is_completed_in t ≡ true → (position : ℕ) × (option_map told_of t ≡ Some (completed position))
found (Some (tells.Completed position)) e = (position, refl)
found None e = absurd (false≢true e)
found (Some other) e = absurd (false≢true e)

not_of_channel : (given : ChannelEvent) (position : ℕ) → Some (fact_of given) ≡ Some (completed position) → ⊥
not_of_channel (event.Global name want rest) position e = cc e
not_of_channel (event.GlobalDone success rest) position e = cc e
not_of_channel (event.Opening channel) position e = cc e
not_of_channel (event.Opened channel kind window max_packet rest) position e = cc e
not_of_channel (event.Confirmed channel window max_packet rest) position e = cc e
not_of_channel (event.OpenFailed channel reason description) position e = cc e
not_of_channel (event.GotData channel kind body) position e = cc e
not_of_channel (event.Adjusted channel bytes) position e = cc e
not_of_channel (event.Ended channel) position e = cc e
not_of_channel (event.Closed channel) position e = cc e
not_of_channel (event.Requested channel name want rest) position e = cc e
not_of_channel (event.RequestDone channel success) position e = cc e

all : (t : Option Tells) (position : ℕ) → option_map told_of t ≡ Some (completed position) → is_completed_in t ≡ true
all (Some (tells.Completed given)) position e = refl
all (Some (tells.Channel given)) position e = absurd (not_of_channel given position e)
all None position e = cc e
all (Some other) position e = cc e

pub finds_exchanges : FindsFact completed is_completed_in
finds_exchanges = record { found = found; all = all }

-- ---- places

-- the law of ends whose host keys a program judges
abbrev pub TrustedLaw : (K : Type 0) → Type 0
TrustedLaw K =
    (p : Parties K) (knows : List ℕ → Bool) (signatures : Trusts) (verdicts : List HostVerdict) (h : List Item) → AreLawful
    (trusting (trust_by knows signatures verdicts) p) →
    EndRun (trusting (trust_by knows signatures verdicts) p) Client h →
    TrustsEachByVerdict (trusting (trust_by knows signatures verdicts) p) knows verdicts h

module _ {P U S X F A K : Type 0} (c : Crypto K) (does : A → Agreement) (knows : S → List ℕ → Bool) (judged : S → Trusts) (signature : U → UserSignatures)
    (p : Parties K)
    (history : List Item) where
  -- a place at which nothing was used
  pub met_nothing : TrustedLaw K → (client : EndValue K (ClientRole P U X F A (HostVerdicts S) K) F) →
      ClientHeldAt c does knows judged signature p client history → MetBy c does knows judged signature p history client [] false client
  met_nothing law client at = record {
    items = [];
    place = at;
    went = WentBy.nowhere;
    says = none_says completed;
    by_verdict = law p (knows client.role.exchange.host_trust.signatures) (judged client.role.exchange.host_trust.signatures) client.role.exchange.host_trust.list.items history at.lawful
        at.run;
  }

  -- one line or one packet, taken at a place where the program had said more than at the old one
  pub met_one : TrustedLaw K → (old mid new : EndValue K (ClientRole P U X F A (HostVerdicts S) K) F) (bytes : List ℕ) (o : Outs)
      (later : List HostVerdict) (is_complete : Bool) → buffered_of mid.machine ≡ buffered_of old.machine →
      mid.role.exchange.host_trust.list.items ≡ old.role.exchange.host_trust.list.items ++ later → new.role ≡ mid.role →
      ((items : List Item) → Shows (shown_by new.step new.machine) new.step items → SaysWhether completed items is_complete) →
      (new.step ≡ step.More → is_complete ≡ false) →
      TurnedOn (ClientHeldAt c does knows judged signature p new) (trusting_book knows judged mid.role.exchange.host_trust p) Client history
      (buffered_of mid.machine ++ bytes) new.step new.machine (state_of new) o →
      MetBy c does knows judged signature p history old bytes is_complete new
  met_one law old mid new bytes o later is_complete kept said same says waiting turned = by_turn turned
    where
      went : (items : List Item) →
          TurnFor (trusting_book knows judged mid.role.exchange.host_trust p) Client history (buffered_of mid.machine ++ bytes) items
          (buffered_of new.machine) →
          WentBy (λ (book : HostVerdicts S). trusting_book knows judged book p) (λ (book : HostVerdicts S). book.list.items) Client history
          (buffered_of old.machine) old.role.exchange.host_trust.list.items bytes items (buffered_of new.machine)
          new.role.exchange.host_trust.list.items
      went items turn =
          went_one (λ (book : HostVerdicts S). trusting_book knows judged book p) (λ (book : HostVerdicts S). book.list.items) Client history
          (buffered_of old.machine) old.role.exchange.host_trust.list.items bytes items (buffered_of new.machine) later
          new.role.exchange.host_trust
          (ap (λ (r : ClientRole P U X F A (HostVerdicts S) K). r.exchange.host_trust.list.items) same ∙ said)
          (subst (λ (r : ClientRole P U X F A (HostVerdicts S) K). TurnFor (trusting_book knows judged r.exchange.host_trust p) Client history
          (buffered_of old.machine ++ bytes) items (buffered_of new.machine)) (sym same)
          (subst (λ (l : List ℕ). TurnFor (trusting_book knows judged mid.role.exchange.host_trust p) Client history (l ++ bytes) items
          (buffered_of new.machine)) kept turn))

      trusted : (items : List Item) → ClientHeldAt c does knows judged signature p new items →
          TrustsEachByVerdict (trusting_book knows judged new.role.exchange.host_trust p) (knows new.role.exchange.host_trust.signatures)
          new.role.exchange.host_trust.list.items items
      trusted items at =
          law p (knows new.role.exchange.host_trust.signatures) (judged new.role.exchange.host_trust.signatures) new.role.exchange.host_trust.list.items items at.lawful at.run

      by_turn : TurnedOn (ClientHeldAt c does knows judged signature p new) (trusting_book knows judged mid.role.exchange.host_trust p) Client history
          (buffered_of mid.machine ++ bytes) new.step new.machine (state_of new) o →
          MetBy c does knows judged signature p history old bytes is_complete new
      by_turn (waits more_is none quiet buffered at) = record {
        items = [];
        place = at;
        went = went [] (TurnFor.waits none refl buffered);
        says = subst (λ (b : Bool). SaysWhether completed [] b) (sym (waiting more_is)) (none_says completed);
        by_verdict = trusted history at;
      }
      by_turn (turns x empty at) = record {
        items = x.items;
        place = at;
        went = went x.items (TurnFor.turns x.turned.turn (λ alive. empty (at.sums.transport.dead_is ∙ alive)));
        says = says x.items x.shows;
        by_verdict = trusted (x.items ++ history) at;
      }

  -- the same by the result of a call
  pub met_taken : TrustedLaw K → (old mid new : EndValue K (ClientRole P U X F A (HostVerdicts S) K) F) (bytes before after : List ℕ)
      (later : List HostVerdict) (met : Met) (given : Taken) (used : ℕ) → buffered_of mid.machine ≡ buffered_of old.machine →
      mid.role.exchange.host_trust.list.items ≡ old.role.exchange.host_trust.list.items ++ later → new.role ≡ mid.role → met.used ≡ used →
      ((items : List Item) → Shows (shown_by new.step new.machine) new.step items → SaysWhether completed items met.is_complete) →
      (new.step ≡ step.More → met.is_complete ≡ false) → given ≡ taken.Used used →
      TakenTo (ClientHeldAt c does knows judged signature p new) (trusting_book knows judged mid.role.exchange.host_trust p) Client history mid.machine
      bytes
      before after (Ok given) new → MetBy c does knows judged signature p history old (take met.used bytes) met.is_complete new
  met_taken law old mid new bytes before after later met given used kept said same used_is says waiting is x =
      met_one law old mid new (take met.used bytes) (outs_of before after new.sent) later met.is_complete kept said same says waiting
      (subst (λ (n : ℕ). TurnedOn (ClientHeldAt c does knows judged signature p new) (trusting_book knows judged mid.role.exchange.host_trust p) Client
      history
      (buffered_of mid.machine ++ take n bytes) new.step new.machine (state_of new) (outs_of before after new.sent)) (sym used_is)
      (subst (λ (t : Taken). TakenTo (ClientHeldAt c does knows judged signature p new) (trusting_book knows judged mid.role.exchange.host_trust p)
      Client
      history mid.machine bytes before after (Ok t) new) is x))

  pub met_on : (old mid new : EndValue K (ClientRole P U X F A (HostVerdicts S) K) F) (first second all : List ℕ)
      (given is_complete : Bool) →
      first ++ second ≡ all → given ≡ is_complete → (x : MetBy c does knows judged signature p history old first false mid) →
      MetBy c does knows judged signature p (x.items ++ history) mid second given new →
      MetBy c does knows judged signature p history old all is_complete new
  met_on old mid new first second all given is_complete is so x y =
      let same = append_assoc y.items x.items history in
      record {
        items = y.items ++ x.items;
        place = subst (λ (h : List Item). ClientHeldAt c does knows judged signature p new h) (sym same) y.place;
        went = subst (λ (l : List ℕ). WentBy (λ (book : HostVerdicts S). trusting_book knows judged book p)
            (λ (book : HostVerdicts S). book.list.items) Client history (buffered_of old.machine) old.role.exchange.host_trust.list.items l
            (y.items ++ x.items) (buffered_of new.machine) new.role.exchange.host_trust.list.items) is
            (went_on (λ (book : HostVerdicts S). trusting_book knows judged book p) (λ (book : HostVerdicts S). book.list.items) Client history
            (buffered_of old.machine) old.role.exchange.host_trust.list.items first x.items (buffered_of mid.machine)
            mid.role.exchange.host_trust.list.items x.went
            second y.items (buffered_of new.machine) new.role.exchange.host_trust.list.items y.went);
        says = says_on completed y.items x.items is_complete x.says (subst (λ (b : Bool). SaysWhether completed y.items b) so y.says);
        by_verdict = subst (λ (h : List Item). TrustsEachByVerdict (trusting_book knows judged new.role.exchange.host_trust p)
            (knows new.role.exchange.host_trust.signatures) new.role.exchange.host_trust.list.items h) (sym same) y.by_verdict;
      }

pub met_failed : {P U S X F A K : Type 0} (c : Crypto K) (does : A → Agreement) (knows : S → List ℕ → Bool) (judged : S → Trusts) (signature : U → UserSignatures)
    (p : Parties K) (history : List Item) (old new : EndValue K (ClientRole P U X F A (HostVerdicts S) K) F) (bytes : List ℕ)
    (result : Result Met Fault) → IsErr result → WentOn (ClientHeldAt c does knows judged signature p new) history →
    MeetsBy c does knows judged signature p history old bytes result new
met_failed c does knows judged signature p history old new bytes (Ok met) is x = absurd (false≢true is)
met_failed c does knows judged signature p history old new bytes (Err why) is x = x

-- ---- what is asked

-- the texts of a message that is a reply
abbrev key_in : Msg → List ℕ
key_in (KexEcdhReply key point signature) = key
key_in _ = []

abbrev signature_in : Msg → List ℕ
signature_in (KexEcdhReply key point signature) = signature
signature_in _ = []

-- a payload has one message
abbrev OneMessage : Type 0
OneMessage = (probing : Bool) (m n : Msg) (payload : List ℕ) → IsPayload probing m payload → IsPayload probing n payload → m ≡ n

-- What is shown of a signature, by the reply and the hash.
shown_so : OneMessage → (payload key signature k s : List ℕ) (hash : Option (List ℕ)) (signed : Option HostSignature) →
    hash ≡ option_map (λ given. given.hash.now) signed → IfSome signed (λ given. HasReply payload key given.signature.now) →
    HasReply payload k s → option_map signed_in signed ≡ signed_with hash s
shown_so one payload key signature k s hash None is has x = ap (λ (o : Option (List ℕ)). signed_with o s) (sym is)
shown_so one payload key signature k s hash (Some given) is has x =
    let same = one false (KexEcdhReply key has.point given.signature.now) (KexEcdhReply k x.point s) payload has.is x.is in
    ap (λ (m : Msg). Some (record { hash = given.hash.now; signature = signature_in m })) same
    ∙ ap (λ (o : Option (List ℕ)). signed_with o s) (sym is)

pub on_host : OneMessage → (next : NextHost) (host : HostKey) → next.algorithm ≡ Some host.algorithm.now → HasHostKey next.payload host.key.now →
    next.hash ≡ option_map (λ given. given.hash.now) host.signed →
    IfSome host.signed (λ given. HasReply next.payload host.key.now given.signature.now) → (verdict : HostVerdict) →
    is_on_host host.algorithm.now host.key.now (signed_by host) verdict.asked ≡ true → IsOnHost next verdict
on_host one next host is has hash signature verdict about = λ a k s e x.
    let algorithm : host.algorithm.now ≡ a = ap (λ (o : Option (List ℕ)). unwrap_or o []) (sym is ∙ e) in
    let key : host.key.now ≡ k =
    ap key_in (one false (KexEcdhReply host.key.now has.point has.signature) (KexEcdhReply k x.point s) next.payload has.is x.is) in
    let signed = shown_so one next.payload host.key.now has.signature k s next.hash host.signed hash signature x in
    subst (λ (l : List ℕ). is_on_host l k (signed_with next.hash s) verdict.asked ≡ true) algorithm
    (subst (λ (l : List ℕ). is_on_host host.algorithm.now l (signed_with next.hash s) verdict.asked ≡ true) key
    (subst (λ (o : Option Signed). is_on_host host.algorithm.now host.key.now o verdict.asked ≡ true) signed about))

-- what a client wants of its program by these bytes
abbrev pub Wants : {P U S X F A K : Type 0} → Crypto K → (does : A → Agreement) → (knows : S → List ℕ → Bool) →
    EndValue K (ClientRole P U X F A (HostVerdicts S) K) F → (bytes : List ℕ) → NextHost → Type 0
Wants c does knows end bytes next =
    WantsHost c (does end.role.exchange.agreement) (knows end.role.exchange.host_trust.signatures) end.machine
    end.role.exchange.host_trust.list.items bytes next

pub same_host_verdicts : {P U S X F A K : Type 0} (old new : EndValue K (ClientRole P U X F A (HostVerdicts S) K) F) → new.role ≡ old.role →
    new.role.exchange.host_trust.list.items ≡ old.role.exchange.host_trust.list.items
same_host_verdicts {P} {U} {S} {X} {F} {A} {K} old new same =
    ap (λ (r : ClientRole P U X F A (HostVerdicts S) K). r.exchange.host_trust.list.items) same

-- Once the look-up was asked what was wanted, the same bytes want nothing, or after a yes to the host key its signature.
module _ {P U S X F A K L : Type 0} (c : Crypto K) (does : A → Agreement) (knows : S → List ℕ → Bool)
    (law : (agreement : Agreement) (known : List ℕ → Bool) (machine : State K) (verdicts : List HostVerdict) (verdict : HostVerdict)
    (bytes payload other algorithm later : List ℕ) (hash next : Option (List ℕ)) →
    (x : IsHostWanted c agreement known machine verdicts bytes payload algorithm hash) →
    is_on_host algorithm x.reply.key (signed_with hash x.reply.has.signature) verdict.asked ≡ true →
    IsHostWanted c agreement known machine (verdicts ++ (verdict ∷ [])) bytes other later next →
    (hash ≡ None) × (verdict.accepts ≡ true) × IsSome next)
    (answers : L → HostVerdict → L → Type 0) (old mid new : EndValue K (ClientRole P U X F A (HostVerdicts S) K) F) (next : NextHost)
    (first last : L) (same : mid ≡ old)
    (rest : new ≡ record mid {
      role = record mid.role { exchange = record mid.role.exchange { host_trust = new.role.exchange.host_trust } };
    })
    (kept : new.role.exchange.host_trust.signatures ≡ mid.role.exchange.host_trust.signatures)
    (said : SaidOne answers (IsOnHost next) mid.role.exchange.host_trust.list.items new.role.exchange.host_trust.list.items first last)
  where
    pub machine_is : new.machine ≡ old.machine
    machine_is =
        ap (λ (e : EndValue K (ClientRole P U X F A (HostVerdicts S) K) F). e.machine) rest
        ∙ ap (λ (e : EndValue K (ClientRole P U X F A (HostVerdicts S) K) F). e.machine) same

    pub verdicts_are : new.role.exchange.host_trust.list.items ≡ old.role.exchange.host_trust.list.items ++ (said.verdict ∷ [])
    verdicts_are =
        said.now_is ∙ ap (λ (e : EndValue K (ClientRole P U X F A (HostVerdicts S) K) F). e.role.exchange.host_trust.list.items
        ++ (said.verdict ∷ [])) same

    agreement_is : new.role.exchange.agreement ≡ old.role.exchange.agreement
    agreement_is =
        ap (λ (e : EndValue K (ClientRole P U X F A (HostVerdicts S) K) F). e.role.exchange.agreement) rest
        ∙ ap (λ (e : EndValue K (ClientRole P U X F A (HostVerdicts S) K) F). e.role.exchange.agreement) same

    signatures_are : new.role.exchange.host_trust.signatures ≡ old.role.exchange.host_trust.signatures
    signatures_are =
        kept ∙ ap (λ (e : EndValue K (ClientRole P U X F A (HostVerdicts S) K) F). e.role.exchange.host_trust.signatures) same

    pub settled : (bytes : List ℕ) (after : NextHost) → Wants c does knows old bytes next → Wants c does knows new bytes after →
        (next.hash ≡ None) × (said.verdict.accepts ≡ true) × IsSome after.hash
    settled bytes after x y =
        let verdicts = old.role.exchange.host_trust.list.items in
        law (does old.role.exchange.agreement) (knows old.role.exchange.host_trust.signatures) old.machine verdicts said.verdict bytes next.payload
        after.payload x.0 y.0 next.hash after.hash x.2
        (said.is x.0 x.2.reply.key x.2.reply.has.signature x.1 (record { point = x.2.reply.has.point; is = x.2.reply.has.is }))
        (subst (λ (a : A). IsHostWanted c (does a) (knows old.role.exchange.host_trust.signatures) old.machine (verdicts ++ (said.verdict ∷ [])) bytes
        after.payload y.0 after.hash) agreement_is
        (subst (λ (s : S). IsHostWanted c (does new.role.exchange.agreement) (knows s) old.machine (verdicts ++ (said.verdict ∷ [])) bytes
        after.payload y.0 after.hash) signatures_are
        (subst (λ (l : List HostVerdict). IsHostWanted c (does new.role.exchange.agreement) (knows new.role.exchange.host_trust.signatures)
        old.machine l bytes after.payload y.0 after.hash) verdicts_are
        (subst (λ (m : State K). IsHostWanted c (does new.role.exchange.agreement) (knows new.role.exchange.host_trust.signatures) m
        new.role.exchange.host_trust.list.items bytes after.payload y.0 after.hash) machine_is y.2))))

-- Nothing is wanted a third time.
pub no_third : (hash : Option (List ℕ)) → hash ≡ None → IsSome hash → ⊥
no_third None e x = absurd (cc x)
no_third (Some given) e x = absurd (cc e)
