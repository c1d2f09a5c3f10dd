-- Who is noted for a turn, and judges that agree on all that a server was asked for.
use Rattle.std.proofs.Common.{◌≡◌, ℕ, Bool, true, false, ◌&&◌, ◌||◌, Option, Some, None, option_map, List, [], ◌∷◌, ◌++◌, unwrap_or, refl, ap, sym, ◌∙◌, subst}
use Rattle.std.proofs.lemmas.Bool.{and_parts}
use Rattle.std.proofs.lemmas.Cmp.{nat_list_eq_equiv}
use Rattle.std.proofs.lemmas.List.Folds.{list_any-append}
use Rattle.std.specs.Cmp.Lexicographic.{same_text}
use Rattle.std.specs.Global.{Vec}
use Rattle.std.specs.List.{list_all, list_any}
use Rattle.ssh_model.specs.Laws.Verdicts.{AgreeOn, AgreeOnAsked, judged_by}
use Rattle.ssh_model.specs.Protocol.Authentication.Requests.{Judge}
use Rattle.ssh_model.specs.Protocol.Sessions.Parties.{Parties}
use Rattle.ssh_model.specs.Protocol.Wire.Sealing.{Crypto}
use Rattle.ssh_model.specs.State.TransportLayer.Kept.{ExchangeParts}
use Rattle.ssh_end_machine.specs.Layers.{Layers}
use Rattle.ssh_transport_machine.specs.State.{State}
use Rattle.ssh_end_machine.specs.Stands.{ServerStandsAt}
use Rattle.ssh_model.specs.Protocol.Sessions.Items.{Fact, Item, Item.Refused, Item.Sent, Encoded, Encoded.EncodedBy}
use Rattle.ssh_model.specs.Protocol.Wire.DataTypes.{is_text}
use Rattle.ssh_model.specs.Protocol.Wire.Message.{Msg, Msg.UserauthRequest, Method, Method.NoMethod, Method.Other, Method.Password}
use Rattle.ssh_model.specs.Protocol.Wire.Message.{Method.Publickey}
use Rattle.ssh_model.specs.State.Channels.Summary.{told}
use Rattle.ssh_model.specs.State.TransportLayer.Summary.{items_sent}
use Rattle.ssh_end_machine.specs.Steps.{AreSent, Shows, Shows.disconnected, Shows.other_line, Shows.refused, Shows.skipped, Shows.took}
use Rattle.ssh_end_machine.specs.Steps.{Shows.version_line}
use Rattle.ssh_end_machine.specs.Told.{told_of}
use Rattle.ssh_end_machine.specs.Turn.{ShowsTaken, TurnShows, oldest}
use Rattle.ssh_end_machine.specs.declared.step.Step.{Step}
use Rattle.ssh_end_machine.specs.declared.told.Told.{Told}
use Rattle.ssh_end_machine.specs.declared.turn.Took.{Took}
use Rattle.ssh_end_machine.specs.declared.turn.Took.TheVariants as given
use Rattle.ssh_end_machine.specs.declared.turn.Turn.{Turn}
use Rattle.divrelca.specs.Parts.Ed25519.{is_name}
use Rattle.divrelca_c.specs.Embedded.Asked.{AreNoted, IsNoted, Notes, asked_by, asked_in, asked_of, asked_with, is_asked, is_asked_among, is_name_of}
use Rattle.divrelca_c.specs.Embedded.Asked.{is_noted}
use Rattle.divrelca_c.specs.Embedded.Flows.{flows_of, heard}
use Rattle.divrelca_c.specs.Embedded.Taking.{Hears}
use Rattle.ssh_held.specs.Book.{said}
use Rattle.ssh_held.specs.declared.book.Verdict.{Verdict}
use Rattle.divrelca_c.specs.Embedded.Users.{has_key, has_password, verdicts_for, verdicts_of}
use Rattle.divrelca_c.specs.declared.embedded.flows.Flows.{Flows}
use Rattle.divrelca_c.specs.declared.embedded.noted.Noted.{Noted}
use Rattle.divrelca_c.specs.declared.embedded.users.Login.TheVariants as login
use Rattle.divrelca_c.specs.declared.embedded.users.User.{User}
use Rattle.divrelca_c.specs.declared.embedded.users.Users.{Users}

-- ---- who is noted

module _ (old new : Noted) (kept : (user : List ℕ) → is_noted user old ≡ true → is_noted user new ≡ true) where
  stays : (asked : Option (List ℕ)) → IsNoted asked old → IsNoted asked new
  stays None is = tt
  stays (Some user) is = kept user is

  stay : (h : List Item) → AreNoted h old → AreNoted h new
  stay [] are = tt
  stay (item ∷ h) are = (stays (asked_in item) are.0, stay h are.1)

module _ (noted : Noted) where
  both : (items h : List Item) → AreNoted items noted → AreNoted h noted → AreNoted (items ++ h) noted
  both [] h mine theirs = theirs
  both (item ∷ items) h mine theirs = (mine.0, both items h mine.1 theirs)

  of_sent : (sent h : List Item) → AreSent sent → AreNoted h noted → AreNoted (sent ++ h) noted
  of_sent [] h are rest = rest
  of_sent (Sent channel message payload ∷ sent) h are rest = (tt, of_sent sent h are rest)
  of_sent (item ∷ sent) h are rest = absurd are

  of_told : (fact : Option Fact) (sent h : List Item) → AreNoted (sent ++ h) noted → AreNoted (told fact sent ++ h) noted
  of_told None sent h rest = rest
  of_told (Some fact) sent h rest = (tt, rest)

  of_listed : (said : List Encoded) (h : List Item) → AreNoted h noted → AreNoted (items_sent said ++ h) noted
  of_listed [] h rest = rest
  of_listed (EncodedBy message payload ∷ said) h rest = (tt, of_listed said h rest)

  last : (items : List Item) (item : Item) → oldest (items ++ item ∷ []) ≡ Some item
  last [] item = refl
  last (first ∷ []) item = refl
  last (first ∷ second ∷ items) item = last (second ∷ items) item

  -- the message that is shown as taken is the one that was
  taken : (took : Option Took) (channel : Option ℕ) (message : Msg) (payload : List ℕ) →
      ShowsTaken took (Some (Item.Took channel message payload)) → IsNoted (asked_of took) noted → IsNoted (asked_by message) noted
  taken None channel message payload is have = absurd is
  taken (Some (given.OtherLine text)) channel message payload is have = cc is
  taken (Some (given.VersionLine text)) channel message payload is have = cc is
  taken (Some (given.Skipped other)) channel message payload is have = cc is
  taken (Some (given.Message own shown other)) channel message payload is have = subst (λ asked. IsNoted asked noted) (sym (ap asked_in is)) have

  of_turn : (payload : List ℕ) (step : Step) (items : List Item) → Shows payload step items → (turn : Turn) → TurnShows turn items →
      IsNoted (asked_of turn.took) noted → AreNoted items noted
  of_turn payload step items other_line turn shows have = (tt, tt)
  of_turn payload step items version_line turn shows have = (tt, tt)
  of_turn payload step items skipped turn shows have = (tt, (tt, tt))
  of_turn payload step items (took channel probing telling message sent is are) turn shows have =
      let item : Item = Item.Took channel message payload in
      let own : ShowsTaken turn.took (Some item) = subst (λ first. ShowsTaken turn.took first) (last (told _ sent) item) shows.took in
      of_told _ sent (item ∷ []) (of_sent sent (item ∷ []) are (taken turn.took channel message payload own have, tt))
  of_turn payload step items (disconnected reason description language is) turn shows have = (tt, (tt, (tt, tt)))
  of_turn payload step items (refused why opened said) turn shows have = (tt, of_listed said (Refused _ opened ∷ []) (tt, tt))

or_false : (b : Bool) → (b || false) ≡ b
or_false true = refl
or_false false = refl

-- a name more after the others
pub name_noted : (old new : Noted) (name : Vec ℕ) (user : List ℕ) → new.names.items ≡ old.names.items ++ name ∷ [] → new.all ≡ old.all →
    name.items ≡ user → Notes (Some user) old new
name_noted old new name user names all is = record {
  asked = rw (all, names, list_any-append (is_name_of user) old.names.items (name ∷ []), is, nat_list_eq_equiv.refl user) (true_last old.all (list_any (is_name_of user) old.names.items));
  kept = λ other have. rw (all, names, list_any-append (is_name_of other) old.names.items (name ∷ [])) (true_first old.all (list_any (is_name_of other) old.names.items) _ have);
  only = λ some other. rw (all, names, list_any-append (is_name_of other) old.names.items (name ∷ []), is)
      (apart old.all (list_any (is_name_of other) old.names.items) (is_text user other));
}
  where
    true_last : (a b : Bool) → (a || (b || (true || false))) ≡ true
    true_last true b = refl
    true_last false true = refl
    true_last false false = refl

    true_first : (a b c : Bool) → (a || b) ≡ true → (a || (b || c)) ≡ true
    true_first true b c have = refl
    true_first false true c have = refl
    true_first false false c have = absurd (cc have)

    apart : (a b c : Bool) → (a || (b || (c || false))) ≡ ((a || b) || c)
    apart true b c = refl
    apart false true c = refl
    apart false false c = or_false c

-- memory is refused for a name, and everybody counts as noted
pub all_noted : (given : Option (List ℕ)) (old new : Noted) → new.all ≡ true → Notes given old new
all_noted given old new all = record {
  asked = of_given given;
  kept = λ user have. rw all refl;
  only = λ none. absurd (cc (all, none));
}
  where
    of_given : (asked : Option (List ℕ)) → IsNoted asked new
    of_given None = tt
    of_given (Some user) = rw all refl

-- nobody is asked for, or somebody who was noted before
pub none_noted : (noted : Noted) → Notes None noted noted
none_noted noted = record { asked = tt; kept = λ user have. have; only = λ some user. sym (or_false (is_noted user noted)) }

pub noted_before : (noted : Noted) (user : List ℕ) → is_noted user noted ≡ true → Notes (Some user) noted noted
noted_before noted user have = record { asked = have; kept = λ other is. is; only = λ some other. by other (is_text user other) refl }
  where
    by : (other : List ℕ) (b : Bool) → is_text user other ≡ b → is_noted other noted ≡ (is_noted other noted || is_text user other)
    by other false is = rw is (sym (or_false (is_noted other noted)))
    by other true is =
        let there : is_noted other noted ≡ true = subst (λ it. is_noted it noted ≡ true) (same_text user other (sym is)) have in
        rw (there) refl

-- who is asked for by what a turn took is so in one of its items
asked_there : (user : List ℕ) (took : Option Took) (items : List Item) → ShowsTaken took (oldest items) →
    is_asked user (asked_of took) ≡ true → is_asked_among user items ≡ true
asked_there user any [] is have = absurd (nobody any is have)
  where
    nobody : (took : Option Took) → ShowsTaken took None → is_asked user (asked_of took) ≡ true → ⊥
    nobody None is have = cc have
    nobody (Some (given.OtherLine text)) is have = is
    nobody (Some (given.VersionLine text)) is have = is
    nobody (Some (given.Skipped other)) is have = is
    nobody (Some (given.Message own shown other)) is have = is
asked_there user any (item ∷ []) is have = by any is have
  where
    by : (took : Option Took) → ShowsTaken took (Some item) → is_asked user (asked_of took) ≡ true → is_asked_among user (item ∷ []) ≡ true
    by None is have = absurd (cc have)
    by (Some (given.OtherLine text)) is have = absurd (cc have)
    by (Some (given.VersionLine text)) is have = absurd (cc have)
    by (Some (given.Skipped other)) is have = absurd (cc have)
    by (Some (given.Message own shown other)) is have =
        or_false (is_asked user (asked_in item)) ∙ (ap (λ it. is_asked user (asked_in it)) is ∙ have)
asked_there user any (first ∷ second ∷ items) is have =
    later (is_asked user (asked_in first)) (asked_there user any (second ∷ items) is have)
  where
    later : (a : Bool) {b : Bool} → b ≡ true → (a || b) ≡ true
    later true is = refl
    later false is = is

-- Who is noted after a turn was noted before, or a key or a password of this user is asked for in the turn.
pub turn_notes_only : (items : List Item) → (turn : Turn) → TurnShows turn items → (old new : Noted) → Notes (asked_of turn.took) old new →
    new.all ≡ false → (user : List ℕ) → is_noted user new ≡ true → (is_noted user old || is_asked_among user items) ≡ true
turn_notes_only items turn shows old new notes some user have =
    by (is_noted user old) (is_asked user (asked_of turn.took)) refl (sym (notes.only some user) ∙ have)
  where
    by : (a b : Bool) → is_asked user (asked_of turn.took) ≡ b → (a || b) ≡ true → (a || is_asked_among user items) ≡ true
    by true b is have = refl
    by false true is have = asked_there user turn.took items shows.took is
    by false false is have = absurd (cc have)

pub turn_noted : (payload : List ℕ) (step : Step) (items : List Item) → Shows payload step items → (turn : Turn) → TurnShows turn items →
    (old new : Noted) → Notes (asked_of turn.took) old new → (h : List Item) → AreNoted h old → AreNoted (items ++ h) new
turn_noted payload step items is turn shows old new notes h are =
    both new items h (of_turn new payload step items is turn shows notes.asked) (stay old new notes.kept h are)

-- Nobody is asked for where nothing was taken, and nothing is told.
pub nobody_asked : (took : Option Took) → ShowsTaken took None → asked_of took ≡ None
nobody_asked None is = refl
nobody_asked (Some (given.OtherLine text)) is = absurd is
nobody_asked (Some (given.VersionLine text)) is = absurd is
nobody_asked (Some (given.Skipped other)) is = absurd is
nobody_asked (Some (given.Message own shown other)) is = absurd is

pub nothing_told : (told : Option Told) → option_map told_of told ≡ None → told ≡ None
nothing_told None is = refl
nothing_told (Some fact) is = absurd (cc is)

-- What is kept besides an end hears the items that the turn shows.
pub turn_heard : (payload : List ℕ) (step : Step) (items : List Item) → Shows payload step items → (turn : Turn) → TurnShows turn items →
    (old new : Noted) (flows later : Flows) → Notes (asked_of turn.took) old new →
    flows_of later ≡ heard (option_map told_of turn.told) (flows_of flows) → Hears items old new flows later
turn_heard payload step items is turn shows old new flows later notes told = record {
  noted = turn_noted payload step items is turn shows old new notes;
  kept = notes.kept;
  noted_only = turn_notes_only items turn shows old new notes;
  flows_are = told ∙ ap (λ fact. heard fact (flows_of flows)) shows.told;
}

-- ---- judges that agree

module _ (noted : Noted) (name : List ℕ) (fresh : is_noted name noted ≡ false) where
  differs : (user : List ℕ) → is_noted user noted ≡ true → name ≡ user → ⊥
  differs user have same = let other : is_noted user noted ≡ false = subst (λ w. is_noted w noted ≡ false) same fresh in cc (have, other)

  -- an entry of this name is none of a user who was noted
  of_another : (entry : User) → is_text entry.name.items name ≡ true → (user : List ℕ) → is_noted user noted ≡ true →
      is_text entry.name.items user ≡ false
  of_another entry named user have = by (is_text entry.name.items user) refl
    where
      by : (b : Bool) → is_text entry.name.items user ≡ b → b ≡ false
      by false e = refl
      by true e = absurd (differs user have (sym (same_text entry.name.items name (sym named)) ∙ same_text entry.name.items user (sym e)))

  no_word : (user word : List ℕ) → is_noted user noted ≡ true → (added : List User) →
      list_all (λ entry. is_text entry.name.items name) added ≡ true → list_any (has_password user word) added ≡ false
  no_word user word have [] named = refl
  no_word user word have (entry ∷ added) named =
      let p = and_parts (is_text entry.name.items name) (list_all (λ e. is_text e.name.items name) added) named in
      by entry.login refl (of_another entry p.0 user have) (no_word user word have added p.1)
    where
      by : (l : _) → entry.login ≡ l → is_text entry.name.items user ≡ false → list_any (has_password user word) added ≡ false →
          (has_password user word entry || list_any (has_password user word) added) ≡ false
      by (login.Key public) e other none = rw e none
      by (login.Password hash) e other none = rw (e, other) none

  no_name : (a b : Bool) → b ≡ false → ((a && false) || b) ≡ false
  no_name true b none = none
  no_name false b none = none

  no_key : (user algorithm key : List ℕ) → is_noted user noted ≡ true → (added : List User) →
      list_all (λ entry. is_text entry.name.items name) added ≡ true → list_any (has_key user algorithm key) added ≡ false
  no_key user algorithm key have [] named = refl
  no_key user algorithm key have (entry ∷ added) named =
      let p = and_parts (is_text entry.name.items name) (list_all (λ e. is_text e.name.items name) added) named in
      by entry.login refl (of_another entry p.0 user have) (no_key user algorithm key have added p.1)
    where
      by : (l : _) → entry.login ≡ l → is_text entry.name.items user ≡ false → list_any (has_key user algorithm key) added ≡ false →
          (has_key user algorithm key entry || list_any (has_key user algorithm key) added) ≡ false
      by (login.Key public) e other none = rw (e, other) (no_name (is_name algorithm) (list_any (has_key user algorithm key) added) none)
      by (login.Password hash) e other none = rw e none

  module _ (book : List Verdict) (list added : List User) (named : list_all (λ entry. is_text entry.name.items name) added ≡ true) where
    one_more : (p : User → Bool) → list_any p added ≡ false → list_any p list ≡ list_any p (list ++ added)
    one_more p none = sym (list_any-append p list added ∙ ap (λ b. list_any p list || b) none ∙ or_false (list_any p list))

    -- the program's own word comes first, and stays
    after : (user : List ℕ) (method : Method) (one other : Bool) → one ≡ other →
        unwrap_or (said book user method) one ≡ unwrap_or (said book user method) other
    after user method one other same = ap (λ b. unwrap_or (said book user method) b) same

    agree_on : (user : List ℕ) (method : Method) → IsNoted (asked_with method user) noted →
        AgreeOn (verdicts_for book list) (verdicts_for book (list ++ added)) user method
    agree_on user NoMethod is = refl
    agree_on user (Password word None) is =
        after user (Password word None) _ _ (one_more (has_password user word) (no_word user word is added named))
    agree_on user (Password word (Some new)) is = tt
    agree_on user (Publickey algorithm key None) is =
        (after user (Publickey algorithm key None) _ _ (one_more (has_key user algorithm key) (no_key user algorithm key is added named)), λ known. tt)
    agree_on user (Publickey algorithm key (Some signature)) is =
        (after user (Publickey algorithm key None) _ _ (one_more (has_key user algorithm key) (no_key user algorithm key is added named)), λ known text. refl)
    agree_on user (Other method rest) is = tt

    pub agree : (h : List Item) → AreNoted h noted → AgreeOnAsked (verdicts_for book list) (verdicts_for book (list ++ added)) h
    agree [] are = tt
    agree (Item.Took channel (UserauthRequest user service method) payload ∷ h) are = (agree_on user method are.0, agree h are.1)
    agree (item ∷ h) are = agree h are.1

-- ---- the server

module _ {K : Type 0} (exchanged : (p : Parties K) (c : Crypto K) (parts : ExchangeParts) (one other : Judge) (h : List Item) (machine : State K)
    (layers : Layers) → ServerStandsAt p c parts one h machine layers → machine.kept.dead ≡ false → AgreeOnAsked one other h →
    ServerStandsAt (judged_by other p) c parts other h machine layers) where
  pub set_stands : (noted : Noted) (name : List ℕ) → is_noted name noted ≡ false → (old all : Users) (added : List User) →
      list_all (λ entry. is_text entry.name.items name) added ≡ true → all.list.items ≡ old.list.items ++ added → all.book ≡ old.book →
      (c : Crypto K) (machine later : State K) (layers after : Layers) → machine.kept.dead ≡ false → later ≡ machine → after ≡ layers →
      (p : Parties K) (parts : ExchangeParts) (h : List Item) → ServerStandsAt p c parts (verdicts_of old) h machine layers → AreNoted h noted →
      ServerStandsAt (judged_by (verdicts_of all) p) c parts (verdicts_of all) h later after
  set_stands noted name fresh old all added named is book c machine later layers after alive same unchanged p parts h place are =
      let list = old.list.items ++ added in
      let said_so = old.book.list.items in
      subst (λ (b : List Verdict). ServerStandsAt (judged_by (verdicts_for b all.list.items) p) c parts (verdicts_for b all.list.items) h later after)
      (ap (λ b. b.list.items) (sym book))
      (subst (λ l. ServerStandsAt (judged_by (verdicts_for said_so l) p) c parts (verdicts_for said_so l) h later after) (sym is)
      (subst (λ m. ServerStandsAt (judged_by (verdicts_for said_so list) p) c parts (verdicts_for said_so list) h m after) (sym same)
      (subst (λ l. ServerStandsAt (judged_by (verdicts_for said_so list) p) c parts (verdicts_for said_so list) h machine l) (sym unchanged)
      (exchanged p c parts (verdicts_of old) (verdicts_for said_so list) h machine layers place alive
      (agree noted name fresh said_so old.list.items added named h are)))))
