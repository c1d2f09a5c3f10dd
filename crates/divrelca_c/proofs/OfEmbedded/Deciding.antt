-- A server whose program answers in its own time: which requests are settled, and that an answer leaves what was settled.
use Rattle.std.proofs.Common.{◌≡◌, ℕ, Bool, true, false, ◌&&◌, ◌||◌, Option, Some, None, List, [], ◌∷◌, ◌++◌, cond, is_some, not, option_map, unwrap_or, refl, ap, sym, subst, ◌∙◌}
use Rattle.std.proofs.lemmas.List.Folds.{list_any-append}
use Rattle.std.specs.Cmp.Lexicographic.{same_text}
use Rattle.ssh_model.specs.Laws.Supplied.{AgreeOnAnswered, AgreeOnJudged, is_judged, supplied_of}
use Rattle.ssh_model.specs.Laws.Verdicts.{AgreeOn, judged_by}
use Rattle.ssh_model.specs.Protocol.Authentication.Requests.{Judge, judge_of}
use Rattle.ssh_model.specs.Protocol.Sessions.AnyPeer.{Authenticates}
use Rattle.ssh_model.specs.Protocol.Sessions.Items.{Item, Item.Took}
use Rattle.ssh_model.specs.Protocol.Sessions.Parties.{Parties}
use Rattle.ssh_model.specs.Protocol.Wire.DataTypes.{is_text}
use Rattle.ssh_model.specs.Protocol.Wire.Message.{IsPayload, Msg.UserauthRequest, Method, Method.NoMethod, Method.Other, Method.Password}
use Rattle.ssh_model.specs.Protocol.Wire.Message.{Method.Publickey}
use Rattle.ssh_model.specs.Protocol.Wire.Sealing.{Crypto}
use Rattle.ssh_model.specs.State.TransportLayer.Kept.{ExchangeParts}
use Rattle.ssh_transport_machine.specs.Peeking.{Peeks}
use Rattle.ssh_transport_machine.specs.State.{State}
use Rattle.ssh_end_machine.specs.Layers.{Layers}
use Rattle.ssh_end_machine.specs.Stands.{ServerStandsAt}
use Rattle.ssh_held.specs.Asking.{UserRequest, value_of}
use Rattle.ssh_message.specs.Meaning.{method_meaning}
use Rattle.ssh_held.specs.Book.{AllSettled, asks, awaits_signature, is_about, is_about_signature, is_next, is_over, is_right_by, is_said}
use Rattle.ssh_held.specs.Book.{is_signed, said, verdict_on}
use Rattle.ssh_held.specs.Held.{IsSettled, IsSettled.foreseen, IsSettled.is_in, IsSettled.unforeseen}
use Rattle.ssh_held.specs.declared.asking.Request.{Request}
use Rattle.ssh_held.specs.declared.book.Asked.{Asked}
use Rattle.ssh_held.specs.declared.book.Asked.TheVariants as asked
use Rattle.ssh_held.specs.declared.book.Verdict.{Verdict}
use Rattle.std.specs.List.{list_any}
use Rattle.divrelca.specs.Parts.Ed25519.{is_name}
use Rattle.divrelca_c.specs.Embedded.Users.{AreSettled, has_entry, has_key, is_let_in, is_settled, lets_in, own_signatures, verdicts_for}
use Rattle.divrelca_c.specs.Embedded.Users.{verdicts_of}
use Rattle.divrelca_c.specs.declared.embedded.users.Login.TheVariants as login
use Rattle.divrelca_c.specs.declared.embedded.users.User.{User}
use Rattle.divrelca_c.specs.declared.embedded.users.Users.{Users}

-- ---- what is settled

wider : (a b n : Bool) → (a && n) ≡ true → ((a || b) && n) ≡ true
wider true b n e = e
wider false b n e = absurd (cc e)

neither : (a b : Bool) → (a || b) ≡ false → b ≡ false
neither true b e = absurd (cc e)
neither false b e = e

not_both : (a n : Bool) → n ≡ false → (a && not n) ≡ false → a ≡ false
not_both a true is e = absurd (cc is)
not_both true false is e = absurd (cc e)
not_both false false is e = refl

-- what the program said all on is settled
pub said_settles : {K : Type 0} (c : Crypto K) (machine : State K) (book : List Verdict) (list : List User) (bytes : List ℕ) →
    IsSettled c machine (is_said is_name book) bytes → IsSettled c machine (is_settled book list) bytes
said_settles c machine book list bytes (is_in e) = is_in e
said_settles c machine book list bytes (unforeseen none) = unforeseen none
said_settles c machine book list bytes (foreseen payload peeks asked) = foreseen payload peeks
    (λ probing user service method is e. wider (is_some (said book user method)) (has_entry list user)
    (not (awaits_signature is_name book user method)) (asked probing user service method is e))

-- so is what the request is that was read
pub request_settles : {K : Type 0} (c : Crypto K) (machine : State K) (book : List Verdict) (list : List User) (bytes payload : List ℕ) →
    Peeks c machine bytes payload → (request : Request) → ((probing : Bool) (user service : List ℕ) (method : Method) →
    IsPayload probing (UserauthRequest user service method) payload →
    value_of request ≡ record { user = user; service = service; method = method }) →
    is_settled book list request.user.now (method_meaning request.method) ≡ true → IsSettled c machine (is_settled book list) bytes
request_settles c machine book list bytes payload peeks request only settled = foreseen payload peeks
    (λ probing user service method is e.
    ap (λ (r : UserRequest). is_settled book list r.user r.method) (sym (only probing user service method is)) ∙ settled)

-- ---- whose question it is

first_of : (a b : Bool) → (a && b) ≡ true → a ≡ true
first_of true b e = refl
first_of false b e = absurd (cc e)

first_of_three : (a b c : Bool) → (a && b && c) ≡ true → a ≡ true
first_of_three true b c e = refl
first_of_three false b c e = absurd (cc e)

name_in : Asked → List ℕ
name_in (asked.Admission name) = name.items
name_in (asked.Password name given) = name.items
name_in (asked.Key name method given) = name.items
name_in (asked.Signature method given text shown) = []

is_of : (user : List ℕ) (method : Method) (question : Asked) → is_about user method question ≡ true → is_text (name_in question) user ≡ true
unfolding name_in
is_of user NoMethod (asked.Admission name) e = e
is_of user NoMethod (asked.Password name given) e = absurd (cc e)
is_of user NoMethod (asked.Key name method given) e = absurd (cc e)
is_of user NoMethod (asked.Signature method given text shown) e = absurd (cc e)
is_of user (Password word None) (asked.Admission name) e = absurd (cc e)
is_of user (Password word None) (asked.Password name given) e = first_of (is_text name.items user) (is_text given.items word) e
is_of user (Password word None) (asked.Key name method given) e = absurd (cc e)
is_of user (Password word None) (asked.Signature method given text shown) e = absurd (cc e)
is_of user (Password word (Some new)) question e = absurd (cc e)
is_of user (Publickey algorithm key signature) (asked.Admission name) e = absurd (cc e)
is_of user (Publickey algorithm key signature) (asked.Password name given) e = absurd (cc e)
is_of user (Publickey algorithm key signature) (asked.Signature method given text shown) e = absurd (cc e)
is_of user (Publickey algorithm key signature) (asked.Key name method given) e =
    first_of_three (is_text name.items user) (is_text method.items algorithm) (is_text given.items key) e
is_of user (Other name rest) question e = absurd (cc e)

same_user : (one other : List ℕ) (m n : Method) (question : Asked) → is_about one m question ≡ true → is_about other n question ≡ true →
    one ≡ other
same_user one other m n question a b =
    sym (same_text (name_in question) one (sym (is_of one m question a))) ∙ same_text (name_in question) other (sym (is_of other n question b))

-- No first question of a request is on a signature.
is_on_any : Asked → Bool
is_on_any (asked.Signature method given text shown) = true
is_on_any question = false

on_any : (session user : List ℕ) (method : Method) (question : Asked) → is_about_signature session user method question ≡ true →
    is_on_any question ≡ true
unfolding is_on_any
on_any session user (Publickey algorithm key (Some signature)) (asked.Signature method given text shown) e = refl
on_any session user (Publickey algorithm key (Some signature)) (asked.Admission name) e = absurd (cc e)
on_any session user (Publickey algorithm key (Some signature)) (asked.Password name given) e = absurd (cc e)
on_any session user (Publickey algorithm key (Some signature)) (asked.Key name method given) e = absurd (cc e)
on_any session user (Publickey algorithm key None) question e = absurd (cc e)
on_any session user NoMethod question e = absurd (cc e)
on_any session user (Password word new) question e = absurd (cc e)
on_any session user (Other name rest) question e = absurd (cc e)

on_none : (user : List ℕ) (method : Method) (question : Asked) → is_about user method question ≡ true → is_on_any question ≡ false
unfolding is_on_any
on_none user method (asked.Admission name) e = refl
on_none user method (asked.Password name given) e = refl
on_none user method (asked.Key name how given) e = refl
on_none user NoMethod (asked.Signature how given text shown) e = absurd (cc e)
on_none user (Password word None) (asked.Signature how given text shown) e = absurd (cc e)
on_none user (Password word (Some new)) (asked.Signature how given text shown) e = absurd (cc e)
on_none user (Publickey algorithm key signature) (asked.Signature how given text shown) e = absurd (cc e)
on_none user (Other name rest) (asked.Signature how given text shown) e = absurd (cc e)

-- ---- one verdict more

-- what the laws of a program's verdicts say
pub record VerdictLaws : Type 0 where
  pub kept : (verdicts more : List Verdict) (user : List ℕ) (method : Method) → is_some (said verdicts user method) ≡ true →
      said (verdicts ++ more) user method ≡ said verdicts user method
  pub other : (verdicts : List Verdict) (verdict : Verdict) (user : List ℕ) (method : Method) → is_about user method verdict.asked ≡ false →
      said (verdicts ++ (verdict ∷ [])) user method ≡ said verdicts user method
  pub kept_signature : (verdicts more : List Verdict) (algorithm key signature : List ℕ) →
      is_some (verdict_on verdicts algorithm key signature) ≡ true →
      verdict_on (verdicts ++ more) algorithm key signature ≡ verdict_on verdicts algorithm key signature
  pub judged : (methods : List (List ℕ)) (service : List ℕ) (method : Method) → is_judged methods service method ≡ true →
      asks service method ≡ true

-- No entry has a key of an algorithm that the library does not know.
no_entry : (user algorithm key : List ℕ) → is_name algorithm ≡ false → (list : List User) → list_any (has_key user algorithm key) list ≡ false
no_entry user algorithm key unknown [] = refl
no_entry user algorithm key unknown (entry ∷ list) = by entry.login refl (no_entry user algorithm key unknown list)
  where
    by : (l : _) → entry.login ≡ l → list_any (has_key user algorithm key) list ≡ false →
        (has_key user algorithm key entry || list_any (has_key user algorithm key) list) ≡ false
    by (login.Key public) e none = rw (e, unknown) none
    by (login.Password hash) e none = rw e none

-- A signature of such an algorithm is not missing if the key has its yes: something was said on it.
is_there : (said_on : Option Bool) (entries entry knows there : Bool) → knows ≡ false → entries ≡ false →
    ((is_some said_on || entry) && not (unwrap_or said_on false && not knows && not there)) ≡ true → unwrap_or said_on entries ≡ true →
    there ≡ true
is_there said_on entries entry knows true unknown none e known = refl
is_there None entries entry knows false unknown none e known = absurd (cc (none, known))
is_there (Some false) entries entry knows false unknown none e known = absurd (cc known)
is_there (Some true) entries entry true false unknown none e known = absurd (cc unknown)
is_there (Some true) entries entry false false unknown none e known = absurd (cc e)

stays_settled : (said_on other : Option Bool) (entry knows now later : Bool) → other ≡ said_on → (now ≡ true → later ≡ true) →
    ((is_some said_on || entry) && not (unwrap_or said_on false && not knows && not now)) ≡ true →
    ((is_some other || entry) && not (unwrap_or other false && not knows && not later)) ≡ true
stays_settled said_on other entry knows now later same law e =
    ap (λ (x : Option Bool). (is_some x || entry) && not (unwrap_or x false && not knows && not later)) same
    ∙ by said_on entry knows now later law e
  where
    by : (x : Option Bool) (b k n t : Bool) → (n ≡ true → t ≡ true) →
        ((is_some x || b) && not (unwrap_or x false && not k && not n)) ≡ true →
        ((is_some x || b) && not (unwrap_or x false && not k && not t)) ≡ true
    by None b k n t law e = e
    by (Some false) b k n t law e = refl
    by (Some true) b true n t law e = refl
    by (Some true) b false true t law e = ap (λ (x : Bool). not (not x)) (law refl)
    by (Some true) b false false t law e = absurd (cc e)

module _ (l : VerdictLaws) (book : List Verdict) (list : List User) (verdict : Verdict) (session user : List ℕ) (method : Method)
    (unsettled : is_settled book list user method ≡ false) (next : is_next is_name book session user method verdict.asked ≡ true) where
  -- a first question of a user with an entry is another one
  another : (other : List ℕ) (how : Method) → has_entry list other ≡ true → is_about other how verdict.asked ≡ false
  another other how entry = by (is_about other how verdict.asked) refl
    where
      apart : (awaits : Bool) → awaits_signature is_name book user method ≡ awaits →
          cond awaits (is_about_signature session user method verdict.asked) (is_about user method verdict.asked) ≡ true →
          is_about other how verdict.asked ≡ true → ⊥
      apart true is about e = cc (on_any session user method verdict.asked about, on_none other how verdict.asked e)
      apart false is about e =
          let stranger : has_entry list other ≡ false = ap (λ u. has_entry list u) (same_user other user how method verdict.asked e about)
          ∙ neither (is_some (said book user method)) (has_entry list user)
          (not_both (is_some (said book user method) || has_entry list user) (awaits_signature is_name book user method) is unsettled) in
          cc (entry, stranger)

      by : (b : Bool) → is_about other how verdict.asked ≡ b → b ≡ false
      by false e = refl
      by true e = absurd (apart (awaits_signature is_name book user method) refl next e)

  same_said : (other : List ℕ) (how : Method) → is_settled book list other how ≡ true →
      said (book ++ (verdict ∷ [])) other how ≡ said book other how
  same_said other how settled = by (is_some (said book other how)) refl
    where
      by : (b : Bool) → is_some (said book other how) ≡ b → said (book ++ (verdict ∷ [])) other how ≡ said book other how
      by true e = l.kept book (verdict ∷ []) other how e
      by false e = l.other book verdict other how (another other how
          (first_of (has_entry list other) (not (awaits_signature is_name book other how))
          (subst (λ b. ((b || has_entry list other) && not (awaits_signature is_name book other how)) ≡ true) e settled)))

  same_answer : (other : List ℕ) (how : Method) → is_settled book list other how ≡ true → (entries : Bool) →
      unwrap_or (said book other how) entries ≡ unwrap_or (said (book ++ (verdict ∷ [])) other how) entries
  same_answer other how settled entries = ap (λ (s : Option Bool). unwrap_or s entries) (sym (same_said other how settled))

  same_right : (other algorithm key signature : List ℕ) → is_settled book list other (Publickey algorithm key (Some signature)) ≡ true →
      is_let_in book list other (Publickey algorithm key None) ≡ true → (text : List ℕ) →
      is_right_by own_signatures book algorithm key text signature
      ≡ is_right_by own_signatures (book ++ (verdict ∷ [])) algorithm key text signature
  same_right other algorithm key signature settled known text = by (is_name algorithm) refl
    where
      by : (knows : Bool) → is_name algorithm ≡ knows →
          cond knows (own_signatures.is_right algorithm key text signature) (is_signed book algorithm key text signature)
          ≡ cond knows (own_signatures.is_right algorithm key text signature) (is_signed (book ++ (verdict ∷ [])) algorithm key text signature)
      by true e = refl
      by false e =
          ap (λ (found : Option Verdict). unwrap_or (option_map (λ (v : Verdict). v.accepts && is_over text v.asked) found) false)
          (sym (l.kept_signature book (verdict ∷ []) algorithm key signature
          (is_there (said book other (Publickey algorithm key None)) (list_any (has_key other algorithm key) list) (has_entry list other)
          (is_name algorithm) (is_some (verdict_on book algorithm key signature)) e (no_entry other algorithm key e list) settled known)))

  agree_on : (other : List ℕ) (how : Method) → is_settled book list other how ≡ true →
      AgreeOn (verdicts_for book list) (verdicts_for (book ++ (verdict ∷ [])) list) other how
  agree_on other NoMethod e = same_answer other NoMethod e false
  agree_on other (Password word None) e = same_answer other (Password word None) e (lets_in list other (Password word None))
  agree_on other (Password word (Some new)) e = tt
  agree_on other (Publickey algorithm key None) e =
      (same_answer other (Publickey algorithm key None) e (lets_in list other (Publickey algorithm key None)), λ known. tt)
  agree_on other (Publickey algorithm key (Some signature)) e = (
    same_answer other (Publickey algorithm key (Some signature)) e (lets_in list other (Publickey algorithm key None)),
    same_right other algorithm key signature e,
  )
  agree_on other (Other name rest) e = tt

  agree_on_all : (methods : List (List ℕ)) (items : List Item) → AllSettled (is_settled book list) items →
      AgreeOnJudged methods (verdicts_for book list) (verdicts_for (book ++ (verdict ∷ [])) list) items
  agree_on_all methods [] d = tt
  agree_on_all methods (Took c (UserauthRequest u s how) b ∷ items) d =
      (λ e. agree_on u how (d.0 (l.judged methods s how e)), agree_on_all methods items d.1)
  agree_on_all methods (i ∷ items) d = agree_on_all methods items d

  still : (other : List ℕ) (how : Method) → is_settled book list other how ≡ true → is_settled (book ++ (verdict ∷ [])) list other how ≡ true
  still other how settled = by how (same_said other how settled) settled
    where
      plain : (how : Method) → said (book ++ (verdict ∷ [])) other how ≡ said book other how →
          ((is_some (said book other how) || has_entry list other) && true) ≡ true →
          ((is_some (said (book ++ (verdict ∷ [])) other how) || has_entry list other) && true) ≡ true
      plain how same e = ap (λ (x : Option Bool). (is_some x || has_entry list other) && true) same ∙ e

      by : (how : Method) → said (book ++ (verdict ∷ [])) other how ≡ said book other how → is_settled book list other how ≡ true →
          is_settled (book ++ (verdict ∷ [])) list other how ≡ true
      by (Publickey algorithm key (Some signature)) same e =
          stays_settled (said book other (Publickey algorithm key None)) (said (book ++ (verdict ∷ [])) other (Publickey algorithm key None))
          (has_entry list other) (is_name algorithm) (is_some (verdict_on book algorithm key signature))
          (is_some (verdict_on (book ++ (verdict ∷ [])) algorithm key signature)) same
          (λ there. ap (λ (x : Option Verdict). is_some x) (l.kept_signature book (verdict ∷ []) algorithm key signature there) ∙ there) e
      by (Publickey algorithm key None) same e = plain (Publickey algorithm key None) same e
      by NoMethod same e = plain NoMethod same e
      by (Password word new) same e = plain (Password word new) same e
      by (Other name rest) same e = plain (Other name rest) same e

  still_settled : (items : List Item) → AllSettled (is_settled book list) items →
      AllSettled (is_settled (book ++ (verdict ∷ [])) list) items
  still_settled [] d = tt
  still_settled (Took c (UserauthRequest u s how) b ∷ items) d = (λ e. still u how (d.0 e), still_settled items d.1)
  still_settled (i ∷ items) d = still_settled items d

-- ---- the server

module _ {K : Type 0} (l : VerdictLaws) (exchanged : (p : Parties K) (c : Crypto K) (parts : ExchangeParts) (one other : Judge) (h : List Item) (machine : State K)
    (layers : Layers) → ServerStandsAt p c parts one h machine layers → machine.kept.dead ≡ false →
    AgreeOnAnswered p (record (supplied_of p) { judge = other }) h → ServerStandsAt (judged_by other p) c parts other h machine layers)
    (judged : (p : Parties K) (judge : Judge) (h : List Item) → AgreeOnJudged p.server.methods (judge_of p) judge h →
    AgreeOnAnswered p (record (supplied_of p) { judge = judge }) h) where
  pub answered_stands : (old new : Users) (verdict : Verdict) (session user : List ℕ) (method : Method) →
      is_settled old.book.list.items old.list.items user method ≡ false →
      is_next is_name old.book.list.items session user method verdict.asked ≡ true →
      new.book.list.items ≡ old.book.list.items ++ (verdict ∷ []) → new.list.items ≡ old.list.items → (c : Crypto K) (machine : State K)
      (layers : Layers) → machine.kept.dead ≡ false → machine.kept.authenticated ≡ false → (p : Parties K) (parts : ExchangeParts)
      (h : List Item) → ServerStandsAt p c parts (verdicts_of old) h machine layers → AreSettled old h →
      ServerStandsAt (judged_by (verdicts_of new) p) c parts (verdicts_of new) h machine layers × AreSettled new h
  answered_stands old new verdict session user method unsettled next added entries c machine layers alive out p parts h place settled =
      let living = sym place.sums.transport.dead_is ∙ alive in
      let before = sym ((place.sums.transport.live alive).authenticated_is) ∙ out in
      let d = settled living before in
      let longer = old.book.list.items ++ (verdict ∷ []) in
      let agree = judged p (verdicts_for longer old.list.items) h
      (subst (λ (j : Judge). AgreeOnJudged p.server.methods j (verdicts_for longer old.list.items) h) (sym (place.parts_are.judge_is refl))
      (agree_on_all l old.book.list.items old.list.items verdict session user method unsettled next p.server.methods h d)) in
      let stands = exchanged p c parts (verdicts_of old) (verdicts_for longer old.list.items) h machine layers place alive agree in (
        subst (λ l. ServerStandsAt (judged_by (verdicts_for new.book.list.items l) p) c parts (verdicts_for new.book.list.items l) h machine layers)
            (sym entries)
            (subst (λ b. ServerStandsAt (judged_by (verdicts_for b old.list.items) p) c parts (verdicts_for b old.list.items) h machine layers) (sym added)
            stands),
        λ _ _. subst (λ l. AllSettled (is_settled new.book.list.items l) h) (sym entries)
            (subst (λ b. AllSettled (is_settled b old.list.items) h) (sym added)
            (still_settled l old.book.list.items old.list.items verdict session user method unsettled next h d)),
      )

-- ---- entries that are set

module _ (book : List Verdict) (list added : List User) where
  more_settled : (user : List ℕ) (method : Method) → is_settled book list user method ≡ true →
      is_settled book (list ++ added) user method ≡ true
  more_settled user method e =
      ap (λ b. (is_some (said book user method) || b) && not (awaits_signature is_name book user method))
      (list_any-append (λ (entry : User). is_text entry.name.items user) list added)
      ∙ longer (is_some (said book user method)) (has_entry list user) (has_entry added user)
      (not (awaits_signature is_name book user method)) e
    where
      longer : (a b c n : Bool) → ((a || b) && n) ≡ true → ((a || (b || c)) && n) ≡ true
      longer true b c n e = e
      longer false true c n e = e
      longer false false c n e = absurd (cc e)

  all_settled : (items : List Item) → AllSettled (is_settled book list) items → AllSettled (is_settled book (list ++ added)) items
  all_settled [] d = tt
  all_settled (Took c (UserauthRequest u s how) b ∷ items) d = (λ e. more_settled u how (d.0 e), all_settled items d.1)
  all_settled (i ∷ items) d = all_settled items d

pub entries_settled : (old new : Users) (added : List User) → new.list.items ≡ old.list.items ++ added → new.book ≡ old.book →
    (h : List Item) → AreSettled old h → AreSettled new h
entries_settled old new added is book h settled = λ living out.
    subst (λ b. AllSettled (is_settled b new.list.items) h) (ap (λ b. b.list.items) (sym book))
    (subst (λ l. AllSettled (is_settled old.book.list.items l) h) (sym is)
    (all_settled old.book.list.items old.list.items added h (settled living out)))

-- ---- whoever is let in

module _ {K : Type 0} (p : Parties K) (book : List Verdict) (list : List User) where
  pub let_in : (session user service : List ℕ) (method : Method) →
      Authenticates (judged_by (verdicts_for book list) p) session user service method → is_let_in book list user method ≡ true
  let_in session user service NoMethod a = a
  let_in session user service (Password word None) a = a
  let_in session user service (Password word (Some new)) a = absurd a
  let_in session user service (Publickey algorithm key None) a = absurd a
  let_in session user service (Publickey algorithm key (Some signature)) a = a.0
  let_in session user service (Other name rest) a = absurd a
