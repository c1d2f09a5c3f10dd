-- More verdicts say the same on what was decided.
use Rattle.std.proofs.Common.{◌≡◌, ◌&&◌, ℕ, Bool, true, false, List, [], ◌∷◌, ◌++◌, Option, Some, None, codes, cond, is_some, length, nat_le, not, option_map, unwrap_or, refl, ap, sym, subst, ◌∙◌}
use Rattle.std.specs.Cmp.Lexicographic.{same_text}
use Rattle.ssh_model.specs.Laws.Supplied.{AgreeOnJudged, is_judged}
use Rattle.ssh_model.specs.Laws.Verdicts.{AgreeOn, AgreeOnSignature, judged_by}
use Rattle.ssh_model.specs.Protocol.Authentication.Requests.{Judge, accepts, is_configured, is_for_connection, is_known_key, signed_text}
use Rattle.ssh_model.specs.Protocol.Bounds.{longest_algorithm_name, longest_user_key}
use Rattle.ssh_model.specs.Protocol.Sessions.AnyPeer.{Authenticates}
use Rattle.ssh_model.specs.Protocol.Sessions.Items.{Item, Item.Took}
use Rattle.ssh_model.specs.Protocol.Sessions.Parties.{Parties}
use Rattle.ssh_model.specs.Protocol.Wire.Message.{Msg.UserauthRequest, Method, Method.NoMethod, Method.Other, Method.Password}
use Rattle.ssh_model.specs.Protocol.Wire.Message.{Method.Publickey}
use Rattle.ssh_held.specs.Book.{AllDecided, IsSignedByVerdict, Signatures, asks, awaits_signature, is_about, is_granted, is_on_signature, is_over}
use Rattle.ssh_held.specs.Book.{is_right_by, is_said, is_signed, judge_by, said, verdict_on}
use Rattle.ssh_held.specs.declared.book.Verdict.{Verdict}
use Rattle.ssh_held.proofs.Finding.{first_found, first_of, found_before, second_of, yes}

said_before : (user : List ℕ) (method : Method) (verdicts more : List Verdict) → is_some (said verdicts user method) ≡ true →
    said (verdicts ++ more) user method ≡ said verdicts user method
said_before user how verdicts more e =
    found_before (λ (v : Verdict). is_about user how v.asked) (λ (v : Verdict). v.accepts) verdicts more e

same_grant : (user : List ℕ) (method : Method) (verdicts more : List Verdict) → is_some (said verdicts user method) ≡ true →
    is_granted verdicts user method ≡ is_granted (verdicts ++ more) user method
same_grant user method verdicts more e = ap (λ (x : Option Bool). unwrap_or x false) (sym (said_before user method verdicts more e))

verdict_before : (algorithm key signature : List ℕ) (verdicts more : List Verdict) →
    is_some (verdict_on verdicts algorithm key signature) ≡ true →
    verdict_on (verdicts ++ more) algorithm key signature ≡ verdict_on verdicts algorithm key signature
verdict_before algorithm key signature verdicts more e =
    first_found (λ (v : Verdict). is_on_signature algorithm key signature v.asked) verdicts more e

-- what was said on a request stays, whether its signature is missing or not
still_some : (said_on other : Option Bool) → other ≡ said_on → (is_some said_on && true) ≡ true → (is_some other && true) ≡ true
still_some said_on other same e = ap (λ (x : Option Bool). is_some x && true) same ∙ e

still_signed : (said_on other : Option Bool) (knows now later : Bool) → other ≡ said_on → (now ≡ true → later ≡ true) →
    (is_some said_on && not (unwrap_or said_on false && not knows && not now)) ≡ true →
    (is_some other && not (unwrap_or other false && not knows && not later)) ≡ true
still_signed said_on other knows now later same law e =
    ap (λ (x : Option Bool). is_some x && not (unwrap_or x false && not knows && not later)) same ∙ by said_on knows now later law e
  where
    by : (x : Option Bool) (k s t : Bool) → (s ≡ true → t ≡ true) → (is_some x && not (unwrap_or x false && not k && not s)) ≡ true →
        (is_some x && not (unwrap_or x false && not k && not t)) ≡ true
    by None k s t law e = absurd (cc e)
    by (Some false) k s t law e = refl
    by (Some true) true s t law e = refl
    by (Some true) false true t law e = ap (λ (b : Bool). not (not b)) (law refl)
    by (Some true) false false t law e = absurd (cc e)

pub said_still : (knows : List ℕ → Bool) (user : List ℕ) (method : Method) (verdicts more : List Verdict) →
    is_said knows verdicts user method ≡ true → is_said knows (verdicts ++ more) user method ≡ true
said_still knows user method verdicts more e = by method (said_before user method verdicts more
    (first_of (is_some (said verdicts user method)) (not (awaits_signature knows verdicts user method)) e)) e
  where
    by : (how : Method) → said (verdicts ++ more) user how ≡ said verdicts user how → is_said knows verdicts user how ≡ true →
        is_said knows (verdicts ++ more) user how ≡ true
    by (Publickey algorithm key (Some signature)) same e =
        still_signed (said verdicts user (Publickey algorithm key None)) (said (verdicts ++ more) user (Publickey algorithm key None))
        (knows algorithm) (is_some (verdict_on verdicts algorithm key signature))
        (is_some (verdict_on (verdicts ++ more) algorithm key signature)) same
        (λ there. ap (λ (x : Option Verdict). is_some x) (verdict_before algorithm key signature verdicts more there) ∙ there) e
    by (Publickey algorithm key None) same e =
        still_some (said verdicts user (Publickey algorithm key None)) (said (verdicts ++ more) user (Publickey algorithm key None)) same e
    by NoMethod same e = still_some (said verdicts user NoMethod) (said (verdicts ++ more) user NoMethod) same e
    by (Password word new) same e =
        still_some (said verdicts user (Password word new)) (said (verdicts ++ more) user (Password word new)) same e
    by (Other name rest) same e =
        still_some (said verdicts user (Other name rest)) (said (verdicts ++ more) user (Other name rest)) same e

-- A signature is judged as before, if the key has its yes, and the signature is not missing.
pub right_before : (some granted knows there right : Bool) (one other : Option Bool) →
    (some && not (granted && not knows && not there)) ≡ true → granted ≡ true → (there ≡ true → other ≡ one) →
    cond knows right (unwrap_or one false) ≡ cond knows right (unwrap_or other false)
right_before some granted true there right one other e known law = refl
right_before some granted false true right one other e known law = ap (λ (x : Option Bool). unwrap_or x false) (sym (law refl))
right_before true true false false right one other e known law = absurd (cc e)
right_before false granted false false right one other e known law = absurd (cc e)
right_before some false false false right one other e known law = absurd (cc known)

-- ---- what a judge is asked, a program is asked

but_second : (f c m n : Bool) → (f && c && m && n) ≡ true → (f && m && n) ≡ true
but_second true true m n e = e
but_second true false m n e = absurd (cc e)
but_second false c m n e = absurd (cc e)

pub judged_asks : (methods : List (List ℕ)) (service : List ℕ) (method : Method) → is_judged methods service method ≡ true →
    asks service method ≡ true
judged_asks methods service NoMethod e = e
judged_asks methods service (Password word None) e = first_of (is_for_connection service) (is_configured methods (codes "password")) e
judged_asks methods service (Password word (Some new)) e = e
judged_asks methods service (Publickey algorithm key signature) e =
    but_second (is_for_connection service) (is_configured methods (codes "publickey")) (nat_le (length key) longest_user_key)
    (nat_le (length algorithm) longest_algorithm_name) e
judged_asks methods service (Other name rest) e = e

-- ---- a history

module _ (signatures : Signatures) (verdicts more : List Verdict) where
  some_of : (user : List ℕ) (method : Method) → is_said signatures.knows verdicts user method ≡ true →
      is_some (said verdicts user method) ≡ true
  some_of user method e = first_of (is_some (said verdicts user method)) (not (awaits_signature signatures.knows verdicts user method)) e

  -- the answer of a verdict on a text
  answer_on : (text : List ℕ) → Option Verdict → Option Bool
  answer_on text found = option_map (λ (v : Verdict). v.accepts && is_over text v.asked) found

  agree_on_signature : (user algorithm key : List ℕ) (signature : Option (List ℕ)) →
      is_said signatures.knows verdicts user (Publickey algorithm key signature) ≡ true →
      is_granted verdicts user (Publickey algorithm key None) ≡ true →
      AgreeOnSignature (judge_by signatures verdicts) (judge_by signatures (verdicts ++ more)) algorithm key signature
  unfolding answer_on
  agree_on_signature user algorithm key None e known = tt
  agree_on_signature user algorithm key (Some signature) e known = λ text.
      right_before (is_some (said verdicts user (Publickey algorithm key None))) (is_granted verdicts user (Publickey algorithm key None))
      (signatures.knows algorithm) (is_some (verdict_on verdicts algorithm key signature))
      (signatures.is_right algorithm key text signature) (answer_on text (verdict_on verdicts algorithm key signature))
      (answer_on text (verdict_on (verdicts ++ more) algorithm key signature)) e known
      (λ there. ap (answer_on text) (verdict_before algorithm key signature verdicts more there))

  agree_on : (user : List ℕ) (method : Method) → is_said signatures.knows verdicts user method ≡ true →
      AgreeOn (judge_by signatures verdicts) (judge_by signatures (verdicts ++ more)) user method
  agree_on user NoMethod e = same_grant user NoMethod verdicts more (some_of user NoMethod e)
  agree_on user (Password word None) e = same_grant user (Password word None) verdicts more (some_of user (Password word None) e)
  agree_on user (Password word (Some new)) e = tt
  agree_on user (Publickey algorithm key signature) e = (
    same_grant user (Publickey algorithm key None) verdicts more (some_of user (Publickey algorithm key signature) e),
    agree_on_signature user algorithm key signature e,
  )
  agree_on user (Other name rest) e = tt

  pub agree_on_all : (methods : List (List ℕ)) (items : List Item) → AllDecided signatures.knows verdicts items →
      AgreeOnJudged methods (judge_by signatures verdicts) (judge_by signatures (verdicts ++ more)) items
  agree_on_all methods [] d = tt
  agree_on_all methods (Took c (UserauthRequest u s how) b ∷ items) d =
      (λ e. agree_on u how (d.0 (judged_asks methods s how e)), agree_on_all methods items d.1)
  agree_on_all methods (i ∷ items) d = agree_on_all methods items d

module _ (knows : List ℕ → Bool) (verdicts more : List Verdict) where
  pub all_decided : (items : List Item) → AllDecided knows verdicts items → AllDecided knows (verdicts ++ more) items
  all_decided [] d = tt
  all_decided (Took c (UserauthRequest u s how) b ∷ items) d = (λ e. said_still knows u how verdicts more (d.0 e), all_decided items d.1)
  all_decided (i ∷ items) d = all_decided items d

-- ---- what authenticates by these verdicts was granted by one

module _ {K : Type 0} (p : Parties K) (signatures : Signatures) (verdicts : List Verdict) where
  pub granted : (session user service : List ℕ) (method : Method) →
      Authenticates (judged_by (judge_by signatures verdicts) p) session user service method → said verdicts user method ≡ Some true
  granted session user service NoMethod a = yes (said verdicts user NoMethod) a
  granted session user service (Password word None) a = yes (said verdicts user (Password word None)) a
  granted session user service (Password word (Some new)) a = absurd a
  granted session user service (Publickey algorithm key None) a = absurd a
  granted session user service (Publickey algorithm key (Some signature)) a = yes (said verdicts user (Publickey algorithm key None)) a.0
  granted session user service (Other name rest) a = absurd a

-- ---- what is accepted by these verdicts was signed by one

other_right : (knows right other : Bool) → knows ≡ false → cond knows right other ≡ true → other ≡ true
other_right false right other e is = is
other_right true right other e is = absurd (cc e)

pub signed : (judge : Judge) (signatures : Signatures) (verdicts : List Verdict) (methods : List (List ℕ)) (session user service : List ℕ)
    (method : Method) → ((algorithm key text signature : List ℕ) →
    judge.signature_is_right algorithm key text signature ≡ is_right_by signatures verdicts algorithm key text signature) →
    accepts judge methods session user service method ≡ true → IsSignedByVerdict signatures.knows verdicts session user method
signed judge signatures verdicts methods session user service (Publickey algorithm key (Some signature)) same a =
    let text = λ (name : List ℕ). signed_text session user name algorithm key in
    let right = judge.signature_is_right algorithm key (text service) signature in
    let known = is_configured methods (codes "publickey") && is_known_key judge user algorithm key in
    let here = first_of (is_for_connection service) (known && right) a in
    let is_right : right ≡ true = second_of known right (second_of (is_for_connection service) (known && right) a) in
    λ unknown. subst (λ (name : List ℕ). is_signed verdicts algorithm key (text name) signature ≡ true)
    (same_text service (codes "ssh-connection") (sym here))
    (other_right (signatures.knows algorithm) (signatures.is_right algorithm key (text service) signature)
    (is_signed verdicts algorithm key (text service) signature) unknown
    (sym (same algorithm key (text service) signature) ∙ is_right))
signed judge signatures verdicts methods session user service (Publickey algorithm key None) same a = tt
signed judge signatures verdicts methods session user service NoMethod same a = tt
signed judge signatures verdicts methods session user service (Password word new) same a = tt
signed judge signatures verdicts methods session user service (Other name rest) same a = tt
