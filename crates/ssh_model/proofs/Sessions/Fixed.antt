-- What an end does with a unit, an ask and a feed is fixed by its history, except for what is left free.
use Rattle.std.proofs.Common.{◌≡◌, ℕ, suc, ◌<◌, ◌^◌, Bool, true, false, not, List, [], ◌∷◌, ◌++◌, inl, inr, map, refl, ap, sym, ◌∙◌, subst, arith, Option, Some, None}
use Rattle.std.specs.Prelude.{unwrap_or}
use Rattle.std.proofs.lemmas.List.{map-append}
use Rattle.ssh_model.specs.declared.side.Side.{Side}
use Rattle.ssh_model.specs.Protocol.Wire.Message.{Msg, Msg.NewKeys, Msg.ChannelOpen, Msg.Disconnect, IsPayload}
use Rattle.ssh_model.specs.Protocol.Wire.Outcome.{Outcome}
use Rattle.ssh_model.specs.declared.refusal.Refusal.{Refusal}
use Rattle.ssh_model.specs.declared.ask_refusal.AskRefusal.{AskRefusal}
use Rattle.ssh_model.specs.Protocol.Sessions.Refusals.{refusal_name, first_refusal}
use Rattle.ssh_model.specs.Protocol.Sessions.Parties.{Parties, AreLawful}
use Rattle.ssh_model.specs.Protocol.Sessions.Items.{Ask, Fact.Opening, Fact.Opened, Item, Item.Asked, Item.AskRefused, Item.Sent, Item.Took, Item.Told, Item.Refused, Item.Died, sent}
use Rattle.ssh_model.specs.Protocol.Sessions.Epochs.{count}
use Rattle.ssh_model.specs.Protocol.Sessions.Phases.{probing}
use Rattle.ssh_model.specs.Protocol.Sessions.Transport.{TransportAsk, TransportAsk.service, TransportAsk.rekey, TransportAsk.disconnect}
use Rattle.ssh_model.proofs.Sessions.Kinds.{plain_completing, plain_authenticating, plain_connecting, completing_authenticating, completing_connecting, authenticating_connecting, plain_or_authentication, plain_or_connection, authentication_or_connection}
use Rattle.ssh_model.specs.Protocol.Authentication.Rows.{AuthenticationAsk.none, AuthenticationAsk.password, AuthenticationAsk.probe, AuthenticationAsk.sign, AuthenticationAsk}
use Rattle.ssh_model.specs.Protocol.Channels.Connection.{ConnectionAnswer, ConnectionAnswer.global, ConnectionAnswer.global_success, ConnectionAnswer.global_failure, ConnectionAnswer.opened, ConnectionAnswer.not_opened, ConnectionAnswer.confirmation, ConnectionAnswer.failure, ConnectionAnswer.adjust, ConnectionAnswer.got_data, ConnectionAnswer.got_extended, ConnectionAnswer.eof, ConnectionAnswer.close, ConnectionAnswer.request, ConnectionAnswer.success, ConnectionAnswer.no_success, ConnectionAsk, ConnectionAsk.opens, ConnectionAsk.confirm, ConnectionAsk.refuse, ConnectionAsk.sends, ConnectionAsk.sends_extended, ConnectionAsk.adjust as adjusts, ConnectionAsk.eof as ends, ConnectionAsk.close as closes, ConnectionAsk.request as requests, ConnectionAsk.reply_yes, ConnectionAsk.reply_no, ConnectionAsk.global as asks_all, ConnectionAsk.global_yes, ConnectionAsk.global_no, channel_items}
use Rattle.ssh_model.specs.Protocol.Sessions.Turns.{AreNumbered, Refuses, Refuses.silently, Refuses.spent, Refuses.said, Answer, Answer.of_transport, Answer.of_completion, Answer.of_authentication, Answer.of_connection, IsAcceptable, answer_checks, OnPayload, OnPayload.takes, OnPayload.skips, OnPayload.unexpected, OnPayload.bad_message, OnPayload.refuses, OnPayload.spends, OnOutcome, OnOutcome.other_line, OnOutcome.version_line, OnOutcome.refused_line, OnOutcome.opened as is_opened, OnOutcome.refused_packet, OnUnit, OnUnit.reads, OnUnit.dies, stage, OnAsk, OnAsk.of_transport as ask_of_transport, OnAsk.of_authentication as ask_of_authentication, OnAsk.of_connection as ask_of_connection, AsksTurn, AsksTurn.refuses as ask_refused, AsksTurn.answers, AsksTurn.spends as ask_spends, AsksTurn.dies as ask_dies, AsksTurn.is_dead, FeedsTurn, FeedsTurn.feeds, FeedsTurn.answers_false}
use Rattle.ssh_model.specs.Laws.Turns.{shown, fixed_part, AreAlike}
use Rattle.ssh_model.proofs.Wire.OneMessage.{same_message}
use Rattle.ssh_model.proofs.Wire.Units.{unit_outcome}
use Rattle.ssh_model.proofs.Channels.Laws.{full_is}
use Rattle.ssh_model.proofs.Sessions.AnswerLaws.{same_answer}

true_false : {A : Type 0} {b : Bool} → b ≡ true → b ≡ false → A
true_false e f = absurd (let g : true ≡ false = sym e ∙ f in cc g)

none_some : {A B : Type 0} {o : Option A} {x : A} → o ≡ None → o ≡ Some x → B
none_some e f = absurd (let g : None ≡ Some _ = sym e ∙ f in cc g)

one_some : {A : Type 0} {o : Option A} {x y : A} → o ≡ Some x → o ≡ Some y → x ≡ y
one_some {x = x} e f = ap (λ o. unwrap_or o x) (sym e ∙ f)

-- ---- what is left free

shown_fixed : (i : Item) → fixed_part (shown i) ≡ fixed_part i
shown_fixed (Sent (Some x) (ChannelOpen k s w m r) b) = refl
shown_fixed (Sent (Some x) m b) = refl
shown_fixed (Sent None m b) = refl
shown_fixed i = refl

all_shown : (items : List Item) → map fixed_part (map shown items) ≡ map fixed_part items
all_shown [] = refl
all_shown (i ∷ items) = rw (shown_fixed i, all_shown items) refl

of_shown : (a b : List Item) → map shown a ≡ map shown b → map fixed_part a ≡ map fixed_part b
of_shown a b e = sym (all_shown a) ∙ (ap (map fixed_part) e ∙ all_shown b)

following : (a b : List Item) (i j : Item) → map fixed_part a ≡ map fixed_part b → fixed_part i ≡ fixed_part j → map fixed_part (a ++ i ∷ []) ≡ map fixed_part (b ++ j ∷ [])
following a b i j e f = map-append fixed_part a (i ∷ []) ∙ (ap (λ l. l ++ fixed_part i ∷ []) e ∙ (ap (λ x. map fixed_part b ++ x ∷ []) f ∙ sym (map-append fixed_part b (j ∷ []))))

-- ---- numbers

data Kind : Type 0 where
  Keys Other Nothing : Kind

kind : Item → Kind
kind (Sent channel NewKeys payload) = Keys
kind (Sent channel message payload) = Other
kind i = Nothing

kind_fixed : (i : Item) → kind (fixed_part i) ≡ kind i
unfolding kind
kind_fixed (Sent (Some x) (ChannelOpen k s w m r) b) = refl
kind_fixed (Sent (Some x) NewKeys b) = refl
kind_fixed (Sent (Some x) m b) = refl
kind_fixed (Sent None NewKeys b) = refl
kind_fixed (Sent None m b) = refl
kind_fixed (Took (Some x) (ChannelOpen k s w m r) b) = refl
kind_fixed (Took (Some x) m b) = refl
kind_fixed (Told (Opening x)) = refl
kind_fixed (Told (Opened x k w m r)) = refl
kind_fixed i = refl

kinds_fixed : (items : List Item) → map kind (map fixed_part items) ≡ map kind items
kinds_fixed [] = refl
kinds_fixed (i ∷ items) = rw (kind_fixed i, kinds_fixed items) refl

same_kinds : (a b : List Item) → map fixed_part a ≡ map fixed_part b → map kind a ≡ map kind b
same_kinds a b e = sym (kinds_fixed a) ∙ (ap (map kind) e ∙ kinds_fixed b)

counted : List Kind → ℕ → ℕ
counted [] n = n
counted (Keys ∷ l) n = 0
counted (Other ∷ l) n = suc (counted l n)
counted (Nothing ∷ l) n = counted l n

Below : List Kind → ℕ → Type 0
Below [] n = Unit {0}
Below (Keys ∷ l) n = (counted l n < 2 ^ 32) × Below l n
Below (Other ∷ l) n = (counted l n < 2 ^ 32) × Below l n
Below (Nothing ∷ l) n = Below l n

count_is : (items h : List Item) → count (sent (items ++ h)) ≡ counted (map kind items) (count (sent h))
unfolding kind counted
count_is [] h = refl
count_is (Sent c NewKeys b ∷ items) h = refl
count_is (Sent c m b ∷ items) h = ap suc (count_is items h)
count_is (i ∷ items) h = count_is items h

to_below : (items h : List Item) → AreNumbered items h → Below (map kind items) (count (sent h))
unfolding kind counted Below
to_below [] h n = tt
to_below (Sent c NewKeys b ∷ items) h n = (subst (λ k. k < 2 ^ 32) (count_is items h) n.0, to_below items h n.1)
to_below (Sent c m b ∷ items) h n = (subst (λ k. k < 2 ^ 32) (count_is items h) n.0, to_below items h n.1)
to_below (i ∷ items) h n = to_below items h n

from_below : (items h : List Item) → Below (map kind items) (count (sent h)) → AreNumbered items h
unfolding kind counted Below
from_below [] h n = tt
from_below (Sent c NewKeys b ∷ items) h n = (subst (λ k. k < 2 ^ 32) (sym (count_is items h)) n.0, from_below items h n.1)
from_below (Sent c m b ∷ items) h n = (subst (λ k. k < 2 ^ 32) (sym (count_is items h)) n.0, from_below items h n.1)
from_below (i ∷ items) h n = from_below items h n

numbered_alike : (a b g h : List Item) → map fixed_part a ≡ map fixed_part b → sent g ≡ sent h → AreNumbered a g → AreNumbered b h
unfolding Below
numbered_alike a b g h e f n =
    from_below b h (subst (λ l. Below (map kind b) (count l)) f (subst (λ l. Below l (count (sent g))) (same_kinds a b e) (to_below a g n)))

-- ---- refusals

pub refusal_fixed : (h items others : List Item) (why : Refusal) (payload : Option (List ℕ)) → Refuses h why payload items → Refuses h why payload others → map fixed_part items ≡ map fixed_part others
refusal_fixed h items others why b (silently e) (silently f) = refl
refusal_fixed h items others why b (silently e) (spent f) = refl
refusal_fixed h items others why b (silently e) (said r s f k q) = none_some e f
refusal_fixed h items others why b (spent e) (silently f) = refl
refusal_fixed h items others why b (spent e) (spent f) = refl
refusal_fixed h items others why b (spent e) (said r s f k q) = absurd (omega (arith, e, k))
refusal_fixed h items others why b (said r s e k q) (silently f) = none_some f e
refusal_fixed h items others why b (said r s e k q) (spent f) = absurd (omega (arith, f, k))
refusal_fixed h items others why b (said r s e k q) (said r2 s2 f k2 q2) =
    ap (λ (w : ℕ). Died ∷ Sent None (Disconnect w (refusal_name why) []) [] ∷ Refused why b ∷ []) (one_some e f)

-- ---- answers

not_true : (b : Bool) → not b ≡ true → b ≡ false
not_true true e = absurd (cc e)
not_true false e = refl

-- a message has one channel, except for an OPEN that gets a number
data Channels (side : Side) (h : List Item) (m : Msg) (c d : Option ℕ) (items others : List Item) : Type 0 where
  one : c ≡ d → Channels side h m c d items others
  two : (x y : ℕ) (k : List ℕ) (s w d_max : ℕ) (r : List ℕ) → m ≡ ChannelOpen k s w d_max r → c ≡ Some x → d ≡ Some y
      → items ≡ Told (Opened x k w d_max r) ∷ [] → others ≡ Told (Opened y k w d_max r) ∷ [] → Channels side h m c d items others

which : {side : Side} {h items others : List Item} {c d : Option ℕ} {m : Msg} → ConnectionAnswer side h c m items → ConnectionAnswer side h d m others → Channels side h m c d items others
which (global a b c) (global a2 b2 c2) = one refl
which (global_success a) (global_success a2) = one refl
which global_failure global_failure = one refl
which (opened x k s w d r f) (opened y k2 s2 w2 d2 r2 f2) = two x y k s w d r refl refl refl refl refl
which {side = side} {h = h} (opened x k s w d r f) (not_opened k2 s2 w2 d2 r2 g e) = true_false f (full_is side (channel_items h) x (not_true _ g))
which {side = side} {h = h} (not_opened k s w d r g e) (opened y k2 s2 w2 d2 r2 f2) = true_false f2 (full_is side (channel_items h) y (not_true _ g))
which (not_opened k s w d r g e) (not_opened k2 s2 w2 d2 r2 g2 e2) = one refl
which (confirmation a b c d f) (confirmation a2 b2 c2 d2 f2) = one refl
which (failure a b c d) (failure a2 b2 c2 d2) = one refl
which (adjust a b) (adjust a2 b2) = one refl
which (got_data a b) (got_data a2 b2) = one refl
which (got_extended a b c) (got_extended a2 b2 c2) = one refl
which (eof a) (eof a2) = one refl
which (close a b) (close a2 b2) = one refl
which (request a b c d) (request a2 b2 c2 d2) = one refl
which (success a) (success a2) = one refl
which (no_success a) (no_success a2) = one refl

record Alike (c d : Option ℕ) (m : Msg) (b : List ℕ) (items others : List Item) : Type 0 where
  answers : map fixed_part items ≡ map fixed_part others
  message : fixed_part (Took c m b) ≡ fixed_part (Took d m b)

module _ {K : Type 0} (p : Parties K) (side : Side) (h : List Item) where
  opened_alike : (x y : ℕ) (k : List ℕ) (s w d : ℕ) (r : List ℕ) (b : List ℕ) → Alike (Some x) (Some y) (ChannelOpen k s w d r) b (Told (Opened x k w d r) ∷ []) (Told (Opened y k w d r) ∷ [])
  opened_alike x y k s w d r b = record { answers = refl; message = refl }

  connection_alike : (c d : Option ℕ) (m : Msg) (b : List ℕ) (items others : List Item) → ConnectionAnswer side h c m items → ConnectionAnswer side h d m others
      → Channels side h m c d items others → Alike c d m b items others
  connection_alike c d m b items others a e (one f) =
      let a' : ConnectionAnswer side h d m items = subst (λ (x : Option ℕ). ConnectionAnswer side h x m items) f a in
      record { answers = of_shown items others (same_answer p side h d m items others (of_connection a') (of_connection e)); message = ap (λ (x : Option ℕ). fixed_part (Took x m b)) f }
  connection_alike c d m b items others a e (two x y k s w n r f g i j l) = rw (f, g, i, j, l) (opened_alike x y k s w n r b)

  -- answers with no channel
  plain_alike : (m : Msg) (b : List ℕ) (items others : List Item) → Answer p side h None m items → Answer p side h None m others → Alike None None m b items others
  plain_alike m b items others a e = record { answers = of_shown items others (same_answer p side h None m items others a e); message = refl }

  answer_alike : (c d : Option ℕ) (m : Msg) (b : List ℕ) (items others : List Item) → Answer p side h c m items → Answer p side h d m others → Alike c d m b items others
  answer_alike c d m b items others (of_transport t) (of_transport u) = plain_alike m b items others (of_transport t) (of_transport u)
  answer_alike c d m b items others (of_transport t) (of_completion s u) = plain_completing t u
  answer_alike c d m b items others (of_transport t) (of_authentication u) = plain_authenticating t u
  answer_alike c d m b items others (of_transport t) (of_connection u) = plain_connecting t u
  answer_alike c d m b items others (of_completion r t) (of_transport u) = plain_completing u t
  answer_alike c d m b items others (of_completion r t) (of_completion s u) = plain_alike m b items others (of_completion r t) (of_completion s u)
  answer_alike c d m b items others (of_completion r t) (of_authentication u) = completing_authenticating t u
  answer_alike c d m b items others (of_completion r t) (of_connection u) = completing_connecting t u
  answer_alike c d m b items others (of_authentication t) (of_transport u) = plain_authenticating u t
  answer_alike c d m b items others (of_authentication t) (of_completion s u) = completing_authenticating u t
  answer_alike c d m b items others (of_authentication t) (of_authentication u) = plain_alike m b items others (of_authentication t) (of_authentication u)
  answer_alike c d m b items others (of_authentication t) (of_connection u) = authenticating_connecting {p = p} t u
  answer_alike c d m b items others (of_connection t) (of_transport u) = plain_connecting u t
  answer_alike c d m b items others (of_connection t) (of_completion s u) = completing_connecting u t
  answer_alike c d m b items others (of_connection t) (of_authentication u) = authenticating_connecting {p = p} u t
  answer_alike c d m b items others (of_connection t) (of_connection u) = connection_alike c d m b items others t u (which t u)

  sent_same : (c d : Option ℕ) (m : Msg) (b : List ℕ) → sent (Took c m b ∷ h) ≡ sent (Took d m b ∷ h)
  sent_same c d NewKeys b = refl
  sent_same c d m b = refl

  -- ---- payloads

  module _ (b : List ℕ) where
    -- where the message is the same, so is what refuses it
    same_refusal : (m n : Msg) (k l : Refusal) → IsPayload (probing h) m b → IsPayload (probing h) n b
        → first_refusal (answer_checks p side h m) ≡ Some k → first_refusal (answer_checks p side h n) ≡ Some l → k ≡ l
    same_refusal m n k l i j e f =
        let g : first_refusal (answer_checks p side h m) ≡ Some l = subst (λ (x : Msg). first_refusal (answer_checks p side h x) ≡ Some l) (sym (same_message m n b i j)) f in
        one_some e g

    welcome_refused : {A : Type 0} (m n : Msg) (k : Refusal) → IsAcceptable p side h m b → IsPayload (probing h) n b → first_refusal (answer_checks p side h n) ≡ Some k → A
    welcome_refused m n k w j f =
        none_some w.not_refused (subst (λ (x : Msg). first_refusal (answer_checks p side h x) ≡ Some k) (sym (same_message m n b w.message_is j)) f)

    both_answer : (c d : Option ℕ) (m n : Msg) (items others : List Item) → IsAcceptable p side h m b → IsAcceptable p side h n b → Answer p side h c m items → Answer p side h d n others
        → (m ≡ n) × Alike c d m b items others
    both_answer c d m n items others w v a e =
        let same = same_message m n b w.message_is v.message_is in
        (same, answer_alike c d m b items others a (subst (λ (x : Msg). Answer p side h d x others) (sym same) e))

    numbered_same : (c d : Option ℕ) (m n : Msg) (items others : List Item) → IsAcceptable p side h m b → IsAcceptable p side h n b → Answer p side h c m items → Answer p side h d n others
        → AreNumbered items (Took c m b ∷ h) → AreNumbered others (Took d n b ∷ h)
    numbered_same c d m n items others w v a e k =
        let r = both_answer c d m n items others w v a e in
        subst (λ (x : Msg). AreNumbered others (Took d x b ∷ h)) r.0 (numbered_alike items others (Took c m b ∷ h) (Took d m b ∷ h) r.1.answers (sent_same c d m b) k)

    taken_alike : (c d : Option ℕ) (m n : Msg) (items others : List Item) → IsAcceptable p side h m b → IsAcceptable p side h n b → Answer p side h c m items → Answer p side h d n others
        → map fixed_part (items ++ Took c m b ∷ []) ≡ map fixed_part (others ++ Took d n b ∷ [])
    taken_alike c d m n items others w v a e =
        let r = both_answer c d m n items others w v a e in
        following items others (Took c m b) (Took d n b) r.1.answers (r.1.message ∙ ap (λ (x : Msg). fixed_part (Took d x b)) r.0)

    abbrev Same : List Item → List Item → Type 0
    Same items others = map fixed_part items ≡ map fixed_part others

    payload_fixed : (items others : List Item) → OnPayload p side h b items → OnPayload p side h b others → Same items others
    payload_fixed i j (takes {items = x} c m w a s n) (takes {items = y} d o v e q k) = taken_alike c d m o x y w v a e
    payload_fixed i j (takes c m w a s n) (skips f r) = absurd (w.no_guess f)
    payload_fixed i j (takes c m w a s n) (unexpected r x) = true_false w.read r
    payload_fixed i j (takes c m w a s n) (bad_message r g bad x) = absurd (bad m w.message_is)
    payload_fixed i j (takes c m w a s n) (refuses o k r g is f x) = welcome_refused m o k w is f
    payload_fixed i j (takes {items = x} c m w a s n) (spends {items = y} d o v e q over) = absurd (over (numbered_same c d m o x y w v a e n))
    payload_fixed i j (skips e r) (takes d o v a q k) = absurd (v.no_guess e)
    payload_fixed i j (skips e r) (skips f q) = refl
    payload_fixed i j (skips e r) (unexpected q x) = true_false r q
    payload_fixed i j (skips e r) (bad_message q g bad x) = absurd (g e)
    payload_fixed i j (skips e r) (refuses o k q g is f x) = absurd (g e)
    payload_fixed i j (skips e r) (spends d o v a q over) = absurd (v.no_guess e)
    payload_fixed i j (unexpected r x) (takes d o v e q k) = true_false v.read r
    payload_fixed i j (unexpected r x) (skips f q) = true_false q r
    payload_fixed i j (unexpected r x) (unexpected q y) = refusal_fixed h i j _ (Some b) x y
    payload_fixed i j (unexpected r x) (bad_message q g bad y) = true_false q r
    payload_fixed i j (unexpected r x) (refuses o k q g is f y) = true_false q r
    payload_fixed i j (unexpected r x) (spends d o v e q over) = true_false v.read r
    payload_fixed i j (bad_message r g bad x) (takes d o v e q k) = absurd (bad o v.message_is)
    payload_fixed i j (bad_message r g bad x) (skips f q) = absurd (g f)
    payload_fixed i j (bad_message r g bad x) (unexpected q y) = true_false r q
    payload_fixed i j (bad_message r g bad x) (bad_message q t nor y) = refusal_fixed h i j _ (Some b) x y
    payload_fixed i j (bad_message r g bad x) (refuses o k q t is f y) = absurd (bad o is)
    payload_fixed i j (bad_message r g bad x) (spends d o v e q over) = absurd (bad o v.message_is)
    payload_fixed i j (refuses m l r g is f x) (takes d o v e q k) = welcome_refused o m l v is f
    payload_fixed i j (refuses m l r g is f x) (skips e q) = absurd (g e)
    payload_fixed i j (refuses m l r g is f x) (unexpected q y) = true_false r q
    payload_fixed i j (refuses m l r g is f x) (bad_message q t bad y) = absurd (bad m is)
    payload_fixed i j (refuses m l r g is f x) (refuses o k q t js e y) =
        let same : k ≡ l = same_refusal o m k l js is e f in
        refusal_fixed h i j l (Some b) x (subst (λ (z : Refusal). Refuses h z (Some b) j) same y)
    payload_fixed i j (refuses m l r g is f x) (spends d o v e q over) = welcome_refused o m l v is f
    payload_fixed i j (spends {items = x} c m w a s over) (takes {items = y} d o v e q k) = absurd (over (numbered_same d c o m y x v w e a k))
    payload_fixed i j (spends c m w a s over) (skips f r) = absurd (w.no_guess f)
    payload_fixed i j (spends c m w a s over) (unexpected r x) = true_false w.read r
    payload_fixed i j (spends c m w a s over) (bad_message r g bad x) = absurd (bad m w.message_is)
    payload_fixed i j (spends c m w a s over) (refuses o k r g is f x) = welcome_refused m o k w is f
    payload_fixed i j (spends c m w a s over) (spends d o v e q more) = refl

  -- ---- units

  outcome_fixed : (o : Outcome) (items others : List Item) → OnOutcome p side h o items → OnOutcome p side h o others → map fixed_part items ≡ map fixed_part others
  outcome_fixed o i j (other_line line) (other_line line2) = refl
  outcome_fixed o i j (version_line line) (version_line line2) = refl
  outcome_fixed o i j (refused_line why x) (refused_line why2 y) = refusal_fixed h i j why None x y
  outcome_fixed o i j (is_opened b x) (is_opened b2 y) = payload_fixed b i j x y
  outcome_fixed o i j (refused_packet why x) (refused_packet why2 y) = refusal_fixed h i j why None x y

  pub unit_fixed : AreLawful p → (unit : List ℕ) (items others : List Item) → OnUnit p side h unit items → OnUnit p side h unit others → AreAlike items others
  unit_fixed laws unit i j (reads o u x) (reads q v y) =
      let same : q ≡ o = unit_outcome p.crypto (stage p side h) unit q o laws.sealing v u in
      inl (outcome_fixed o i j x (subst (λ (z : Outcome). OnOutcome p side h z j) same y))
  unit_fixed laws unit i j (dies o u x m) y = inr (inl refl)
  unit_fixed laws unit i j (reads o u x) (dies q v y m) = inr (inr refl)

  -- ---- asks

  transport_ask_fixed : (ask : Ask) (items others : List Item) → TransportAsk p side h ask items → TransportAsk p side h ask others → map fixed_part items ≡ map fixed_part others
  transport_ask_fixed ask i j (service b) (service c) = refl
  transport_ask_fixed ask i j (rekey b) (rekey c) = refl
  transport_ask_fixed ask i j (disconnect d b) (disconnect d2 c) = refl

  authentication_ask_fixed : (ask : Ask) (items others : List Item) → AuthenticationAsk p side h ask items → AuthenticationAsk p side h ask others → map fixed_part items ≡ map fixed_part others
  authentication_ask_fixed ask i j (none u b) (none u2 c) = refl
  authentication_ask_fixed ask i j (password u w b) (password u2 w2 c) = refl
  authentication_ask_fixed ask i j (probe u a k b) (probe u2 a2 k2 c) = refl
  authentication_ask_fixed ask i j (sign u a k b) (sign u2 a2 k2 c) = refl

  connection_ask_fixed : (ask : Ask) (items others : List Item) → ConnectionAsk side h ask items → ConnectionAsk side h ask others → map fixed_part items ≡ map fixed_part others
  connection_ask_fixed ask i j (opens x k w d r b f) (opens y k2 w2 d2 r2 c g) = refl
  connection_ask_fixed ask i j (confirm x w d r b) (confirm x2 w2 d2 r2 c) = refl
  connection_ask_fixed ask i j (refuse x r b) (refuse x2 r2 c) = refl
  connection_ask_fixed ask i j (sends x t b) (sends x2 t2 c) = refl
  connection_ask_fixed ask i j (sends_extended x k t b) (sends_extended x2 k2 t2 c) = refl
  connection_ask_fixed ask i j (adjusts x n b) (adjusts x2 n2 c) = refl
  connection_ask_fixed ask i j (ends x b) (ends x2 c) = refl
  connection_ask_fixed ask i j (closes x b) (closes x2 c) = refl
  connection_ask_fixed ask i j (requests x n w r b) (requests x2 n2 w2 r2 c) = refl
  connection_ask_fixed ask i j (reply_yes x b) (reply_yes x2 c) = refl
  connection_ask_fixed ask i j (reply_no x b) (reply_no x2 c) = refl
  connection_ask_fixed ask i j (asks_all n w r b) (asks_all n2 w2 r2 c) = refl
  connection_ask_fixed ask i j (global_yes r b) (global_yes r2 c) = refl
  connection_ask_fixed ask i j (global_no r b) (global_no r2 c) = refl

  on_ask_fixed : (ask : Ask) (items others : List Item) → OnAsk p side h ask items → OnAsk p side h ask others → map fixed_part items ≡ map fixed_part others
  on_ask_fixed ask i j (ask_of_transport t) (ask_of_transport u) = transport_ask_fixed ask i j t u
  on_ask_fixed ask i j (ask_of_transport t) (ask_of_authentication u) = plain_or_authentication t u
  on_ask_fixed ask i j (ask_of_transport t) (ask_of_connection u) = plain_or_connection t u
  on_ask_fixed ask i j (ask_of_authentication t) (ask_of_transport u) = plain_or_authentication u t
  on_ask_fixed ask i j (ask_of_authentication t) (ask_of_authentication u) = authentication_ask_fixed ask i j t u
  on_ask_fixed ask i j (ask_of_authentication t) (ask_of_connection u) = authentication_or_connection {p = p} t u
  on_ask_fixed ask i j (ask_of_connection t) (ask_of_transport u) = plain_or_connection u t
  on_ask_fixed ask i j (ask_of_connection t) (ask_of_authentication u) = authentication_or_connection {p = p} u t
  on_ask_fixed ask i j (ask_of_connection t) (ask_of_connection u) = connection_ask_fixed ask i j t u

  pub ask_fixed : (ask : Ask) (items others : List Item) → AsksTurn p side h ask items → AsksTurn p side h ask others → AreAlike items others
  ask_fixed ask i j (ask_refused why alive c) (ask_refused why2 alive2 d) = inl (ap (λ (w : AskRefusal). AskRefused w ∷ Asked ask ∷ []) (one_some c d))
  ask_fixed ask i j (ask_refused why alive c) (answers alive2 d o s n) = none_some d c
  ask_fixed ask i j (ask_refused why alive c) (ask_spends alive2 d o s n) = none_some d c
  ask_fixed ask i j (answers alive c o s n) (ask_refused why alive2 d) = none_some c d
  ask_fixed ask i j (answers {items = x} alive c o s n) (answers {items = y} alive2 d o2 s2 n2) = inl (following x y (Asked ask) (Asked ask) (on_ask_fixed ask x y o o2) refl)
  ask_fixed ask i j (answers {items = x} alive c o s n) (ask_spends {items = y} alive2 d o2 s2 over) =
      absurd (over (numbered_alike x y (Asked ask ∷ h) (Asked ask ∷ h) (on_ask_fixed ask x y o o2) refl n))
  ask_fixed ask i j (ask_spends alive c o s over) (ask_refused why alive2 d) = none_some c d
  ask_fixed ask i j (ask_spends {items = x} alive c o s over) (answers {items = y} alive2 d o2 s2 n) =
      absurd (over (numbered_alike y x (Asked ask ∷ h) (Asked ask ∷ h) (on_ask_fixed ask y x o2 o) refl n))
  ask_fixed ask i j (ask_spends alive c o s over) (ask_spends alive2 d o2 s2 over2) = inl refl
  ask_fixed ask i j (is_dead e) (is_dead f) = inl refl
  ask_fixed ask i j (is_dead e) (ask_refused why alive d) = true_false e alive
  ask_fixed ask i j (is_dead e) (answers alive d o s n) = true_false e alive
  ask_fixed ask i j (is_dead e) (ask_spends alive d o s n) = true_false e alive
  ask_fixed ask i j (ask_refused why alive d) (is_dead e) = true_false e alive
  ask_fixed ask i j (answers alive d o s n) (is_dead e) = true_false e alive
  ask_fixed ask i j (ask_spends alive d o s n) (is_dead e) = true_false e alive
  ask_fixed ask i j (ask_dies alive c o s n) y = inr (inl refl)
  ask_fixed ask i j x (ask_dies alive c o s n) = inr (inr refl)

pub feed_fixed : (side : Side) (h : List Item) (cookie secret : List ℕ) (items others : List Item) → FeedsTurn side h cookie secret items → FeedsTurn side h cookie secret others → items ≡ others
feed_fixed side h c s i j (feeds k m) (feeds k2 m2) = refl
feed_fixed side h c s i j (feeds k m) (answers_false k2) = true_false k k2
feed_fixed side h c s i j (answers_false k) (feeds k2 m2) = true_false k2 k
feed_fixed side h c s i j (answers_false k) (answers_false k2) = refl
