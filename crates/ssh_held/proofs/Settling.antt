-- The next packet of an end is one packet, with one payload that is one message. So an answer on what it asks settles that.
use Rattle.std.proofs.Common.{◌≡◌, ◌≤◌, ◌&&◌, ℕ, Bool, false, true, List, [], ◌∷◌, ◌++◌, IsSome, None, Some, Option, append-nil, append_assoc, arith, codes, cond, drop, inl, inr, is_some, not, take, unwrap_or, ap, refl, subst, sym, ◌∙◌}
use Rattle.std.proofs.lemmas.Bool.{cases_lt, false≢true}
use Rattle.std.proofs.lemmas.List.{take-append-drop, take-take}
use Rattle.ssh_model.specs.Protocol.Authentication.Requests.{signed_text}
use Rattle.ssh_model.specs.Protocol.KeyExchange.Choice.{Chosen}
use Rattle.ssh_model.specs.Protocol.Sessions.Parties.{Agreement, lists_of}
use Rattle.ssh_model.specs.Protocol.Wire.Message.{IsPayload, Method, Method.NoMethod, Method.Other, Method.Password, Method.Publickey, Msg, Msg.KexEcdhReply, Msg.KexInit}
use Rattle.ssh_model.specs.Protocol.Wire.Message.{Msg.UserauthRequest}
use Rattle.ssh_model.specs.Protocol.Wire.Outcome.{Outcome, Outcome.Opens}
use Rattle.ssh_model.specs.Protocol.Wire.Sealing.{Crypto}
use Rattle.ssh_model.specs.Protocol.Wire.Unit.{PacketUnit}
use Rattle.ssh_model.specs.State.TransportLayer.Kept.{Transport, choice_with, own_offer}
use Rattle.ssh_transport_machine.specs.Peeking.{AwaitsHost, Peeks}
use Rattle.ssh_transport_machine.specs.State.{State}
use Rattle.ssh_held.specs.Book.{awaits_signature, is_about, is_about_signature, is_next, is_on_signature, is_over, is_said, said, verdict_on}
use Rattle.ssh_held.specs.Held.{IsWanted}
use Rattle.ssh_held.specs.HeldHosts.{IsHostWanted, IsUnsaid, signed_with}
use Rattle.ssh_held.specs.Hosts.{is_on_host}
use Rattle.ssh_held.specs.declared.book.Verdict.{Verdict}
use Rattle.ssh_held.specs.declared.host_book.HostVerdict.{HostVerdict}
use Rattle.ssh_held.proofs.Finding.{first_of, found_before, found_last, last_found, seen_some}
use Rattle.ssh_held.proofs.HostQuestions.{key_in, question_settled, signature_in}

-- ---- one packet

-- no packet is a prefix of another, and one has one outcome
pub record Alone {K : Type 0} (c : Crypto K) (key : Option K) (number count : ℕ) : Type 0 where
  pub alone : (unit more other : List ℕ) (a b : Outcome) → PacketUnit c key number count unit a → PacketUnit c key number count other b →
      unit ++ more ≡ other → more ≡ []
  pub outcome : (unit : List ℕ) (a b : Outcome) → PacketUnit c key number count unit a → PacketUnit c key number count unit b → a ≡ b

module _ {K : Type 0} {c : Crypto K} {key : Option K} {number count : ℕ} (l : Alone c key number count) (held bytes : List ℕ) where
  longer : (m n : ℕ) → m ≤ n → (held ++ take m bytes) ++ drop m (take n bytes) ≡ held ++ take n bytes
  longer m n h =
      append_assoc held (take m bytes) (drop m (take n bytes))
      ∙ ap (λ (x : List ℕ). held ++ (x ++ drop m (take n bytes))) (sym (take-take m n bytes h))
      ∙ ap (λ (x : List ℕ). held ++ x) (take-append-drop m (take n bytes))

  same_to : (m n : ℕ) (a b : Outcome) → m ≤ n → PacketUnit c key number count (held ++ take m bytes) a →
      PacketUnit c key number count (held ++ take n bytes) b → held ++ take m bytes ≡ held ++ take n bytes
  same_to m n a b h u v =
      let none = l.alone (held ++ take m bytes) (drop m (take n bytes)) (held ++ take n bytes) a b u v (longer m n h) in
      sym (append-nil (held ++ take m bytes)) ∙ ap (λ (x : List ℕ). (held ++ take m bytes) ++ x) (sym none) ∙ longer m n h

  one_outcome : (m n : ℕ) (a b : Outcome) → PacketUnit c key number count (held ++ take m bytes) a →
      PacketUnit c key number count (held ++ take n bytes) b → a ≡ b
  one_outcome m n a b u v = elim (cases_lt m n) [
    | inl less ↦ l.outcome (held ++ take m bytes) a b u
        (subst (λ (x : List ℕ). PacketUnit c key number count x b) (sym (same_to m n a b (omega (arith, less)) u v)) v)
    | inr more ↦ sym (l.outcome (held ++ take n bytes) b a v
        (subst (λ (x : List ℕ). PacketUnit c key number count x a) (sym (same_to n m b a (omega (arith, more)) v u)) u))
  ]

-- ---- what an answer leaves

-- Once its first question is answered, a request can only await its signature.
awaited : (some awaits : Bool) → some ≡ true → (some && not awaits) ≡ false → awaits ≡ true
awaited true true e unsaid = refl
awaited true false e unsaid = absurd (cc unsaid)
awaited false awaits e unsaid = absurd (cc e)

granted_some : (said_on : Option Bool) (knows there : Bool) → (unwrap_or said_on false && not knows && not there) ≡ true →
    is_some said_on ≡ true
granted_some (Some b) knows there e = refl
granted_some None knows there e = absurd (cc e)

-- Once its signature is answered, it awaits nothing.
none_awaited : (some granted knows there : Bool) → some ≡ true → there ≡ true → (some && not (granted && not knows && not there)) ≡ true
none_awaited true true true true a b = refl
none_awaited true true false true a b = refl
none_awaited true false knows true a b = refl
none_awaited some granted knows false a b = absurd (cc b)
none_awaited false granted knows there a b = absurd (cc a)

module _ (knows : List ℕ → Bool) (verdicts : List Verdict) (verdict : Verdict) (session user : List ℕ) where
  signature_answered : (method : Method) → awaits_signature knows verdicts user method ≡ true →
      is_about_signature session user method verdict.asked ≡ true → is_said knows (verdicts ++ (verdict ∷ [])) user method ≡ true
  signature_answered (Publickey algorithm key (Some signature)) awaits about =
      let later = verdicts ++ (verdict ∷ []) in
      let here = granted_some (said verdicts user (Publickey algorithm key None)) (knows algorithm)
      (is_some (verdict_on verdicts algorithm key signature)) awaits in
      let before = found_before (λ (v : Verdict). is_about user (Publickey algorithm key None) v.asked) (λ (v : Verdict). v.accepts) verdicts
      (verdict ∷ []) here in
      none_awaited (is_some (said later user (Publickey algorithm key None)))
      (unwrap_or (said later user (Publickey algorithm key None)) false) (knows algorithm)
      (is_some (verdict_on later algorithm key signature)) (ap (λ (o : Option Bool). is_some o) before ∙ here)
      (last_found (λ (v : Verdict). is_on_signature algorithm key signature v.asked) verdicts verdict
      (first_of (is_on_signature algorithm key signature verdict.asked)
      (is_over (signed_text session user (codes "ssh-connection") algorithm key) verdict.asked) about))
  signature_answered (Publickey algorithm key None) awaits about = absurd (cc about)
  signature_answered NoMethod awaits about = absurd (cc about)
  signature_answered (Password word new) awaits about = absurd (cc about)
  signature_answered (Other name rest) awaits about = absurd (cc about)

  pub what_is_left : (method : Method) → is_next knows verdicts session user method verdict.asked ≡ true →
      is_said knows (verdicts ++ (verdict ∷ [])) user method ≡ false →
      (awaits_signature knows verdicts user method ≡ false) × (awaits_signature knows (verdicts ++ (verdict ∷ [])) user method ≡ true)
  what_is_left method next unsaid = by (awaits_signature knows verdicts user method) refl next
    where
      by : (awaits : Bool) → awaits_signature knows verdicts user method ≡ awaits →
          cond awaits (is_about_signature session user method verdict.asked) (is_about user method verdict.asked) ≡ true →
          (awaits_signature knows verdicts user method ≡ false) × (awaits_signature knows (verdicts ++ (verdict ∷ [])) user method ≡ true)
      by true is about = absurd (false≢true (sym unsaid ∙ signature_answered method is about))
      by false is about = (
        is,
        awaited (is_some (said (verdicts ++ (verdict ∷ [])) user method))
            (awaits_signature knows (verdicts ++ (verdict ∷ [])) user method)
            (seen_some (λ (v : Verdict). v.accepts) _ (last_found (λ (v : Verdict). is_about user method v.asked) verdicts verdict about)) unsaid,
      )

payload_in : Outcome → List ℕ
payload_in (Opens payload) = payload
payload_in _ = []

-- the laws of packets and of messages
pub record SettlingLaws {K : Type 0} (c : Crypto K) : Type 0 where
  pub alone : (key : Option K) (number count : ℕ) → Alone c key number count
  pub one : (m n : Msg) (payload : List ℕ) → IsPayload false m payload → IsPayload false n payload → m ≡ n

module _ {K : Type 0} {c : Crypto K} (l : SettlingLaws c) (machine : State K) (bytes : List ℕ) where
  one_payload : (one other : List ℕ) → Peeks c machine bytes one → Peeks c machine bytes other → one ≡ other
  unfolding payload_in
  one_payload one other x y =
      let d = machine.receiver.direction in
      ap (λ (o : Outcome). payload_in o) (one_outcome (l.alone d.key d.number d.count) machine.receiver.buffered bytes x.opens.used
      y.opens.used (Opens one) (Opens other) x.opens.opens y.opens.opens)

  one_message : (one other : List ℕ) (m n : Msg) → Peeks c machine bytes one → Peeks c machine bytes other → IsPayload false m one →
      IsPayload false n other → m ≡ n
  one_message one other m n x y is also =
      l.one m n one is (subst (λ (b : List ℕ). IsPayload false n b) (sym (one_payload one other x y)) also)

  -- ---- requests

  user_in : Msg → List ℕ
  user_in (UserauthRequest user service method) = user
  user_in _ = []

  method_in : Msg → Method
  method_in (UserauthRequest user service method) = method
  method_in _ = NoMethod

  pub request_settled : (knows : List ℕ → Bool) (verdicts : List Verdict) (verdict : Verdict) (session payload other : List ℕ) →
      (x : IsWanted c machine knows verdicts bytes payload) →
      is_next knows verdicts session x.request.user x.request.method verdict.asked ≡ true →
      (y : IsWanted c machine knows (verdicts ++ (verdict ∷ [])) bytes other) →
      (awaits_signature knows verdicts x.request.user x.request.method ≡ false)
      × (awaits_signature knows (verdicts ++ (verdict ∷ [])) y.request.user y.request.method ≡ true)
  unfolding user_in method_in
  request_settled knows verdicts verdict session payload other x next y =
      let same = one_message payload other (UserauthRequest x.request.user x.request.service x.request.method)
      (UserauthRequest y.request.user y.request.service y.request.method) x.peeks y.peeks x.request.is y.request.is in
      let unsaid : is_said knows (verdicts ++ (verdict ∷ [])) x.request.user x.request.method ≡ false =
      ap (λ (m : Msg). is_said knows (verdicts ++ (verdict ∷ [])) (user_in m) (method_in m)) same ∙ y.unsaid in
      let left = what_is_left knows verdicts verdict session x.request.user x.request.method next unsaid in
      (left.0, ap (λ (m : Msg). awaits_signature knows (verdicts ++ (verdict ∷ [])) (user_in m) (method_in m)) (sym same) ∙ left.1)

  -- ---- host keys

  -- the host's algorithm that a KEXINIT of the peer gives
  algorithm_in : Transport K → Msg → List ℕ
  algorithm_in s (KexInit theirs) = (choice_with s.side (lists_of (own_offer s.settings s.side)) (lists_of theirs)).host
  algorithm_in s _ = []

  one_algorithm : (s : Transport K) (one other : List ℕ) → AwaitsHost s one → AwaitsHost s other → one ≡ other
  unfolding algorithm_in
  one_algorithm s one other x y =
      sym x.algorithm_is ∙ ap (λ (c : Chosen). c.host) x.chosen_is.chosen_is
      ∙ ap (λ (m : Msg). algorithm_in s m) (l.one (KexInit x.chosen_is.theirs) (KexInit y.chosen_is.theirs) s.underway.theirs x.chosen_is.read
      y.chosen_is.read)
      ∙ sym (ap (λ (c : Chosen). c.host) y.chosen_is.chosen_is) ∙ y.algorithm_is

  pub host_settled : (agreement : Agreement) (knows : List ℕ → Bool) (verdicts : List HostVerdict) (verdict : HostVerdict)
      (payload other algorithm later : List ℕ) (hash next : Option (List ℕ)) →
      (x : IsHostWanted c agreement knows machine verdicts bytes payload algorithm hash) →
      is_on_host algorithm x.reply.key (signed_with hash x.reply.has.signature) verdict.asked ≡ true →
      IsHostWanted c agreement knows machine (verdicts ++ (verdict ∷ [])) bytes other later next →
      (hash ≡ None) × (verdict.accepts ≡ true) × IsSome next
  host_settled agreement knows verdicts verdict payload other algorithm later hash next x about y =
      let same = one_message payload other (KexEcdhReply x.reply.key x.reply.has.point x.reply.has.signature)
      (KexEcdhReply y.reply.key y.reply.has.point y.reply.has.signature) x.peeks y.peeks x.reply.has.is y.reply.has.is in
      let more = verdicts ++ (verdict ∷ []) in
      let there = subst (λ (a : List ℕ). IsUnsaid agreement knows machine.kept more other a y.reply.key y.reply.has.signature next)
      (sym (one_algorithm machine.kept algorithm later x.awaited y.awaited)) y.question in
      let here = subst (λ (b : List ℕ). IsUnsaid agreement knows machine.kept more b algorithm y.reply.key y.reply.has.signature next)
      (sym (one_payload payload other x.peeks y.peeks)) there in
      let question = subst (λ (m : Msg). IsUnsaid agreement knows machine.kept more payload algorithm (key_in m) (signature_in m) next)
      (sym same) here in
      question_settled (λ m n b. l.one m n b) agreement knows machine.kept verdicts verdict payload algorithm x.reply.key x.reply.has.signature hash next
      x.question about question
