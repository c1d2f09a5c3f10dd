-- What a client makes of the texts of a reply.
use Rattle.std.proofs.Common.{◌≡◌, ℕ, ◌≤◌, ◌<◌, Bool, true, false, ◌&&◌, ◌==◌, if◌then◌else◌, List, [], length, take, Option, Some, None, is_some, unwrap_or, refl, ap, sym, ◌∙◌, subst, arith, eqb-true}
use Rattle.std.proofs.lemmas.Bool.{false≢true}
use Rattle.std.specs.Prelude.{IsErrAnd, IsTrue, Result, Ok, Err}
use Rattle.ssh_model.specs.Protocol.Bounds.{largest_packet, numbers_of_epoch}
use Rattle.ssh_model.specs.State.TransportLayer.Kept.{inputs_with}
use Rattle.ssh_transport_machine.specs.Finishing.{HasChoice}
use Rattle.ssh_transport_machine.specs.Replies.{HostDue, HostIsBad, HostIsTrusted, IsBadReply, IsHostJudged, IsReply, IsReplyJudged, PointIsBad, TrustingParts}
use Rattle.ssh_transport_machine.specs.declared.machine.exchange_end.ExchangeEnd.{ExchangeEnd}
use Rattle.ssh_types.specs.declared.call_error.CallError.{CallError}
use Rattle.ssh_types.specs.declared.call_error.CallError.TheVariants as call
use Rattle.ssh_model.specs.declared.refusal.Refusal.{Refusal}
use Rattle.ssh_model.specs.declared.refusal.Refusal.TheVariants as refusals
use Rattle.ssh_model.specs.Protocol.Sessions.Parties.{Agreement}
use Rattle.ssh_transport_machine.specs.Finishing.{AreKeys, HasAnnouncement, IsAnnouncement, key_by, session_by}
use Rattle.ssh_model.specs.Protocol.KeyExchange.Choice.{Chosen}
use Rattle.ssh_model.specs.declared.side.Side.TheVariants.{Client}
use Rattle.ssh_model.specs.Protocol.Wire.Sealing.{Crypto}
use Rattle.ssh_model.specs.Laws.Sizes.{HasPayloadSize}
use Rattle.ssh_model.specs.State.TransportLayer.Kept.{IsChosen, Transport, is_good_point, own_point, shared_value, shared_with}
use Rattle.ssh_model.specs.Protocol.Wire.Message.{FitsContext, IsPayload, IsWrittenPayload, Msg.KexEcdhReply, Msg.Unknown, Msg, is_unknown, message_number}
use Rattle.ssh_model.specs.declared.side.Side.{Side}
use Rattle.ssh_model.specs.Protocol.KeyExchange.Exchange.{exchange_hash}
use Rattle.ssh_transport_machine.specs.Hashing.{inputs_in}
use Rattle.ssh_model.specs.Protocol.Wire.DataTypes.{number}
use Rattle.ssh_model.specs.Protocol.Side.{peer}
use Rattle.std.proofs.lemmas.List.{take_all}

-- ---- the point

none : (t : Bool) (o : Option (List ℕ)) → None ≡ (if t then o else None) → (t && is_some o) ≡ false
none true None e = refl
none true (Some x) e = absurd (cc e)
none false o e = refl

pub is_bad : {K : Type 0} (agreement : Agreement) (s : Transport K) (point : List ℕ) → HasChoice s → None ≡ (if length point == 32 then shared_with agreement s.underway.secret point else None) → PointIsBad agreement s point
is_bad agreement s point h e = record {
  chosen = _;
  chosen_is = record { theirs = h.theirs; read = h.read; chosen_is = refl };
  bad = none (length point == 32) (shared_with agreement s.underway.secret point) e;
}

good : {K : Type 0} (agreement : Agreement) (s : Transport K) (point shared : List ℕ) → length point ≡ 32 → shared_with agreement s.underway.secret point ≡ Some shared → is_good_point agreement s point ≡ true
good agreement s point shared size shares = rw (size, shares) refl

-- what a point shares that shares something
pub shared_if : (t : Bool) (o : Option (List ℕ)) (shared : List ℕ) → Some shared ≡ (if t then o else None) → o ≡ Some shared
shared_if true o shared e = sym e
shared_if false o shared e = absurd (cc e)

-- ---- the hash

number_is : {K : Type 0} (agreement : Agreement) (s : Transport K) (point shared : List ℕ) → shared_with agreement s.underway.secret point ≡ Some shared → number shared ≡ shared_value agreement s point
number_is agreement s point shared shares = sym (ap (λ (o : Option (List ℕ)). number (unwrap_or o [])) shares)

-- what is hashed with what an end has of an exchange is what its state says
pub hashed : {K : Type 0} (agreement : Agreement) (s : Transport K) (host_key point shared own copy hash : List ℕ) → s.side ≡ Client → shared_with agreement s.underway.secret point ≡ Some shared →
    own ≡ agreement.point s.underway.secret → length own ≡ 32 → copy ≡ point → hash ≡ exchange_hash (inputs_in s.side s host_key own copy (number shared)) → hash ≡ exchange_hash (inputs_with Client agreement s host_key point)
hashed agreement s host_key point shared own copy hash side shares own_is own_size copy_is hash_is =
    let few : length own ≤ 32 = omega (arith, own_size) in
    let point_is : own ≡ own_point agreement s = sym (ap (λ (t : List ℕ). take 32 t) (sym own_is) ∙ take_all 32 own few) in
    hash_is
    ∙ ap (λ (w : Side). exchange_hash (inputs_in w s host_key own copy (number shared))) side
    ∙ (λ i. exchange_hash (inputs_in Client s host_key (point_is i) (copy_is i) (number_is agreement s point shared shares i)))

-- ---- the host

module _ {K : Type 0} (parts : TrustingParts) (s : Transport K) (chosen given : Chosen) (algorithm host_key point signature shared own copy hash : List ℕ) (side : s.side ≡ Client)
    (size : length point ≡ 32) (shares : shared_with parts.agreement s.underway.secret point ≡ Some shared) (own_is : own ≡ parts.agreement.point s.underway.secret) (own_size : length own ≡ 32) (copy_is : copy ≡ point)
    (named : algorithm ≡ chosen.host) (hash_is : hash ≡ exchange_hash (inputs_in s.side s host_key own copy (number shared))) (chosen_is : IsChosen s chosen) where
  hash_same : hash ≡ exchange_hash (inputs_with Client parts.agreement s host_key point)
  hash_same = hashed parts.agreement s host_key point shared own copy hash side shares own_is own_size copy_is hash_is

  verdict : (b : Bool) → parts.trusts algorithm host_key hash signature ≡ b → parts.trusts chosen.host host_key (exchange_hash (inputs_with Client parts.agreement s host_key point)) signature ≡ b
  verdict b e = (λ i. parts.trusts (sym named i) host_key (sym hash_same i) signature) ∙ e

  pub host_bad : parts.trusts algorithm host_key hash signature ≡ false → HostIsBad parts s host_key point signature
  host_bad e = record { chosen = chosen; chosen_is = chosen_is; good = good parts.agreement s point shared size shares; untrusted = verdict false e }

  pub host_trusted : (c : Crypto K) (first second : K) (session : List ℕ) (announcement : Option (List ℕ)) → parts.trusts algorithm host_key hash signature ≡ true → given ≡ chosen →
      AreKeys c s chosen (number shared) hash first second session → IsAnnouncement s announcement → HostIsTrusted c parts s host_key point signature given first second session announcement
  host_trusted c first second session announcement e same keys due =
      subst (λ (x : Chosen). HostIsTrusted c parts s host_key point signature x first second session announcement) (sym same)
      (record {
        chosen_is = chosen_is;
        good = good parts.agreement s point shared size shares;
        trusted = verdict true e;
        keys = subst (λ (n : ℕ). AreKeys c s chosen n (exchange_hash (inputs_with Client parts.agreement s host_key point)) first second session) (number_is parts.agreement s point shared shares)
            (subst (λ (h : List ℕ). AreKeys c s chosen (number shared) h first second session) hash_same keys);
        announcement_is = due;
      })

  pub host_due : (c : Crypto K) → parts.trusts algorithm host_key hash signature ≡ true → given ≡ chosen → HasAnnouncement s → HostDue c parts s host_key point signature
  host_due c e same a = record {
    chosen = given;
    own = key_by c s.side chosen (number shared) hash (session_by s hash);
    theirs = key_by c (peer s.side) chosen (number shared) hash (session_by s hash);
    session = session_by s hash;
    announcement = a.announcement;
    is = host_trusted c _ _ _ a.announcement e same (record { own_is = refl; theirs_is = refl; session_is = refl }) a.announcement_is;
  }

-- of a host that is trusted and whose keys got no memory
pub lacks_memory : {K : Type 0} (c : Crypto K) (parts : TrustingParts) (s : Transport K) (host_key point signature : List ℕ) (r : Result (Option (ExchangeEnd K)) (CallError Refusal)) → IsErrAnd r (λ e. e ≡ call.Memory) → HostDue c parts s host_key point signature →
    s.sending.count < numbers_of_epoch → IsHostJudged c parts s host_key point signature r
lacks_memory c parts s host_key point signature (Ok x) e due room = absurd e
lacks_memory c parts s host_key point signature (Err call.Memory) e due room = (due, room)
lacks_memory c parts s host_key point signature (Err (call.Refused why)) e due room = absurd (cc e)

-- ---- the texts

-- what has the number of a reply is one
reply_at : (m : Msg) → FitsContext false m → (message_number m == 31) ≡ true → IsReply m
reply_at (KexEcdhReply k_s q_s signature) fits e = tt
reply_at (Unknown n) fits e = absurd (cc (subst (λ (k : ℕ). IsTrue (is_unknown false k)) (eqb-true n 31 e) fits))
reply_at _ fits e = absurd (false≢true e)

pub is_reply : (m : Msg) → FitsContext false m → message_number m ≡ 31 → IsReply m
is_reply m fits e = reply_at m fits (ap (λ (n : ℕ). n == 31) e)

pub key_fits : (host_key point signature payload : List ℕ) (message : Msg) → ((m : Msg) (bytes : List ℕ) → IsWrittenPayload m bytes → HasPayloadSize m bytes) → KexEcdhReply host_key point signature ≡ message →
    IsPayload false message payload → length payload ≤ largest_packet → length host_key ≤ largest_packet
key_fits host_key point signature payload message sizes is read most =
    let here : IsPayload false (KexEcdhReply host_key point signature) payload = subst (λ (m : Msg). IsPayload false m payload) (sym is) read in
    let size : HasPayloadSize (KexEcdhReply host_key point signature) payload = sizes (KexEcdhReply host_key point signature) payload here.row in
    omega (arith, size, most)

module _ {K : Type 0} (c : Crypto K) (parts : TrustingParts) (s : Transport K) (payload host_key point signature : List ℕ) (message : Msg) (read : IsPayload false message payload) (is : KexEcdhReply host_key point signature ≡ message) where
  here : IsPayload false (KexEcdhReply host_key point signature) payload
  here = subst (λ (m : Msg). IsPayload false m payload) (sym is) read

  refused : (why : Refusal) → IsHostJudged c parts s host_key point signature (Err (call.Refused why)) → IsBadReply parts s payload why
  refused refusals.BadPoint x = record { host_key = host_key; point = point; signature = signature; read = here; is = x }
  refused refusals.BadHost x = record { host_key = host_key; point = point; signature = signature; read = here; is = x }
  refused _ x = absurd x

  pub shown : (r : Result (Option (ExchangeEnd K)) (CallError Refusal)) → IsHostJudged c parts s host_key point signature r → IsReplyJudged c parts s payload r
  shown (Ok None) x = record { shows = record { host_key = host_key; point = point; signature = signature; read = here; due = x.due }; none_left = x.none_left }
  shown (Ok (Some made)) x = (record { host_key = host_key; point = point; signature = signature; read = here; is = x.0 }, x.1)
  shown (Err call.Memory) x = (record { host_key = host_key; point = point; signature = signature; read = here; due = x.0 }, x.1)
  shown (Err (call.Refused why)) x = refused why x
