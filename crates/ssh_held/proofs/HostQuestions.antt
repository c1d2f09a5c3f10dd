-- What the reply of a server asks, and what settles it.
use Rattle.std.proofs.Common.{◌≡◌, ◌||◌, Bool, false, true, not, ℕ, List, [], ◌∷◌, ◌++◌, IfSome, IsSome, None, Option, Some, is_some, unwrap_or, ap, refl, subst, sym, ◌∙◌}
use Rattle.ssh_model.specs.Protocol.KeyExchange.Exchange.{exchange_hash}
use Rattle.ssh_model.specs.Protocol.Sessions.Parties.{Agreement}
use Rattle.ssh_model.specs.Protocol.Wire.Message.{IsPayload, Msg, Msg.KexEcdhReply}
use Rattle.ssh_model.specs.Protocol.Wire.Sealing.{Crypto}
use Rattle.ssh_model.specs.State.TransportLayer.Kept.{Transport, inputs_with}
use Rattle.ssh_model.specs.declared.side.Side.TheVariants.{Client}
use Rattle.ssh_transport_machine.specs.Peeking.{AwaitsHashed, AwaitsHost, Peeks}
use Rattle.ssh_transport_machine.specs.State.{State}
use Rattle.ssh_types.specs.Values.{owned_text}
use Rattle.ssh_types.specs.declared.name_buf.NameBuf.{NameBuf}
use Rattle.ssh_held.specs.HeldHosts.{HasReply, IsHostWanted, IsUnsaid, signed_with}
use Rattle.ssh_held.specs.Hosts.{is_on_host, said_of_host}
use Rattle.ssh_held.specs.declared.host_book.HostVerdict.{HostVerdict}
use Rattle.ssh_held.specs.declared.next_reply.HostWanted.{HostWanted}
use Rattle.ssh_held.proofs.Finding.{found_before, found_last, found_then}

-- ---- the texts of a reply

abbrev pub key_in : Msg → List ℕ
key_in (KexEcdhReply key point signature) = key
key_in _ = []

abbrev point_in : Msg → List ℕ
point_in (KexEcdhReply key point signature) = point
point_in _ = []

abbrev pub signature_in : Msg → List ℕ
signature_in (KexEcdhReply key point signature) = signature
signature_in _ = []

-- a payload has one message
abbrev pub OneMessage : Type 0
OneMessage = (m n : Msg) (payload : List ℕ) → IsPayload false m payload → IsPayload false n payload → m ≡ n

-- and one hash
pub one_hash : OneMessage → {K : Type 0} (agreement : Agreement) (s : Transport K) (payload one other : List ℕ) →
    AwaitsHashed agreement s payload one → AwaitsHashed agreement s payload other → one ≡ other
one_hash only agreement s payload one other x y =
    let same = only (KexEcdhReply x.is.host_key x.is.point x.is.signature) (KexEcdhReply y.is.host_key y.is.point y.is.signature) payload
    x.is.read y.is.read in
    x.is.hash_is ∙ ap (λ (m : Msg). exchange_hash (inputs_with Client agreement s (key_in m) (point_in m))) same ∙ sym y.is.hash_is

-- ---- what settles a question

pub said_settles : (asks said : Bool) → said ≡ true → (not asks || said) ≡ true
said_settles true said e = e
said_settles false said e = refl

module _ {K : Type 0} (only : OneMessage) (agreement : Agreement) (knows : List ℕ → Bool) (s : Transport K) (verdicts : List HostVerdict)
    (verdict : HostVerdict) (payload algorithm key signature : List ℕ) where
  -- an answer settles its question, and a yes to a host key may ask for its signature
  pub question_settled : (hash next : Option (List ℕ)) → IsUnsaid agreement knows s verdicts payload algorithm key signature hash →
      is_on_host algorithm key (signed_with hash signature) verdict.asked ≡ true →
      IsUnsaid agreement knows s (verdicts ++ (verdict ∷ [])) payload algorithm key signature next →
      (hash ≡ None) × (verdict.accepts ≡ true) × IsSome next
  question_settled None None x about y =
      absurd (found_last (λ (v : HostVerdict). is_on_host algorithm key None v.asked) (λ (v : HostVerdict). v.accepts) verdicts verdict about y.unsaid)
  question_settled None (Some h) x about y =
      let given = found_then (λ (v : HostVerdict). is_on_host algorithm key None v.asked) (λ (v : HostVerdict). v.accepts) verdicts verdict x.unsaid about in
      (refl, ap (λ (o : Option Bool). unwrap_or o false) (sym given ∙ y.asks.granted), refl)
  question_settled (Some h) None x about y =
      let before = found_before (λ (v : HostVerdict). is_on_host algorithm key None v.asked) (λ (v : HostVerdict). v.accepts) verdicts (verdict ∷ [])
      (ap (λ (o : Option Bool). is_some o) x.asks.granted) in
      absurd (cc (sym y.unsaid ∙ before ∙ x.asks.granted))
  question_settled (Some h) (Some g) x about y =
      let same = one_hash only agreement s payload h g x.asks.hashed y.asks.hashed in
      let unsaid : said_of_host (verdicts ++ (verdict ∷ [])) algorithm key (signed_with (Some h) signature) ≡ None =
      ap (λ (a : List ℕ). said_of_host (verdicts ++ (verdict ∷ [])) algorithm key (signed_with (Some a) signature)) same ∙ y.unsaid in
      absurd (found_last (λ (v : HostVerdict). is_on_host algorithm key (signed_with (Some h) signature) v.asked) (λ (v : HostVerdict). v.accepts)
      verdicts verdict about unsaid)

-- What a reply asks that was looked at is wanted.
pub wanted_by : {K : Type 0} (c : Crypto K) (agreement : Agreement) (knows : List ℕ → Bool) (machine : State K) (verdicts : List HostVerdict)
    (bytes payload shown : List ℕ) (algorithm : NameBuf) (key signature : List ℕ) → shown ≡ payload → Peeks c machine bytes payload →
    AwaitsHost machine.kept (owned_text algorithm) → HasReply payload key signature → (result : Option HostWanted) →
    IfSome result (λ wanted. wanted.algorithm ≡ algorithm) → IfSome result (λ wanted. IsUnsaid agreement knows machine.kept verdicts shown
    (owned_text algorithm) key signature wanted.hash) → IfSome result (λ wanted. IsHostWanted c agreement knows machine verdicts bytes payload
    (owned_text wanted.algorithm) wanted.hash)
wanted_by c agreement knows machine verdicts bytes payload shown algorithm key signature is peeks awaited has None same unsaid = tt
wanted_by c agreement knows machine verdicts bytes payload shown algorithm key signature is peeks awaited has (Some wanted) same unsaid =
    subst (λ (a : NameBuf). IsHostWanted c agreement knows machine verdicts bytes payload (owned_text a) wanted.hash) (sym same)
    (record {
      peeks = peeks;
      awaited = awaited;
      reply = record { key = key; has = record { point = has.point; signature = signature; is = has.is } };
      question = subst (λ (b : List ℕ). IsUnsaid agreement knows machine.kept verdicts b (owned_text algorithm) key signature wanted.hash) is unsaid;
    })
