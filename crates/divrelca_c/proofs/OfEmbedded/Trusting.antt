-- A client whose program answers in its own time: which host keys are known, and that an answer leaves what was trusted.
use Rattle.std.proofs.Common.{◌≡◌, ℕ, Bool, true, false, ◌&&◌, ◌||◌, cond, List, [], ◌∷◌, ◌++◌, IfSome, None, Option, Some, option_map, unwrap_or, refl, ap, sym, subst, ◌∙◌}
use Rattle.std.proofs.lemmas.Bool.{and_parts}
use Rattle.ssh_model.specs.Laws.Supplied.{AgreeOnAnswered, supplied_of}
use Rattle.ssh_model.specs.Protocol.KeyExchange.Exchange.{exchange_hash}
use Rattle.ssh_model.specs.Protocol.KeyExchange.Exchanges.{choice, exchange}
use Rattle.ssh_model.specs.Protocol.Sessions.AnyPeer.{VerifiesEach}
use Rattle.ssh_model.specs.Protocol.Sessions.Epochs.{epoch}
use Rattle.ssh_model.specs.Protocol.Sessions.Items.{Item, Item.Sent, has_died, sent}
use Rattle.ssh_model.specs.Protocol.Sessions.Parties.{Agreement, Parties}
use Rattle.ssh_model.specs.Protocol.Sessions.Turns.{EndRun}
use Rattle.ssh_model.specs.Protocol.Wire.DataTypes.{is_text}
use Rattle.ssh_model.specs.Protocol.Wire.Message.{IsPayload, Msg.KexEcdhReply, Msg.NewKeys}
use Rattle.ssh_model.specs.Protocol.Wire.Sealing.{Crypto}
use Rattle.ssh_model.specs.declared.side.Side.{Side}
use Rattle.ssh_model.specs.declared.side.Side.TheVariants.{Client}
use Rattle.ssh_transport_machine.specs.Peeking.{AwaitsHost, Peeks}
use Rattle.ssh_transport_machine.specs.Replies.{TrustingParts, Trusts}
use Rattle.ssh_transport_machine.specs.State.{State}
use Rattle.ssh_end_machine.specs.Asking.{UserSignatures}
use Rattle.ssh_end_machine.specs.Layers.{Layers}
use Rattle.ssh_end_machine.specs.Supplying.{ClientStandsAt}
use Rattle.ssh_held.specs.HeldHosts.{IsHostSettled, IsHostSettled.foreseen, IsHostSettled.unawaited, IsHostSettled.unforeseen, signed_with}
use Rattle.ssh_held.specs.Hosts.{Signed, is_granted, is_host_settled, said_of_host, signed_in, trust_by, trusting}
use Rattle.ssh_held.specs.declared.host_book.HostVerdict.{HostVerdict}
use Rattle.ssh_held.specs.declared.host_key.HostSignature.{HostSignature}
use Rattle.divrelca.specs.Parts.Ed25519.{has_host_signed, has_signed, is_name, is_one_of, is_trusted_by_any, key_blob}
use Rattle.divrelca_c.specs.Embedded.Hosts.{TrustsEachByProgram, is_known, trusts_of}
use Rattle.divrelca_c.specs.declared.embedded.hosts.TrustedHosts.{TrustedHosts}

either : (a b c d : Bool) → (a ≡ true → c ≡ true) → (b ≡ true → d ≡ true) → (a || b) ≡ true → (c || d) ≡ true
either true b c d one other e = first c d (one refl)
  where
    first : (x y : Bool) → x ≡ true → (x || y) ≡ true
    first true y h = refl
    first false y h = absurd (cc h)
either false b c d one other e = second c d (other e)
  where
    second : (x y : Bool) → y ≡ true → (x || y) ≡ true
    second true y h = refl
    second false y h = h

-- ---- what is known

left_of : (a b : Bool) → a ≡ true → (a || b) ≡ true
left_of true b e = refl
left_of false b e = absurd (cc e)

right_of : (a b : Bool) → b ≡ true → (a || b) ≡ true
right_of true b e = refl
right_of false b e = e

-- what the program said something on is known
pub said_known : {K : Type 0} (c : Crypto K) (agreement : Agreement) (machine : State K) (hosts : TrustedHosts) (bytes : List ℕ) →
    IsHostSettled c agreement machine (is_host_settled is_name hosts.book.list.items) bytes → IsHostSettled c agreement machine (is_known hosts) bytes
said_known c agreement machine hosts bytes (unawaited none) = unawaited none
said_known c agreement machine hosts bytes (unforeseen none) = unforeseen none
said_known c agreement machine hosts bytes (foreseen payload algorithm peeks awaits asked) = foreseen payload algorithm peeks awaits
    (λ probing key point signature is.
    let known = λ (signed : Option Signed). left_of (is_host_settled is_name hosts.book.list.items algorithm key signed)
    (is_one_of hosts.keys.keys.items algorithm key) in
    let x = asked probing key point signature is in
    record {
      on_key = known None x.on_key;
      on_signature = λ hash at. known (Some (record { hash = hash; signature = signature })) (x.on_signature hash at);
    })

-- a key that the client was made with is known
pub made_known : {K : Type 0} (c : Crypto K) (agreement : Agreement) (machine : State K) (hosts : TrustedHosts)
    (bytes payload algorithm found : List ℕ) → Peeks c machine bytes payload → AwaitsHost machine.kept algorithm →
    ((probing : Bool) (key point signature : List ℕ) → IsPayload probing (KexEcdhReply key point signature) payload → found ≡ key) →
    is_one_of hosts.keys.keys.items algorithm found ≡ true → IsHostSettled c agreement machine (is_known hosts) bytes
made_known c agreement machine hosts bytes payload algorithm found peeks awaits only one = foreseen payload algorithm peeks awaits
    (λ probing key point signature is.
    let known = λ (signed : Option Signed). right_of (is_host_settled is_name hosts.book.list.items algorithm key signed)
    (is_one_of hosts.keys.keys.items algorithm key)
    (ap (λ k. is_one_of hosts.keys.keys.items algorithm k) (sym (only probing key point signature is)) ∙ one) in
    record { on_key = known None; on_signature = λ hash at. known (Some (record { hash = hash; signature = signature })) })

-- ---- what is shown

-- A signature that is shown beside the hash is that of the reply.
pub shown_so : (hash : Option (List ℕ)) (signed : Option HostSignature) (given signature : List ℕ) →
    hash ≡ option_map (λ shown. shown.hash.now) signed → IfSome signed (λ shown. shown.signature.now ≡ given) → given ≡ signature →
    option_map signed_in signed ≡ signed_with hash signature
shown_so hash None given signature is same text = ap (λ (o : Option (List ℕ)). signed_with o signature) (sym is)
shown_so hash (Some shown) given signature is same text =
    ap (λ (s : List ℕ). Some (record { hash = shown.hash.now; signature = s })) (same ∙ text)
    ∙ ap (λ (o : Option (List ℕ)). signed_with o signature) (sym is)

-- ---- one verdict more

pub trusted_still : (hosts : TrustedHosts) (more : List HostVerdict)
    (later : (knows : List ℕ → Bool) (signatures : Trusts) (verdicts more : List HostVerdict) (algorithm key hash signature : List ℕ) →
    trust_by knows signatures verdicts algorithm key hash signature ≡ true →
    trust_by knows signatures (verdicts ++ more) algorithm key hash signature ≡ true)
    (algorithm key hash signature : List ℕ) → trusts_of hosts algorithm key hash signature ≡ true →
    (is_trusted_by_any hosts.keys.keys.items algorithm key hash signature
    || trust_by is_name has_host_signed (hosts.book.list.items ++ more) algorithm key hash signature) ≡ true
trusted_still hosts more later algorithm key hash signature =
    either (is_trusted_by_any hosts.keys.keys.items algorithm key hash signature)
    (trust_by is_name has_host_signed hosts.book.list.items algorithm key hash signature) _ _ (λ e. e)
    (later is_name has_host_signed hosts.book.list.items more algorithm key hash signature)

module _ {K : Type 0} (exchanged : (p : Parties K) (c : Crypto K) (agreement : Agreement) (one other : Trusts) (signature : UserSignatures)
    (h : List Item) (machine : State K) (layers : Layers) → ClientStandsAt p c agreement one signature h machine layers →
    machine.kept.dead ≡ false → AgreeOnAnswered p (record (supplied_of p) { trusts = other }) h →
    ClientStandsAt (record p { trusts = other }) c agreement other signature h machine layers)
    (widened : (p : Parties K) (trusts : Trusts) → ((algorithm key hash signature : List ℕ) → p.trusts algorithm key hash signature ≡ true →
    trusts algorithm key hash signature ≡ true) → (side : Side) (h : List Item) → EndRun p side h → has_died h ≡ false →
    AgreeOnAnswered p (record (supplied_of p) { trusts = trusts }) h)
    (later : (knows : List ℕ → Bool) (signatures : Trusts) (verdicts more : List HostVerdict) (algorithm key hash signature : List ℕ) →
    trust_by knows signatures verdicts algorithm key hash signature ≡ true →
    trust_by knows signatures (verdicts ++ more) algorithm key hash signature ≡ true) where
  pub answered_trusting : (old new : TrustedHosts) (more : List HostVerdict) → new.book.list.items ≡ old.book.list.items ++ more →
      new.keys ≡ old.keys → (c : Crypto K) (machine : State K) (layers : Layers) → machine.kept.dead ≡ false → (p : Parties K)
      (agreement : Agreement) (signature : UserSignatures) (h : List Item) →
      ClientStandsAt p c agreement (trusts_of old) signature h machine layers →
      ClientStandsAt (record p { trusts = trusts_of new }) c agreement (trusts_of new) signature h machine layers
  answered_trusting old new more added keys c machine layers alive p agreement signature h place =
      let wide : Trusts = λ algorithm key hash mark. is_trusted_by_any old.keys.keys.items algorithm key hash mark
      || trust_by is_name has_host_signed (old.book.list.items ++ more) algorithm key hash mark in
      let agree = widened p wide
      (λ algorithm key hash mark e. trusted_still old more later algorithm key hash mark
      (sym (ap (λ (t : TrustingParts). t.trusts algorithm key hash mark) place.parts_are.exchange.parts_are) ∙ e))
      Client h place.run (sym place.sums.transport.dead_is ∙ alive) in
      let stands = exchanged p c agreement (trusts_of old) wide signature h machine layers place alive agree in
      subst (λ k. ClientStandsAt (record p {
        trusts = λ algorithm key hash mark. is_trusted_by_any k.keys.items algorithm key hash mark
            || trust_by is_name has_host_signed new.book.list.items algorithm key hash mark;
      }) c agreement
      (λ algorithm key hash mark. is_trusted_by_any k.keys.items algorithm key hash mark
      || trust_by is_name has_host_signed new.book.list.items algorithm key hash mark) signature h machine layers) (sym keys)
      (subst (λ b. ClientStandsAt (record p {
        trusts = λ algorithm key hash mark. is_trusted_by_any old.keys.keys.items algorithm key hash mark
            || trust_by is_name has_host_signed b algorithm key hash mark;
      }) c agreement
      (λ algorithm key hash mark. is_trusted_by_any old.keys.keys.items algorithm key hash mark
      || trust_by is_name has_host_signed b algorithm key hash mark) signature h machine layers) (sym added) stands)

-- ---- whom a client trusts

one_of_trusted : (keys : List (List ℕ)) (algorithm key hash signature : List ℕ) → is_trusted_by_any keys algorithm key hash signature ≡ true →
    is_one_of keys algorithm key ≡ true
one_of_trusted [] algorithm key hash signature e = absurd (cc e)
one_of_trusted (public ∷ keys) algorithm key hash signature e =
    by (is_name algorithm) (is_text key (key_blob public)) (has_signed public hash signature) (is_one_of keys algorithm key)
    (is_trusted_by_any keys algorithm key hash signature) (one_of_trusted keys algorithm key hash signature) e
  where
    by : (n b s r t : Bool) → (t ≡ true → r ≡ true) → ((n && (b && s)) || t) ≡ true → ((n && b) || r) ≡ true
    by true true s r t later e = refl
    by true false s r t later e = later e
    by false b s r t later e = later e

-- A key that the client was made with is one of ssh-ed25519.
named_if_any : (keys : List (List ℕ)) (algorithm key hash signature : List ℕ) → is_trusted_by_any keys algorithm key hash signature ≡ true →
    is_name algorithm ≡ true
named_if_any [] algorithm key hash signature e = absurd (cc e)
named_if_any (public ∷ keys) algorithm key hash signature e =
    by (is_name algorithm) (is_text key (key_blob public) && has_signed public hash signature)
    (is_trusted_by_any keys algorithm key hash signature) (named_if_any keys algorithm key hash signature) e
  where
    by : (n b r : Bool) → (r ≡ true → n ≡ true) → ((n && b) || r) ≡ true → n ≡ true
    by true b r later e = refl
    by false b r later e = later e

-- What no other judges was granted.
granted_by : (any granted known judged said : Bool) → (any ≡ true → known ≡ true) → (any || (granted && cond known judged said)) ≡ true →
    known ≡ false → said ≡ true
granted_by true granted known judged said named e unknown = absurd (cc (sym (named refl) ∙ unknown))
granted_by false true false judged said named e unknown = e
granted_by false true true judged said named e unknown = absurd (cc unknown)
granted_by false false known judged said named e unknown = absurd (cc e)

said_yes : (o : Option Bool) → unwrap_or o false ≡ true → o ≡ Some true
said_yes (Some true) e = refl
said_yes (Some false) e = absurd (cc e)
said_yes None e = absurd (cc e)

module _ {K : Type 0} (p : Parties K) (hosts : TrustedHosts) where
  pub each_trusted : (h : List Item) → VerifiesEach (trusting (trusts_of hosts) p) h → TrustsEachByProgram (trusting (trusts_of hosts) p) hosts h
  each_trusted [] v = tt
  each_trusted (Sent c NewKeys b ∷ h) v =
      let algorithm = (choice Client (epoch (sent h)) h).host in
      let hash = exchange_hash (exchange (trusting (trusts_of hosts) p) Client (epoch (sent h)) h) in
      let signed : Option Signed = Some (record { hash = hash; signature = v.0.signature }) in (
        record {
          verified = v.0;
          trusted = either _ _ _ _ (one_of_trusted hosts.keys.keys.items algorithm v.0.host_key _ _)
              (λ e. (and_parts (is_granted hosts.book.list.items algorithm v.0.host_key None) _ e).0) v.0.trusted;
          signed = λ unknown. said_yes (said_of_host hosts.book.list.items algorithm v.0.host_key signed)
              (granted_by (is_trusted_by_any hosts.keys.keys.items algorithm v.0.host_key hash v.0.signature)
              (is_granted hosts.book.list.items algorithm v.0.host_key None) (is_name algorithm)
              (has_host_signed algorithm v.0.host_key hash v.0.signature) (is_granted hosts.book.list.items algorithm v.0.host_key signed)
              (named_if_any hosts.keys.keys.items algorithm v.0.host_key hash v.0.signature) v.0.trusted unknown);
        },
        each_trusted h v.1,
      )
  each_trusted (i ∷ h) v = each_trusted h v
