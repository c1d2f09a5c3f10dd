-- What a client signs with the signatures that its program gave.
use Rattle.std.proofs.Common.{arith, ◌≡◌, ◌||◌, ℕ, zero, suc, Bool, false, true, List, [], ◌∷◌, ◌++◌, Option, Some, Result, Ok, Err, codes, cond, inl, inr, find, is_some, length, min, option_map, take, unwrap_or, refl, sym, subst, ap, ◌∙◌}
use Rattle.std.proofs.lemmas.Bool.{false≢true}
use Rattle.std.proofs.lemmas.List.{length-take-le, take-take, take_min}
use Rattle.std.proofs.Math.Nat.{min_comm}
use Rattle.std.proofs.Math.Seq.{take-append_seam}
use Rattle.ssh_model.specs.Laws.Supplied.{AgreeOnAnswered, EachSigned, IfSigned, IsSigned, SignsNone, SignsSettled, Supplied, supplied_by, supplied_of, text_to_sign}
use Rattle.ssh_model.specs.Protocol.Authentication.Requests.{signed_text}
use Rattle.ssh_model.specs.Protocol.KeyExchange.Exchange.{Inputs}
use Rattle.ssh_model.specs.Protocol.KeyExchange.Exchanges.{exchanges, session_id}
use Rattle.ssh_model.specs.Protocol.Lists.{IsIn}
use Rattle.ssh_model.specs.Protocol.Sessions.Epochs.{epoch}
use Rattle.ssh_model.specs.Protocol.Sessions.Items.{Ask, Ask.AskSign, Item, Item.Sent, has_died, sent}
use Rattle.ssh_model.specs.Protocol.Sessions.Parties.{Agreement, Parties, user_signature_by}
use Rattle.ssh_model.specs.Protocol.Sessions.Turns as turns
use Rattle.ssh_model.specs.Protocol.Sessions.Turns.{AsksTurn}
use Rattle.ssh_model.specs.Protocol.Wire.Message.{Msg, Msg.UserauthRequest, Method.Publickey}
use Rattle.ssh_model.specs.Protocol.Wire.Sealing.{Crypto}
use Rattle.ssh_model.specs.State.End.State.{EndState}
use Rattle.ssh_model.specs.State.End.Summary.{EndSumsUp}
use Rattle.ssh_model.specs.State.TransportLayer.Summary.{session_after}
use Rattle.ssh_model.specs.declared.side.Side.TheVariants.{Client}
use Rattle.ssh_transport_machine.specs.Puts.{Outs}
use Rattle.ssh_transport_machine.specs.Replies.{Trusts}
use Rattle.ssh_transport_machine.specs.State.{State}
use Rattle.ssh_end_machine.specs.Asking.{DoneInSession, UserSignatures}
use Rattle.ssh_end_machine.specs.Ends.{EndValue}
use Rattle.ssh_end_machine.specs.Layers.{Layers}
use Rattle.ssh_end_machine.specs.Parts.{ClientRole}
use Rattle.ssh_end_machine.specs.Places.{added, fed_items}
use Rattle.ssh_end_machine.specs.Supplying.{ClientStandsAt}
use Rattle.ssh_end_machine.specs.declared.asking.outcome.AskStep.{AskStep}
use Rattle.ssh_end_machine.specs.declared.asking.outcome.Fault.{Fault}
use Rattle.ssh_end_machine.specs.declared.asking.outcome.Fault.TheVariants as fault
use Rattle.ssh_held.specs.Signing.{EachOwnOrGiven, IsOwnOrGiven, IsOwnOrGiven.by_own, IsOwnOrGiven.by_program, IsSettledAsk, SigningAt}
use Rattle.ssh_held.specs.Signing.{given_for, is_for_text, is_known_in, is_own, is_signed, signature_by, signing}
use Rattle.ssh_held.specs.declared.signing.GivenSignature.{GivenSignature}
use Rattle.ssh_held.specs.declared.signing.GivenSignatures.{GivenSignatures}
use Rattle.ssh_held.proofs.Finding.{found_before}

-- ---- bytes

-- a signature that was put in front of a place of 4,096 bytes
pub cut_off : (signature written rest : List ℕ) (count : ℕ) → count ≡ min (length signature) 4096 → written ≡ take count signature →
    take count (written ++ rest) ≡ take 4096 signature
cut_off signature written rest count is same =
    let long : length written ≡ count = ap (λ (l : List ℕ). length l) same ∙ length-take-le count signature (omega arith) in
    ap (λ (n : ℕ). take n (written ++ rest)) (sym long) ∙ take-append_seam written rest ∙ same
    ∙ ap (λ (n : ℕ). take n signature) (is ∙ min_comm (length signature) 4096) ∙ take_min 4096 signature

-- ---- more signatures

either_left : (a b c : Bool) → (b ≡ true → c ≡ true) → (a || b) ≡ true → (a || c) ≡ true
either_left true b c f e = refl
either_left false b c f e = f e

module _ (own : UserSignatures) (list more : List GivenSignature) where
  given_before : (algorithm key text : List ℕ) → is_some (given_for list algorithm key text) ≡ true →
      given_for (list ++ more) algorithm key text ≡ given_for list algorithm key text
  given_before algorithm key text e =
      found_before (is_for_text algorithm key text) (λ (g : GivenSignature). g.signature.items) list more e

  still_given : (algorithm key text : List ℕ) → is_some (given_for list algorithm key text) ≡ true →
      is_some (given_for (list ++ more) algorithm key text) ≡ true
  still_given algorithm key text e = ap (λ (x : Option (List ℕ)). is_some x) (given_before algorithm key text e) ∙ e

  still_signed : (user algorithm key text : List ℕ) → is_signed own list user algorithm key text ≡ true →
      is_signed own (list ++ more) user algorithm key text ≡ true
  still_signed user algorithm key text e =
      either_left (is_own own user algorithm key text) _ _ (still_given algorithm key text) e

  same_by : (b : Bool) (mine : List ℕ) (algorithm key text : List ℕ) → (b || is_some (given_for list algorithm key text)) ≡ true →
      cond b mine (take 4096 (unwrap_or (given_for list algorithm key text) []))
      ≡ cond b mine (take 4096 (unwrap_or (given_for (list ++ more) algorithm key text) []))
  same_by true mine algorithm key text e = refl
  same_by false mine algorithm key text e =
      ap (λ (x : Option (List ℕ)). take 4096 (unwrap_or x [])) (sym (given_before algorithm key text e))

  pub same_signature : {K : Type 0} (p : Parties K) (user algorithm key text : List ℕ) → is_signed own list user algorithm key text ≡ true →
      user_signature_by (signing (signature_by own list) p) user algorithm key text
      ≡ take 4096 (signature_by own (list ++ more) user algorithm key text)
  same_signature p user algorithm key text e =
      ap (λ (x : List ℕ). take 4096 x) (same_by (is_own own user algorithm key text) (own user algorithm key text) algorithm key text e)

  pub more_signed : {K : Type 0} (p : Parties K) (h : List Item) →
      ((q : Parties K) (given : Supplied) (settled other : (user algorithm key text : List ℕ) → Bool) →
      ((user algorithm key text : List ℕ) → settled user algorithm key text ≡ true → other user algorithm key text ≡ true) →
      SignsSettled q settled h → SignsSettled (supplied_by given q) other h) →
      SignsSettled (signing (signature_by own list) p) (is_signed own list) h →
      SignsSettled (signing (signature_by own (list ++ more)) p) (is_signed own (list ++ more)) h
  more_signed p h law y =
      let q = signing (signature_by own list) p in
      law q (record (supplied_of q) { user_signature = signature_by own (list ++ more) }) (is_signed own list) (is_signed own (list ++ more))
      still_signed y

-- ---- the text of now

known_with : (settled : (user algorithm key text : List ℕ) → Bool) (user algorithm key : List ℕ) (gone : ℕ) (xs : List Inputs) →
    is_known_in settled (session_after gone xs) user algorithm key ≡ true →
    settled user algorithm key (signed_text (session_id xs) user (codes "ssh-connection") algorithm key) ≡ true
known_with settled user algorithm key zero xs e = absurd (cc e)
known_with settled user algorithm key (suc gone) xs e = e

pub known_now : {K : Type 0} (p : Parties K) (settled : (user algorithm key text : List ℕ) → Bool) (history : List Item) (e : EndState K) →
    EndSumsUp p Client history e → e.transport.dead ≡ false → (user algorithm key : List ℕ) →
    is_known_in settled e.transport.session user algorithm key ≡ true →
    settled user algorithm key (text_to_sign p history user algorithm key) ≡ true
known_now p settled history e sums alive user algorithm key known =
    known_with settled user algorithm key (epoch (sent history)) (exchanges p Client history)
    (subst (λ (s : Option (List ℕ)). is_known_in settled s user algorithm key ≡ true) (sums.transport.live alive).session_is known)

-- ---- turns

pub fed_signs_none : (cookie secret : List ℕ) (answer : Bool) → SignsNone (fed_items cookie secret answer)
fed_signs_none cookie secret true = tt
fed_signs_none cookie secret false = tt

settled_ask : (settled : (user algorithm key text : List ℕ) → Bool) (id : Option (List ℕ)) (asked : Ask) → IsSettledAsk settled id asked →
    (user algorithm key : List ℕ) → asked ≡ AskSign user algorithm key → is_known_in settled id user algorithm key ≡ true
settled_ask settled id asked x user algorithm key is = subst (λ (a : Ask). IsSettledAsk settled id a) is x

dead_signs_none : {K : Type 0} (p : Parties K) (h : List Item) (asked : Ask) (items : List Item) → AsksTurn p Client h asked items →
    has_died h ≡ true → SignsNone items
dead_signs_none p h asked items (turns.AsksTurn.refuses k alive c) dead = tt
dead_signs_none p h asked items (turns.AsksTurn.answers alive c o s n) dead = absurd (false≢true (sym alive ∙ dead))
dead_signs_none p h asked items (turns.AsksTurn.spends alive c o s n) dead = tt
dead_signs_none p h asked items (turns.AsksTurn.dies alive c o s n) dead = tt
dead_signs_none p h asked items (turns.AsksTurn.is_dead f) dead = tt

module _ {K : Type 0} (p : Parties K) (settled : (user algorithm key text : List ℕ) → Bool)
    (unasked : (items h : List Item) → SignsNone items → SignsSettled p settled h → SignsSettled p settled (items ++ h))
    (on_ask : (h : List Item) (asked : Ask) (items : List Item) → AsksTurn p Client h asked items → ((user algorithm key : List ℕ) →
    asked ≡ AskSign user algorithm key → settled user algorithm key (text_to_sign p h user algorithm key) ≡ true) →
    SignsSettled p settled h → SignsSettled p settled (items ++ h))
    (history : List Item) (old : EndState K) (asked : Ask) (sums : EndSumsUp p Client history old)
    (known : old.transport.dead ≡ false → IsSettledAsk settled old.transport.session asked) (y : SignsSettled p settled history) where
  by_turn : (dead : Bool) → old.transport.dead ≡ dead → (items : List Item) → AsksTurn p Client history asked items →
      SignsSettled p settled (items ++ history)
  by_turn false e items t = on_ask history asked items t (λ user algorithm key is. known_now p settled history old sums e user algorithm key
      (settled_ask settled old.transport.session asked (known e) user algorithm key is)) y
  by_turn true e items t = unasked items history (dead_signs_none p history asked items t (sym sums.transport.dead_is ∙ e)) y

  pub settled_asked : (given : Result AskStep Fault) (new : EndState K) (o : Outs) → (x : DoneInSession p Client history old asked given new o) →
      SignsSettled p settled (added p Client history old asked given new o x ++ history)
  settled_asked (Ok step) new o x = by_turn old.transport.dead refl x.items x.turned.turn
  settled_asked (Err (fault.Ask why)) new o x = y
  settled_asked (Err fault.Memory) new o x = y
  settled_asked (Err fault.Dead) new o x = y

-- ---- what was sent

-- a signature that was found among those that were given
record IsFound (list : List GivenSignature) (algorithm key text : List ℕ) : Type 0 where
  given : GivenSignature
  in_list : IsIn given list
  is_for : is_for_text algorithm key text given ≡ true
  found : unwrap_or (given_for list algorithm key text) [] ≡ given.signature.items

module _ (algorithm key text : List ℕ) where
  found_first : (given : GivenSignature) (list : List GivenSignature) (b : Bool) → is_for_text algorithm key text given ≡ b →
      is_some (option_map (λ (g : GivenSignature). g.signature.items) (cond b (Some given) (find (is_for_text algorithm key text) list))) ≡ true →
      (is_some (given_for list algorithm key text) ≡ true → IsFound list algorithm key text) → IsFound (given ∷ list) algorithm key text
  found_first given list true e some later = record { given = given; in_list = inl refl; is_for = e; found = rw e refl }
  found_first given list false e some later =
      let rest = later some in
      record { given = rest.given; in_list = inr rest.in_list; is_for = rest.is_for; found = rw e rest.found }

  found_in : (list : List GivenSignature) → is_some (given_for list algorithm key text) ≡ true → IsFound list algorithm key text
  found_in [] e = absurd (cc e)
  found_in (given ∷ list) e = found_first given list (is_for_text algorithm key text given) refl e (found_in list)

module _ (own : UserSignatures) (list : List GivenSignature) where
  by_one : (user algorithm key text signature : List ℕ) (b : Bool) → is_own own user algorithm key text ≡ b →
      (b || is_some (given_for list algorithm key text)) ≡ true →
      signature ≡ take 4096 (cond b (own user algorithm key text) (take 4096 (unwrap_or (given_for list algorithm key text) []))) →
      IsOwnOrGiven own list user algorithm key text signature
  by_one user algorithm key text signature true e known is = by_own e is
  by_one user algorithm key text signature false e known is =
      let it = found_in algorithm key text list known in
      by_program it.given it.in_list it.is_for
      (is ∙ take-take 4096 4096 (unwrap_or (given_for list algorithm key text) []) (omega arith)
      ∙ ap (λ (x : List ℕ). take 4096 x) it.found)

  module _ {K : Type 0} (p : Parties K) where
    abbrev Q : Parties K
    Q = signing (signature_by own list) p

    one_sent : (h : List Item) (m : Msg) → IfSigned (IsSigned Q h) m →
        IfSigned (λ user service algorithm key signature. is_signed own list user algorithm key (text_to_sign Q h user algorithm key) ≡ true) m →
        IfSigned (λ user service algorithm key signature. IsOwnOrGiven own list user algorithm key (text_to_sign Q h user algorithm key) signature) m
    one_sent h (UserauthRequest user service (Publickey algorithm key (Some signature))) x known =
        by_one user algorithm key (text_to_sign Q h user algorithm key) signature
        (is_own own user algorithm key (text_to_sign Q h user algorithm key)) refl known x.signature_is
    one_sent h m x known = tt

    pub each_sent : (h : List Item) → EachSigned (IsSigned Q) h → SignsSettled Q (is_signed own list) h → EachOwnOrGiven Q own list h
    each_sent [] x known = tt
    each_sent (Sent c m b ∷ h) x known = (one_sent h m x.0 known.0, each_sent h x.1 known.1)
    each_sent (i ∷ h) x known = each_sent h x known

-- ---- a client that is given a signature

module _ {P U S F A T K : Type 0} (c : Crypto K) (does : A → Agreement) (judged : T → Trusts) (own : U → UserSignatures) (p : Parties K)
    (history : List Item)
    (exchanged : (q : Parties K) (agreement : Agreement) (trusts : Trusts) (one other : UserSignatures) (h : List Item) (machine : State K)
    (layers : Layers) → ClientStandsAt q c agreement trusts one h machine layers → machine.kept.dead ≡ false →
    AgreeOnAnswered q (record (supplied_of q) { user_signature = other }) h →
    ClientStandsAt (record q { user_signature = other }) c agreement trusts other h machine layers)
    (agrees : (mine : UserSignatures) (list more : List GivenSignature) (h : List Item) →
    SignsSettled (signing (signature_by mine list) p) (is_signed mine list) h → AgreeOnAnswered (signing (signature_by mine list) p)
    (record (supplied_of (signing (signature_by mine list) p)) { user_signature = signature_by mine (list ++ more) }) h)
    (knows : (mine : UserSignatures) (list more : List GivenSignature) (h : List Item) →
    SignsSettled (signing (signature_by mine list) p) (is_signed mine list) h →
    SignsSettled (signing (signature_by mine (list ++ more)) p) (is_signed mine (list ++ more)) h) where
  pub with_signer : (client : EndValue K (ClientRole P (GivenSignatures U) S F A T K) F) → client.machine.kept.dead ≡ false →
      (signer : GivenSignatures U) (more : List GivenSignature) → signer.own ≡ client.role.own.signer.own →
      signer.list.items ≡ client.role.own.signer.list.items ++ more → SigningAt c does judged own p client history →
      SigningAt c does judged own p (record client { role = record client.role { own = record client.role.own { signer = signer } } }) history
  with_signer client alive signer more same is at =
      let mine = own client.role.own.signer.own in
      let list = client.role.own.signer.list.items in
      let agreed : AgreeOnAnswered (signing (signature_by mine list) p)
      (record (supplied_of (signing (signature_by mine list) p)) { user_signature = signature_by (own signer.own) signer.list.items }) history =
      rw (same, is) (agrees mine list more history at.known) in
      record {
        place = exchanged (signing (signature_by mine list) p) (does client.role.exchange.agreement) (judged client.role.exchange.host_trust)
            (signature_by mine list) (signature_by (own signer.own) signer.list.items) history client.machine client.layers at.place alive agreed;
        known = rw (same, is) (knows mine list more history at.known);
      }
