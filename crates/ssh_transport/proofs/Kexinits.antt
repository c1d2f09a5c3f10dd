-- What an end makes of its peer's KEXINIT, as a turn of a session.
use Rattle.std.proofs.Common.{◌≡◌, ℕ, ◌≤◌, length, true, false, List, [], ◌∷◌, ◌++◌, refl, ap, sym, ◌∙◌, subst, append-nil, Bool, Some, None, take}
use Rattle.ssh_model.specs.Protocol.Wire.Message.{Msg.KexEcdhInit, Msg.KexInit, Proposal}
use Rattle.ssh_model.specs.Protocol.KeyExchange.Exchanges.{Material, none_chosen}
use Rattle.ssh_model.specs.Protocol.Sessions.Items.{Item.Took, Encoded}
use Rattle.ssh_model.specs.Protocol.Sessions.Parties.{offer_of}
use Rattle.ssh_model.specs.State.TransportLayer.Kept.{Takes, after_kexinit, after_own_kexinit, is_between, sends, takes_in}
use Rattle.ssh_transport_machine.specs.Classifying as classifying
use Rattle.ssh_transport_machine.specs.Finishing.{HasChoice}
use Rattle.ssh_transport_machine.specs.Kexinits.{IsFine}
use Rattle.ssh_transport_machine.specs.Puts.{Puts}
use Rattle.ssh_transport_machine.specs.State.{noted}
use Rattle.ssh_transport_machine.specs.declared.machine.classifying.Classified.TheVariants as classified
use Rattle.ssh_transport_machine.specs.declared.machine.kexinit.KexinitFacts.{KexinitFacts}
use Rattle.ssh_transport_machine.specs.declared.machine.sending.SendOutcome.{SendOutcome}
use Rattle.ssh_transport_machine.specs.declared.machine.sending.SendOutcome.TheVariants.{Done, Spent}
use Rattle.ssh_transport.specs.Kexinits as kexinits
use Rattle.ssh_transport.specs.Kexinits.{HasAnswer, KexinitAnswered, KexinitDone, KexinitNeedsMemory, KexinitSpent, KexinitTurn, Says}
use Rattle.ssh_transport.specs.OfClient.Kexinits.{ClientSays}
use Rattle.ssh_transport.specs.OfServer.Kexinits.{ServerSays}
use Rattle.ssh_transport.specs.Laws.{RoleLaws, StandsAfterKexinits}
use Rattle.ssh_transport.specs.Outcomes.{IsAnswered}
use Rattle.ssh_transport.specs.Own as own
use Rattle.ssh_transport.specs.declared.outcome.Handled.TheVariants as handled
use Rattle.ssh_transport.proofs.Begun.{free_begins}
use Rattle.ssh_transport.proofs.Exchanging.{Numbered, Others, over}
use Rattle.ssh_transport.proofs.Lifting.{PayloadLaws, between_exchanges}
use Rattle.ssh_transport.proofs.Common.{Agreement, AreEncoded, Client, Crypto, EncodedBy, IsChoosing, IsKeptLive, IsPayload, Item, KeptOrOver, LiftsAt, MessageIs, Msg, NumberSpent, Outs, OwnTurn, OwnWould, Parties, PayloadIs, Reads, Server, Side, State, SumsUp, Transport, TransportTurn, Turned, WouldAnswer, after_sent, after_taken, agreement_of, before_taken, items_sent, kept_by, lifts_answering}

-- ---- as records

abbrev pub has_answer : {K : Type 0} (agreement : Agreement) (side : Side) (s between : Transport K) (said : List Encoded) → Says agreement side s said between → 1 ≤ length said → AreEncoded (items_sent said) → HasAnswer agreement side s
has_answer agreement side s between said says some encoded = record { said = said; between = between; says = says; some = some; encoded = encoded }

pub is_answered : {K : Type 0} (c : Crypto K) (agreement : Agreement) (side : Side) (old new : State K) (facts : KexinitFacts) (o : Outs) (said : List Encoded) (between : Transport K) → Says agreement side old.kept said between → Puts c old.kept.sending said o →
    new ≡ record old { kept = noted facts.wrong facts.strict facts.extensions old.receiver.payload between } → KexinitDone c agreement side old facts Done new o
is_answered c agreement side old new facts o said between says puts after = record { said = said; between = between; says = says; puts = puts; after = after }

-- ---- what is said

-- What stays as it was, and the end is then blocked.
record Kept {K : Type 0} (s between : Transport K) : Type 0 where
  lines : between.lines ≡ s.lines
  side : between.side ≡ s.side
  settings : between.settings ≡ s.settings
  taking : between.taking ≡ s.taking
  authenticated : between.authenticated ≡ s.authenticated
  accepted : between.accepted ≡ s.accepted
  blocked : between.blocked ≡ true

keeps : {K : Type 0} (agreement : Agreement) (side : Side) (s between : Transport K) (said : List Encoded) → Says agreement side s said between → Kept s between
keeps agreement Server s between said (ServerSays.nothing shut) = record { lines = refl; side = refl; settings = refl; taking = refl; authenticated = refl; accepted = refl; blocked = shut }
keeps agreement Server s between said (ServerSays.own material payload free has) = record { lines = refl; side = refl; settings = refl; taking = refl; authenticated = refl; accepted = refl; blocked = refl }
keeps agreement Client s between said (ClientSays.point init shut) = record { lines = refl; side = refl; settings = refl; taking = refl; authenticated = refl; accepted = refl; blocked = shut }
keeps agreement Client s between said (ClientSays.both material payload init free has) = record { lines = refl; side = refl; settings = refl; taking = refl; authenticated = refl; accepted = refl; blocked = refl }

-- the state after it, as the model has it
abbrev settled : {K : Type 0} → (s : Transport K) → Proposal → (payload : List ℕ) → (between : Transport K) → Transport K
settled s theirs payload between = record between {
  phase = (after_kexinit theirs payload s).phase;
  underway = record between.underway { theirs = payload };
  strict = (after_kexinit theirs payload s).strict;
  peer_takes_extensions = (after_kexinit theirs payload s).peer_takes_extensions;
}

takes_kexinit : {K : Type 0} (agreement : Agreement) (side : Side) (s : Transport K) (payload : List ℕ) (theirs : Proposal) (said : List Encoded) (between : Transport K) → s.side ≡ side → is_between s.phase ≡ true → IsPayload false (KexInit theirs) payload → Says agreement side (after_taken s) said between →
    Takes agreement s payload (KexInit theirs) (sends said) (settled s theirs payload between)
takes_kexinit agreement Server s payload theirs said between at comes is (ServerSays.nothing shut) = Takes.kexinit_at_server theirs at comes is shut
takes_kexinit agreement Server s payload theirs said between at comes is (ServerSays.own material own free has) =
    subst (λ (w : Side). Takes agreement s payload (KexInit theirs) (sends (EncodedBy (KexInit (offer_of s.settings w false material.cookie)) own ∷ [])) (after_own_kexinit material own (after_kexinit theirs payload s))) (sym at)
    (Takes.answered_at_server theirs own material at comes is free has)
takes_kexinit agreement Client s payload theirs said between at comes is (ClientSays.point init shut) = Takes.kexinit_at_client theirs init at comes is shut
takes_kexinit agreement Client s payload theirs said between at comes is (ClientSays.both material own init free has) =
    subst (λ (w : Side). Takes agreement s payload (KexInit theirs) (sends (EncodedBy (KexEcdhInit (take 32 (agreement.point material.secret))) init ∷ EncodedBy (KexInit (offer_of s.settings w false material.cookie)) own ∷ [])) (after_sent (after_own_kexinit material own (after_kexinit theirs payload s)))) (sym at)
    (Takes.answered_at_client theirs own init material at comes is free has)

-- ---- as a turn

module _ {K : Type 0} (numbers : Numbered) (p : Parties K) (side : Side) (history : List Item) (s : Transport K) (sums : SumsUp p side history s) (alive : s.dead ≡ false) (payload : List ℕ) (facts : KexinitFacts) where
  module _ (theirs : Proposal) (is : IsPayload false (KexInit theirs) payload) (fine : IsFine s theirs facts) (reads : Reads s (KexInit theirs) payload) where
    takes_so : (said : List Encoded) (between : Transport K) → Says (agreement_of p side) side (after_taken s) said between → Takes (agreement_of p side) s payload (KexInit theirs) (sends said) (settled s theirs payload between)
    takes_so said between says =
        takes_kexinit (agreement_of p side) side s payload theirs said between (sums.live alive).side_is
        (between_exchanges s s.phase reads.no_guess (subst (λ (n : ℕ). takes_in s.phase s n ≡ true) (numbers false (KexInit theirs) payload is) reads.taken)) is says

    done : PayloadLaws K → (old new : State K) (o : Outs) → old.receiver.payload ≡ payload → (answer : SendOutcome) → KexinitDone p.crypto (agreement_of p side) side (record old { kept = after_taken s }) facts answer new o → KexinitTurn p side history s payload answer new.kept o
    done laws old new o shown Done x =
        let then : new.kept ≡ settled s theirs payload x.between = ap (λ (t : State K). t.kept) x.after ∙ (λ i. noted (fine.settles.wrong i) (fine.settles.strict i) (fine.settles.extensions i) (shown i) x.between) in
        record {
          said = x.said;
          items = items_sent x.said ++ Took None (KexInit theirs) payload ∷ [];
          more = x.puts.more;
          shows = kexinits.KexinitShows.answered theirs x.said x.between is x.says;
          turned = subst (λ (w : Transport K). Turned p side history payload (items_sent x.said ++ Took None (KexInit theirs) payload ∷ []) x.puts.more w) (sym then)
              (laws.answered p side history s sums alive none_chosen (KexInit theirs) payload (sends x.said) _ x.puts.more reads tt fine.fine (takes_so x.said x.between x.says) x.puts.packets);
          parts = x.puts.parts;
          lists = x.puts.lists;
        }
    done laws old new o shown Spent x = record {
      said = [];
      items = Item.Died ∷ Item.Refused NumberSpent (Some payload) ∷ [];
      more = [];
      shows = kexinits.KexinitShows.spent;
      turned = laws.spent p side history s sums alive none_chosen (KexInit theirs) payload (sends x.answer.said) _ new.kept reads tt fine.fine
          (takes_so x.answer.said x.answer.between x.answer.says) x.answer.encoded x.answer.some x.few (ap (λ (t : State K). t.kept.dead) x.after);
      parts = x.quiet.out ∙ sym (append-nil o.before);
      lists = x.quiet.sent ∙ sym (append-nil o.payloads_before);
    }

    lacks : (old : State K) → KexinitNeedsMemory (agreement_of p side) side (record old { kept = after_taken s }) → WouldAnswer p side s payload
    lacks old x =
        WouldAnswer.answered none_chosen (KexInit theirs) (sends x.answer.said) _ reads tt fine.fine (takes_so x.answer.said x.answer.between x.answer.says) x.answer.encoded x.answer.some x.room

  -- what holds of the proposal that was read
  read : {A : Type 0} → ((theirs : Proposal) → IsPayload false (KexInit theirs) payload → IsFine s theirs facts → Reads s (KexInit theirs) payload → A) → PayloadIs s payload (classified.Kexinit facts) → A
  read {A} holds (classifying.PayloadIs.read message below taken no_guess is so) = go message is so
    where
      go : (message : Msg) → IsPayload false message payload → MessageIs s message (classified.Kexinit facts) → A
      go message is (classifying.MessageIs.requested service given) = absurd given
      go message is (classifying.MessageIs.accepted service given) = absurd given
      go message is (classifying.MessageIs.kexinit theirs f fine) = holds theirs is fine (record { below = below; taken = taken; no_guess = no_guess; message_is = is; of_transport = tt })

module _ {K : Type 0} (numbers : Numbered) (p : Parties K) (side : Side) (history : List Item) (s : Transport K) (sums : SumsUp p side history s) (alive : s.dead ≡ false) (old : State K) (kept : old.kept ≡ after_taken s) (facts : KexinitFacts) where
  pub answered_so : PayloadLaws K → PayloadIs s old.receiver.payload (classified.Kexinit facts) → (new : State K) (o : Outs) (answer : SendOutcome) → KexinitDone p.crypto (agreement_of p side) side old facts answer new o → KexinitTurn p side history s old.receiver.payload answer new.kept o
  answered_so laws is new o answer x =
      read numbers p side history s sums alive old.receiver.payload facts
      (λ theirs is fine reads. done numbers p side history s sums alive old.receiver.payload facts theirs is fine reads laws old new o refl answer
      (subst (λ (w : State K). KexinitDone p.crypto (agreement_of p side) side w facts answer new o) (λ i. record old { kept = kept i }) x)) is

  pub would_answer : PayloadIs s old.receiver.payload (classified.Kexinit facts) → KexinitNeedsMemory (agreement_of p side) side old → WouldAnswer p side s old.receiver.payload
  would_answer is x =
      read numbers p side history s sums alive old.receiver.payload facts
      (λ theirs is fine reads. lacks numbers p side history s sums alive old.receiver.payload facts theirs is fine reads old
      (subst (λ (w : State K). KexinitNeedsMemory (agreement_of p side) side w) (λ i. record old { kept = kept i }) x)) is

-- ---- what goes on holding

-- the laws of what begins and ends an exchange
pub record Going (K : Type 0) : Type 0 where
  pub sent : (k : Transport K) → IsKeptLive k → IsKeptLive (after_sent k)
  pub own : (material : Material) (payload : List ℕ) (k : Transport K) → k.blocked ≡ false → k.authenticated ≡ true → k.material ≡ Some material → IsKeptLive k → IsKeptLive (after_own_kexinit material payload k)
  pub noted : (wrong strict extensions : Bool) (payload : List ℕ) (k : Transport K) → k.blocked ≡ true → IsKeptLive k → IsKeptLive (noted wrong strict extensions payload k)
  pub others : Others K
  pub chooses : (s : Transport K) (payload : List ℕ) (facts : KexinitFacts) (kept : Transport K) → kept.side ≡ s.side → kept.settings ≡ s.settings → kept.underway.theirs ≡ payload → PayloadIs s payload (classified.Kexinit facts) → HasChoice kept

says_live : {K : Type 0} → Going K → (agreement : Agreement) (side : Side) (s between : Transport K) (said : List Encoded) → Says agreement side s said between → (s.blocked ≡ false → s.authenticated ≡ true) → IsKeptLive s → IsKeptLive between
says_live going agreement Server s between said (ServerSays.nothing shut) begins live = live
says_live going agreement Server s between said (ServerSays.own material payload free has) begins live = going.own material payload s free (begins free) has live
says_live going agreement Client s between said (ClientSays.point init shut) begins live = going.sent s live
says_live going agreement Client s between said (ClientSays.both material payload init free has) begins live = going.sent _ (going.own material payload s free (begins free) has live)

pub kexinit_stands : {K : Type 0} → Going K → (side : Side) → StandsAfterKexinits K side
kexinit_stands going side c agreement old facts Done new o standing is x alive =
    let k = keeps agreement side old.kept x.between x.said x.says in
    let payload = old.receiver.payload in
    let live = says_live going agreement side old.kept x.between x.said x.says (λ free. free_begins old.kept payload facts standing.live.kept.blocked free is) standing.live.kept in
    record {
      side_is = ap (λ (w : State _). w.kept.side) x.after ∙ k.side ∙ standing.side_is;
      live = going.others old new _ x.after k.lines k.side k.taking (going.noted facts.wrong facts.strict facts.extensions payload x.between k.blocked live) standing.live;
      choosing = subst (λ (w : State _). IsChoosing w.kept) (sym x.after) (record { choice = λ e. going.chooses (before_taken old.kept) payload facts _ k.side k.settings refl is });
    }
kexinit_stands going side c agreement old facts Spent new o standing is x alive = over new.kept.dead (ap (λ (t : State _). t.kept.dead) x.after) alive

-- ---- what a role does

module _ {K R : Type 0} (side : Side) (laws : RoleLaws K side) (c : Crypto K) (agreement : R → Agreement) (is_of : R → Parties K → Type 0) (crypto_is : (role : R) (p : Parties K) → is_of role p → p.crypto ≡ c) (agreement_is : (role : R) (p : Parties K) → is_of role p → agreement_of p side ≡ agreement role) (facts : KexinitFacts) where
  taken_so : (p : Parties K) (history : List Item) (s : Transport K) (role : R) → is_of role p → SumsUp p side history s → s.dead ≡ false → (old new : State K) (o : Outs) → old.kept ≡ after_taken s →
      PayloadIs s old.receiver.payload (classified.Kexinit facts) → (given : TransportTurn) → IsAnswered handled.Kexinit (KexinitDone c (agreement role) side old facts) given new o → OwnTurn p side history s old.receiver.payload given new.kept o
  taken_so p history s role fits sums alive old new o kept is given x =
      OwnTurn.kexinit x.answer x.given_is (laws.kexinits p history s sums alive old new o kept facts is x.answer
      (subst (λ (w : Crypto K). KexinitDone w (agreement_of p side) side old facts x.answer new o) (sym (crypto_is role p fits)) (subst (λ (w : Agreement). KexinitDone c w side old facts x.answer new o) (sym (agreement_is role p fits)) x.does)))

  kept_so : (role : R) (old new : State K) (o : Outs) (answer : SendOutcome) → KexinitDone c (agreement role) side old facts answer new o → KeptOrOver old answer new
  kept_so role old new o Done x =
      let k = keeps (agreement role) side old.kept x.between x.said x.says in
      kept_by old new _ x.after k.lines (record { authenticated = k.authenticated; accepted = λ e. k.accepted ∙ e })
  kept_so role old new o Spent x = ap (λ (t : State K). t.kept.dead) x.after

  pub at_kexinit : LiftsAt side is_of (own.Own.Kexinit facts) (λ role old given new o. IsAnswered handled.Kexinit (KexinitDone c (agreement role) side old facts) given new o) (λ role old. KexinitNeedsMemory (agreement role) side old)
  at_kexinit = lifts_answering side is_of facts (λ role old. KexinitDone c (agreement role) side old facts) _ taken_so
      (λ p history s role fits sums alive old kept is x. OwnWould.answers (laws.kexinits_die p history s sums alive old kept facts is (subst (λ (w : Agreement). KexinitNeedsMemory w side old) (sym (agreement_is role p fits)) x)))
      (λ role old new o standing is answer x. laws.kexinits_stand c (agreement role) old facts answer new o standing is x) kept_so
