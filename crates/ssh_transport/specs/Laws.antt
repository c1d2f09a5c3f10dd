-- What the laws of a role say of the messages of an exchange.
--     EndsExchange, RefusesFor, RunsOut   the last one is a turn of a session: the exchange is ended, the peer refused, no number left
--     TakesKexinits, DiesOfKexinits       so is a KEXINIT, and where memory is refused something would be sent
--     StandsAfterKexinits, StandsAfterExchanges   what goes on holding of a live machine
use Rattle.std.specs.Prelude.{◌≡◌, ℕ, ◌+◌, ◌<◌, Bool, false, true, List, [], ◌∷◌, ◌++◌, length, Option, None, Some}
use Rattle.ssh_model.specs.declared.refusal.Refusal.{Refusal}
use Rattle.ssh_model.specs.declared.refusal.Refusal.TheVariants.{BadHost, BadMessage, BadPoint, NumberSpent}
use Rattle.ssh_model.specs.declared.side.Side.{Side}
use Rattle.ssh_model.specs.Protocol.Bounds.{numbers_of_epoch}
use Rattle.ssh_model.specs.Protocol.Channels.Connection.{AreReplies, owed_replies}
use Rattle.ssh_model.specs.Protocol.KeyExchange.Choice.{Chosen}
use Rattle.ssh_model.specs.Protocol.KeyExchange.Exchanges.{choice}
use Rattle.ssh_model.specs.Protocol.Sessions.Epochs.{epoch}
use Rattle.ssh_model.specs.Protocol.Sessions.Phases.{Phase.Exchanging}
use Rattle.ssh_model.specs.Protocol.Sessions.Items.{Item, Item.Died, Item.Refused, Encoded, sent}
use Rattle.ssh_model.specs.Protocol.Sessions.Parties.{Agreement, Parties, agreement_of}
use Rattle.ssh_model.specs.Protocol.Sessions.Refusals.{first_refusal, refusal_name}
use Rattle.ssh_model.specs.Protocol.Sessions.TurnClaims.{HasEncoding}
use Rattle.ssh_model.specs.Protocol.Sessions.Turns.{AreEncoded, number_of}
use Rattle.ssh_model.specs.Protocol.Wire.Message.{IsPayload, Msg, Msg.Disconnect, message_number}
use Rattle.ssh_model.specs.Protocol.Wire.Sealing.{Crypto}
use Rattle.ssh_model.specs.State.TransportLayer.Kept.{Completes, IsChosen, Transport, after_taken, message_checks}
use Rattle.ssh_model.specs.State.TransportLayer.Summary.{IsAwaited, SumsUp, items_sent, parts_of}
use Rattle.ssh_model.specs.State.TransportLayer.Turns.{EndedBy, IsRefused, PutsPackets, Reads, SaysWhy, Turned, refusal_items}
use Rattle.ssh_transport_machine.specs.Replies.{IsRead}
use Rattle.ssh_transport.specs.Endings.{ExchangeEnds, IsSpentEnd, MessageRefused, PayloadRefused}
use Rattle.ssh_transport.specs.Kexinits.{KexinitDone, KexinitNeedsMemory, KexinitTurn}
use Rattle.ssh_transport.specs.Shown.{WouldAnswer}
use Rattle.ssh_transport.specs.Standing.{IsStanding, Stands}
use Rattle.ssh_transport_machine.specs.Classifying.{PayloadIs}
use Rattle.ssh_transport_machine.specs.Finishing.{after_announced, forgotten, keyed}
use Rattle.ssh_transport_machine.specs.Puts.{Outs}
use Rattle.ssh_transport_machine.specs.State.{State, before_taken}
use Rattle.ssh_transport_machine.specs.declared.machine.classifying.Classified.TheVariants as classified
use Rattle.ssh_transport_machine.specs.declared.machine.kexinit.KexinitFacts.{KexinitFacts}
use Rattle.ssh_transport_machine.specs.declared.machine.sending.SendOutcome.{SendOutcome}
use Rattle.ssh_transport.specs.Living.{IsKeptLive}

-- of parties, after a history of an end that lives, with a payload that it has just read
abbrev WhereRead : (K : Type 0) → Side → (Parties K → List Item → Transport K → (old new : State K) → Outs → Type 0) → Type 0
WhereRead K side holds = (p : Parties K) (history : List Item) (s : Transport K) → SumsUp p side history s → s.dead ≡ false →
    (old new : State K) (o : Outs) → old.kept ≡ after_taken s → IsRead s old.receiver.payload → holds p history s old new o

abbrev pub EndsExchange : (K : Type 0) → Side → (Parties K → State K → Chosen → State K → Outs → Type 0) → Type 0
EndsExchange K side completes = WhereRead K side (λ p history s old new o. (chosen : Chosen) → completes p old chosen new o →
    ExchangeEnds p side history old.receiver.payload (s.sending.epoch + 1) chosen new.kept o)

abbrev pub RefusesFor : (K : Type 0) → Side → Refusal → (Parties K → (old new : State K) → Outs → Type 0) → Type 0
RefusesFor K side why refuses = WhereRead K side (λ p history s old new o. refuses p old new o →
    PayloadRefused p side history old.receiver.payload why new.kept o)

abbrev pub RunsOut : (K : Type 0) → Side → (Parties K → (old new : State K) → Outs → Type 0) → Type 0
RunsOut K side runs_out = WhereRead K side (λ p history s old new o. runs_out p old new o →
    IsSpentEnd p side history old.receiver.payload new.kept o)

-- ---- a KEXINIT, and an exchange that is completed

abbrev pub TakesKexinits : (K : Type 0) → Side → Type 0
TakesKexinits K side = (p : Parties K) (history : List Item) (s : Transport K) → SumsUp p side history s → s.dead ≡ false →
    (old new : State K) (o : Outs) → old.kept ≡ after_taken s → (facts : KexinitFacts) →
    PayloadIs s old.receiver.payload (classified.Kexinit facts) → (answer : SendOutcome) →
    KexinitDone p.crypto (agreement_of p side) side old facts answer new o →
    KexinitTurn p side history s old.receiver.payload answer new.kept o

abbrev pub DiesOfKexinits : (K : Type 0) → Side → Type 0
DiesOfKexinits K side = (p : Parties K) (history : List Item) (s : Transport K) → SumsUp p side history s → s.dead ≡ false →
    (old : State K) → old.kept ≡ after_taken s → (facts : KexinitFacts) →
    PayloadIs s old.receiver.payload (classified.Kexinit facts) → KexinitNeedsMemory (agreement_of p side) side old →
    WouldAnswer p side s old.receiver.payload

abbrev pub StandsAfterKexinits : (K : Type 0) → Side → Type 0
StandsAfterKexinits K side = (c : Crypto K) (agreement : Agreement) (old : State K) (facts : KexinitFacts) (answer : SendOutcome)
    (new : State K) (o : Outs) → IsStanding side old →
    PayloadIs (before_taken old.kept) old.receiver.payload (classified.Kexinit facts) →
    KexinitDone c agreement side old facts answer new o → Stands side new

-- from the state before NEWKEYS was sent
abbrev pub StandsAfterExchanges : (K : Type 0) → Side → Type 0
StandsAfterExchanges K side = (old new : State K) (before : Transport K) (own theirs : K) (session : List ℕ)
    (announcement : Option (List ℕ)) → before.lines ≡ old.kept.lines → before.side ≡ old.kept.side →
    before.taking ≡ old.kept.taking → before.blocked ≡ true → IsKeptLive before → IsStanding side old →
    new ≡ record old { kept = after_announced announcement (forgotten (keyed own theirs session before)) } → IsStanding side new

-- ---- the laws of the model that the last message of an exchange rests on

abbrev pub ForgetsLaw : (K : Type 0) → Type 0
ForgetsLaw K = (p : Parties K) (side : Side) (history : List Item) (s : Transport K) → s.blocked ≡ false → SumsUp p side history s →
    SumsUp p side history (forgotten s)

module _ {K : Type 0} (p : Parties K) (side : Side) (history : List Item) (s : Transport K) where
  abbrev pub EndedLaw : Type 0
  EndedLaw = (chosen : Chosen) (message : Msg) (payload : List ℕ) (last announced : List Encoded) (completed then : Transport K)
      (early late : List ℕ) → Reads s message payload → IsAwaited s chosen message →
      first_refusal (message_checks (agreement_of p side) p.trusts chosen s message) ≡ None →
      Completes p.crypto (parts_of p side) chosen s message last announced completed then → PutsPackets p.crypto s.sending last early →
      PutsPackets p.crypto completed.sending announced late →
      EndedBy p side history message payload (s.sending.epoch + 1) (items_sent (announced ++ last)) (early ++ late) then

  abbrev pub ChoiceLaw : Type 0
  ChoiceLaw = (chosen : Chosen) → s.phase ≡ Exchanging → IsChosen s chosen → choice side (epoch (sent history)) history ≡ chosen

  abbrev pub RefusedLaw : Type 0
  RefusedLaw = (payload : List ℕ) (refusal : Refusal) (said : List Encoded) (more : List ℕ) (then : Transport K) →
      IsRefused (agreement_of p side) p.trusts s payload refusal → SaysWhy p.crypto s refusal said more → then.dead ≡ true →
      Turned p side history payload (refusal_items refusal (Some payload) said) more then

  abbrev pub SpentLaw : Type 0
  SpentLaw = (chosen : Chosen) (message : Msg) (payload : List ℕ) (last announced : List Encoded) (completed then dead : Transport K)
      (owed : List Item) → Reads s message payload → IsAwaited s chosen message →
      first_refusal (message_checks (agreement_of p side) p.trusts chosen s message) ≡ None →
      Completes p.crypto (parts_of p side) chosen s message last announced completed then → AreEncoded (items_sent (announced ++ last)) →
      AreReplies (owed_replies side history) owed → AreEncoded owed → numbers_of_epoch < s.sending.count + length last →
      dead.dead ≡ true → Turned p side history payload (Died ∷ Refused NumberSpent (Some payload) ∷ []) [] dead

-- ---- what both roles stand on

-- The laws that the lifts of both roles cite, and those of the model that the last message of an exchange rests on.
pub record RoleLaws (K : Type 0) (side : Side) : Type 0 where
  pub numbers : (probing : Bool) (message : Msg) (payload : List ℕ) → IsPayload probing message payload →
      number_of payload ≡ message_number message
  pub says_message : HasEncoding (Disconnect 2 (refusal_name BadMessage) [])
  pub says_point : HasEncoding (Disconnect 3 (refusal_name BadPoint) [])
  pub says_host : HasEncoding (Disconnect 9 (refusal_name BadHost) [])
  pub unread : RefusesFor K side BadMessage (λ p. MessageRefused p.crypto)
  pub kexinits : TakesKexinits K side
  pub kexinits_die : DiesOfKexinits K side
  pub kexinits_stand : StandsAfterKexinits K side
  pub exchanges_stand : StandsAfterExchanges K side
  pub forgets : ForgetsLaw K
  pub ended : (p : Parties K) (history : List Item) (s : Transport K) → SumsUp p side history s → s.dead ≡ false →
      EndedLaw p side history s
  pub choices : (p : Parties K) (history : List Item) (s : Transport K) → SumsUp p side history s → s.dead ≡ false →
      ChoiceLaw p side history s
  pub refused : (p : Parties K) (history : List Item) (s : Transport K) → SumsUp p side history s → s.dead ≡ false →
      RefusedLaw p side history s
  pub spent : (p : Parties K) (history : List Item) (s : Transport K) → SumsUp p side history s → s.dead ≡ false →
      SpentLaw p side history s
