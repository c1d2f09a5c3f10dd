-- The answers of the calls that show the turns of an end.
use Rattle.std.specs.Prelude.{◌≡◌, ◌++◌, ℕ, false, Option, None, List, [], length, take, Result, Ok, Err, IfErr, IfOk, OnErr}
use Rattle.std.specs.Option.{option_map}
use Rattle.ssh_model.specs.Protocol.Sessions.Items.{Fact.Opening, Item}
use Rattle.ssh_model.specs.Protocol.Sessions.Parties.{Parties}
use Rattle.ssh_model.specs.Protocol.Wire.Sealing.{Crypto}
use Rattle.ssh_transport.specs.declared.role.Role as exchange
use Rattle.ssh_transport_machine.specs.Padding.{PadsTo}
use Rattle.ssh_transport_machine.specs.Puts.{Outs}
use Rattle.ssh_transport_machine.specs.State.{buffered_of}
use Rattle.ssh_end_machine.specs.Asking.{AreAskChannels, Asks, ChannelsAsked, EndsAlone, Fails, KeepsDead, KeepsLayers, OnAnswered, ask_of}
use Rattle.ssh_end_machine.specs.WithChannels.{channels_by}
use Rattle.ssh_end_machine.specs.Ends.{EndValue, IsFault, sending_from, sending_to}
use Rattle.ssh_end_machine.specs.RoleValues.{RoleValue}
use Rattle.ssh_end_machine.specs.Reading.{SameReading}
use Rattle.ssh_end_machine.specs.Stands.{TakesTo, FailsTo, AsksTo, StandsAt}
use Rattle.ssh_end_machine.specs.Steps.{Shows, shown_by}
use Rattle.ssh_end_machine.specs.Told.{told_of}
use Rattle.ssh_end_machine.specs.Turn.{TurnShows, channels_in, payloads_in}
use Rattle.ssh_end_machine.specs.Units.{UnitHandled}
use Rattle.ssh_end_machine.specs.declared.asking.Ask.{Ask}
use Rattle.ssh_end_machine.specs.declared.asking.outcome.AskStep.{AskStep}
use Rattle.ssh_end_machine.specs.declared.asking.outcome.Fault.{Fault}
use Rattle.ssh_end_machine.specs.declared.asking.outcome.Fault.TheVariants as fault
use Rattle.ssh_end_machine.specs.declared.role.EndRole as role
use Rattle.ssh_end_machine.specs.declared.step.Step.{Step}
use Rattle.ssh_end_machine.specs.declared.step.Step.TheVariants as step
use Rattle.ssh_end_machine.specs.declared.turn.Turn.{Turn}

-- ---- bytes of the peer

-- the bytes put out and the payloads listed, if none were listed before
abbrev pub outs_of : (before after : List ℕ) → (sent : List (List ℕ)) → Outs
outs_of before after sent = record { before = before; after = after; payloads_before = []; payloads_after = sent }

-- So many bytes were used, and this was done with them. From each place of a run the end was taken to the next.
pub record TakesStep {R X S F K : Type 0} (ends : role.Ghosts R X S F K) (exchanges : exchange.Ghosts X S F K)
    (c : Crypto K) (old : EndValue K (RoleValue X R) F) (bytes : List ℕ) (used : ℕ) (before after : List ℕ)
    (new : EndValue K (RoleValue X R) F) : Type 0 where
  pub goes : UnitHandled c exchanges.SIDE (exchanges.does old.role.exchange) (ends.judging old.role.own)
      old.machine old.layers (buffered_of old.machine ++ take used bytes) new.step new.machine new.layers
      (record { before = before; after = after; payloads_before = []; payloads_after = new.sent })
  pub channels : new.channels ≡ channels_by new.step old.layers.channels.owed new.sent
  pub placed : (p : Parties K) (history : List Item) → StandsAt ends exchanges p history old →
      TakesTo ends exchanges p history old bytes used before after new

-- The turn shows what was done with a step, whose packet has this payload, or whose line this text.
pub record ShowsTurn (payload : List ℕ) (given : Step) (payloads : List (List ℕ)) (channels : List (Option ℕ)) (bytes : List ℕ)
    (turn : Turn) : Type 0 where
  pub shows : (items : List Item) → Shows payload given items → TurnShows turn items
  pub quiet : given ≡ step.More → TurnShows turn []
  pub more : given ≡ step.More → turn.used ≡ length bytes
  pub sent : payloads_in turn.sent ≡ payloads
  pub sent_on : channels_in turn.sent ≡ channels

-- An end made of these bytes what the turn shows.
pub record EndTook {R X S F K : Type 0} (ends : role.Ghosts R X S F K) (exchanges : exchange.Ghosts X S F K)
    (c : Crypto K) (gives : F → List ℕ → F → Type 0) (old : EndValue K (RoleValue X R) F) (bytes before after : List ℕ)
    (turn : Turn)
    (new : EndValue K (RoleValue X R) F) : Type 0 where
  pub padded : PadsTo c gives (sending_from old before) (sending_to new after)
  pub advances : TakesStep ends exchanges c old bytes turn.used before after new
  pub shows : ShowsTurn (shown_by new.step new.machine) new.step new.sent new.channels bytes turn
  pub used : new.used ≡ turn.used
  pub same : new.role ≡ old.role

-- It did nothing for want of memory, or was over before.
pub record EndFailed {R X S F K : Type 0} (ends : role.Ghosts R X S F K) (exchanges : exchange.Ghosts X S F K)
    (old : EndValue K (RoleValue X R) F) (bytes : List ℕ) (given : Fault) (new : EndValue K (RoleValue X R) F) : Type 0 where
  pub failed : IsFault old.machine given new.machine
  pub dead : given ≡ fault.Dead → new.layers ≡ old.layers
  pub unchanged : KeepsDead old.filler given new.filler
  pub none : new.step ≡ step.More
  pub unused : new.used ≡ 0
  pub unsent : new.sent ≡ []
  pub same : new.role ≡ old.role
  pub placed : (p : Parties K) (history : List Item) → StandsAt ends exchanges p history old →
      FailsTo ends exchanges p history old bytes given new

-- the answer of an end for these bytes, and the bytes that are left
abbrev pub EndTakes : {R X S F K : Type 0} → role.Ghosts R X S F K → exchange.Ghosts X S F K → Crypto K →
    (F → List ℕ → F → Type 0) → EndValue K (RoleValue X R) F → (bytes before after : List ℕ) → Result Turn Fault →
    EndValue K (RoleValue X R) F → Type 0
EndTakes ends exchanges c gives old bytes before after (Ok turn) new =
    EndTook ends exchanges c gives old bytes before after turn new
EndTakes ends exchanges c gives old bytes before after (Err fault) new = EndFailed ends exchanges old bytes fault new

-- ---- asks

-- The turn shows the effect of an ask.
pub record ShowsStep (given : AskStep) (payloads : List (List ℕ)) (channels : List (Option ℕ)) (turn : Turn) : Type 0 where
  pub used : turn.used ≡ 0
  pub took : turn.took ≡ None
  pub told : option_map told_of turn.told ≡ option_map Opening given.opening
  pub refused : turn.refused ≡ given.refused
  pub sent : payloads_in turn.sent ≡ payloads
  pub sent_on : channels_in turn.sent ≡ channels

-- the answer of an ask, by its result
abbrev pub ShowsAnswer : Result AskStep Fault → (sent : List (List ℕ)) → (channels : List (Option ℕ)) →
    Result Turn Fault → Type 0
ShowsAnswer (Ok given) sent channels (Ok turn) = ShowsStep given sent channels turn
ShowsAnswer (Err fault) sent channels (Err shown) = shown ≡ fault
ShowsAnswer _ sent channels _ = ⊥

-- An end did on an ask what its role does, and answered so. From each place of a run it was taken to the next.
pub record EndAsked {R X S F K : Type 0} (ends : role.Ghosts R X S F K) (exchanges : exchange.Ghosts X S F K)
    (c : Crypto K) (gives : F → List ℕ → F → Type 0) (old : EndValue K (RoleValue X R) F) (asked : Ask) (before after : List ℕ)
    (result : Result Turn Fault) (new : EndValue K (RoleValue X R) F) : Type 0 where
  pub given : Result AskStep Fault
  pub padded : OnAnswered given (PadsTo c gives (sending_from old before) (sending_to new after))
  pub shows : ShowsAnswer given new.sent new.channels result
  pub channels : IfOk given (λ step. AreAskChannels (ask_of asked) step new.sent new.channels)
  pub asks : Asks c (ends.signing old.role.own) old.machine old.layers (ask_of asked) given new.machine new.layers
      (outs_of before after new.sent)
  pub over : IfOk given (λ step. EndsAlone old.machine asked step.refused new.machine)
  pub none : new.step ≡ step.More
  pub unused : new.used ≡ 0
  pub fails : IfErr given (λ fault. Fails old.machine fault new.machine)
  pub unchanged : IfErr given (λ fault. KeepsDead old.filler fault new.filler)
  pub layers : IfErr given (λ fault. KeepsLayers old.layers fault new.layers)
  pub asked_channels : ChannelsAsked old.layers.channels asked new.layers.channels
  pub unsent : OnErr given (new.sent ≡ [])
  pub reading : new.machine.kept.dead ≡ false → SameReading old.machine new.machine
  pub same : new.role ≡ old.role
  pub placed : (p : Parties K) (history : List Item) → StandsAt ends exchanges p history old →
      AsksTo ends exchanges p history old (ask_of asked) given before after new
