-- What an end does in each call that changes it: of any end, and of an end of `ssh_end`.
--     DoesWithBytes, DoesOnAsk   what is said of an end that takes bytes of its peer, and of one that is asked for something
--     TakesBytes, Performs       the same of an end of `ssh_end`
--     FeedsPair                  what that does with a cookie and a secret
--     ShowsLast                  what its last turn shows
use Rattle.std.specs.Prelude.{◌≡◌, ◌<◌, ◌≤◌, ℕ, Bool, false, List, [], length, Result, Ok, Err, IfErr, IfOk, OnErr}
use Rattle.ssh_model.specs.Protocol.Sessions.Items.{Item}
use Rattle.ssh_model.specs.Protocol.Sessions.Parties.{Parties}
use Rattle.ssh_model.specs.Protocol.Wire.Sealing.{Crypto}
use Rattle.ssh_transport.specs.declared.role.Role as exchange
use Rattle.ssh_transport_machine.specs.Padding.{PadsTo}
use Rattle.ssh_end_machine.specs.Asking.{AreAskChannels, Asks, ChannelsAsked, EndsAlone, Fails, KeepsDead, KeepsLayers, OnAnswered, ask_of}
use Rattle.ssh_end_machine.specs.Calls.{TakesStep, outs_of}
use Rattle.ssh_end_machine.specs.Ends.{EndNeedsMemory, EndValue, IsFault, sending_from, sending_to}
use Rattle.ssh_end_machine.specs.Reading.{SameReading}
use Rattle.ssh_end_machine.specs.RoleValues.{RoleValue}
use Rattle.ssh_end_machine.specs.Stands.{AsksTo, FailsTo, FeedsTo, StandsAt}
use Rattle.ssh_end_machine.specs.Steps.{Shows, shown_by}
use Rattle.ssh_end_machine.specs.Turn.{TurnShows, channels_in, payloads_in}
use Rattle.ssh_end_machine.specs.declared.asking.Ask.{Ask}
use Rattle.ssh_end_machine.specs.declared.asking.outcome.AskStep.{AskStep}
use Rattle.ssh_end_machine.specs.declared.asking.outcome.Fault.{Fault}
use Rattle.ssh_end_machine.specs.declared.asking.outcome.Fault.TheVariants as fault
use Rattle.ssh_end_machine.specs.declared.role.EndRole as role
use Rattle.ssh_end_machine.specs.declared.step.Step.TheVariants as step
use Rattle.ssh_end_machine.specs.declared.turn.Turn.{Turn}
use Rattle.divrelca.specs.Feeding.{Feeds}

-- What an end does with bytes of its peer: its value before, the bytes, the bytes that wait for the peer before and after, how many are
-- used or why none are, and its value after.
abbrev pub DoesWithBytes : (E : Type 0) → Type 1
DoesWithBytes E = E → (bytes before after : List ℕ) → (used : Result ℕ Fault) → E → Type 0

-- What it does when it is asked for something: its value before, the ask, the bytes that wait before and after, its answer, and its value
-- after.
abbrev pub DoesOnAsk : (E : Type 0) → Type 1
DoesOnAsk E = E → Ask → (before after : List ℕ) → (given : Result AskStep Fault) → E → Type 0

-- What it does with bytes of its peer, and the turn that shows it.
abbrev pub TakesTurn : {E : Type 0} → DoesWithBytes E → (Shows : E → Turn → Type 0) → E → (bytes before after : List ℕ) →
    Result Turn Fault → E → Type 0
TakesTurn takes Shows old bytes before after (Ok turn) new = takes old bytes before after (Ok turn.used) new × Shows new turn
TakesTurn takes Shows old bytes before after (Err why) new = takes old bytes before after (Err why) new

-- ---- an end of `ssh_end`

module _ {R X S F K : Type 0} (ends : role.Ghosts R X S F K) (exchanges : exchange.Ghosts X S F K) (c : Crypto K)
    (gives : F → List ℕ → F → Type 0) (old : EndValue K (RoleValue X R) F) where
  -- So many bytes were used.
  pub record TookBytes (bytes before after : List ℕ) (used : ℕ) (new : EndValue K (RoleValue X R) F) : Type 0 where
    -- How many.
    pub most : used ≤ length bytes
    pub progress : old.machine.kept.dead ≡ false → 0 < length bytes → 0 < used
    pub all : new.step ≡ step.More → used ≡ length bytes
    pub shown : new.used ≡ used
    -- What is done with them, what is put out and with which padding, and the next place of a run.
    pub advances : TakesStep ends exchanges c old bytes used before after new
    pub padded : PadsTo c gives (sending_from old before) (sending_to new after)
    -- The role stays.
    pub role_is : new.role ≡ old.role

  -- None were, for want of memory, or because the end was over before.
  pub record FailedBytes (bytes before after : List ℕ) (why : Fault) (new : EndValue K (RoleValue X R) F) : Type 0 where
    -- What is left of the end, why, and the next place of a run.
    pub failed : IsFault old.machine why new.machine
    pub dead : why ≡ fault.Dead → new.layers ≡ old.layers
    pub unchanged : KeepsDead old.filler why new.filler
    pub needs_memory : why ≡ fault.Memory → EndNeedsMemory ends exchanges c old bytes
    pub placed : (p : Parties K) (history : List Item) → StandsAt ends exchanges p history old →
        FailsTo ends exchanges p history old bytes why new
    -- Nothing is shown, and nothing is put out.
    pub none : new.step ≡ step.More
    pub unused : new.used ≡ 0
    pub unsent : new.sent ≡ []
    pub out : after ≡ before
    -- The role stays.
    pub role_is : new.role ≡ old.role

  -- The one or the other, by what is answered.
  abbrev pub TakesBytes : (bytes before after : List ℕ) → (used : Result ℕ Fault) → (new : EndValue K (RoleValue X R) F) → Type 0
  TakesBytes bytes before after (Ok used) new = TookBytes bytes before after used new
  TakesBytes bytes before after (Err why) new = FailedBytes bytes before after why new

  -- It was asked for this, once, and answered so.
  pub record Performs (asked : Ask) (before after : List ℕ) (given : Result AskStep Fault) (new : EndValue K (RoleValue X R) F) :
      Type 0 where
    -- What is done, and what is put out and with which padding.
    pub asks : Asks c (ends.signing old.role.own) old.machine old.layers (ask_of asked) given new.machine new.layers
        (outs_of before after new.sent)
    pub padded : OnAnswered given (PadsTo c gives (sending_from old before) (sending_to new after))
    pub over : IfOk given (λ step. EndsAlone old.machine asked step.refused new.machine)
    -- Nothing is taken.
    pub reading : new.machine.kept.dead ≡ false → SameReading old.machine new.machine
    pub none : new.step ≡ step.More
    pub unused : new.used ≡ 0
    -- On which channel it was sent, what the channels are then, and the next place of a run.
    pub channels : IfOk given (λ step. AreAskChannels (ask_of asked) step new.sent new.channels)
    pub asked_channels : ChannelsAsked old.layers.channels asked new.layers.channels
    pub placed : (p : Parties K) (history : List Item) → StandsAt ends exchanges p history old →
        AsksTo ends exchanges p history old (ask_of asked) given before after new
    -- If it fails. Nothing is put out.
    pub fails : IfErr given (λ why. Fails old.machine why new.machine)
    pub unchanged : IfErr given (λ why. KeepsDead old.filler why new.filler)
    pub layers : IfErr given (λ why. KeepsLayers old.layers why new.layers)
    pub unsent : OnErr given (new.sent ≡ [])
    pub out : OnErr given (after ≡ before)
    -- The role stays.
    pub role_is : new.role ≡ old.role

  -- It keeps this pair of cookie and secret, or none. Nothing but its machine changes. This is the next place of a run.
  pub record FeedsPair (cookie secret : List ℕ) (is_taken : Bool) (new : EndValue K (RoleValue X R) F) : Type 0 where
    pub fed : Feeds old.machine cookie secret is_taken new.machine
    pub rest : new ≡ record old { machine = new.machine }
    pub placed : (p : Parties K) (history : List Item) → StandsAt ends exchanges p history old →
        FeedsTo ends exchanges p history cookie secret is_taken new

-- The turn shows what the end did last. If no line or packet is complete yet, it shows nothing.
pub record ShowsLast {K R F : Type 0} (end : EndValue K R F) (turn : Turn) : Type 0 where
  pub shows : (items : List Item) → Shows (shown_by end.step end.machine) end.step items → TurnShows turn items
  pub quiet : end.step ≡ step.More → TurnShows turn []
  pub used : turn.used ≡ end.used
  pub sent : payloads_in turn.sent ≡ end.sent
  pub sent_on : channels_in turn.sent ≡ end.channels
