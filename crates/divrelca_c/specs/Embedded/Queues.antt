-- The asks that wait until an end can do them.
use Rattle.std.specs.Prelude.{◌≡◌, ◌++◌, ℕ, Bool, true, false, not, nat_eq, List, [], ◌∷◌, Option, Some, None, Result, Err}
use Rattle.divrelca.specs.Unknown.{default_answer_of}
use Rattle.ssh_model.specs.Protocol.Sessions.Items as session
use Rattle.ssh_model.specs.Protocol.Sessions.Items.{Item}
use Rattle.ssh_model.specs.declared.ask_refusal.AskRefusal.{AskRefusal}
use Rattle.ssh_model.specs.declared.ask_refusal.AskRefusal.TheVariants as refusal
use Rattle.ssh_end_machine.specs.Asking.{ask_of}
use Rattle.ssh_end_machine.specs.Steps.{Shows}
use Rattle.ssh_end_machine.specs.Told.{told_of}
use Rattle.ssh_end_machine.specs.Turn.{TurnShows}
use Rattle.ssh_end_machine.specs.declared.asking.Ask.{Ask}
use Rattle.ssh_end_machine.specs.declared.asking.outcome.AskStep.{AskStep}
use Rattle.ssh_end_machine.specs.declared.asking.outcome.Fault.{Fault}
use Rattle.ssh_end_machine.specs.declared.asking.outcome.Fault.TheVariants as fault
use Rattle.ssh_end_machine.specs.declared.step.Step.{Step}
use Rattle.ssh_end_machine.specs.declared.step.Step.TheVariants as step
use Rattle.ssh_end_machine.specs.declared.told.Told.{Told}
use Rattle.ssh_end_machine.specs.declared.turn.Turn.{Turn}
use Rattle.divrelca_c.specs.Embedded.Flows.{FlowCounts, begun_on, due_on, finished, given_back}
use Rattle.divrelca_c.specs.Embedded.Forms.{form_asks, form_of}
use Rattle.divrelca_c.specs.Embedded.Performing.{IsMade}
use Rattle.divrelca_c.specs.declared.embedded.ask_form.AskForm.{AskForm}
use Rattle.divrelca_c.specs.declared.embedded.waiting.Queued.{Queued}
use Rattle.divrelca_c.specs.declared.embedded.waiting.Waiting.{Waiting}
use Rattle.divrelca_c.specs.declared.embedded.waiting.Waiting.TheVariants as waiting

-- what an ask that waits asks of an end whose user has this key
abbrev pub asked_by : Waiting → (key : Option (List ℕ)) → Option session.Ask
asked_by (waiting.Form kept) key = form_asks (form_of kept) key
asked_by (waiting.Known asked) key = Some (ask_of asked)

-- ---- for which channel an ask waits

-- the channel that an ask is about, if it is about one
abbrev pub channel_in : session.Ask → Option ℕ
channel_in (session.Ask.AskConfirm channel window most rest) = Some channel
channel_in (session.Ask.AskRefuse channel reason) = Some channel
channel_in (session.Ask.AskData channel kind body) = Some channel
channel_in (session.Ask.AskAdjust channel bytes) = Some channel
channel_in (session.Ask.AskEof channel) = Some channel
channel_in (session.Ask.AskClose channel) = Some channel
channel_in (session.Ask.AskRequest channel name want rest) = Some channel
channel_in (session.Ask.AskReply channel success) = Some channel
channel_in _ = None

-- the same where it may be no ask, and of what waits, which does not depend on the user's key
abbrev pub channel_by : Option session.Ask → Option ℕ
channel_by None = None
channel_by (Some asked) = channel_in asked

abbrev pub about : Waiting → Option ℕ
about ask = channel_by (asked_by ask None)

-- an ask as it is put into the queue, over this account: with how many channels began at its number
abbrev pub put_in : Waiting → List FlowCounts → Queued
put_in ask flows = record { ask = ask; begun = begun_on flows (about ask) }

-- Another channel began at its number since then, so that the one for which it waits is over.
abbrev pub is_past : Queued → List FlowCounts → Bool
is_past queued flows = not (nat_eq queued.begun (begun_on flows (about queued.ask)))

-- ---- what becomes of it

-- whether an ask came too early
abbrev pub is_early : Result AskStep Fault → Bool
is_early (Err (fault.Ask refusal.NotYet)) = true
is_early (Err (fault.Ask refusal.Busy)) = true
is_early (Err (fault.Ask refusal.RekeyDue)) = true
is_early _ = false

-- It was done, if it is an ask, and if the channel for which it waits has its number still. Else this is left, with the refusal for it.
abbrev pub IsMadeFor : (past : Bool) → Option session.Ask → (Does : Ask → Type 0) → (Left : AskRefusal → Type 0) → Type 0
IsMadeFor true asked Does Left = Left refusal.NoChannel
IsMadeFor false asked Does Left = IsMade asked Does (Left refusal.WrongSide)

-- The same of the oldest of the asks that wait, by this account.
abbrev pub IsOldestMade : List Queued → List FlowCounts → (key : Option (List ℕ)) → (Does : Ask → Type 0) → (Left : AskRefusal → Type 0) →
    Type 0
IsOldestMade [] flows key Does Left = ⊥
IsOldestMade (oldest ∷ others) flows key Does Left = IsMadeFor (is_past oldest flows) (asked_by oldest.ask key) Does Left

-- What waits asks for what this form asks for, whichever key the user has.
pub record IsCopyOf (form : AskForm) (ask : Waiting) : Type 0 where
  pub asks : (key : Option (List ℕ)) → asked_by ask key ≡ form_asks form key

-- A copy of the form waits after those that waited, for the channel that has its number by this account.
pub record IsQueued (form : AskForm) (flows : List FlowCounts) (old new : List Queued) : Type 0 where
  pub ask : Waiting
  pub copy : IsCopyOf form ask
  pub last : new ≡ old ++ put_in ask flows ∷ []

-- ---- the answer to what a turn shows

-- the answer that is owed, if one is
abbrev pub answer_to : Option Told → Option session.Ask
answer_to None = None
answer_to (Some given) = default_answer_of (told_of given)

-- An ask for just this waits after those that waited, for the channel that has its number by this account.
pub record IsLast (asked : session.Ask) (flows : List FlowCounts) (old new : List Queued) : Type 0 where
  pub ask : Ask
  pub is : ask_of ask ≡ asked
  pub last : new ≡ old ++ put_in (waiting.Known ask) flows ∷ []

-- The ask waits after those that waited, where there is one.
abbrev pub IsPut : Option session.Ask → List FlowCounts → (old new : List Queued) → Type 0
IsPut None flows old new = new ≡ old
IsPut (Some asked) flows old new = IsLast asked flows old new

-- The same, unless memory is refused for it. Where there is none, no memory is asked for.
abbrev pub PutsUnless : (refused : Bool) → Option session.Ask → List FlowCounts → (old new : List Queued) → Type 0
PutsUnless false asked flows old new = IsPut asked flows old new
PutsUnless true None flows old new = ⊥
PutsUnless true (Some asked) flows old new = new ≡ old

-- It is owed for what a turn shows of this step. Where no line or packet is whole yet, that is nothing.
pub record IsOwed (payload : List ℕ) (given : Step) (answer : Option session.Ask) : Type 0 where
  pub turn : Turn
  pub shows : (items : List Item) → Shows payload given items → TurnShows turn items
  pub quiet : given ≡ step.More → TurnShows turn []
  pub is : answer ≡ answer_to turn.told

-- What a turn shows of this step gets the answer that is owed for it, unless memory is refused.
pub record IsDeclined (payload : List ℕ) (given : Step) (refused : Bool) (flows : List FlowCounts) (old new : List Queued) : Type 0 where
  pub answer : Option session.Ask
  pub owed : IsOwed payload given answer
  pub put : PutsUnless refused answer flows old new

-- ---- what is given back of a window

-- the ask for that
abbrev pub giving_back : (channel : ℕ) → (due : Option ℕ) → Option session.Ask
giving_back channel None = None
giving_back channel (Some bytes) = Some (session.Ask.AskAdjust channel bytes)

-- the account where that waits
abbrev pub left_by : (refused : Bool) → (due : Option ℕ) → (channel : ℕ) → List FlowCounts → List FlowCounts
left_by false (Some bytes) channel flows = given_back channel flows
left_by refused due channel flows = flows

-- So many bytes are done with on the channel. What is due then is asked for after the asks that waited, and counts as given back, unless
-- memory is refused.
pub record GivesBack (channel bytes : ℕ) (flows : List FlowCounts) (refused : Bool) (old new : List Queued) (later : List FlowCounts) :
    Type 0 where
  pub put : PutsUnless refused (giving_back channel (due_on (finished channel bytes flows) channel)) (finished channel bytes flows) old new
  pub flows_are : later ≡ left_by refused (due_on (finished channel bytes flows) channel) channel (finished channel bytes flows)
