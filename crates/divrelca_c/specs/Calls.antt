-- What the calls on an end do, whichever role it has.
--     Writes               bytes for the peer were written
--     DecidesLater         the program answers in its own time
--     Feeds                a fresh pair of cookie and secret is handed in
--     Tells                a question is answered, and nothing changes
--     is_due               what is asked
--     AsksNow, Works       an ask is done now: one that is passed, or the oldest that waits
--     Queues               an ask is put after those that wait
--     Declines, Consumes   what is owed to the peer, or is given back to it
--     Sends                data is sent
use Rattle.std.specs.Prelude.{◌≡◌, ◌+◌, ◌<◌, ◌≤◌, ℕ, ℤ, Bool, true, false, pos, negsuc, List, [], Option, Some, None, Result, if◌then◌else◌}
use Rattle.std.specs.Prelude.{drop, is_some, length, nat_eq, nat_le}
use Rattle.std.specs.VecDeque.{deque_capacity, deque_len}
use Rattle.ssh_model.specs.Protocol.Sessions.Items.{Item}
use Rattle.ssh_model.specs.Protocol.Sessions.Parties.{Parties}
use Rattle.ssh_model.specs.Protocol.Wire.Sealing.{Crypto}
use Rattle.ssh_model.specs.State.TransportLayer.Kept.{after_fed, can_be_fed}
use Rattle.ssh_transport.specs.declared.role.Role as exchange
use Rattle.ssh_transport_machine.specs.Padding.{PadsTo}
use Rattle.ssh_transport_machine.specs.State.{line_taken}
use Rattle.ssh_end_machine.specs.Ends.{sending_from, sending_to}
use Rattle.ssh_end_machine.specs.Stands.{FeedsTo, StandsAt}
use Rattle.ssh_end_machine.specs.Steps.{shown_by}
use Rattle.ssh_end_machine.specs.declared.asking.outcome.Fault.{Fault}
use Rattle.ssh_end_machine.specs.declared.role.EndRole as role
use Rattle.divrelca_c.specs.Embedded.Flows.{flows_of}
use Rattle.divrelca_c.specs.Embedded.Forms.{fault_of, form_asks}
use Rattle.divrelca_c.specs.Embedded.Output.{waiting_of}
use Rattle.divrelca_c.specs.Embedded.Padding.{PadsOn}
use Rattle.divrelca_c.specs.Embedded.Performing.{Acts, IsLeft, acting_of}
use Rattle.divrelca_c.specs.Embedded.Queues.{GivesBack, IsDeclined, IsQueued}
use Rattle.divrelca_c.specs.Embedded.Sending.{SendsData}
use Rattle.divrelca_c.specs.Embedded.Deciding.{is_open}
use Rattle.divrelca_c.specs.declared.embedded.ask_form.AskForm.{AskForm}
use Rattle.divrelca_c.specs.declared.embedded.state.Embedded.{Embedded}
use Rattle.divrelca_c.specs.Asks.{IsAnswered, IsWorked}
use Rattle.divrelca_c.specs.Codes.{code_sent, count_in, form_code, memory_code}

-- This is the answer, and what was asked about is as it was.
pub record Tells {A E : Type 0} (told : A) (answer : A) (old new : E) : Type 0 where
  pub is : answer ≡ told
  pub same : new ≡ old

-- An exchange of keys is due.
abbrev pub is_due : {R X S F K : Type 0} → Embedded R X S F K → Bool
is_due of = nat_le of.end.machine.kept.settings.epoch_limit of.end.machine.kept.sending.count

-- The padding of all that was put out is what the filler gave.
abbrev pub Pads : {R X S F K : Type 0} → Crypto K → (F → List ℕ → F → Type 0) → (old new : Embedded R X S F K) → Type 0
Pads c gives old new = PadsTo c gives (sending_from old.end old.out.items) (sending_to new.end new.out.items)

-- The same where a call may do nothing.
abbrev pub Chains : {R X S F K : Type 0} → Crypto K → (F → List ℕ → F → Type 0) → (old new : Embedded R X S F K) → Type 0
Chains c gives old new = PadsOn c gives old.end old.out.items new.end new.out.items

-- ---- what needs nothing of a role

-- The first of the bytes that waited are written, and no more than half of what is kept is.
pub record Writes {R X S F K : Type 0} (old : Embedded R X S F K) (count : ℕ) (new : Embedded R X S F K) : Type 0 where
  pub waits : waiting_of new ≡ drop count (waiting_of old)
  pub half : new.gone + new.gone ≤ length new.out.items
  pub same : new ≡ record old { out = new.out; gone = new.gone }

-- From here on the end looks at packets ahead. Once a line of the peer was taken it does not begin to.
pub record DecidesLater {R X S F K : Type 0} (old : Embedded R X S F K) (code : ℤ) (new : Embedded R X S F K) : Type 0 where
  pub looks : code ≡ pos 0 → is_some new.ahead ≡ true
  pub shut : code ≡ pos 0 → is_open new.ahead ≡ false
  pub late : is_some (line_taken old.end.machine.kept.lines) ≡ true → code ≡ pos 312
  pub early : is_some (line_taken old.end.machine.kept.lines) ≡ false → (code ≡ pos 0 → ⊥) → code ≡ negsuc 0
  pub unchanged : (code ≡ pos 0 → ⊥) → new ≡ old
  pub same : new ≡ record old { ahead = new.ahead }

-- A copy of the form is put after the asks that wait, or they are as before. Where the form is no ask, the code says why.
pub record Queues {R X S F K : Type 0} (old : Embedded R X S F K) (form : AskForm) (code : ℤ) (new : Embedded R X S F K) :
    Type 0 where
  pub put : code ≡ pos 0 → IsQueued form (flows_of old.flows) old.waiting.items new.waiting.items
  pub kept : (code ≡ pos 0 → ⊥) → new.waiting.items ≡ old.waiting.items
  pub none : form_asks form old.key ≡ None → code ≡ form_code (fault_of form)
  pub memory : (form_asks form old.key ≡ None → ⊥) → (code ≡ pos 0 → ⊥) → code ≡ negsuc 0
  pub same : new ≡ record old { waiting = new.waiting }

-- The answer that is owed for the last step, where one is, is put after the asks that wait, unless memory is refused to a full queue.
pub record Declines {R X S F K : Type 0} (old : Embedded R X S F K) (code : ℤ) (new : Embedded R X S F K) : Type 0 where
  pub refused : Bool
  pub declined : IsDeclined (shown_by old.end.step old.end.machine) old.end.step refused (flows_of old.flows) old.waiting.items
      new.waiting.items
  pub code_is : code ≡ memory_code refused
  pub full : refused ≡ true → deque_capacity old.waiting ≤ deque_len old.waiting
  pub same : new ≡ record old { waiting = new.waiting }

-- What is due on a channel, of which there is one with this number, is put there, unless memory is refused to a full queue.
pub record GivesDue {R X S F K : Type 0} (channel bytes : ℕ) (old : Embedded R X S F K) (code : ℤ) (new : Embedded R X S F K) :
    Type 0 where
  pub refused : Bool
  pub gives : GivesBack channel bytes (flows_of old.flows) refused old.waiting.items new.waiting.items (flows_of new.flows)
  pub code_is : code ≡ memory_code refused
  pub full : refused ≡ true → deque_capacity old.waiting ≤ deque_len old.waiting

-- So many bytes are done with on a channel. A number of none is refused.
pub record Consumes {R X S F K : Type 0} (channel bytes : ℕ) (old : Embedded R X S F K) (code : ℤ) (new : Embedded R X S F K) :
    Type 0 where
  pub unknown : length (flows_of old.flows) ≤ channel → code ≡ pos 3
  pub unchanged : length (flows_of old.flows) ≤ channel → new ≡ old
  pub given : channel < length (flows_of old.flows) → GivesDue channel bytes old code new
  pub same : new ≡ record old { waiting = new.waiting; flows = new.flows }

-- ---- what an end of a role does

-- 0 is data, and any other number extended data of that kind
abbrev pub kind_of : (stream : ℕ) → Option ℕ
kind_of stream = if nat_eq stream 0 then None else Some stream

module _ {R X S F K : Type 0} (ends : role.Ghosts R X S F K) (exchanges : exchange.Ghosts X S F K) (c : Crypto K)
    (gives : F → List ℕ → F → Type 0) where
  -- The pair is kept where one can be, and nothing changes where none can be.
  pub record Feeds (old : Embedded R X S F K) (cookie secret : List ℕ) (answer : Bool) (new : Embedded R X S F K) : Type 0 where
    pub fed : answer ≡ can_be_fed old.end.machine.kept
    pub kept : answer ≡ true → new.end.machine ≡ record old.end.machine { kept = after_fed cookie secret old.end.machine.kept }
    pub rest : new.end ≡ record old.end { machine = new.end.machine }
    pub unchanged : answer ≡ false → new ≡ old
    pub placed : (p : Parties K) (history : List Item) → StandsAt ends exchanges p history old.end →
        FeedsTo ends exchanges p history cookie secret answer new.end
    pub same : new ≡ record old { end = new.end }

  -- What the form asks for is done now, and answered so. Where it is no ask, nothing changes, and the code says why.
  pub record AsksNow (old : Embedded R X S F K) (form : AskForm) (code : ℤ) (before after : ℕ) (new : Embedded R X S F K) : Type 0 where
    pub asked : (form_asks form old.key ≡ None → ⊥) →
        IsAnswered (form_asks form old.key) (λ asked given.
        Acts ends exchanges c gives (acting_of old) asked given (acting_of new)) code before after
    pub padded : code ≡ pos 0 → Pads c gives old new
    pub chains : (code ≡ negsuc 0 → ⊥) → (code ≡ negsuc 1 → ⊥) → Chains c gives old new
    pub unasked : form_asks form old.key ≡ None → new ≡ old
    pub none : form_asks form old.key ≡ None → code ≡ form_code (fault_of form)
    pub channel : form_asks form old.key ≡ None → after ≡ before
    pub same : new ≡ record old { end = new.end; out = new.out; flows = new.flows }

  -- The oldest of the asks that wait is done, and answered so. Where none waits, nothing changes.
  pub record Works (old : Embedded R X S F K) (code : ℤ) (before after : ℕ) (new : Embedded R X S F K) : Type 0 where
    pub worked : (old.waiting.items ≡ [] → ⊥) →
        IsWorked old.waiting.items (flows_of old.flows) old.key (λ asked given.
        Acts ends exchanges c gives (acting_of old) asked given (acting_of new)) (λ given. IsLeft (acting_of old) given (acting_of new))
        new.waiting.items code before after
    pub padded : code ≡ pos 0 → Pads c gives old new
    pub chains : (code ≡ negsuc 0 → ⊥) → (code ≡ negsuc 1 → ⊥) → Chains c gives old new
    pub none : old.waiting.items ≡ [] → code ≡ pos 308
    pub unchanged : old.waiting.items ≡ [] → new ≡ old
    pub channel : old.waiting.items ≡ [] → after ≡ before
    pub same : new ≡ record old { end = new.end; out = new.out; waiting = new.waiting; flows = new.flows }

  -- So many bytes of data as fit are sent in one packet, and this is what C is answered for it.
  pub record Sends (old : Embedded R X S F K) (channel stream : ℕ) (body : List ℕ) (count : ℕ) (code : ℤ) (new : Embedded R X S F K) :
      Type 0 where
    pub given : Result ℕ Fault
    pub sends : SendsData ends exchanges c gives old channel (kind_of stream) body given new
    pub code_is : code ≡ code_sent given
    pub count_is : count ≡ count_in given
    pub padded : code ≡ pos 0 → 0 < count → Pads c gives old new
    pub chains : (code ≡ negsuc 0 → ⊥) → (code ≡ negsuc 1 → ⊥) → Chains c gives old new
