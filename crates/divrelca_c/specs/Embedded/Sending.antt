-- What is done where data is to be sent on a channel.
use Rattle.std.specs.Prelude.{◌≡◌, ◌<◌, ℕ, List, length, take, Option, Some, None, Result, Ok, Err}
use Rattle.ssh_model.specs.Protocol.Sessions.Items as session
use Rattle.ssh_model.specs.Protocol.Wire.Sealing.{Crypto}
use Rattle.ssh_model.specs.declared.ask_refusal.AskRefusal.TheVariants as refusal
use Rattle.ssh_model.specs.declared.refusal.Refusal.{Refusal}
use Rattle.ssh_transport.specs.declared.role.Role as exchange
use Rattle.ssh_end_machine.specs.declared.asking.outcome.AskStep.{AskStep}
use Rattle.ssh_end_machine.specs.declared.asking.outcome.Fault.{Fault}
use Rattle.ssh_end_machine.specs.declared.asking.outcome.Fault.TheVariants as fault
use Rattle.ssh_end_machine.specs.declared.role.EndRole as role
use Rattle.divrelca_c.specs.Embedded.Performing.{Acts, IsDoneOn, acting_of}
use Rattle.divrelca_c.specs.Embedded.Windows.{fitting, window_on}
use Rattle.divrelca_c.specs.declared.embedded.state.Embedded.{Embedded}

-- how many were sent of those that fit, by whether a number was left for them
abbrev pub sent_of : (count : ℕ) → Option Refusal → Result ℕ Fault
sent_of count None = Ok count
sent_of count (Some why) = Err fault.Dead

-- the same by what the ask for them answers
abbrev pub count_sent : (count : ℕ) → Result AskStep Fault → Result ℕ Fault
count_sent count (Ok given) = sent_of count given.refused
count_sent count (Err why) = Err why

module _ {R X S F K : Type 0} (ends : role.Ghosts R X S F K) (exchanges : exchange.Ghosts X S F K) (c : Crypto K)
    (gives : F → List ℕ → F → Type 0) (old : Embedded R X S F K) (channel : ℕ) (kind : Option ℕ) (body : List ℕ) where
  -- The end is asked to send the first of these bytes, so many as fit into one packet, and answers so.
  pub record SendsFirst (count : ℕ) (result : Result ℕ Fault) (new : Embedded R X S F K) : Type 0 where
    pub given : Result AskStep Fault
    pub done : IsDoneOn (session.Ask.AskData channel kind (take count body)) (λ asked.
        Acts ends exchanges c gives (acting_of old) asked given (acting_of new))
    pub result_is : result ≡ count_sent count given

  -- Where the channel is not confirmed that is refused, and where nothing fits nothing is done. Else what fits is asked for.
  pub record SendsData (result : Result ℕ Fault) (new : Embedded R X S F K) : Type 0 where
    pub unconfirmed : window_on old channel ≡ None → result ≡ Err (fault.Ask refusal.NoChannel)
    pub full : (window_on old channel ≡ None → ⊥) → fitting old channel (length body) ≡ 0 → result ≡ Ok 0
    pub unchanged : fitting old channel (length body) ≡ 0 → new ≡ old
    pub sends : 0 < fitting old channel (length body) → SendsFirst (fitting old channel (length body)) result new
    pub same : new ≡ record old { end = new.end; out = new.out; flows = new.flows }
