-- What is done with bytes of the peer: by the end, and in what is kept besides it.
use Rattle.std.specs.Prelude.{◌≡◌, ◌++◌, ◌||◌, ℕ, true, false, List, Result, Ok, Err}
use Rattle.ssh_model.specs.Protocol.Sessions.Items.{Item}
use Rattle.ssh_model.specs.Protocol.Wire.Sealing.{Crypto}
use Rattle.ssh_transport.specs.declared.role.Role as exchange
use Rattle.ssh_end_machine.specs.Steps.{Shows, shown_by}
use Rattle.ssh_end_machine.specs.Turn.{fact_in}
use Rattle.ssh_end_machine.specs.declared.asking.outcome.Fault.{Fault}
use Rattle.ssh_end_machine.specs.declared.role.EndRole as role
use Rattle.ssh_end_machine.specs.declared.step.Step.TheVariants as step
use Rattle.divrelca.specs.Ends.{FailedBytes, TookBytes}
use Rattle.divrelca_c.specs.Embedded.Asked.{AreNoted, is_asked_among, is_noted}
use Rattle.divrelca_c.specs.Embedded.Flows.{flows_of, heard}
use Rattle.divrelca_c.specs.declared.embedded.flows.Flows.{Flows}
use Rattle.divrelca_c.specs.declared.embedded.noted.Noted.{Noted}
use Rattle.divrelca_c.specs.declared.embedded.state.Embedded.{Embedded}

-- Each user whose key or password the items ask for is noted, and whoever was noted is. Nobody else is, unless memory was refused for a
-- name. The account of the windows follows what the items tell.
pub record Hears (items : List Item) (old new : Noted) (flows later : Flows) : Type 0 where
  pub noted : (history : List Item) → AreNoted history old → AreNoted (items ++ history) new
  pub kept : (user : List ℕ) → is_noted user old ≡ true → is_noted user new ≡ true
  pub noted_only : new.all ≡ false → (user : List ℕ) → is_noted user new ≡ true → (is_noted user old || is_asked_among user items) ≡ true
  pub flows_are : flows_of later ≡ heard (fact_in items) (flows_of flows)

module _ {R X S F K : Type 0} (ends : role.Ghosts R X S F K) (exchanges : exchange.Ghosts X S F K) (c : Crypto K)
    (gives : F → List ℕ → F → Type 0) (old : Embedded R X S F K) (bytes : List ℕ) where
  -- So many bytes were used.
  pub record TookStep (used : ℕ) (new : Embedded R X S F K) : Type 0 where
    pub took : TookBytes ends exchanges c gives old.end bytes old.out.items new.out.items used new.end
    -- What is kept besides the end. Where no line or packet is whole yet, that stays.
    pub hears : (items : List Item) → Shows (shown_by new.end.step new.end.machine) new.end.step items →
        Hears items old.noted new.noted old.flows new.flows
    pub unnoted : new.end.step ≡ step.More → new.noted ≡ old.noted
    pub unheard : new.end.step ≡ step.More → new.flows ≡ old.flows
    -- What stays.
    pub same : new ≡ record old { end = new.end; out = new.out; flows = new.flows; noted = new.noted }

  -- None were, for want of memory, or since the end was over before.
  pub record FailedStep (why : Fault) (new : Embedded R X S F K) : Type 0 where
    pub failed : FailedBytes ends exchanges c gives old.end bytes old.out.items new.out.items why new.end
    pub same : new ≡ record old { end = new.end; out = new.out }

  -- what is done, by what is answered
  abbrev pub TakesStep : Result ℕ Fault → (new : Embedded R X S F K) → Type 0
  TakesStep (Ok used) new = TookStep used new
  TakesStep (Err why) new = FailedStep why new
